-- What a call answers: its number, or why it refuses. Assumes nothing.
use Rattle.std.specs.Prelude.{◌≡◌, ℕ, cond, List, Some, None, Ok, Err, Option, Result, nat_lt}
use Rattle.faults.specs.Layers.{CheckFault, CountFault as Fault}
use Rattle.faults.specs.declared.count.Cause.TheVariants.{Check, Head}

-- the head is not below the number of lanes
abbrev pub head_fault : ℕ → Fault
head_fault head = record { place = head; cause = Head }

-- what was asked is no text
abbrev pub check_fault : CheckFault → Fault
check_fault f = record { place = f.place; cause = Check f }

-- n, if the head is below the chunk's width and the check has no fault to tell; of two faults the head's
abbrev pub answer : ℕ → ℕ → Option CheckFault → ℕ → Result ℕ Fault
answer width head fault n = cond (nat_lt head width) (elim fault [ None ↦ Ok n | Some f ↦ Err (check_fault f) ]) (Err (head_fault head))

-- a call goes on, and holds the bytes that it was asked of
pub record Admitted (width head : ℕ) (fault : Option CheckFault) (bs held : List ℕ) : Type 0 where
  pub is : held ≡ bs
  pub answers : (n : ℕ) → Ok n ≡ answer width head fault n

-- or refuses, whatever its number would be
pub record Declined (width head : ℕ) (fault : Option CheckFault) (f : Fault) : Type 0 where
  pub answers : (n : ℕ) → Err f ≡ answer width head fault n
