-- A text, by RFC 3629, section 4, and the first fault of bytes that are none. Assumes nothing.
use Rattle.std.specs.Prelude.{ℕ, ◌+◌, Bool, true, false, cond, ◌&&◌, List, [], ◌∷◌, Some, None, Option, nat_le}
use Rattle.faults.specs.declared.check.Cause.{Cause}
use Rattle.faults.specs.declared.check.Cause.TheVariants.{NoFirst, Ends, NoFollower}
use Rattle.faults.specs.Layers.{CheckFault as Fault}

-- the bytes from low to high
pub record Range : Type 0 where
  pub low : ℕ
  pub high : ℕ

abbrev pub range : ℕ → ℕ → Range
range a b = record { low = a; high = b }

abbrev pub within : Range → ℕ → Bool
within r b = nat_le r.low b && nat_le b r.high

abbrev pub tail : Range
tail = range 0x80 0xBF

-- the followers that a first byte takes, each with the bytes that may stand there; None of a byte that begins no char
abbrev pub followers : ℕ → Option (List Range)
followers b =
    cond (nat_le b 0x7F) (Some [])
    (cond (nat_le b 0xC1) None
    (cond (nat_le b 0xDF) (Some (tail ∷ []))
    (cond (nat_le b 0xE0) (Some (range 0xA0 0xBF ∷ tail ∷ []))
    (cond (nat_le b 0xEC) (Some (tail ∷ tail ∷ []))
    (cond (nat_le b 0xED) (Some (range 0x80 0x9F ∷ tail ∷ []))
    (cond (nat_le b 0xEF) (Some (tail ∷ tail ∷ []))
    (cond (nat_le b 0xF0) (Some (range 0x90 0xBF ∷ tail ∷ tail ∷ []))
    (cond (nat_le b 0xF3) (Some (tail ∷ tail ∷ tail ∷ []))
    (cond (nat_le b 0xF4) (Some (range 0x80 0x8F ∷ tail ∷ tail ∷ [])) None)))))))))

-- the followers due after the byte b where these were due before it; None where b may not stand there
abbrev pub due_after : List Range → ℕ → Option (List Range)
due_after [] b = followers b
due_after (r ∷ rs) b = cond (within r b) (Some rs) None

-- where the char begins that the byte at i belongs to: at i if no follower is due
abbrev pub first_place : List Range → ℕ → ℕ → ℕ
first_place [] s i = i
first_place (r ∷ rs) s i = s

abbrev pub why_not : List Range → Cause
why_not [] = NoFirst
why_not (r ∷ rs) = NoFollower

abbrev pub at_end : List Range → ℕ → Option Fault
at_end [] s = None
at_end (r ∷ rs) s = Some (record { place = s; cause = Ends })

-- the first fault from place i on, in a char that begins at s and of which these followers are due
abbrev pub fault_from : ℕ → ℕ → List Range → List ℕ → Option Fault
fault_from s i due [] = at_end due s
fault_from s i due (b ∷ bs) = elim (due_after due b) [
  | None ↦ Some (record { place = first_place due s i; cause = why_not due })
  | Some rs ↦ fault_from (first_place due s i) (i + 1) rs bs
]

abbrev pub first_fault : List ℕ → Option Fault
first_fault bs = fault_from 0 0 [] bs

-- bs begins with the followers due, and goes on with whole chars
abbrev pub goes_on : List Range → List ℕ → Bool
goes_on [] [] = true
goes_on (r ∷ rs) [] = false
goes_on [] (b ∷ bs) = elim (due_after [] b) [ None ↦ false | Some rs ↦ goes_on rs bs ]
goes_on (r ∷ rs) (b ∷ bs) = elim (due_after (r ∷ rs) b) [ None ↦ false | Some qs ↦ goes_on qs bs ]

-- bs is a text
abbrev pub is_text : List ℕ → Bool
is_text bs = goes_on [] bs
