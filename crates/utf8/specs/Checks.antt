-- What the check answers. Assumes nothing.
use Rattle.std.specs.Prelude.{◌≡◌, ℕ, true, false, List, length, Some, None, Ok, Err, Result}
use Rattle.faults.specs.Layers.{CheckFault as Fault}
use Rattle.utf8.specs.Faults.{Stops}
use Rattle.utf8.specs.FirstFault.{first_fault, is_text}
use Rattle.utf8.specs.Grammar.{Text}

-- the bytes are a text by the grammar, and so by the test
pub record Passed (bs : List ℕ) : Type 0 where
  pub text : Text bs
  pub test : is_text bs ≡ true
  pub none : first_fault bs ≡ None

-- the bytes are no text, and f is their first fault
pub record Refused (bs : List ℕ) (f : Fault) : Type 0 where
  pub no_text : Text bs → ⊥
  pub stops : Stops bs f
  pub test : is_text bs ≡ false
  pub first : first_fault bs ≡ Some f

-- a check of bs by a holder that held `was` answers so, and leaves it holding `is`
abbrev pub Taken : List ℕ → List ℕ → Result ℕ Fault → List ℕ → Type 0
Taken bs was (Ok n) is = Passed bs × (n ≡ length bs) × (is ≡ bs)
Taken bs was (Err f) is = Refused bs f × (is ≡ was)
