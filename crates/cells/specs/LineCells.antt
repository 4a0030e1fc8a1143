-- Cells that are lines, each with the break that ends it. Assumes nothing.
use Rattle.std.specs.Prelude.{◌≡◌, ℕ, ◌+◌, ◌<◌, ◌≤◌, Bool, true, false, List}
use Rattle.utf8.specs.Grammar.{Text}
use Rattle.cells.specs.Starts.{Joint}

-- the laws of the lengths of breaks: none where no cell ends, at most three bytes, and no longer than the cell, which
-- begins at p and ends at q
pub record LawfulBreaks (ends : List ℕ → ℕ → Bool) (weight break_length : List ℕ → ℕ → ℕ) : Type 0 where
  pub none : (t : List ℕ) (p : ℕ) → Text t → ends t p ≡ false → break_length t p ≡ 0
  pub three : (t : List ℕ) (p : ℕ) → Text t → break_length t p ≤ 3
  pub within : (t : List ℕ) (p q : ℕ) → Text t → Joint ends weight t p → ends t q ≡ true → p < q → p + break_length t q ≤ q
