-- Steps forward to a char start. Assumes nothing.
use Rattle.std.specs.Prelude.{◌≡◌, ℕ, ◌<◌, ◌≤◌, true, false, List}
use Rattle.utf8.specs.Places.{char_start}

-- r is the first char start from a place on
pub record NextStart (t : List ℕ) (from r : ℕ) : Type 0 where
  pub onward : from ≤ r
  pub start : char_start t r ≡ true
  pub none : (i : ℕ) → from ≤ i → i < r → char_start t i ≡ false
