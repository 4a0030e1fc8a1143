-- A count of breaks that stops at a limit of bytes or of breaks. Assumes nothing.
use Rattle.std.specs.Prelude.{◌≡◌, ℕ, ◌<◌, ◌≤◌, min, List, length}
use Rattle.line_rows.specs.Begins.{breaks_in}

-- n breaks are counted in the first p bytes, no more than `most`, and fewer bytes have fewer than `most`
pub record Counted (t : List ℕ) (most n p : ℕ) : Type 0 where
  pub right : n ≡ breaks_in t p
  pub few : n ≤ most
  pub fewest : (q : ℕ) → q < p → breaks_in t q < most

-- n breaks are counted and p bytes passed: all of the byte limit, which is the length if it lies above that, or the
-- fewest bytes that have `most` breaks
pub record Passed (t : List ℕ) (bytes most n p : ℕ) : Type 0 where
  pub counted : Counted t most n p
  pub within : p ≤ min bytes (length t)
  pub all : n < most → p ≡ min bytes (length t)
