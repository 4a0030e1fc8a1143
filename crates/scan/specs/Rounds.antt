-- A round: rows of flags added up lane by lane, before the lanes are summed. Assumes nothing.
use Rattle.std.specs.Prelude.{◌≡◌, ℕ, ◌+◌, ◌-◌, ◌*◌, ◌≤◌, List, ◌∷◌, slice_index, slice_index_or}
use Rattle.std.specs.Simd.Lanes.{Each1, sum_l}
use Rattle.scan.specs.Marks.{Rule, counted}

-- after i rows of w bytes from a place on: no lane is above i, the lanes have the count of those bytes,
-- and the last lanes of two more rows are the two bytes before the next row
pub record Added (hit : Rule) (text : List ℕ) (w from i : ℕ) (sums older last : List ℕ) : Type 0 where
  pub few : Each1 (λ x. x ≤ i) sums
  pub sum : sum_l sums ≡ counted hit text from (i * w)
  pub far : slice_index_or older (w - 1) 0 ≡ slice_index (0 ∷ 0 ∷ text) (from + i * w)
  pub near : slice_index_or last (w - 1) 0 ≡ slice_index (0 ∷ text) (from + i * w)
