-- The start of an index, as a relation. Assumes nothing.
use Rattle.std.specs.Prelude.{◌≡◌, ℕ, ◌<◌, ◌≤◌, Bool, true, ◌⊎◌, List, length}
use Rattle.cells.specs.Cells.{index, count}

module _ (ends : List ℕ → ℕ → Bool) (weight : List ℕ → ℕ → ℕ) where
  -- some first cells, or none, end at p; their weight is then the index of p
  abbrev pub Joint : List ℕ → ℕ → Type 0
  Joint t p = (p ≡ 0) ⊎ (ends t p ≡ true)

  -- s is the start of k: the length if k is above the count; else, of the first cells whose weight is the greatest
  -- that is not above k, the end of the shortest run
  pub record Start (t : List ℕ) (k s : ℕ) : Type 0 where
    pub past : count weight t < k → s ≡ length t
    pub joint : k ≤ count weight t → Joint t s
    pub low : k ≤ count weight t → index weight t s ≤ k
    pub greatest : k ≤ count weight t → (p : ℕ) → Joint t p → index weight t p ≤ k → index weight t p ≤ index weight t s
    pub shortest : k ≤ count weight t → (p : ℕ) → Joint t p → index weight t p ≡ index weight t s → s ≤ p

  -- s is a start of k, and the only one
  pub record OnlyStart (t : List ℕ) (k s : ℕ) : Type 0 where
    pub is : Start t k s
    pub only : (r : ℕ) → Start t k r → r ≡ s
