-- What a measure of texts means: cells with weights, their laws, and the count, the index and the start that follow.
-- Assumes nothing.
use Rattle.std.specs.Prelude.{◌≡◌, ℕ, zero, suc, ◌+◌, ◌<◌, ◌≤◌, Bool, true, false, cond, ◌&&◌, List, length, nat_le, nat_lt}
use Rattle.utf8.specs.Grammar.{Text}
use Rattle.utf8.specs.Places.{char_start}
use Rattle.cells.specs.Near.{around, last_four}

-- the laws of a measure that says of each place of a text whether a cell ends there, and what that cell weighs
pub record Lawful (ends : List ℕ → ℕ → Bool) (weight : List ℕ → ℕ → ℕ) : Type 0 where
  -- cells are not empty, join to the text, and begin and end at char starts
  pub not_empty : (t : List ℕ) → Text t → ends t 0 ≡ false
  pub within : (t : List ℕ) (p : ℕ) → Text t → ends t p ≡ true → p ≤ length t
  pub closes : (t : List ℕ) → Text t → 0 < length t → ends t (length t) ≡ true
  pub cuts_chars : (t : List ℕ) (p : ℕ) → Text t → ends t p ≡ true → char_start t p ≡ true
  -- a weight is 1 or 2, only the last cell may weigh 0, and where no cell ends it is 0
  pub none : (t : List ℕ) (p : ℕ) → Text t → ends t p ≡ false → weight t p ≡ 0
  pub some : (t : List ℕ) (p : ℕ) → Text t → ends t p ≡ true → p < length t → 1 ≤ weight t p
  pub two : (t : List ℕ) (p : ℕ) → Text t → weight t p ≤ 2
  -- inside the text both depend only on the four bytes before and the one after
  pub near_ends : (t u : List ℕ) (p q : ℕ) → Text t → Text u → 0 < p → p < length t → 0 < q → q < length u → around t p ≡ around u q → ends t p ≡ ends u q
  pub near_weight : (t u : List ℕ) (p q : ℕ) → Text t → Text u → 0 < p → p < length t → 0 < q → q < length u → around t p ≡ around u q → weight t p ≡ weight u q
  -- at the text's length the weight depends only on the last four bytes
  pub last_weight : (t u : List ℕ) → Text t → Text u → 0 < length t → 0 < length u → last_four t ≡ last_four u → weight t (length t) ≡ weight u (length u)

-- the sum of w at the places up to b
abbrev pub sum_to : (ℕ → ℕ) → ℕ → ℕ
sum_to w zero = w 0
sum_to w (suc b) = sum_to w b + w (suc b)

module _ (weight : List ℕ → ℕ → ℕ) where
  -- the index of place b: the summed weight of the cells that end at or before b
  abbrev pub index : List ℕ → ℕ → ℕ
  index t b = sum_to (weight t) b

  -- the count: the summed weight of all cells
  abbrev pub count : List ℕ → ℕ
  count t = index t (length t)

-- the last place up to n where something that weighs ends, and no more than k has ended by then; 0 if there is none
abbrev pub last_within : (ℕ → ℕ) → ℕ → ℕ → ℕ
last_within w k zero = 0
last_within w k (suc n) = cond (nat_lt 0 (w (suc n)) && nat_le (sum_to w (suc n)) k) (suc n) (last_within w k n)

-- the start of index k; `Starts` says the same as a relation
abbrev pub start : (List ℕ → ℕ → ℕ) → List ℕ → ℕ → ℕ
start weight t k = cond (nat_lt (count weight t) k) (length t) (last_within (weight t) k (length t))
