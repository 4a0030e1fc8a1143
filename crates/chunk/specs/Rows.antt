-- Rows of bytes: what a chunk means, and what each step makes of its lanes.
-- Assumes nothing.
use Rattle.std.specs.Prelude.{◌≡◌, ℕ, ◌-◌, ◌/◌, ◌%◌, ◌^◌, ◌<◌, Bool, true, cond, ◌&&◌, List, [], ◌∷◌, ◌++◌, map, length, take, drop, replicate, ◌==◌, nat_lt, slice_index, slice_set}
use Rattle.std.specs.Simd.Lanes.{Each1, all_below, digits_l}

-- a row of n lanes in text order, each a byte
pub record Row (n : ℕ) (row : List ℕ) : Type 0 where
  pub long : length row ≡ n
  pub bytes : Each1 (λ x. x < 256) row

-- the same as a test, which a field of a struct can hold
abbrev pub is_row : ℕ → List ℕ → Bool
is_row n row = length row == n && all_below 256 row

-- the n lowest bytes of a number, the lowest first
unfoldable pub bytes_of : ℕ → ℕ → List ℕ
bytes_of n x = digits_l 256 n x

-- whether every lane is 0
abbrev pub all_zero : List ℕ → Bool
all_zero [] = true
all_zero (x ∷ row) = x == 0 && all_zero row

-- 1 at a lane that is the byte b, 0 at any other
abbrev pub is_byte : ℕ → ℕ → ℕ
is_byte b x = cond (x == b) 1 0

-- 1 at a lane strictly between a and b, 0 at any other
abbrev pub is_between : ℕ → ℕ → ℕ → ℕ
is_between a b x = cond (nat_lt a x && nat_lt x b) 1 0

-- lane i is the old lane i + n, or 0 where there is none
abbrev pub moved_back : ℕ → List ℕ → List ℕ
moved_back n row = drop n row ++ replicate n 0

-- the last of the n lanes before, then the next row without its last lane
abbrev pub moved_across : ℕ → List ℕ → List ℕ → List ℕ
moved_across n before next = slice_index before (n - 1) ∷ take (n - 1) next

-- the upper bits of each lane, its lowest n dropped
abbrev pub upper_bits : ℕ → List ℕ → List ℕ
upper_bits n row = map (λ x. x / 2 ^ n) row

-- what is left of each lane without its top n bits
abbrev pub without_top : ℕ → List ℕ → List ℕ
without_top n row = map (λ x. x % 2 ^ (8 - n)) row

-- lane i made f of what it was, every other lane as it was
abbrev pub at_lane : ℕ → (ℕ → ℕ) → List ℕ → List ℕ
at_lane i f row = slice_set row i (f (slice_index row i))
