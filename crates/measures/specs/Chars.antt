-- The cells of the measures of chars and of UTF-16 units. Assumes nothing.
use Rattle.std.specs.Prelude.{ℕ, Bool, cond, ◌&&◌, List, nat_le, nat_lt}
use Rattle.utf8.specs.Places.{char_start}
use Rattle.cells.specs.Near.{back}

-- each char is a cell: one ends at every char start but place 0
abbrev pub char_ends : List ℕ → ℕ → Bool
char_ends t p = nat_lt 0 p && char_start t p

abbrev pub char_weight : List ℕ → ℕ → ℕ
char_weight t p = cond (char_ends t p) 1 0

-- the char that ends at p has four bytes, since the byte four before is F0 or above, which only begins such a char
abbrev pub four_bytes : List ℕ → ℕ → Bool
four_bytes t p = nat_le 0xF0 (back 4 t p)

-- a char of four bytes takes two units of UTF-16 (RFC 2781), any other takes one
abbrev pub unit_weight : List ℕ → ℕ → ℕ
unit_weight t p = cond (char_ends t p) (cond (four_bytes t p) 2 1) 0

-- a char of four bytes, which takes a surrogate pair, weighs 1, any other nothing
abbrev pub pair_weight : List ℕ → ℕ → ℕ
pair_weight t p = cond (char_ends t p && four_bytes t p) 1 0
