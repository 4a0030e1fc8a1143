-- What the cells of chars and UTF-16 units are in the words of the grammar. Assumes nothing.
use Rattle.std.specs.Prelude.{◌≡◌, ℕ, ◌+◌, ◌<◌, true, false, cond, List, ◌++◌, length, ◌==◌}
use Rattle.utf8.specs.Grammar.{Char, Text}
use Rattle.measures.specs.Chars.{char_ends, char_weight, pair_weight, unit_weight}

-- of a text before ++ c ++ after, where c is one char of the grammar: a cell ends where c ends and none ends inside c,
-- and that cell weighs 1 in chars, in units 2 if c has four bytes, else 1, and it is a surrogate pair just then
pub record CharCell (before c after : List ℕ) : Type 0 where
  pub ends : char_ends (before ++ (c ++ after)) (length before + length c) ≡ true
  pub whole : (i : ℕ) → 0 < i → i < length c → char_ends (before ++ (c ++ after)) (length before + i) ≡ false
  pub char : char_weight (before ++ (c ++ after)) (length before + length c) ≡ 1
  pub pair : pair_weight (before ++ (c ++ after)) (length before + length c) ≡ cond (length c == 4) 1 0
  pub units : unit_weight (before ++ (c ++ after)) (length before + length c) ≡ cond (length c == 4) 2 1

-- every char of every text is such a cell
abbrev pub CharCells : Type 0
CharCells = (before c after : List ℕ) → Text before → Char c → Text after → CharCell before c after
