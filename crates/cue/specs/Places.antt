-- The place of a cue in a text. Assumes nothing.
use Rattle.std.specs.Prelude.{ℕ, ◌+◌, min, cond, List, length, nat_lt}
use Rattle.cells.specs.Cells.{index, count, start}
use Rattle.measures.specs.Chars.{char_weight, unit_weight}
use Rattle.measures.specs.Breaks.{line_weight, lf_breaks, crlf_breaks, unicode_breaks}
use Rattle.cue.specs.declared.record.Cue.{Cue}
use Rattle.cue.specs.declared.record.Cue.TheVariants.{Chars, Utf16, Lines, LinesCrlf, LinesLf, Column}

abbrev crlf : List ℕ → ℕ → ℕ
crlf = line_weight crlf_breaks

-- the place of a column in a line: the start of so many units after those before the line, but not past the next
-- line's start; a line above the count gives the length
abbrev pub column_place : List ℕ → ℕ → ℕ → ℕ
column_place t line column =
    cond (nat_lt (count crlf t) line) (length t)
    (min (start unit_weight t (index unit_weight t (start crlf t line) + column)) (start crlf t (line + 1)))

abbrev pub place_of : List ℕ → Cue → ℕ
place_of t (Chars k) = start char_weight t k
place_of t (Utf16 k) = start unit_weight t k
place_of t (Lines k) = start (line_weight unicode_breaks) t k
place_of t (LinesCrlf k) = start crlf t k
place_of t (LinesLf k) = start (line_weight lf_breaks) t k
place_of t (Column line column) = column_place t line column
