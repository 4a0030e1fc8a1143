-- Lines, by the breaks that end them. Assumes nothing.
use Rattle.std.specs.Prelude.{ℕ, max, Bool, true, false, cond, not, ◌&&◌, ◌||◌, List, [], ◌∷◌, length, ◌==◌, nat_lt}
use Rattle.cells.specs.Near.{back}

abbrev LF : List ℕ
LF = 0x0A ∷ []

abbrev CR : List ℕ
CR = 0x0D ∷ []

abbrev pub CRLF : List ℕ
CRLF = 0x0D ∷ 0x0A ∷ []

-- the breaks of lines_lf
abbrev pub lf_breaks : List (List ℕ)
lf_breaks = LF ∷ []

-- the breaks of lines_crlf
abbrev pub crlf_breaks : List (List ℕ)
crlf_breaks = LF ∷ CR ∷ CRLF ∷ []

-- the breaks of lines: LF, VT, FF, CR, CR LF, NEL, LS and PS, in UTF-8 (Unicode 5.8, Table 5-1)
abbrev pub unicode_breaks : List (List ℕ)
unicode_breaks =
    LF ∷ (0x0B ∷ []) ∷ (0x0C ∷ []) ∷ CR ∷ CRLF
    ∷ (0xC2 ∷ 0x85 ∷ []) ∷ (0xE2 ∷ 0x80 ∷ 0xA8 ∷ []) ∷ (0xE2 ∷ 0x80 ∷ 0xA9 ∷ []) ∷ []

-- the bytes s stand right before place p
abbrev pub ends_at : List ℕ → List ℕ → ℕ → Bool
ends_at [] t p = true
ends_at (x ∷ s) t p = back (length (x ∷ s)) t p == x && ends_at s t p

-- one of the breaks stands right before place p
abbrev pub some_ends : List (List ℕ) → List ℕ → ℕ → Bool
some_ends [] t p = false
some_ends (s ∷ breaks) t p = ends_at s t p || some_ends breaks t p

-- place p lies between CR and LF, which are one break
abbrev pub in_crlf : List ℕ → ℕ → Bool
in_crlf t p = back 1 t p == 0x0D && back 0 t p == 0x0A

-- a break ends at place p
abbrev pub broken : List (List ℕ) → List ℕ → ℕ → Bool
broken breaks t p = some_ends breaks t p && not (in_crlf t p)

-- a cell is a line with its break, or the last line without one
abbrev pub line_ends : List (List ℕ) → List ℕ → ℕ → Bool
line_ends breaks t p = broken breaks t p || (nat_lt 0 p && p == length t)

-- an ended line weighs 1, an unended last line 0
abbrev pub line_weight : List (List ℕ) → List ℕ → ℕ → ℕ
line_weight breaks t p = cond (broken breaks t p) 1 0

-- the longest of the breaks that stand right before place p
abbrev pub longest : List (List ℕ) → List ℕ → ℕ → ℕ
longest [] t p = 0
longest (s ∷ breaks) t p = cond (ends_at s t p) (max (length s) (longest breaks t p)) (longest breaks t p)

-- the length of the break that ends at place p, 0 where none does
abbrev pub break_length : List (List ℕ) → List ℕ → ℕ → ℕ
break_length breaks t p = cond (broken breaks t p) (longest breaks t p) 0
