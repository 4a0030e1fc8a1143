-- Breaks of lines from their first byte on, and where each counts. Assumes nothing.
use Rattle.std.specs.Prelude.{ℕ, zero, suc, ◌+◌, Bool, true, false, cond, not, ◌&&◌, ◌||◌, List, [], ◌∷◌, ◌==◌, slice_index}
use Rattle.measures.specs.Breaks.{unicode_breaks}

-- the bytes s stand from place p on
abbrev pub begins_at : List ℕ → List ℕ → ℕ → Bool
begins_at [] t p = true
begins_at (x ∷ s) t p = slice_index t p == x && begins_at s t (suc p)

-- one of the breaks begins at place p
abbrev pub some_begins : List (List ℕ) → List ℕ → ℕ → Bool
some_begins [] t p = false
some_begins (s ∷ breaks) t p = begins_at s t p || some_begins breaks t p

abbrev pub cr_lf : List ℕ
cr_lf = 0x0D ∷ 0x0A ∷ []

-- a break counts at its first byte, but CR LF at its LF
abbrev pub break_counts : List ℕ → ℕ → Bool
break_counts t p = some_begins unicode_breaks t p && not (begins_at cr_lf t p)

-- 1 or 0
abbrev pub flag : Bool → ℕ
flag b = cond b 1 0

-- the breaks that count in the first p bytes
abbrev pub breaks_in : List ℕ → ℕ → ℕ
breaks_in t zero = 0
breaks_in t (suc p) = breaks_in t p + flag (break_counts t p)
