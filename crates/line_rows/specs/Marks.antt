-- Flags in the lanes of a row. Assumes nothing.
use Rattle.std.specs.Prelude.{◌≡◌, ℕ, zero, suc, ◌+◌, ◌<◌, ◌≤◌, Bool, List, [], ◌∷◌, length, slice_index}
use Rattle.std.specs.Simd.Lanes.{chunk}
use Rattle.line_rows.specs.Begins.{break_counts, flag}

-- a row is the w bytes of a text from a place on
pub record RowAt (t : List ℕ) (place w : ℕ) (row : List ℕ) : Type 0 where
  pub fits : place + w ≤ length t
  pub is : row ≡ chunk place w t

-- each lane is the flag of its number, and past the row no number has one
abbrev pub Flagged : (ℕ → Bool) → List ℕ → Type 0
Flagged f row = (i : ℕ) → slice_index row i ≡ flag (f i)

-- each of the w lanes is the flag of its place in the text, where the row begins at `place`
abbrev pub Marked : (ℕ → Bool) → ℕ → ℕ → List ℕ → Type 0
Marked f place w row = (i : ℕ) → i < w → slice_index row i ≡ flag (f (place + i))

-- C2 85, the next line
abbrev pub next_line : List ℕ
next_line = 0xC2 ∷ 0x85 ∷ []

-- E2 80 A8 and E2 80 A9, the separators of lines and of paragraphs
abbrev pub separators : List (List ℕ)
separators = (0xE2 ∷ 0x80 ∷ 0xA8 ∷ []) ∷ (0xE2 ∷ 0x80 ∷ 0xA9 ∷ []) ∷ []

-- 1 at each of n bytes from place p on where a break counts, 0 at the others
abbrev pub break_marks : List ℕ → ℕ → ℕ → List ℕ
break_marks t p zero = []
break_marks t p (suc n) = flag (break_counts t p) ∷ break_marks t (suc p) n
