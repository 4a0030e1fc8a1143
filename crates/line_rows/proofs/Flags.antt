-- What the steps of a chunk make of flags, lane by lane. Assumes nothing.
use Rattle.std.proofs.Common.{◌≡◌, ℕ, zero, suc, ◌+◌, ◌/◌, ◌%◌, ◌<◌, Bool, true, false, ◌&&◌, eqb, List, [], ◌∷◌, ◌++◌, map, length, get_or, drop, replicate, sym, refl, ap, ◌∙◌, arith}
use lib.Lanes.{zip2}
use lib.Bits.{bit_and, and_mask}
use Rattle.std.proofs.Math.ListN.{get_or-map}
use Rattle.std.proofs.lemmas.Simd.{zip2_splat}
use Rattle.std.proofs.lemmas.List.{get_or-drop}
use Rattle.std.proofs.lemmas.Bool.{ne_eqb}
use Rattle.std.proofs.lemmas.Bool.Decides.{nat_tests}
use Rattle.chunk.specs.Rows.{all_zero, is_byte, moved_back, upper_bits, without_top}
use Rattle.line_rows.specs.Begins.{flag}
use Rattle.line_rows.specs.Marks.{Flagged}

-- ---- halves

mask_map : (xs : List ℕ) → map (λ x. bit_and x 127) xs ≡ without_top 1 xs
mask_map [] = refl
mask_map (x ∷ xs) =
    let here : bit_and x 127 ≡ x % 128 = and_mask x 7 in
    let rest = mask_map xs in
    cc

pub halves_row : (w : ℕ) (low row : List ℕ) → length low ≡ w → without_top 1 low ≡ upper_bits 1 row → zip2 bit_and low (replicate w 127) ≡ map (λ x. x / 2) row
halves_row w low row l e = zip2_splat bit_and low w 127 l ∙ mask_map low ∙ e

-- ---- a lane of what a step makes; past the row all is 0

pub at_map : (f : ℕ → ℕ) → f 0 ≡ 0 → (xs : List ℕ) (i : ℕ) → get_or (map f xs) i 0 ≡ f (get_or xs i 0)
at_map f z xs i = ap (get_or (map f xs) i) (sym z) ∙ get_or-map f xs i 0

pub at_zip : (f : ℕ → ℕ → ℕ) → f 0 0 ≡ 0 → (xs ys : List ℕ) → length xs ≡ length ys → (i : ℕ) → get_or (zip2 f xs ys) i 0 ≡ f (get_or xs i 0) (get_or ys i 0)
at_zip f z [] [] l i = sym z
at_zip f z [] (y ∷ ys) l i = absurd (omega arith)
at_zip f z (x ∷ xs) [] l i = absurd (omega arith)
at_zip f z (x ∷ xs) (y ∷ ys) l zero = refl
at_zip f z (x ∷ xs) (y ∷ ys) l (suc i) = at_zip f z xs ys (omega arith) i

zeros : (n i : ℕ) → ◌≡◌ {A = ℕ} (get_or (replicate n 0) i 0) 0
zeros zero i = refl
zeros (suc n) zero = refl
zeros (suc n) (suc i) = zeros n i

push_zeros : (n : ℕ) (xs : List ℕ) (i : ℕ) → get_or (xs ++ replicate n 0) i 0 ≡ get_or xs i 0
push_zeros n [] i = zeros n i
push_zeros n (x ∷ xs) zero = refl
push_zeros n (x ∷ xs) (suc i) = push_zeros n xs i

at_back : (n : ℕ) (xs : List ℕ) (i : ℕ) → get_or (moved_back n xs) i 0 ≡ get_or xs (n + i) 0
at_back n xs i = push_zeros n (drop n xs) i ∙ get_or-drop n xs i 0

at_zero : (xs : List ℕ) → all_zero xs ≡ true → (i : ℕ) → get_or xs i 0 ≡ 0
at_zero [] e i = refl
at_zero (x ∷ xs) e zero = grind (arith, nat_tests)
at_zero (x ∷ xs) e (suc i) = at_zero xs (grind (arith, nat_tests)) i

-- ---- flags

-- the lanes that are a byte
pub is_flags : (b : ℕ) (row out : List ℕ) → 0 < b → out ≡ map (is_byte b) row → Flagged (λ i. eqb (get_or row i 0) b) out
is_flags b row out h e i = ap (λ (xs : List ℕ). get_or xs i 0) e ∙ at_map (is_byte b) (ap flag (ne_eqb 0 b (λ z. omega arith))) row i

pub back_flags : (f : ℕ → Bool) (n : ℕ) (flags out : List ℕ) → out ≡ moved_back n flags → Flagged f flags → Flagged (λ i. f (n + i)) out
back_flags f n flags out e h i = ap (λ (xs : List ℕ). get_or xs i 0) e ∙ at_back n flags i ∙ h (n + i)

both : (s t : Bool) → bit_and (flag s) (flag t) ≡ flag (s && t)
both true true = refl
both true false = refl
both false true = refl
both false false = refl

pub and_flags : (f g : ℕ → Bool) (xs ys out : List ℕ) → length xs ≡ length ys → out ≡ zip2 bit_and xs ys → Flagged f xs → Flagged g ys → Flagged (λ i. f i && g i) out
and_flags f g xs ys out l e hx hy i =
    ap (λ (zs : List ℕ). get_or zs i 0) e ∙ at_zip bit_and refl xs ys l i
    ∙ ap (λ (n : ℕ). bit_and n (get_or ys i 0)) (hx i) ∙ ap (bit_and (flag (f i))) (hy i) ∙ both (f i) (g i)

unflag : (b : Bool) → flag b ≡ 0 → b ≡ false
unflag true e = absurd (omega arith)
unflag false e = refl

-- no flag is up
pub none_up : (f : ℕ → Bool) (flags : List ℕ) → all_zero flags ≡ true → Flagged f flags → (i : ℕ) → f i ≡ false
none_up f flags z h i = unflag (f i) (sym (h i) ∙ at_zero flags z i)

pub down : (flags : List ℕ) → all_zero flags ≡ true → (i : ℕ) (b : Bool) → b ≡ false → get_or flags i 0 ≡ flag b
down flags z i b e = at_zero flags z i ∙ ap flag (sym e)
