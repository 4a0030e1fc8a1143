-- Flags that add up within a byte, and flags that others are below, in lists of any length. Assumes nothing.
use Rattle.std.proofs.Common.{ℕ, zero, suc, ◌+◌, ◌-◌, ◌<◌, ◌≤◌, ◌&&◌, eqb, ltb, List, [], ◌∷◌, map, replicate, arith}
use lib.Lanes.{zip2, Each1, Each2}
use lib.Bits.{bit_and, and_le_r}
use Rattle.std.proofs.lemmas.Bool.Decides.{nat_tests}
use Rattle.chunk.specs.Rows.{is_byte, is_between}
use Rattle.scan.proofs.Marking.{flag_small}

pub leads_fit : (n b : ℕ) (xs : List ℕ) → Each2 (λ x y. y ≤ x) (replicate n 1) (map (is_byte b) xs)
leads_fit zero b xs = tt
leads_fit (suc n) b [] = tt
leads_fit (suc n) b (x ∷ xs) = (flag_small (eqb x b), leads_fit n b xs)

pub adds_fit : (xs : List ℕ) → Each2 (λ x y. x + y < 256) (map (is_byte 10) xs) (map (is_byte 13) xs)
adds_fit [] = tt
adds_fit (x ∷ xs) = (omega (arith, flag_small (eqb x 10), flag_small (eqb x 13)), adds_fit xs)

pub subs_fit : (ps xs : List ℕ) → Each2 (λ x y. y ≤ x) (zip2 (λ x y. x + y) (map (is_byte 10) xs) (map (is_byte 13) xs)) (zip2 bit_and (map (is_byte 13) ps) (map (is_byte 10) xs))
subs_fit ps [] = tt
subs_fit [] (x ∷ xs) = tt
subs_fit (p ∷ ps) (x ∷ xs) = (omega (arith, and_le_r (is_byte 13 p) (is_byte 10 x)), subs_fit ps xs)

-- ---- the breaks of Unicode: low bytes, the second of 0D 0A, the second of C2 85, the third of a separator
abbrev pub lows : List ℕ → List ℕ
lows xs = map (is_between 9 14) xs

abbrev pub seconds : List ℕ → List ℕ → List ℕ
seconds ps xs = zip2 bit_and (map (is_byte 13) ps) (map (is_byte 10) xs)

abbrev pub nexts : List ℕ → List ℕ → List ℕ
nexts ps xs = zip2 bit_and (map (is_byte 194) ps) (map (is_byte 133) xs)

abbrev pub separators : List ℕ → List ℕ → List ℕ → List ℕ
separators qs ps xs = zip2 bit_and (zip2 bit_and (map (is_byte 226) qs) (map (is_byte 128) ps)) (map (is_byte 168) (map (λ x. bit_and x 254) xs))

second_low : (p x : ℕ) → bit_and (is_byte 13 p) (is_byte 10 x) ≤ is_between 9 14 x
second_low p x =
    let small : is_byte 10 x ≤ is_between 9 14 x = grind (arith, nat_tests) in
    omega (arith, small, and_le_r (is_byte 13 p) (is_byte 10 x))

pub lines_sub : (ps xs : List ℕ) → Each2 (λ x y. y ≤ x) (lows xs) (seconds ps xs)
lines_sub ps [] = tt
lines_sub [] (x ∷ xs) = tt
lines_sub (p ∷ ps) (x ∷ xs) = (second_low p x, lines_sub ps xs)

next_small : (p x : ℕ) → bit_and (is_byte 194 p) (is_byte 133 x) ≤ 1
next_small p x = omega (arith, and_le_r (is_byte 194 p) (is_byte 133 x), flag_small (eqb x 133))

low_small : (x : ℕ) → is_between 9 14 x ≤ 1
low_small x = flag_small (ltb 9 x && ltb x 14)

pub lines_add : (ps xs : List ℕ) → Each2 (λ x y. x + y < 256) (zip2 (λ x y. x - y) (lows xs) (seconds ps xs)) (nexts ps xs)
lines_add ps [] = tt
lines_add [] (x ∷ xs) = tt
lines_add (p ∷ ps) (x ∷ xs) = (omega (arith, low_small x, next_small p x), lines_add ps xs)

-- the premise on the bytes is not needed
pub lines_add_2 : (qs ps xs : List ℕ) → Each1 (λ x. x < 256) xs → Each2 (λ x y. x + y < 256) (zip2 (λ x y. x + y) (zip2 (λ x y. x - y) (lows xs) (seconds ps xs)) (nexts ps xs)) (separators qs ps xs)
lines_add_2 qs ps [] h = tt
lines_add_2 qs [] (x ∷ xs) h = tt
lines_add_2 [] (p ∷ ps) (x ∷ xs) h = tt
lines_add_2 (q ∷ qs) (p ∷ ps) (x ∷ xs) h =
    (omega (arith, low_small x, next_small p x, and_le_r (bit_and (is_byte 226 q) (is_byte 128 p)) (is_byte 168 (bit_and x 254)), flag_small (eqb (bit_and x 254) 168)), lines_add_2 qs ps xs h.1)
