-- The n bytes of a number, the lowest first: what arithmetic on the number does to each, where none carries.
-- Assumes nothing.
use Rattle.std.proofs.Common.{◌≡◌, ℕ, zero, suc, ◌+◌, ◌-◌, ◌*◌, ◌/◌, ◌%◌, ◌^◌, ◌<◌, ◌≤◌, ◌&&◌, eqb, List, [], ◌∷◌, length, get_or, drop, replicate, refl, ap, ◌∙◌, subst, not-suc-le-zero, mul_assoc, mul_comm, pow-suc, mul-add, arith}
use native.Mathlib.Nat.{pow-zero}
use lib.Lanes.{zip2, Each1, Each2, number_l}
use lib.Bits.{bit_and, bit_or, bit_xor, and_mod, or_mod, xor_mod, and_shr, or_shr, xor_shr}
use Rattle.std.proofs.lemmas.Bool.Decides.{nat_tests}
use Rattle.chunk.specs.Rows.{Row, bytes_of, all_zero, at_lane}

-- ---- a number and its bytes

pub bytes_row : (n x : ℕ) → Row n (bytes_of n x)
unfolding bytes_of
bytes_row zero x = record { long = refl; bytes = tt }
bytes_row (suc n) x =
    let r = bytes_row n (x / 256) in
    record { long = ap suc r.long; bytes = (omega arith, r.bytes) }

pub bytes_cons : (n x : ℕ) → bytes_of (suc n) x ≡ (x % 256) ∷ bytes_of n (x / 256)
unfolding bytes_of
bytes_cons n x = refl

-- the bytes of the number that a row makes are the row
pub bytes_number : (n : ℕ) (row : List ℕ) → Row n row → bytes_of n (number_l 256 row) ≡ row
unfolding bytes_of
bytes_number n row r = subst (λ k. bytes_of k (number_l 256 row) ≡ row) r.long (whole row r.bytes)
  where
    whole : (row : List ℕ) → Each1 (λ d. d < 256) row → bytes_of (length row) (number_l 256 row) ≡ row
    whole [] h = refl
    whole (x ∷ row) h =
        let lt : x < 256 = h.0 in
        let m : (x + 256 * number_l 256 row) % 256 ≡ x = omega arith in
        let d : (x + 256 * number_l 256 row) / 256 ≡ number_l 256 row = omega arith in
        let q = ap (bytes_of (length row)) d in
        let r = whole row h.1 in
        cc

pub number_bytes : (n x : ℕ) → x < 256 ^ n → number_l 256 (bytes_of n x) ≡ x
unfolding bytes_of
number_bytes zero x h =
    let p : 256 ^ 0 ≡ 1 = pow-zero 256 in
    omega arith
number_bytes (suc n) x h =
    let p : 256 ^ suc n ≡ 256 ^ n * 256 = pow-suc 256 n in
    let r = number_bytes n (x / 256) (omega arith) in
    omega arith

-- the number from byte k on
pub number_from : (row : List ℕ) (k : ℕ) → number_l 256 (drop k row) ≡ get_or row k 0 + 256 * number_l 256 (drop (suc k) row)
number_from [] zero = refl
number_from [] (suc k) = refl
number_from (x ∷ row) zero = refl
number_from (x ∷ row) (suc k) = number_from row k

pub bytes_none : (n : ℕ) → bytes_of n 0 ≡ replicate n 0
unfolding bytes_of
bytes_none zero = refl
bytes_none (suc n) = ap (λ t. 0 ∷ t) (bytes_none n)

-- ---- the same byte in every lane

abbrev pub repeated : ℕ → ℕ → ℕ
repeated n k = number_l 256 (replicate n k)

pub bytes_repeated : (n k : ℕ) → k < 256 → bytes_of n (repeated n k) ≡ replicate n k
unfolding bytes_of
bytes_repeated zero k h = refl
bytes_repeated (suc n) k h =
    let m : (k + 256 * repeated n k) % 256 ≡ k = omega arith in
    let d : (k + 256 * repeated n k) / 256 ≡ repeated n k = omega arith in
    let q = ap (bytes_of n) d in
    let r = bytes_repeated n k h in
    cc

-- 1 in every lane, times k
pub repeated_times : (n k : ℕ) → repeated n 1 * k ≡ repeated n k
repeated_times zero k = omega arith
repeated_times (suc n) k =
    let r = repeated_times n k in
    let e : (1 + 256 * repeated n 1) * k ≡ k + 256 * (repeated n 1 * k) =
    mul_comm (1 + 256 * repeated n 1) k ∙ mul-add k 1 (256 * repeated n 1) ∙ swap in
    omega arith
  where
    swap : k * 1 + k * (256 * repeated n 1) ≡ k + 256 * (repeated n 1 * k)
    swap =
        let a : k * (256 * repeated n 1) ≡ 256 * repeated n 1 * k = mul_comm k (256 * repeated n 1) in
        let b : 256 * repeated n 1 * k ≡ 256 * (repeated n 1 * k) = mul_assoc 256 (repeated n 1) k in
        omega arith

pub repeated_below : (n k : ℕ) → k < 256 → repeated n k < 256 ^ n
repeated_below zero k h =
    let p : 256 ^ 0 ≡ 1 = pow-zero 256 in
    omega arith
repeated_below (suc n) k h =
    let p : 256 ^ suc n ≡ 256 ^ n * 256 = pow-suc 256 n in
    let r = repeated_below n k h in
    omega arith

-- ---- steps that carry into no other byte

-- an operation on each bit alone
bytes_bitwise : (f : ℕ → ℕ → ℕ) → ((a b : ℕ) → f a b % 256 ≡ f (a % 256) (b % 256)) → ((a b : ℕ) → f a b / 256 ≡ f (a / 256) (b / 256))
    → (n a b : ℕ) → bytes_of n (f a b) ≡ zip2 f (bytes_of n a) (bytes_of n b)
unfolding bytes_of
bytes_bitwise f low high zero a b = refl
bytes_bitwise f low high (suc n) a b =
    let m = low a b in
    let r = bytes_bitwise f low high n (a / 256) (b / 256) in
    let q = ap (bytes_of n) (high a b) in
    cc

pub bytes_and : (n a b : ℕ) → bytes_of n (bit_and a b) ≡ zip2 bit_and (bytes_of n a) (bytes_of n b)
bytes_and = bytes_bitwise bit_and (λ a b. and_mod a b 8) (λ a b. and_shr a b 8)

pub bytes_or : (n a b : ℕ) → bytes_of n (bit_or a b) ≡ zip2 bit_or (bytes_of n a) (bytes_of n b)
bytes_or = bytes_bitwise bit_or (λ a b. or_mod a b 8) (λ a b. or_shr a b 8)

pub bytes_xor : (n a b : ℕ) → bytes_of n (bit_xor a b) ≡ zip2 bit_xor (bytes_of n a) (bytes_of n b)
bytes_xor = bytes_bitwise bit_xor (λ a b. xor_mod a b 8) (λ a b. xor_shr a b 8)

-- a sum whose lanes stay bytes
pub bytes_add : (n a b : ℕ) → Each2 (λ x y. x + y < 256) (bytes_of n a) (bytes_of n b) → bytes_of n (a + b) ≡ zip2 (λ x y. x + y) (bytes_of n a) (bytes_of n b)
unfolding bytes_of
bytes_add zero a b h = refl
bytes_add (suc n) a b h =
    let lt : a % 256 + b % 256 < 256 = h.0 in
    let m : (a + b) % 256 ≡ a % 256 + b % 256 = omega arith in
    let d : (a + b) / 256 ≡ a / 256 + b / 256 = omega arith in
    let r = bytes_add n (a / 256) (b / 256) h.1 in
    let q = ap (bytes_of n) d in
    cc

pub add_below : (n a b : ℕ) → a < 256 ^ n → b < 256 ^ n → Each2 (λ x y. x + y < 256) (bytes_of n a) (bytes_of n b) → a + b < 256 ^ n
unfolding bytes_of
add_below zero a b ha hb h =
    let p : 256 ^ 0 ≡ 1 = pow-zero 256 in
    omega arith
add_below (suc n) a b ha hb h =
    let p : 256 ^ suc n ≡ 256 ^ n * 256 = pow-suc 256 n in
    let lt : a % 256 + b % 256 < 256 = h.0 in
    let r = add_below n (a / 256) (b / 256) (omega arith) (omega arith) h.1 in
    omega arith

-- a difference none of whose lanes is below 0
pub bytes_sub : (n a b : ℕ) → a < 256 ^ n → b < 256 ^ n → Each2 (λ x y. y ≤ x) (bytes_of n a) (bytes_of n b) → (b ≤ a) × (bytes_of n (a - b) ≡ zip2 (λ x y. x - y) (bytes_of n a) (bytes_of n b))
unfolding bytes_of
bytes_sub zero a b ha hb h =
    let p : 256 ^ 0 ≡ 1 = pow-zero 256 in
    (omega arith, refl)
bytes_sub (suc n) a b ha hb h =
    let p : 256 ^ suc n ≡ 256 ^ n * 256 = pow-suc 256 n in
    let le : b % 256 ≤ a % 256 = h.0 in
    let r = bytes_sub n (a / 256) (b / 256) (omega arith) (omega arith) h.1 in
    let le' : b / 256 ≤ a / 256 = r.0 in
    let m : (a - b) % 256 ≡ a % 256 - b % 256 = omega arith in
    let d : (a - b) / 256 ≡ a / 256 - b / 256 = omega arith in
    let q = ap (bytes_of n) d in
    let e = r.1 in
    (omega arith, cc)

-- one more in lane m
pub bytes_inc : (n m w : ℕ) → m < n → get_or (bytes_of n w) m 0 < 255 → bytes_of n (w + 256 ^ m) ≡ at_lane m (λ x. x + 1) (bytes_of n w)
unfolding bytes_of
bytes_inc zero m w h l = absurd (not-suc-le-zero h)
bytes_inc (suc n) zero w h l =
    let p : 256 ^ 0 ≡ 1 = pow-zero 256 in
    let small : w % 256 < 255 = l in
    let m : (w + 256 ^ 0) % 256 ≡ w % 256 + 1 = omega arith in
    let d : (w + 256 ^ 0) / 256 ≡ w / 256 = omega arith in
    let q = ap (bytes_of n) d in
    cc
bytes_inc (suc n) (suc m) w h l =
    let p : 256 ^ suc m ≡ 256 ^ m * 256 = pow-suc 256 m in
    let e : (w + 256 ^ suc m) % 256 ≡ w % 256 = omega arith in
    let d : (w + 256 ^ suc m) / 256 ≡ w / 256 + 256 ^ m = omega arith in
    let q = ap (bytes_of n) d in
    let r = bytes_inc n m (w / 256) (omega arith) l in
    cc

pub inc_below : (n m w : ℕ) → m < n → w < 256 ^ n → get_or (bytes_of n w) m 0 < 255 → w + 256 ^ m < 256 ^ n
unfolding bytes_of
inc_below zero m w h s l = absurd (not-suc-le-zero h)
inc_below (suc n) zero w h s l =
    let p : 256 ^ 0 ≡ 1 = pow-zero 256 in
    let q : 256 ^ suc n ≡ 256 ^ n * 256 = pow-suc 256 n in
    let small : w % 256 < 255 = l in
    omega arith
inc_below (suc n) (suc m) w h s l =
    let p : 256 ^ suc m ≡ 256 ^ m * 256 = pow-suc 256 m in
    let q : 256 ^ suc n ≡ 256 ^ n * 256 = pow-suc 256 n in
    let r = inc_below n m (w / 256) (omega arith) (omega arith) l in
    omega arith

-- one less in lane m
pub bytes_dec : (n m w : ℕ) → m < n → 0 < get_or (bytes_of n w) m 0 → (256 ^ m ≤ w) × (bytes_of n (w - 256 ^ m) ≡ at_lane m (λ x. x - 1) (bytes_of n w))
unfolding bytes_of
bytes_dec zero m w h l = absurd (not-suc-le-zero h)
bytes_dec (suc n) zero w h l =
    let p : 256 ^ 0 ≡ 1 = pow-zero 256 in
    let some : 0 < w % 256 = l in
    let m : (w - 256 ^ 0) % 256 ≡ w % 256 - 1 = omega arith in
    let d : (w - 256 ^ 0) / 256 ≡ w / 256 = omega arith in
    let q = ap (bytes_of n) d in
    (omega arith, cc)
bytes_dec (suc n) (suc m) w h l =
    let p : 256 ^ suc m ≡ 256 ^ m * 256 = pow-suc 256 m in
    let r = bytes_dec n m (w / 256) (omega arith) l in
    let le : 256 ^ m ≤ w / 256 = r.0 in
    let e : (w - 256 ^ suc m) % 256 ≡ w % 256 = omega arith in
    let d : (w - 256 ^ suc m) / 256 ≡ w / 256 - 256 ^ m = omega arith in
    let q = ap (bytes_of n) d in
    let s = r.1 in
    (omega arith, cc)

-- a number is 0 where each of its bytes is
pub bytes_zero : (n w : ℕ) → w < 256 ^ n → eqb w 0 ≡ all_zero (bytes_of n w)
unfolding bytes_of
bytes_zero zero w h =
    let p : 256 ^ 0 ≡ 1 = pow-zero 256 in
    let z : w ≡ 0 = omega arith in
    ap (λ t. eqb t 0) z
bytes_zero (suc n) w h =
    let p : 256 ^ suc n ≡ 256 ^ n * 256 = pow-suc 256 n in
    let r = bytes_zero n (w / 256) (omega arith) in
    split w ∙ ap (λ t. eqb (w % 256) 0 && t) r
  where
    split : (w : ℕ) → eqb w 0 ≡ (eqb (w % 256) 0 && eqb (w / 256) 0)
    split w = grind (arith, nat_tests)
