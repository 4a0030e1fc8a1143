-- The sum of the n bytes of a number, as the top byte of its product with 1 in every lane.
-- Assumes nothing.
use Rattle.std.proofs.Common.{◌≡◌, ℕ, zero, suc, ◌+◌, ◌*◌, ◌/◌, ◌%◌, ◌^◌, ◌<◌, ◌≤◌, List, [], ◌∷◌, length, sym, refl, ap, ◌∙◌, subst, mul_assoc, mul_comm, add-mul, pow-suc, mul-add, mul_left_comm, arith}
use lib.Lanes.{Each1, sum_l, number_l}
use Rattle.std.proofs.lemmas.Nat.{mod-mul-add, div-mul-add, mul-add-lt}
use Rattle.std.proofs.lemmas.Simd.{sum_bound}
use Rattle.chunk.specs.Rows.{bytes_of}
use Rattle.chunk.proofs.Digits.{bytes_row, bytes_cons, number_bytes, repeated, repeated_times, repeated_below}

repeated_top : (m : ℕ) → repeated (suc m) 1 ≡ repeated m 1 + 256 ^ m
repeated_top zero = refl
repeated_top (suc m) = omega (arith, repeated_top m, pow-suc 256 m)

-- a product with 256 ^ m or with a number of lanes, taken apart
out_of : (a b : ℕ) → a * 256 * b ≡ 256 * (a * b)
out_of a b = ap (λ t. t * b) (mul_comm a 256) ∙ mul_assoc 256 a b

product : (x : ℕ) (xs : List ℕ)
    → (q : ℕ) × (low : ℕ)
    × (number_l 256 (x ∷ xs) * repeated (suc (length xs)) 1 ≡ 256 ^ suc (length xs) * q + (256 ^ length xs * sum_l (x ∷ xs) + low))
    × (low ≤ sum_l (x ∷ xs) * repeated (length xs) 1)
product x [] = (0, 0, omega arith, omega arith)
product x (y ∷ ys) =
    let r = product y ys in
    let q : ℕ = r.0 in
    let low : ℕ = r.1 in
    let n : ℕ = number_l 256 (y ∷ ys) in
    let s : ℕ = sum_l (y ∷ ys) in
    let k : ℕ = repeated (suc (length ys)) 1 in
    let j : ℕ = repeated (length ys) 1 in
    let p : ℕ = 256 ^ suc (length ys) in
    let p0 : ℕ = 256 ^ length ys in
    let top : repeated (suc (suc (length ys))) 1 ≡ k + p = repeated_top (suc (length ys)) in
    let pp : 256 ^ suc (suc (length ys)) ≡ p * 256 = pow-suc 256 (suc (length ys)) in
    let ps : p ≡ p0 * 256 = pow-suc 256 (length ys) in
    let ih : n * k ≡ p * q + (p0 * s + low) = r.2 in
    let le : low ≤ s * j = r.3 in
    let e1 : (x + 256 * n) * (k + p) ≡ x * (k + p) + 256 * n * (k + p) = add-mul x (256 * n) (k + p) in
    let e2 : x * (k + p) ≡ x * k + x * p = mul-add x k p in
    let e3 : 256 * n * (k + p) ≡ 256 * (n * k + n * p) = mul_assoc 256 n (k + p) ∙ ap (λ t. 256 * t) (mul-add n k p) in
    let t1 : p * 256 * (q + n) ≡ 256 * (p * q + p * n) = out_of p (q + n) ∙ ap (λ t. 256 * t) (mul-add p q n) in
    let t2 : p * (x + s) ≡ p * x + p * s = mul-add p x s in
    let t3 : p * s ≡ 256 * (p0 * s) = ap (λ t. t * s) ps ∙ out_of p0 s in
    let c1 : p * x ≡ x * p = mul_comm p x in
    let c2 : p * n ≡ n * p = mul_comm p n in
    let b1 : s * k ≡ s * 1 + s * (256 * j) = mul-add s 1 (256 * j) in
    let b2 : s * (256 * j) ≡ 256 * (s * j) = mul_left_comm s 256 j in
    let b3 : (x + s) * k ≡ x * k + s * k = add-mul x s k in
    let whole : (x + 256 * n) * (k + p) ≡ p * 256 * (q + n) + (p * (x + s) + (x * k + 256 * low)) = omega arith in (
      q + n,
      x * k + 256 * low,
      ap (λ t. (x + 256 * n) * t) top ∙ whole ∙ ap (λ t. t * (q + n) + (p * (x + s) + (x * k + 256 * low))) (sym pp),
      omega arith,
    )

top_of_product : (x : ℕ) (xs : List ℕ) → sum_l (x ∷ xs) < 256
    → number_l 256 (x ∷ xs) * repeated (suc (length xs)) 1 % 256 ^ suc (length xs) / 256 ^ length xs ≡ sum_l (x ∷ xs)
top_of_product x xs h =
    let r = product x xs in
    let p : ℕ = 256 ^ length xs in
    let s : ℕ = sum_l (x ∷ xs) in
    let pp : 256 ^ suc (length xs) ≡ p * 256 = pow-suc 256 (length xs) in
    let times : s * repeated (length xs) 1 ≡ repeated (length xs) s = mul_comm s (repeated (length xs) 1) ∙ repeated_times (length xs) s in
    let fits : repeated (length xs) s < p = repeated_below (length xs) s h in
    let low : r.1 < p = omega (arith, r.3) in
    let order : p * s + r.1 ≡ s * p + r.1 = ap (λ t. t + r.1) (mul_comm p s) in
    let under : s * p + r.1 < 256 ^ suc (length xs) = omega (arith, mul-add-lt s p r.1 256 h low) in
    ap (λ t. t % 256 ^ suc (length xs) / p) (r.2 ∙ ap (λ t. t + (p * s + r.1)) (mul_comm (256 ^ suc (length xs)) r.0) ∙ ap (λ t. r.0 * 256 ^ suc (length xs) + t) order)
    ∙ ap (λ t. t / p) (mod-mul-add r.0 (256 ^ suc (length xs)) (s * p + r.1) under)
    ∙ div-mul-add s p r.1 low

-- `w.wrapping_mul(1 in every lane) >> 8 * m` in a number of m + 1 lanes, none above `most`
pub sum_lanes : (m w most : ℕ) → w < 256 ^ suc m → Each1 (λ x. x ≤ most) (bytes_of (suc m) w) → most * suc m < 256
    → w * repeated (suc m) 1 % 256 ^ suc m / 256 ^ m ≡ sum_l (bytes_of (suc m) w)
sum_lanes m w most h each room =
    let xs : List ℕ = bytes_of m (w / 256) in
    let sum : ℕ = sum_l (bytes_of (suc m) w) in
    let cons : bytes_of (suc m) w ≡ (w % 256) ∷ xs = bytes_cons m w in
    let long : length (bytes_of (suc m) w) ≡ suc m = (bytes_row (suc m) w).long in
    let bound : sum ≤ most * suc m = subst (λ k. sum ≤ most * k) long (sum_bound most (bytes_of (suc m) w) each) in
    let number : number_l 256 ((w % 256) ∷ xs) ≡ w = ap (number_l 256) (sym cons) ∙ number_bytes (suc m) w h in
    let small : sum_l ((w % 256) ∷ xs) < 256 = omega (arith, ap sum_l cons) in
    let P : ℕ → Type 0 = λ k. w * repeated (suc k) 1 % 256 ^ suc k / 256 ^ k ≡ sum in
    subst P (bytes_row m (w / 256)).long
    (ap (λ t. t * repeated (suc (length xs)) 1 % 256 ^ suc (length xs) / 256 ^ length xs) (sym number) ∙ top_of_product (w % 256) xs small ∙ ap sum_l (sym cons))
