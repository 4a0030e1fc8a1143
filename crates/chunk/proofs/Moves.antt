-- The n bytes of a number under shifts: by whole lanes, by bits, and across from the number before.
-- Assumes nothing.
use Rattle.std.proofs.Common.{◌≡◌, ℕ, zero, suc, ◌+◌, ◌-◌, ◌*◌, ◌/◌, ◌%◌, ◌^◌, ◌<◌, ◌≤◌, ◌∷◌, ◌++◌, get_or, take, drop, replicate, sym, refl, ap, ◌∙◌, subst, not-suc-le-zero, mul_assoc, suc-mul, mul_comm, add-mul, suc-add, pow-suc, zero-add, div-one, add-one, arith, pow-add}
use native.Mathlib.Nat.{pow-zero, div-div-eq-div-mul, div-eq_of_lt}
use lib.Pow.{mod-mod-pow}
use lib.Bits.{bit_and, bit_or, and_mask, or_shifted_r}
use Rattle.std.proofs.lemmas.Nat.{field_of, one_shl, mod-mul-add, mod_below, div_below, div-add-mod'}
use Rattle.std.proofs.lemmas.List.{take_at}
use Rattle.chunk.specs.Rows.{bytes_of, moved_back, upper_bits, without_top}
use Rattle.chunk.proofs.Digits.{bytes_row, bytes_cons, bytes_none}

-- ---- shifts by whole lanes

by_one : (w n : ℕ) → w / 256 ^ suc n ≡ w / 256 / 256 ^ n
by_one w n = ap (λ t. w / t) (pow-suc 256 n ∙ mul_comm (256 ^ n) 256) ∙ sym (div-div-eq-div-mul w 256 (256 ^ n))

by_none : (w : ℕ) → w ≡ w / 256 ^ 0
by_none w = sym (ap (λ t. w / t) (pow-zero 256) ∙ div-one w)

pub bytes_append : (n m w : ℕ) → bytes_of (n + m) w ≡ bytes_of n w ++ bytes_of m (w / 256 ^ n)
unfolding bytes_of
bytes_append zero m w = ap (λ k. bytes_of k w) (zero-add m) ∙ ap (bytes_of m) (by_none w)
bytes_append (suc n) m w =
    ap (λ k. bytes_of k w) (suc-add n m)
    ∙ ap (λ t. (w % 256) ∷ t) (bytes_append n m (w / 256) ∙ ap (λ t. bytes_of n (w / 256) ++ bytes_of m t) (sym (by_one w n)))

pub bytes_drop : (n m w : ℕ) → drop n (bytes_of (n + m) w) ≡ bytes_of m (w / 256 ^ n)
unfolding bytes_of
bytes_drop zero m w = ap (λ k. bytes_of k w) (zero-add m) ∙ ap (bytes_of m) (by_none w)
bytes_drop (suc n) m w =
    ap (λ k. drop (suc n) (bytes_of k w)) (suc-add n m) ∙ bytes_drop n m (w / 256) ∙ ap (bytes_of m) (sym (by_one w n))

-- the byte in lane k
pub bytes_at : (n k w : ℕ) → k < n → get_or (bytes_of n w) k 0 ≡ w / 256 ^ k % 256
unfolding bytes_of
bytes_at zero k w h = absurd (not-suc-le-zero h)
bytes_at (suc n) zero w h = ap (λ t. t % 256) (by_none w)
bytes_at (suc n) (suc k) w h = bytes_at n k (w / 256) (omega arith) ∙ ap (λ t. t % 256) (sym (by_one w k))

-- `2 ^ (8 * n)` is n lanes
pub pow_lanes : (n : ℕ) → 2 ^ (n * 8) ≡ 256 ^ n
pow_lanes zero = refl
pow_lanes (suc n) =
    ap (λ t. 2 ^ t) (suc-mul n 8) ∙ pow-add 2 (n * 8) 8 ∙ ap (λ t. t * 256) (pow_lanes n) ∙ sym (pow-suc 256 n)

-- `1 << 8 * m` in a number of n lanes
pub one_lane : (n m : ℕ) → m < n → 1 * 2 ^ (m * 8) % 2 ^ (n * 8) ≡ 256 ^ m
one_lane n m h = one_shl (m * 8) (n * 8) (omega arith) ∙ pow_lanes m

back : (k m w : ℕ) → w < 256 ^ (k + m) → bytes_of (m + k) (w / 256 ^ k) ≡ drop k (bytes_of (k + m) w) ++ replicate k 0
back k m w h =
    let small : w / 256 ^ k / 256 ^ m ≡ 0 =
    div-div-eq-div-mul w (256 ^ k) (256 ^ m) ∙ ap (λ t. w / t) (sym (pow-add 256 k m)) ∙ div-eq_of_lt h in
    bytes_append m k (w / 256 ^ k)
    ∙ ap (λ t. bytes_of m (w / 256 ^ k) ++ t) (ap (bytes_of k) small ∙ bytes_none k)
    ∙ ap (λ t. t ++ replicate k 0) (sym (bytes_drop k m w))

-- `>> 8 * k` in a number of n lanes
pub bytes_back : (n k w : ℕ) → k ≤ n → w < 256 ^ n → bytes_of n (w / 2 ^ (k * 8)) ≡ moved_back k (bytes_of n w)
bytes_back n k w h small =
    let m : ℕ = n - k in
    let km : k + (n - k) ≡ n = omega arith in
    let mk : n - k + k ≡ n = omega arith in
    let fits : w < 256 ^ (k + (n - k)) = subst (λ t. w < 256 ^ t) (sym km) small in
    ap (λ t. bytes_of n (w / t)) (pow_lanes k)
    ∙ ap (λ t. bytes_of t (w / 256 ^ k)) (sym mk)
    ∙ back k (n - k) w fits
    ∙ ap (λ t. drop k (bytes_of t w) ++ replicate k 0) km

-- `>> 8 * k & 255`
pub bytes_lane : (n k w : ℕ) → k < n → bit_and (w / 2 ^ (k * 8)) 255 ≡ get_or (bytes_of n w) k 0
bytes_lane n k w h = and_mask (w / 2 ^ (k * 8)) 8 ∙ ap (λ t. w / t % 256) (pow_lanes k) ∙ sym (bytes_at n k w h)

-- ---- a shift by bits within the lanes

pub bytes_shr : (n k w : ℕ) → k < 8 → without_top k (bytes_of n (w / 2 ^ k)) ≡ upper_bits k (bytes_of n w)
unfolding bytes_of
bytes_shr zero k w h = refl
bytes_shr (suc n) k w h =
    let e : 8 - k + k ≡ 8 = omega arith in
    let turned : k + (8 - k) ≡ 8 = omega arith in
    let full : 2 ^ (8 - k + k) ≡ 256 = ap (λ t. 2 ^ t) e in
    let full' : 2 ^ (k + (8 - k)) ≡ 256 = ap (λ t. 2 ^ t) turned in
    let here : w / 2 ^ k % 256 % 2 ^ (8 - k) ≡ w % 256 / 2 ^ k =
    ap (λ t. w / 2 ^ k % t % 2 ^ (8 - k)) (sym full') ∙ mod-mod-pow (w / 2 ^ k) k (8 - k) ∙ sym (field_of w (8 - k) k) ∙ ap (λ t. w % t / 2 ^ k) full in
    let next : w / 2 ^ k / 256 ≡ w / 256 / 2 ^ k =
    div-div-eq-div-mul w (2 ^ k) 256 ∙ ap (λ t. w / t) (mul_comm (2 ^ k) 256) ∙ sym (div-div-eq-div-mul w 256 (2 ^ k)) in
    ap (λ t. t ∷ without_top k (bytes_of n (w / 2 ^ k / 256))) here
    ∙ ap (λ t. (w % 256 / 2 ^ k) ∷ without_top k (bytes_of n t)) next
    ∙ ap (λ t. (w % 256 / 2 ^ k) ∷ t) (bytes_shr n k (w / 256) h)

-- ---- one lane taken over from the number before

bytes_plus : (n w k : ℕ) → bytes_of n (w + k * 256 ^ n) ≡ bytes_of n w
unfolding bytes_of
bytes_plus zero w k = refl
bytes_plus (suc n) w k =
    let p : k * 256 ^ suc n ≡ k * 256 ^ n * 256 = ap (λ t. k * t) (pow-suc 256 n) ∙ sym (mul_assoc k (256 ^ n) 256) in
    let m : (w + k * 256 ^ suc n) % 256 ≡ w % 256 = omega arith in
    let d : (w + k * 256 ^ suc n) / 256 ≡ w / 256 + k * 256 ^ n = omega arith in
    let q = ap (bytes_of n) d in
    let r = bytes_plus n (w / 256) k in
    cc

pow_pos : (m : ℕ) → 0 < 256 ^ m
pow_pos zero = omega (arith, pow-zero 256)
pow_pos (suc m) = omega (arith, pow-suc 256 m, pow_pos m)

-- what `<< 8` keeps
shifted : (o p : ℕ) → 0 < p → o * 256 % (p * 256) ≡ o % p * 256
shifted o p h =
    let lt : o % p * 256 < p * 256 = omega (arith, mod_below o p h) in
    let e : o * 256 ≡ o / p * (p * 256) + o % p * 256 =
    ap (λ t. t * 256) (sym (div-add-mod' o p)) ∙ add-mul (o / p * p) (o % p) 256 ∙ ap (λ t. t + o % p * 256) (mul_assoc (o / p) p 256) in
    ap (λ t. t % (p * 256)) e ∙ mod-mul-add (o / p) (p * 256) (o % p * 256) lt

-- `before >> 8 * m | next << 8` in numbers of m + 1 lanes
pub bytes_across : (m w o : ℕ) → w < 256 ^ suc m → bytes_of (suc m) (bit_or (w / 256 ^ m) (o * 256 % 256 ^ suc m)) ≡ get_or (bytes_of (suc m) w) m 0 ∷ take m (bytes_of (suc m) o)
bytes_across m w o h =
    let p : 256 ^ suc m ≡ 256 ^ m * 256 = pow-suc 256 m in
    let last : w / 256 ^ m < 256 = div_below w (256 ^ m) 256 (pow_pos m) (omega arith) in
    let x : ℕ = o % 256 ^ m * 256 + w / 256 ^ m in
    let joined : bit_or (w / 256 ^ m) (o * 256 % 256 ^ suc m) ≡ x =
    ap (λ t. bit_or (w / 256 ^ m) (o * 256 % t)) p ∙ ap (bit_or (w / 256 ^ m)) (shifted o (256 ^ m) (pow_pos m)) ∙ or_shifted_r (o % 256 ^ m) 8 (w / 256 ^ m) last in
    let first : x % 256 ≡ w / 256 ^ m % 256 = omega arith in
    let next : x / 256 ≡ o % 256 ^ m = omega arith in
    let whole : o % 256 ^ m + o / 256 ^ m * 256 ^ m ≡ o = omega (arith, div-add-mod' o (256 ^ m)) in
    let kept : bytes_of m o ≡ take m (bytes_of (suc m) o) =
    sym (take_at (bytes_of m o) (bytes_of 1 (o / 256 ^ m)) m (bytes_row m o).long)
    ∙ ap (take m) (sym (bytes_append m 1 o) ∙ ap (λ t. bytes_of t o) (add-one m)) in
    ap (bytes_of (suc m)) joined
    ∙ bytes_cons m x
    ∙ ap (λ t. t ∷ bytes_of m (x / 256)) (first ∙ sym (bytes_at (suc m) m w (omega arith)))
    ∙ ap (λ t. get_or (bytes_of (suc m) w) m 0 ∷ t) (ap (bytes_of m) next ∙ sym (bytes_plus m (o % 256 ^ m) (o / 256 ^ m)) ∙ ap (bytes_of m) whole ∙ kept)
