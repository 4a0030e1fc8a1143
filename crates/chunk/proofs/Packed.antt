-- Formulas that test all n bytes of a number at once.
-- Assumes nothing.
use Rattle.std.proofs.Common.{◌≡◌, ℕ, zero, suc, ◌+◌, ◌-◌, ◌*◌, ◌/◌, ◌%◌, ◌^◌, ◌<◌, ◌≤◌, Bool, true, false, cond, ◌&&◌, T, eqb, ltb, List, [], ◌∷◌, map, replicate, sym, refl, ap, ◌∙◌, subst, ⊎_elim, le_of_suc-le-suc, not-suc-le-zero, eq-or-lt_of_le, pow-suc, arith, eqb→eq}
use lib.Dec.{eqb_refl}
use lib.Lanes.{zip2, Each1, Each2}
use lib.Bits.{bit_and, bit_or, bit_xor, and_le_r, or_lt, xor_lt, and_mod, and_shr, and_zero_r, and_mask, xor_self, xor_zero_r, xor_zero_l, xor_assoc}
use Rattle.std.proofs.lemmas.List.{map-id}
use Rattle.std.proofs.lemmas.Simd.{map-map}
use Rattle.std.proofs.lemmas.Bool.Decides.{nat_tests}
use Rattle.chunk.specs.Rows.{bytes_of, is_byte, is_between}
use Rattle.chunk.proofs.Rows.{Each1-map}
use Rattle.chunk.proofs.Digits.{bytes_row, repeated, bytes_repeated, repeated_times, repeated_below, bytes_and, bytes_or, bytes_xor, bytes_add, add_below, bytes_sub}
use Rattle.chunk.proofs.Moves.{pow_lanes}

-- ---- which lanes are a byte: after the byte is taken off by xor, whether the lower seven bits carry and the top bit

abbrev pub equal_number : ℕ → ℕ → ℕ → ℕ
equal_number n w b =
    let rest : ℕ = bit_xor w (repeated n 1 * b) in
    bit_and (repeated n 255 - bit_or (bit_and rest (repeated n 127) + repeated n 127) rest) (repeated n 128) / 128

top_only : (y : ℕ) → bit_and y 128 % 128 ≡ 0
top_only y =
    let e : bit_and y 128 % 128 ≡ bit_and (y % 128) 0 = and_mod y 128 7 in
    e ∙ and_zero_r (y % 128)

-- the formula at one lane
unfoldable is_none : ℕ → ℕ
is_none y = bit_and (255 - bit_or (bit_and y 127 + 127) y) 128 / 128

-- a test that is computed at each number below n
below : (ℕ → Bool) → ℕ → Bool
below f zero = true
below f (suc n) = f n && below f n

at_below : (f : ℕ → Bool) (n : ℕ) → T (below f n) → (k : ℕ) → k < n → T (f k)
unfolding below
at_below f zero t k h = absurd (not-suc-le-zero h)
at_below f (suc n) t k h =
    ⊎_elim (λ (e : k ≡ n). subst (λ m. T (f m)) (sym e) (left (f n) (below f n) t))
    (λ (l : k < n). at_below f n (right (f n) (below f n) t) k l)
    (eq-or-lt_of_le (le_of_suc-le-suc h))
  where
    left : (a b : Bool) → T (a && b) → T a
    left true b t = tt
    left false b t = t

    right : (a b : Bool) → T (a && b) → T b
    right true b t = t
    right false b t = absurd t

none_test : ℕ → Bool
none_test y = eqb (is_none y) (cond (eqb y 0) 1 0)

none_tested : T (below none_test 256)
unfolding below none_test is_none
none_tested = tt

none_is : (y : ℕ) → y < 256 → is_none y ≡ cond (eqb y 0) 1 0
unfolding none_test
none_is y h = eqb→eq (is_none y) (cond (eqb y 0) 1 0) (at_below none_test 256 none_tested y h)

xor_none : (x b : ℕ) → eqb (bit_xor x b) 0 ≡ eqb x b
xor_none x b =
    both (eqb (bit_xor x b) 0) (eqb x b)
    (λ t. passes x b (same (eqb→eq (bit_xor x b) 0 t)))
    (λ t. passes (bit_xor x b) 0 (ap (λ y. bit_xor y b) (eqb→eq x b t) ∙ xor_self b))
  where
    same : bit_xor x b ≡ 0 → x ≡ b
    same e = sym (xor_zero_r x) ∙ ap (bit_xor x) (sym (xor_self b)) ∙ sym (xor_assoc x b b) ∙ ap (λ t. bit_xor t b) e ∙ xor_zero_l b

    passes : (a b : ℕ) → a ≡ b → T (eqb a b)
    passes a b e = subst (λ (t : ℕ). T (eqb a t)) e (eqb_refl a)

    both : (a b : Bool) → (T a → T b) → (T b → T a) → a ≡ b
    both true true f g = refl
    both true false f g = absurd (f tt)
    both false true f g = absurd (g tt)
    both false false f g = refl

-- ---- which lanes lie strictly between a and b: three tests, each in the top bit of its lane

abbrev pub between_number : ℕ → ℕ → ℕ → ℕ → ℕ
between_number n w a b =
    let low : ℕ = bit_and w (repeated n 127) in
    let under : ℕ = repeated n 1 * (127 + b) - low in
    let over : ℕ = low + repeated n 1 * (127 - a) in
    bit_and (bit_and (bit_and under (repeated n 255 - w)) over) (repeated n 128) / 128

three : (u v o : Bool) → bit_and (bit_and (bit_and (cond u 1 0) (cond v 1 0)) (cond o 1 0)) 1 ≡ cond ((u && v) && o) 1 0
three true true true = refl
three true true false = refl
three true false true = refl
three true false false = refl
three false true true = refl
three false true false = refl
three false false true = refl
three false false false = refl

under_bit : (t b : ℕ) → t < 128 → b ≤ 127 → (127 + b - t) / 128 ≡ cond (ltb t b) 1 0
under_bit t b ht hb = grind (arith, nat_tests)

over_bit : (t a : ℕ) → t < 128 → a ≤ 127 → (t + (127 - a)) / 128 ≡ cond (ltb a t) 1 0
over_bit t a ht ha = grind (arith, nat_tests)

plain_bit : (x : ℕ) → x < 256 → (255 - x) / 128 ≡ cond (ltb x 128) 1 0
plain_bit x hx = grind (arith, nat_tests)

joined : (x a b : ℕ) → x < 256 → a < b → b ≤ 127 → ◌≡◌ {A = ℕ} (cond ((ltb (x % 128) b && ltb x 128) && ltb a (x % 128)) 1 0) (is_between a b x)
joined x a b hx ab hb = grind (arith, nat_tests)

between_lane : (x a b : ℕ) → x < 256 → a < b → b ≤ 127
    → bit_and (bit_and (bit_and (127 + b - bit_and x 127) (255 - x)) (bit_and x 127 + (127 - a))) 128 / 128 ≡ is_between a b x
between_lane x a b hx ab hb =
    let small : x % 128 < 128 = omega arith in
    ap (λ y. bit_and (bit_and (bit_and (127 + b - y) (255 - x)) (y + (127 - a))) 128 / 128) (and_mask x 7)
    ∙ and_shr (bit_and (bit_and (127 + b - x % 128) (255 - x)) (x % 128 + (127 - a))) 128 7
    ∙ ap (λ y. bit_and y 1) (and_shr (bit_and (127 + b - x % 128) (255 - x)) (x % 128 + (127 - a)) 7)
    ∙ ap (λ y. bit_and (bit_and y ((x % 128 + (127 - a)) / 128)) 1) (and_shr (127 + b - x % 128) (255 - x) 7)
    ∙ ap (λ y. bit_and (bit_and (bit_and y ((255 - x) / 128)) ((x % 128 + (127 - a)) / 128)) 1) (under_bit (x % 128) b small hb)
    ∙ ap (λ y. bit_and (bit_and (bit_and (cond (ltb (x % 128) b) 1 0) y) ((x % 128 + (127 - a)) / 128)) 1) (plain_bit x hx)
    ∙ ap (λ y. bit_and (bit_and (bit_and (cond (ltb (x % 128) b) 1 0) (cond (ltb x 128) 1 0)) y) 1) (over_bit (x % 128) a small (omega arith))
    ∙ three (ltb (x % 128) b) (ltb x 128) (ltb a (x % 128))
    ∙ joined x a b hx ab hb

-- ---- a number whose lanes are each g of a lane of w

pub record By (n w : ℕ) (g : ℕ → ℕ) (x : ℕ) : Type 0 where
  pub below : x < 256 ^ n
  pub lanes : bytes_of n x ≡ map g (bytes_of n w)

zip2_maps : {A B C D : Type 0} (f : B → C → D) (g : A → B) (h : A → C) (xs : List A) → zip2 f (map g xs) (map h xs) ≡ map (λ x. f (g x) (h x)) xs
zip2_maps f g h [] = refl
zip2_maps f g h (x ∷ xs) = ap (λ t. f (g x) (h x) ∷ t) (zip2_maps f g h xs)

Each2-maps : {A B C : Type 0} (R : B → C → Type 0) (P : A → Type 0) (g : A → B) (h : A → C) (xs : List A) → Each1 P xs → ((x : A) → P x → R (g x) (h x)) → Each2 R (map g xs) (map h xs)
Each2-maps R P g h [] p k = tt
Each2-maps R P g h (x ∷ xs) p k = (k x p.0, Each2-maps R P g h xs p.1 k)

map_on : {A B : Type 0} (P : A → Type 0) (g h : A → B) (xs : List A) → Each1 P xs → ((x : A) → P x → g x ≡ h x) → map g xs ≡ map h xs
map_on P g h [] p k = refl
map_on P g h (x ∷ xs) p k =
    let e = k x p.0 in
    let r = map_on P g h xs p.1 k in
    cc

map_const : (c n w : ℕ) → replicate n c ≡ map (λ _. c) (bytes_of n w)
unfolding bytes_of
map_const c zero w = refl
map_const c (suc n) w = ap (λ t. c ∷ t) (map_const c n (w / 256))

-- the bound of a bitwise operation, in lanes
in_lanes : (f : ℕ → ℕ → ℕ) → ((k a b : ℕ) → a < 2 ^ k → b < 2 ^ k → f a b < 2 ^ k) → (n a b : ℕ) → a < 256 ^ n → b < 256 ^ n → f a b < 256 ^ n
in_lanes f k n a b la lb =
    let e = pow_lanes n in
    subst (λ t. f a b < t) e (k (n * 8) a b (subst (λ t. a < t) (sym e) la) (subst (λ t. b < t) (sym e) lb))

-- a shift right by seven, where a lane has its top bit at most
bytes_top : (n a : ℕ) → a < 256 ^ n → Each1 (λ x. x % 128 ≡ 0) (bytes_of n a) → bytes_of n (a / 128) ≡ map (λ x. x / 128) (bytes_of n a)
unfolding bytes_of
bytes_top zero a ha h = refl
bytes_top (suc zero) a ha h =
    let m : a / 128 % 256 ≡ a % 256 / 128 = omega arith in
    cc
bytes_top (suc (suc n)) a ha h =
    let p : 256 ^ suc (suc n) ≡ 256 ^ suc n * 256 = pow-suc 256 (suc n) in
    let low : a % 256 % 128 ≡ 0 = h.0 in
    let next : a / 256 % 256 % 128 ≡ 0 = h.1.0 in
    let whole : a / 256 ≡ 128 * (a / 256 / 128) = omega arith in
    let flat : a / 128 ≡ a % 256 / 128 + 256 * (a / 256 / 128) = omega arith in
    let m : a / 128 % 256 ≡ a % 256 / 128 = low_of (a / 128) (a % 256 / 128) (a / 256 / 128) flat (omega arith) in
    let d : a / 128 / 256 ≡ a / 256 / 128 = omega arith in
    let r = bytes_top (suc n) (a / 256) (omega arith) h.1 in
    let q = ap (bytes_of (suc n)) d in
    cc
  where
    low_of : (x r q : ℕ) → x ≡ r + 256 * q → r < 2 → x % 256 ≡ r
    low_of x r q e h = omega arith

module _ (n w : ℕ) (hw : w < 256 ^ n) where
  by_self : By n w (λ x. x) w
  by_self = record { below = hw; lanes = sym (map-id (bytes_of n w)) }

  by_repeated : (k : ℕ) → k < 256 → By n w (λ _. k) (repeated n k)
  by_repeated k h = record { below = repeated_below n k h; lanes = bytes_repeated n k h ∙ map_const k n w }

  by_times : (k : ℕ) → k < 256 → By n w (λ _. k) (repeated n 1 * k)
  by_times k h = subst (By n w (λ _. k)) (sym (repeated_times n k)) (by_repeated k h)

  by_zip : (op : ℕ → ℕ → ℕ) {f g : ℕ → ℕ} {a b c : ℕ} → c < 256 ^ n → bytes_of n c ≡ zip2 op (bytes_of n a) (bytes_of n b) → By n w f a → By n w g b → By n w (λ x. op (f x) (g x)) c
  by_zip op {f = f} {g = g} {b = b} l e p q =
      record { below = l; lanes = e ∙ ap (λ t. zip2 op t (bytes_of n b)) p.lanes ∙ ap (λ t. zip2 op (map f (bytes_of n w)) t) q.lanes ∙ zip2_maps op f g (bytes_of n w) }

  by_and : {f g : ℕ → ℕ} {a b : ℕ} → By n w f a → By n w g b → By n w (λ x. bit_and (f x) (g x)) (bit_and a b)
  by_and {a = a} {b = b} p q = let l : b < 256 ^ n = q.below in by_zip bit_and (omega (arith, and_le_r a b)) (bytes_and n a b) p q

  by_or : {f g : ℕ → ℕ} {a b : ℕ} → By n w f a → By n w g b → By n w (λ x. bit_or (f x) (g x)) (bit_or a b)
  by_or {a = a} {b = b} p q = by_zip bit_or (in_lanes bit_or or_lt n a b p.below q.below) (bytes_or n a b) p q

  by_xor : {f g : ℕ → ℕ} {a b : ℕ} → By n w f a → By n w g b → By n w (λ x. bit_xor (f x) (g x)) (bit_xor a b)
  by_xor {a = a} {b = b} p q = by_zip bit_xor (in_lanes bit_xor xor_lt n a b p.below q.below) (bytes_xor n a b) p q

  -- a fact of each two lanes
  by_each : (R : ℕ → ℕ → Type 0) {f g : ℕ → ℕ} {a b : ℕ} → By n w f a → By n w g b → ((x : ℕ) → x < 256 → R (f x) (g x)) → Each2 R (bytes_of n a) (bytes_of n b)
  by_each R {f = f} {g = g} {b = b} p q k =
      let all = Each2-maps R (λ x. x < 256) f g (bytes_of n w) (bytes_row n w).bytes k in
      subst (λ t. Each2 R t (bytes_of n b)) (sym p.lanes) (subst (λ t. Each2 R (map f (bytes_of n w)) t) (sym q.lanes) all)

  by_add : {f g : ℕ → ℕ} {a b : ℕ} → By n w f a → By n w g b → ((x : ℕ) → x < 256 → f x + g x < 256) → By n w (λ x. f x + g x) (a + b)
  by_add {a = a} {b = b} p q k =
      let each = by_each (λ x y. x + y < 256) p q k in
      by_zip (λ x y. x + y) (add_below n a b p.below q.below each) (bytes_add n a b each) p q

  by_sub : {f g : ℕ → ℕ} {a b : ℕ} → By n w f a → By n w g b → ((x : ℕ) → x < 256 → g x ≤ f x) → By n w (λ x. f x - g x) (a - b)
  by_sub {a = a} {b = b} p q k =
      let d = bytes_sub n a b p.below q.below (by_each (λ x y. y ≤ x) p q k) in
      let l : a < 256 ^ n = p.below in
      by_zip (λ x y. x - y) (omega arith) d.1 p q

  by_top : {f : ℕ → ℕ} {a : ℕ} → By n w f a → ((x : ℕ) → x < 256 → f x % 128 ≡ 0) → By n w (λ x. f x / 128) (a / 128)
  by_top {f = f} {a = a} p k =
      let R : List ℕ → Type 0 = Each1 (λ x. x % 128 ≡ 0) in
      let all : R (map f (bytes_of n w)) = Each1-map (λ x. x < 256) (λ x. x % 128 ≡ 0) f (bytes_of n w) k (bytes_row n w).bytes in
      let l : a < 256 ^ n = p.below in
      record {
        below = omega arith;
        lanes = bytes_top n a p.below (subst R (sym p.lanes) all) ∙ ap (map (λ x. x / 128)) p.lanes ∙ map-map (λ x. x / 128) f (bytes_of n w);
      }

  by_same : {f : ℕ → ℕ} {a : ℕ} (g : ℕ → ℕ) → By n w f a → ((x : ℕ) → x < 256 → f x ≡ g x) → bytes_of n a ≡ map g (bytes_of n w)
  by_same {f = f} g p k = p.lanes ∙ map_on (λ x. x < 256) f g (bytes_of n w) (bytes_row n w).bytes k

  pub equal_lanes : (b : ℕ) → b < 256 → bytes_of n (equal_number n w b) ≡ map (is_byte b) (bytes_of n w)
  unfolding is_none
  equal_lanes b hb =
      let rest = by_xor (by_self) (by_times b hb) in
      let low = by_and rest (by_repeated 127 (omega arith)) in
      let carried = by_add low (by_repeated 127 (omega arith)) (λ x h. omega (arith, and_le_r (bit_xor x b) 127)) in
      let some = by_or carried rest in
      let none =
      by_sub (by_repeated 255 (omega arith)) some
      (λ x h. omega (arith, or_lt 8 (bit_and (bit_xor x b) 127 + 127) (bit_xor x b) (omega (arith, and_le_r (bit_xor x b) 127)) (xor_lt 8 x b h hb))) in
      let top = by_and none (by_repeated 128 (omega arith)) in
      by_same (is_byte b) (by_top top (λ x h. top_only (255 - bit_or (bit_and (bit_xor x b) 127 + 127) (bit_xor x b))))
      (λ x h. none_is (bit_xor x b) (xor_lt 8 x b h hb) ∙ ap (λ t. cond t 1 0) (xor_none x b))

  pub between_lanes : (a b : ℕ) → a < b → b ≤ 127 → bytes_of n (between_number n w a b) ≡ map (is_between a b) (bytes_of n w)
  between_lanes a b ab hb =
      let low = by_and (by_self) (by_repeated 127 (omega arith)) in
      let under = by_sub (by_times (127 + b) (omega arith)) low (λ x h. omega (arith, and_le_r x 127)) in
      let plain = by_sub (by_repeated 255 (omega arith)) (by_self) (λ x h. omega arith) in
      let over = by_add low (by_times (127 - a) (omega arith)) (λ x h. omega (arith, and_le_r x 127)) in
      let top = by_and (by_and (by_and under plain) over) (by_repeated 128 (omega arith)) in
      by_same (is_between a b)
      (by_top top (λ x h. top_only (bit_and (bit_and (127 + b - bit_and x 127) (255 - x)) (bit_and x 127 + (127 - a)))))
      (λ x h. between_lane x a b h ab hb)
