-- Rows of n bytes: what makes one, and what stands in each lane of the rows that the steps make.
-- Assumes nothing.
use Rattle.std.proofs.Common.{◌≡◌, ℕ, zero, suc, ◌+◌, ◌-◌, ◌/◌, ◌%◌, ◌^◌, ◌<◌, ◌≤◌, Bool, true, false, cond, ◌&&◌, T, eqb, ltb, ◌⊎◌, List, [], ◌∷◌, ◌++◌, map, length, get_or, take, drop, set, replicate, sym, refl, ap, ◌∙◌, subst, inl, inr, ⊎_elim, le_of_suc-le-suc, not-suc-le-zero, mod-eq_of_lt, arith, eqb→eq, ltb→lt, length-append, length-drop, length-set, length-take}
use lib.ListN.{length-map, length-replicate}
use lib.Lanes.{zip2, Each1, Each2, chunk, all_below}
use lib.Bits.{bit_and, and_le_l}
use mir.Val.{bool_byte}
use Rattle.std.proofs.lemmas.Simd.{length-chunk, Each1-chunk, Each1-replicate, Each1-from_get_or, length-zip2, get_or-zip2, Each1-zip2, Each1-get_or}
use Rattle.std.proofs.lemmas.List.{get_or-map, get_or_append_left, get_or-append_right, get_or-drop, get_or-take, get_or-replicate, get_or_past, drop_all}
use Rattle.std.proofs.lemmas.Nat.{shr_below, shr_le}
use Rattle.std.proofs.lemmas.Bool.Decides.{nat_tests, leb_tells}
use Rattle.chunk.specs.Rows.{Row, is_row, moved_back, upper_bits, without_top}

-- ---- a row as a fact and as a test

and_left : (a b : Bool) → (a && b) ≡ true → a ≡ true
and_left true b t = refl
and_left false b t = t

and_right : (a b : Bool) → (a && b) ≡ true → b ≡ true
and_right true b t = t
and_right false b t = absurd (let z : ◌≡◌ {A = ℕ} 0 1 = cc in omega arith)

passes : (b : Bool) → b ≡ true → T b
passes b e = subst T (sym e) tt

all_bytes : (row : List ℕ) → all_below 256 row ≡ true → Each1 (λ x. x < 256) row
all_bytes [] e = tt
all_bytes (x ∷ row) e =
    (ltb→lt x 256 (passes (ltb x 256) (and_left (ltb x 256) (all_below 256 row) e)), all_bytes row (and_right (ltb x 256) (all_below 256 row) e))

all_below_lem : (row : List ℕ) → Each1 (λ x. x < 256) row → all_below 256 row ≡ true
all_below_lem [] h = refl
all_below_lem (x ∷ row) h =
    let lt : x < 256 = h.0 in
    let t : ltb x 256 ≡ true = grind (arith, nat_tests) in
    ap (λ b. b && all_below 256 row) t ∙ all_below_lem row h.1

pub row_of : {n : ℕ} {row : List ℕ} → is_row n row ≡ true → Row n row
row_of {n = n} {row = row} e =
    record {
      long = eqb→eq (length row) n (passes (eqb (length row) n) (and_left (eqb (length row) n) (all_below 256 row) e));
      bytes = all_bytes row (and_right (eqb (length row) n) (all_below 256 row) e);
    }

pub is_row_lem : {n : ℕ} {row : List ℕ} → Row n row → is_row n row ≡ true
is_row_lem {n = n} {row = row} r =
    let long : length row ≡ n = r.long in
    let t : eqb (length row) n ≡ true = grind (arith, nat_tests) in
    ap (λ b. b && all_below 256 row) t ∙ all_below_lem row r.bytes

-- ---- rows from rows

pub Each1-map : {A B : Type 0} (P : A → Type 0) (Q : B → Type 0) (f : A → B) (xs : List A) → ((x : A) → P x → Q (f x)) → Each1 P xs → Each1 Q (map f xs)
Each1-map P Q f [] k h = tt
Each1-map P Q f (x ∷ xs) k h = (k x h.0, Each1-map P Q f xs k h.1)

Each1-append : {A : Type 0} (P : A → Type 0) (xs ys : List A) → Each1 P xs → Each1 P ys → Each1 P (xs ++ ys)
Each1-append P [] ys p q = q
Each1-append P (x ∷ xs) ys p q = (p.0, Each1-append P xs ys p.1 q)

Each1-drop : {A : Type 0} (P : A → Type 0) (n : ℕ) (xs : List A) → Each1 P xs → Each1 P (drop n xs)
Each1-drop P zero xs e = e
Each1-drop P (suc n) [] e = tt
Each1-drop P (suc n) (x ∷ xs) e = Each1-drop P n xs e.1

Each1-set : {A : Type 0} (P : A → Type 0) (xs : List A) (i : ℕ) (y : A) → P y → Each1 P xs → Each1 P (set xs i y)
Each1-set P [] i y h e = tt
Each1-set P (x ∷ xs) zero y h e = (h, e.1)
Each1-set P (x ∷ xs) (suc i) y h e = (e.0, Each1-set P xs i y h e.1)

Each2-from_left : (f : ℕ → ℕ → ℕ) (xs ys : List ℕ) → ((x y : ℕ) → x < 256 → f x y < 256) → Each1 (λ x. x < 256) xs → Each2 (λ x y. f x y < 256) xs ys
Each2-from_left f [] ys k h = tt
Each2-from_left f (x ∷ xs) [] k h = tt
Each2-from_left f (x ∷ xs) (y ∷ ys) k h = (k x y h.0, Each2-from_left f xs ys k h.1)

pub row_chunk : (place n : ℕ) (text : List ℕ) → place + n ≤ length text → ((k : ℕ) → get_or text k 0 < 256) → Row n (chunk place n text)
row_chunk place n text h small =
    record {
      long = length-chunk place n text h;
      bytes = Each1-chunk (λ x. x < 256) place n text (Each1-from_get_or (λ x. x < 256) text 0 (λ k lt. small k));
    }

-- the part of a text that `&text[place..place + n]` is
pub part_is_chunk : (place n : ℕ) (text : List ℕ) → take (place + n - place) (drop place text) ≡ chunk place n text
part_is_chunk place n text = let e : place + n - place ≡ n = omega arith in ap (λ k. take k (drop place text)) e

row_map : {n : ℕ} (f : ℕ → ℕ) {row : List ℕ} → ((x : ℕ) → x < 256 → f x < 256) → Row n row → Row n (map f row)
row_map f {row = row} k r =
    record { long = length-map row f ∙ r.long; bytes = Each1-map (λ x. x < 256) (λ x. x < 256) f row k r.bytes }

-- a test of each lane, as 1 and 0
pub row_flags : {n : ℕ} (p : ℕ → Bool) {row : List ℕ} → Row n row → Row n (map (λ x. cond (p x) 1 0) row)
row_flags p r = row_map (λ x. cond (p x) 1 0) (λ x h. flag_below (p x)) r
  where
    flag_below : (b : Bool) → cond b 1 0 < 256
    flag_below true = omega arith
    flag_below false = omega arith

pub flag_byte : (b : Bool) → bool_byte b ≡ cond b 1 0
flag_byte true = refl
flag_byte false = refl

pub row_upper : {n : ℕ} (k : ℕ) {row : List ℕ} → Row n row → Row n (upper_bits k row)
row_upper k r = row_map (λ x. x / 2 ^ k) (λ x h. omega (arith, shr_le x k)) r

-- a row whose top k bits are 0 already is its own rest
pub upper_rest : (k : ℕ) (row : List ℕ) → k < 8 → Each1 (λ x. x < 256) row → without_top k (upper_bits k row) ≡ upper_bits k row
upper_rest k [] h e = refl
upper_rest k (x ∷ row) h e =
    let whole : 8 - k + k ≡ 8 = omega arith in
    let lt : x < 2 ^ (8 - k + k) = subst (λ t. x < 2 ^ t) (sym whole) e.0 in
    let here : x / 2 ^ k % 2 ^ (8 - k) ≡ x / 2 ^ k = mod-eq_of_lt (shr_below x (8 - k) k lt) in
    ap (λ t. t ∷ without_top k (upper_bits k row)) here ∙ ap (λ t. (x / 2 ^ k) ∷ t) (upper_rest k row h e.1)

pub row_zip : {n : ℕ} (f : ℕ → ℕ → ℕ) {xs ys : List ℕ} → Each2 (λ x y. f x y < 256) xs ys → Row n xs → Row n ys → Row n (zip2 f xs ys)
row_zip f {xs = xs} {ys = ys} e r s =
    record { long = length-zip2 f xs ys (r.long ∙ sym s.long) ∙ r.long; bytes = Each1-zip2 f (λ x. x < 256) xs ys e }

pub row_and : {n : ℕ} {xs ys : List ℕ} → Row n xs → Row n ys → Row n (zip2 bit_and xs ys)
row_and {xs = xs} {ys = ys} r s = row_zip bit_and (Each2-from_left bit_and xs ys (λ x y l. omega (arith, and_le_l x y)) r.bytes) r s

pub row_sub : {n : ℕ} {xs ys : List ℕ} → Row n xs → Row n ys → Row n (zip2 (λ x y. x - y) xs ys)
row_sub {xs = xs} {ys = ys} r s = row_zip (λ x y. x - y) (Each2-from_left (λ x y. x - y) xs ys (λ x y l. omega arith) r.bytes) r s

pub row_set : {n : ℕ} {row : List ℕ} (i y : ℕ) → y < 256 → Row n row → Row n (set row i y)
row_set {row = row} i y h r = record { long = length-set row i y ∙ r.long; bytes = Each1-set (λ x. x < 256) row i y h r.bytes }

pub row_back : {n k : ℕ} {row : List ℕ} → k ≤ n → Row n row → Row n (moved_back k row)
row_back {n = n} {k = k} {row = row} h r =
    let l : length row ≡ n = r.long in
    record {
      long = simp (length-append, length-drop, length-replicate) (omega arith);
      bytes = Each1-append (λ x. x < 256) (drop k row) (replicate k 0) (Each1-drop (λ x. x < 256) k row r.bytes) (Each1-replicate (λ x. x < 256) k 0 (omega arith));
    }

pub row_across : {m : ℕ} {xs ys : List ℕ} → Row (suc m) xs → Row (suc m) ys → Row (suc m) (get_or xs m 0 ∷ take m ys)
row_across {m = m} {xs = xs} {ys = ys} r s =
    let l : length xs ≡ suc m = r.long in
    let k : length ys ≡ suc m = s.long in
    let rest : length (take m ys) ≡ m = simp length-take (omega arith) in
    record {
      long = ap suc rest;
      bytes = (Each1-get_or (λ x. x < 256) xs m 0 (omega arith) r.bytes, Each1-chunk (λ x. x < 256) 0 m ys s.bytes);
    }

-- ---- what stands in lane i

pub past_at : {n i : ℕ} {row : List ℕ} → Row n row → n ≤ i → get_or row i 0 ≡ 0
past_at {n = n} {i = i} {row = row} r h = let l : length row ≡ n = r.long in get_or_past row i 0 (omega arith)

pub map_at : {n i : ℕ} (f : ℕ → ℕ) {row : List ℕ} → Row n row → i < n → get_or (map f row) i 0 ≡ f (get_or row i 0)
map_at {n = n} {i = i} f {row = row} r h = let l : length row ≡ n = r.long in get_or-map f row i 0 0 (omega arith)

pub zip_at : {n i : ℕ} (f : ℕ → ℕ → ℕ) {xs ys : List ℕ} → Row n xs → Row n ys → i < n → get_or (zip2 f xs ys) i 0 ≡ f (get_or xs i 0) (get_or ys i 0)
zip_at {n = n} {i = i} f {xs = xs} {ys = ys} r s h =
    let l : length xs ≡ n = r.long in
    let k : length ys ≡ n = s.long in
    get_or-zip2 f xs ys i 0 0 0 (omega arith) (omega arith)

pub back_at : {n k i : ℕ} {row : List ℕ} → k ≤ n → Row n row → i < n → get_or (moved_back k row) i 0 ≡ get_or row (i + k) 0
back_at {n = n} {k = k} {i = i} {row = row} h r lt =
    let l : length row ≡ n = r.long in
    let long : length (drop k row) ≡ n - k = length-drop k row ∙ ap (λ t. t - k) l in
    let order : k + i ≡ i + k = omega arith in
    ⊎_elim
    (λ (here : i < n - k).
    let inside : i < length (drop k row) = omega arith in
    let first : get_or (moved_back k row) i 0 ≡ get_or (drop k row) i 0 = get_or_append_left (drop k row) (replicate k 0) 0 i inside in
    first ∙ get_or-drop k row i 0 ∙ ap (λ t. get_or row t 0) order)
    (λ (past : n - k ≤ i).
    let zeros : get_or (moved_back k row) i 0 ≡ 0 =
    get_or-append_right (drop k row) (replicate k 0) (n - k) i 0 long past ∙ get_or-replicate k (i - (n - k)) 0 0 (omega arith) in
    zeros ∙ sym (past_at r (omega arith)))
    (lt_or_le i (n - k))
  where
    lt_or_le : (a b : ℕ) → (a < b) ⊎ (b ≤ a)
    lt_or_le a b = ⊎_elim (λ t. inl t.1) (λ t. inr (le_of_suc-le-suc t.1)) (leb_tells (suc a) b)

-- back by every lane leaves 0 alone
pub back_whole : {n k : ℕ} {row : List ℕ} → Row n row → k ≡ n → replicate n 0 ≡ moved_back k row
back_whole {n = n} {k = k} {row = row} r e =
    let l : length row ≡ n = r.long in
    ap (λ t. replicate t 0) (sym e) ∙ ap (λ t. t ++ replicate k 0) (sym (drop_all k row (omega arith)))

pub across_at : {m i : ℕ} (x : ℕ) (next : List ℕ) → 1 ≤ i → i < suc m → get_or (x ∷ take m next) i 0 ≡ get_or next (i - 1) 0
across_at {m = m} {i = i} x next = at i
  where
    at : (i : ℕ) → 1 ≤ i → i < suc m → get_or (x ∷ take m next) i 0 ≡ get_or next (i - 1) 0
    at zero h lt = absurd (not-suc-le-zero h)
    at (suc k) h lt =
        let e : k ≡ suc k - 1 = omega arith in
        get_or-take m next k 0 (omega arith) ∙ ap (λ t. get_or next t 0) e

-- ---- what holds of a row holds of each lane, and the other way round

pub Each1-at : {n i : ℕ} (P : ℕ → Type 0) {row : List ℕ} → Row n row → i < n → Each1 P row → P (get_or row i 0)
Each1-at {n = n} {i = i} P {row = row} r h e = let l : length row ≡ n = r.long in Each1-get_or P row i 0 (omega arith) e

pub Each1-from_at : {n : ℕ} (P : ℕ → Type 0) {row : List ℕ} → Row n row → ((i : ℕ) → i < n → P (get_or row i 0)) → Each1 P row
Each1-from_at P {row = row} r k = Each1-from_get_or P row 0 (λ i h. k i (subst (λ t. i < t) r.long h))

Each2-get_or : (R : ℕ → ℕ → Type 0) (xs ys : List ℕ) (i : ℕ) → i < length xs → i < length ys → Each2 R xs ys → R (get_or xs i 0) (get_or ys i 0)
Each2-get_or R [] ys i h k e = absurd (not-suc-le-zero h)
Each2-get_or R (x ∷ xs) [] i h k e = absurd (not-suc-le-zero k)
Each2-get_or R (x ∷ xs) (y ∷ ys) zero h k e = e.0
Each2-get_or R (x ∷ xs) (y ∷ ys) (suc i) h k e = Each2-get_or R xs ys i (le_of_suc-le-suc h) (le_of_suc-le-suc k) e.1

pub Each2-at : {n i : ℕ} (R : ℕ → ℕ → Type 0) {xs ys : List ℕ} → Row n xs → Row n ys → i < n → Each2 R xs ys → R (get_or xs i 0) (get_or ys i 0)
Each2-at {n = n} {i = i} R {xs = xs} {ys = ys} r s h e =
    let l : length xs ≡ n = r.long in
    let k : length ys ≡ n = s.long in
    Each2-get_or R xs ys i (omega arith) (omega arith) e

Each2-from_get_or : (R : ℕ → ℕ → Type 0) (xs ys : List ℕ) → ((i : ℕ) → i < length xs → R (get_or xs i 0) (get_or ys i 0)) → Each2 R xs ys
Each2-from_get_or R [] ys k = tt
Each2-from_get_or R (x ∷ xs) [] k = tt
Each2-from_get_or R (x ∷ xs) (y ∷ ys) k = (k 0 (omega arith), Each2-from_get_or R xs ys (λ i h. k (suc i) (omega arith)))

pub Each2-from_at : {n : ℕ} (R : ℕ → ℕ → Type 0) (xs ys : List ℕ) → Row n xs → ((i : ℕ) → i < n → R (get_or xs i 0) (get_or ys i 0)) → Each2 R xs ys
Each2-from_at R xs ys r k = Each2-from_get_or R xs ys (λ i h. k i (subst (λ t. i < t) r.long h))
