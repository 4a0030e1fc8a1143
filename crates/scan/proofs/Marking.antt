-- The marks of a text, a row or a byte at a time, and what they sum up to. Assumes nothing.
use Rattle.std.proofs.Common.{◌≡◌, ℕ, zero, suc, ◌+◌, ◌-◌, ◌<◌, ◌≤◌, Bool, true, false, cond, List, [], ◌∷◌, ◌++◌, length, get_or, take, drop, sym, refl, ap, ◌∙◌, le_of_suc-le-suc, not-suc-le-zero, add-zero, suc-add, zero-add, add-one, arith, length-take, take-take, drop-drop}
use lib.Lanes.{Each1, chunk, sum_l}
use lib.Seq.{take-nil}
use mir.Val.{bool_byte}
use Rattle.std.proofs.lemmas.Simd.{get_or-chunk}
use Rattle.std.proofs.lemmas.List.{drop_more}
use Rattle.chunk.proofs.Rows.{flag_byte}
use Rattle.scan.specs.Marks.{Rule, mark, marks, zip3, counted}

-- a mark is a flag
pub flag_small : (b : Bool) → cond b 1 0 ≤ 1
flag_small true = omega arith
flag_small false = omega arith

pub mark_byte : (hit : Rule) (b : Bool) (q p x : ℕ) → b ≡ hit q p x → bool_byte b ≡ mark hit q p x
mark_byte hit b q p x e = ap bool_byte e ∙ flag_byte (hit q p x)

-- every one at most 1
abbrev pub Ones : List ℕ → Type 0
Ones xs = Each1 (λ x. x ≤ 1) xs

ones_zip : (hit : Rule) (xs ys zs : List ℕ) → Ones (zip3 (mark hit) xs ys zs)
ones_zip hit [] ys zs = tt
ones_zip hit (x ∷ xs) [] zs = tt
ones_zip hit (x ∷ xs) (y ∷ ys) [] = tt
ones_zip hit (x ∷ xs) (y ∷ ys) (z ∷ zs) = (flag_small (hit x y z), ones_zip hit xs ys zs)

ones_sum : (xs : List ℕ) → Ones xs → sum_l xs ≤ length xs
ones_sum [] e = omega arith
ones_sum (x ∷ xs) e =
    let le : x ≤ 1 = e.0 in
    let r = ones_sum xs e.1 in
    omega arith

ones_take : (n : ℕ) (xs : List ℕ) → Ones xs → Ones (take n xs)
ones_take zero xs e = tt
ones_take (suc n) [] e = tt
ones_take (suc n) (x ∷ xs) e = (e.0, ones_take n xs e.1)

ones_chunk : (i n : ℕ) (xs : List ℕ) → Ones xs → Ones (chunk i n xs)
ones_chunk zero n xs e = ones_take n xs e
ones_chunk (suc i) n [] e = ones_take n [] tt
ones_chunk (suc i) n (x ∷ xs) e = ones_chunk i n xs e.1

pub ones_marks : (hit : Rule) (text : List ℕ) (i n : ℕ) → Ones (chunk i n (marks hit text))
ones_marks hit text i n = ones_chunk i n (marks hit text) (ones_zip hit (0 ∷ 0 ∷ text) (0 ∷ text) text)

-- ---- three rows joined
zip3_take : (f : ℕ → ℕ → ℕ → ℕ) (n : ℕ) (xs ys zs : List ℕ) → zip3 f (take n xs) (take n ys) (take n zs) ≡ take n (zip3 f xs ys zs)
zip3_take f zero xs ys zs = refl
zip3_take f (suc n) [] ys zs = refl
zip3_take f (suc n) (x ∷ xs) [] zs = refl
zip3_take f (suc n) (x ∷ xs) (y ∷ ys) [] = refl
zip3_take f (suc n) (x ∷ xs) (y ∷ ys) (z ∷ zs) = ap (λ t. f x y z ∷ t) (zip3_take f n xs ys zs)

zip3_mid : (f : ℕ → ℕ → ℕ → ℕ) (xs zs : List ℕ) → zip3 f xs [] zs ≡ []
zip3_mid f [] zs = refl
zip3_mid f (x ∷ xs) zs = refl

zip3_nil : (f : ℕ → ℕ → ℕ → ℕ) (xs ys : List ℕ) → zip3 f xs ys [] ≡ []
zip3_nil f [] ys = refl
zip3_nil f (x ∷ xs) [] = refl
zip3_nil f (x ∷ xs) (y ∷ ys) = refl

zip3_drop : (f : ℕ → ℕ → ℕ → ℕ) (n : ℕ) (xs ys zs : List ℕ) → zip3 f (drop n xs) (drop n ys) (drop n zs) ≡ drop n (zip3 f xs ys zs)
zip3_drop f zero xs ys zs = refl
zip3_drop f (suc n) [] ys zs = refl
zip3_drop f (suc n) (x ∷ xs) [] zs = zip3_mid f (drop n xs) (drop (suc n) zs)
zip3_drop f (suc n) (x ∷ xs) (y ∷ ys) [] = zip3_nil f (drop n xs) (drop n ys)
zip3_drop f (suc n) (x ∷ xs) (y ∷ ys) (z ∷ zs) = zip3_drop f n xs ys zs

zip3_chunk : (f : ℕ → ℕ → ℕ → ℕ) (i n : ℕ) (xs ys zs : List ℕ) → zip3 f (chunk i n xs) (chunk i n ys) (chunk i n zs) ≡ chunk i n (zip3 f xs ys zs)
zip3_chunk f i n xs ys zs = zip3_take f n (drop i xs) (drop i ys) (drop i zs) ∙ ap (take n) (zip3_drop f i xs ys zs)

zip3_long : (f : ℕ → ℕ → ℕ → ℕ) (x y : ℕ) (zs : List ℕ) → length (zip3 f (x ∷ y ∷ zs) (y ∷ zs) zs) ≡ length zs
zip3_long f x y [] = refl
zip3_long f x y (z ∷ zs) = ap suc (zip3_long f y z zs)

get_or-zip3 : (f : ℕ → ℕ → ℕ → ℕ) (xs ys zs : List ℕ) (i : ℕ) → i < length xs → i < length ys → i < length zs → get_or (zip3 f xs ys zs) i 0 ≡ f (get_or xs i 0) (get_or ys i 0) (get_or zs i 0)
get_or-zip3 f [] ys zs i a b c = absurd (not-suc-le-zero a)
get_or-zip3 f (x ∷ xs) [] zs i a b c = absurd (not-suc-le-zero b)
get_or-zip3 f (x ∷ xs) (y ∷ ys) [] i a b c = absurd (not-suc-le-zero c)
get_or-zip3 f (x ∷ xs) (y ∷ ys) (z ∷ zs) zero a b c = refl
get_or-zip3 f (x ∷ xs) (y ∷ ys) (z ∷ zs) (suc i) a b c = get_or-zip3 f xs ys zs i (le_of_suc-le-suc a) (le_of_suc-le-suc b) (le_of_suc-le-suc c)

marks_long : (hit : Rule) (text : List ℕ) → length (marks hit text) ≡ length text
marks_long hit text = zip3_long (mark hit) 0 0 text

-- ---- a row of a text and the rows before it
-- the bytes before those of a row
before_row : (place v : ℕ) (text : List ℕ) → place + suc v ≤ length text → chunk place (suc v) (0 ∷ text) ≡ get_or (0 ∷ text) place 0 ∷ take v (chunk place (suc v) text)
before_row place v text h =
    let long : place < length (0 ∷ text) = omega arith in
    let one : drop (place + 1) (0 ∷ text) ≡ drop place text = ap (λ (n : ℕ). drop n (0 ∷ text)) (add-one place) in
    ap (take (suc v)) (drop_more (0 ∷ text) place 0 long)
    ∙ ap (λ t. get_or (0 ∷ text) place 0 ∷ take v t) one
    ∙ ap (λ t. get_or (0 ∷ text) place 0 ∷ t) (sym (take-take v (suc v) (drop place text) (omega arith)))

-- a row shifted by one lane, with the last byte before it
pub row_before : (w place : ℕ) (text last row shifted : List ℕ) → 1 ≤ w → place + w ≤ length text
    → get_or last (w - 1) 0 ≡ get_or (0 ∷ text) place 0 → row ≡ chunk place w text → shifted ≡ get_or last (w - 1) 0 ∷ take (w - 1) row → shifted ≡ chunk place w (0 ∷ text)
row_before zero place text last row shifted h le el er es = absurd (not-suc-le-zero h)
row_before (suc v) place text last row shifted h le el er es =
    let pred : suc v - 1 ≡ v = omega arith in
    es ∙ ap (λ t. t ∷ take (suc v - 1) row) el ∙ ap (λ n. get_or (0 ∷ text) place 0 ∷ take n row) pred
    ∙ ap (λ t. get_or (0 ∷ text) place 0 ∷ take v t) er ∙ sym (before_row place v text le)

-- the last byte of a row is the one before the next row
pub row_last : (w place : ℕ) (text row : List ℕ) → 1 ≤ w → row ≡ chunk place w text → get_or row (w - 1) 0 ≡ get_or (0 ∷ text) (place + w) 0
row_last zero place text row h e = absurd (not-suc-le-zero h)
row_last (suc v) place text row h e =
    let pred : suc v - 1 ≡ v = omega arith in
    let up : place + suc v ≡ suc (place + v) = omega arith in
    ap (λ n. get_or row n 0) pred ∙ ap (λ t. get_or t v 0) e ∙ get_or-chunk place (suc v) text v 0 (omega arith) ∙ sym (ap (λ n. get_or (0 ∷ text) n 0) up)

-- the flags of a row are its marks
pub row_marks : (hit : Rule) (w place : ℕ) (text far near row found : List ℕ)
    → far ≡ chunk place w (0 ∷ 0 ∷ text) → near ≡ chunk place w (0 ∷ text) → row ≡ chunk place w text → found ≡ zip3 (mark hit) far near row → found ≡ chunk place w (marks hit text)
row_marks hit w place text far near row found ea eb ec e =
    e ∙ ap (λ t. zip3 (mark hit) t near row) ea ∙ ap (λ t. zip3 (mark hit) (chunk place w (0 ∷ 0 ∷ text)) t row) eb
    ∙ ap (zip3 (mark hit) (chunk place w (0 ∷ 0 ∷ text)) (chunk place w (0 ∷ text))) ec ∙ zip3_chunk (mark hit) place w (0 ∷ 0 ∷ text) (0 ∷ text) text

-- ---- counts
sum_append : (xs ys : List ℕ) → sum_l (xs ++ ys) ≡ sum_l xs + sum_l ys
sum_append [] ys = omega arith
sum_append (x ∷ xs) ys = let r = sum_append xs ys in omega arith

take_two : (a b : ℕ) (xs : List ℕ) → take (a + b) xs ≡ take a xs ++ take b (drop a xs)
take_two zero b xs = ap (λ n. take n xs) (zero-add b)
take_two (suc a) b [] = take-nil (suc a + b) ∙ sym (take-nil b)
take_two (suc a) b (x ∷ xs) = ap (λ n. take {A = ℕ} n (x ∷ xs)) (suc-add a b) ∙ ap (λ t. x ∷ t) (take_two a b xs)

-- the count of a bytes, and of b more
pub counted_two : (hit : Rule) (text : List ℕ) (from a b : ℕ) → counted hit text from (a + b) ≡ counted hit text from a + counted hit text (from + a) b
counted_two hit text from a b =
    let xs : List ℕ = marks hit text in
    ap sum_l (take_two a b (drop from xs)) ∙ sum_append (chunk from a xs) (take b (drop a (drop from xs)))
    ∙ ap (λ t. sum_l (chunk from a xs) + sum_l (take b t)) (drop-drop a from xs)

pub counted_most : (hit : Rule) (text : List ℕ) (from n : ℕ) → counted hit text from n ≤ n
counted_most hit text from n =
    omega (arith, ones_sum (chunk from n (marks hit text)) (ones_marks hit text from n), length-take n (drop from (marks hit text)))

pub counted_one : (hit : Rule) (text : List ℕ) (i : ℕ) → i < length text → counted hit text i 1 ≡ mark hit (get_or (0 ∷ 0 ∷ text) i 0) (get_or (0 ∷ text) i 0) (get_or text i 0)
counted_one hit text i lt =
    let long : i < length (marks hit text) = omega (arith, marks_long hit text) in
    ap (λ t. sum_l (take 1 t)) (drop_more (marks hit text) i 0 long) ∙ add-zero (get_or (marks hit text) i 0)
    ∙ get_or-zip3 (mark hit) (0 ∷ 0 ∷ text) (0 ∷ text) text i (omega arith) (omega arith) lt

-- one byte more
pub counted_more : (hit : Rule) (text : List ℕ) (from n : ℕ) → from + n < length text
    → counted hit text from (n + 1) ≡ counted hit text from n + mark hit (get_or (0 ∷ 0 ∷ text) (from + n) 0) (get_or (0 ∷ text) (from + n) 0) (get_or text (from + n) 0)
counted_more hit text from n lt = counted_two hit text from n 1 ∙ ap (λ t. counted hit text from n + t) (counted_one hit text (from + n) lt)

-- from the start of the text: n bytes more, and one byte more
pub counted_on : (hit : Rule) (text : List ℕ) (place n : ℕ) → counted hit text 0 (place + n) ≡ counted hit text 0 place + counted hit text place n
counted_on hit text place n = counted_two hit text 0 place n ∙ ap (λ t. counted hit text 0 place + counted hit text t n) (zero-add place)

pub counted_next : (hit : Rule) (text : List ℕ) (i : ℕ) → i < length text
    → counted hit text 0 (i + 1) ≡ counted hit text 0 i + mark hit (get_or (0 ∷ 0 ∷ text) i 0) (get_or (0 ∷ text) i 0) (get_or text i 0)
counted_next hit text i lt = counted_on hit text i 1 ∙ ap (λ t. counted hit text 0 i + t) (counted_one hit text i lt)

-- from a place on to a second, and from there on to a third
pub counted_join : (hit : Rule) (text : List ℕ) (from mid to : ℕ) → from ≤ mid → mid ≤ to
    → counted hit text from (mid - from) + counted hit text mid (to - mid) ≡ counted hit text from (to - from)
counted_join hit text from mid to h k =
    let a : mid - from + (to - mid) ≡ to - from = omega arith in
    let b : from + (mid - from) ≡ mid = omega arith in
    ap (λ t. counted hit text from (mid - from) + counted hit text t (to - mid)) (sym b)
    ∙ sym (counted_two hit text from (mid - from) (to - mid)) ∙ ap (counted hit text from) a

-- ---- a walk byte by byte
-- n bytes from a place on are counted, and the two before the next are at hand
pub record Walked (hit : Rule) (text : List ℕ) (from n count far near : ℕ) : Type 0 where
  pub right : count ≡ counted hit text from n
  pub second : far ≡ get_or (0 ∷ 0 ∷ text) (from + n) 0
  pub first : near ≡ get_or (0 ∷ text) (from + n) 0

module _ {hit : Rule} {text : List ℕ} {from n count far near : ℕ} (so : Walked hit text from n count far near) (byte : ℕ) (is : byte ≡ get_or text (from + n) 0) (b : Bool) (e : b ≡ hit far near byte) (lt : from + n < length text) where
  pub walked_more : Walked hit text from (n + 1) (count + bool_byte b) near byte
  walked_more =
      let next : from + (n + 1) ≡ suc (from + n) = omega arith in
      let m : bool_byte b ≡ mark hit (get_or (0 ∷ 0 ∷ text) (from + n) 0) (get_or (0 ∷ text) (from + n) 0) (get_or text (from + n) 0) =
      mark_byte hit b far near byte e ∙ ap (λ q. mark hit q near byte) so.second ∙ ap (λ p. mark hit (get_or (0 ∷ 0 ∷ text) (from + n) 0) p byte) so.first
      ∙ ap (mark hit (get_or (0 ∷ 0 ∷ text) (from + n) 0) (get_or (0 ∷ text) (from + n) 0)) is in
      record {
        right = omega (arith, so.right, m, counted_more hit text from n lt);
        second = so.first ∙ sym (ap (λ k. get_or (0 ∷ 0 ∷ text) k 0) next);
        first = is ∙ sym (ap (λ k. get_or (0 ∷ text) k 0) next);
      }

  pub walked_few : count + bool_byte b ≤ n + 1
  walked_few = omega (arith, walked_more.right, counted_most hit text from (n + 1))
