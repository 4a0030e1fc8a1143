-- One more row in a round. Assumes nothing.
use Rattle.std.proofs.Common.{◌≡◌, ℕ, zero, suc, ◌+◌, ◌-◌, ◌*◌, ◌<◌, ◌≤◌, List, [], ◌∷◌, length, get_or, take, replicate, sym, refl, ap, ◌∙◌, subst, mul-le-mul_right, add-mul, zero-mul, arith}
use lib.ListN.{get_or-replicate}
use lib.Lanes.{zip2, Each1, Each2, chunk, sum_l}
use Rattle.std.proofs.lemmas.Simd.{sum-zip2}
use Rattle.chunk.specs.Rows.{Row}
use Rattle.scan.specs.Marks.{Rule, mark, marks, zip3, counted}
use Rattle.scan.specs.Rounds.{Added}
use Rattle.scan.proofs.Marking.{Ones, ones_marks, row_before, row_last, row_marks, counted_two}

zeros_sum : (n : ℕ) → sum_l (replicate n 0) ≡ 0
zeros_sum zero = refl
zeros_sum (suc n) = let r = zeros_sum n in omega arith

zeros_below : (n i : ℕ) → Each1 (λ x. x ≤ i) (replicate n 0)
zeros_below zero i = tt
zeros_below (suc n) i = (omega arith, zeros_below n i)

adds_fit : (i : ℕ) (xs ys : List ℕ) → i < 255 → Each1 (λ x. x ≤ i) xs → Ones ys → Each2 (λ x y. x + y < 256) xs ys
adds_fit i [] ys h e o = tt
adds_fit i (x ∷ xs) [] h e o = tt
adds_fit i (x ∷ xs) (y ∷ ys) h e o =
    let a : x ≤ i = e.0 in
    let b : y ≤ 1 = o.0 in
    (omega arith, adds_fit i xs ys h e.1 o.1)

adds_below : (i : ℕ) (xs ys : List ℕ) → Each1 (λ x. x ≤ i) xs → Ones ys → Each1 (λ x. x ≤ i + 1) (zip2 (λ x y. x + y) xs ys)
adds_below i [] ys e o = tt
adds_below i (x ∷ xs) [] e o = tt
adds_below i (x ∷ xs) (y ∷ ys) e o =
    let a : x ≤ i = e.0 in
    let b : y ≤ 1 = o.0 in
    (omega arith, adds_below i xs ys e.1 o.1)

pub weaker : (i n : ℕ) (xs : List ℕ) → i ≤ n → Each1 (λ x. x ≤ i) xs → Each1 (λ x. x ≤ n) xs
weaker i n [] h e = tt
weaker i n (x ∷ xs) h e = let le : x ≤ i = e.0 in (omega arith, weaker i n xs h e.1)

splat_last : (w x : ℕ) (row : List ℕ) → 1 ≤ w → row ≡ replicate w x → get_or row (w - 1) 0 ≡ x
splat_last w x row h e = ap (λ t. get_or t (w - 1) 0) e ∙ get_or-replicate w (w - 1) x 0 (omega arith)

-- before the first row
pub added_none : (hit : Rule) (text : List ℕ) (w from x y : ℕ) (sums older last : List ℕ) → 1 ≤ w → sums ≡ replicate w 0
    → older ≡ replicate w x → x ≡ get_or (0 ∷ 0 ∷ text) from 0 → last ≡ replicate w y → y ≡ get_or (0 ∷ text) from 0 → Added hit text w from 0 sums older last
added_none hit text w from x y sums older last h es eo ex el ey =
    let z : from ≡ from + 0 * w = omega (arith, zero-mul w) in
    record {
      few = subst (Each1 (λ x. x ≤ 0)) (sym es) (zeros_below w 0);
      sum = ap sum_l es ∙ zeros_sum w ∙ ap (counted hit text from) (sym (zero-mul w));
      far = splat_last w x older h eo ∙ ex ∙ ap (λ n. get_or (0 ∷ 0 ∷ text) n 0) z;
      near = splat_last w y last h el ∙ ey ∙ ap (λ n. get_or (0 ∷ text) n 0) z;
    }

-- the steps of one row
module _ {hit : Rule} {text : List ℕ} {w from i : ℕ} {sums older last : List ℕ} (one : 1 ≤ w) (room : from + (i + 1) * w ≤ length text) (so : Added hit text w from i sums older last)
    {row near far found : List ℕ} (er : row ≡ chunk (from + i * w) w text) (en : near ≡ get_or last (w - 1) 0 ∷ take (w - 1) row) (ef : far ≡ get_or older (w - 1) 0 ∷ take (w - 1) near)
    (ed : found ≡ zip3 (mark hit) far near row) where
  rows : (i + 1) * w ≡ i * w + w
  rows = omega (arith, add-mul i 1 w)

  next : from + i * w + w ≡ from + (i + 1) * w
  next = omega (arith, rows)

  near_is : near ≡ chunk (from + i * w) w (0 ∷ text)
  near_is = row_before w (from + i * w) text last row near one (omega (arith, next)) so.near er en

  far_is : far ≡ chunk (from + i * w) w (0 ∷ 0 ∷ text)
  far_is = row_before w (from + i * w) (0 ∷ text) older near far one (omega (arith, next)) so.far near_is ef

  found_is : found ≡ chunk (from + i * w) w (marks hit text)
  found_is = row_marks hit w (from + i * w) text far near row found far_is near_is er ed

  ones : Ones found
  ones = subst Ones (sym found_is) (ones_marks hit text (from + i * w) w)

  pub added_fits : i < 255 → Each2 (λ x y. x + y < 256) sums found
  added_fits h = adds_fit i sums found h so.few ones

  pub added_more : Row w sums → Row w found → {added : List ℕ} → added ≡ zip2 (λ x y. x + y) sums found → Added hit text w from (i + 1) added near row
  added_more rs rf ea = record {
    few = subst (Each1 (λ x. x ≤ i + 1)) (sym ea) (adds_below i sums found so.few ones);
    sum =
        ap sum_l ea ∙ sum-zip2 sums found (rs.long ∙ sym rf.long) ∙ ap (λ t. t + sum_l found) so.sum ∙ ap (λ t. counted hit text from (i * w) + sum_l t) found_is
        ∙ sym (counted_two hit text from (i * w) w) ∙ ap (counted hit text from) (sym rows);
    far = row_last w (from + i * w) (0 ∷ text) near one near_is ∙ ap (λ n. get_or (0 ∷ 0 ∷ text) n 0) next;
    near = row_last w (from + i * w) text row one er ∙ ap (λ n. get_or (0 ∷ text) n 0) next;
  }

-- there is room for each of n rows
pub room_at : (from i n w len : ℕ) → i < n → from + n * w ≤ len → from + (i + 1) * w ≤ len
room_at from i n w len h le = let up : i + 1 ≤ n = omega arith in omega (arith, mul-le-mul_right w up)
