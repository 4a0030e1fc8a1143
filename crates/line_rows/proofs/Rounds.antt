-- Rows of marks, added up lane by lane before one sum. Assumes nothing.
use Rattle.std.proofs.Common.{◌≡◌, ℕ, zero, suc, ◌+◌, ◌-◌, ◌*◌, ◌/◌, ◌<◌, ◌≤◌, List, [], ◌∷◌, length, replicate, sym, refl, ap, subst, mul-le-mul_right, add-mul, zero-mul, div-mul-le_self, arith}
use lib.Lanes.{zip2, Each1, Each2, sum_l}
use Rattle.std.proofs.lemmas.Simd.{sum-zip2, Each1-replicate}
use Rattle.line_rows.specs.Begins.{break_counts, breaks_in}
use Rattle.line_rows.specs.Marks.{break_marks}
use Rattle.line_rows.proofs.Counts.{flag_small}

breaks_row : (t : List ℕ) (p n : ℕ) → breaks_in t (p + n) ≡ breaks_in t p + sum_l (break_marks t p n)
breaks_row t p zero = let e : p + 0 ≡ p = omega arith in omega (arith, ap (breaks_in t) e)
breaks_row t p (suc n) = let e : p + suc n ≡ suc p + n = omega arith in omega (arith, ap (breaks_in t) e, breaks_row t (suc p) n)

ones : (t : List ℕ) (p n : ℕ) → Each1 (λ x. x ≤ 1) (break_marks t p n)
ones t p zero = tt
ones t p (suc n) = (flag_small (break_counts t p), ones t (suc p) n)

pub each_below : (i n : ℕ) (xs : List ℕ) → i ≤ n → Each1 (λ x. x ≤ i) xs → Each1 (λ x. x ≤ n) xs
each_below i n [] h e = tt
each_below i n (x ∷ xs) h e = let le : x ≤ i = e.0 in (omega arith, each_below i n xs h e.1)

adds_fit : (i : ℕ) (xs ys : List ℕ) → i < 255 → Each1 (λ x. x ≤ i) xs → Each1 (λ x. x ≤ 1) ys → Each2 (λ x y. x + y < 256) xs ys
adds_fit i [] ys h e o = tt
adds_fit i (x ∷ xs) [] h e o = tt
adds_fit i (x ∷ xs) (y ∷ ys) h e o =
    let a : x ≤ i = e.0 in
    let b : y ≤ 1 = o.0 in
    (omega arith, adds_fit i xs ys h e.1 o.1)

adds_below : (i : ℕ) (xs ys : List ℕ) → Each1 (λ x. x ≤ i) xs → Each1 (λ x. x ≤ 1) ys → Each1 (λ x. x ≤ i + 1) (zip2 (λ x y. x + y) xs ys)
adds_below i [] ys e o = tt
adds_below i (x ∷ xs) [] e o = tt
adds_below i (x ∷ xs) (y ∷ ys) e o =
    let a : x ≤ i = e.0 in
    let b : y ≤ 1 = o.0 in
    (omega arith, adds_below i xs ys e.1 o.1)

zeros_sum : (n : ℕ) → sum_l (replicate n 0) ≡ 0
zeros_sum zero = refl
zeros_sum (suc n) = let r = zeros_sum n in omega arith

-- i rows of w bytes from a place on are added up in `acc`
pub record Added (t : List ℕ) (w from i : ℕ) (acc : List ℕ) : Type 0 where
  pub right : breaks_in t from + sum_l acc ≡ breaks_in t (from + i * w)
  pub small : Each1 (λ x. x ≤ i) acc

pub added_none : (t : List ℕ) (w from : ℕ) (acc : List ℕ) → acc ≡ replicate w 0 → Added t w from 0 acc
added_none t w from acc e =
    let z : from + 0 * w ≡ from = omega (arith, zero-mul w) in
    record {
      right = omega (arith, ap sum_l e, zeros_sum w, ap (breaks_in t) z);
      small = subst (Each1 (λ x. x ≤ 0)) (sym e) (Each1-replicate (λ x. x ≤ 0) w 0 (omega arith));
    }

module _ {t : List ℕ} {w from i : ℕ} {acc : List ℕ} (a : Added t w from i acc) {row : List ℕ} (is : row ≡ break_marks t (from + i * w) w) where
  each_one : Each1 (λ x. x ≤ 1) row
  each_one = subst (Each1 (λ x. x ≤ 1)) (sym is) (ones t (from + i * w) w)

  pub added_fits : i < 255 → Each2 (λ x y. x + y < 256) acc row
  added_fits h = adds_fit i acc row h a.small each_one

  pub added_more : (next : List ℕ) → length acc ≡ length row → next ≡ zip2 (λ x y. x + y) acc row → Added t w from (i + 1) next
  added_more next l e =
      let p : from + i * w + w ≡ from + (i + 1) * w = omega (arith, add-mul i 1 w) in
      record {
        right = omega (arith, a.right, breaks_row t (from + i * w) w, ap sum_l is, ap (breaks_in t) p, ap sum_l e, sum-zip2 acc row l);
        small = subst (Each1 (λ x. x ≤ i + 1)) (sym e) (adds_below i acc row a.small each_one);
      }

-- the whole rows from a place on
pub whole_rows : (len from size w : ℕ) → size ≡ w → from ≤ len → from + (len - from) / size * w ≤ len
whole_rows len from size w e h = omega (arith, ap (λ (k : ℕ). (len - from) / size * k) e, div-mul-le_self (len - from) size)

-- i rows and n more, of those that lie in a text
pub rows_fit : (len from w i n rows : ℕ) → from + rows * w ≤ len → i + n ≤ rows → from + i * w + n * w ≤ len
rows_fit len from w i n rows f h = omega (arith, f, add-mul i n w, mul-le-mul_right w h)

pub rows_more : (t : List ℕ) (from w i n next count more : ℕ) → breaks_in t from + count ≡ breaks_in t (from + i * w) → breaks_in t (from + i * w) + more ≡ breaks_in t (from + i * w + n * w) → next ≡ i + n
    → breaks_in t from + (count + more) ≡ breaks_in t (from + next * w)
rows_more t from w i n next count more e m l =
    let s : next * w ≡ (i + n) * w = ap (λ (k : ℕ). k * w) l in
    let p : from + next * w ≡ from + i * w + n * w = omega (arith, s, add-mul i n w) in
    omega (arith, e, m, ap (breaks_in t) p)
