-- UTF-16 units are chars and, once more, the chars of four bytes. Assumes nothing.
use Rattle.std.proofs.Common.{◌≡◌, ℕ, zero, suc, ◌+◌, ◌-◌, ◌<◌, ◌≤◌, min, Bool, true, false, cond, ◌&&◌, leb, List, length, get_or, sym, refl, ap, ◌∙◌, subst, ⊎_elim, arith}
use Rattle.std.proofs.lemmas.Bool.{cases_lt, cases_Bool, cond-false, leb-true, and_right}
use Rattle.scan.specs.Marks.{counted}
use Rattle.scan.proofs.Marking.{counted_on, counted_next, counted_most}
use Rattle.utf8.specs.Grammar.{Text}
use Rattle.utf8.proofs.Cuts.{Cut, lead_ends, wide}
use Rattle.cells.specs.Cells.{index}
use Rattle.cells.specs.Near.{back}
use Rattle.cells.proofs.Near.{back_in, back_out, standing}
use Rattle.cells.proofs.Sums.{sum_mono}
use Rattle.counted.proofs.Linking.{linked_index, clipped}
use Rattle.measures.specs.Chars.{char_ends, char_weight, four_bytes, unit_weight, pair_weight}
use Rattle.measures.specs.Counts.{leads, fours}
use Rattle.measures.specs.Charring.{char_lawful, unit_lawful, high_lead, ends_from_cut}
use Rattle.measures.specs.Once.{chars_linked}

-- where the byte four before is F0 or above, a char ends
four_ends : (t : List ℕ) (p : ℕ) → Text t → four_bytes t p ≡ true → char_ends t p ≡ true
four_ends t p u e =
    let high : 0xF0 ≤ back 4 t p = leb-true 0xF0 (back 4 t p) e in
    let s = standing 4 t p (omega arith) in
    let b = high_lead (get_or t (p - 4) 0) (omega (arith, s.is)) in
    let n : p - 4 + wide (get_or t (p - 4) 0) ≡ p = omega (arith, b.1, s.far) in
    ends_from_cut t p (omega (arith, s.far)) (subst (Cut t) n (lead_ends u (p - 4) s.in_text b.0))

-- so the byte alone tells the weight of a pair
pair_byte : (t : List ℕ) (p : ℕ) → Text t → pair_weight t p ≡ cond (four_bytes t p) 1 0
pair_byte t p u =
    ⊎_elim
    (λ (e : four_bytes t p ≡ true). ap (λ (b : Bool). cond (b && four_bytes t p) 1 0) (four_ends t p u e))
    (λ (e : four_bytes t p ≡ false). cond-false (char_ends t p && four_bytes t p) 1 0 (and_right (char_ends t p) (four_bytes t p) e) ∙ sym (cond-false (four_bytes t p) 1 0 e))
    (cases_Bool (four_bytes t p))

-- a char of four bytes ends at p where its first byte is the last of the first p - 3
pair_next : (t : List ℕ) (b : ℕ) → Text t → b < length t → pair_weight t (suc b) + counted fours t 0 (b - 3) ≡ counted fours t 0 (suc b - 3)
pair_next t b u h =
    ⊎_elim
    (λ (out : suc b < 4).
    let z : pair_weight t (suc b) ≡ 0 = pair_byte t (suc b) u ∙ ap (λ (x : ℕ). cond (leb 0xF0 x) 1 0) (back_out 4 t (suc b) out) in
    let e : b - 3 ≡ suc b - 3 = omega arith in
    omega (arith, ap (counted fours t 0) e))
    (λ (le : 4 ≤ suc b).
    let n : suc b - 4 ≡ b - 3 = omega arith in
    let w : pair_weight t (suc b) ≡ cond (leb 0xF0 (get_or t (b - 3) 0)) 1 0 = pair_byte t (suc b) u ∙ ap (λ (x : ℕ). cond (leb 0xF0 x) 1 0) (back_in 4 t (suc b) le ∙ ap (λ (k : ℕ). get_or t k 0) n) in
    let e : b - 3 + 1 ≡ suc b - 3 = omega arith in
    omega (arith, counted_next fours t (b - 3) (omega arith), ap (counted fours t 0) e))
    (cases_lt (suc b) 4)

pub pair_index : (t : List ℕ) (b : ℕ) → Text t → b ≤ length t → index pair_weight t b ≡ counted fours t 0 (b - 3)
pair_index t zero u h = refl
pair_index t (suc b) u h = omega (arith, pair_index t b u (omega arith), pair_next t b u h)

both : (c f : Bool) → cond c (cond f 2 1) 0 ≡ cond c 1 0 + cond (c && f) 1 0
both true true = refl
both true false = refl
both false f = refl

-- units are chars and pairs
pub unit_index : (t : List ℕ) (b : ℕ) → index unit_weight t b ≡ index char_weight t b + index pair_weight t b
unit_index t zero = refl
unit_index t (suc b) = omega (arith, unit_index t b, both (char_ends t (suc b)) (four_bytes t (suc b)))

module _ (t : List ℕ) (u : Text t) where
  -- a place past the length stands for the length
  pairs_clipped : (b : ℕ) → index pair_weight t (min b (length t)) ≡ index pair_weight t b
  pairs_clipped b = omega (arith, unit_index t b, unit_index t (min b (length t)), clipped char_lawful t u b, clipped unit_lawful t u b)

  pub chars_most : (b : ℕ) → index char_weight t b ≤ length t
  chars_most b = omega (arith, clipped char_lawful t u b, linked_index char_lawful chars_linked t u (min b (length t)) (omega arith), counted_most leads t 0 (min b (length t)))

  pub pairs_most : (b : ℕ) → index pair_weight t b ≤ length t
  pairs_most b = omega (arith, pairs_clipped b, pair_index t (min b (length t)) u (omega arith), counted_most fours t 0 (min b (length t) - 3))

  -- the pairs that end between two places begin three bytes before them
  module _ (a b from to : ℕ) (ef : from ≡ a - 3) (et : to ≡ min b (length t) - 3) where
    pub pairs_none : to ≤ from → 0 ≡ index pair_weight t b - index pair_weight t a
    pairs_none h =
        let c : counted fours t 0 (min b (length t) - 3) ≤ counted fours t 0 (min a (length t) - 3) =
        omega (arith, pair_index t (min b (length t)) u (omega arith), pair_index t (min a (length t)) u (omega arith), fewer (min b (length t)) (min a (length t)) (omega arith)) in
        omega (arith, pairs_clipped b, pairs_clipped a, pair_index t (min b (length t)) u (omega arith), pair_index t (min a (length t)) u (omega arith))
      where
        fewer : (x y : ℕ) → x - 3 ≤ y - 3 → counted fours t 0 (x - 3) ≤ counted fours t 0 (y - 3)
        fewer x y l =
            let n : x - 3 + (y - 3 - (x - 3)) ≡ y - 3 = omega arith in
            omega (arith, counted_on fours t (x - 3) (y - 3 - (x - 3)), ap (counted fours t 0) n)

    pub pairs_sum : (n : ℕ) → from < to → n ≡ counted fours t from (to - from) → n ≡ index pair_weight t b - index pair_weight t a
    pairs_sum n h e =
        let m : from + (to - from) ≡ to = omega arith in
        omega (arith, pairs_clipped b, pair_index t (min b (length t)) u (omega arith), pair_index t a u (omega arith), counted_on fours t from (to - from), ap (counted fours t 0) m, ap (counted fours t 0) ef, ap (counted fours t 0) et)

  -- sums of chars and of pairs, which grow alike
  pub units_sum : (a b x y : ℕ) → x ≡ index char_weight t b - index char_weight t a → y ≡ index pair_weight t b - index pair_weight t a → x + y ≡ index unit_weight t b - index unit_weight t a
  units_sum a b x y ex ey =
      ⊎_elim
      (λ (lt : a < b). omega (arith, unit_index t a, unit_index t b, sum_mono (char_weight t) a b (omega arith), sum_mono (pair_weight t) a b (omega arith)))
      (λ (ge : b ≤ a). omega (arith, unit_index t a, unit_index t b, sum_mono (char_weight t) b a ge, sum_mono (pair_weight t) b a ge))
      (cases_lt a b)
