-- The first bytes of a text, counted alone. Assumes nothing.
use Rattle.std.proofs.Common.{◌≡◌, ℕ, zero, suc, ◌+◌, ◌-◌, ◌<◌, ◌≤◌, min, false, ◌&&◌, eqb, List, length, take, sym, refl, ap, ◌∙◌, ⊎_elim, arith, length-take}
use Rattle.std.proofs.lemmas.List.{get_or-take, get_or_past}
use Rattle.std.proofs.lemmas.Bool.{cases_lt, and_right}
use Rattle.utf8.specs.Grammar.{Text}
use Rattle.cells.specs.Cells.{index, count}
use Rattle.cells.specs.Near.{back}
use Rattle.cells.proofs.Near.{back_in, back_out}
use Rattle.cells.proofs.Starts.{index_past}
use Rattle.measures.specs.Breaks.{unicode_breaks, in_crlf, line_weight}
use Rattle.line_rows.specs.Begins.{flag}
use Rattle.line_rows.proofs.Pending.{ends_alone}
use Rattle.line_rows.proofs.Stepping.{laws}

module _ (t : List ℕ) (n : ℕ) (fits : n ≤ length t) where
  front_back : (j p : ℕ) → p < n + j → back j (take n t) p ≡ back j t p
  front_back j p h =
      ⊎_elim
      (λ (l : p < j). back_out j (take n t) p l ∙ sym (back_out j t p l))
      (λ (l : j ≤ p). back_in j (take n t) p l ∙ get_or-take n t (p - j) 0 (omega arith) ∙ sym (back_in j t p l))
      (cases_lt p j)

  front_ends : (p : ℕ) → p < n → line_weight unicode_breaks (take n t) (suc p) + flag (in_crlf (take n t) (suc p)) ≡ line_weight unicode_breaks t (suc p) + flag (in_crlf t (suc p))
  front_ends p h = ends_alone (take n t) t p (front_back 0 p (omega arith)) (front_back 1 p (omega arith)) (front_back 2 p (omega arith))

  front_inside : (p : ℕ) → p < n → in_crlf (take n t) p ≡ in_crlf t p
  front_inside p h =
      ap (λ (x : ℕ). eqb x 13 && eqb (back 0 (take n t) p) 10) (front_back 1 p (omega arith)) ∙ ap (λ (x : ℕ). eqb (back 1 t p) 13 && eqb x 10) (front_back 0 p (omega arith))

  front_long : length (take n t) ≡ n
  front_long = omega (arith, length-take n t)

  front_index : (p : ℕ) → p < n → index (line_weight unicode_breaks) (take n t) p ≡ index (line_weight unicode_breaks) t p
  front_index zero h = refl
  front_index (suc p) h = omega (arith, front_index p (omega arith), front_ends p (omega arith), ap flag (front_inside (suc p) h))

  at_end_lem : in_crlf (take n t) n ≡ false
  at_end_lem = and_right (eqb (back 1 (take n t) n) 13) _ (ap (λ (x : ℕ). eqb x 10) (get_or_past (take n t) n 0 (omega (arith, front_long))))

-- the first n bytes alone have the breaks that ended at n, and the CR of a CR LF that n splits
pub front_count : (t : List ℕ) (n : ℕ) → n ≤ length t → count (line_weight unicode_breaks) (take n t) ≡ index (line_weight unicode_breaks) t n + flag (in_crlf t n)
front_count t zero h = refl
front_count t (suc n) h =
    ap (index (line_weight unicode_breaks) (take (suc n) t)) (front_long t (suc n) h)
    ∙ omega (arith, front_index t (suc n) h n (omega arith), front_ends t (suc n) h n (omega arith), ap flag (at_end_lem t (suc n) h))

-- up to a place, or to the length where that comes first
pub index_min : (t : List ℕ) → Text t → (b : ℕ) → index (line_weight unicode_breaks) t (min b (length t)) ≡ index (line_weight unicode_breaks) t b
index_min t well b =
    ⊎_elim
    (λ (l : b < length t). let e : min b (length t) ≡ b = omega arith in ap (index (line_weight unicode_breaks) t) e)
    (λ (l : length t ≤ b). let e : min b (length t) ≡ length t = omega arith in ap (index (line_weight unicode_breaks) t) e ∙ sym (index_past laws t well b l))
    (cases_lt b (length t))
