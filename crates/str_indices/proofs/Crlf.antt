-- Places between CR and LF. Assumes nothing.
use Rattle.std.proofs.Common.{◌≡◌, ℕ, ◌+◌, ◌-◌, ◌≤◌, min, Bool, true, false, cond, not, eqb, ◌⊎◌, List, length, sym, refl, ap, ◌∙◌, ⊎_elim, arith}
use Rattle.std.proofs.lemmas.List.{get_or_past}
use Rattle.std.proofs.lemmas.Bool.{and_right}
use Rattle.scan.specs.Marks.{counted}
use Rattle.utf8.specs.Grammar.{Text}
use Rattle.cells.specs.Cells.{index}
use Rattle.cells.specs.Near.{back}
use Rattle.counted.specs.Linked.{ahead}
use Rattle.counted.proofs.Linking.{linked_index, clipped}
use Rattle.measures.specs.Breaks.{crlf_breaks, in_crlf, line_weight}
use Rattle.measures.specs.Counts.{crlf_hit, in_break}
use Rattle.measures.specs.Lining.{line_lawful}
use Rattle.measures.specs.Once.{crlf_linked}

-- none lies at the start of a text, or past it
pub middle_none : (t : List ℕ) (p : ℕ) → (p ≡ 0) ⊎ ((p ≡ 0 → ⊥) × (length t ≤ p)) → true ≡ not (in_crlf t p)
middle_none t p e =
    ⊎_elim
    (λ (z : p ≡ 0). sym (ap (λ (x : ℕ). not (in_crlf t x)) z))
    (λ (h : (p ≡ 0 → ⊥) × (length t ≤ p)). sym (ap not (and_right (eqb (back 1 t p) 0x0D) (eqb (back 0 t p) 0x0A) (ap (λ (x : ℕ). eqb x 0x0A) (get_or_past t p 0 h.1)))))
    e

lies_none : (c : Bool) → true ≡ not c → ◌≡◌ {A = ℕ} (cond c 1 0) 0
lies_none true e = absurd (let z : ◌≡◌ {A = ℕ} 0 1 = cc in omega arith)
lies_none false e = refl

lies : (c : Bool) → false ≡ not c → ◌≡◌ {A = ℕ} (cond c 1 0) 1
lies true e = refl
lies false e = absurd (let z : ◌≡◌ {A = ℕ} 0 1 = cc in omega arith)

-- a count of breaks up to a place b, by whether the cut lies in the middle
module _ (t : List ℕ) (u : Text t) (b i n : ℕ) (ei : i ≡ min b (length t)) (en : n ≡ counted crlf_hit t 0 (i - 0)) where
  all : n ≡ index (line_weight crlf_breaks) t b + ahead in_break t i
  all =
      let z : i - 0 ≡ i = omega arith in
      let c : index (line_weight crlf_breaks) t i ≡ index (line_weight crlf_breaks) t b = ap (index (line_weight crlf_breaks) t) ei ∙ clipped (line_lawful crlf_breaks refl) t u b in
      omega (arith, ap (counted crlf_hit t 0) z, linked_index (line_lawful crlf_breaks refl) crlf_linked t u i (omega arith))

  pub outside : true ≡ not (in_crlf t i) → n ≡ index (line_weight crlf_breaks) t b
  outside e = omega (arith, all, lies_none (in_crlf t i) e)

  pub inside : false ≡ not (in_crlf t i) → n ≡ index (line_weight crlf_breaks) t b + 1
  inside e = omega (arith, all, lies (in_crlf t i) e)
