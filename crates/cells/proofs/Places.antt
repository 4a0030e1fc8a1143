-- Sums and the last place within, place by place. Assumes nothing.
use Rattle.std.proofs.Common.{◌≡◌, ℕ, zero, suc, ◌+◌, ◌<◌, ◌≤◌, ◌&&◌, ltb, leb, sym, ap, ◌∙◌, subst, ⊎_elim, arith}
use Rattle.std.proofs.lemmas.Bool.{cases_lt, cond-true, cond-false, and_from, and_left, and_right, lt-ltb, le-ltb, le-leb, lt-leb}
use Rattle.cells.specs.Cells.{sum_to, last_within}
use Rattle.cells.proofs.Sums.{sum_mono}

pub sum_next : (w : ℕ → ℕ) (p : ℕ) → sum_to w (p + 1) ≡ sum_to w p + w (p + 1)
sum_next w p = let e : p + 1 ≡ suc p = omega arith in ap (sum_to w) e ∙ ap (λ (x : ℕ). sum_to w p + w x) (sym e)

-- one place more
module _ (w : ℕ → ℕ) (k p : ℕ) where
  pub last_yes : 0 < w (p + 1) → sum_to w p + w (p + 1) ≤ k → last_within w k (p + 1) ≡ p + 1
  last_yes a b =
      let e : p + 1 ≡ suc p = omega arith in
      let a' : 0 < w (suc p) = subst (λ (x : ℕ). 0 < w x) e a in
      let b' : sum_to w p + w (suc p) ≤ k = subst (λ (x : ℕ). sum_to w p + w x ≤ k) e b in
      ap (last_within w k) e ∙ cond-true (ltb 0 (w (suc p)) && leb (sum_to w (suc p)) k) (suc p) (last_within w k p) (and_from (ltb 0 (w (suc p))) (leb (sum_to w (suc p)) k) (lt-ltb 0 (w (suc p)) a') (le-leb (sum_to w (suc p)) k b')) ∙ sym e

  pub last_light : w (p + 1) ≤ 0 → last_within w k (p + 1) ≡ last_within w k p
  last_light a =
      let e : p + 1 ≡ suc p = omega arith in
      let a' : w (suc p) ≤ 0 = subst (λ (x : ℕ). w x ≤ 0) e a in
      ap (last_within w k) e ∙ cond-false (ltb 0 (w (suc p)) && leb (sum_to w (suc p)) k) (suc p) (last_within w k p) (and_left (ltb 0 (w (suc p))) (leb (sum_to w (suc p)) k) (le-ltb 0 (w (suc p)) a'))

-- past where more than k has ended, nothing is found
pub last_stop : (w : ℕ → ℕ) (k p n : ℕ) → p ≤ n → k < sum_to w p + w (p + 1) → last_within w k n ≡ last_within w k p
last_stop w k p zero h l = let e : 0 ≡ p = omega arith in ap (last_within w k) e
last_stop w k p (suc n) h l =
    ⊎_elim
    (λ (lt : p < suc n).
    let m : sum_to w (p + 1) ≤ sum_to w (suc n) = sum_mono w (p + 1) (suc n) (omega arith) in
    let e = sum_next w p in
    cond-false (ltb 0 (w (suc n)) && leb (sum_to w (suc n)) k) (suc n) (last_within w k n) (and_right (ltb 0 (w (suc n))) (leb (sum_to w (suc n)) k) (lt-leb (sum_to w (suc n)) k (omega arith)))
    ∙ last_stop w k p n (omega arith) l)
    (λ (ge : suc n ≤ p). let e : suc n ≡ p = omega arith in ap (last_within w k) e)
    (cases_lt p (suc n))
