-- Sums of weights up to a place, and the start. Assumes nothing.
use Rattle.std.proofs.Common.{◌≡◌, ℕ, zero, suc, ◌+◌, ◌<◌, ◌≤◌, Bool, ◌&&◌, ltb, leb, sym, subst, ⊎_elim, arith}
use Rattle.std.proofs.lemmas.Bool.{cases_lt, ltb-true, ltb-false, leb-true, leb-false, and_parts, and_cases, cond_both}
use Rattle.cells.specs.Cells.{sum_to, last_within}

module _ (w : ℕ → ℕ) where
  pub sum_mono : (a b : ℕ) → a ≤ b → sum_to w a ≤ sum_to w b
  sum_mono a zero h = let e : 0 ≡ a = omega arith in subst (λ (x : ℕ). sum_to w x ≤ sum_to w 0) e (omega arith)
  sum_mono a (suc b) h =
      ⊎_elim
      (λ (lt : a < suc b). omega (arith, sum_mono a b (omega arith)))
      (λ (ge : suc b ≤ a). let e : suc b ≡ a = omega arith in subst (λ (x : ℕ). sum_to w x ≤ sum_to w (suc b)) e (omega arith))
      (cases_lt a (suc b))

  -- what the search from the end finds
  pub record Found (k n s : ℕ) : Type 0 where
    pub at_most : s ≤ n
    pub low : sum_to w s ≤ k
    pub greatest : (p : ℕ) → p ≤ n → sum_to w p ≤ k → sum_to w p ≤ sum_to w s
    pub shortest : (p : ℕ) → sum_to w p ≡ sum_to w s → s ≤ p

  pub found : (k n : ℕ) → w 0 ≡ 0 → Found k n (last_within w k n)
  found k zero z = record {
    at_most = omega arith;
    low = omega arith;
    greatest = λ p h l. sum_mono p 0 h;
    shortest = λ p e. omega arith;
  }
  found k (suc n) z =
      let test : Bool = ltb 0 (w (suc n)) && leb (sum_to w (suc n)) k in
      let r = found k n z in
      cond_both test (suc n) (last_within w k n) (Found k (suc n))
      (λ t.
      let ab = and_parts (ltb 0 (w (suc n))) (leb (sum_to w (suc n)) k) t in
      let a : 0 < w (suc n) = ltb-true 0 (w (suc n)) ab.0 in
      let b : sum_to w (suc n) ≤ k = leb-true (sum_to w (suc n)) k ab.1 in
      record {
        at_most = omega arith;
        low = b;
        greatest = λ p h l. sum_mono p (suc n) h;
        shortest = λ p e. ⊎_elim (λ (lt : p < suc n). let m : sum_to w p ≤ sum_to w n = sum_mono p n (omega arith) in absurd (omega arith)) (λ (ge : suc n ≤ p). ge) (cases_lt p (suc n));
      })
      (λ f. record {
        at_most = omega (arith, r.at_most);
        low = r.low;
        greatest = λ p h l.
            ⊎_elim (λ (lt : p < suc n). r.greatest p (omega arith) l)
            (λ (ge : suc n ≤ p).
            let e : p ≡ suc n = omega arith in
            let l2 : sum_to w (suc n) ≤ k = subst (λ (x : ℕ). sum_to w x ≤ k) e l in
            ⊎_elim
            (λ f0. let b : w (suc n) ≤ 0 = ltb-false 0 (w (suc n)) f0 in
            let g : sum_to w n ≤ sum_to w (last_within w k n) = r.greatest n (omega arith) (omega arith) in
            subst (λ (x : ℕ). sum_to w x ≤ sum_to w (last_within w k n)) (sym e) (omega arith))
            (λ f1. let b : k < sum_to w (suc n) = leb-false (sum_to w (suc n)) k f1 in absurd (omega arith))
            (and_cases (ltb 0 (w (suc n))) (leb (sum_to w (suc n)) k) f))
            (cases_lt p (suc n));
        shortest = r.shortest;
      })

  pub sum_two : (b : ℕ) → w 0 ≡ 0 → ((p : ℕ) → w p ≤ 2) → sum_to w b ≤ b + b
  sum_two zero z h = omega arith
  sum_two (suc b) z h = omega (arith, sum_two b z h, h (suc b))
