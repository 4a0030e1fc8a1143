-- An array of what a function gives at each index, where no call changes the function.
-- Assumes nothing.
use Rattle.std.proofs.Common.{◌≡◌, ℕ, zero, suc, ◌+◌, ◌<◌, List, get_or, sym, refl, ◌∙◌, subst, not-suc-le-zero, arith}
use denote.Param.Members.{Mut, Called}
use Rattle.std.specs.Array.{index_steps, IsFromFnResult, IsFromFnResultFrom}
use Rattle.std.specs.Iterator.{CallableAtEachTurn}
use Rattle.std.proofs.lemmas.Fn.{serves_by}

module _ {F : Type 0} (g : Mut F (ℕ × Unit {0}) ℕ) (f : F) (stays : (q : F) (i y : ℕ) (t : F) → Called g q (i, tt) y t → t ≡ q) where
  pub callable : (n : ℕ) → ((i : ℕ) → i < n → g.pre f (i, tt)) → CallableAtEachTurn (index_steps n) (λ p x q. (y : ℕ) × Called g p (x, tt) y q) (λ p x. g.pre p (x, tt)) 0 f
  callable n may =
      serves_by (λ p x q. (y : ℕ) × Called g p (x, tt) y q) (λ xs q. q ≡ f) (λ xs q x v e h. stays q x h.0 v h.1 ∙ e) (index_steps n) (λ p x. g.pre p (x, tt)) 0 f refl
      (λ xs t q x u y s e. subst (λ p. g.pre p (x, tt)) (sym e) (may x (omega (arith, s.0, s.1))))

  gives_from : (n i : ℕ) (ys : List ℕ) (q : F) → q ≡ f → IsFromFnResultFrom g q ys i n → (j k : ℕ) → i + j ≡ k → j < n → (t : F) × Called g f (k, tt) (get_or ys k 0) t
  gives_from zero i ys q e h j k at lt = absurd (not-suc-le-zero lt)
  gives_from (suc n) i ys q e h zero k at lt =
      let here : i ≡ k = omega arith in
      let P : F → ℕ → ℕ → Type 0 = λ p m y. (t : F) × Called g p (m, tt) y t in
      subst (λ m. P f m (get_or ys m 0)) here (subst (λ y. P f i y) (sym (h.2.1 0)) (subst (λ p. P p i h.1) e (h.0, h.3)))
  gives_from (suc n) i ys q e h (suc j) k at lt = gives_from n (i + 1) ys h.0 (stays q i h.1 h.0 h.3 ∙ e) h.4 j k (omega arith) (omega arith)

  pub gives : (n : ℕ) (ys : List ℕ) → IsFromFnResult g f ys n → (k : ℕ) → k < n → (t : F) × Called g f (k, tt) (get_or ys k 0) t
  gives n ys h k lt = gives_from n 0 ys f refl h.each k k (omega arith) lt
