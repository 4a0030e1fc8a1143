-- What the plain walks come to, and what one more place adds. Assumes nothing.
use Rattle.std.proofs.Common.{◌≡◌, ℕ, ◌+◌, ◌<◌, ◌≤◌, min, Bool, true, List, length, sym, refl, ap, ◌∙◌, subst, ⊎_elim, arith}
use Rattle.std.proofs.lemmas.Bool.{cases_lt}
use Rattle.utf8.specs.FirstFault.{is_text}
use Rattle.utf8.proofs.Means.{text_from_test}
use Rattle.cells.specs.Cells.{Lawful, index, count, start, last_within}
use Rattle.cells.specs.Starts.{OnlyStart}
use Rattle.cells.proofs.Places.{sum_next, last_yes, last_light, last_stop}
use Rattle.cells.proofs.Starts.{weight_zero, index_past, index_most, index_two, start_in, start_past, only_start}

module _ {ends : List ℕ → ℕ → Bool} {weight : List ℕ → ℕ → ℕ} (laws : Lawful ends weight) (t : List ℕ) (sound : is_text t ≡ true) where
  -- a walk that sums: by place p this weight has ended
  pub record Summed (p sum : ℕ) : Type 0 where
    pub is : sum ≡ index weight t p

  pub none_yet : Summed 0 0
  none_yet = record { is = sym (weight_zero laws t (text_from_test t sound)) }

  -- a walk that looks for the start of k has come to place p: before it no more than k has ended, and at `best` the last
  -- that weighs
  pub record Sofar (k p sum best : ℕ) : Type 0 where
    pub before : ℕ
    pub next : p ≡ before + 1
    pub in_text : before ≤ length t
    pub is : sum ≡ index weight t before
    pub low : sum ≤ k
    pub last : best ≡ last_within (weight t) k before

  pub nothing_yet : (k : ℕ) → Sofar k 1 0 0
  nothing_yet k = record { before = 0; next = omega arith; in_text = omega arith; is = sym (weight_zero laws t (text_from_test t sound)); low = omega arith; last = refl }

module _ {ends : List ℕ → ℕ → Bool} {weight : List ℕ → ℕ → ℕ} {laws : Lawful ends weight} {t : List ℕ} {sound : is_text t ≡ true} where
  module _ {p sum w : ℕ} (old : Summed laws t sound p sum) (more : w ≡ weight t (p + 1)) where
    pub one_more : Summed laws t sound (p + 1) (sum + w)
    one_more = record { is = let s = sum_next (weight t) p in omega (arith, old.is) }

    pub few : sum + w ≤ length t + length t
    few = let b = index_two laws t (text_from_test t sound) (p + 1) in omega (arith, one_more.is)

  -- a walk up to the place b, or to the length where that comes first
  pub walked : {p sum : ℕ} → Summed laws t sound p sum → (b e : ℕ) → e ≡ min b (length t) → p ≤ e → e ≤ p → sum ≡ index weight t b
  walked {p} old b e is l h =
      ⊎_elim
      (λ (lt : b < length t). let q : p ≡ b = omega arith in old.is ∙ ap (index weight t) q)
      (λ (ge : length t ≤ b). let q : p ≡ length t = omega arith in old.is ∙ ap (index weight t) q ∙ sym (index_past laws t (text_from_test t sound) b ge))
      (cases_lt b (length t))

  module _ {k p sum best w : ℕ} (old : Sofar laws t sound k p sum best) (h : p ≤ length t) (more : w ≡ weight t p) where
    weighs : w ≡ weight t (old.before + 1)
    weighs = more ∙ ap (weight t) old.next

    more_is : sum + w ≡ index weight t p
    more_is = omega (arith, old.is, weighs, sum_next (weight t) old.before, ap (index weight t) old.next)

    pub fits : sum + w ≤ length t + length t
    fits = omega (arith, more_is, index_two laws t (text_from_test t sound) p)

    -- a place that weighs nothing leaves `best` as it is, and another becomes it
    pub lighter : w ≤ 0 → Sofar laws t sound k (p + 1) (sum + w) best
    lighter z = record {
      before = p;
      next = refl;
      in_text = h;
      is = more_is;
      low = omega (arith, old.low);
      last = old.last ∙ sym (last_light (weight t) k old.before (omega (arith, weighs))) ∙ ap (last_within (weight t) k) (sym old.next);
    }

    pub heavier : 0 < w → sum + w ≤ k → Sofar laws t sound k (p + 1) (sum + w) p
    heavier z l = record {
      before = p;
      next = refl;
      in_text = h;
      is = more_is;
      low = l;
      last = old.next ∙ sym (last_yes (weight t) k old.before (omega (arith, weighs)) (omega (arith, old.is, weighs))) ∙ ap (last_within (weight t) k) (sym old.next);
    }

    -- where more than k has ended, the walk is over
    pub over : k < sum + w → best ≡ start weight t k
    over l =
        let most = index_most laws t (text_from_test t sound) p in
        old.last ∙ sym (last_stop (weight t) k old.before (length t) (omega (arith, old.next)) (omega (arith, old.is, weighs))) ∙ sym (start_in laws t (text_from_test t sound) k (omega (arith, more_is)))

  -- the same by other names
  pub renamed : {k p sum best p' sum' best' : ℕ} → Sofar laws t sound k p sum best → p' ≡ p → sum' ≡ sum → best' ≡ best → Sofar laws t sound k p' sum' best'
  renamed old e f g = record {
    before = old.before;
    next = e ∙ old.next;
    in_text = old.in_text;
    is = f ∙ old.is;
    low = omega (arith, old.low);
    last = g ∙ old.last;
  }

  module _ {k p sum best : ℕ} (old : Sofar laws t sound k p sum best) (end : length t < p) where
    last_place : old.before ≡ length t
    last_place = omega (arith, old.next, old.in_text)

    all : sum ≡ count weight t
    all = old.is ∙ ap (index weight t) last_place

    pub above : sum < k → length t ≡ start weight t k
    above h = sym (start_past laws t (text_from_test t sound) k (omega (arith, all)))

    pub within : k ≤ sum → best ≡ start weight t k
    within h = old.last ∙ ap (last_within (weight t) k) last_place ∙ sym (start_in laws t (text_from_test t sound) k (omega (arith, all)))

  -- what is the start by the function is so by the relation
  pub by_relation : {k p sum best r : ℕ} → Sofar laws t sound k p sum best → r ≡ start weight t k → OnlyStart ends weight t k r
  by_relation {k} old e = subst (OnlyStart ends weight t k) (sym e) (only_start laws t (text_from_test t sound) k)
