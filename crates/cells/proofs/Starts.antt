-- Indexes and starts, for every lawful measure. Assumes nothing.
use Rattle.std.proofs.Common.{◌≡◌, ℕ, zero, suc, ◌+◌, ◌<◌, ◌≤◌, Bool, true, false, ltb, List, length, sym, refl, ap, ◌∙◌, subst, inl, inr, ⊎_elim, arith}
use Rattle.std.proofs.lemmas.Bool.{cases_lt, cases_Bool, cond-true, cond-false, lt-ltb, le-ltb}
use Rattle.utf8.specs.Grammar.{Text}
use Rattle.cells.specs.Cells.{sum_to, last_within, Lawful, index, count, start}
use Rattle.cells.specs.Starts.{Joint, Start, OnlyStart}
use Rattle.cells.proofs.Sums.{sum_mono, Found, found, sum_two}

module _ {ends : List ℕ → ℕ → Bool} {weight : List ℕ → ℕ → ℕ} (laws : Lawful ends weight) (t : List ℕ) (well : Text t) where
  pub weight_zero : weight t 0 ≡ 0
  weight_zero = laws.none t 0 well (laws.not_empty t well)

  -- past the length nothing ends
  pub past_none : (p : ℕ) → length t < p → weight t p ≡ 0
  past_none p h =
      ⊎_elim (λ (e : ends t p ≡ true). let l : p ≤ length t = laws.within t p well e in absurd (omega arith)) (λ (e : ends t p ≡ false). laws.none t p well e) (cases_Bool (ends t p))

  -- where something weighs, a cell ends
  pub weighs_ends : (p : ℕ) → 0 < weight t p → ends t p ≡ true
  weighs_ends p h =
      ⊎_elim (λ (e : ends t p ≡ true). e) (λ (e : ends t p ≡ false). let z : weight t p ≡ 0 = laws.none t p well e in absurd (omega arith)) (cases_Bool (ends t p))

  pub index_past : (p : ℕ) → length t ≤ p → index weight t p ≡ count weight t
  index_past zero h = let e : 0 ≡ length t = omega arith in ap (sum_to (weight t)) e
  index_past (suc p) h =
      ⊎_elim
      (λ (lt : length t < suc p). let i : index weight t p ≡ count weight t = index_past p (omega arith) in let z : weight t (suc p) ≡ 0 = past_none (suc p) lt in omega arith)
      (λ (ge : suc p ≤ length t). let e : suc p ≡ length t = omega arith in ap (sum_to (weight t)) e)
      (cases_lt (length t) (suc p))

  pub index_most : (p : ℕ) → index weight t p ≤ count weight t
  index_most p =
      ⊎_elim (λ (lt : p < length t). sum_mono (weight t) p (length t) (omega arith)) (λ (ge : length t ≤ p). let e = index_past p ge in omega arith) (cases_lt p (length t))

  pub start_in : (k : ℕ) → k ≤ count weight t → start weight t k ≡ last_within (weight t) k (length t)
  start_in k h = cond-false (ltb (count weight t) k) (length t) (last_within (weight t) k (length t)) (le-ltb (count weight t) k h)

  pub start_past : (k : ℕ) → count weight t < k → start weight t k ≡ length t
  start_past k h = cond-true (ltb (count weight t) k) (length t) (last_within (weight t) k (length t)) (lt-ltb (count weight t) k h)

  -- the start, by places and not by joints
  pub found_start : (k : ℕ) → k ≤ count weight t → Found (weight t) k (length t) (start weight t k)
  found_start k h = subst (Found (weight t) k (length t)) (sym (start_in k h)) (found (weight t) k (length t) weight_zero)

  pub start_low : (k : ℕ) → index weight t (start weight t k) ≤ k
  start_low k =
      ⊎_elim
      (λ (lt : count weight t < k). let m = index_most (start weight t k) in omega arith)
      (λ (ge : k ≤ count weight t). (found_start k ge).low)
      (cases_lt (count weight t) k)

  pub start_greatest : (k p : ℕ) → k ≤ count weight t → index weight t p ≤ k → index weight t p ≤ index weight t (start weight t k)
  start_greatest k p h l =
      let f = found_start k h in
      ⊎_elim
      (λ (lt : p < length t). f.greatest p (omega arith) l)
      (λ (ge : length t ≤ p).
      let e : index weight t p ≡ count weight t = index_past p ge in
      let g : count weight t ≤ index weight t (start weight t k) = f.greatest (length t) (omega arith) (omega arith) in
      omega arith)
      (cases_lt p (length t))

  -- a place where the sum is first reached is a joint
  first_joint : (s : ℕ) → ((p : ℕ) → index weight t p ≡ index weight t s → s ≤ p) → Joint ends weight t s
  first_joint zero sh = inl refl
  first_joint (suc s) sh =
      ⊎_elim
      (λ (lt : 0 < weight t (suc s)). inr (weighs_ends (suc s) lt))
      (λ (ge : weight t (suc s) ≤ 0). let b : suc s ≤ s = sh s (omega arith) in absurd (omega arith))
      (cases_lt 0 (weight t (suc s)))

  -- the function is the relation
  start_is : (k : ℕ) → Start ends weight t k (start weight t k)
  start_is k = record {
    past = start_past k;
    joint = λ h. first_joint (start weight t k) (found_start k h).shortest;
    low = λ h. (found_start k h).low;
    greatest = λ h p j l. start_greatest k p h l;
    shortest = λ h p j e. (found_start k h).shortest p e;
  }

  -- and the relation has one answer
  start_one : (k r s : ℕ) → Start ends weight t k r → Start ends weight t k s → r ≡ s
  start_one k r s x y =
      ⊎_elim
      (λ (lt : count weight t < k). x.past lt ∙ sym (y.past lt))
      (λ (h : k ≤ count weight t).
      let a : index weight t r ≤ index weight t s = y.greatest h r (x.joint h) (x.low h) in
      let b : index weight t s ≤ index weight t r = x.greatest h s (y.joint h) (y.low h) in
      let c : s ≤ r = y.shortest h r (x.joint h) (omega arith) in
      let d : r ≤ s = x.shortest h s (y.joint h) (omega arith) in
      omega arith)
      (cases_lt (count weight t) k)

  pub index_two : (b : ℕ) → index weight t b ≤ length t + length t
  index_two b =
      ⊎_elim
      (λ (lt : b < length t). omega (arith, sum_two (weight t) b weight_zero (λ p. laws.two t p well)))
      (λ (ge : length t ≤ b). omega (arith, index_past b ge, sum_two (weight t) (length t) weight_zero (λ p. laws.two t p well)))
      (cases_lt b (length t))

  pub only_start : (k : ℕ) → OnlyStart ends weight t k (start weight t k)
  only_start k = record { is = start_is k; only = λ r x. start_one k r (start weight t k) x (start_is k) }
