-- From where a break counts to where it ends. Assumes nothing.
use Rattle.std.proofs.Common.{◌≡◌, ℕ, zero, suc, ◌+◌, ◌-◌, ◌<◌, ◌≤◌, Bool, true, false, List, length, get_or, sym, refl, ap, ◌∙◌, ⊎_elim, arith}
use Rattle.std.proofs.lemmas.Bool.{cases_lt, cases_Bool, both_ways}
use Rattle.std.proofs.lemmas.Bool.Decides.{nat_tests}
use Rattle.utf8.specs.Grammar.{Text}
use Rattle.utf8.specs.Places.{follower, char_start}
use Rattle.utf8.proofs.Cuts.{cut_from_start}
use Rattle.cells.specs.Cells.{Lawful, index, count, start}
use Rattle.cells.proofs.Sums.{sum_mono}
use Rattle.cells.proofs.Starts.{found_start, start_past}
use Rattle.measures.specs.Breaks.{unicode_breaks, line_ends, line_weight}
use Rattle.measures.specs.Lining.{line_lawful}
use Rattle.line_rows.specs.Begins.{break_counts, flag, breaks_in}
use Rattle.line_rows.specs.Passing.{Counted}
use Rattle.line_rows.specs.Steps.{NextStart}
use Rattle.line_rows.proofs.Pending.{begun_ended, start_ended}

-- for any measure: where the index first is k, k starts
module _ {ends : List ℕ → ℕ → Bool} {weight : List ℕ → ℕ → ℕ} (laws : Lawful ends weight) (t : List ℕ) (well : Text t) where
  pub first_start : (k r : ℕ) → r ≤ length t → index weight t r ≡ k → ((q : ℕ) → q < r → index weight t q < k) → r ≡ start weight t k
  first_start k r h e before =
      let some : k ≤ count weight t = omega (arith, sum_mono (weight t) r (length t) h) in
      let f = found_start laws t well k some in
      let same : index weight t r ≡ index weight t (start weight t k) = omega (arith, f.greatest r h (omega arith), f.low) in
      ⊎_elim
      (λ (l : start weight t k < r). absurd (omega (arith, before (start weight t k) l)))
      (λ (l : r ≤ start weight t k). omega (arith, f.shortest r same))
      (cases_lt (start weight t k) r)

pub laws : Lawful (line_ends unicode_breaks) (line_weight unicode_breaks)
laws = line_lawful unicode_breaks refl

module _ (t : List ℕ) (well : Text t) where
  -- inside a char no break ends
  unended : (p : ℕ) → char_start t p ≡ false → line_weight unicode_breaks t p ≡ 0
  unended p e =
      ⊎_elim
      (λ (b : line_ends unicode_breaks t p ≡ true). absurd (both_ways (char_start t p) e (laws.cuts_chars t p well b)))
      (λ (b : line_ends unicode_breaks t p ≡ false). laws.none t p well b)
      (cases_Bool (line_ends unicode_breaks t p))

  tail : (p : ℕ) → p < length t → char_start t p ≡ false → follower (get_or t p 0) ≡ true
  tail p h e = grind (arith, nat_tests)

  -- and none begins
  unbegun : (p : ℕ) → follower (get_or t p 0) ≡ true → break_counts t p ≡ false
  unbegun p e = grind (arith, nat_tests)

  module _ (p r : ℕ) (next : NextStart t p r) where
    in_text : r ≤ length t
    in_text = (cut_from_start t r well next.start).0

    inside : (i : ℕ) → p ≤ i → i < r → follower (get_or t i 0) ≡ true
    inside i a b = tail i (omega (arith, in_text)) (next.none i a b)

    -- in the bytes that the step passes nothing begins
    same_begun : (n : ℕ) → p + n ≤ r → breaks_in t (p + n) ≡ breaks_in t p
    same_begun zero h = let e : p + 0 ≡ p = omega arith in ap (breaks_in t) e
    same_begun (suc n) h =
        let e : p + suc n ≡ suc (p + n) = omega arith in
        omega (arith, ap (breaks_in t) e, same_begun n (omega arith), ap flag (unbegun (p + n) (inside (p + n) (omega arith) (omega arith))))

    -- and before the last of them no more has ended than before the first
    few_ended : (k : ℕ) → ((q : ℕ) → q < p → index (line_weight unicode_breaks) t q < k) → (q : ℕ) → q < r → index (line_weight unicode_breaks) t q < k
    few_ended k before zero h =
        ⊎_elim
        (λ (a : 0 < p). before 0 a)
        (λ (a : p ≤ 0). absurd (both_ways (char_start t 0) (next.none 0 a h) refl))
        (cases_lt 0 p)
    few_ended k before (suc q) h =
        ⊎_elim
        (λ (a : suc q < p). before (suc q) a)
        (λ (a : p ≤ suc q). omega (arith, few_ended k before q (omega arith), unended (suc q) (next.none (suc q) a h)))
        (cases_lt (suc q) p)

    -- the first char start after k breaks have counted is where line k starts
    pub arrives : {k n : ℕ} → Counted t k n p → (n < k → p ≡ length t) → r ≡ start (line_weight unicode_breaks) t k
    arrives {k} {n} w all =
        let m : p + (r - p) ≡ r = omega (arith, next.onward) in
        let i : index (line_weight unicode_breaks) t r ≡ n =
        omega (arith, start_ended t r (cut_from_start t r well next.start), same_begun (r - p) (omega arith), ap (breaks_in t) m, w.right) in
        ⊎_elim
        (λ (l : n < k).
        let e : r ≡ length t = omega (arith, all l, next.onward, in_text) in
        e ∙ sym (start_past laws t well k (omega (arith, ap (index (line_weight unicode_breaks) t) e))))
        (λ (l : k ≤ n).
        first_start laws t well k r in_text (omega (arith, w.few))
        (few_ended k (λ q h. omega (arith, begun_ended t q, w.fewest q h))))
        (cases_lt n k)
