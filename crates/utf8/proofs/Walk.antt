-- What one turn of `check` keeps: what is left has the fault that the whole has. Assumes nothing.
use Rattle.std.proofs.Common.{◌≡◌, ℕ, ◌+◌, ◌<◌, ◌≤◌, List, ◌∷◌, length, get_or, drop, Some, None, Ok, Err, Result, sym, refl, ap, ◌∙◌, MatchResult}
use Rattle.std.proofs.lemmas.List.{at_drop_more, at_drop_all}
use Rattle.utf8.specs.declared.checker.Checker.{Checker}
use Rattle.faults.specs.Layers.{CheckFault as Fault}
use Rattle.utf8.specs.declared.kind.ByteKind.{ByteKind}
use Rattle.utf8.specs.Kinds.{kind_of}
use Rattle.utf8.specs.FirstFault.{Range, due_after, first_place, why_not, fault_from, first_fault}
use Rattle.utf8.specs.Steps.{due, next, Stepped, Ended}
use Rattle.utf8.specs.Checks.{Passed, Refused}
use Rattle.utf8.proofs.Means.{passed, refused}
use Rattle.utf8.proofs.Agrees.{agrees, due_of}

-- c stands at place i of xs, and what is left has the fault of the whole
abbrev pub Sofar : List ℕ → ℕ → Checker → Type 0
Sofar xs i c = fault_from c.first i (due c.state) (drop i xs) ≡ first_fault xs

went : (s i : ℕ) (ds rs : List Range) (b : ℕ) (bs : List ℕ) → due_after ds b ≡ Some rs → fault_from s i ds (b ∷ bs) ≡ fault_from (first_place ds s i) (i + 1) rs bs
went s i ds rs b bs e = rw (e, fault_from) refl

stopped : (s i : ℕ) (ds : List Range) (b : ℕ) (bs : List ℕ) → due_after ds b ≡ None → fault_from s i ds (b ∷ bs) ≡ Some (record { place = first_place ds s i; cause = why_not ds })
stopped s i ds b bs e = rw (e, fault_from) refl

module _ (xs : List ℕ) (i : ℕ) (c : Checker) (old : Sofar xs i c) where
  pub none_more : length xs ≤ i → (r : Result (Unit {0}) Fault) → Ended c r → MatchResult r (λ _. Passed xs) (λ f. Refused xs f)
  none_more h (Ok _) e = let n : first_fault xs ≡ None = (sym old ∙ at_drop_all (fault_from c.first i (due c.state)) xs i h ∙ e) in passed xs n
  none_more h (Err f) e = let n : first_fault xs ≡ Some f = sym old ∙ at_drop_all (fault_from c.first i (due c.state)) xs i h ∙ e in refused xs f n

  module _ (in' : i < length xs) (byte : get_or xs i 0 < 256) where
    here : fault_from c.first i (due c.state) (get_or xs i 0 ∷ drop (i + 1) xs) ≡ first_fault xs
    here = sym (at_drop_more (fault_from c.first i (due c.state)) xs i 0 in') ∙ old

    pub one_more : (d : Checker) (k : ByteKind) → k ≡ kind_of (get_or xs i 0) → Stepped c i k (Ok tt) d → Sofar xs (i + 1) d
    one_more d k is st =
        let b = get_or xs i 0 in
        let moved : due_after (due c.state) b ≡ Some (due d.state) = sym (agrees c.state b byte) ∙ ap (λ k. due_of (next c.state k)) (sym is) ∙ ap due_of st.0 in
        rw st.1 (sym (went c.first i (due c.state) (due d.state) b (drop (i + 1) xs) moved) ∙ here)

    pub no_more : (f : Fault) (d : Checker) (k : ByteKind) → k ≡ kind_of (get_or xs i 0) → Stepped c i k (Err f) d → Refused xs f
    no_more f d k is st =
        let b = get_or xs i 0 in
        let none : due_after (due c.state) b ≡ None = sym (agrees c.state b byte) ∙ ap (λ k. due_of (next c.state k)) (sym is) ∙ ap due_of st.0 in
        let n : first_fault xs ≡ Some f = sym here ∙ stopped c.first i (due c.state) b (drop (i + 1) xs) none ∙ (λ k. Some (record { place = sym st.1 k; cause = sym st.2 k })) in refused xs f n
