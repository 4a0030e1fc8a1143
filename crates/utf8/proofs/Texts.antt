-- Bytes are a text just where they have no fault. Assumes nothing.
use Rattle.std.proofs.Common.{◌≡◌, ℕ, ◌+◌, Bool, true, false, List, [], ◌∷◌, Some, None, Option, sym, refl, ap, ◌∙◌}
use Rattle.faults.specs.Layers.{CheckFault as Fault}
use Rattle.utf8.specs.FirstFault.{Range, due_after, first_place, why_not, fault_from, first_fault, goes_on, is_text}

abbrev none : Option Fault → Bool
none None = true
none (Some f) = false

pub goes_step : (ds : List Range) (b : ℕ) (bs : List ℕ) (o : Option (List Range)) → due_after ds b ≡ o → goes_on ds (b ∷ bs) ≡ (elim o [ None ↦ false | Some rs ↦ goes_on rs bs ])
goes_step [] b bs o e = rw (e, goes_on) refl
goes_step (r ∷ rs) b bs o e = rw (e, goes_on) refl

pub fault_step : (s i : ℕ) (ds : List Range) (b : ℕ) (bs : List ℕ) (o : Option (List Range)) → due_after ds b ≡ o → fault_from s i ds (b ∷ bs) ≡ (elim o [ None ↦ Some (record { place = first_place ds s i; cause = why_not ds }) | Some rs ↦ fault_from (first_place ds s i) (i + 1) rs bs ])
fault_step s i ds b bs o e = rw (e, fault_from) refl

same : (s i : ℕ) (ds : List Range) (bs : List ℕ) → goes_on ds bs ≡ none (fault_from s i ds bs)
same s i [] [] = refl
same s i (r ∷ rs) [] = refl
same s i ds (b ∷ bs) = go (due_after ds b) refl (λ rs. same (first_place ds s i) (i + 1) rs bs)
  where
    go : (o : Option (List Range)) → due_after ds b ≡ o → ((rs : List Range) → goes_on rs bs ≡ none (fault_from (first_place ds s i) (i + 1) rs bs)) → goes_on ds (b ∷ bs) ≡ none (fault_from s i ds (b ∷ bs))
    go None e ih = goes_step ds b bs None e ∙ sym (ap none (fault_step s i ds b bs None e))
    go (Some rs) e ih = goes_step ds b bs (Some rs) e ∙ ih rs ∙ sym (ap none (fault_step s i ds b bs (Some rs) e))

pub no_fault : (bs : List ℕ) → first_fault bs ≡ None → is_text bs ≡ true
no_fault bs e = same 0 0 [] bs ∙ ap none e

pub a_fault : (bs : List ℕ) (f : Fault) → first_fault bs ≡ Some f → is_text bs ≡ false
a_fault bs f e = same 0 0 [] bs ∙ ap none e
