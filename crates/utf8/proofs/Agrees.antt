-- At each of the 256 bytes and in each state, the step by the byte's kind is the step by the byte: one test for each state.
-- Assumes nothing.
use Rattle.std.proofs.Common.{◌≡◌, ℕ, ◌<◌, Bool, true, false, T, eqb, List, [], ◌∷◌, Some, None, Option, refl, ap, eqb→eq}
use Rattle.utf8.specs.declared.checker.State.{State}
use Rattle.utf8.specs.declared.checker.State.TheVariants.{First, One, Two, Three, AfterE0, AfterEd, AfterF0, AfterF4}
use Rattle.utf8.specs.Kinds.{kind_of}
use Rattle.utf8.specs.FirstFault.{Range, due_after}
use Rattle.utf8.specs.Steps.{due, next}
use Rattle.utf8.proofs.Table.{both, both_left, both_right, below, at_below}

abbrev pub due_of : Option State → Option (List Range)
due_of None = None
due_of (Some s) = Some (due s)

same : List Range → List Range → Bool
same [] [] = true
same [] (q ∷ qs) = false
same (r ∷ rs) [] = false
same (r ∷ rs) (q ∷ qs) = both (eqb r.low q.low) (both (eqb r.high q.high) (same rs qs))

same_is : (rs qs : List Range) → T (same rs qs) → rs ≡ qs
unfolding same
same_is [] [] t = refl
same_is [] (q ∷ qs) t = absurd t
same_is (r ∷ rs) [] t = absurd t
same_is (r ∷ rs) (q ∷ qs) t =
    let t' = both_right _ _ t in
    let low = eqb→eq r.low q.low (both_left _ _ t) in
    let high = eqb→eq r.high q.high (both_left _ _ t') in
    let rest = same_is rs qs (both_right _ _ t') in
    λ i. record { low = low i; high = high i } ∷ rest i

same_opt : Option (List Range) → Option (List Range) → Bool
same_opt None None = true
same_opt None (Some q) = false
same_opt (Some r) None = false
same_opt (Some r) (Some q) = same r q

same_opt_is : (o p : Option (List Range)) → T (same_opt o p) → o ≡ p
unfolding same_opt
same_opt_is None None t = refl
same_opt_is None (Some q) t = absurd t
same_opt_is (Some r) None t = absurd t
same_opt_is (Some r) (Some q) t = ap Some (same_is r q t)

in_state : State → ℕ → Bool
in_state s b = same_opt (due_of (next s (kind_of b))) (due_after (due s) b)

rule : (s : State) → T (below (in_state s) 256)
unfolding in_state same_opt same
rule First = tt
rule One = tt
rule Two = tt
rule Three = tt
rule AfterE0 = tt
rule AfterEd = tt
rule AfterF0 = tt
rule AfterF4 = tt

-- a step by the kind of a byte is the RFC's step by the byte
pub agrees : (s : State) (b : ℕ) → b < 256 → due_of (next s (kind_of b)) ≡ due_after (due s) b
unfolding in_state
agrees s b h = same_opt_is _ _ (at_below (in_state s) 256 (rule s) b h)
