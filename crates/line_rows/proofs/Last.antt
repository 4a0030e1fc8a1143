-- Counts less flags, of which the last lane is still to be seen. Assumes nothing.
use Rattle.std.proofs.Common.{◌≡◌, ℕ, ◌+◌, ◌-◌, ◌<◌, ◌≤◌, Bool, true, ◌≢◌, List, length, get_or, sym, refl, ap, ◌∙◌, subst, ⊎_elim, arith}
use lib.Lanes.{zip2, Each2}
use Rattle.std.proofs.lemmas.List.{get_or-set_same, get_or-set_other}
use Rattle.std.proofs.lemmas.Bool.{cases_lt, cases_eq}
use Rattle.chunk.specs.Rows.{Row, at_lane}
use Rattle.chunk.proofs.Rows.{Each2-from_at}
use Rattle.line_rows.specs.Begins.{flag}
use Rattle.line_rows.specs.Marks.{Marked}
use Rattle.line_rows.proofs.Flags.{at_zip}
use Rattle.line_rows.proofs.Edges.{Within}

module _ {f : ℕ → Bool} {place w : ℕ} {found : List ℕ} (h : Within f place w 1 found) (counts : List ℕ) (rc : Row w counts) where
  pub within_fits : ((i : ℕ) → i < w → flag (f (place + i)) ≤ get_or counts i 0) → Each2 (λ x y. y ≤ x) counts found
  within_fits room = Each2-from_at (λ x y. y ≤ x) counts found rc (λ i l.
      ⊎_elim
      (λ (a : i + 1 < w). omega (arith, h.inner i a, room i l))
      (λ (a : w ≤ i + 1). omega (arith, h.outer i a))
      (cases_lt (i + 1) w))

  module _ (rf : Row w found) (left : List ℕ) (is : left ≡ zip2 (λ x y. x - y) counts found) where
    left_at : (i : ℕ) → get_or left i 0 ≡ get_or counts i 0 - get_or found i 0
    left_at i = ap (λ (xs : List ℕ). get_or xs i 0) is ∙ at_zip (λ x y. x - y) refl counts found (rc.long ∙ sym rf.long) i

    pub less_none : Marked f place w found → (i : ℕ) → i < w → get_or left i 0 ≡ get_or counts i 0 - flag (f (place + i))
    less_none m i l = left_at i ∙ ap (λ (n : ℕ). get_or counts i 0 - n) (m i l)

    -- the last lane has a flag too
    module _ (some : 1 ≤ w) (last : f (place + (w - 1)) ≡ true) where
      pub less_some : ((i : ℕ) → i < w → flag (f (place + i)) ≤ get_or counts i 0) → 0 < get_or left (w - 1) 0
      less_some room = omega (arith, left_at (w - 1), h.outer (w - 1) (omega arith), room (w - 1) (omega arith), ap flag last)

      pub less_one : Row w left → (out : List ℕ) → out ≡ at_lane (w - 1) (λ x. x - 1) left → (i : ℕ) → i < w → get_or out i 0 ≡ get_or counts i 0 - flag (f (place + i))
      less_one rl out e i l =
          let long : length left ≡ w = rl.long in
          ⊎_elim
          (λ (q : i ≡ w - 1).
          subst (λ (k : ℕ). get_or out k 0 ≡ get_or counts k 0 - flag (f (place + k))) (sym q)
          (ap (λ (xs : List ℕ). get_or xs (w - 1) 0) e ∙ get_or-set_same left (w - 1) (get_or left (w - 1) 0 - 1) 0 (omega arith)
          ∙ omega (arith, left_at (w - 1), h.outer (w - 1) (omega arith), ap flag last)))
          (λ (q : i ≢ w - 1).
          ap (λ (xs : List ℕ). get_or xs i 0) e ∙ get_or-set_other left (w - 1) i (get_or left (w - 1) 0 - 1) 0 q
          ∙ left_at i ∙ ap (λ (n : ℕ). get_or counts i 0 - n) (h.inner i (omega arith)))
          (cases_eq i (w - 1))
