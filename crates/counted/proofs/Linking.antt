-- The count of a linked rule as summed weights. Assumes nothing.
use Rattle.std.proofs.Common.{◌≡◌, ℕ, zero, suc, ◌+◌, ◌-◌, ◌<◌, ◌≤◌, min, Bool, List, length, sym, ap, ◌∙◌, ⊎_elim, arith}
use Rattle.std.proofs.lemmas.Bool.{cases_lt}
use Rattle.scan.specs.Marks.{Rule, counted}
use Rattle.scan.proofs.Marking.{flag_small, counted_on, counted_next, counted_most}
use Rattle.utf8.specs.Grammar.{Text}
use Rattle.cells.specs.Cells.{Lawful, index}
use Rattle.cells.specs.Near.{back}
use Rattle.cells.proofs.Sums.{sum_mono}
use Rattle.cells.proofs.Places.{sum_next}
use Rattle.cells.proofs.Starts.{weight_zero, index_past}
use Rattle.counted.specs.Linked.{Linked, ahead}

module _ {ends : List ℕ → ℕ → Bool} {weight : List ℕ → ℕ → ℕ} (laws : Lawful ends weight) (t : List ℕ) (well : Text t) where
  -- a place past the length stands for the length
  pub clipped : (b : ℕ) → index weight t (min b (length t)) ≡ index weight t b
  clipped b =
      ⊎_elim
      (λ (lt : b < length t). let e : min b (length t) ≡ b = omega arith in ap (index weight t) e)
      (λ (ge : length t ≤ b). let e : min b (length t) ≡ length t = omega arith in ap (index weight t) e ∙ sym (index_past laws t well b ge))
      (cases_lt b (length t))

  pub sum_none : (a b to : ℕ) → to ≡ min b (length t) → to ≤ a → 0 ≡ index weight t b - index weight t a
  sum_none a b to e h = omega (arith, clipped b, ap (index weight t) e, sum_mono (weight t) to a h)

module _ {ends : List ℕ → ℕ → Bool} {weight : List ℕ → ℕ → ℕ} {split : ℕ → ℕ → Bool} {hit : Rule} (laws : Lawful ends weight) (link : Linked hit weight split) (t : List ℕ) (well : Text t) where
  -- what is counted before a place has ended there, but for the cell that the place lies in
  pub linked_index : (b : ℕ) → b ≤ length t → counted hit t 0 b ≡ index weight t b + ahead split t b
  linked_index zero h = omega (arith, weight_zero laws t well, link.none t well)
  linked_index (suc b) h =
      let up : b + 1 ≡ suc b = omega arith in
      let c : counted hit t 0 (suc b) ≡ counted hit t 0 (b + 1) = ap (counted hit t 0) (sym up) in
      let i : index weight t (suc b) ≡ index weight t (b + 1) = ap (index weight t) (sym up) in
      let a : ahead split t (suc b) ≡ ahead split t (b + 1) = ap (ahead split t) (sym up) in
      omega (arith, counted_next hit t b h, sum_next (weight t) b, link.step t b well h, linked_index b (omega arith))

  pub linked_between : (a b : ℕ) → a ≤ b → b ≤ length t → counted hit t a (b - a) + ahead split t a + index weight t a ≡ index weight t b + ahead split t b
  linked_between a b l h =
      let e : a + (b - a) ≡ b = omega arith in
      omega (arith, linked_index a (omega arith), linked_index b h, counted_on hit t a (b - a), ap (counted hit t 0) e)

  -- a sum by a count n and what is ahead at both ends
  pub record Summing (a b to n x y : ℕ) : Type 0 where
    pub few : n + x ≤ (to - a) + 1
    pub covers : y ≤ n + x
    pub is : n + x - y ≡ index weight t b - index weight t a

  pub sum_some : (a b to n x y : ℕ) → to ≡ min b (length t) → a ≤ to → n ≡ counted hit t a (to - a) → x ≡ ahead split t a → y ≡ ahead split t to → Summing a b to n x y
  sum_some a b to n x y e h en ex ey =
      let c : index weight t to ≡ index weight t b = ap (index weight t) e ∙ clipped laws t well b in
      let m : index weight t a ≤ index weight t to = sum_mono (weight t) a to h in
      let l = linked_between a to h (omega arith) in
      let s : ahead split t a ≤ 1 = flag_small (split (back 1 t a) (back 0 t a)) in
      record { few = omega (arith, counted_most hit t a (to - a)); covers = omega arith; is = omega arith }
