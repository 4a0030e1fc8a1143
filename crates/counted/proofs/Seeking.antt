-- The start of an index, by a walk and by rows. Assumes nothing.
use Rattle.std.proofs.Common.{◌≡◌, ℕ, suc, ◌+◌, ◌-◌, ◌<◌, ◌≤◌, Bool, true, List, length, get_or, take, drop, sym, ap, ◌∙◌, subst, ⊎_elim, arith, length-drop, length-take}
use mir.Val.{bool_byte}
use Rattle.std.proofs.lemmas.Simd.{get_or-chunk}
use Rattle.std.proofs.lemmas.Bool.{cases_lt}
use Rattle.chunk.proofs.Rows.{flag_byte}
use Rattle.scan.specs.Marks.{Rule, counted}
use Rattle.scan.proofs.Marking.{mark_byte, counted_on, counted_next, counted_most}
use Rattle.utf8.specs.FirstFault.{is_text}
use Rattle.utf8.specs.Grammar.{Text}
use Rattle.utf8.proofs.Means.{text_from_test}
use Rattle.cells.specs.Cells.{Lawful, index, count, start}
use Rattle.cells.specs.Near.{back}
use Rattle.cells.proofs.Sums.{sum_mono}
use Rattle.cells.proofs.Places.{sum_next}
use Rattle.cells.proofs.Starts.{weight_zero, found_start, start_past, index_most}
use Rattle.counted.specs.Linked.{Linked, ahead, Reached}
use Rattle.counted.proofs.Linking.{linked_index}

-- byte i of the part of a text from a place to another
pub record Part (t : List ℕ) (from to i : ℕ) : Type 0 where
  pub below : i < to - from
  pub inside : from + i < length t
  pub is : get_or (take (to - from) (drop from t)) i 0 ≡ get_or t (from + i) 0

pub part : (t : List ℕ) (from to i : ℕ) → i < length (take (to - from) (drop from t)) → Part t from to i
part t from to i h =
    let l : i < to - from = omega (arith, length-take (to - from) (drop from t)) in
    record { below = l; inside = omega (arith, length-take (to - from) (drop from t), length-drop from t); is = get_or-chunk from (to - from) t i 0 l }

-- past its last byte, a part is done
pub part_end : (t : List ℕ) (from to i : ℕ) → to ≤ length t → i ≤ length (take (to - from) (drop from t)) → length (take (to - from) (drop from t)) ≤ i → i ≡ to - from
part_end t from to i w h k = omega (arith, length-take (to - from) (drop from t), length-drop from t)

-- a walk with the two bytes before its place at hand
pub record Walking (hit : Rule) (weight : List ℕ → ℕ → ℕ) (t : List ℕ) (k p n far near : ℕ) : Type 0 where
  pub so : Reached hit weight t k p n
  pub second : far ≡ back 2 t p
  pub first : near ≡ back 1 t p

module _ {ends : List ℕ → ℕ → Bool} {weight : List ℕ → ℕ → ℕ} {split : ℕ → ℕ → Bool} {hit : Rule} (laws : Lawful ends weight) (link : Linked hit weight split) {t : List ℕ} (sound : is_text t ≡ true) where
  well : Text t
  well = text_from_test t sound

  module _ {k p n : ℕ} (so : Reached hit weight t k p n) where
    reached_index : n ≡ index weight t p + ahead split t p
    reached_index = so.right ∙ linked_index laws link t well p so.within

    -- no more than k has ended
    reached_low : index weight t p ≤ k
    reached_low =
        ⊎_elim
        (λ (z : 0 < p).
        let e : p - 1 + 1 ≡ p = omega arith in
        omega (arith, so.early z, sum_next (weight t) (p - 1), ap (index weight t) e, link.one t (p - 1 + 1)))
        (λ (z : p ≤ 0). let e : p ≡ 0 = omega arith in omega (arith, ap (index weight t) e, weight_zero laws t well))
        (cases_lt 0 p)

    -- m bytes more, in which k is not reached
    pub reached_rows : (m more : ℕ) → p + m ≤ length t → more ≡ counted hit t p m → n + more < k → Reached hit weight t k (p + m) (n + more)
    reached_rows m more h e l =
        let c = counted_on hit t p m in
        record {
          within = h;
          right = omega (arith, so.right);
          early = λ z. omega (arith, so.right, linked_index laws link t well (p + m) h, sum_mono (weight t) (p + m - 1) (p + m) (omega arith));
        }

    pub reached_few : (m more : ℕ) → more ≡ counted hit t p m → n + more ≤ p + m
    reached_few m more e = omega (arith, so.right, counted_most hit t 0 p, counted_most hit t p m)

    -- where k has ended, or the text has, the walk is at the start of k
    pub arrived : (p < length t → index weight t p ≡ k) → p ≡ start weight t k
    arrived stop =
        ⊎_elim
        (λ (lt : count weight t < k).
        ⊎_elim
        (λ (l : p < length t). absurd (omega (arith, stop l, index_most laws t well p)))
        (λ (l : length t ≤ p). let e : p ≡ length t = omega (arith, so.within) in e ∙ sym (start_past laws t well k lt))
        (cases_lt p (length t)))
        (λ (le : k ≤ count weight t).
        let f = found_start laws t well k le in
        let here : index weight t p ≡ k =
        ⊎_elim
        (λ (l : p < length t). stop l)
        (λ (l : length t ≤ p). let e : p ≡ length t = omega (arith, so.within) in omega (arith, reached_low, ap (index weight t) e))
        (cases_lt p (length t)) in
        let g = f.greatest p so.within (omega arith) in
        let low : start weight t k ≤ p = f.shortest p (omega (arith, f.low)) in
        ⊎_elim
        (λ (l : start weight t k < p). absurd (omega (arith, so.early (omega arith), sum_mono (weight t) (start weight t k) (p - 1) (omega arith))))
        (λ (l : p ≤ start weight t k). omega arith)
        (cases_lt (start weight t k) p))
        (cases_lt (count weight t) k)

  -- where a walk is at a place, of whose byte s says whether its place lies inside a cell: what has ended is what is
  -- counted, without that cell
  module _ {k p n far near : ℕ} (w : Walking hit weight t k p n far near) {byte : ℕ} (is : byte ≡ get_or t p 0) {s : Bool} (es : s ≡ split near byte) where
    split_at : bool_byte s ≡ ahead split t p
    split_at =
        let e : s ≡ split (back 1 t p) (back 0 t p) = cc (es, w.first, is) in
        ap bool_byte e ∙ flag_byte (split (back 1 t p) (back 0 t p))

    pub ended_before : bool_byte s ≤ n
    ended_before = omega (arith, reached_index w.so, split_at)

    pub ended_at : n - bool_byte s ≡ index weight t p
    ended_at = omega (arith, reached_index w.so, split_at)

  -- the same at byte i of the part from a place to another
  module _ (from to : ℕ) {k i n far near : ℕ} (w : Walking hit weight t k (from + i) n far near) (h : i < length (take (to - from) (drop from t)))
      {s : Bool} (es : s ≡ split near (get_or (take (to - from) (drop from t)) i 0)) where
    pub ended_fits : bool_byte s ≤ n
    ended_fits = ended_before w (part t from to i h).is es

    pub ended_is : n - bool_byte s ≡ index weight t (from + i)
    ended_is = ended_at w (part t from to i h).is es

    -- where b says whether the byte counts
    module _ {b : Bool} (eb : b ≡ hit far near (get_or (take (to - from) (drop from t)) i 0)) where
      next : n + bool_byte b ≡ counted hit t 0 (from + i + 1)
      next = omega (arith, w.so.right, mark_byte hit b (back 2 t (from + i)) (back 1 t (from + i)) (back 0 t (from + i)) (cc (eb, w.first, w.second, (part t from to i h).is)), counted_next hit t (from + i) (part t from to i h).inside)

      pub walking_few : n + bool_byte b ≤ from + i + 1
      walking_few = omega (arith, next, counted_most hit t 0 (from + i + 1))

      pub walking_more : (n - bool_byte s ≡ k → ⊥) → Walking hit weight t k (from + (i + 1)) (n + bool_byte b) near (get_or (take (to - from) (drop from t)) i 0)
      walking_more ne =
          let up : from + (i + 1) ≡ suc (from + i) = omega arith in
          let one : from + i + 1 ≡ from + (i + 1) = omega arith in
          let less : index weight t (from + i) < k = ⊎_elim (λ (l : index weight t (from + i) < k). l) (λ (l : k ≤ index weight t (from + i)). absurd (ne (omega (arith, ended_is, reached_low w.so)))) (cases_lt (index weight t (from + i)) k) in
          let down : from + (i + 1) - 1 ≡ from + i = omega arith in
          record {
            so = record {
              within = omega (arith, (part t from to i h).inside);
              right = next ∙ ap (counted hit t 0) one;
              early = λ z. subst (λ (x : ℕ). index weight t x < k) (sym down) less;
            };
            second = w.first ∙ sym (ap (back 2 t) up);
            first = (part t from to i h).is ∙ sym (ap (back 1 t) up);
          }
