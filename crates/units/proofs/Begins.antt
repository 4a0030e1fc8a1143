-- Units that have begun against units that have ended. Assumes nothing.
use Rattle.std.proofs.Common.{◌≡◌, ℕ, zero, suc, ◌+◌, ◌-◌, ◌*◌, ◌<◌, ◌≤◌, Bool, true, false, cond, not, leb, ◌⊎◌, List, length, get_or, take, drop, sym, ap, ◌∙◌, subst, inl, inr, ⊎_elim, mul_comm, add-mul, mul-le-mul_left, arith}
use Rattle.std.proofs.lemmas.List.{get_or_past}
use Rattle.std.proofs.lemmas.Bool.{cases_lt, cases_Bool, cond-true, cond-false, cond_both, leb-true, both_ways}
use Rattle.std.proofs.lemmas.Bool.Decides.{nat_tests}
use Rattle.scan.specs.Marks.{counted}
use Rattle.scan.proofs.Marking.{flag_small, counted_on, counted_next, counted_most}
use Rattle.utf8.specs.Grammar.{Text}
use Rattle.utf8.specs.Places.{follower, char_start}
use Rattle.cells.specs.Cells.{index, count, start}
use Rattle.cells.proofs.Places.{sum_next}
use Rattle.cells.proofs.Starts.{found_start, start_past}
use Rattle.cells.proofs.Sums.{sum_mono}
use Rattle.counted.specs.Linked.{ahead}
use Rattle.counted.proofs.Linking.{linked_index}
use Rattle.counted.proofs.Seeking.{part}
use Rattle.measures.specs.Chars.{char_ends, four_bytes, unit_weight}
use Rattle.measures.specs.Counts.{leads, fours, in_char}
use Rattle.measures.specs.Charring.{char_lawful, unit_lawful}
use Rattle.measures.specs.Once.{chars_linked}
use Rattle.measures.proofs.Pairs.{unit_index, pair_index}
use Rattle.units.specs.Units.{unit, begun, Begun}
use Rattle.units.proofs.Fours.{four_tails}

pub begun_next : (t : List ℕ) (i : ℕ) → i < length t → begun t (i + 1) ≡ begun t i + unit (get_or t i 0)
begun_next t i h = omega (arith, counted_next leads t i h, counted_next fours t i h)

-- byte i of the part from a place to another, where a walk has come to it
pub record Here (t : List ℕ) (from to i next : ℕ) : Type 0 where
  pub below : from + i < to
  pub inside : from + i < length t
  pub right : next ≡ begun t (from + (i + 1))

pub begun_here : (t : List ℕ) (from to i count more : ℕ) → i < length (take (to - from) (drop from t)) → count ≡ begun t (from + i) → more ≡ unit (get_or (take (to - from) (drop from t)) i 0)
    → Here t from to i (count + more)
begun_here t from to i count more h e m =
    let here = part t from to i h in
    let up : from + i + 1 ≡ from + (i + 1) = omega arith in
    record { below = omega (arith, here.below); inside = here.inside; right = omega (arith, m ∙ ap unit here.is, begun_next t (from + i) here.inside, ap (begun t) up) }

-- a stretch of n bytes more
pub begun_on : (t : List ℕ) (p n x y : ℕ) → x ≡ counted leads t p n → y ≡ counted fours t p n → (begun t p + (x + y) ≡ begun t (p + n)) × (x + y ≤ n + n)
begun_on t p n x y ex ey = (omega (arith, counted_on leads t p n, counted_on fours t p n), omega (arith, counted_most leads t p n, counted_most fours t p n))

pub begun_most : (t : List ℕ) (p : ℕ) → begun t p ≤ p + p
begun_most t p = omega (arith, counted_most leads t 0 p, counted_most fours t 0 p)

-- ---- at most one unit more than bytes
-- 1 where the last of n bytes begins a char of four
abbrev late : List ℕ → ℕ → ℕ → ℕ
late t p zero = 0
late t p (suc m) = cond (leb 0xF0 (get_or t (p + m) 0)) 1 0

late_lead : (t : List ℕ) (p m : ℕ) → Text t → late t p m + cond (not (follower (get_or t (p + m) 0))) 1 0 ≤ 1
late_lead t p zero u = omega (arith, flag_small (not (follower (get_or t (p + 0) 0))))
late_lead t p (suc m) u =
    ⊎_elim
    (λ (e : leb 0xF0 (get_or t (p + m) 0) ≡ true).
    let n : p + suc m ≡ p + m + suc 0 = omega arith in
    let f : follower (get_or t (p + suc m) 0) ≡ true = ap (λ (k : ℕ). follower (get_or t k 0)) n ∙ four_tails u (p + m) (leb-true 0xF0 (get_or t (p + m) 0) e) 0 (omega arith) in
    let g : ◌≡◌ {A = ℕ} (cond (not (follower (get_or t (p + suc m) 0))) 1 0) 0 = ap (λ (b : Bool). cond (not b) 1 0) f in
    omega (arith, flag_small (leb 0xF0 (get_or t (p + m) 0)), g))
    (λ (e : leb 0xF0 (get_or t (p + m) 0) ≡ false).
    let g : ◌≡◌ {A = ℕ} (cond (leb 0xF0 (get_or t (p + m) 0)) 1 0) 0 = cond-false (leb 0xF0 (get_or t (p + m) 0)) 1 0 e in
    omega (arith, flag_small (not (follower (get_or t (p + suc m) 0))), g))
    (cases_Bool (leb 0xF0 (get_or t (p + m) 0)))

begun_late : (t : List ℕ) (p n : ℕ) → Text t → p + n ≤ length t → begun t (p + n) ≤ begun t p + n + late t p n
begun_late t p zero u h = let e : p + 0 ≡ p = omega arith in omega (arith, ap (begun t) e)
begun_late t p (suc m) u h =
    let e : p + suc m ≡ p + m + 1 = omega arith in
    omega (arith, ap (begun t) e, begun_next t (p + m) (omega arith), begun_late t p m u (omega arith), late_lead t p m u)

late_small : (t : List ℕ) (p n : ℕ) → late t p n ≤ 1
late_small t p zero = omega arith
late_small t p (suc m) = flag_small (leb 0xF0 (get_or t (p + m) 0))

begun_row : (t : List ℕ) (p n : ℕ) → Text t → p + n ≤ length t → begun t (p + n) ≤ begun t p + n + 1
begun_row t p n u h = omega (arith, begun_late t p n u h, late_small t p n)

-- n rows of w lanes begin no more than n times what a sum takes, which is above w
round_low : (n w most : ℕ) → 0 < n → w < most → n * w + 1 ≤ n * most
round_low zero w most z h = absurd (omega arith)
round_low (suc n) w most z h = omega (arith, mul-le-mul_left (suc n) h, mul_comm (suc n) (suc w), mul_comm (suc n) w, add-mul 1 w (suc n))

-- so many rows are left of those that neither pass the end of the text nor unit k
pub record Rounds (place rows w most len count k : ℕ) : Type 0 where
  pub room : place + rows * w ≤ len
  pub low : count + rows * most ≤ k

-- after a round of n rows there is room for the rest of the rows
pub round_keeps : {p rows w most count k : ℕ} (t : List ℕ) (n next : ℕ) → Text t → Rounds p rows w most (length t) count k → 0 < n → n ≤ rows → w < most → count ≡ begun t p → next ≡ begun t (p + n * w)
    → Rounds (p + n * w) (rows - n) w most (length t) next k
round_keeps {p} {rows} {w} {most} {count} {k} t n next u r z l a ec en =
    let s : n + (rows - n) ≡ rows = omega arith in
    let m : (n + (rows - n)) * most ≡ rows * most = ap (λ (x : ℕ). x * most) s in
    let mw : (n + (rows - n)) * w ≡ rows * w = ap (λ (x : ℕ). x * w) s in
    let room : p + n * w + (rows - n) * w ≤ length t = omega (arith, r.room, mw, add-mul n (rows - n) w) in
    record { room = room; low = omega (arith, r.low, m, begun_row t p (n * w) u (omega (arith, room)), round_low n w most z a, add-mul n (rows - n) most) }

-- ---- at a char start all that has begun has ended
quiet : (t : List ℕ) (q n : ℕ) → q + n ≤ length t → ((i : ℕ) → q ≤ i → i < q + n → get_or t i 0 < 0xF0) → counted fours t 0 (q + n) ≡ counted fours t 0 q
quiet t q zero h low = let e : q + 0 ≡ q = omega arith in ap (counted fours t 0) e
quiet t q (suc n) h low =
    let e : q + suc n ≡ q + n + 1 = omega arith in
    let l : get_or t (q + n) 0 < 0xF0 = low (q + n) (omega arith) (omega arith) in
    let f : leb 0xF0 (get_or t (q + n) 0) ≡ false = grind (arith, nat_tests) in
    let z : ◌≡◌ {A = ℕ} (cond (leb 0xF0 (get_or t (q + n) 0)) 1 0) 0 = cond-false (leb 0xF0 (get_or t (q + n) 0)) 1 0 f in
    omega (arith, ap (counted fours t 0) e, counted_next fours t (q + n) (omega arith), quiet t q n (omega arith) (λ i a b. low i a (omega arith)), z)

-- a follower is no char start
not_start : (t : List ℕ) (p : ℕ) → 0 < p → follower (get_or t p 0) ≡ true → char_start t p ≡ false
not_start t p z e =
    ⊎_elim
    (λ (l : p < length t). grind (arith, nat_tests))
    (λ (g : length t ≤ p). absurd (both_ways (follower (get_or t p 0)) (ap follower (get_or_past t p 0 g)) e))
    (cases_lt p (length t))

no_four : (t : List ℕ) (p i : ℕ) → Text t → char_start t p ≡ true → i < p → p ≤ i + 3 → get_or t i 0 < 0xF0
no_four t p i u e l h =
    ⊎_elim
    (λ (a : get_or t i 0 < 0xF0). a)
    (λ (a : 0xF0 ≤ get_or t i 0).
    let n : i + suc (p - i - 1) ≡ p = omega arith in
    let f : follower (get_or t p 0) ≡ true = ap (λ (k : ℕ). follower (get_or t k 0)) (sym n) ∙ four_tails u i a (p - i - 1) (omega arith) in
    absurd (both_ways (char_start t p) (not_start t p (omega arith) f) e))
    (cases_lt (get_or t i 0) 0xF0)

-- no char goes on at a char start
start_ahead : (t : List ℕ) (p : ℕ) → Text t → char_start t p ≡ true → ahead in_char t p ≡ 0
start_ahead t zero u e = chars_linked.none t u
start_ahead t (suc p) u e =
    ⊎_elim
    (λ (f : follower (get_or t (suc p) 0) ≡ true). absurd (both_ways (char_start t (suc p)) (not_start t (suc p) (omega arith) f) e))
    (λ (f : follower (get_or t (suc p) 0) ≡ false). cond-false (follower (get_or t (suc p) 0)) 1 0 f)
    (cases_Bool (follower (get_or t (suc p) 0)))

units_ended : (t : List ℕ) (p : ℕ) → Text t → p ≤ length t → char_start t p ≡ true → index unit_weight t p ≡ begun t p
units_ended t p u h e =
    let n : p - 3 + (p - (p - 3)) ≡ p = omega arith in
    let q = quiet t (p - 3) (p - (p - 3)) (omega arith) (λ i a b. no_four t p i u e (omega arith) (omega arith)) in
    omega (arith, unit_index t p, pair_index t p u h, linked_index char_lawful chars_linked t u p h, q, ap (counted fours t 0) n, start_ahead t p u e)

-- ---- the start
lead_start : (t : List ℕ) (p : ℕ) → p < length t → 0 < unit (get_or t p 0) → char_start t p ≡ true
lead_start t p h z = grind (arith, nat_tests)

begun_mono : (t : List ℕ) (p n : ℕ) → begun t p ≤ begun t (p + n)
begun_mono t p n = omega (arith, counted_on leads t p n, counted_on fours t p n)

ends_start : (t : List ℕ) (p : ℕ) → char_ends t p ≡ true → char_start t p ≡ true
ends_start t p e = grind (arith, nat_tests)

start_ends : (t : List ℕ) (p : ℕ) → 0 < p → char_start t p ≡ true → char_ends t p ≡ true
start_ends t p z e = grind (arith, nat_tests)

weight_some : (t : List ℕ) (p : ℕ) → char_ends t p ≡ true → 0 < unit_weight t p
weight_some t p e =
    subst (λ (n : ℕ). 0 < n) (sym (cond-true (char_ends t p) (cond (four_bytes t p) 2 1) 0 e)) (cond_both (four_bytes t p) 2 1 (λ (n : ℕ). 0 < n) (λ x. omega arith) (λ x. omega arith))

-- where unit k begins in the byte after p, the index stays from p on until it passes k
stays : (t : List ℕ) (k p : ℕ) → Text t → k < begun t (p + 1) → (n : ℕ) → p + n ≤ length t → (index unit_weight t (p + n) ≡ index unit_weight t p) ⊎ (k < index unit_weight t (p + n))
stays t k p u h zero l = let e : p + 0 ≡ p = omega arith in inl (ap (index unit_weight t) e)
stays t k p u h (suc n) l =
    let s : p + suc n ≡ suc (p + n) = omega arith in
    let b : p + 1 + n ≡ suc (p + n) = omega arith in
    let i : index unit_weight t (p + suc n) ≡ index unit_weight t (suc (p + n)) = ap (index unit_weight t) s in
    ⊎_elim
    (λ (e : char_ends t (suc (p + n)) ≡ true).
    inr (omega (arith, i, units_ended t (suc (p + n)) u (omega arith) (ends_start t (suc (p + n)) e), begun_mono t (p + 1) n, ap (begun t) b)))
    (λ (e : char_ends t (suc (p + n)) ≡ false).
    let w : unit_weight t (suc (p + n)) ≡ 0 = cond-false (char_ends t (suc (p + n))) (cond (four_bytes t (suc (p + n))) 2 1) 0 e in
    ⊎_elim
    (λ (a : index unit_weight t (p + n) ≡ index unit_weight t p). inl (omega (arith, i, w, a)))
    (λ (a : k < index unit_weight t (p + n)). inr (omega (arith, i, w, a)))
    (stays t k p u h n (omega arith)))
    (cases_Bool (char_ends t (suc (p + n))))

pub started : {t : List ℕ} {k p n : ℕ} → Text t → Begun t k p n → (p < length t → k < begun t (p + 1)) → p ≡ start unit_weight t k
started {t} {k} {p} {n} u g out =
    let within = g.within in
    let cs : char_start t p ≡ true =
    ⊎_elim
    (λ (l : p < length t). lead_start t p l (omega (arith, out l, begun_next t p l, g.right, g.low)))
    (λ (l : length t ≤ p). grind (arith, nat_tests))
    (cases_lt p (length t)) in
    let x : index unit_weight t p ≡ begun t p = units_ended t p u g.within cs in
    ⊎_elim
    (λ (lt : count unit_weight t < k).
    ⊎_elim
    (λ (l : p < length t).
    let d : p + 1 + (length t - (p + 1)) ≡ length t = omega arith in
    let y : index unit_weight t (length t) ≡ begun t (length t) = units_ended t (length t) u (omega arith) (grind (arith, nat_tests)) in
    absurd (omega (arith, out l, begun_mono t (p + 1) (length t - (p + 1)), ap (begun t) d, y)))
    (λ (l : length t ≤ p). let e : p ≡ length t = omega arith in e ∙ sym (start_past unit_lawful t u k lt))
    (cases_lt p (length t)))
    (λ (le : k ≤ count unit_weight t).
    let f = found_start unit_lawful t u k le in
    let a : index unit_weight t p ≤ index unit_weight t (start unit_weight t k) = f.greatest p g.within (omega (arith, x, g.right, g.low)) in
    let b : index unit_weight t (start unit_weight t k) ≤ index unit_weight t p =
    ⊎_elim
    (λ (l : p < start unit_weight t k).
    let d : p + (start unit_weight t k - p) ≡ start unit_weight t k = omega arith in
    let dd : index unit_weight t (p + (start unit_weight t k - p)) ≡ index unit_weight t (start unit_weight t k) = ap (index unit_weight t) d in
    ⊎_elim
    (λ (y : index unit_weight t (p + (start unit_weight t k - p)) ≡ index unit_weight t p). omega (arith, y, dd))
    (λ (y : k < index unit_weight t (p + (start unit_weight t k - p))). absurd (omega (arith, y, dd, f.low)))
    (stays t k p u (out (omega (arith, f.at_most))) (start unit_weight t k - p) (omega (arith, f.at_most))))
    (λ (l : start unit_weight t k ≤ p). sum_mono (unit_weight t) (start unit_weight t k) p l)
    (cases_lt p (start unit_weight t k)) in
    let c : start unit_weight t k ≤ p = f.shortest p (omega arith) in
    ⊎_elim
    (λ (l : start unit_weight t k < p).
    let w = weight_some t p (start_ends t p (omega arith) cs) in
    let m : index unit_weight t (start unit_weight t k) ≤ index unit_weight t (p - 1) = sum_mono (unit_weight t) (start unit_weight t k) (p - 1) (omega arith) in
    let e : p - 1 + 1 ≡ p = omega arith in
    absurd (omega (arith, w, m, sum_next (unit_weight t) (p - 1), ap (index unit_weight t) e, ap (unit_weight t) e, a, b)))
    (λ (l : p ≤ start unit_weight t k). omega arith)
    (cases_lt (start unit_weight t k) p))
    (cases_lt (count unit_weight t) k)
