-- The laws of chars and of UTF-16 units, and their cells in the words of the grammar. Assumes nothing.
use Rattle.std.specs.Prelude.{◌≡◌, ℕ, zero, suc, ◌+◌, ◌-◌, ◌<◌, ◌≤◌, Bool, true, false, cond, not, ◌&&◌, ◌||◌, List, ◌++◌, length, ◌==◌, nat_le, nat_lt, slice_index, slice_index_or, refl}
use Rattle.std.proofs.Common.{sym, ap, subst, ◌∙◌, ⊎_elim, arith, length-append}
use Rattle.std.proofs.lemmas.List.{get_or-append-add, get_or_append_left}
use Rattle.std.proofs.lemmas.Bool.{cases_lt, cond_both, cond-true, cond-false, lt-ltb, le-leb, lt-leb, eq-eqb, ne_eqb, and_parts, and_from}
use Rattle.std.proofs.lemmas.Bool.Decides.{nat_tests}
use Rattle.utf8.specs.Grammar.{Char, Text}
use Rattle.utf8.specs.Places.{follower, char_start}
use Rattle.utf8.proofs.Cuts.{Shape, shape, Cut, cut_none, cut_after, cut_from_start, start_from_cut, follower_at, lead_ends, wide}
use Rattle.cells.specs.Cells.{Lawful}
use Rattle.cells.specs.Near.{around, back}
use Rattle.cells.proofs.Near.{near_back, last_back, back_in, standing}
use Rattle.measures.specs.Chars.{char_ends, char_weight, four_bytes, unit_weight}
use Rattle.measures.specs.CharCells.{CharCell, CharCells}

-- inside a text a cell ends where no follower stands
pub ends_in : (t : List ℕ) (p : ℕ) → 0 < p → p < length t → char_ends t p ≡ not (follower (slice_index t p))
ends_in t p z h =
    ap (λ (b : Bool). b && char_start t p) (lt-ltb 0 p z)
    ∙ ap (λ (b : Bool). b || (p == length t || (nat_lt p (length t) && not (follower (slice_index t p))))) (ne_eqb p 0 (λ e. omega arith))
    ∙ ap (λ (b : Bool). b || (nat_lt p (length t) && not (follower (slice_index t p)))) (ne_eqb p (length t) (λ e. omega arith))
    ∙ ap (λ (b : Bool). b && not (follower (slice_index t p))) (lt-ltb p (length t) h)

pub ends_from_cut : (t : List ℕ) (p : ℕ) → 0 < p → Cut t p → char_ends t p ≡ true
ends_from_cut t p z c = and_from (nat_lt 0 p) (char_start t p) (lt-ltb 0 p z) (start_from_cut t p c)

pub ends_last : (t : List ℕ) → 0 < length t → char_ends t (length t) ≡ true
ends_last t z = ends_from_cut t (length t) z (omega arith, λ h. absurd (omega arith))

ends_start : (t : List ℕ) (p : ℕ) → char_ends t p ≡ true → char_start t p ≡ true
ends_start t p e = (and_parts (nat_lt 0 p) (char_start t p) e).1

ends_near : (t u : List ℕ) (p q : ℕ) → 0 < p → p < length t → 0 < q → q < length u → around t p ≡ around u q → char_ends t p ≡ char_ends u q
ends_near t u p q zp hp zq hq e =
    ends_in t p zp hp ∙ ap (λ (x : ℕ). not (follower x)) (near_back t u p q 0 hp hq (omega arith) e) ∙ sym (ends_in u q zq hq)

-- a measure of chars: what a char weighs may depend on the byte four before its end
module _ (units : ℕ → ℕ) (some : (b : ℕ) → (1 ≤ units b) × (units b ≤ 2)) where
  abbrev weighs : List ℕ → ℕ → ℕ
  weighs t p = cond (char_ends t p) (units (back 4 t p)) 0

  same : (t u : List ℕ) (p q : ℕ) → char_ends t p ≡ char_ends u q → back 4 t p ≡ back 4 u q → weighs t p ≡ weighs u q
  same t u p q e f = ap (λ (b : Bool). cond b (units (back 4 t p)) 0) e ∙ ap (λ (n : ℕ). cond (char_ends u q) (units n) 0) f

  chars_lawful : Lawful char_ends weighs
  chars_lawful = record {
    not_empty = λ t w. refl;
    within = λ t p w e. (cut_from_start t p w (ends_start t p e)).0;
    closes = λ t w z. ends_last t z;
    cuts_chars = λ t p w e. ends_start t p e;
    none = λ t p w e. cond-false (char_ends t p) (units (back 4 t p)) 0 e;
    some = λ t p w e h. let x : weighs t p ≡ units (back 4 t p) = cond-true (char_ends t p) (units (back 4 t p)) 0 e in omega (arith, (some (back 4 t p)).0);
    two = λ t p w. cond_both (char_ends t p) (units (back 4 t p)) 0 (λ (n : ℕ). n ≤ 2) (λ e. (some (back 4 t p)).1) (λ e. omega arith);
    near_ends = λ t u p q wt wu zp hp zq hq e. ends_near t u p q zp hp zq hq e;
    near_weight = λ t u p q wt wu zp hp zq hq e. same t u p q (ends_near t u p q zp hp zq hq e) (near_back t u p q 4 hp hq (omega arith) e);
    last_weight = λ t u wt wu zt zu e. same t u (length t) (length u) (ends_last t zt ∙ sym (ends_last u zu)) (last_back t u 4 (omega arith) e);
  }

pub char_lawful : Lawful char_ends char_weight
char_lawful = chars_lawful (λ b. 1) (λ b. (omega arith, omega arith))

pub unit_lawful : Lawful char_ends unit_weight
unit_lawful = chars_lawful (λ b. cond (nat_le 0xF0 b) 2 1) (λ b. cond_both (nat_le 0xF0 b) 2 1 (λ (n : ℕ). (1 ≤ n) × (n ≤ 2)) (λ e. (omega arith, omega arith)) (λ e. (omega arith, omega arith)))

-- ---- the cells in the words of the grammar
wide_most : (b : ℕ) → wide b ≤ 4
wide_most b = grind (arith, nat_tests)

wide_four : (b : ℕ) → wide b ≡ 4 → 0xF0 ≤ b
wide_four b e = grind (arith, nat_tests)

pub high_lead : (b : ℕ) → 0xF0 ≤ b → (follower b ≡ false) × (wide b ≡ 4)
high_lead b h = (grind (arith, nat_tests), grind (arith, nat_tests))

module _ (before c after : List ℕ) (u : Text before) (ch : Char c) (v : Text after) where
  abbrev whole : List ℕ
  whole = before ++ (c ++ after)

  abbrev end : ℕ
  end = length before + length c

  form : Shape c
  form = shape ch

  some : 0 < length c
  some = subst (λ (xs : List ℕ). 0 < length xs) (sym form.is) (omega arith)

  few : length c ≤ 4
  few = omega (arith, form.long, wide_most form.first)

  at : (i : ℕ) → i < length c → slice_index whole (length before + i) ≡ slice_index c i
  at i h = get_or-append-add before (c ++ after) i 0 ∙ get_or_append_left c after 0 i h

  ends_here : char_ends whole end ≡ true
  ends_here =
      let n : length c + 0 ≡ length c = omega arith in
      ends_from_cut whole end (omega (arith, some)) (cut_after before (c ++ after) (length c) (subst (Cut (c ++ after)) n (cut_after c after 0 (cut_none v))))

  inside : (i : ℕ) → 0 < i → i < length c → char_ends whole (length before + i) ≡ false
  inside zero z h = absurd (omega arith)
  inside (suc i) z h =
      let l = length-append before (c ++ after) in
      let m = length-append c after in
      let long : length c ≡ suc (length form.rest) = ap length form.is in
      let is : slice_index_or whole (length before + suc i) 0 ≡ slice_index_or form.rest i 0 = at (suc i) h ∙ ap (λ (xs : List ℕ). slice_index xs (suc i)) form.is in
      ends_in whole (length before + suc i) (omega arith) (omega arith)
      ∙ ap (λ (b : ℕ). not (follower b)) is ∙ ap not (follower_at form.rest i form.tail (omega arith))

  -- the byte four before the end is F0 or above just where the char has four bytes
  four : four_bytes whole end ≡ (length c == 4)
  four =
      ⊎_elim
      (λ (lt : length c < 4).
      le_not (λ (high : 0xF0 ≤ back 4 whole end).
      let s = standing 4 whole end (omega arith) in
      let le : 4 ≤ end = s.far in
      let is : slice_index_or before (end - 4) 0 ≡ back 4 whole end = sym (get_or_append_left before (c ++ after) 0 (end - 4) (omega arith)) ∙ sym s.is in
      let b = high_lead (slice_index before (end - 4)) (omega arith) in
      let n : Cut before (end - 4 + wide (slice_index before (end - 4))) = lead_ends u (end - 4) (omega arith) b.0 in
      omega (arith, n.0, b.1, some))
      ∙ sym (ne_eqb (length c) 4 (λ e. omega arith)))
      (λ (ge : 4 ≤ length c).
      let is-four : length c ≡ 4 = omega (arith, few) in
      let n : end - 4 ≡ length before + 0 = omega arith in
      let is : back 4 whole end ≡ form.first =
      back_in 4 whole end (omega arith) ∙ ap (λ (k : ℕ). slice_index whole k) n ∙ at 0 (omega arith) ∙ ap (λ (xs : List ℕ). slice_index xs 0) form.is in
      let high : 0xF0 ≤ form.first = wide_four form.first (sym form.long ∙ is-four) in
      le-leb 0xF0 (back 4 whole end) (omega arith) ∙ sym (eq-eqb (length c) 4 is-four))
      (cases_lt (length c) 4)
    where
      le_not : (0xF0 ≤ back 4 whole end → ⊥) → four_bytes whole end ≡ false
      le_not f = ⊎_elim (λ (lt : back 4 whole end < 0xF0). lt-leb 0xF0 (back 4 whole end) lt) (λ ge. absurd (f ge)) (cases_lt (back 4 whole end) 0xF0)

  char_cell : CharCell before c after
  char_cell = record {
    ends = ends_here;
    whole = inside;
    char = cond-true (char_ends whole end) 1 0 ends_here;
    pair = ap (λ (b : Bool). cond (b && four_bytes whole end) 1 0) ends_here ∙ ap (λ (b : Bool). cond b 1 0) four;
    units = cond-true (char_ends whole end) (cond (four_bytes whole end) 2 1) 0 ends_here ∙ ap (λ (b : Bool). cond b 2 1) four;
  }

pub char_cells : CharCells
char_cells before c after u ch v = char_cell before c after u ch v
