-- The laws of lines, for every set of breaks that are texts of one to four bytes, none of them 00. Assumes nothing.
use Rattle.std.specs.Prelude.{◌≡◌, ℕ, zero, suc, ◌+◌, ◌-◌, ◌<◌, ◌≤◌, max, Bool, true, false, cond, not, ◌&&◌, ◌||◌, List, [], ◌∷◌, ◌++◌, length, ◌==◌, nat_le, nat_lt, slice_index, slice_index_or, refl}
use Rattle.std.proofs.Common.{sym, ap, subst, ◌∙◌, ⊎_elim, arith, length-append}
use Rattle.std.proofs.lemmas.List.{get_or_append_left}
use Rattle.std.proofs.lemmas.Bool.{cases_lt, both_ways, lt-ltb, leb-true, ltb-true, eq-eqb, ne_eqb, eqb-true, cond-true, cond-false, cond_both, and_parts, and_from, and_left, and_right, or_cases, or_right, or_parts, or_from, not_from_true}
use Rattle.utf8.specs.FirstFault.{is_text}
use Rattle.utf8.specs.Grammar.{Text}
use Rattle.utf8.specs.Grammar.Text.{none, more}
use Rattle.utf8.specs.Places.{follower}
use Rattle.utf8.proofs.Cuts.{Cut, Shape, shape, follower_at, start_from_cut, text_ends, wide}
use Rattle.utf8.proofs.Means.{text_from_test}
use Rattle.cells.specs.Cells.{Lawful}
use Rattle.cells.specs.LineCells.{LawfulBreaks}
use Rattle.cells.specs.Starts.{Joint}
use Rattle.cells.specs.Near.{around, back}
use Rattle.cells.proofs.Near.{near_back, last_back, back_in, standing}
use Rattle.measures.specs.Breaks.{ends_at, some_ends, in_crlf, broken, line_ends, line_weight, longest, break_length}

abbrev no_zero : List ℕ → Bool
no_zero [] = true
no_zero (x ∷ xs) = nat_lt 0 x && no_zero xs

-- a text of one to four bytes, none of them 00
abbrev proper : List ℕ → Bool
proper s = is_text s && (nat_lt 0 (length s) && (nat_le (length s) 4 && no_zero s))

abbrev pub all_proper : List (List ℕ) → Bool
all_proper [] = true
all_proper (s ∷ breaks) = proper s && all_proper breaks

pub record Proper (s : List ℕ) : Type 0 where
  pub text : Text s
  pub some : 0 < length s
  pub few : length s ≤ 4
  pub full : no_zero s ≡ true

proper_parts : (s : List ℕ) → proper s ≡ true → Proper s
proper_parts s e =
    let a = and_parts (is_text s) (nat_lt 0 (length s) && (nat_le (length s) 4 && no_zero s)) e in
    let b = and_parts (nat_lt 0 (length s)) (nat_le (length s) 4 && no_zero s) a.1 in
    let c = and_parts (nat_le (length s) 4) (no_zero s) b.1 in
    record { text = text_from_test s a.0; some = ltb-true 0 (length s) b.0; few = leb-true (length s) 4 c.0; full = c.1 }

no_zero_at : (s : List ℕ) (i : ℕ) → no_zero s ≡ true → i < length s → 0 < slice_index s i
no_zero_at [] i e h = absurd (omega arith)
no_zero_at (x ∷ s) zero e h = ltb-true 0 x (and_parts (nat_lt 0 x) (no_zero s) e).0
no_zero_at (x ∷ s) (suc i) e h = no_zero_at s i (and_parts (nat_lt 0 x) (no_zero s) e).1 (omega arith)

-- where the last bytes of two places are the same, the same breaks end there
module _ (t u : List ℕ) (p q : ℕ) (same : (i : ℕ) → i ≤ 4 → back i t p ≡ back i u q) where
  same_ends : (s : List ℕ) → length s ≤ 4 → ends_at s t p ≡ ends_at s u q
  same_ends [] h = refl
  same_ends (x ∷ s) h =
      ap (λ (b : ℕ). (b == x) && ends_at s t p) (same (length (x ∷ s)) h) ∙ ap (λ (b : Bool). (back (length (x ∷ s)) u q == x) && b) (same_ends s (omega arith))

  same_some : (breaks : List (List ℕ)) → all_proper breaks ≡ true → some_ends breaks t p ≡ some_ends breaks u q
  same_some [] e = refl
  same_some (s ∷ breaks) e =
      let a = and_parts (proper s) (all_proper breaks) e in
      ap (λ (b : Bool). b || some_ends breaks t p) (same_ends s (proper_parts s a.0).few) ∙ ap (λ (b : Bool). ends_at s u q || b) (same_some breaks a.1)

  same_broken : (breaks : List (List ℕ)) → all_proper breaks ≡ true → broken breaks t p ≡ broken breaks u q
  same_broken breaks e =
      ap (λ (b : Bool). b && not (in_crlf t p)) (same_some breaks e)
      ∙ ap (λ (b : ℕ). some_ends breaks u q && not (b == 0x0D && back 0 t p == 0x0A)) (same 1 (omega arith))
      ∙ ap (λ (b : ℕ). some_ends breaks u q && not (back 1 u q == 0x0D && b == 0x0A)) (same 0 (omega arith))

-- no break ends where no byte stands before
ends_none : (s t : List ℕ) (p : ℕ) → no_zero s ≡ true → 0 < length s → back 1 t p ≡ 0 → ends_at s t p ≡ false
ends_none [] t p e h z = absurd (omega arith)
ends_none (x ∷ []) t p e h z =
    let l : 0 < x = ltb-true 0 x (and_parts (nat_lt 0 x) true e).0 in
    and_left (back 1 t p == x) true (ne_eqb (back 1 t p) x (λ f. omega arith))
ends_none (x ∷ y ∷ s) t p e h z =
    and_right (back (length (x ∷ y ∷ s)) t p == x) (ends_at (y ∷ s) t p) (ends_none (y ∷ s) t p (and_parts (nat_lt 0 x) (no_zero (y ∷ s)) e).1 (omega arith) z)

some_none : (breaks : List (List ℕ)) → all_proper breaks ≡ true → (t : List ℕ) (p : ℕ) → back 1 t p ≡ 0 → some_ends breaks t p ≡ false
some_none [] e t p z = refl
some_none (s ∷ breaks) e t p z =
    let a = and_parts (proper s) (all_proper breaks) e in
    let b = proper_parts s a.0 in
    or_from (ends_at s t p) (some_ends breaks t p) (ends_none s t p b.full b.some z) (some_none breaks a.1 t p z)

-- the bytes of a break that ends at a place
ends_each : (s t : List ℕ) (p : ℕ) → ends_at s t p ≡ true → (i : ℕ) → i < length s → back (length s - i) t p ≡ slice_index s i
ends_each [] t p e i h = absurd (omega arith)
ends_each (x ∷ s) t p e zero h =
    let n : length (x ∷ s) - 0 ≡ length (x ∷ s) = omega arith in
    ap (λ (k : ℕ). back k t p) n ∙ eqb-true (back (length (x ∷ s)) t p) x (and_parts (back (length (x ∷ s)) t p == x) (ends_at s t p) e).0
ends_each (x ∷ s) t p e (suc i) h =
    let n : length (x ∷ s) - suc i ≡ length s - i = omega arith in
    ap (λ (k : ℕ). back k t p) n ∙ ends_each s t p (and_parts (back (length (x ∷ s)) t p == x) (ends_at s t p) e).1 i (omega arith)

-- where a break ends, a char ends
ends_cut : (s t : List ℕ) (p : ℕ) → Proper s → Text t → ends_at s t p ≡ true → Cut t p
ends_cut s t p b u e =
    let stands = λ (i : ℕ) (h : i < length s). standing (length s - i) t p (subst (λ (x : ℕ). 0 < x) (sym (ends_each s t p e i h)) (no_zero_at s i b.full h)) in
    let far : length s ≤ p = omega (arith, (stands 0 b.some).far) in
    let n : p - length s + length s ≡ p = omega arith in
    subst (Cut t) n
    (text_ends b.text t u (p - length s) b.some
    (λ i h.
    let w = stands i h in
    let k : p - (length s - i) ≡ p - length s + i = omega arith in
    (omega (arith, w.in_text), ap (λ (j : ℕ). slice_index t j) (sym k) ∙ sym w.is ∙ ends_each s t p e i h)))

some_cut : (breaks : List (List ℕ)) → all_proper breaks ≡ true → (t : List ℕ) (p : ℕ) → Text t → some_ends breaks t p ≡ true → Cut t p
some_cut [] e t p u f = absurd (both_ways false refl f)
some_cut (s ∷ breaks) e t p u f =
    let a = and_parts (proper s) (all_proper breaks) e in
    ⊎_elim (λ g. ends_cut s t p (proper_parts s a.0) u g) (λ g. some_cut breaks a.1 t p u g) (or_cases (ends_at s t p) (some_ends breaks t p) f)

or_false : (a b : Bool) → b ≡ false → (a || b) ≡ a
or_false true b e = refl
or_false false b e = e

module _ (breaks : List (List ℕ)) (fair : all_proper breaks ≡ true) where
  quiet : (t : List ℕ) (p : ℕ) → back 1 t p ≡ 0 → broken breaks t p ≡ false
  quiet t p z = and_left (some_ends breaks t p) (not (in_crlf t p)) (some_none breaks fair t p z)

  cut : (t : List ℕ) (p : ℕ) → Text t → broken breaks t p ≡ true → Cut t p
  cut t p u e = some_cut breaks fair t p u (and_parts (some_ends breaks t p) (not (in_crlf t p)) e).0

  ends_in : (t : List ℕ) (p : ℕ) → p < length t → line_ends breaks t p ≡ broken breaks t p
  ends_in t p h = or_false (broken breaks t p) (nat_lt 0 p && p == length t) (and_right (nat_lt 0 p) (p == length t) (ne_eqb p (length t) (λ e. omega arith)))

  ends_cut_at : (t : List ℕ) (p : ℕ) → Text t → line_ends breaks t p ≡ true → Cut t p
  ends_cut_at t p u e =
      ⊎_elim
      (λ (x : broken breaks t p ≡ true). cut t p u x)
      (λ (x : (nat_lt 0 p && p == length t) ≡ true). let l : p ≡ length t = eqb-true p (length t) (and_parts (nat_lt 0 p) (p == length t) x).1 in (omega arith, λ h. absurd (omega arith)))
      (or_cases (broken breaks t p) (nat_lt 0 p && p == length t) e)

  near : (t u : List ℕ) (p q : ℕ) → p < length t → q < length u → around t p ≡ around u q → broken breaks t p ≡ broken breaks u q
  near t u p q h k e = same_broken t u p q (λ i l. near_back t u p q i h k l e) breaks fair

  pub line_lawful : Lawful (line_ends breaks) (line_weight breaks)
  line_lawful = record {
    not_empty = λ t w. or_false (broken breaks t 0) (nat_lt 0 0 && 0 == length t) refl ∙ quiet t 0 refl;
    within = λ t p w e. (ends_cut_at t p w e).0;
    closes = λ t w z. or_right (broken breaks t (length t)) (nat_lt 0 (length t) && length t == length t) (and_from (nat_lt 0 (length t)) (length t == length t) (lt-ltb 0 (length t) z) (eq-eqb (length t) (length t) refl));
    cuts_chars = λ t p w e. start_from_cut t p (ends_cut_at t p w e);
    none = λ t p w e. cond-false (broken breaks t p) 1 0 (or_parts (broken breaks t p) (nat_lt 0 p && p == length t) e).0;
    some = λ t p w e h. let x : line_weight breaks t p ≡ 1 = cond-true (broken breaks t p) 1 0 (sym (ends_in t p h) ∙ e) in omega arith;
    two = λ t p w. cond_both (broken breaks t p) 1 0 (λ (n : ℕ). n ≤ 2) (λ e. omega arith) (λ e. omega arith);
    near_ends = λ t u p q wt wu zp hp zq hq e. ends_in t p hp ∙ near t u p q hp hq e ∙ sym (ends_in u q hq);
    near_weight = λ t u p q wt wu zp hp zq hq e. ap (λ (b : Bool). cond b 1 0) (near t u p q hp hq e);
    last_weight = λ t u wt wu zt zu e. ap (λ (b : Bool). cond b 1 0) (same_broken t u (length t) (length u) (λ i l. last_back t u i l e) breaks fair);
  }

-- ---- how long a break is
-- one char of one to three bytes, or CR LF
abbrev one_char : List ℕ → Bool
one_char s = length s == wide (slice_index s 0) && nat_le (length s) 3

abbrev crlf : List ℕ → Bool
crlf s = length s == 2 && (slice_index s 0 == 0x0D && slice_index s 1 == 0x0A)

abbrev pub all_whole : List (List ℕ) → Bool
all_whole [] = true
all_whole (s ∷ breaks) = (one_char s || crlf s) && all_whole breaks

-- a text as long as its first byte says is one char, and what follows that byte are followers
one_shape : {s : List ℕ} → Text s → 0 < length s → length s ≡ wide (slice_index s 0) → (i : ℕ) → 0 < i → i < length s → follower (slice_index s i) ≡ true
one_shape none z e i a h = absurd (omega arith)
one_shape (more {cs = cs} {bs = bs} g b) z e i a h =
    let s = shape g in
    let l = length-append cs bs in
    let some : 0 < length cs = subst (λ (xs : List ℕ). 0 < length xs) (sym s.is) (omega arith) in
    let first : slice_index_or (cs ++ bs) 0 0 ≡ s.first = get_or_append_left cs bs 0 0 some ∙ ap (λ (xs : List ℕ). slice_index xs 0) s.is in
    let whole : length (cs ++ bs) ≡ length cs = e ∙ ap wide first ∙ sym s.long in
    ap follower (get_or_append_left cs bs 0 i (omega arith)) ∙ tail_at s i a (omega arith)
  where
    tail_at : Shape cs → (i : ℕ) → 0 < i → i < length cs → follower (slice_index cs i) ≡ true
    tail_at s zero a h = absurd (omega arith)
    tail_at s (suc i) a h =
        let l : length cs ≡ suc (length s.rest) = ap length s.is in
        ap (λ (xs : List ℕ). follower (slice_index xs (suc i))) s.is ∙ follower_at s.rest i s.tail (omega arith)

short : (s : List ℕ) → (one_char s || crlf s) ≡ true → length s ≤ 3
short s e =
    ⊎_elim
    (λ (a : one_char s ≡ true). leb-true (length s) 3 (and_parts (length s == wide (slice_index s 0)) (nat_le (length s) 3) a).1)
    (λ (a : crlf s ≡ true). omega (arith, eqb-true (length s) 2 (and_parts (length s == 2) _ a).0))
    (or_cases (one_char s) (crlf s) e)

longest_short : (breaks : List (List ℕ)) → all_whole breaks ≡ true → (t : List ℕ) (p : ℕ) → longest breaks t p ≤ 3
longest_short [] e t p = omega arith
longest_short (s ∷ breaks) e t p =
    let a = and_parts (one_char s || crlf s) (all_whole breaks) e in
    let rest = longest_short breaks a.1 t p in
    let here = short s a.0 in
    cond_both (ends_at s t p) (max (length s) (longest breaks t p)) (longest breaks t p) (λ (n : ℕ). n ≤ 3) (λ _. omega arith) (λ _. rest)

module _ (breaks : List (List ℕ)) (fair : all_proper breaks ≡ true) where
  -- the byte i of a break that ends at q, read off the text
  byte_of : (s t : List ℕ) (p q i : ℕ) → Proper s → ends_at s t q ≡ true → i < length s → p + length s ≡ q + i → (p < length t) × (slice_index t p ≡ slice_index s i)
  byte_of s t p q i b e h n =
      let is = ends_each s t q e i h in
      let w = standing (length s - i) t q (subst (λ (x : ℕ). 0 < x) (sym is) (no_zero_at s i b.full h)) in
      let k : q - (length s - i) ≡ p = omega (arith, w.far) in
      (omega (arith, w.in_text), ap (λ (j : ℕ). slice_index t j) (sym k) ∙ sym w.is ∙ is)

  -- no line begins inside a break
  apart : (s t : List ℕ) (p q : ℕ) → Proper s → (one_char s || crlf s) ≡ true → Text t → ends_at s t q ≡ true → Joint (line_ends breaks) (line_weight breaks) t p → p < q → p + length s ≤ q
  apart s t p q b o u e j h =
      ⊎_elim
      (λ (lt : q < p + length s).
      let far : length s ≤ q = omega (arith, (standing (length s - 0) t q (subst (λ (x : ℕ). 0 < x) (sym (ends_each s t q e 0 b.some)) (no_zero_at s 0 b.full b.some))).far) in
      let at = byte_of s t p q (p + length s - q) b e (omega arith) (omega arith) in
      let ends : line_ends breaks t p ≡ true = ⊎_elim (λ (z : p ≡ 0). absurd (omega arith)) (λ f. f) j in
      absurd
      (⊎_elim
      (λ (a : one_char s ≡ true).
      let w : length s ≡ wide (slice_index s 0) = eqb-true (length s) (wide (slice_index s 0)) (and_parts (length s == wide (slice_index s 0)) (nat_le (length s) 3) a).0 in
      both_ways (follower (slice_index t p)) ((ends_cut_at breaks fair t p u ends).1 at.0) (ap follower at.1 ∙ one_shape b.text b.some w (p + length s - q) (omega arith) (omega arith)))
      (λ (a : crlf s ≡ true).
      let l = and_parts (length s == 2) (slice_index s 0 == 0x0D && slice_index s 1 == 0x0A) a in
      let m = and_parts (slice_index s 0 == 0x0D) (slice_index s 1 == 0x0A) l.1 in
      let two : length s ≡ 2 = eqb-true (length s) 2 l.0 in
      let n : p + length s - q ≡ 1 = omega arith in
      let first = byte_of s t (p - 1) q 0 b e b.some (omega arith) in
      let before : back 1 t p ≡ 0x0D = back_in 1 t p (omega arith) ∙ first.1 ∙ eqb-true (slice_index s 0) 0x0D m.0 in
      let after : back 0 t p ≡ 0x0A = at.1 ∙ ap (λ (k : ℕ). slice_index s k) n ∙ eqb-true (slice_index s 1) 0x0A m.1 in
      both_ways (broken breaks t p)
      (and_right (some_ends breaks t p) (not (in_crlf t p)) (not_from_true (in_crlf t p) (and_from (back 1 t p == 0x0D) (back 0 t p == 0x0A) (eq-eqb (back 1 t p) 0x0D before) (eq-eqb (back 0 t p) 0x0A after))))
      (sym (ends_in breaks fair t p at.0) ∙ ends))
      (or_cases (one_char s) (crlf s) o)))
      (λ (ge : p + length s ≤ q). ge)
      (cases_lt q (p + length s))

  longest_apart : (some : List (List ℕ)) → all_proper some ≡ true → all_whole some ≡ true → (t : List ℕ) (p q : ℕ) → Text t → Joint (line_ends breaks) (line_weight breaks) t p → p < q → p + longest some t q ≤ q
  longest_apart [] f w t p q u j h = omega arith
  longest_apart (s ∷ some) f w t p q u j h =
      let a = and_parts (proper s) (all_proper some) f in
      let b = and_parts (one_char s || crlf s) (all_whole some) w in
      let rest = longest_apart some a.1 b.1 t p q u j h in
      cond_both (ends_at s t q) (max (length s) (longest some t q)) (longest some t q) (λ (n : ℕ). p + n ≤ q)
      (λ e. omega (arith, apart s t p q (proper_parts s a.0) b.0 u e j h))
      (λ _. rest)

  pub line_breaks : all_whole breaks ≡ true → LawfulBreaks (line_ends breaks) (line_weight breaks) (break_length breaks)
  line_breaks whole = record {
    none = λ t p u e. cond-false (broken breaks t p) (longest breaks t p) 0 (or_parts (broken breaks t p) (nat_lt 0 p && p == length t) e).0;
    three = λ t p u. cond_both (broken breaks t p) (longest breaks t p) 0 (λ (n : ℕ). n ≤ 3) (λ _. longest_short breaks whole t p) (λ _. omega arith);
    within = λ t p q u j e h. cond_both (broken breaks t q) (longest breaks t q) 0 (λ (n : ℕ). p + n ≤ q) (λ _. longest_apart breaks fair whole t p q u j h) (λ _. omega arith);
  }
