-- Each cell is counted once: the rules of the measures as summed weights. Assumes nothing.
use Rattle.std.specs.Prelude.{◌≡◌, ℕ, suc, ◌+◌, ◌<◌, ◌≤◌, Bool, true, false, cond, not, ◌&&◌, ◌||◌, List, [], ◌∷◌, length, ◌==◌, slice_index, refl}
use Rattle.std.proofs.Common.{sym, ap, subst, ◌∙◌, ⊎_elim, arith}
use Rattle.std.proofs.lemmas.List.{get_or_past}
use Rattle.std.proofs.lemmas.Bool.{cases_lt, cond-false}
use Rattle.std.proofs.lemmas.Bool.Decides.{nat_tests}
use Rattle.scan.specs.Marks.{Rule, mark}
use Rattle.scan.proofs.Marking.{flag_small}
use Rattle.utf8.specs.Grammar.{Text}
use Rattle.utf8.specs.Places.{follower}
use Rattle.utf8.proofs.Cuts.{cut_none}
use Rattle.cells.specs.Near.{back}
use Rattle.counted.specs.Linked.{Linked, ahead}
use Rattle.measures.specs.Chars.{char_ends, char_weight}
use Rattle.measures.specs.Breaks.{lf_breaks, crlf_breaks, unicode_breaks, broken, line_weight}
use Rattle.measures.specs.Counts.{leads, lf_hit, crlf_hit, unicode_hit, in_char, in_break, nowhere}
use Rattle.measures.specs.Charring.{ends_in, ends_last}

one_of : (b : Bool) → cond (not b) 1 0 + cond b 1 0 ≡ 1
one_of true = refl
one_of false = refl

-- ---- chars: before every byte's end one char more has begun or goes on
first_lead : (t : List ℕ) → Text t → follower (slice_index t 0) ≡ false
first_lead [] u = refl
first_lead (x ∷ t) u = (cut_none u).1 (omega arith)

chars_after : (t : List ℕ) (i : ℕ) → i < length t → char_weight t (i + 1) + ahead in_char t (i + 1) ≡ 1
chars_after t i h =
    ⊎_elim
    (λ (lt : i + 1 < length t). ap (λ (b : Bool). cond b 1 0 + ahead in_char t (i + 1)) (ends_in t (i + 1) (omega arith) lt) ∙ one_of (follower (slice_index t (i + 1))))
    (λ (ge : length t ≤ i + 1).
    let e : length t ≡ i + 1 = omega arith in
    let w : char_weight t (i + 1) ≡ 1 = ap (λ (b : Bool). cond b 1 0) (ap (char_ends t) (sym e) ∙ ends_last t (omega arith)) in
    let a : ahead in_char t (i + 1) ≡ 0 = ap (λ (x : ℕ). cond (follower x) 1 0) (get_or_past t (i + 1) 0 ge) in
    omega arith)
    (cases_lt (i + 1) (length t))

pub chars_linked : Linked leads char_weight in_char
chars_linked = record {
  one = λ t p. flag_small (char_ends t p);
  none = λ t u. ap (λ (b : Bool). cond b 1 0) (first_lead t u);
  step = λ t i u h. chars_after t i h ∙ sym (one_of (follower (slice_index t i)));
}

-- ---- lines: a rule on the three bytes before a place and the one after
module _ (breaks : List (List ℕ)) (hit : Rule) (split : ℕ → ℕ → Bool) (quiet : (x : ℕ) → split 0 x ≡ false)
    (once : (t : List ℕ) (i : ℕ) → line_weight breaks t (suc i) + ahead split t (suc i) ≡ mark hit (back 2 t i) (back 1 t i) (back 0 t i) + ahead split t i) where
  pub lines_linked : Linked hit (line_weight breaks) split
  lines_linked = record {
    one = λ t p. flag_small (broken breaks t p);
    none = λ t u. cond-false (split 0 (back 0 t 0)) 1 0 (quiet (back 0 t 0));
    step = λ t i u h.
        let e : suc i ≡ i + 1 = omega arith in
        subst (λ (n : ℕ). line_weight breaks t n + ahead split t n ≡ mark hit (back 2 t i) (back 1 t i) (back 0 t i) + ahead split t i) e (once t i);
  }

lf_once : (a x : ℕ) → cond (((a == 0x0A && true) || false) && not (a == 0x0D && x == 0x0A)) 1 0 + 0 ≡ cond (a == 0x0A) 1 0 + 0
lf_once a x = grind (arith, nat_tests)

pub lf_linked : Linked lf_hit (line_weight lf_breaks) nowhere
lf_linked = lines_linked lf_breaks lf_hit nowhere (λ x. refl) (λ t i. lf_once (slice_index t i) (slice_index t (suc i)))

crlf_once : (b a x : ℕ) → cond (((a == 0x0A && true) || ((a == 0x0D && true) || ((b == 0x0D && (a == 0x0A && true)) || false))) && not (a == 0x0D && x == 0x0A)) 1 0 + cond (in_break a x) 1 0 ≡ cond (crlf_hit 0 b a) 1 0 + cond (in_break b a) 1 0
crlf_once b a x = grind (arith, nat_tests)

pub crlf_linked : Linked crlf_hit (line_weight crlf_breaks) in_break
crlf_linked = lines_linked crlf_breaks crlf_hit in_break (λ x. refl) (λ t i. crlf_once (back 1 t i) (slice_index t i) (slice_index t (suc i)))

unicode_once : (t : List ℕ) (i : ℕ) → line_weight unicode_breaks t (suc i) + ahead in_break t (suc i) ≡ mark unicode_hit (back 2 t i) (back 1 t i) (back 0 t i) + ahead in_break t i
unicode_once t i = grind (arith, nat_tests)

pub unicode_linked : Linked unicode_hit (line_weight unicode_breaks) in_break
unicode_linked = lines_linked unicode_breaks unicode_hit in_break (λ x. refl) unicode_once
