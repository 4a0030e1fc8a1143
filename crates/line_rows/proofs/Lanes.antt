-- The counts of a row's lanes, without CR LF and with it. Assumes nothing.
use Rattle.std.proofs.Common.{◌≡◌, ℕ, zero, suc, ◌+◌, ◌-◌, ◌<◌, ◌≤◌, Bool, ◌&&◌, ltb, List, map, length, get_or, sym, refl, ap, ◌∙◌, le_of_suc-le-suc, not-suc-le-zero, arith}
use lib.Lanes.{zip2, Each2}
use Rattle.std.proofs.lemmas.List.{ext_get_or}
use Rattle.std.proofs.lemmas.Bool.Decides.{nat_tests}
use Rattle.chunk.specs.Rows.{Row, is_between}
use Rattle.chunk.proofs.Rows.{Each2-from_at}
use Rattle.line_rows.specs.Begins.{begins_at, some_begins, cr_lf, break_counts, flag}
use Rattle.line_rows.specs.Marks.{RowAt, Marked, next_line, separators, break_marks}
use Rattle.line_rows.proofs.Counts.{flag_small}
use Rattle.line_rows.proofs.Flags.{at_map, at_zip}
use Rattle.line_rows.proofs.Edges.{row_in}

-- ---- counts less flags

module _ (f : ℕ → Bool) (place w : ℕ) (found counts : List ℕ) (m : Marked f place w found) (rc : Row w counts) where
  pub less_fits : ((i : ℕ) → i < w → flag (f (place + i)) ≤ get_or counts i 0) → Each2 (λ x y. y ≤ x) counts found
  less_fits room = Each2-from_at (λ x y. y ≤ x) counts found rc (λ i l. omega (arith, m i l, room i l))

  pub less_at : Row w found → (left : List ℕ) → left ≡ zip2 (λ x y. x - y) counts found → (i : ℕ) → i < w → get_or left i 0 ≡ get_or counts i 0 - flag (f (place + i))
  less_at rf left is i l =
      ap (λ (xs : List ℕ). get_or xs i 0) is ∙ at_zip (λ x y. x - y) refl counts found (rc.long ∙ sym rf.long) i ∙ ap (λ (n : ℕ). get_or counts i 0 - n) (m i l)

-- ---- all that counts in a lane: the bytes 0A to 0D, the next line, a separator, less the CR of CR LF

abbrev sum : List ℕ → ℕ → ℕ
sum t p = flag (begins_at next_line t p) + flag (some_begins separators t p) + is_between 9 14 (get_or t p 0)

lane : (t : List ℕ) (p : ℕ) → (flag (begins_at cr_lf t p) ≤ sum t p) × (sum t p - flag (begins_at cr_lf t p) ≡ flag (break_counts t p))
lane t p = (grind (arith, nat_tests), grind (arith, nat_tests))

marks_length : (t : List ℕ) (p n : ℕ) → length (break_marks t p n) ≡ n
marks_length t p zero = refl
marks_length t p (suc n) = ap suc (marks_length t (suc p) n)

marks_at : (t : List ℕ) (p n i : ℕ) → i < n → get_or (break_marks t p n) i 0 ≡ flag (break_counts t (p + i))
marks_at t p zero i h = absurd (not-suc-le-zero h)
marks_at t p (suc n) zero h = let e : p ≡ p + 0 = omega arith in ap (λ (k : ℕ). flag (break_counts t k)) e
marks_at t p (suc n) (suc i) h = let e : suc p + i ≡ p + suc i = omega arith in marks_at t (suc p) n i (le_of_suc-le-suc h) ∙ ap (λ (k : ℕ). flag (break_counts t k)) e

-- the lanes of a row have all that counts there, and the CR of CR LF too
pub record Summed (t : List ℕ) (place w : ℕ) (all : List ℕ) : Type 0 where
  pub at : (i : ℕ) → i < w → get_or all i 0 ≡ sum t (place + i)

module _ {t row : List ℕ} {place w : ℕ} (at : RowAt t place w row) (nels seps : List ℕ) (rn : Row w nels) (rs : Row w seps)
    (hn : Marked (begins_at next_line t) place w nels) (hs : Marked (some_begins separators t) place w seps) where
  pub long_fits : Each2 (λ x y. x + y < 256) nels seps
  long_fits = Each2-from_at (λ x y. x + y < 256) nels seps rn (λ i l.
      omega (arith, hn i l, hs i l, flag_small (begins_at next_line t (place + i)), flag_small (some_begins separators t (place + i))))

  module _ (long low : List ℕ) (rl : Row w long) (rw : Row w low) (eg : long ≡ zip2 (λ x y. x + y) nels seps) (el : low ≡ map (is_between 9 14) row) where
    long_at : (i : ℕ) → i < w → get_or long i 0 ≡ flag (begins_at next_line t (place + i)) + flag (some_begins separators t (place + i))
    long_at i l =
        ap (λ (xs : List ℕ). get_or xs i 0) eg ∙ at_zip (λ x y. x + y) refl nels seps (rn.long ∙ sym rs.long) i
        ∙ ap (λ (n : ℕ). n + get_or seps i 0) (hn i l) ∙ ap (λ (n : ℕ). flag (begins_at next_line t (place + i)) + n) (hs i l)

    low_at : (i : ℕ) → i < w → get_or low i 0 ≡ is_between 9 14 (get_or t (place + i) 0)
    low_at i l = ap (λ (xs : List ℕ). get_or xs i 0) el ∙ at_map (is_between 9 14) refl row i ∙ ap (is_between 9 14) (row_in at i l)

    pub all_fits : Each2 (λ x y. x + y < 256) long low
    all_fits = Each2-from_at (λ x y. x + y < 256) long low rl (λ i l.
        omega (arith, long_at i l, low_at i l, flag_small (ltb 9 (get_or t (place + i) 0) && ltb (get_or t (place + i) 0) 14), flag_small (begins_at next_line t (place + i)), flag_small (some_begins separators t (place + i))))

    pub all_summed : (all : List ℕ) → all ≡ zip2 (λ x y. x + y) long low → Summed t place w all
    all_summed all ea = record {
      at = λ i l.
          ap (λ (xs : List ℕ). get_or xs i 0) ea ∙ at_zip (λ x y. x + y) refl long low (rl.long ∙ sym rw.long) i
          ∙ ap (λ (n : ℕ). n + get_or low i 0) (long_at i l) ∙ ap (λ (n : ℕ). flag (begins_at next_line t (place + i)) + flag (some_begins separators t (place + i)) + n) (low_at i l);
    }

module _ {t : List ℕ} {place w : ℕ} {all : List ℕ} (s : Summed t place w all) where
  pub summed_above : (i : ℕ) → i < w → flag (begins_at cr_lf t (place + i)) ≤ get_or all i 0
  summed_above i l = omega (arith, s.at i l, (lane t (place + i)).0)

  pub summed_marks : (out : List ℕ) → Row w out → ((i : ℕ) → i < w → get_or out i 0 ≡ get_or all i 0 - flag (begins_at cr_lf t (place + i))) → out ≡ break_marks t place w
  summed_marks out ro h =
      let lo : length out ≡ w = ro.long in
      ext_get_or 0 out (break_marks t place w) (lo ∙ sym (marks_length t place w)) (λ i l.
      let k : i < w = omega arith in
      h i k ∙ ap (λ (n : ℕ). n - flag (begins_at cr_lf t (place + i))) (s.at i k) ∙ (lane t (place + i)).1 ∙ sym (marks_at t place w i k))
