-- How the breaks that count add up, byte by byte. Assumes nothing.
use Rattle.std.proofs.Common.{◌≡◌, ℕ, zero, suc, ◌+◌, ◌<◌, ◌≤◌, Bool, true, false, List, refl, ap, ◌∙◌, ⊎_elim, arith, below_none, below_more}
use mir.Val.{bool_byte}
use Rattle.std.proofs.lemmas.Bool.{cases_lt}
use Rattle.chunk.proofs.Rows.{flag_byte}
use Rattle.line_rows.specs.Begins.{break_counts, flag, breaks_in}
use Rattle.line_rows.specs.Passing.{Counted}

pub flag_small : (b : Bool) → flag b ≤ 1
flag_small true = omega arith
flag_small false = omega arith

module _ (t : List ℕ) where
  pub breaks_next : (p : ℕ) → breaks_in t (p + 1) ≡ breaks_in t p + flag (break_counts t p)
  breaks_next p = let e : p + 1 ≡ suc p = omega arith in ap (breaks_in t) e

  pub breaks_below : (p : ℕ) → breaks_in t p ≤ p
  breaks_below zero = omega arith
  breaks_below (suc p) = omega (arith, breaks_below p, flag_small (break_counts t p))

  pub breaks_mono : (p q : ℕ) → p ≤ q → breaks_in t p ≤ breaks_in t q
  breaks_mono p zero h = let e : p ≡ 0 = omega arith in omega (arith, ap (breaks_in t) e)
  breaks_mono p (suc q) h =
      ⊎_elim
      (λ (l : p < suc q). omega (arith, breaks_mono p q (omega arith)))
      (λ (l : suc q ≤ p). let e : p ≡ suc q = omega arith in omega (arith, ap (breaks_in t) e))
      (cases_lt p (suc q))

  pub none_yet : (most : ℕ) → Counted t most 0 0
  none_yet most = record { right = refl; few = omega arith; fewest = below_none (λ (q : ℕ). breaks_in t q < most) }

module _ {t : List ℕ} {most n p : ℕ} (w : Counted t most n p) where
  pub counted_below : n ≤ p
  counted_below = omega (arith, w.right, breaks_below t p)

  pub one_more : (b : Bool) → n < most → b ≡ break_counts t p → Counted t most (n + bool_byte b) (p + 1)
  one_more b room e =
      let f : bool_byte b ≡ flag (break_counts t p) = flag_byte b ∙ ap flag e in
      record {
        right = omega (arith, w.right, breaks_next t p);
        few = omega (arith, flag_small (break_counts t p));
        fewest = below_more (λ (q : ℕ). breaks_in t q < most) p w.fewest (omega (arith, w.right));
      }

  -- more bytes that leave room for another break
  pub all_more : (m q : ℕ) → p ≤ q → breaks_in t p + m ≡ breaks_in t q → n + m < most → Counted t most (n + m) q
  all_more m q h e room = record {
    right = omega (arith, w.right);
    few = omega arith;
    fewest = λ i l. omega (arith, w.right, breaks_mono t i q (omega arith));
  }
