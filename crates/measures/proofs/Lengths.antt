-- How long the break is that ends at a place, by the bytes before it. Assumes nothing.
use Rattle.std.proofs.Common.{◌≡◌, ℕ, ◌<◌, ◌≤◌, true, false, List, arith}
use Rattle.std.proofs.lemmas.Bool.Decides.{nat_tests}
use Rattle.cells.specs.Near.{back}
use Rattle.measures.specs.Breaks.{CRLF, crlf_breaks, unicode_breaks, ends_at, broken, break_length}

module _ (t : List ℕ) (p : ℕ) where
  pub crlf_two : broken crlf_breaks t p ≡ true → ends_at CRLF t p ≡ true → 2 ≡ break_length crlf_breaks t p
  crlf_two e f = grind (arith, nat_tests)

  pub crlf_one : broken crlf_breaks t p ≡ true → ends_at CRLF t p ≡ false → 1 ≡ break_length crlf_breaks t p
  crlf_one e f = grind (arith, nat_tests)

  pub lines_crlf_lem : broken unicode_breaks t p ≡ true → ends_at CRLF t p ≡ true → 2 ≡ break_length unicode_breaks t p
  lines_crlf_lem e f = grind (arith, nat_tests)

  pub lines_low : broken unicode_breaks t p ≡ true → ends_at CRLF t p ≡ false → back 1 t p < 128 → 1 ≡ break_length unicode_breaks t p
  lines_low e f h = grind (arith, nat_tests)

  pub lines_three : broken unicode_breaks t p ≡ true → 128 ≤ back 1 t p → (back 1 t p ≡ 133 → ⊥) → 3 ≡ break_length unicode_breaks t p
  lines_three e f g = grind (arith, nat_tests)
