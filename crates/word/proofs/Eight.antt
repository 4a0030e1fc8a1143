-- The bytes of the number that `u64::from_le_bytes` makes of eight, and what `to_le_bytes` makes of a number.
-- Assumes nothing.
use Rattle.std.proofs.Common.{◌≡◌, ℕ, ◌+◌, ◌*◌, ◌/◌, List, get_or, ap, ◌∙◌, arith, w64}
use native.Mathlib.Nat.{div-div-eq-div-mul}
use lib.Lanes.{number_l}
use Rattle.std.specs.Int.{to_le_bytes}
use Rattle.std.proofs.lemmas.List.{drop_all}
use Rattle.chunk.specs.Rows.{Row, bytes_of}
use Rattle.chunk.proofs.Digits.{number_from, bytes_number}

pub bytes_of_eight : {row : List ℕ} (x : ℕ) → Row 8 row
    → x ≡ get_or row 0 0 + get_or row 1 0 * 256 + get_or row 2 0 * 65536 + get_or row 3 0 * 16777216
    + get_or row 4 0 * 4294967296 + get_or row 5 0 * 1099511627776 + get_or row 6 0 * 281474976710656 + get_or row 7 0 * 72057594037927936
    → bytes_of 8 x ≡ row
bytes_of_eight {row = row} x r e =
    let rest = ap (number_l 256) (drop_all 8 row (omega (arith, r.long))) in
    let number : x ≡ number_l 256 row =
    omega (arith, rest, number_from row 0, number_from row 1, number_from row 2, number_from row 3, number_from row 4, number_from row 5, number_from row 6, number_from row 7) in
    ap (bytes_of 8) number ∙ bytes_number 8 row r

pub eight_bytes : (x : ℕ) → to_le_bytes w64 x ≡ bytes_of 8 x
unfolding bytes_of
eight_bytes x =
    let two : x / 256 / 256 ≡ x / 65536 = div-div-eq-div-mul x 256 256 in
    let three : x / 65536 / 256 ≡ x / 16777216 = div-div-eq-div-mul x 65536 256 in
    let four : x / 16777216 / 256 ≡ x / 4294967296 = div-div-eq-div-mul x 16777216 256 in
    let five : x / 4294967296 / 256 ≡ x / 1099511627776 = div-div-eq-div-mul x 4294967296 256 in
    let six : x / 1099511627776 / 256 ≡ x / 281474976710656 = div-div-eq-div-mul x 1099511627776 256 in
    let seven : x / 281474976710656 / 256 ≡ x / 72057594037927936 = div-div-eq-div-mul x 281474976710656 256 in
    cc
