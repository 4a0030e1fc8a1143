use Rattle.std.proofs.Common.{◌≡◌, ℕ, suc, ◌+◌, ◌/◌, true, false, ◌&&◌, ◌||◌, eqb, List, get_or, sym, refl, ap, ◌∙◌, arith}
use Rattle.std.proofs.lemmas.Bool.Decides.{nat_tests}
use Rattle.line_rows.specs.Begins.{flag}
use Rattle.line_rows.proofs.Flags.{at_map, is_flags, back_flags, and_flags, none_up, down}
use Rattle.line_rows.proofs.row.separators_within.Goals as goal

-- without E2 80 no separator
no_second : (a x y : ℕ) → (eqb a 226 && eqb x 128) ≡ false → ((eqb a 226 && (eqb x 128 && (eqb y 168 && true))) || ((eqb a 226 && (eqb x 128 && (eqb y 169 && true))) || false)) ≡ false
no_second a x y e = grind (arith, nat_tests)

-- A8 and A9 are the bytes whose half is 54
by_half : (a x y : ℕ) → ((eqb a 226 && eqb x 128) && eqb (y / 2) 84) ≡ ((eqb a 226 && (eqb x 128 && (eqb y 168 && true))) || ((eqb a 226 && (eqb x 128 && (eqb y 169 && true))) || false))
by_half a x y = grind (arith, nat_tests)

pub returns-then-is_zero : goal.returns-then-is_zero
returns-then-is_zero g c =
    let row = g.K.ByteChunk.lanes c.args.row in
    let z = sym c.if-is_zero.ensures in
    λ i. down _ z i _ (no_second (get_or row i 0) (get_or row (suc i) 0) (get_or row (suc (suc i)) 0) (none_up _ _ z (c.followed_by-second.ensures _ c.requires) i))

pub returns : goal.returns
returns g c =
    let met = g.met.K.ByteChunk in
    let row = g.K.ByteChunk.lanes c.args.row in
    λ i.
    let e : 2 + i ≡ suc (suc i) = omega arith in
    and_flags _ (λ (k : ℕ). eqb (get_or (g.K.ByteChunk.lanes c.args.row) (2 + k) 0 / 2) 84) _ _ _ ((met.row c.followed_by-second.result).long ∙ sym (met.row c.shift_back_lex.result).long) c.bitand.ensures (c.followed_by-second.ensures _ c.requires)
    (λ k.
    back_flags _ 2 _ _ c.shift_back_lex.ensures (is_flags 84 _ _ (omega arith) c.cmp_eq_byte.ensures) k
    ∙ ap (λ (x : ℕ). flag (eqb x 84)) (ap (λ (xs : List ℕ). get_or xs (2 + k) 0) c.halves.ensures ∙ at_map (λ x. x / 2) refl (g.K.ByteChunk.lanes c.args.row) (2 + k))) i
    ∙ ap (λ (k : ℕ). flag ((eqb (get_or (g.K.ByteChunk.lanes c.args.row) i 0) 226 && eqb (get_or (g.K.ByteChunk.lanes c.args.row) (suc i) 0) 128) && eqb (get_or (g.K.ByteChunk.lanes c.args.row) k 0 / 2) 84)) e
    ∙ ap flag (by_half (get_or row i 0) (get_or row (suc i) 0) (get_or row (suc (suc i)) 0))
