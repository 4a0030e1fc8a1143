use Rattle.std.proofs.Common.{◌≡◌, ℕ, suc, ◌+◌, eqb, get_or, sym, ap, ◌∙◌, arith}
use Rattle.line_rows.specs.Begins.{flag}
use Rattle.line_rows.proofs.Flags.{is_flags, back_flags, and_flags}
use Rattle.line_rows.proofs.row.followed_by.Goals as goal

pub returns : goal.returns
returns g c =
    let m = g.K.ByteChunk in
    let met = g.met.K.ByteChunk in
    λ f h.
    and_flags f _ _ _ _ ((met.row c.args.flags).long ∙ sym (met.row c.shift_back_lex.result).long) c.bitand.ensures h
    (λ i.
    let e : 1 + i ≡ suc i = omega arith in
    back_flags (λ (k : ℕ). eqb (get_or (g.K.ByteChunk.lanes c.args.row) k 0) c.args.byte) 1 _ _ c.shift_back_lex.ensures (is_flags c.args.byte (m.lanes c.args.row) _ c.requires c.cmp_eq_byte.ensures) i
    ∙ ap (λ (k : ℕ). flag (eqb (get_or (g.K.ByteChunk.lanes c.args.row) k 0) c.args.byte)) e)
