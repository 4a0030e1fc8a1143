use Rattle.std.proofs.Common.{rules, ◌∙◌, sym, eqb}
use Rattle.chunk.specs.Rows.{is_byte}
use Rattle.chunk.proofs.Rows.{row_flags, flag_byte, map_at}
use Rattle.lanes.proofs.Own.{row_in, lanes_are}
use Rattle.lanes.proofs.Lanes16ByteChunk.cmp_eq_byte.Goals as goal

pub returns : goal.returns
returns c =
    lanes_are c.from_fn.result (row_flags (λ x. eqb x c.args.byte) (row_in c.args.self))
    (λ i lt. let made = c.from_fn.ensures i lt in (search rules) ∙ flag_byte _ ∙ sym (map_at (is_byte c.args.byte) (row_in c.args.self) lt))
