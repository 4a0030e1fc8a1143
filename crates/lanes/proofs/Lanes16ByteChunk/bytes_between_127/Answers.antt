use Rattle.std.proofs.Common.{rules, ◌∙◌, sym, ltb, ◌&&◌}
use Rattle.chunk.specs.Rows.{is_between}
use Rattle.chunk.proofs.Rows.{row_flags, flag_byte, map_at}
use Rattle.lanes.proofs.Own.{row_in, lanes_are}
use Rattle.lanes.proofs.Lanes16ByteChunk.bytes_between_127.Goals as goal

pub returns : goal.returns
returns c =
    lanes_are c.from_fn.result (row_flags (λ x. ltb c.args.a x && ltb x c.args.b) (row_in c.args.self))
    (λ i lt. let made = c.from_fn.ensures i lt in (search rules) ∙ flag_byte _ ∙ sym (map_at (is_between c.args.a c.args.b) (row_in c.args.self) lt))
