use Rattle.std.proofs.Common.{rules, ◌∙◌, sym, bit_and}
use Rattle.chunk.proofs.Rows.{row_and, zip_at}
use Rattle.lanes.proofs.Own.{row_in, lanes_are}
use Rattle.lanes.proofs.Lanes16ByteChunk.bitand.Goals as goal

pub returns : goal.returns
returns c =
    lanes_are c.from_fn.result (row_and (row_in c.args.self) (row_in c.args.other))
    (λ i lt. let made = c.from_fn.ensures i lt in (search rules) ∙ sym (zip_at bit_and (row_in c.args.self) (row_in c.args.other) lt))
