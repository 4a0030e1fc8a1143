use Rattle.std.proofs.Common.{rules, ◌∙◌, sym}
use Rattle.chunk.proofs.Rows.{row_back, back_at}
use Rattle.lanes.proofs.Own.{row_in, lanes_are}
use Rattle.lanes.proofs.Lanes16ByteChunk.shift_back_lex.Goals as goal

pub returns : goal.returns
returns c =
    lanes_are c.from_fn.result (row_back c.requires (row_in c.args.self))
    (λ i lt. let made = c.from_fn.ensures i lt in (search rules) ∙ sym (back_at c.requires (row_in c.args.self) lt))
