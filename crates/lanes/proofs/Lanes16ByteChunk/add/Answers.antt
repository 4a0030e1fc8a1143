use Rattle.std.proofs.Common.{rules, ◌∙◌, sym, ◌+◌, ◌<◌}
use Rattle.chunk.proofs.Rows.{row_zip, zip_at, Each2-at}
use Rattle.lanes.proofs.Own.{row_in, lanes_are}
use Rattle.lanes.proofs.Lanes16ByteChunk.add.Goals as goal

pub from_fn-requires : goal.from_fn-requires
from_fn-requires c i lt = let fits = Each2-at (λ x y. x + y < 256) (row_in c.args.self) (row_in c.args.other) lt c.requires in search rules

pub returns : goal.returns
returns c =
    lanes_are c.from_fn.result (row_zip (λ x y. x + y) c.requires (row_in c.args.self) (row_in c.args.other))
    (λ i lt. let made = c.from_fn.ensures i lt in (search rules) ∙ sym (zip_at (λ x y. x + y) (row_in c.args.self) (row_in c.args.other) lt))
