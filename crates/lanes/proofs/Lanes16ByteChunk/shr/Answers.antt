use Rattle.std.proofs.Common.{rules, ap, ◌∙◌, sym, ◌/◌, ◌^◌}
use Rattle.chunk.specs.Rows.{without_top}
use Rattle.chunk.proofs.Rows.{row_upper, upper_rest, map_at}
use Rattle.lanes.proofs.Own.{row_in, lanes_are}
use Rattle.lanes.proofs.Lanes16ByteChunk.shr.Goals as goal

pub returns : goal.returns
returns c =
    ap (without_top c.args.n)
    (lanes_are c.from_fn.result (row_upper c.args.n (row_in c.args.self))
    (λ i lt. let made = c.from_fn.ensures i lt in (search rules) ∙ sym (map_at (λ x. x / 2 ^ c.args.n) (row_in c.args.self) lt)))
    ∙ upper_rest c.args.n c.args.self.bytes c.requires (row_in c.args.self).bytes
