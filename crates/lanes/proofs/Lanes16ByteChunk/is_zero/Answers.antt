use Rattle.std.proofs.Common.{◌∙◌}
use Rattle.lanes.proofs.Own.{row_in, none_is}
use Rattle.lanes.proofs.Lanes16ByteChunk.is_zero.Goals as goal

pub returns : goal.returns
returns c = c.eq.ensures ∙ none_is c.args.self.bytes (row_in c.args.self).long
