use Rattle.std.proofs.Common.{ap, ◌∙◌}
use lib.Lanes.{zip2}
use lib.Bits.{bit_and}
use Rattle.line_rows.proofs.Flags.{halves_row}
use Rattle.line_rows.proofs.row.halves.Goals as goal

pub returns : goal.returns
returns g c =
    c.bitand.ensures ∙ ap (zip2 bit_and (g.K.ByteChunk.lanes c.shr.result)) c.splat.ensures
    ∙ halves_row g.K.ByteChunk.SIZE _ _ (g.met.K.ByteChunk.row c.shr.result).long c.shr.ensures
