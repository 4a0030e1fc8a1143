use Rattle.measures.proofs.Flags.{leads_sub, leads_row}
use Rattle.measures.proofs.chars.CharsScan.flags.Goals as goal

pub sub-requires : goal.sub-requires
sub-requires g c =
    let row = g.met.K.ByteChunk.row in
    leads_sub (row c.args._far) (row c.args._near) (row c.args.row) c.splat.ensures c.masked.ensures

pub returns : goal.returns
returns g c =
    let row = g.met.K.ByteChunk.row in
    leads_row (row c.args._far) (row c.args._near) (row c.args.row) c.sub.ensures c.splat.ensures c.masked.ensures
