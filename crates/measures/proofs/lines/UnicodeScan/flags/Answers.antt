use Rattle.measures.proofs.Flags.{unicode_sub, unicode_add, unicode_add_2, unicode_row}
use Rattle.measures.proofs.lines.UnicodeScan.flags.Goals as goal

pub sub-requires : goal.sub-requires
sub-requires g c =
    let row = g.met.K.ByteChunk.row in
    unicode_sub (row c.args.far) (row c.args.near) (row c.args.row) c.bytes_between_127.ensures c.pairs.ensures

pub add-requires : goal.add-requires
add-requires g c =
    let row = g.met.K.ByteChunk.row in
    unicode_add (row c.args.far) (row c.args.near) (row c.args.row) c.sub.ensures c.bytes_between_127.ensures c.pairs.ensures c.pairs-2.ensures

pub add-requires-2 : goal.add-requires-2
add-requires-2 g c =
    let row = g.met.K.ByteChunk.row in
    unicode_add_2 (row c.args.far) (row c.args.near) (row c.args.row) c.separators.ensures c.add.ensures c.sub.ensures c.bytes_between_127.ensures c.pairs.ensures c.pairs-2.ensures

pub returns : goal.returns
returns g c =
    let row = g.met.K.ByteChunk.row in
    unicode_row (row c.args.far) (row c.args.near) (row c.args.row) c.add-2.ensures c.separators.ensures c.add.ensures c.sub.ensures c.bytes_between_127.ensures c.pairs.ensures c.pairs-2.ensures
