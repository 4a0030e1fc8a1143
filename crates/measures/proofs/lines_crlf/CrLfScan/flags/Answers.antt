use Rattle.measures.proofs.Flags.{crlf_add, crlf_sub, crlf_row}
use Rattle.measures.proofs.lines_crlf.CrLfScan.flags.Goals as goal

pub add-requires : goal.add-requires
add-requires g c =
    let row = g.met.K.ByteChunk.row in
    crlf_add (row c.args._far) (row c.args.near) (row c.args.row) c.cmp_eq_byte-lf.ensures c.cmp_eq_byte-cr.ensures

pub sub-requires : goal.sub-requires
sub-requires g c =
    let row = g.met.K.ByteChunk.row in
    crlf_sub (row c.args._far) (row c.args.near) (row c.args.row) c.add.ensures c.cmp_eq_byte-lf.ensures c.cmp_eq_byte-cr.ensures c.cmp_eq_byte.ensures c.bitand-second.ensures

pub returns : goal.returns
returns g c =
    let row = g.met.K.ByteChunk.row in
    crlf_row (row c.args._far) (row c.args.near) (row c.args.row) c.sub.ensures c.add.ensures c.cmp_eq_byte-lf.ensures c.cmp_eq_byte-cr.ensures c.cmp_eq_byte.ensures c.bitand-second.ensures
