use Rattle.std.proofs.Common.{sym, ◌∙◌, arith}
use Rattle.line_rows.proofs.Rounds.{each_below, added_none, added_fits, added_more}
use Rattle.line_rows.proofs.routes.count_rows.Goals as goal

pub loop-row-init : goal.loop-row-init
loop-row-init g c = added_none _ _ _ _ c.zero-acc.ensures

pub add-acc-requires : goal.add-acc-requires
add-acc-requires g c = let is = rw c.SIZE.ensures at c.count_breaks_in_chunk.ensures in added_fits c.loop-row.invariant is (omega (arith, g.met.K.ByteChunk.within, c.requires.few))

pub loop-row-preserved : goal.loop-row-preserved
loop-row-preserved g c =
    let met = g.met.K.ByteChunk in
    let is = rw c.SIZE.ensures at c.count_breaks_in_chunk.ensures in
    added_more c.loop-row.invariant is _ ((met.row c.loop-row.acc).long ∙ sym (met.row c.count_breaks_in_chunk.result).long) c.add-acc.ensures

pub sum_bytes-requires : goal.sum_bytes-requires
sum_bytes-requires g c = each_below c.loop-row.row g.K.ByteChunk.MAX_ACC _ (omega (arith, c.requires.few)) c.loop-row.invariant.small
