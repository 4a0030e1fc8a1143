use Rattle.std.proofs.Common.{◌+◌, ◌*◌, arith}
use Rattle.line_rows.proofs.Counts.{breaks_below, all_more}
use Rattle.line_rows.proofs.routes.Way.by_rows.Goals as goal

pub overflow_add-count : goal.overflow_add-count
overflow_add-count g c = grind (arith, c.loop-way.way.counted.right, c.count_rows.ensures, breaks_below c.loop-way.way.text.now (c.loop-way.way.place + c.args.rows * g.K.ByteChunk.SIZE))

pub at-way-requires-clause-counted : goal.at-way-requires-clause-counted
at-way-requires-clause-counted g c = rw c.SIZE.ensures (all_more c.loop-way.way.counted c.count_rows.result (c.loop-way.way.place + c.args.rows * g.K.ByteChunk.SIZE) (omega arith) c.count_rows.ensures c.if-count-way.false)
