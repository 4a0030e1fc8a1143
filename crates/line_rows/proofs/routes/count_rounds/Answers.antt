use Rattle.std.proofs.Common.{◌+◌, ◌*◌, ◌≤◌, refl, mul-le-mul_right, arith}
use Rattle.line_rows.proofs.Counts.{breaks_below}
use Rattle.line_rows.proofs.Rounds.{rows_fit, rows_more}
use Rattle.line_rows.proofs.routes.count_rounds.Goals as goal

pub count_rows-count-requires-clause-room : goal.count_rows-count-requires-clause-room
count_rows-count-requires-clause-room g c = rw c.SIZE.ensures (rows_fit _ c.args.from g.K.ByteChunk.SIZE c.loop-first.first c.min-round.result c.args.rows c.requires (omega arith))

pub overflow_add-count : goal.overflow_add-count
overflow_add-count g c =
    let e = rows_more c.args.text.now c.args.from g.K.ByteChunk.SIZE c.loop-first.first c.min-round.result (c.loop-first.first + c.min-round.result) c.loop-first.count c.count_rows-count.result c.loop-first.invariant.1 (rw c.SIZE.ensures at c.count_rows-count.ensures) refl in
    let le : c.loop-first.first + c.min-round.result ≤ c.args.rows = omega arith in
    grind (arith, e, mul-le-mul_right g.K.ByteChunk.SIZE le, breaks_below c.args.text.now (c.args.from + (c.loop-first.first + c.min-round.result) * g.K.ByteChunk.SIZE))
