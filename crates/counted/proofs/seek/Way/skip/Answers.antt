use Rattle.std.proofs.Common.{◌*◌, arith}
use Rattle.counted.proofs.Seeking.{reached_rows, reached_few}
use Rattle.counted.proofs.seek.Way.skip.Goals as goal

pub overflow_add-count : goal.overflow_add-count
overflow_add-count g c =
    grind (arith, c.rows_at_once-n.ensures.room, reached_few g.met.C.Counted.lawful g.met.C.Counted.linked c.loop-way.way.sound c.loop-way.way.reached (c.rows_at_once-n.result * g.K.ByteChunk.SIZE) c.round.result c.round.ensures)

pub at-way-requires : goal.at-way-requires
at-way-requires g c =
    rw c.SIZE-in-loop-way.ensures
    (reached_rows g.met.C.Counted.lawful g.met.C.Counted.linked c.loop-way.way.sound c.loop-way.way.reached (c.rows_at_once-n.result * g.K.ByteChunk.SIZE) c.round.result c.rows_at_once-n.ensures.room c.round.ensures c.if-count-way.false)
