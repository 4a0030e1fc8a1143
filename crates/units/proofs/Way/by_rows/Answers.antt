use Rattle.std.proofs.Common.{◌+◌, ◌*◌, arith}
use Rattle.units.proofs.Begins.{begun_most}
use Rattle.units.proofs.Way.by_rows.Goals as goal

pub overflow_add-count : goal.overflow_add-count
overflow_add-count g c = grind (arith, begun_most c.loop-way.way.text.now (c.loop-way.way.place + 1 * g.K.ByteChunk.SIZE))
