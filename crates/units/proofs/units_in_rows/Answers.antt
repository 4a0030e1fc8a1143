use Rattle.std.proofs.Common.{◌*◌, arith}
use Rattle.units.proofs.Begins.{begun_on}
use Rattle.units.proofs.units_in_rows.Goals as goal

pub overflow_add-result : goal.overflow_add-result
overflow_add-result g c = omega (arith, c.requires.room, (begun_on c.args.text.now c.args.place (c.args.n * g.K.ByteChunk.SIZE) c.round.result c.round-2.result c.round.ensures c.round-2.ensures).1)

pub returns : goal.returns
returns g c = (begun_on c.args.text.now c.args.place (c.args.n * g.K.ByteChunk.SIZE) c.round.result c.round-2.result c.round.ensures c.round-2.ensures).0
