use Rattle.std.proofs.Common.{arith}
use Rattle.scan.proofs.Adding.{weaker}
use Rattle.scan.proofs.round.Goals as goal

pub loop-done-init : goal.loop-done-init
loop-done-init g c = (omega arith, c.before-rows.ensures g.S.Scan.hit)

pub sum_bytes-requires : goal.sum_bytes-requires
sum_bytes-requires g c = weaker c.loop-i.i g.K.ByteChunk.MAX_ACC _ (omega (arith, c.requires.few, c.loop-i.auto.i-end c.loop-done.invariant.0)) c.loop-i.invariant.few
