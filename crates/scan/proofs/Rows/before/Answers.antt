use Rattle.std.proofs.Common.{arith}
use Rattle.scan.proofs.Adding.{added_none}
use Rattle.scan.proofs.Rows.before.Goals as goal

pub returns : goal.returns
returns g c hit =
    added_none _ _ _ _ _ _ _ _ _ (omega (arith, g.met.K.ByteChunk.wide)) c.zero.ensures c.splat.ensures c.byte_before.ensures c.splat-2.ensures c.byte_before-2.ensures
