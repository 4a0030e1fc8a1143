use Rattle.std.proofs.Common.{◌-◌, ◌≤◌}
use Rattle.scan.specs.Rounds.{Added}
use Rattle.scan.proofs.round.Given as goal

abbrev pub invariant-loop-done : goal.invariant-loop-done
invariant-loop-done g l = (l.done ≤ l.n) × Added g.S.Scan.hit l.text g.K.ByteChunk.SIZE l.from l.done (g.K.ByteChunk.lanes l.rows.sums) (g.K.ByteChunk.lanes l.rows.older) (g.K.ByteChunk.lanes l.rows.last)

abbrev pub decreases-loop-done : goal.decreases-loop-done
decreases-loop-done g l = l.n - l.done

abbrev pub invariant-loop-i : goal.invariant-loop-i
invariant-loop-i g l = Added g.S.Scan.hit l.text g.K.ByteChunk.SIZE l.from l.i (g.K.ByteChunk.lanes l.rows.sums) (g.K.ByteChunk.lanes l.rows.older) (g.K.ByteChunk.lanes l.rows.last)
