use Rattle.cells.proofs.Walks.{Sofar}
use Rattle.cells.proofs.walk.start.Given as goal

abbrev pub invariant-loop-p : goal.invariant-loop-p
invariant-loop-p g l = Sofar g.met.M.Measure.lawful l.text.bytes.now l.text.sound l.k l.p l.sum l.best
