use Rattle.cells.proofs.Walks.{Summed}
use Rattle.cells.proofs.walk.index.Given as goal

abbrev pub invariant-loop-p : goal.invariant-loop-p
invariant-loop-p g l = Summed g.met.M.Measure.lawful l.text.bytes.now l.text.sound l.p l.sum
