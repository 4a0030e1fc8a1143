use Rattle.std.proofs.Common.{◌+◌}
use Rattle.counted.proofs.Seeking.{Walking}
use Rattle.counted.proofs.seek.Way.walk.Given as goal

abbrev pub invariant-loop-i : goal.invariant-loop-i
invariant-loop-i g l = Walking g.C.Scan.hit g.C.Counted.weight l.fn.self.text.now l.fn.self.k (l.fn.self.place + l.i) l.count l.far l.near
