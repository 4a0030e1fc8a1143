use Rattle.std.proofs.Common.{◌+◌}
use Rattle.units.specs.Units.{Begun}
use Rattle.units.proofs.Way.by_bytes.Given as goal

abbrev pub invariant-loop-i : goal.invariant-loop-i
invariant-loop-i l = Begun l.fn.self.text.now l.fn.self.k (l.fn.self.place + l.i) l.count
