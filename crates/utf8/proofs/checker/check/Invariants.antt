use Rattle.utf8.proofs.Walk.{Sofar}
use Rattle.utf8.proofs.checker.check.Given as goal

abbrev pub invariant-loop-place : goal.invariant-loop-place
invariant-loop-place l = Sofar l.bytes l.place l.checker
