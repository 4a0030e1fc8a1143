use Rattle.std.proofs.Common.{◌≡◌, ◌-◌, ◌≤◌}
use Rattle.scan.specs.Marks.{counted}
use Rattle.scan.proofs.count.Given as goal

abbrev pub invariant-loop-place : goal.invariant-loop-place
invariant-loop-place g l = (l.from ≤ l.place) × (l.place ≤ l.to) × (l.count ≡ counted g.S.Scan.hit l.text l.from (l.place - l.from))

abbrev pub decreases-loop-place : goal.decreases-loop-place
decreases-loop-place g l = l.to - l.place
