use Rattle.std.proofs.Common.{◌≡◌, ◌-◌, length}
use Rattle.line_rows.proofs.routes.Way.by_rows.Given as goal

abbrev pub invariant-loop-way : goal.invariant-loop-way
invariant-loop-way g l = (l.way.text.now ≡ l.fn.self.text.now) × (l.way.k ≡ l.fn.self.k)

abbrev pub decreases-loop-way : goal.decreases-loop-way
decreases-loop-way g l = length l.way.text.now - l.way.place
