use Rattle.line_rows.specs.Passing.{Counted}
use Rattle.line_rows.proofs.up_to.count_breaks_up_to.Given as goal

abbrev pub invariant-loop-place : goal.invariant-loop-place
invariant-loop-place l = Counted l.bytes l.max_breaks l.count l.place
