use Rattle.std.proofs.Common.{◌≡◌, ◌+◌, ◌*◌, ◌≤◌}
use Rattle.line_rows.specs.Begins.{breaks_in}
use Rattle.line_rows.proofs.routes.count_rounds.Given as goal

abbrev pub invariant-loop-first : goal.invariant-loop-first
invariant-loop-first g l = (l.first ≤ l.rows) × (breaks_in l.text l.from + l.count ≡ breaks_in l.text (l.from + l.first * g.K.ByteChunk.SIZE))
