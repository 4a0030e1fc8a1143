use Rattle.line_rows.proofs.Rounds.{Added}
use Rattle.line_rows.proofs.routes.count_rows.Given as goal

abbrev pub invariant-loop-row : goal.invariant-loop-row
invariant-loop-row g l = Added l.text g.K.ByteChunk.SIZE l.from l.row (g.K.ByteChunk.lanes l.acc)
