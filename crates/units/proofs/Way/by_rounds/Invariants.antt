use Rattle.std.proofs.Common.{◌≡◌, ◌-◌, length}
use Rattle.units.proofs.Begins.{Rounds}
use Rattle.units.proofs.Way.by_rounds.Given as goal

abbrev pub invariant-loop-first : goal.invariant-loop-first
invariant-loop-first g l = (l.way.text.now ≡ l.fn.self.text.now) × (l.way.k ≡ l.fn.self.k) × Rounds l.way.place (l.rows - l.first) g.K.ByteChunk.SIZE g.K.ByteChunk.MAX_ACC (length l.way.text.now) l.way.count l.way.k
