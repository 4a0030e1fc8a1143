use Rattle.std.proofs.Common.{arith}
use Rattle.chunk.proofs.Moves.{bytes_across}
use Rattle.word.proofs.WordByteChunk.shift_across.Goals as goal

pub returns : goal.returns
returns c = bytes_across 7 c.args.self.bits c.args.other.bits (omega arith)
