use Rattle.std.proofs.Common.{arith}
use Rattle.chunk.proofs.Sums.{sum_lanes}
use Rattle.word.proofs.WordByteChunk.sum_bytes.Goals as goal

pub returns : goal.returns
returns c = sum_lanes 7 c.args.self.bits _ (omega arith) c.requires (omega arith)
