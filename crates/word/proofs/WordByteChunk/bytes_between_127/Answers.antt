use Rattle.std.proofs.Common.{arith}
use Rattle.chunk.proofs.Packed.{between_lanes}
use Rattle.word.proofs.WordByteChunk.bytes_between_127.Goals as goal

pub returns : goal.returns
returns c = between_lanes 8 c.args.self.bits (omega arith) c.args.a c.args.b (omega arith) (omega arith)
