use Rattle.std.proofs.Common.{arith}
use Rattle.chunk.proofs.Packed.{equal_lanes}
use Rattle.word.proofs.WordByteChunk.cmp_eq_byte.Goals as goal

pub returns : goal.returns
returns c = equal_lanes 8 c.args.self.bits (omega arith) c.args.byte (omega arith)
