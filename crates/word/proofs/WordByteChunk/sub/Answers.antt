use Rattle.std.proofs.Common.{arith}
use Rattle.chunk.proofs.Digits.{bytes_sub}
use Rattle.word.proofs.WordByteChunk.sub.Goals as goal

pub overflow_sub-result : goal.overflow_sub-result
overflow_sub-result c = (bytes_sub 8 c.args.self.bits c.args.other.bits (omega arith) (omega arith) c.requires).0

pub returns : goal.returns
returns c = (bytes_sub 8 c.args.self.bits c.args.other.bits (omega arith) (omega arith) c.requires).1
