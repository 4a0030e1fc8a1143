use Rattle.std.proofs.Common.{arith}
use Rattle.chunk.proofs.Digits.{bytes_add, add_below}
use Rattle.word.proofs.WordByteChunk.add.Goals as goal

pub overflow_add-result : goal.overflow_add-result
overflow_add-result c = record { fits = add_below 8 c.args.self.bits c.args.other.bits (omega arith) (omega arith) c.requires }

pub returns : goal.returns
returns c = bytes_add 8 c.args.self.bits c.args.other.bits c.requires
