use Rattle.std.proofs.Common.{arith}
use Rattle.chunk.proofs.Digits.{bytes_zero}
use Rattle.word.proofs.WordByteChunk.is_zero.Goals as goal

pub returns : goal.returns
returns c = bytes_zero 8 c.args.self.bits (omega arith)
