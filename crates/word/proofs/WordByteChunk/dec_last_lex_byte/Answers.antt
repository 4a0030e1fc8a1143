use Rattle.std.proofs.Common.{arith}
use Rattle.chunk.proofs.Digits.{bytes_dec}
use Rattle.word.proofs.WordByteChunk.dec_last_lex_byte.Goals as goal

pub overflow_sub-result : goal.overflow_sub-result
overflow_sub-result c = (bytes_dec 8 7 c.args.self.bits (omega arith) c.requires).0

pub returns : goal.returns
returns c = (bytes_dec 8 7 c.args.self.bits (omega arith) c.requires).1
