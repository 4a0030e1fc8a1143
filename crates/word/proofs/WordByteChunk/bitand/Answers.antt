use Rattle.chunk.proofs.Digits.{bytes_and}
use Rattle.word.proofs.WordByteChunk.bitand.Goals as goal

pub returns : goal.returns
returns c = bytes_and 8 c.args.self.bits c.args.other.bits
