use Rattle.chunk.proofs.Digits.{bytes_none}
use Rattle.word.proofs.WordByteChunk.zero.Goals as goal

pub returns : goal.returns
returns c = bytes_none 8
