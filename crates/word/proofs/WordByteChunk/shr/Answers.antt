use Rattle.chunk.proofs.Moves.{bytes_shr}
use Rattle.word.proofs.WordByteChunk.shr.Goals as goal

pub returns : goal.returns
returns c = bytes_shr 8 c.args.n c.args.self.bits c.requires
