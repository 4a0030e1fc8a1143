use Rattle.std.proofs.Common.{ap, ◌∙◌, arith}
use Rattle.chunk.specs.Rows.{bytes_of}
use Rattle.chunk.proofs.Digits.{repeated_times, bytes_repeated}
use Rattle.word.proofs.WordByteChunk.splat.Goals as goal

pub returns : goal.returns
returns c = ap (bytes_of 8) (repeated_times 8 c.args.n) ∙ bytes_repeated 8 c.args.n (omega arith)
