use Rattle.std.proofs.Common.{◌+◌, ◌-◌, ap, ◌∙◌, arith}
use Rattle.chunk.specs.Rows.{bytes_of}
use Rattle.chunk.proofs.Digits.{bytes_inc, inc_below}
use Rattle.chunk.proofs.Moves.{one_lane}
use Rattle.word.proofs.WordByteChunk.inc_nth_from_end_lex_byte.Goals as goal

pub overflow_add-result : goal.overflow_add-result
overflow_add-result c =
    record { fits = omega (arith, one_lane 8 (7 - c.args.n) (omega arith), inc_below 8 (7 - c.args.n) c.args.self.bits (omega arith) (omega arith) c.requires.1) }

pub returns : goal.returns
returns c =
    ap (λ t. bytes_of 8 (c.args.self.bits + t)) (one_lane 8 (7 - c.args.n) (omega arith))
    ∙ bytes_inc 8 (7 - c.args.n) c.args.self.bits (omega arith) c.requires.1
