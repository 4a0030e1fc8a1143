use native.Mathlib.Omega.{arith}
use Rattle.chunk.proofs.Rows.{row_set, is_row_lem}
use Rattle.lanes.proofs.Own.{row_in}
use Rattle.lanes.proofs.Lanes16ByteChunk.inc_nth_from_end_lex_byte.Goals as goal

pub invariant_of-result : goal.invariant_of-result
invariant_of-result c = record { row = is_row_lem (row_set _ _ (omega (arith, c.requires.1)) (row_in c.args.self)) }
