use native.Mathlib.Omega.{arith}
use Prim.Native.Nat.{◌<◌}
use lib.ListN.{get_or}
use Rattle.chunk.proofs.Rows.{row_set, is_row_lem, Each1-at}
use Rattle.lanes.proofs.Own.{row_in}
use Rattle.lanes.proofs.Lanes16ByteChunk.dec_last_lex_byte.Goals as goal

pub invariant_of-result : goal.invariant_of-result
invariant_of-result c =
    let row = row_in c.args.self in
    let last : get_or c.args.self.bytes 15 0 < 256 = Each1-at (λ x. x < 256) row (omega arith) row.bytes in
    record { row = is_row_lem (row_set _ _ (omega arith) row) }
