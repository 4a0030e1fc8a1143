use Rattle.std.proofs.Common.{rules, ◌≡◌, [], ◌∷◌, ◌++◌, get_or, take, ap, ◌∙◌}
use Rattle.chunk.specs.Rows.{is_row}
use Rattle.chunk.proofs.Rows.{is_row_lem, row_across}
use Rattle.lanes.proofs.Own.{row_in}
use Rattle.lanes.proofs.Lanes16ByteChunk.shift_across.Goals as goal

pub invariant_of-result : goal.invariant_of-result
invariant_of-result c =
    let same : get_or c.args.self.bytes 15 0 ∷ (c.copy_from_slice.new.self ++ []) ≡ get_or c.args.self.bytes 15 0 ∷ take 15 c.args.other.bytes = search rules in
    record { row = ap (is_row 16) same ∙ is_row_lem (row_across (row_in c.args.self) (row_in c.args.other)) }
