use Rattle.std.proofs.Common.{◌<◌, ap, ◌∙◌}
use Rattle.std.proofs.lemmas.Simd.{Each1-from_get_or}
use Rattle.chunk.specs.Rows.{is_row}
use Rattle.chunk.proofs.Rows.{is_row_lem}
use Rattle.lanes.proofs.Lanes16.of.Goals as goal

pub invariant_of-result : goal.invariant_of-result
invariant_of-result c =
    let bytes = Each1-from_get_or (λ x. x < 256) c.args.row.now 0 (λ i h. (c.type_inv.row i).fits) in
    record { row = ap (is_row 16) c.copy_from_slice.ensures.after ∙ is_row_lem record { long = c.requires; bytes = bytes } }
