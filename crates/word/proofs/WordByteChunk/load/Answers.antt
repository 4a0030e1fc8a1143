use Rattle.std.proofs.Common.{sym, ◌∙◌, subst}
use Rattle.chunk.specs.Rows.{Row}
use Rattle.chunk.proofs.Rows.{row_chunk, part_is_chunk}
use Rattle.word.proofs.Eight.{bytes_of_eight}
use Rattle.word.proofs.WordByteChunk.load.Goals as goal

pub returns : goal.returns
returns c =
    let same = c.copy_from_slice.ensures.after ∙ part_is_chunk c.args.place 8 c.args.text.now in
    let row = subst (Row 8) (sym same) (row_chunk c.args.place 8 c.args.text.now c.requires (λ k. (c.type_inv.text k).fits)) in
    bytes_of_eight c.from_le_bytes.result row c.from_le_bytes.ensures ∙ same
