use Rattle.std.proofs.Common.{ℕ, List, ap, ◌∙◌}
use Rattle.line_rows.specs.Begins.{begins_at, cr_lf}
use Rattle.line_rows.specs.Marks.{break_marks}
use Rattle.line_rows.proofs.Lanes.{Summed, long_fits, all_fits, all_summed, less_fits, less_at, summed_above, summed_marks}
use Rattle.line_rows.proofs.row.count_breaks_in_chunk.Given as given
use Rattle.line_rows.proofs.row.count_breaks_in_chunk.Goals as goal
use Rattle.line_rows.proofs.row.count_breaks_in_chunk.Goals.{After-add}

pub add-long-requires : goal.add-long-requires
add-long-requires g c =
    let met = g.met.K.ByteChunk in
    long_fits c.load-row.result.at _ _ (met.row c.pairs.result) (met.row c.separators.result) c.pairs.ensures c.separators.ensures

pub add-requires : goal.add-requires
add-requires g c =
    let met = g.met.K.ByteChunk in
    all_fits c.load-row.result.at _ _ (met.row c.pairs.result) (met.row c.separators.result) c.pairs.ensures c.separators.ensures
    _ _ (met.row c.add-long.result) (met.row c.bytes_between_127-low.result) c.add-long.ensures c.bytes_between_127-low.ensures

summed : (g : given.Over) (c : After-add g) → Summed c.load-row.result.text.now c.load-row.result.place g.K.ByteChunk.SIZE (g.K.ByteChunk.lanes c.add.result)
summed g c =
    let met = g.met.K.ByteChunk in
    all_summed c.load-row.result.at _ _ (met.row c.pairs.result) (met.row c.separators.result) c.pairs.ensures c.separators.ensures
    _ _ (met.row c.add-long.result) (met.row c.bytes_between_127-low.result) c.add-long.ensures c.bytes_between_127-low.ensures _ c.add.ensures

pub sub-requires : goal.sub-requires
sub-requires g c =
    less_fits (begins_at cr_lf c.load-row.result.text.now) c.load-row.result.place g.K.ByteChunk.SIZE _ _ c.pairs-2.ensures (g.met.K.ByteChunk.row c.add.result) (summed_above (summed g (goal.at.sub-requires g c).After-add))

pub returns : goal.returns
returns g c =
    let met = g.met.K.ByteChunk in
    let w = g.K.ByteChunk.SIZE in
    summed_marks (summed g (goal.at.returns g c).After-add) _ (met.row c.sub.result)
    (less_at (begins_at cr_lf c.load-row.result.text.now) c.load-row.result.place w _ _ c.pairs-2.ensures (met.row c.add.result) (met.row c.pairs-2.result) _ c.sub.ensures)
    ∙ ap (λ (t : List ℕ). break_marks t c.load-row.result.place w) c.load-row.ensures.text ∙ ap (λ (p : ℕ). break_marks c.args.text.now p w) c.load-row.ensures.place
