use Rattle.std.proofs.Common.{◌≡◌, ◌+◌, ◌-◌, ◌*◌, ◌/◌, length, arith}
use Rattle.cells.specs.Cells.{count}
use Rattle.measures.specs.Breaks.{unicode_breaks, line_weight}
use Rattle.line_rows.proofs.Counts.{breaks_below}
use Rattle.line_rows.proofs.Rounds.{whole_rows}
use Rattle.line_rows.proofs.Rest.{rest_all}
use Rattle.line_rows.proofs.Pending.{count_below}
use Rattle.line_rows.proofs.routes.count_breaks_impl.Given as given
use Rattle.line_rows.proofs.routes.count_breaks_impl.Goals as goal
use Rattle.line_rows.proofs.routes.count_breaks_impl.Goals.{After-count_breaks_up_to}

pub overflow_add-result : goal.overflow_add-result
overflow_add-result g c =
    let rows = (length c.args.text.now - c.count_breaks_up_to-in_head.result.1) / c.SIZE.result in
    grind (
      arith,
      c.count_breaks_up_to-in_head.ensures.counted.right,
      c.count_rounds-in_rows.ensures,
      whole_rows (length c.args.text.now) c.count_breaks_up_to-in_head.result.1 c.SIZE.result g.K.ByteChunk.SIZE c.SIZE.ensures (omega arith),
      breaks_below c.args.text.now (c.count_breaks_up_to-in_head.result.1 + rows * g.K.ByteChunk.SIZE),
    )

-- the head, the rows and the rest
all : (g : given.Over) (c : After-count_breaks_up_to g)
    → c.count_breaks_up_to-in_head.result.0 + c.count_rounds-in_rows.result + c.count_breaks_up_to.result.0 ≡ count (line_weight unicode_breaks) c.args.text.now
all g c =
    rest_all c.args.text.now (c.count_breaks_up_to-in_head.result.1 + (length c.args.text.now - c.count_breaks_up_to-in_head.result.1) / c.SIZE.result * c.SIZE-2.result)
    (rw c.SIZE-2.ensures (whole_rows _ _ _ _ c.SIZE.ensures (omega arith))) (rw c.SIZE-2.ensures (omega (arith, c.count_breaks_up_to-in_head.ensures.counted.right, c.count_rounds-in_rows.ensures)))
    c.count_breaks_up_to.ensures

pub overflow_add-result-2 : goal.overflow_add-result-2
overflow_add-result-2 g c = grind (arith, all g (goal.at.overflow_add-result-2 g c).After-count_breaks_up_to, count_below c.args.text.now)

pub returns : goal.returns
returns g c = all g (goal.at.returns g c).After-count_breaks_up_to
