use Rattle.std.proofs.Common.{◌≡◌, ◌+◌, sym, ap, arith}
use Rattle.std.proofs.lemmas.Bool.{not-true, not-false}
use Rattle.utf8.proofs.Means.{text_from_test}
use Rattle.cells.specs.Cells.{index}
use Rattle.measures.specs.Breaks.{unicode_breaks, in_crlf, line_weight}
use Rattle.line_rows.specs.Begins.{flag}
use Rattle.line_rows.proofs.Front.{front_count, index_min}
use Rattle.line_rows.proofs.routes.from_byte_idx_impl.Given as given
use Rattle.line_rows.proofs.routes.from_byte_idx_impl.Goals as goal
use Rattle.line_rows.proofs.routes.from_byte_idx_impl.Goals.{After-count_breaks_impl-count}

-- what is counted: the index, and one more between CR and LF
counted : (g : given.Over) (c : After-count_breaks_impl-count g)
    → c.count_breaks_impl-count.result ≡ index (line_weight unicode_breaks) c.args.text.bytes.now c.args.byte_idx + flag (in_crlf c.bytes-bytes.result.now c.min-i.result)
counted g c =
    let t = c.bytes-bytes.result.now in
    let front = front_count t c.min-i.result (omega (arith, c.min-i.ensures)) in
    let clipped = index_min t (text_from_test _ c.bytes-bytes.ensures.sound) c.args.byte_idx in
    cc

pub overflow_sub-result : goal.overflow_sub-result
overflow_sub-result g c = omega (arith, counted g (goal.at.overflow_sub-result g c).After-count_breaks_impl-count, ap flag (not-false _ (sym c.if-is_not_crlf_middle.ensures)))

pub returns-then-is_not_crlf_middle : goal.returns-then-is_not_crlf_middle
returns-then-is_not_crlf_middle g c = omega (arith, counted g (goal.at.returns-then-is_not_crlf_middle g c).After-count_breaks_impl-count, ap flag (not-true _ (sym c.if-is_not_crlf_middle.ensures)))

pub returns-else-is_not_crlf_middle : goal.returns-else-is_not_crlf_middle
returns-else-is_not_crlf_middle g c = omega (arith, counted g (goal.at.returns-else-is_not_crlf_middle g c).After-count_breaks_impl-count, ap flag (not-false _ (sym c.if-is_not_crlf_middle.ensures)))
