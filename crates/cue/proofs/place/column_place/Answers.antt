use Rattle.std.proofs.Common.{◌≡◌, ◌+◌, Ok, ap, arith}
use Rattle.cells.specs.Cells.{index, count, start}
use Rattle.measures.specs.Chars.{unit_weight}
use Rattle.measures.specs.Breaks.{line_weight, crlf_breaks}
use Rattle.cue.proofs.Columns.{in_line}
use Rattle.cue.proofs.Playing.{same_answer}
use Rattle.cue.proofs.place.column_place.Goals as goal

pub returns : goal.returns
returns c =
    let last : c.in_ok-last.last ≡ count (line_weight crlf_breaks) c.args.text.bytes.now = same_answer c.in_ok-last.ensures in
    let from : c.in_ok-from.from ≡ start (line_weight crlf_breaks) c.args.text.bytes.now c.args.line = same_answer c.in_ok-from.ensures in
    let before : c.in_ok-before.before ≡ index unit_weight c.args.text.bytes.now c.in_ok-from.from = same_answer c.in_ok-before.ensures in
    let place : c.in_ok-place.place ≡ start unit_weight c.args.text.bytes.now c.saturating_add.result = same_answer c.in_ok-place.ensures in
    let next : c.in_ok-next.next ≡ start (line_weight crlf_breaks) c.args.text.bytes.now (c.args.line + 1) = same_answer c.in_ok-next.ensures in
    ap Ok
    (in_line c.args.text.bytes.now c.args.text.sound c.args.line c.args.column
    _ _ _ _ c.saturating_add.result _ _
    (omega (arith, c.ranges.text)) last c.if-line-last.false from before c.saturating_add.ensures place next c.min.ensures)
