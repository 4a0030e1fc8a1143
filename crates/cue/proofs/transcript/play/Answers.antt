use Rattle.std.proofs.Common.{Ok, sym, ap, ◌∙◌}
use Rattle.std.proofs.lemmas.Result.{err_from_is_err_and}
use Rattle.cue.proofs.Playing.{one_more, all_played, one_refused, same_answer}
use Rattle.cue.proofs.transcript.play.Goals as goal

pub returns-in_err-record : goal.returns-in_err-record
returns-in_err-record c =
    let p = err_from_is_err_and c.from_residual.result c.from_residual.ensures.1 in
    rw (p.1, p.2) (one_refused c.loop-record.invariant _ (sym c.in_err-record.ensures))

pub loop-record-preserved : goal.loop-record-preserved
loop-record-preserved c =
    one_more c.loop-record.invariant c.in-Some.record c.in_ok-place.place _ (sym c.in_ok-record.ensures ∙ ap Ok c.in-Some.is) (same_answer c.in_ok-place.ensures) c.in_ok-add_line.ensures

pub returns : goal.returns
returns c = all_played c.loop-record.invariant (sym c.in_ok-record.ensures ∙ ap Ok c.in_default.is)
