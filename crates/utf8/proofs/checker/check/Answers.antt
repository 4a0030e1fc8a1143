use Rattle.std.proofs.Common.{rules}
use Rattle.std.proofs.lemmas.Result.{err_from_is_err_and}
use Rattle.utf8.proofs.Walk.{none_more, one_more, no_more}
use Rattle.utf8.proofs.checker.check.Goals as goal

pub returns-in_err-step : goal.returns-in_err-step
returns-in_err-step c =
    let p = err_from_is_err_and c.from_residual.result c.from_residual.ensures.1 in
    rw (p.1, p.2)
    (no_more c.args.bytes.now c.loop-place.place c.loop-place.checker c.loop-place.invariant (search rules) (search rules) _ c.step.new.self _ c.from.ensures c.in_err-step.ensures)

pub loop-place-preserved : goal.loop-place-preserved
loop-place-preserved c =
    one_more c.args.bytes.now c.loop-place.place c.loop-place.checker c.loop-place.invariant (search rules) (search rules) _ _ c.from.ensures c.in_ok-step.ensures

pub returns : goal.returns
returns c = none_more c.args.bytes.now c.loop-place.place c.loop-place.checker c.loop-place.invariant (search rules) c.end.result c.end.ensures
