use Rattle.std.proofs.Common.{string_bytes}
use Rattle.std.proofs.lemmas.Result.{err_from_is_err_and}
use Rattle.cue.proofs.Playing.{refused_first}
use Rattle.cue.proofs.transcript.run.Goals as goal

pub returns-in_err-text : goal.returns-in_err-text
returns-in_err-text c =
    let p = err_from_is_err_and c.from_residual.result c.from_residual.ensures.1 in
    rw (p.1, p.2) (refused_first c.args.text.now c.args.cues.now _ (string_bytes c.args.out.now) c.in_err-text.ensures)
