use Rattle.std.proofs.Common.{Err, string_bytes, subst, rules}
use Rattle.cue.specs.declared.stop.Stop.{Stop}
use Rattle.cue.specs.Steps.{Ran}
use Rattle.cue.proofs.Playing.{all_printed, refusal_printed}
use Rattle.cue.proofs.transcript.transcript.Goals as goal

pub returns-in-Ok : goal.returns-in-Ok
returns-in-Ok c = all_printed c.args.text.now c.args.cues.now (string_bytes c.new-out.result) _ (search rules) c.in-Ok.ensures

pub returns-in_ok-add_refusal-in-Err-Refused : goal.returns-in_ok-add_refusal-in-Err-Refused
returns-in_ok-add_refusal-in-Err-Refused c =
    let ran = subst (λ (s : Stop). Ran c.args.text.now c.args.cues.now (string_bytes c.new-out.result) (Err s) (string_bytes c.run.new.out)) c.in-Err-Refused.field-0-is c.in-Err-Refused.ensures in
    refusal_printed c.args.text.now c.args.cues.now (string_bytes c.new-out.result) (string_bytes c.run.new.out) (search rules) c.in-Err-Refused.fault _ ran c.in_ok-add_refusal-in-Err-Refused.ensures
