use Rattle.std.proofs.Common.{◌≡◌, length, arith}
use Rattle.counted.proofs.Seeking.{arrived}
use Rattle.counted.proofs.seek.start_of.Goals as goal

pub returns-then-way-head : goal.returns-then-way-head
returns-then-way-head g c =
    let e = arrived g.met.C.Counted.lawful g.met.C.Counted.linked c.walk-way.result.sound c.walk-way.result.reached (λ _. c.walk-way.ensures.stop c.if-way-head.true) in cc

pub returns : goal.returns
returns g c =
    let long : length c.walk.result.text.now ≡ length c.args.text.bytes.now = cc in
    let e = arrived g.met.C.Counted.lawful g.met.C.Counted.linked c.walk.result.sound c.walk.result.reached (λ h. c.walk.ensures.stop (omega (arith, c.len-2.ensures))) in cc
