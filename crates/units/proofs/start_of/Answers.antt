use Rattle.std.proofs.Common.{◌≡◌, length, arith}
use Rattle.utf8.proofs.Means.{text_from_test}
use Rattle.units.proofs.Begins.{started}
use Rattle.units.proofs.start_of.Goals as goal

pub returns-then-way-head : goal.returns-then-way-head
returns-then-way-head g c =
    let e = started (text_from_test _ c.by_bytes-way.result.sound) c.by_bytes-way.result.begun (λ _. c.by_bytes-way.ensures.stop c.if-way-head.true) in cc

pub returns : goal.returns
returns g c =
    let long : length c.by_bytes.result.text.now ≡ length c.args.text.bytes.now = cc in
    let e = started (text_from_test _ c.by_bytes.result.sound) c.by_bytes.result.begun (λ h. c.by_bytes.ensures.stop (omega (arith, c.len-2.ensures))) in cc
