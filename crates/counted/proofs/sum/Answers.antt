use Rattle.std.proofs.Common.{refl, arith}
use Rattle.utf8.proofs.Means.{text_from_test}
use Rattle.counted.proofs.Linking.{Summing, sum_none, sum_some}
use Rattle.counted.proofs.sum.Given as given
use Rattle.counted.proofs.sum.Goals as goal

pub returns-then-a-to : goal.returns-then-a-to
returns-then-a-to g c =
    let e = sum_none g.met.C.Counted.lawful c.bytes-bytes.result.now (text_from_test _ c.bytes-bytes.ensures.sound) c.args.a c.args.b c.min-to.result c.min-to.ensures c.if-a-to.true in cc

pub overflow_add-result : goal.overflow_add-result
overflow_add-result g c =
    omega (arith, c.min-to.ensures, c.ranges.b, (sum_some g.met.C.Counted.lawful g.met.C.Counted.linked c.bytes-bytes.result.now (text_from_test _ c.bytes-bytes.ensures.sound) c.args.a c.args.b c.min-to.result c.count.result c.ahead_at.result _ c.min-to.ensures (omega arith) c.count.ensures c.ahead_at.ensures refl).few)

-- both ends, once the two places ahead are known
summed : (g : given.Over) (c : goal.After-ahead_at-2 g) → Summing g.met.C.Counted.lawful g.met.C.Counted.linked c.bytes-bytes.result.now (text_from_test _ c.bytes-bytes.ensures.sound) c.args.a c.args.b c.min-to.result c.count.result c.ahead_at.result c.ahead_at-2.result
summed g c = sum_some _ _ _ _ _ _ _ _ _ _ c.min-to.ensures (omega arith) c.count.ensures c.ahead_at.ensures c.ahead_at-2.ensures

pub overflow_sub-result : goal.overflow_sub-result
overflow_sub-result g c = (summed g c).covers

pub returns : goal.returns
returns g c = let e = (summed g c).is in cc
