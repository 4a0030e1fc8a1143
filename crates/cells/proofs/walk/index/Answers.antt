use Rattle.std.proofs.Common.{arith, rules}
use Rattle.cells.proofs.Walks.{none_yet, one_more, few, walked}
use Rattle.cells.proofs.walk.index.Goals as goal

pub loop-p-init : goal.loop-p-init
loop-p-init g c = none_yet _ _ _

pub overflow_add-sum : goal.overflow_add-sum
overflow_add-sum g c = let b = few c.loop-p.invariant c.weight_at-sum.ensures in omega (arith, c.ranges.text)

pub loop-p-preserved : goal.loop-p-preserved
loop-p-preserved g c = one_more c.loop-p.invariant c.weight_at-sum.ensures

pub returns : goal.returns
returns g c = walked c.loop-p.invariant c.args.place c.min-p-end.result (search rules) c.loop-p.auto.p-end c.loop-p-test.false
