use Rattle.std.proofs.Common.{arith}
use Rattle.counted.proofs.Seeking.{part, ended_fits, ended_is, walking_few, walking_more}
use Rattle.counted.proofs.seek.Way.walk.Goals as goal

pub overflow_sub-count : goal.overflow_sub-count
overflow_sub-count g c = ended_fits g.met.C.Counted.lawful g.met.C.Counted.linked c.args.self.sound c.args.self.place c.args.to c.loop-i.invariant c.loop-i-test.true c.splits.ensures

pub returns-then-count-splits-clause-stop : goal.returns-then-count-splits-clause-stop
returns-then-count-splits-clause-stop g c = λ _.
    let e = ended_is g.met.C.Counted.lawful g.met.C.Counted.linked c.args.self.sound c.args.self.place c.args.to c.loop-i.invariant c.loop-i-test.true c.splits.ensures in cc

pub overflow_add-count : goal.overflow_add-count
overflow_add-count g c =
    omega (
      arith,
      (part c.args.self.text.now c.args.self.place c.args.to c.loop-i.i c.loop-i-test.true).below,
      walking_few g.met.C.Counted.lawful g.met.C.Counted.linked c.args.self.sound c.args.self.place c.args.to c.loop-i.invariant c.loop-i-test.true c.splits.ensures c.single.ensures,
    )

pub loop-i-preserved : goal.loop-i-preserved
loop-i-preserved g c = walking_more g.met.C.Counted.lawful g.met.C.Counted.linked c.args.self.sound c.args.self.place c.args.to c.loop-i.invariant c.loop-i-test.true c.splits.ensures c.single.ensures c.if-count-splits.false
