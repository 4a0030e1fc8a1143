use Rattle.std.proofs.Common.{◌≡◌, ◌+◌, arith}
use Rattle.units.proofs.Begins.{Here, begun_here, begun_most}
use Rattle.units.proofs.Way.by_bytes.Goals as goal
use Rattle.units.proofs.Way.by_bytes.Goals.{After-units-more}

-- what a byte adds
here : (c : After-units-more) → Here c.args.self.text.now c.args.self.place c.args.to c.loop-i.i (c.loop-i.count + c.units-more.result)
here c = begun_here _ _ _ _ _ _ c.loop-i-test.true c.loop-i.invariant.right c.units-more.ensures

pub overflow_add-count : goal.overflow_add-count
overflow_add-count c =
    let h = here (goal.at.overflow_add-count c).After-units-more in
    grind (arith, h.right, h.inside, begun_most c.args.self.text.now (c.args.self.place + (c.loop-i.i + 1)))

pub returns-then-count-more-clause-stop : goal.returns-then-count-more-clause-stop
returns-then-count-more-clause-stop c =
    let h = here (goal.at.returns-then-count-more-clause-stop c).After-units-more in
    let up : c.at.result.place + 1 ≡ c.args.self.place + (c.loop-i.i + 1) = omega (arith, c.at.ensures.place) in
    λ _. rw (c.at.ensures.text, c.at.ensures.k, up) (omega (arith, h.right, c.if-count-more.true))

pub loop-i-preserved : goal.loop-i-preserved
loop-i-preserved c =
    let h = here (goal.at.loop-i-preserved c).After-units-more in
    record { within = omega (arith, h.inside); right = h.right; low = c.if-count-more.false }
