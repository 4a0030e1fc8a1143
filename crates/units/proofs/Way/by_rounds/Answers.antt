use Rattle.std.proofs.Common.{◌≡◌, ◌+◌, ◌-◌, ◌*◌, ◌∙◌, length, arith}
use Rattle.utf8.proofs.Means.{text_from_test}
use Rattle.units.proofs.Begins.{Rounds, begun_most, round_keeps}
use Rattle.units.proofs.Way.by_rounds.Given as given
use Rattle.units.proofs.Way.by_rounds.Goals as goal
use Rattle.units.proofs.Way.by_rounds.Goals.{After-units_in_rows}

pub overflow_add-count : goal.overflow_add-count
overflow_add-count g c = grind (arith, begun_most c.loop-first.way.text.now (c.loop-first.way.place + c.min-n.result * g.K.ByteChunk.SIZE))

-- what is left after a round
after : (g : given.Over) (c : After-units_in_rows g)
    → Rounds (c.loop-first.way.place + c.min-n.result * g.K.ByteChunk.SIZE) (c.min-rows.result - c.loop-first.first - c.min-n.result) g.K.ByteChunk.SIZE g.K.ByteChunk.MAX_ACC (length c.loop-first.way.text.now) (c.loop-first.way.count + c.units_in_rows.result) c.loop-first.way.k
after g c =
    let above = g.met.K.ByteChunk.above in
    round_keeps c.loop-first.way.text.now c.min-n.result (c.loop-first.way.count + c.units_in_rows.result) (text_from_test _ c.loop-first.way.sound) c.loop-first.invariant.2 (omega arith) (omega arith) above c.loop-first.way.begun.right (omega arith)

pub at-way-requires : goal.at-way-requires
at-way-requires g c =
    let r = after g (goal.at.at-way-requires g c).After-units_in_rows in
    rw c.SIZE-in-loop-first.ensures (record { within = omega (arith, r.room); right = omega arith; low = omega (arith, r.low) })

pub loop-first-preserved : goal.loop-first-preserved
loop-first-preserved g c =
    let r = after g (goal.at.loop-first-preserved g c).After-units_in_rows in
    let left : c.min-rows.result - (c.loop-first.first + c.MAX_ACC-first-step.result) ≡ c.min-rows.result - c.loop-first.first - c.min-n.result = omega arith in (
      c.at-way.ensures.text ∙ c.loop-first.invariant.0,
      c.at-way.ensures.k ∙ c.loop-first.invariant.1,
      record {
        room = rw (c.at-way.ensures.place, c.SIZE-in-loop-first.ensures, left, c.at-way.ensures.text) r.room;
        low = rw (c.at-way.ensures.count, left, c.at-way.ensures.k) r.low;
      },
    )
