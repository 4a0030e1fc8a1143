use Rattle.std.proofs.Common.{◌+◌, refl, ◌∙◌, arith}
use Rattle.cells.proofs.Walks.{Sofar, nothing_yet, fits, lighter, heavier, renamed, over, above, within, by_relation}
use Rattle.cells.proofs.walk.start.Given.{Over}
use Rattle.cells.proofs.walk.start.Goals as goal
use Rattle.cells.proofs.walk.start.Goals.{Left-loop-p, then-weight-gt0, else-weight-gt0, else-loop-p-test, then-loop-p-test+else-sum-k+else-p-len}

pub loop-p-init : goal.loop-p-init
loop-p-init g c = nothing_yet _ _ _ _

pub overflow_add-sum : goal.overflow_add-sum
overflow_add-sum g c = let b = fits c.loop-p.invariant (omega arith) c.weight_at-weight.ensures in omega (arith, c.ranges.text)

pub returns-then-sum-k : goal.returns-then-sum-k
returns-then-sum-k g c =
    let e = over c.loop-p.invariant (omega arith) c.weight_at-weight.ensures c.if-sum-k.true in
    record { value = e; only = by_relation c.loop-p.invariant e }

pub loop-p-preserved : goal.loop-p-preserved
loop-p-preserved g c = elim c.if-weight-gt0.branch [
  | then-weight-gt0 w ↦ renamed (heavier c.loop-p.invariant (omega arith) c.weight_at-weight.ensures w.if-weight-gt0.true c.if-sum-k.false) refl refl w.best-is
  | else-weight-gt0 w ↦ renamed (lighter c.loop-p.invariant (omega arith) c.weight_at-weight.ensures w.if-weight-gt0.false) refl refl w.best-is
]

-- the loop ends past the last place, or at it
left : (g : Over) (c : Left-loop-p g) → Sofar g.met.M.Measure.lawful c.args.text.bytes.now c.args.text.sound c.args.k (c.len-len.result + 1) c.loop-p-test.sum c.loop-p-test.best
left g c = elim c.loop-p-test.branch [
  | else-loop-p-test w ↦ renamed c.loop-p.invariant (omega arith) w.sum-is w.best-is
  | then-loop-p-test+else-sum-k+else-p-len w ↦
      elim w.if-weight-gt0.branch [
        | then-weight-gt0 v ↦ renamed (heavier c.loop-p.invariant (omega arith) w.weight_at-weight.ensures v.if-weight-gt0.true w.if-sum-k.false) (omega arith) w.sum-is (w.best-is ∙ v.best-is)
        | else-weight-gt0 v ↦ renamed (lighter c.loop-p.invariant (omega arith) w.weight_at-weight.ensures v.if-weight-gt0.false) (omega arith) w.sum-is (w.best-is ∙ v.best-is)
      ]
]

pub returns-then-sum-k-2 : goal.returns-then-sum-k-2
returns-then-sum-k-2 g c =
    let e = c.len-len.ensures ∙ above (left g c.before) (omega arith) c.if-sum-k-2.true in
    record { value = e; only = by_relation c.loop-p.invariant e }

pub returns-else-sum-k-2 : goal.returns-else-sum-k-2
returns-else-sum-k-2 g c =
    let e = within (left g c.before) (omega arith) c.if-sum-k-2.false in
    record { value = e; only = by_relation c.loop-p.invariant e }
