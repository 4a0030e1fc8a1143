use Rattle.std.proofs.Common.{◌≡◌, ℕ, ◌+◌, ◌-◌, ◌<◌, ◌∷◌, get_or, drop, refl, ap, ◌∙◌, arith, length-drop, length-take}
use Rattle.std.proofs.lemmas.Simd.{get_or-chunk}
use Rattle.scan.specs.Marks.{counted}
use Rattle.scan.proofs.Marking.{walked_more, walked_few}
use Rattle.scan.proofs.singly.Goals as goal

pub loop-byte-init : goal.loop-byte-init
loop-byte-init g c =
    let z : c.args.from ≡ c.args.from + 0 = omega arith in
    record {
      right = refl;
      second = c.byte_before-far.ensures ∙ ap (λ (k : ℕ). get_or (0 ∷ 0 ∷ c.args.text.now) k 0) z;
      first = c.byte_before-near.ensures ∙ ap (λ (k : ℕ). get_or (0 ∷ c.args.text.now) k 0) z;
    }

-- the byte of a turn, as one of the whole text
pub loop-byte-preserved : goal.loop-byte-preserved
loop-byte-preserved g c =
    let long : c.loop-byte.byte-index < c.args.to - c.args.from = omega (arith, length-take (c.args.to - c.args.from) (drop c.args.from c.args.text.now)) in
    walked_more c.loop-byte.invariant _ (get_or-chunk c.args.from (c.args.to - c.args.from) c.args.text.now c.loop-byte.byte-index 0 long) c.single.result c.single.ensures (omega arith)

pub overflow_add-count : goal.overflow_add-count
overflow_add-count g c =
    let long : c.loop-byte.byte-index < c.args.to - c.args.from = omega (arith, length-take (c.args.to - c.args.from) (drop c.args.from c.args.text.now)) in
    let few = walked_few c.loop-byte.invariant _ (get_or-chunk c.args.from (c.args.to - c.args.from) c.args.text.now c.loop-byte.byte-index 0 long) c.single.result c.single.ensures (omega arith) in
    omega (arith, c.ranges.to)

pub returns : goal.returns
returns g c =
    let all : c.loop-byte.byte-index ≡ c.args.to - c.args.from =
    omega (arith, length-take (c.args.to - c.args.from) (drop c.args.from c.args.text.now), length-drop c.args.from c.args.text.now) in
    c.loop-byte.invariant.right ∙ ap (counted g.S.Scan.hit c.args.text.now c.args.from) all
