use Rattle.std.proofs.Common.{◌≡◌, ℕ, ◌+◌, ◌-◌, ◌*◌, ◌≤◌, sym, ap, ◌∙◌, mul-le-mul_right, arith}
use Rattle.scan.specs.Marks.{counted}
use Rattle.scan.proofs.Marking.{counted_join, counted_most}
use Rattle.scan.proofs.count.Goals as goal

-- the place after a round, and what was counted up to it
pub loop-place-preserved : goal.loop-place-preserved
loop-place-preserved g c =
    let next : ℕ = c.loop-place.place + c.round_len-n.result * c.SIZE-size.result in
    let long : c.round_len-n.result * g.K.ByteChunk.SIZE ≡ c.loop-place.place + c.round_len-n.result * c.SIZE-size.result - c.loop-place.place =
    omega (arith, ap (λ (w : ℕ). c.round_len-n.result * w) c.SIZE-size.ensures) in (
      omega arith,
      omega (arith, c.round_len-n.ensures.fits),
      omega (
        arith,
        c.loop-place.invariant.2,
        c.round-count.ensures ∙ ap (counted g.S.Scan.hit c.args.text.now c.loop-place.place) long,
        counted_join g.S.Scan.hit c.args.text.now c.args.from c.loop-place.place (c.loop-place.place + c.round_len-n.result * c.SIZE-size.result) c.loop-place.invariant.0 (omega arith),
      ),
    )

pub overflow_add-count : goal.overflow_add-count
overflow_add-count g c =
    let long : c.round_len-n.result * g.K.ByteChunk.SIZE ≡ c.round_len-n.result * c.SIZE-size.result = ap (λ (w : ℕ). c.round_len-n.result * w) (sym c.SIZE-size.ensures) in
    omega (
      arith,
      c.loop-place.invariant.2,
      c.round-count.ensures,
      c.round_len-n.ensures.fits,
      c.ranges.to,
      counted_most g.S.Scan.hit c.args.text.now c.args.from (c.loop-place.place - c.args.from),
      counted_most g.S.Scan.hit c.args.text.now c.loop-place.place (c.round_len-n.result * g.K.ByteChunk.SIZE),
    )

pub loop-place-smaller : goal.loop-place-smaller
loop-place-smaller g c =
    let some : 1 * c.SIZE-size.result ≤ c.round_len-n.result * c.SIZE-size.result = mul-le-mul_right c.SIZE-size.result c.round_len-n.ensures.some in
    omega (arith, g.met.K.ByteChunk.wide, c.round_len-n.ensures.fits)

pub overflow_add-result : goal.overflow_add-result
overflow_add-result g c =
    omega (
      arith,
      c.loop-place.invariant.2,
      c.singly.ensures,
      c.ranges.to,
      counted_most g.S.Scan.hit c.args.text.now c.args.from (c.loop-place.place - c.args.from),
      counted_most g.S.Scan.hit c.args.text.now c.loop-place.place (c.args.to - c.loop-place.place),
    )

pub returns : goal.returns
returns g c =
    omega (arith, c.loop-place.invariant.2, c.singly.ensures, counted_join g.S.Scan.hit c.args.text.now c.args.from c.loop-place.place c.args.to c.loop-place.invariant.0 c.loop-place.invariant.1)
