use Rattle.std.proofs.Common.{ℕ, ◌+◌, ◌*◌, ◌≤◌, ap, ◌∙◌, arith}
use lib.Lanes.{chunk}
use Rattle.scan.proofs.Adding.{added_fits, added_more}
use Rattle.scan.proofs.Rows.add.Goals as goal

pub add-requires : goal.add-requires
add-requires g c =
    let met = g.met.K.ByteChunk in
    let one : 1 ≤ g.K.ByteChunk.SIZE = omega (arith, met.wide) in
    let loaded = c.load-row.ensures ∙ ap (λ (w : ℕ). chunk (c.args.from + c.args.i * w) g.K.ByteChunk.SIZE c.args.text.now) c.SIZE.ensures in
    added_fits one c.requires.room c.requires.so loaded c.shift_across-near.ensures c.shift_across-far.ensures c.flags-found.ensures (omega (arith, met.within, c.requires.few))

pub returns : goal.returns
returns g c =
    let met = g.met.K.ByteChunk in
    let one : 1 ≤ g.K.ByteChunk.SIZE = omega (arith, met.wide) in
    let loaded = c.load-row.ensures ∙ ap (λ (w : ℕ). chunk (c.args.from + c.args.i * w) g.K.ByteChunk.SIZE c.args.text.now) c.SIZE.ensures in
    added_more one c.requires.room c.requires.so loaded c.shift_across-near.ensures c.shift_across-far.ensures c.flags-found.ensures
    (met.row c.args.self.sums) (met.row c.flags-found.result) c.add.ensures
