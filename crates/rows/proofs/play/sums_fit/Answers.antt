use Rattle.std.proofs.Common.{rules, tests, ◌+◌, ◌≤◌, ◌<◌, get_or, arith}
use Rattle.std.proofs.lemmas.Iterator.{cases_from_all, YieldsList-from_range}
use Rattle.chunk.proofs.Rows.{Each2-from_at}
use Rattle.rows.proofs.Places.{each_below}
use Rattle.rows.proofs.play.sums_fit.Goals as goal

pub returns : goal.returns
returns g c e =
    let lanes = g.K.ByteChunk.lanes in
    let all =
    cases_from_all _ _ _ (λ i. get_or (lanes c.args.a) i 0 + get_or (lanes c.args.b) i 0 < 256) (λ i. 256 ≤ get_or (lanes c.args.a) i 0 + get_or (lanes c.args.b) i 0) c.all.ensures.ran
    (YieldsList-from_range 0 g.K.ByteChunk.SIZE g.K.ByteChunk.SIZE (search rules) (omega arith)) (λ x q k. search (rules, tests)) (λ x q k. search (rules, tests)) in
    Each2-from_at (λ x y. x + y < 256) _ _ (g.met.K.ByteChunk.row c.args.a) (each_below _ _ _ _ all e)
