use Rattle.std.proofs.Common.{◌≡◌, ℕ, ◌*◌, ◌/◌, ◌<◌, ◌≤◌, ap, ⊎_elim, mul-le-mul_right, div-mul-le_self, arith}
use Rattle.std.proofs.lemmas.Bool.{cases_lt}
use Rattle.counted.proofs.seek.Way.rows_at_once.Goals as goal

pub returns-clause-room : goal.returns-clause-room
returns-clause-room g c =
    let within = c.args.self.now.reached.within in
    let size = ap (λ (w : ℕ). c.max.result * w) c.SIZE.ensures in
    ⊎_elim
    (λ (l : c.min-2.result < c.args.least).
    let e : c.max.result ≡ c.args.least = omega arith in
    omega (arith, c.requires.room, ap (λ (n : ℕ). n * g.K.ByteChunk.SIZE) e))
    (λ (l : c.args.least ≤ c.min-2.result).
    let le : c.max.result ≤ c.min.result / c.SIZE.result = omega arith in
    omega (arith, within, size, mul-le-mul_right c.SIZE.result le, div-mul-le_self c.min.result c.SIZE.result))
    (cases_lt c.min-2.result c.args.least)
