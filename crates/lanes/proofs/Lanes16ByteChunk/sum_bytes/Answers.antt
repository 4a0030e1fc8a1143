use Rattle.std.proofs.Common.{rules, ◌≡◌, ◌<◌, ◌^◌, ◌∙◌, sum, arith}
use Rattle.std.proofs.lemmas.Simd.{sum_bound}
use Rattle.lanes.proofs.Own.{row_in, sum_is}
use Rattle.lanes.proofs.Lanes16ByteChunk.sum_bytes.Goals as goal

pub sum-requires-clause-fits : goal.sum-requires-clause-fits
sum-requires-clause-fits c =
    let fits : sum c.args.self.bytes < 2 ^ 64 = omega (arith, sum_is c.args.self.bytes, sum_bound 31 c.args.self.bytes c.requires, (row_in c.args.self).long) in
    search (rules, c.iter.ensures.runs, c.map.ensures.runs)

pub returns : goal.returns
returns c = let all : c.sum.result ≡ sum c.args.self.bytes = search (rules, c.iter.ensures.runs, c.map.ensures.runs, c.sum.ensures.runs) in all ∙ sum_is c.args.self.bytes
