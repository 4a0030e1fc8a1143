use Rattle.std.proofs.Common.{arith}
use Rattle.utf8.proofs.Means.{text_from_test}
use Rattle.cells.proofs.Starts.{weight_zero}
use Rattle.counted.proofs.index_of.Goals as goal

pub returns : goal.returns
returns g c = omega (arith, c.sum.ensures, weight_zero g.met.C.Counted.lawful c.args.text.bytes.now (text_from_test c.args.text.bytes.now c.args.text.sound))
