use Rattle.std.proofs.Common.{rules}
use Rattle.utf8.proofs.Sorted.{sorted}
use Rattle.utf8.proofs.kind.ByteKindFromU8.from.Goals as goal

pub returns : goal.returns
returns c = sorted c.kinds.result.now c.kinds.ensures c.args.byte _ (search rules)
