use Rattle.std.proofs.Common.{rules, arith}
use Rattle.lanes.proofs.Calls.{callable, gives}
use Rattle.lanes.proofs.Lanes16.from_fn.Goals as goal

pub from_fn-bytes-requires : goal.from_fn-bytes-requires
from_fn-bytes-requires g c = (omega arith, callable _ _ (λ q i y t h. search rules) 16 (λ i lt. let may = c.requires i lt in search rules))

pub returns : goal.returns
returns g c i lt = let h = gives _ _ (λ q i y t h. search rules) 16 _ c.from_fn-bytes.ensures.items i lt in search rules
