use Rattle.scan.proofs.Marking.{Walked}
use Rattle.scan.proofs.singly.Given as goal

abbrev pub invariant-loop-byte : goal.invariant-loop-byte
invariant-loop-byte g l = Walked g.S.Scan.hit l.text l.from l.byte-index l.count l.far l.near
