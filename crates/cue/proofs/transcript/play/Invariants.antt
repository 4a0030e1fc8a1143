use Rattle.std.proofs.Common.{◌-◌, length, string_bytes}
use Rattle.cue.proofs.Playing.{Sofar}
use Rattle.cue.proofs.transcript.play.Given as goal

abbrev pub invariant-loop-record : goal.invariant-loop-record
invariant-loop-record l = Sofar l.text.bytes.now l.cues (string_bytes l.initial.out) l.number l.at (string_bytes l.out)

abbrev pub decreases-loop-record : goal.decreases-loop-record
decreases-loop-record l = length l.cues - l.at
