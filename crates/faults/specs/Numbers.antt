-- The number and the layer of every cause; a cause that wraps the fault of a lower layer has that fault's.
-- Assumes nothing.
use Rattle.std.specs.Prelude.{ℕ}
use Rattle.faults.specs.declared.check.Cause as check
use Rattle.faults.specs.declared.check.Cause.TheVariants.{NoFirst, Ends, NoFollower}
use Rattle.faults.specs.declared.count.Cause as count
use Rattle.faults.specs.declared.count.Cause.TheVariants.{Check as CountCheck, Head}
use Rattle.faults.specs.declared.script.Cause as script
use Rattle.faults.specs.declared.script.Cause.TheVariants.{Check as ScriptCheck, Count as ScriptCount, PastEnd, NoCharStart, TooLong, NoRoom, NothingToUndo}
use Rattle.faults.specs.declared.cue.Cause as cue
use Rattle.faults.specs.declared.cue.Cause.TheVariants.{Check as CueCheck, Count as CueCount, NoKind, Cut, TooLarge}
use Rattle.faults.specs.declared.refusal.Layer.{Layer}
use Rattle.faults.specs.declared.refusal.Layer.TheVariants.{Check, Count, Script, Cue}
use Rattle.faults.specs.declared.refusal.Refusal.{Refusal}

abbrev refusal : ℕ → Layer → Refusal
refusal n l = record { number = n; layer = l }

abbrev pub check_refusal : check.Cause → Refusal
check_refusal NoFirst = refusal 1 Check
check_refusal Ends = refusal 2 Check
check_refusal NoFollower = refusal 3 Check

abbrev pub count_refusal : count.Cause → Refusal
count_refusal (CountCheck f) = check_refusal f.cause
count_refusal Head = refusal 4 Count

abbrev pub script_refusal : script.Cause → Refusal
script_refusal (ScriptCheck f) = check_refusal f.cause
script_refusal (ScriptCount f) = count_refusal f.cause
script_refusal PastEnd = refusal 5 Script
script_refusal NoCharStart = refusal 6 Script
script_refusal TooLong = refusal 7 Script
script_refusal NoRoom = refusal 8 Script
script_refusal NothingToUndo = refusal 9 Script

abbrev pub cue_refusal : cue.Cause → Refusal
cue_refusal (CueCheck f) = check_refusal f.cause
cue_refusal (CueCount f) = count_refusal f.cause
cue_refusal NoKind = refusal 10 Cue
cue_refusal Cut = refusal 11 Cue
cue_refusal TooLarge = refusal 12 Cue
