-- The faults of each layer: a place, and a cause of that layer. Assumes nothing.
use Rattle.faults.specs.declared.check.Cause as check
use Rattle.faults.specs.declared.count.Cause as count
use Rattle.faults.specs.declared.script.Cause as script
use Rattle.faults.specs.declared.cue.Cause as cue
use Rattle.faults.specs.declared.fault.Fault.{Fault}

abbrev pub CheckFault : Type 0
CheckFault = Fault check.Cause

abbrev pub CountFault : Type 0
CountFault = Fault count.Cause

abbrev pub ScriptFault : Type 0
ScriptFault = Fault script.Cause

abbrev pub CueFault : Type 0
CueFault = Fault cue.Cause
