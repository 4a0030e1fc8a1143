-- What the parts of a transcript answer. Assumes nothing.
use Rattle.std.specs.Prelude.{◌≡◌, ℕ, List, ◌++◌, Ok, Err, Result}
use Rattle.cue.specs.declared.stop.Stop.{Stop}
use Rattle.cue.specs.declared.stop.Stop.TheVariants.{NoMemory, Refused}
use Rattle.cue.specs.Prints.{refused_line, Plays, Prints}

-- the lines of all records were added to `before`; or those up to one that is refused
abbrev pub Played : List ℕ → List ℕ → List ℕ → Result (Unit {0}) Stop → List ℕ → Type 0
Played text cues before (Ok _) after = (lines : List ℕ) × (after ≡ before ++ lines) × Plays text cues 0 0 lines
Played text cues before (Err (NoMemory e)) after = Unit {0}
Played text cues before (Err (Refused f)) after = (lines : List ℕ) × (after ≡ before ++ lines) × Plays text cues 0 0 (lines ++ refused_line f)

-- the whole of what is printed was added to `before`; or all but the line of a refusal, which ends it
abbrev pub Ran : List ℕ → List ℕ → List ℕ → Result (Unit {0}) Stop → List ℕ → Type 0
Ran text cues before (Ok _) after = (lines : List ℕ) × (after ≡ before ++ lines) × Prints text cues lines
Ran text cues before (Err (NoMemory e)) after = Unit {0}
Ran text cues before (Err (Refused f)) after = (lines : List ℕ) × (after ≡ before ++ lines) × Prints text cues (lines ++ refused_line f)
