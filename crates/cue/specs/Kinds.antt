-- The kinds of cues. Assumes nothing.
use Rattle.std.specs.Prelude.{◌≡◌, ℕ, ◌<◌, ◌⊎◌, MatchResult, Result}
use Rattle.faults.specs.declared.cue.Cause.{Cause}
use Rattle.faults.specs.declared.cue.Cause.TheVariants.{NoKind}
use Rattle.cue.specs.declared.kind.Kind.{Kind}
use Rattle.cue.specs.declared.kind.Kind.TheVariants.{Chars, Utf16, Lines, LinesCrlf, LinesLf, Column}

-- the byte with which a record of a kind begins
abbrev pub number_of : Kind → ℕ
number_of Chars = 1
number_of Utf16 = 2
number_of Lines = 3
number_of LinesCrlf = 4
number_of LinesLf = 5
number_of Column = 6

-- how many bytes a record of a kind takes: that byte, then one number of four bytes, or two
abbrev pub size_of : Kind → ℕ
size_of Column = 9
size_of _ = 5

-- the result is the kind with this number, or the number is no kind's
abbrev pub Numbered : ℕ → Result Kind Cause → Type 0
Numbered n r = MatchResult r (λ kind. number_of kind ≡ n) (λ cause. (cause ≡ NoKind) × ((n < 1) ⊎ (6 < n)))
