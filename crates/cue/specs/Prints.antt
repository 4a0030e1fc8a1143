-- What the program prints of a text and a cue file. Assumes nothing.
use Rattle.std.specs.Prelude.{◌≡◌, ℕ, ◌+◌, cond, List, [], ◌++◌, length, Some, None, Ok, Err, codes, decimal, Option, nat_lt}
use Rattle.faults.specs.Numbers.{cue_refusal}
use Rattle.faults.specs.Printed.{printed}
use Rattle.faults.specs.Layers.{CheckFault}
use Rattle.faults.specs.declared.cue.Cause.TheVariants.{Check, TooLarge}
use Rattle.faults.specs.Layers.{CueFault as Fault}
use Rattle.utf8.specs.FirstFault.{first_fault}
use Rattle.cue.specs.declared.record.Cue.{Cue}
use Rattle.cue.specs.declared.record.Record.{Record}
use Rattle.cue.specs.Kinds.{number_of}
use Rattle.cue.specs.Places.{place_of}
use Rattle.cue.specs.Records.{kind_of, record_at}

-- the line of the record with number n
abbrev pub line_of : ℕ → Cue → ℕ → List ℕ
line_of n cue place = decimal n ++ (codes " " ++ (decimal (number_of (kind_of cue)) ++ (codes " " ++ (decimal place ++ codes "\n"))))

-- the line of a refusal
abbrev pub refused_line : Fault → List ℕ
refused_line f = printed (cue_refusal f.cause) f.place ++ codes "\n"

-- a file above its limit
abbrev pub too_large : ℕ → Fault
too_large limit = record { place = limit; cause = TooLarge }

abbrev pub larger : ℕ → List ℕ → Option Fault
larger limit bs = cond (nat_lt limit (length bs)) (Some (too_large limit)) None

-- the fault of a text that is none
abbrev pub no_text : Option CheckFault → Option Fault
no_text None = None
no_text (Some f) = Some (record { place = f.place; cause = Check f })

-- the first that there is
abbrev pub or_else : Option Fault → Option Fault → Option Fault
or_else None p = p
or_else (Some f) p = Some f

-- what is refused before any record: the text's size, the text, the cue file's size, in this order
abbrev pub not_admitted : List ℕ → List ℕ → Option Fault
not_admitted text cues = or_else (larger 16384 text) (or_else (no_text (first_fault text)) (larger 4096 cues))

-- after n records, from place p on, the cues print out: nothing at the file's end; the line of a record, and then what
-- the next ones print; or the line of the refusal, which ends it
pub data Plays (text cues : List ℕ) : ℕ → ℕ → List ℕ → Type 0 where
  ends : {n p : ℕ} {out : List ℕ} → record_at cues p ≡ Ok None → out ≡ [] → Plays text cues n p out
  answers : {n p : ℕ} {out : List ℕ} (r : Record) (rest : List ℕ) → record_at cues p ≡ Ok (Some r) → Plays text cues (n + 1) r.next rest → out ≡ line_of (n + 1) r.cue (place_of text r.cue) ++ rest → Plays text cues n p out
  refuses : {n p : ℕ} {out : List ℕ} (f : Fault) → record_at cues p ≡ Err f → out ≡ refused_line f → Plays text cues n p out

-- the two files print out: the line of a refusal where they are not admitted, else what the cues print
pub data Prints (text cues out : List ℕ) : Type 0 where
  refused : (f : Fault) → not_admitted text cues ≡ Some f → out ≡ refused_line f → Prints text cues out
  plays : not_admitted text cues ≡ None → Plays text cues 0 0 out → Prints text cues out

-- the two files print out, and nothing else
pub record OnlyPrints (text cues out : List ℕ) : Type 0 where
  pub is : Prints text cues out
  pub only : (other : List ℕ) → Prints text cues other → other ≡ out
