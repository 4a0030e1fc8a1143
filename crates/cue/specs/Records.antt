-- The records of a cue file. Assumes nothing.
use Rattle.std.specs.Prelude.{ℕ, ◌+◌, ◌*◌, cond, List, length, Some, None, Ok, Err, Option, Result, ◌==◌, nat_le, slice_index}
use Rattle.faults.specs.declared.cue.Cause.TheVariants.{NoKind, Cut}
use Rattle.faults.specs.Layers.{CueFault as Fault}
use Rattle.cue.specs.declared.kind.Kind.{Kind}
use Rattle.cue.specs.declared.kind.Kind.TheVariants as kind
use Rattle.cue.specs.declared.record.Cue.{Cue}
use Rattle.cue.specs.declared.record.Cue.TheVariants.{Chars, Utf16, Lines, LinesCrlf, LinesLf, Column}
use Rattle.cue.specs.declared.record.Record.{Record}

abbrev pub kind_of : Cue → Kind
kind_of (Chars k) = kind.Chars
kind_of (Utf16 k) = kind.Utf16
kind_of (Lines k) = kind.Lines
kind_of (LinesCrlf k) = kind.LinesCrlf
kind_of (LinesLf k) = kind.LinesLf
kind_of (Column l c) = kind.Column

-- a number of four bytes, the lowest first
abbrev pub number_at : List ℕ → ℕ → ℕ
number_at bs p = slice_index bs p + slice_index bs (p + 1) * 256 + slice_index bs (p + 2) * 65536 + slice_index bs (p + 3) * 16777216

-- a record that begins at place p and takes n bytes; or the file ends inside it
abbrev pub whole : List ℕ → ℕ → ℕ → Cue → Result (Option Record) Fault
whole bs p n cue = cond (nat_le (p + n) (length bs)) (Ok (Some (record { cue = cue; next = p + n }))) (Err (record { place = p; cause = Cut }))

-- the record of kind k that begins at place p
abbrev pub of_kind : List ℕ → ℕ → ℕ → Result (Option Record) Fault
of_kind bs p k =
    cond (k == 1) (whole bs p 5 (Chars (number_at bs (p + 1))))
    (cond (k == 2) (whole bs p 5 (Utf16 (number_at bs (p + 1))))
    (cond (k == 3) (whole bs p 5 (Lines (number_at bs (p + 1))))
    (cond (k == 4) (whole bs p 5 (LinesCrlf (number_at bs (p + 1))))
    (cond (k == 5) (whole bs p 5 (LinesLf (number_at bs (p + 1))))
    (cond (k == 6) (whole bs p 9 (Column (number_at bs (p + 1)) (number_at bs (p + 5))))
    (Err (record { place = p; cause = NoKind })))))))

-- the record that begins at place p, none at the file's end
abbrev pub record_at : List ℕ → ℕ → Result (Option Record) Fault
record_at bs p = cond (nat_le (length bs) p) (Ok None) (of_kind bs p (slice_index bs p))
