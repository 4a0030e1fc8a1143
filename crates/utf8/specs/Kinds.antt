-- The kind of a byte, by the ranges of RFC 3629, section 4. Assumes nothing.
use Rattle.std.specs.Prelude.{ℕ, suc, Bool, true, false, cond, List, [], ◌∷◌, length, ◌==◌, nat_le}
use Rattle.utf8.specs.declared.kind.ByteKind.{ByteKind}
use Rattle.utf8.specs.declared.kind.ByteKind.TheVariants.{One, TailLow, TailMid, TailHigh, Two, ThreeE0, Three, ThreeEd, FourF0, Four, FourF4, Never}

abbrev pub kind_of : ℕ → ByteKind
kind_of b =
    cond (nat_le b 0x7F) One
    (cond (nat_le b 0x8F) TailLow
    (cond (nat_le b 0x9F) TailMid
    (cond (nat_le b 0xBF) TailHigh
    (cond (nat_le b 0xC1) Never
    (cond (nat_le b 0xDF) Two
    (cond (nat_le b 0xE0) ThreeE0
    (cond (nat_le b 0xEC) Three
    (cond (nat_le b 0xED) ThreeEd
    (cond (nat_le b 0xEF) Three
    (cond (nat_le b 0xF0) FourF0
    (cond (nat_le b 0xF3) Four
    (cond (nat_le b 0xF4) FourF4 Never))))))))))))

-- a number for each kind, to tell them apart
abbrev pub code : ByteKind → ℕ
code One = 0
code TailLow = 1
code TailMid = 2
code TailHigh = 3
code Two = 4
code ThreeE0 = 5
code Three = 6
code ThreeEd = 7
code FourF0 = 8
code Four = 9
code FourF4 = 10
code Never = 11

-- each entry, from place b on, is the kind of the byte b
abbrev pub sorts_from : ℕ → List ByteKind → Bool
sorts_from b [] = true
sorts_from b (k ∷ table) = cond (code k == code (kind_of b)) (sorts_from (suc b) table) false

-- the table has 256 entries, and the kind of each byte at its place
abbrev pub sorts : List ByteKind → Bool
sorts table = cond (length table == 256) (sorts_from 0 table) false
