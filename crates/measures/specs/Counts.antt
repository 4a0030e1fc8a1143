-- What a count by bytes finds of each measure: by the second byte before a byte, the one before it, and itself.
-- And which places lie inside a cell that is counted by then, by the bytes before and after the place. Assumes nothing.
use Rattle.std.specs.Prelude.{ℕ, Bool, false, cond, not, ◌&&◌, ◌||◌, ◌==◌, nat_le, nat_lt, bit_and}
use Rattle.scan.specs.Marks.{Rule}
use Rattle.utf8.specs.Places.{follower}

-- the first byte of a char
abbrev pub leads : Rule
leads far near byte = not (follower byte)

-- the first byte of a char of four bytes
abbrev pub fours : Rule
fours far near byte = nat_le 0xF0 byte

-- LF
abbrev pub lf_hit : Rule
lf_hit far near byte = byte == 0x0A

-- CR, and LF but after CR
abbrev pub crlf_hit : Rule
crlf_hit far near byte = byte == 0x0D || (byte == 0x0A && not (near == 0x0D))

-- LF, VT, FF and CR, but LF after CR; and the last byte of NEL, LS and PS
abbrev pub unicode_hit : Rule
unicode_hit far near byte =
    ((nat_lt 0x09 byte && nat_lt byte 0x0E) && not (near == 0x0D && byte == 0x0A))
    || ((near == 0xC2 && byte == 0x85) || ((far == 0xE2 && near == 0x80) && (byte == 0xA8 || byte == 0xA9)))

-- inside a char
abbrev pub in_char : ℕ → ℕ → Bool
in_char before after = follower after

-- between CR and LF
abbrev pub in_break : ℕ → ℕ → Bool
in_break before after = before == 0x0D && after == 0x0A

-- a break of one byte has no inside
abbrev pub nowhere : ℕ → ℕ → Bool
nowhere before after = false

-- 1 at a byte that has these bits under a mask, 0 at any other
abbrev pub masked : ℕ → ℕ → ℕ → ℕ
masked mask bits byte = cond (bit_and byte mask == bits) 1 0

-- 1 at the byte b after the byte a, 0 at any other
abbrev pub pair : ℕ → ℕ → ℕ → ℕ → ℕ
pair a b before byte = cond (before == a && byte == b) 1 0

-- the last byte of LS and PS
abbrev pub separator : Rule
separator far near byte = (far == 0xE2 && near == 0x80) && (byte == 0xA8 || byte == 0xA9)
