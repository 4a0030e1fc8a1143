-- Where a char may begin. Assumes nothing.
use Rattle.std.specs.Prelude.{ℕ, Bool, not, ◌&&◌, ◌||◌, List, length, ◌==◌, nat_le, nat_lt, slice_index}

-- a byte 80–BF
abbrev pub follower : ℕ → Bool
follower b = nat_le 0x80 b && nat_le b 0xBF

-- place 0, the text's length, or a place whose byte is not 80–BF
abbrev pub char_start : List ℕ → ℕ → Bool
char_start t p = p == 0 || (p == length t || (nat_lt p (length t) && not (follower (slice_index t p))))
