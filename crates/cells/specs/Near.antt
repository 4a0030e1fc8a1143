-- The bytes near a place. Assumes nothing.
use Rattle.std.specs.Prelude.{ℕ, zero, suc, ◌+◌, ◌-◌, List, ◌∷◌, length, take, drop, slice_index}

-- the four bytes before place p and the one after, fewer at the start
abbrev pub around : List ℕ → ℕ → List ℕ
around t p = drop (p - 4) (take (p + 1) t)

-- the last four bytes, fewer in a shorter text
abbrev pub last_four : List ℕ → List ℕ
last_four t = drop (length t - 4) t

-- i zeros before a text
abbrev padded : ℕ → List ℕ → List ℕ
padded zero t = t
padded (suc i) t = 0 ∷ padded i t

-- the byte that stands i places before place p, with i = 0 the one after p; 0 where there is none
abbrev pub back : ℕ → List ℕ → ℕ → ℕ
back i t p = slice_index (padded i t) p
