-- UTF-16 units by where they begin: both units of a char at its first byte. Assumes nothing.
use Rattle.std.specs.Prelude.{◌≡◌, ℕ, ◌+◌, ◌≤◌, cond, not, List, length, nat_le}
use Rattle.scan.specs.Marks.{counted}
use Rattle.utf8.specs.Places.{follower}
use Rattle.measures.specs.Counts.{leads, fours}

-- what a byte begins: 1 as the first of a char, and 1 more as the first of four
abbrev pub unit : ℕ → ℕ
unit b = cond (not (follower b)) 1 0 + cond (nat_le 0xF0 b) 1 0

-- how many units begin in the first p bytes
abbrev pub begun : List ℕ → ℕ → ℕ
begun t p = counted leads t 0 p + counted fours t 0 p

-- a walk towards unit k has come to a place, before which n have begun, and no more than k
pub record Begun (t : List ℕ) (k place n : ℕ) : Type 0 where
  pub within : place ≤ length t
  pub right : n ≡ begun t place
  pub low : n ≤ k
