-- How the count of a rule's bytes stands for summed weights. Assumes nothing.
use Rattle.std.specs.Prelude.{◌≡◌, ℕ, ◌+◌, ◌-◌, ◌<◌, ◌≤◌, Bool, cond, List, length}
use Rattle.scan.specs.Marks.{Rule, mark, counted}
use Rattle.utf8.specs.Grammar.{Text}
use Rattle.cells.specs.Cells.{index}
use Rattle.cells.specs.Near.{back}

-- 1 where place p lies inside a cell whose weight was counted before p, which goes by the bytes before and after p
abbrev pub ahead : (ℕ → ℕ → Bool) → List ℕ → ℕ → ℕ
ahead split t p = cond (split (back 1 t p) (back 0 t p)) 1 0

-- each cell weighs 1, or 0, and is counted once: at its end, or before that, and then every place between lies inside it
pub record Linked (hit : Rule) (weight : List ℕ → ℕ → ℕ) (split : ℕ → ℕ → Bool) : Type 0 where
  pub one : (t : List ℕ) (p : ℕ) → weight t p ≤ 1
  pub none : (t : List ℕ) → Text t → ahead split t 0 ≡ 0
  pub step : (t : List ℕ) (i : ℕ) → Text t → i < length t → weight t (i + 1) + ahead split t (i + 1) ≡ mark hit (back 2 t i) (back 1 t i) (back 0 t i) + ahead split t i

-- a walk towards the index k has come to a place, where n are counted, and before it less than k has ended
pub record Reached (hit : Rule) (weight : List ℕ → ℕ → ℕ) (t : List ℕ) (k place n : ℕ) : Type 0 where
  pub within : place ≤ length t
  pub right : n ≡ counted hit t 0 place
  pub early : 0 < place → index weight t (place - 1) < k
