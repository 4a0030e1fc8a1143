-- What a fault prints. Assumes nothing.
use Rattle.std.specs.Prelude.{ℕ, List, ◌++◌, codes, decimal}
use Rattle.faults.specs.declared.refusal.Refusal.{Refusal}

-- `refused`, the number, `at`, and the place
abbrev pub printed : Refusal → ℕ → List ℕ
printed r place = codes "refused " ++ (decimal r.number ++ (codes " at " ++ decimal place))
