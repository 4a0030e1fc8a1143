-- What `all` over the places below n tells, where it answers true. Assumes nothing.
use Rattle.std.proofs.Common.{◌≡◌, ℕ, ◌<◌, Bool, true, length, subst, ◌∙◌, zero-add, arith}
use Rattle.std.specs.Bool.{MatchBool}
use Rattle.std.specs.List.{range_with_len, AllWithin}
use Rattle.std.proofs.lemmas.List.FromFn.{length-range_with_len, get_or-range_with_len}

pub each_below : (P : ℕ → Type 0) (n : ℕ) (r : Bool) (No : Type 0) → MatchBool r (AllWithin P (range_with_len 0 n) 0 (length (range_with_len 0 n))) No → r ≡ true → (i : ℕ) → i < n → P i
each_below P n r No h e i lt =
    let all : AllWithin P (range_with_len 0 n) 0 (length (range_with_len 0 n)) = subst (λ b. MatchBool b (AllWithin P (range_with_len 0 n) 0 (length (range_with_len 0 n))) No) e h in
    subst P (get_or-range_with_len 0 n i 0 lt ∙ zero-add i) (all i 0 (omega arith) (omega (arith, length-range_with_len 0 n)))
