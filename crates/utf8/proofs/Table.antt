-- A rule of the numbers below a bound, proved at all of them by one test that antt computes.
-- Assumes nothing.
use Rattle.std.proofs.Common.{◌≡◌, ℕ, zero, suc, ◌<◌, Bool, true, false, T, subst, ⊎_elim, not-suc-le-zero, arith}
use Rattle.std.proofs.lemmas.Bool.{cases_lt}

abbrev pub both : Bool → Bool → Bool
both true b = b
both false b = false

pub both_left : (a b : Bool) → T (both a b) → T a
both_left true b t = tt
both_left false b t = t

pub both_right : (a b : Bool) → T (both a b) → T b
both_right true b t = t
both_right false b t = absurd t

-- the test f passes at each number below n
abbrev pub below : (ℕ → Bool) → ℕ → Bool
below f zero = true
below f (suc n) = both (f n) (below f n)

pub at_below : (f : ℕ → Bool) (n : ℕ) → T (below f n) → (k : ℕ) → k < n → T (f k)
at_below f zero t k h = absurd (not-suc-le-zero h)
at_below f (suc n) t k h =
    ⊎_elim
    (λ (lt : k < n). at_below f n (both_right (f n) (below f n) t) k lt)
    (λ ge. let e : n ≡ k = omega arith in subst (λ (m : ℕ). T (f m)) e (both_left (f n) (below f n) t))
    (cases_lt k n)
