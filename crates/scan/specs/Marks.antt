-- Which bytes of a text count, where that goes by the byte and the two before it. Assumes nothing.
use Rattle.std.specs.Prelude.{ℕ, Bool, cond, List, [], ◌∷◌}
use Rattle.std.specs.Simd.Lanes.{sum_l, chunk}

-- a rule: whether a byte counts, by the second byte before it, the one before it, and itself
abbrev pub Rule : Type 0
Rule = ℕ → ℕ → ℕ → Bool

-- three rows joined lane by lane, up to the end of the shortest
abbrev pub zip3 : (ℕ → ℕ → ℕ → ℕ) → List ℕ → List ℕ → List ℕ → List ℕ
zip3 f [] ys zs = []
zip3 f (x ∷ xs) [] zs = []
zip3 f (x ∷ xs) (y ∷ ys) [] = []
zip3 f (x ∷ xs) (y ∷ ys) (z ∷ zs) = f x y z ∷ zip3 f xs ys zs

-- 1 for a byte that counts, 0 for any other
abbrev pub mark : Rule → ℕ → ℕ → ℕ → ℕ
mark hit far near byte = cond (hit far near byte) 1 0

-- the mark of every byte of a text; 0 stands for the bytes before the first
abbrev pub marks : Rule → List ℕ → List ℕ
marks hit text = zip3 (mark hit) (0 ∷ 0 ∷ text) (0 ∷ text) text

-- how many of n bytes from a place on count
abbrev pub counted : Rule → List ℕ → ℕ → ℕ → ℕ
counted hit text from n = sum_l (chunk from n (marks hit text))
