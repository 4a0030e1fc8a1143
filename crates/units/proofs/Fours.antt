-- The bytes after the first of four. Assumes nothing.
use Rattle.std.proofs.Common.{◌≡◌, ℕ, zero, suc, ◌+◌, ◌-◌, ◌<◌, ◌≤◌, true, List, [], ◌∷◌, ◌++◌, length, get_or, sym, refl, ap, ◌∙◌, subst, ⊎_elim, arith}
use Rattle.std.proofs.lemmas.List.{get_or_append_left, get_or-append_right, get_or-append-add}
use Rattle.std.proofs.lemmas.Bool.{cases_lt, both_ways}
use Rattle.utf8.specs.Grammar.{Text}
use Rattle.utf8.specs.Grammar.Text.{none, more}
use Rattle.utf8.specs.Places.{follower}
use Rattle.utf8.proofs.Cuts.{shape, Followers, follower_at, wide}
use Rattle.measures.specs.Charring.{high_lead}

-- the three bytes after a byte F0 or above are followers
abbrev Tails : List ℕ → Type 0
Tails t = (i : ℕ) → 0xF0 ≤ get_or t i 0 → (j : ℕ) → j < 3 → follower (get_or t (i + suc j) 0) ≡ true

tails_first : (a : ℕ) (rest bs : List ℕ) → length (a ∷ rest) ≡ wide a → Followers rest → Tails bs → Tails ((a ∷ rest) ++ bs)
tails_first a rest bs long f ih zero h j l =
    let n : 0 + suc j ≡ suc j = omega arith in
    let inside : j < length rest = omega (arith, (high_lead a h).1) in
    ap (λ (k : ℕ). follower (get_or ((a ∷ rest) ++ bs) k 0)) n ∙ ap follower (get_or_append_left rest bs 0 j inside) ∙ follower_at rest j f inside
tails_first a rest bs long f ih (suc i) h j l =
    ⊎_elim
    (λ (lt : i < length rest).
    let is : get_or (rest ++ bs) i 0 ≡ get_or rest i 0 = get_or_append_left rest bs 0 i lt in
    absurd (both_ways (follower (get_or (rest ++ bs) i 0)) (high_lead (get_or (rest ++ bs) i 0) h).0 (ap follower is ∙ follower_at rest i f lt)))
    (λ (ge : length rest ≤ i).
    let at : get_or (rest ++ bs) i 0 ≡ get_or bs (i - length rest) 0 = get_or-append_right rest bs (length rest) i 0 refl ge in
    let n : suc i + suc j ≡ suc (length rest + (i - length rest + suc j)) = omega arith in
    ap (λ (k : ℕ). follower (get_or ((a ∷ rest) ++ bs) k 0)) n ∙ ap follower (get_or-append-add rest bs (i - length rest + suc j) 0) ∙ ih (i - length rest) (omega arith) j l)
    (cases_lt i (length rest))

pub four_tails : {t : List ℕ} → Text t → Tails t
four_tails none = λ i h j l. absurd (by i h)
  where
    by : (i : ℕ) → 0xF0 ≤ get_or {A = ℕ} [] i 0 → ⊥
    by zero h = omega arith
    by (suc i) h = omega arith
four_tails (more {cs = cs} {bs = bs} g t) =
    let s = shape g in
    subst (λ (xs : List ℕ). Tails (xs ++ bs)) (sym s.is) (tails_first s.first s.rest bs (ap length (sym s.is) ∙ s.long) s.tail (four_tails t))
