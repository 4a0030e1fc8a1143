-- What a `Lanes16` holds of itself, and when its lanes are those of a row.
-- Assumes nothing.
use Rattle.std.proofs.Common.{◌≡◌, ℕ, zero, suc, arith, length, replicate, ◌<◌, ◌&&◌, eqb, List, [], ◌∷◌, sum, fold, ◌+◌, add-zero, zero-add, add_assoc, get_or, sym, refl, ap, ◌∙◌, subst}
use lib.Pointwise.{pointwise}
use lib.Lanes.{sum_l}
use Rattle.std.proofs.lemmas.List.{ext_get_or}
use Rattle.chunk.specs.Rows.{Row, all_zero}
use Rattle.chunk.proofs.Rows.{row_of}
use Rattle.lanes.specs.declared.Lanes16.{Lanes16}

pub row_in : (x : Lanes16) → Row 16 x.bytes
row_in x = row_of x.row

pub lanes_are : (x : Lanes16) {row : List ℕ} → Row 16 row → ((i : ℕ) → i < 16 → get_or x.bytes i 0 ≡ get_or row i 0) → x.bytes ≡ row
lanes_are x {row = row} r same = ext_get_or 0 x.bytes row ((row_in x).long ∙ sym r.long) (λ i h. same i (subst (λ n. i < n) (row_in x).long h))

pub none_is : {n : ℕ} (row : List ℕ) → length row ≡ n → pointwise eqb row (replicate n 0) ≡ all_zero row
none_is {n = zero} [] e = refl
none_is {n = zero} (x ∷ row) e = absurd (omega arith)
none_is {n = suc n} [] e = absurd (omega arith)
none_is {n = suc n} (x ∷ row) e = ap (λ t. eqb x 0 && t) (none_is {n = n} row (omega arith))

pub sum_is : (xs : List ℕ) → sum xs ≡ sum_l xs
sum_is xs = summed 0 xs ∙ zero-add (sum_l xs)
  where
    summed : (a : ℕ) (xs : List ℕ) → fold (λ s x. s + x) a xs ≡ a + sum_l xs
    summed a [] = sym (add-zero a)
    summed a (x ∷ xs) = summed (a + x) xs ∙ add_assoc a x (sum_l xs)
