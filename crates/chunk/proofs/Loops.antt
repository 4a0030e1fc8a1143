-- Loops over the lanes of a row: one that makes a row, one that adds up, one that looks for what is not 0.
-- Assumes nothing.
use Rattle.std.proofs.Common.{◌≡◌, ℕ, ◌+◌, ◌<◌, ◌≤◌, Bool, true, false, ◌&&◌, eqb, List, [], ◌∷◌, ◌++◌, length, get_or, take, set, sym, refl, ap, ◌∙◌, arith, length-set, take_all}
use lib.Lanes.{sum_l}
use Rattle.std.proofs.lemmas.List.{take_more_set, take_more}
use Rattle.chunk.specs.Rows.{Row, is_row, all_zero}
use Rattle.chunk.proofs.Rows.{is_row_lem}

-- the first i of the n lanes of `out` are those of the row that is to be made
pub record Fills (n : ℕ) (row : List ℕ) (i : ℕ) (out : List ℕ) : Type 0 where
  pub whole : Row n row
  pub long : length out ≡ n
  pub same : take i out ≡ take i row

pub fills_none : {n : ℕ} {row out : List ℕ} → Row n row → length out ≡ n → Fills n row 0 out
fills_none r e = record { whole = r; long = e; same = refl }

pub fills_more : {n i y : ℕ} {row out : List ℕ} → Fills n row i out → i < n → get_or row i 0 ≡ y → Fills n row (i + 1) (set out i y)
fills_more {n = n} {i = i} {y = y} {row = row} {out = out} f h e =
    let g : length out ≡ n = f.long in
    let l : length row ≡ n = f.whole.long in
    let h1 : i < length out = omega arith in
    let h2 : i < length row = omega arith in
    record {
      whole = f.whole;
      long = length-set out i y ∙ f.long;
      same = take_more_set out i y h1 ∙ ap (λ t. t ++ (y ∷ [])) f.same ∙ ap (λ t. take i row ++ (t ∷ [])) (sym e) ∙ sym (take_more row i 0 h2);
    }

pub fills_all : {n i : ℕ} {row out : List ℕ} → Fills n row i out → n ≤ i → out ≡ row
fills_all {n = n} {i = i} {row = row} {out = out} f h =
    let g : length out ≡ n = f.long in
    let l : length row ≡ n = f.whole.long in
    sym (take_all i out (omega arith)) ∙ f.same ∙ take_all i row (omega arith)

pub fills_row : {n i : ℕ} {row out : List ℕ} → Fills n row i out → n ≤ i → is_row n out ≡ true
fills_row {n = n} f h = ap (is_row n) (fills_all f h) ∙ is_row_lem f.whole

-- the sum, and whether all is 0, of the lanes that a loop has passed
sum_push : (xs : List ℕ) (y : ℕ) → sum_l (xs ++ (y ∷ [])) ≡ sum_l xs + y
sum_push [] y = omega arith
sum_push (x ∷ xs) y = let r = sum_push xs y in omega arith

pub sum_more : {n i : ℕ} {row : List ℕ} → Row n row → i < n → sum_l (take (i + 1) row) ≡ sum_l (take i row) + get_or row i 0
sum_more {n = n} {i = i} {row = row} r h =
    let l : length row ≡ n = r.long in
    ap sum_l (take_more row i 0 (omega arith)) ∙ sum_push (take i row) (get_or row i 0)

zero_push : (xs : List ℕ) (y : ℕ) → all_zero (xs ++ (y ∷ [])) ≡ (all_zero xs && eqb y 0)
zero_push [] y = and_true (eqb y 0)
  where
    and_true : (b : Bool) → (b && true) ≡ b
    and_true true = refl
    and_true false = refl
zero_push (x ∷ xs) y = ap (λ t. eqb x 0 && t) (zero_push xs y) ∙ and_assoc (eqb x 0) (all_zero xs) (eqb y 0)
  where
    and_assoc : (a b c : Bool) → (a && (b && c)) ≡ ((a && b) && c)
    and_assoc true b c = refl
    and_assoc false b c = refl

pub zero_more : {n i : ℕ} {row : List ℕ} → Row n row → i < n → all_zero (take (i + 1) row) ≡ (all_zero (take i row) && eqb (get_or row i 0) 0)
zero_more {n = n} {i = i} {row = row} r h =
    let l : length row ≡ n = r.long in
    ap all_zero (take_more row i 0 (omega arith)) ∙ zero_push (take i row) (get_or row i 0)

-- after the last lane, what was taken is the row
pub take_row : {n i : ℕ} {row : List ℕ} → Row n row → n ≤ i → take i row ≡ row
take_row {n = n} {i = i} {row = row} r h = let l : length row ≡ n = r.long in take_all i row (omega arith)
