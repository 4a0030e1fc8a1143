-- The bytes before a place, read off what is near it. Assumes nothing.
use Rattle.std.proofs.Common.{◌≡◌, ℕ, zero, suc, ◌+◌, ◌-◌, ◌<◌, ◌≤◌, min, List, length, get_or, take, sym, refl, ap, ◌∙◌, ⊎_elim, arith}
use Rattle.std.proofs.lemmas.Bool.{cases_lt}
use Rattle.std.proofs.lemmas.List.{length-drop, length-take, get_or-drop, get_or-take, get_or_past}
use Rattle.cells.specs.Near.{around, last_four, back}

pub back_in : (i : ℕ) (t : List ℕ) (p : ℕ) → i ≤ p → back i t p ≡ get_or t (p - i) 0
back_in zero t p h = let e : p ≡ p - 0 = omega arith in ap (λ (k : ℕ). get_or t k 0) e
back_in (suc i) t zero h = absurd (omega arith)
back_in (suc i) t (suc p) h = let e : p - i ≡ suc p - suc i = omega arith in back_in i t p (omega arith) ∙ ap (λ (k : ℕ). get_or t k 0) e

pub back_out : (i : ℕ) (t : List ℕ) (p : ℕ) → p < i → back i t p ≡ 0
back_out zero t p h = absurd (omega arith)
back_out (suc i) t zero h = refl
back_out (suc i) t (suc p) h = back_out i t p (omega arith)

-- past the text there is no byte
pub back_off : (i : ℕ) (t : List ℕ) (p : ℕ) → i ≤ p → length t ≤ p - i → back i t p ≡ 0
back_off i t p h l = back_in i t p h ∙ get_or_past t (p - i) 0 l

-- a byte that is not 0 stands in the text
pub record Standing (i : ℕ) (t : List ℕ) (p : ℕ) : Type 0 where
  pub far : i ≤ p
  pub in_text : p - i < length t
  pub is : back i t p ≡ get_or t (p - i) 0

pub standing : (i : ℕ) (t : List ℕ) (p : ℕ) → 0 < back i t p → Standing i t p
standing i t p h =
    let le : i ≤ p = ⊎_elim (λ (out : p < i). absurd (omega (arith, back_out i t p out))) (λ (l : i ≤ p). l) (cases_lt p i) in
    let e : back i t p ≡ get_or t (p - i) 0 = back_in i t p le in
    record {
      far = le;
      in_text = ⊎_elim (λ (l : p - i < length t). l) (λ (past : length t ≤ p - i). absurd (omega (arith, get_or_past t (p - i) 0 past))) (cases_lt (p - i) (length t));
      is = e;
    }

-- the byte i before two places is the same, where it is so in both texts and both have it or neither
module _ (t u : List ℕ) (p q i : ℕ) (same : i ≤ p → i ≤ q → get_or t (p - i) 0 ≡ get_or u (q - i) 0) (order : (p < i → q < i) × (q < i → p < i)) where
  both_back : back i t p ≡ back i u q
  both_back =
      ⊎_elim
      (λ (out : p < i). back_out i t p out ∙ sym (back_out i u q (order.0 out)))
      (λ (le : i ≤ p).
      let k : i ≤ q = ⊎_elim (λ (out : q < i). absurd (omega (arith, order.1 out))) (λ (l : i ≤ q). l) (cases_lt q i) in
      back_in i t p le ∙ same le k ∙ sym (back_in i u q k))
      (cases_lt p i)

around_length : (t : List ℕ) (p : ℕ) → p < length t → length (around t p) ≡ min p 4 + 1
around_length t p h = omega (arith, length-drop (p - 4) (take (p + 1) t), length-take (p + 1) t)

around_at : (t : List ℕ) (p i : ℕ) → p < length t → i ≤ min p 4 → get_or (around t p) (min p 4 - i) 0 ≡ get_or t (p - i) 0
around_at t p i h l =
    let e : (p - 4) + (min p 4 - i) ≡ p - i = omega arith in
    get_or-drop (p - 4) (take (p + 1) t) (min p 4 - i) 0 ∙ get_or-take (p + 1) t ((p - 4) + (min p 4 - i)) 0 (omega arith) ∙ ap (λ (k : ℕ). get_or t k 0) e

-- where the same stands around two places, the same stands i bytes before them
pub near_back : (t u : List ℕ) (p q i : ℕ) → p < length t → q < length u → i ≤ 4 → around t p ≡ around u q → back i t p ≡ back i u q
near_back t u p q i h k l e =
    let m : min p 4 ≡ min q 4 = omega (arith, around_length t p h, around_length u q k, ap length e) in
    both_back t u p q i
    (λ a b. sym (around_at t p i h (omega arith)) ∙ ap (λ (xs : List ℕ). get_or xs (min p 4 - i) 0) e ∙ ap (λ (n : ℕ). get_or (around u q) (n - i) 0) m ∙ around_at u q i k (omega arith))
    (λ a. omega arith, λ a. omega arith)

four_length : (t : List ℕ) → length (last_four t) ≡ min (length t) 4
four_length t = omega (arith, length-drop (length t - 4) t)

four_at : (t : List ℕ) (i : ℕ) → i ≤ min (length t) 4 → get_or (last_four t) (min (length t) 4 - i) 0 ≡ get_or t (length t - i) 0
four_at t i l =
    let e : (length t - 4) + (min (length t) 4 - i) ≡ length t - i = omega arith in
    get_or-drop (length t - 4) t (min (length t) 4 - i) 0 ∙ ap (λ (k : ℕ). get_or t k 0) e

-- and so at the ends of two texts
pub last_back : (t u : List ℕ) (i : ℕ) → i ≤ 4 → last_four t ≡ last_four u → back i t (length t) ≡ back i u (length u)
last_back t u i l e =
    let m : min (length t) 4 ≡ min (length u) 4 = omega (arith, four_length t, four_length u, ap length e) in
    both_back t u (length t) (length u) i
    (λ a b. sym (four_at t i (omega arith)) ∙ ap (λ (xs : List ℕ). get_or xs (min (length t) 4 - i) 0) e ∙ ap (λ (n : ℕ). get_or (last_four u) (n - i) 0) m ∙ four_at u i (omega arith))
    (λ a. omega arith, λ a. omega arith)
