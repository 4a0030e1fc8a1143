-- Where the chars of a text begin and end. Assumes nothing.
use Rattle.std.proofs.Common.{◌≡◌, ℕ, zero, suc, ◌+◌, ◌-◌, ◌<◌, ◌≤◌, Bool, true, false, cond, not, ◌&&◌, ◌||◌, eqb, ltb, leb, List, [], ◌∷◌, ◌++◌, length, get_or, sym, refl, ap, ◌∙◌, subst, ⊎_elim, arith, length-append}
use Rattle.std.proofs.lemmas.List.{get_or_append_left, get_or-append_right, get_or-append-add}
use Rattle.std.proofs.lemmas.Bool.{cases_lt, both_ways, le-leb, lt-ltb, eq-eqb, eqb-true, ltb-true, and_from, and_parts, or_left, or_right, or_cases, not_from_false}
use Rattle.std.proofs.lemmas.Bool.Decides.{nat_tests}
use Rattle.utf8.specs.Grammar.{In, Tail, Char, Text}
use Rattle.utf8.specs.Grammar.Char.{utf8_1, utf8_2, utf8_3_e0, utf8_3_e1, utf8_3_ed, utf8_3_ee, utf8_4_f0, utf8_4_f1, utf8_4_f4}
use Rattle.utf8.specs.Grammar.Text.{none, more}
use Rattle.utf8.specs.Places.{follower, char_start}

-- how many bytes a char has, by its first one
abbrev pub wide : ℕ → ℕ
wide b = cond (leb b 0x7F) 1 (cond (leb b 0xDF) 2 (cond (leb b 0xEF) 3 4))

abbrev pub Followers : List ℕ → Type 0
Followers [] = Unit {0}
Followers (b ∷ bs) = (follower b ≡ true) × Followers bs

pub follower_at : (bs : List ℕ) (i : ℕ) → Followers bs → i < length bs → follower (get_or bs i 0) ≡ true
follower_at [] i f h = absurd (omega arith)
follower_at (b ∷ bs) zero f h = f.0
follower_at (b ∷ bs) (suc i) f h = follower_at bs i f.1 (omega arith)

-- a char is a first byte, which is no follower and tells the length, and then followers
pub record Shape (cs : List ℕ) : Type 0 where
  pub first : ℕ
  pub rest : List ℕ
  pub is : cs ≡ first ∷ rest
  pub lead : follower first ≡ false
  pub long : length cs ≡ wide first
  pub tail : Followers rest

narrow : (low high b : ℕ) → 0x80 ≤ low → high ≤ 0xBF → In low high b → follower b ≡ true
narrow low high b l h i = and_from (leb 0x80 b) (leb b 0xBF) (le-leb 0x80 b (omega (arith, i.0))) (le-leb b 0xBF (omega (arith, i.1)))

one_wide : (a : ℕ) → In 0x00 0x7F a → (follower a ≡ false) × (1 ≡ wide a)
one_wide a h = (grind (arith, nat_tests), grind (arith, nat_tests))

two_wide : (a : ℕ) → In 0xC2 0xDF a → (follower a ≡ false) × (2 ≡ wide a)
two_wide a h = (grind (arith, nat_tests), grind (arith, nat_tests))

three_wide : (a : ℕ) → In 0xE0 0xEF a → (follower a ≡ false) × (3 ≡ wide a)
three_wide a h = (grind (arith, nat_tests), grind (arith, nat_tests))

four_wide : (a : ℕ) → 0xF0 ≤ a → (follower a ≡ false) × (4 ≡ wide a)
four_wide a h = (grind (arith, nat_tests), grind (arith, nat_tests))

of : (a : ℕ) (rest : List ℕ) → (follower a ≡ false) × (length (a ∷ rest) ≡ wide a) → Followers rest → Shape (a ∷ rest)
of a rest w f = record { first = a; rest = rest; is = refl; lead = w.0; long = w.1; tail = f }

tail : (b : ℕ) → Tail b → follower b ≡ true
tail b h = narrow 0x80 0xBF b (omega arith) (omega arith) h

pub shape : {cs : List ℕ} → Char cs → Shape cs
shape (utf8_1 {a} h) = of a [] (one_wide a h) tt
shape (utf8_2 {a} {b} h t) = of a (b ∷ []) (two_wide a h) (tail b t, tt)
shape (utf8_3_e0 {b} {c} t u) = of 0xE0 (b ∷ c ∷ []) (refl, refl) (narrow 0xA0 0xBF b (omega arith) (omega arith) t, (tail c u, tt))
shape (utf8_3_e1 {a} {b} {c} h t u) = of a (b ∷ c ∷ []) (three_wide a (omega (arith, h.0), omega (arith, h.1))) (tail b t, (tail c u, tt))
shape (utf8_3_ed {b} {c} t u) = of 0xED (b ∷ c ∷ []) (refl, refl) (narrow 0x80 0x9F b (omega arith) (omega arith) t, (tail c u, tt))
shape (utf8_3_ee {a} {b} {c} h t u) = of a (b ∷ c ∷ []) (three_wide a (omega (arith, h.0), omega (arith, h.1))) (tail b t, (tail c u, tt))
shape (utf8_4_f0 {b} {c} {d} t u v) = of 0xF0 (b ∷ c ∷ d ∷ []) (refl, refl) (narrow 0x90 0xBF b (omega arith) (omega arith) t, (tail c u, (tail d v, tt)))
shape (utf8_4_f1 {a} {b} {c} {d} h t u v) = of a (b ∷ c ∷ d ∷ []) (four_wide a (omega (arith, h.0))) (tail b t, (tail c u, (tail d v, tt)))
shape (utf8_4_f4 {b} {c} {d} t u v) = of 0xF4 (b ∷ c ∷ d ∷ []) (refl, refl) (narrow 0x80 0x8F b (omega arith) (omega arith) t, (tail c u, (tail d v, tt)))

-- a place of a text at which no follower stands
abbrev pub Cut : List ℕ → ℕ → Type 0
Cut t p = (p ≤ length t) × (p < length t → follower (get_or t p 0) ≡ false)

-- the two ways to say that a char starts
pub start_from_cut : (t : List ℕ) (p : ℕ) → Cut t p → char_start t p ≡ true
start_from_cut t p c =
    or_right (eqb p 0) _
    (⊎_elim
    (λ (lt : p < length t). or_right (eqb p (length t)) _ (and_from _ _ (lt-ltb p (length t) lt) (not_from_false _ (c.1 lt))))
    (λ (ge : length t ≤ p). or_left (eqb p (length t)) _ (eq-eqb p (length t) (omega (arith, c.0))))
    (cases_lt p (length t)))

text_front : {t : List ℕ} → Text t → 0 < length t → follower (get_or t 0 0) ≡ false
text_front none h = absurd (omega arith)
text_front (more {cs = cs} {bs = bs} g t) h =
    let s = shape g in ap (λ (xs : List ℕ). follower (get_or (xs ++ bs) 0 0)) s.is ∙ s.lead

-- place 0 of a text
pub cut_none : {t : List ℕ} → Text t → Cut t 0
cut_none t = (omega arith, text_front t)

not_true : (b : Bool) → not b ≡ true → b ≡ false
not_true true e = sym e
not_true false e = refl

pub cut_from_start : (t : List ℕ) (p : ℕ) → Text t → char_start t p ≡ true → Cut t p
cut_from_start t p u e =
    ⊎_elim
    (λ (z : eqb p 0 ≡ true). subst (Cut t) (sym (eqb-true p 0 z)) (cut_none u))
    (λ (z : (eqb p (length t) || (ltb p (length t) && not (follower (get_or t p 0)))) ≡ true).
    ⊎_elim
    (λ (y : eqb p (length t) ≡ true). let l : p ≡ length t = eqb-true p (length t) y in (omega arith, λ h. absurd (omega arith)))
    (λ (y : (ltb p (length t) && not (follower (get_or t p 0))) ≡ true).
    let ab = and_parts (ltb p (length t)) (not (follower (get_or t p 0))) y in
    let l : p < length t = ltb-true p (length t) ab.0 in (omega arith, λ h. not_true _ ab.1))
    (or_cases (eqb p (length t)) _ z))
    (or_cases (eqb p 0) _ e)

-- a cut of what follows is one of the whole
pub cut_after : (cs bs : List ℕ) (q : ℕ) → Cut bs q → Cut (cs ++ bs) (length cs + q)
cut_after cs bs q c =
    let l = length-append cs bs in
    (omega (arith, c.0), λ h. ap follower (get_or-append-add cs bs q 0) ∙ c.1 (omega arith))

-- every byte that is no follower begins a char, and the next char begins where that byte says
abbrev Leads : List ℕ → Type 0
Leads t = (i : ℕ) → i < length t → follower (get_or t i 0) ≡ false → Cut t (i + wide (get_or t i 0))

lead_first : (a : ℕ) (rest bs : List ℕ) → length (a ∷ rest) ≡ wide a → Followers rest → Text bs → Leads bs → Leads ((a ∷ rest) ++ bs)
lead_first a rest bs long f t ih zero h e =
    let n : length (a ∷ rest) + 0 ≡ 0 + wide a = omega arith in
    subst (Cut ((a ∷ rest) ++ bs)) n (cut_after (a ∷ rest) bs 0 (cut_none t))
lead_first a rest bs long f t ih (suc i) h e =
    let l = length-append rest bs in
    ⊎_elim
    (λ (lt : i < length rest). absurd (both_ways (follower (get_or (rest ++ bs) i 0)) e (ap follower (get_or_append_left rest bs 0 i lt) ∙ follower_at rest i f lt)))
    (λ (ge : length rest ≤ i).
    let at : get_or (rest ++ bs) i 0 ≡ get_or bs (i - length rest) 0 = get_or-append_right rest bs (length rest) i 0 refl ge in
    let n : length (a ∷ rest) + (i - length rest + wide (get_or bs (i - length rest) 0)) ≡ suc i + wide (get_or bs (i - length rest) 0) = omega arith in
    subst (λ (b : ℕ). Cut ((a ∷ rest) ++ bs) (suc i + wide b)) (sym at)
    (subst (Cut ((a ∷ rest) ++ bs)) n (cut_after (a ∷ rest) bs _ (ih (i - length rest) (omega arith) (ap follower (sym at) ∙ e)))))
    (cases_lt i (length rest))

pub lead_ends : {t : List ℕ} → Text t → Leads t
lead_ends none = λ i h e. absurd (omega arith)
lead_ends (more {cs = cs} {bs = bs} g t) =
    let s = shape g in
    subst (λ (xs : List ℕ). Leads (xs ++ bs)) (sym s.is) (lead_first s.first s.rest bs (ap length (sym s.is) ∙ s.long) s.tail t (lead_ends t))

-- where some text that is not empty ends inside another, a char of that other ends
pub text_ends : {s : List ℕ} → Text s → (t : List ℕ) → Text t → (q : ℕ) → 0 < length s → ((i : ℕ) → i < length s → (q + i < length t) × (get_or t (q + i) 0 ≡ get_or s i 0)) → Cut t (q + length s)
text_ends none t u q z m = absurd (omega arith)
text_ends (more {cs = cs} {bs = bs} g b) t u q z m =
    let s = shape g in
    let l = length-append cs bs in
    let one : 0 < length cs = subst (λ (xs : List ℕ). 0 < length xs) (sym s.is) (omega arith) in
    let q0 : q + 0 ≡ q = omega arith in
    let at : get_or t q 0 ≡ s.first =
    ap (λ (k : ℕ). get_or t k 0) (sym q0) ∙ (m 0 (omega arith)).1 ∙ get_or_append_left cs bs 0 0 one ∙ ap (λ (xs : List ℕ). get_or xs 0 0) s.is in
    let w : wide (get_or t q 0) ≡ length cs = ap wide at ∙ sym s.long in
    let next : Cut t (q + length cs) = subst (λ (k : ℕ). Cut t (q + k)) w (lead_ends u q (omega (arith, (m 0 (omega arith)).0)) (ap follower at ∙ s.lead)) in
    ⊎_elim
    (λ (some : 0 < length bs).
    let n : q + length cs + length bs ≡ q + length (cs ++ bs) = omega arith in
    subst (Cut t) n
    (text_ends b t u (q + length cs) some
    (λ i h.
    let r = m (length cs + i) (omega arith) in
    let k : q + (length cs + i) ≡ q + length cs + i = omega arith in
    (omega (arith, r.0), ap (λ (j : ℕ). get_or t j 0) (sym k) ∙ r.1 ∙ get_or-append-add cs bs i 0))))
    (λ (no' : length bs ≤ 0). let n : q + length cs ≡ q + length (cs ++ bs) = omega arith in subst (Cut t) n next)
    (cases_lt 0 (length bs))
