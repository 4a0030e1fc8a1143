-- The chars of the grammar are those of the table of first bytes. Assumes nothing.
use Rattle.std.proofs.Common.{◌≡◌, ℕ, ◌<◌, ◌≤◌, Bool, true, false, cond, leb, List, [], ◌∷◌, Some, None, Option, sym, refl, subst, arith}
use Rattle.std.proofs.lemmas.Bool.{leb-true, leb-false}
use Rattle.std.proofs.lemmas.Bool.Decides.{nat_tests}
use Rattle.utf8.specs.Grammar.{In, Char}
use Rattle.utf8.specs.Grammar.Char.{utf8_1, utf8_2, utf8_3_e0, utf8_3_e1, utf8_3_ed, utf8_3_ee, utf8_4_f0, utf8_4_f1, utf8_4_f4}
use Rattle.utf8.specs.FirstFault.{Range, range, tail, followers}

-- each byte stands in its range
abbrev pub Fits : List Range → List ℕ → Type 0
Fits [] [] = Unit {0}
Fits [] (c ∷ cs) = ⊥
Fits (r ∷ rs) [] = ⊥
Fits (r ∷ rs) (c ∷ cs) = In r.low r.high c × Fits rs cs

-- a first byte, and the followers that it takes
pub record Led (cs : List ℕ) : Type 0 where
  pub first : ℕ
  pub rest : List ℕ
  pub is : cs ≡ first ∷ rest
  pub ranges : List Range
  pub takes : followers first ≡ Some ranges
  pub fit : Fits ranges rest

lead1 : (a : ℕ) → In 0x00 0x7F a → followers a ≡ Some []
lead1 a h = grind (arith, nat_tests)

lead2 : (a : ℕ) → In 0xC2 0xDF a → followers a ≡ Some (tail ∷ [])
lead2 a h = grind (arith, nat_tests)

lead3 : (a : ℕ) → In 0xE1 0xEC a → followers a ≡ Some (tail ∷ tail ∷ [])
lead3 a h = grind (arith, nat_tests)

lead3' : (a : ℕ) → In 0xEE 0xEF a → followers a ≡ Some (tail ∷ tail ∷ [])
lead3' a h = grind (arith, nat_tests)

lead4 : (a : ℕ) → In 0xF1 0xF3 a → followers a ≡ Some (tail ∷ tail ∷ tail ∷ [])
lead4 a h = grind (arith, nat_tests)

pub led : {cs : List ℕ} → Char cs → Led cs
led (utf8_1 {a} h) = record { first = a; rest = []; is = refl; ranges = []; takes = lead1 a h; fit = tt }
led (utf8_2 {a} {b} h t) = record { first = a; rest = b ∷ []; is = refl; ranges = tail ∷ []; takes = lead2 a h; fit = (t, tt) }
led (utf8_3_e0 {b} {c} t u) = record { first = 0xE0; rest = b ∷ c ∷ []; is = refl; ranges = range 0xA0 0xBF ∷ tail ∷ []; takes = refl; fit = (t, (u, tt)) }
led (utf8_3_e1 {a} {b} {c} h t u) = record { first = a; rest = b ∷ c ∷ []; is = refl; ranges = tail ∷ tail ∷ []; takes = lead3 a h; fit = (t, (u, tt)) }
led (utf8_3_ed {b} {c} t u) = record { first = 0xED; rest = b ∷ c ∷ []; is = refl; ranges = range 0x80 0x9F ∷ tail ∷ []; takes = refl; fit = (t, (u, tt)) }
led (utf8_3_ee {a} {b} {c} h t u) = record { first = a; rest = b ∷ c ∷ []; is = refl; ranges = tail ∷ tail ∷ []; takes = lead3' a h; fit = (t, (u, tt)) }
led (utf8_4_f0 {b} {c} {d} t u v) = record { first = 0xF0; rest = b ∷ c ∷ d ∷ []; is = refl; ranges = range 0x90 0xBF ∷ tail ∷ tail ∷ []; takes = refl; fit = (t, (u, (v, tt))) }
led (utf8_4_f1 {a} {b} {c} {d} h t u v) = record { first = a; rest = b ∷ c ∷ d ∷ []; is = refl; ranges = tail ∷ tail ∷ tail ∷ []; takes = lead4 a h; fit = (t, (u, (v, tt))) }
led (utf8_4_f4 {b} {c} {d} t u v) = record { first = 0xF4; rest = b ∷ c ∷ d ∷ []; is = refl; ranges = range 0x80 0x8F ∷ tail ∷ tail ∷ []; takes = refl; fit = (t, (u, (v, tt))) }

-- the other way round
module _ (b₀ : ℕ) where
  none_of : Char (b₀ ∷ []) → (cs : List ℕ) → Fits [] cs → Char (b₀ ∷ cs)
  none_of f [] h = f
  none_of f (c ∷ cs) h = absurd h

  one_of : (r : Range) → ((a : ℕ) → In r.low r.high a → Char (b₀ ∷ a ∷ [])) → (cs : List ℕ) → Fits (r ∷ []) cs → Char (b₀ ∷ cs)
  one_of r f [] h = absurd h
  one_of r f (a ∷ []) h = f a h.0
  one_of r f (a ∷ b ∷ cs) h = absurd h.1

  two_of : (r q : Range) → ((a b : ℕ) → In r.low r.high a → In q.low q.high b → Char (b₀ ∷ a ∷ b ∷ [])) → (cs : List ℕ) → Fits (r ∷ q ∷ []) cs → Char (b₀ ∷ cs)
  two_of r q f [] h = absurd h
  two_of r q f (a ∷ []) h = absurd h.1
  two_of r q f (a ∷ b ∷ []) h = f a b h.0 h.1.0
  two_of r q f (a ∷ b ∷ c ∷ cs) h = absurd h.1.1

  three_of : (r q s : Range) → ((a b c : ℕ) → In r.low r.high a → In q.low q.high b → In s.low s.high c → Char (b₀ ∷ a ∷ b ∷ c ∷ [])) → (cs : List ℕ) → Fits (r ∷ q ∷ s ∷ []) cs → Char (b₀ ∷ cs)
  three_of r q s f [] h = absurd h
  three_of r q s f (a ∷ []) h = absurd h.1
  three_of r q s f (a ∷ b ∷ []) h = absurd h.1.1
  three_of r q s f (a ∷ b ∷ c ∷ []) h = f a b c h.0 h.1.0 h.1.1.0
  three_of r q s f (a ∷ b ∷ c ∷ d ∷ cs) h = absurd h.1.1.1

abbrev Leads : ℕ → Option (List Range) → Type 0
Leads b None = Unit {0}
Leads b (Some rs) = (cs : List ℕ) → Fits rs cs → Char (b ∷ cs)

-- a test of a cond, and what it tells
split : (b n : ℕ) (x y : Option (List Range)) → (b ≤ n → Leads b x) → (n < b → Leads b y) → Leads b (cond (leb b n) x y)
split b n x y f g = go (leb b n) refl
  where
    go : (t : Bool) → leb b n ≡ t → Leads b (cond t x y)
    go true e = f (leb-true b n e)
    go false e = g (leb-false b n e)

at_e0 : (b : ℕ) → b ≡ 0xE0 → Leads b (Some (range 0xA0 0xBF ∷ tail ∷ []))
at_e0 b e = subst (λ (a : ℕ). Leads a (Some (range 0xA0 0xBF ∷ tail ∷ []))) (sym e) (two_of 0xE0 _ _ (λ a c h k. utf8_3_e0 h k))

at_ed : (b : ℕ) → b ≡ 0xED → Leads b (Some (range 0x80 0x9F ∷ tail ∷ []))
at_ed b e = subst (λ (a : ℕ). Leads a (Some (range 0x80 0x9F ∷ tail ∷ []))) (sym e) (two_of 0xED _ _ (λ a c h k. utf8_3_ed h k))

at_f0 : (b : ℕ) → b ≡ 0xF0 → Leads b (Some (range 0x90 0xBF ∷ tail ∷ tail ∷ []))
at_f0 b e = subst (λ (a : ℕ). Leads a (Some (range 0x90 0xBF ∷ tail ∷ tail ∷ []))) (sym e) (three_of 0xF0 _ _ _ (λ a c d h k l. utf8_4_f0 h k l))

at_f4 : (b : ℕ) → b ≡ 0xF4 → Leads b (Some (range 0x80 0x8F ∷ tail ∷ tail ∷ []))
at_f4 b e = subst (λ (a : ℕ). Leads a (Some (range 0x80 0x8F ∷ tail ∷ tail ∷ []))) (sym e) (three_of 0xF4 _ _ _ (λ a c d h k l. utf8_4_f4 h k l))

leads : (b : ℕ) → Leads b (followers b)
leads b =
    split b 0x7F _ _ (λ h. none_of b (utf8_1 (omega arith))) (λ h1.
    split b 0xC1 _ _ (λ h. tt) (λ h2.
    split b 0xDF _ _ (λ h. one_of b _ (λ c k. utf8_2 (omega arith) k)) (λ h3.
    split b 0xE0 _ _ (λ h. at_e0 b (omega arith)) (λ h4.
    split b 0xEC _ _ (λ h. two_of b _ _ (λ c d k l. utf8_3_e1 (omega arith) k l)) (λ h5.
    split b 0xED _ _ (λ h. at_ed b (omega arith)) (λ h6.
    split b 0xEF _ _ (λ h. two_of b _ _ (λ c d k l. utf8_3_ee (omega arith) k l)) (λ h7.
    split b 0xF0 _ _ (λ h. at_f0 b (omega arith)) (λ h8.
    split b 0xF3 _ _ (λ h. three_of b _ _ _ (λ c d e k l m. utf8_4_f1 (omega arith) k l m)) (λ h9.
    split b 0xF4 _ _ (λ h. at_f4 b (omega arith)) (λ h10. tt))))))))))

pub char : (b : ℕ) (rs : List Range) → followers b ≡ Some rs → (cs : List ℕ) → Fits rs cs → Char (b ∷ cs)
char b rs e = subst (Leads b) e (leads b)
