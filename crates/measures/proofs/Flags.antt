-- The flags of a row, by each rule: what is computed of it lane by lane. Assumes nothing.
use Rattle.std.proofs.Common.{◌≡◌, ℕ, ◌+◌, ◌-◌, ◌<◌, ◌≤◌, Bool, true, false, cond, not, ◌&&◌, ◌||◌, eqb, leb, List, [], ◌∷◌, map, length, replicate, sym, refl, ap, ◌∙◌, arith}
use Rattle.std.specs.Simd.Lanes.{zip2, Each1, Each2}
use Rattle.std.specs.Prelude.{bit_and}
use Rattle.std.proofs.lemmas.Simd.{splat_is_map, zip2_splat}
use Rattle.std.proofs.lemmas.Bool.{agree_below_at}
use Rattle.std.proofs.lemmas.Bool.Decides.{nat_tests}
use Rattle.chunk.specs.Rows.{Row, is_byte, is_between}
use Rattle.scan.specs.Marks.{Rule, mark, zip3}
use Rattle.scan.proofs.Marking.{flag_small}
use Rattle.utf8.specs.Places.{follower}
use Rattle.measures.specs.Counts.{leads, fours, lf_hit, crlf_hit, unicode_hit, masked, pair, separator}

-- what a lane becomes, by the lanes of three rows
abbrev Lane : Type 0
Lane = ℕ → ℕ → ℕ → ℕ

-- ---- rows joined lane by lane
each : (R : ℕ → ℕ → Type 0) (f g : Lane) → ((q p x : ℕ) → R (f q p x) (g q p x)) → (qs ps xs : List ℕ) → Each2 R (zip3 f qs ps xs) (zip3 g qs ps xs)
each R f g h [] ps xs = tt
each R f g h (q ∷ qs) [] xs = tt
each R f g h (q ∷ qs) (p ∷ ps) [] = tt
each R f g h (q ∷ qs) (p ∷ ps) (x ∷ xs) = (h q p x, each R f g h qs ps xs)

joined : (op : ℕ → ℕ → ℕ) (f g : Lane) (qs ps xs : List ℕ) → zip2 op (zip3 f qs ps xs) (zip3 g qs ps xs) ≡ zip3 (λ q p x. op (f q p x) (g q p x)) qs ps xs
joined op f g [] ps xs = refl
joined op f g (q ∷ qs) [] xs = refl
joined op f g (q ∷ qs) (p ∷ ps) [] = refl
joined op f g (q ∷ qs) (p ∷ ps) (x ∷ xs) = ap (λ t. op (f q p x) (g q p x) ∷ t) (joined op f g qs ps xs)

alike : (f g : Lane) → ((q p x : ℕ) → x < 256 → f q p x ≡ g q p x) → (qs ps xs : List ℕ) → Each1 (λ x. x < 256) xs → zip3 f qs ps xs ≡ zip3 g qs ps xs
alike f g e [] ps xs b = refl
alike f g e (q ∷ qs) [] xs b = refl
alike f g e (q ∷ qs) (p ∷ ps) [] b = refl
alike f g e (q ∷ qs) (p ∷ ps) (x ∷ xs) b =
    let here = e q p x b.0 in
    let rest = alike f g e qs ps xs b.1 in
    cc

of_one : (f : ℕ → ℕ) (qs ps xs : List ℕ) → length qs ≡ length xs → length ps ≡ length xs → map f xs ≡ zip3 (λ q p x. f x) qs ps xs
of_one f [] ps [] d e = refl
of_one f [] ps (x ∷ xs) d e = absurd (omega arith)
of_one f (q ∷ qs) [] [] d e = refl
of_one f (q ∷ qs) [] (x ∷ xs) d e = absurd (omega arith)
of_one f (q ∷ qs) (p ∷ ps) [] d e = refl
of_one f (q ∷ qs) (p ∷ ps) (x ∷ xs) d e = ap (λ t. f x ∷ t) (of_one f qs ps xs (omega arith) (omega arith))

of_two : (f : ℕ → ℕ → ℕ) (qs ps xs : List ℕ) → length qs ≡ length xs → length ps ≡ length xs → zip2 f ps xs ≡ zip3 (λ q p x. f p x) qs ps xs
of_two f [] [] [] d e = refl
of_two f [] (p ∷ ps) [] d e = absurd (omega arith)
of_two f [] ps (x ∷ xs) d e = absurd (omega arith)
of_two f (q ∷ qs) [] [] d e = refl
of_two f (q ∷ qs) [] (x ∷ xs) d e = absurd (omega arith)
of_two f (q ∷ qs) (p ∷ ps) [] d e = absurd (omega arith)
of_two f (q ∷ qs) (p ∷ ps) (x ∷ xs) d e = ap (λ t. f p x ∷ t) (of_two f qs ps xs (omega arith) (omega arith))

of_three : (op f : ℕ → ℕ → ℕ) (g : ℕ → ℕ) (qs ps xs : List ℕ) → zip2 op (zip2 f qs ps) (map g xs) ≡ zip3 (λ q p x. op (f q p) (g x)) qs ps xs
of_three op f g [] ps xs = refl
of_three op f g (q ∷ qs) [] xs = refl
of_three op f g (q ∷ qs) (p ∷ ps) [] = refl
of_three op f g (q ∷ qs) (p ∷ ps) (x ∷ xs) = ap (λ t. op (f q p) (g x) ∷ t) (of_three op f g qs ps xs)

less : (b : Bool) → 1 - cond b 1 0 ≡ cond (not b) 1 0
less true = refl
less false = refl

both : (a b : Bool) → bit_and (cond a 1 0) (cond b 1 0) ≡ cond (a && b) 1 0
both true true = refl
both true false = refl
both false true = refl
both false false = refl

pub masked_lanes : {n : ℕ} (mask bits : ℕ) (xs : List ℕ) → Row n xs → map (is_byte bits) (zip2 bit_and xs (replicate n mask)) ≡ map (masked mask bits) xs
masked_lanes {n} mask bits xs r = ap (map (is_byte bits)) (zip2_splat bit_and xs n mask r.long) ∙ each_one xs
  where
    each_one : (xs : List ℕ) → map (is_byte bits) (map (λ x. bit_and x mask) xs) ≡ map (masked mask bits) xs
    each_one [] = refl
    each_one (x ∷ xs) = ap (λ t. masked mask bits x ∷ t) (each_one xs)

pub paired : (a b : ℕ) (ps xs : List ℕ) → zip2 bit_and (map (is_byte a) ps) (map (is_byte b) xs) ≡ zip2 (pair a b) ps xs
paired a b [] xs = refl
paired a b (p ∷ ps) [] = refl
paired a b (p ∷ ps) (x ∷ xs) =
    let here = both (eqb p a) (eqb x b) in
    let rest = paired a b ps xs in
    cc

-- three rows of one length
module _ {n : ℕ} {qs ps xs : List ℕ} (rq : Row n qs) (rp : Row n ps) (rx : Row n xs) where
  -- a row has f in each lane
  record Has (f : Lane) (row : List ℕ) : Type 0 where
    pub is : row ≡ zip3 f qs ps xs

  one : {row : List ℕ} (f : ℕ → ℕ) → row ≡ map f xs → Has (λ q p x. f x) row
  one f e = record { is = e ∙ of_one f qs ps xs (rq.long ∙ sym rx.long) (rp.long ∙ sym rx.long) }

  two : {row : List ℕ} (f : ℕ → ℕ → ℕ) → row ≡ zip2 f ps xs → Has (λ q p x. f p x) row
  two f e = record { is = e ∙ of_two f qs ps xs (rq.long ∙ sym rx.long) (rp.long ∙ sym rx.long) }

  made : {row a b : List ℕ} {f g : Lane} (op : ℕ → ℕ → ℕ) → Has f a → Has g b → row ≡ zip2 op a b → Has (λ q p x. op (f q p x) (g q p x)) row
  made {f = f} {g = g} op a b e = record { is = e ∙ simp (a.is, b.is) (joined op f g qs ps xs) }

  fit : {a b : List ℕ} {f g : Lane} (R : ℕ → ℕ → Type 0) → Has f a → Has g b → ((q p x : ℕ) → R (f q p x) (g q p x)) → Each2 R a b
  fit {f = f} {g = g} R a b h = simp (a.is, b.is) (each R f g h qs ps xs)

  flags_of : {row : List ℕ} {f : Lane} (hit : Rule) → Has f row → ((q p x : ℕ) → x < 256 → f q p x ≡ mark hit q p x) → row ≡ zip3 (mark hit) qs ps xs
  flags_of {f = f} hit a e = a.is ∙ alike f (mark hit) e qs ps xs rx.bytes

  -- ---- LF
  pub lf_row : {row : List ℕ} → row ≡ map (is_byte 10) xs → row ≡ zip3 (mark lf_hit) qs ps xs
  lf_row e = (one (is_byte 10) e).is

  -- ---- the first bytes of chars of four bytes
  pub fours_row : {row : List ℕ} → row ≡ map (masked 0xF0 0xF0) xs → row ≡ zip3 (mark fours) qs ps xs
  fours_row e = flags_of fours (one (masked 0xF0 0xF0) e) (λ q p x h. ap (λ (b : Bool). cond {A = ℕ} b 1 0) (agree_below_at (λ x. eqb (bit_and x 0xF0) 0xF0) (leb 0xF0) 256 x refl h))

  -- ---- the first bytes of chars
  leads_ones : {ones : List ℕ} → ones ≡ replicate n 1 → Has (λ q p x. 1) ones
  leads_ones o = one (λ x. 1) (o ∙ splat_is_map xs n 1 rx.long)

  pub leads_sub : {ones trailing : List ℕ} → ones ≡ replicate n 1 → trailing ≡ map (masked 0xC0 0x80) xs → Each2 (λ x y. y ≤ x) ones trailing
  leads_sub o t = fit (λ x y. y ≤ x) (leads_ones o) (one (masked 0xC0 0x80) t) (λ q p x. flag_small (eqb (bit_and x 0xC0) 0x80))

  pub leads_row : {ones trailing row : List ℕ} → row ≡ zip2 (λ x y. x - y) ones trailing → ones ≡ replicate n 1 → trailing ≡ map (masked 0xC0 0x80) xs → row ≡ zip3 (mark leads) qs ps xs
  leads_row e o t = flags_of leads (made (λ x y. x - y) (leads_ones o) (one (masked 0xC0 0x80) t) e)
      (λ q p x h. ap (λ (b : Bool). 1 - cond {A = ℕ} b 1 0) (agree_below_at (λ x. eqb (bit_and x 0xC0) 0x80) follower 256 x refl h) ∙ less (follower x))

  -- ---- LF, CR, and CR LF as one
  pub crlf_add : {lf cr : List ℕ} → lf ≡ map (is_byte 10) xs → cr ≡ map (is_byte 13) xs → Each2 (λ x y. x + y < 256) lf cr
  crlf_add l r = fit (λ x y. x + y < 256) (one (is_byte 10) l) (one (is_byte 13) r) (λ q p x. grind (arith, nat_tests))

  single : {lf cr all : List ℕ} → all ≡ zip2 (λ x y. x + y) lf cr → lf ≡ map (is_byte 10) xs → cr ≡ map (is_byte 13) xs → Has (λ q p x. is_byte 10 x + is_byte 13 x) all
  single a l r = made (λ x y. x + y) (one (is_byte 10) l) (one (is_byte 13) r) a

  second_of : {near lf second : List ℕ} → second ≡ zip2 bit_and near lf → near ≡ map (is_byte 13) ps → lf ≡ map (is_byte 10) xs → Has (λ q p x. pair 13 10 p x) second
  second_of s d l = two (pair 13 10) (s ∙ simp (d, l) (paired 13 10 ps xs))

  pub crlf_sub : {lf cr all near second : List ℕ} → all ≡ zip2 (λ x y. x + y) lf cr → lf ≡ map (is_byte 10) xs → cr ≡ map (is_byte 13) xs → near ≡ map (is_byte 13) ps → second ≡ zip2 bit_and near lf → Each2 (λ x y. y ≤ x) all second
  crlf_sub a l r d s = fit (λ x y. y ≤ x) (single a l r) (second_of s d l) (λ q p x. grind (arith, nat_tests))

  pub crlf_row : {lf cr all near second row : List ℕ} → row ≡ zip2 (λ x y. x - y) all second → all ≡ zip2 (λ x y. x + y) lf cr → lf ≡ map (is_byte 10) xs → cr ≡ map (is_byte 13) xs → near ≡ map (is_byte 13) ps → second ≡ zip2 bit_and near lf → row ≡ zip3 (mark crlf_hit) qs ps xs
  crlf_row e a l r d s = flags_of crlf_hit (made (λ x y. x - y) (single a l r) (second_of s d l) e) (λ q p x h. grind (arith, nat_tests))

  -- ---- the breaks of Unicode
  pub separators_row : {firsts lasts row : List ℕ} → firsts ≡ zip2 (pair 0xE2 0x80) qs ps → lasts ≡ map (masked 0xFE 0xA8) xs → row ≡ zip2 bit_and firsts lasts → row ≡ zip3 (mark separator) qs ps xs
  separators_row {row = row} f l e =
      let parts : row ≡ zip3 (λ q p x. bit_and (pair 0xE2 0x80 q p) (masked 0xFE 0xA8 x)) qs ps xs = e ∙ simp (f, l) (of_three bit_and (pair 0xE2 0x80) (masked 0xFE 0xA8) qs ps xs) in
      flags_of separator (record { is = parts })
      (λ q p x h. both (eqb q 0xE2 && eqb p 0x80) (eqb (bit_and x 0xFE) 0xA8)
      ∙ ap (λ (b : Bool). cond {A = ℕ} ((eqb q 0xE2 && eqb p 0x80) && b) 1 0) (agree_below_at (λ x. eqb (bit_and x 0xFE) 0xA8) (λ x. eqb x 0xA8 || eqb x 0xA9) 256 x refl h))

  pub unicode_sub : {low second : List ℕ} → low ≡ map (is_between 9 14) xs → second ≡ zip2 (pair 13 10) ps xs → Each2 (λ x y. y ≤ x) low second
  unicode_sub l s = fit (λ x y. y ≤ x) (one (is_between 9 14) l) (two (pair 13 10) s) (λ q p x. grind (arith, nat_tests))

  ascii : {low second ends : List ℕ} → ends ≡ zip2 (λ x y. x - y) low second → low ≡ map (is_between 9 14) xs → second ≡ zip2 (pair 13 10) ps xs → Has (λ q p x. is_between 9 14 x - pair 13 10 p x) ends
  ascii d l s = made (λ x y. x - y) (one (is_between 9 14) l) (two (pair 13 10) s) d

  pub unicode_add : {low second ends nel : List ℕ} → ends ≡ zip2 (λ x y. x - y) low second → low ≡ map (is_between 9 14) xs → second ≡ zip2 (pair 13 10) ps xs → nel ≡ zip2 (pair 0xC2 0x85) ps xs → Each2 (λ x y. x + y < 256) ends nel
  unicode_add d l s v = fit (λ x y. x + y < 256) (ascii d l s) (two (pair 0xC2 0x85) v) (λ q p x. grind (arith, nat_tests))

  with_nel : {low second ends nel more : List ℕ} → more ≡ zip2 (λ x y. x + y) ends nel → ends ≡ zip2 (λ x y. x - y) low second → low ≡ map (is_between 9 14) xs → second ≡ zip2 (pair 13 10) ps xs → nel ≡ zip2 (pair 0xC2 0x85) ps xs
      → Has (λ q p x. is_between 9 14 x - pair 13 10 p x + pair 0xC2 0x85 p x) more
  with_nel m d l s v = made (λ x y. x + y) (ascii d l s) (two (pair 0xC2 0x85) v) m

  pub unicode_add_2 : {low second ends nel more last : List ℕ} → last ≡ zip3 (mark separator) qs ps xs → more ≡ zip2 (λ x y. x + y) ends nel → ends ≡ zip2 (λ x y. x - y) low second → low ≡ map (is_between 9 14) xs → second ≡ zip2 (pair 13 10) ps xs → nel ≡ zip2 (pair 0xC2 0x85) ps xs
      → Each2 (λ x y. x + y < 256) more last
  unicode_add_2 e m d l s v = fit {g = mark separator} (λ x y. x + y < 256) (with_nel m d l s v) (record { is = e }) (λ q p x. grind (arith, nat_tests))

  pub unicode_row : {low second ends nel more last row : List ℕ} → row ≡ zip2 (λ x y. x + y) more last → last ≡ zip3 (mark separator) qs ps xs → more ≡ zip2 (λ x y. x + y) ends nel → ends ≡ zip2 (λ x y. x - y) low second → low ≡ map (is_between 9 14) xs → second ≡ zip2 (pair 13 10) ps xs → nel ≡ zip2 (pair 0xC2 0x85) ps xs
      → row ≡ zip3 (mark unicode_hit) qs ps xs
  unicode_row r e m d l s v = flags_of unicode_hit (made {g = mark separator} (λ x y. x + y) (with_nel m d l s v) (record { is = e }) r) (λ q p x h. grind (arith, nat_tests))
