-- No fault says that the bytes are a text of the grammar, and a fault says where and why they are not.
-- Assumes nothing.
use Rattle.std.proofs.Common.{◌≡◌, ℕ, ◌+◌, ◌<◌, ◌≤◌, Bool, true, false, cond, leb, ◌⊎◌, List, [], ◌∷◌, ◌++◌, length, Some, None, Option, sym, refl, ap, ◌∙◌, subst, inl, inr, append_assoc, append-nil, arith, length-append}
use Rattle.std.proofs.lemmas.List.{take_at, drop_at, length_push}
use Rattle.std.proofs.lemmas.Bool.{leb-true, leb-false, le-leb, and_from, and_parts, both_ways}
use Rattle.faults.specs.declared.check.Cause.TheVariants.{NoFirst, Ends, NoFollower}
use Rattle.faults.specs.Layers.{CheckFault as Fault}
use Rattle.utf8.specs.Grammar.{In, Char, Text}
use Rattle.utf8.specs.Grammar.Text.{none, more}
use Rattle.utf8.specs.Faults.{Begun, Why, Stops}
use Rattle.utf8.specs.FirstFault.{Range, within, followers, fault_from, first_fault, goes_on, is_text}
use Rattle.utf8.proofs.Chars.{Fits, led, char}
use Rattle.utf8.specs.Checks.{Passed, Refused}
use Rattle.utf8.proofs.Texts.{goes_step, fault_step, no_fault, a_fault}

-- one char more at the end of a text
push : {pre cs : List ℕ} → Text pre → Char cs → Text (pre ++ cs)
push {cs = cs} none h = subst Text (append-nil cs) (more h none)
push {cs = cs} (more {cs = ds} {bs = bs} g t) h = subst Text (sym (append_assoc ds bs cs)) (more g (push t h))

in_within : (r : Range) (b : ℕ) → within r b ≡ true → In r.low r.high b
in_within r b e = let p = and_parts _ _ e in (leb-true _ _ p.0, leb-true _ _ p.1)

within_in : (r : Range) (b : ℕ) → In r.low r.high b → within r b ≡ true
within_in r b h = and_from _ _ (le-leb _ _ h.0) (le-leb _ _ h.1)

-- what fits, followed by one that fits
fits_push : (rs : List Range) (cs : List ℕ) (r : Range) (c : ℕ) → Fits rs cs → In r.low r.high c → Fits (rs ++ (r ∷ [])) (cs ++ (c ∷ []))
fits_push [] [] r c f h = (h, tt)
fits_push [] (d ∷ cs) r c f h = absurd f
fits_push (q ∷ rs) [] r c f h = absurd f
fits_push (q ∷ rs) (d ∷ cs) r c f h = (f.0, fits_push rs cs r c f.1 h)

fits_more : (rs qs : List Range) (cs ds : List ℕ) → Fits rs cs → Fits qs ds → Fits (rs ++ qs) (cs ++ ds)
fits_more [] qs [] ds f h = h
fits_more [] qs (d ∷ cs) ds f h = absurd f
fits_more (q ∷ rs) qs [] ds f h = absurd f
fits_more (q ∷ rs) qs (d ∷ cs) ds f h = (f.0, fits_more rs qs cs ds f.1 h)

fits_at : (rs : List Range) (cs : List ℕ) (r : Range) (qs : List Range) (x : ℕ) (es : List ℕ) → Fits rs cs → Fits (rs ++ (r ∷ qs)) (cs ++ (x ∷ es)) → In r.low r.high x
fits_at [] [] r qs x es f h = h.0
fits_at [] (c ∷ cs) r qs x es f h = absurd f
fits_at (q ∷ rs) [] r qs x es f h = absurd f
fits_at (q ∷ rs) (c ∷ cs) r qs x es f h = fits_at rs cs r qs x es f.1 h.1

-- no range is empty
abbrev Sane : List Range → Type 0
Sane [] = Unit {0}
Sane (r ∷ rs) = (r.low ≤ r.high) × Sane rs

abbrev SaneO : Option (List Range) → Type 0
SaneO None = Unit {0}
SaneO (Some rs) = Sane rs

sane_cond : (t : Bool) (x y : Option (List Range)) → SaneO x → SaneO y → SaneO (cond t x y)
sane_cond true x y h k = h
sane_cond false x y h k = k

sane : (b : ℕ) → SaneO (followers b)
sane b =
    sane_cond (leb b 0x7F) _ _ tt (sane_cond (leb b 0xC1) _ _ tt (sane_cond (leb b 0xDF) _ _ (omega arith) (sane_cond (leb b 0xE0) _ _ (omega arith) (sane_cond (leb b 0xEC) _ _ (omega arith)
    (sane_cond (leb b 0xED) _ _ (omega arith) (sane_cond (leb b 0xEF) _ _ (omega arith) (sane_cond (leb b 0xF0) _ _ (omega arith) (sane_cond (leb b 0xF3) _ _ (omega arith) (sane_cond (leb b 0xF4) _ _ (omega arith) tt)))))))))

sane_drop : (rs qs : List Range) → Sane (rs ++ qs) → Sane qs
sane_drop [] qs h = h
sane_drop (r ∷ rs) qs h = sane_drop rs qs h.1

lows : List Range → List ℕ
lows [] = []
lows (r ∷ rs) = r.low ∷ lows rs

fits_lows : (rs : List Range) → Sane rs → Fits rs (lows rs)
unfolding lows
fits_lows [] h = tt
fits_lows (r ∷ rs) h = ((omega arith, h.0), fits_lows rs h.1)

-- a byte that begins no char
abbrev BadO : ℕ → Option (List Range) → Type 0
BadO b None = In 0x80 0xC1 b ⊎ (0xF5 ≤ b)
BadO b (Some rs) = Unit {0}

bad_cond : (b n : ℕ) (x y : Option (List Range)) → (b ≤ n → BadO b x) → (n < b → BadO b y) → BadO b (cond (leb b n) x y)
bad_cond b n x y f g = go (leb b n) refl
  where
    go : (t : Bool) → leb b n ≡ t → BadO b (cond t x y)
    go true e = f (leb-true b n e)
    go false e = g (leb-false b n e)

bad : (b : ℕ) → BadO b (followers b)
bad b =
    bad_cond b 0x7F _ _ (λ _. tt) (λ h. bad_cond b 0xC1 _ _ (λ k. inl (omega arith)) (λ _. bad_cond b 0xDF _ _ (λ _. tt) (λ _. bad_cond b 0xE0 _ _ (λ _. tt) (λ _. bad_cond b 0xEC _ _ (λ _. tt)
    (λ _. bad_cond b 0xED _ _ (λ _. tt) (λ _. bad_cond b 0xEF _ _ (λ _. tt) (λ _. bad_cond b 0xF0 _ _ (λ _. tt) (λ _. bad_cond b 0xF3 _ _ (λ _. tt) (λ _. bad_cond b 0xF4 _ _ (λ _. tt) (λ l. inr (omega arith)))))))))))

-- where the walk stands: a text pre went by, and of the next char cs, after which these followers are due
abbrev Stands : List ℕ → List ℕ → List Range → ℕ → ℕ → Type 0
Stands pre [] [] s i = i ≡ length pre
Stands pre [] (r ∷ rs) s i = ⊥
Stands pre (b ∷ ts) [] s i = ⊥
Stands pre (b ∷ ts) (r ∷ rs) s i = (s ≡ length pre) × (i ≡ length pre + length (b ∷ ts)) × (taken : List Range) × (followers b ≡ Some (taken ++ (r ∷ rs))) × Fits taken ts

abbrev pub Meaning : List ℕ → Option Fault → Type 0
Meaning bs None = Text bs
Meaning bs (Some f) = Stops bs f

stops_at : (pre cs : List ℕ) (f : Fault) → f.place ≡ length pre → Text pre → Why f.cause cs → Stops (pre ++ cs) f
stops_at pre cs f e t w = record { before = rw (take_at pre cs f.place (sym e)) t; here = rw (drop_at pre cs f.place (sym e)) w }

begun : (b : ℕ) (ts : List ℕ) (taken : List Range) (r : Range) (rs : List Range) → followers b ≡ Some (taken ++ (r ∷ rs)) → Fits taken ts → Begun (b ∷ ts)
begun b ts taken r rs e f =
    let s : Sane (r ∷ rs) = sane_drop taken (r ∷ rs) (subst SaneO e (sane b)) in
    (r.low, lows rs, char b (taken ++ (r ∷ rs)) e (ts ++ (r.low ∷ lows rs)) (fits_more taken (r ∷ rs) ts (r.low ∷ lows rs) f ((omega arith, s.0), fits_lows rs s.1)))

never : (b : ℕ) (ts : List ℕ) (taken : List Range) (r : Range) (rs : List Range) (x : ℕ) → followers b ≡ Some (taken ++ (r ∷ rs)) → Fits taken ts → within r x ≡ false → (es : List ℕ) → Char (b ∷ (ts ++ (x ∷ es))) → ⊥
never b ts taken r rs x e f no' es h =
    let l = led h in
    let first : b ≡ l.first = cc l.is in
    let rest : ts ++ (x ∷ es) ≡ l.rest = cc l.is in
    let same : l.ranges ≡ taken ++ (r ∷ rs) = cc (l.takes, e, first) in
    let fit : Fits (taken ++ (r ∷ rs)) (ts ++ (x ∷ es)) = subst (λ (c : List ℕ). Fits (taken ++ (r ∷ rs)) c) (sym rest) (subst (λ (q : List Range). Fits q l.rest) same l.fit) in
    let yes' : within r x ≡ true = within_in r x (fits_at taken ts r rs x es f fit) in
    both_ways (within r x) no' yes'

abbrev Rest : List ℕ → Type 0
Rest bs = (due : List Range) (pre cs : List ℕ) (s i : ℕ) → Text pre → Stands pre cs due s i → Meaning (pre ++ (cs ++ bs)) (fault_from s i due bs)

-- the next byte is a first byte
start : (x : ℕ) (bs : List ℕ) → Rest bs → (pre : List ℕ) (s i : ℕ) → Text pre → i ≡ length pre → (o : Option (List Range)) → followers x ≡ o → Meaning (pre ++ (x ∷ bs)) (fault_from s i [] (x ∷ bs))
start x bs ih pre s i t e None f =
    subst (Meaning (pre ++ (x ∷ bs))) (sym (fault_step s i [] x bs None f))
    (stops_at pre (x ∷ bs) (record { place = i; cause = NoFirst }) e t (x, bs, refl, subst (BadO x) f (bad x)))
start x bs ih pre s i t e (Some []) f =
    subst (Meaning (pre ++ (x ∷ bs))) (sym (fault_step s i [] x bs (Some []) f))
    (subst (λ (l : List ℕ). Meaning l (fault_from i (i + 1) [] bs)) (append_assoc pre (x ∷ []) bs)
    (ih [] (pre ++ (x ∷ [])) [] i (i + 1) (push t (char x [] f [] tt)) (omega (arith, length_push pre x))))
start x bs ih pre s i t e (Some (r ∷ rs)) f =
    subst (Meaning (pre ++ (x ∷ bs))) (sym (fault_step s i [] x bs (Some (r ∷ rs)) f))
    (ih (r ∷ rs) pre (x ∷ []) i (i + 1) t (e, omega arith, [], f, tt))

-- the next byte is a follower
follow : (x : ℕ) (bs : List ℕ) → Rest bs → (pre : List ℕ) (b : ℕ) (ts : List ℕ) (r : Range) (rs : List Range) (s i : ℕ) → Text pre → Stands pre (b ∷ ts) (r ∷ rs) s i → (o : Bool) → within r x ≡ o → Meaning (pre ++ ((b ∷ ts) ++ (x ∷ bs))) (fault_from s i (r ∷ rs) (x ∷ bs))
follow x bs ih pre b ts r rs s i t st false e =
    subst (Meaning (pre ++ ((b ∷ ts) ++ (x ∷ bs)))) (sym (fault_step s i (r ∷ rs) x bs None (ap (λ o. cond o (Some rs) None) e)))
    (stops_at pre ((b ∷ ts) ++ (x ∷ bs)) (record { place = s; cause = NoFollower }) st.0 t
    (b ∷ ts, x, bs, refl, omega arith, begun b ts st.2 r rs st.3 st.4, never b ts st.2 r rs x st.3 st.4 e))
follow x bs ih pre b ts r [] s i t st true e =
    let whole : Char (b ∷ (ts ++ (x ∷ []))) = char b (st.2 ++ (r ∷ [])) st.3 (ts ++ (x ∷ [])) (fits_push st.2 ts r x st.4 (in_within r x e)) in
    let joins : (pre ++ (b ∷ (ts ++ (x ∷ [])))) ++ bs ≡ pre ++ (b ∷ (ts ++ (x ∷ bs))) = append_assoc pre (b ∷ (ts ++ (x ∷ []))) bs ∙ ap (λ l. pre ++ (b ∷ l)) (append_assoc ts (x ∷ []) bs) in
    subst (Meaning (pre ++ ((b ∷ ts) ++ (x ∷ bs)))) (sym (fault_step s i (r ∷ []) x bs (Some []) (ap (λ o. cond o (Some []) None) e)))
    (subst (λ (l : List ℕ). Meaning l (fault_from s (i + 1) [] bs)) joins
    (ih [] (pre ++ (b ∷ (ts ++ (x ∷ [])))) [] s (i + 1) (push t whole) (omega (arith, st.1, length-append pre (b ∷ (ts ++ (x ∷ []))), length_push ts x))))
follow x bs ih pre b ts r (q ∷ qs) s i t st true e =
    let joins : pre ++ (b ∷ ((ts ++ (x ∷ [])) ++ bs)) ≡ pre ++ (b ∷ (ts ++ (x ∷ bs))) = ap (λ l. pre ++ (b ∷ l)) (append_assoc ts (x ∷ []) bs) in
    subst (Meaning (pre ++ ((b ∷ ts) ++ (x ∷ bs)))) (sym (fault_step s i (r ∷ q ∷ qs) x bs (Some (q ∷ qs)) (ap (λ o. cond o (Some (q ∷ qs)) None) e)))
    (subst (λ (l : List ℕ). Meaning l (fault_from s (i + 1) (q ∷ qs) bs)) joins
    (ih (q ∷ qs) pre (b ∷ (ts ++ (x ∷ []))) s (i + 1) t
    (st.0, omega (arith, st.1, length_push ts x), st.2 ++ (r ∷ []), st.3 ∙ ap Some (sym (append_assoc st.2 (r ∷ []) (q ∷ qs))), fits_push st.2 ts r x st.4 (in_within r x e))))

means : (bs : List ℕ) → Rest bs
means [] [] pre [] s i t st = subst Text (sym (append-nil pre)) t
means [] [] pre (b ∷ ts) s i t st = absurd st
means [] (r ∷ rs) pre [] s i t st = absurd st
means [] (r ∷ rs) pre (b ∷ ts) s i t st =
    stops_at pre ((b ∷ ts) ++ []) (record { place = s; cause = Ends }) st.0 t
    (omega arith, subst Begun (sym (append-nil (b ∷ ts))) (begun b ts st.2 r rs st.3 st.4))
means (x ∷ bs) [] pre [] s i t st = start x bs (means bs) pre s i t st (followers x) refl
means (x ∷ bs) [] pre (b ∷ ts) s i t st = absurd st
means (x ∷ bs) (r ∷ rs) pre [] s i t st = absurd st
means (x ∷ bs) (r ∷ rs) pre (b ∷ ts) s i t st = follow x bs (means bs) pre b ts r rs s i t st (within r x) refl

pub first_fault_means : (bs : List ℕ) → Meaning bs (first_fault bs)
first_fault_means bs = means bs [] [] [] 0 0 none refl

-- and a text of the grammar has no fault
goes_fits : (rs : List Range) (cs bs : List ℕ) → Fits rs cs → goes_on rs (cs ++ bs) ≡ goes_on [] bs
goes_fits [] [] bs f = refl
goes_fits [] (c ∷ cs) bs f = absurd f
goes_fits (r ∷ rs) [] bs f = absurd f
goes_fits (r ∷ rs) (c ∷ cs) bs f = goes_step (r ∷ rs) c (cs ++ bs) (Some rs) (ap (λ o. cond o (Some rs) None) (within_in r c f.0)) ∙ goes_fits rs cs bs f.1

pub text_passes : {bs : List ℕ} → Text bs → is_text bs ≡ true
text_passes none = refl
text_passes (more {cs = cs} {bs = bs} h t) =
    let l = led h in
    ap (λ c. goes_on [] (c ++ bs)) l.is ∙ goes_step [] l.first (l.rest ++ bs) (Some l.ranges) l.takes ∙ goes_fits l.ranges l.rest bs l.fit ∙ text_passes t

pub passed : (bs : List ℕ) → first_fault bs ≡ None → Passed bs
passed bs e = record { text = subst (Meaning bs) e (first_fault_means bs); test = no_fault bs e; none = e }

pub refused : (bs : List ℕ) (f : Fault) → first_fault bs ≡ Some f → Refused bs f
refused bs f e = record {
  no_text = λ t. both_ways (is_text bs) (a_fault bs f e) (text_passes t);
  stops = subst (Meaning bs) e (first_fault_means bs);
  test = a_fault bs f e;
  first = e;
}

-- the test tells the texts of the grammar
pub text_from_test : (bs : List ℕ) → is_text bs ≡ true → Text bs
text_from_test bs e = by (first_fault bs) refl
  where
    by : (o : Option Fault) → first_fault bs ≡ o → Text bs
    by None f = subst (Meaning bs) f (first_fault_means bs)
    by (Some f) g = absurd (both_ways (is_text bs) (a_fault bs f g) e)
