-- Flags of a row against the text that goes on behind it. Assumes nothing.
use Rattle.std.proofs.Common.{◌≡◌, ℕ, suc, ◌+◌, ◌-◌, ◌<◌, ◌≤◌, Bool, true, false, ◌&&◌, ◌||◌, eqb, leb, ◌≢◌, List, [], ◌∷◌, map, length, get_or, sym, refl, ap, ◌∙◌, subst, ⊎_elim, arith}
use Rattle.std.proofs.lemmas.Simd.{length-chunk, get_or-chunk}
use Rattle.std.proofs.lemmas.List.{get_or_past, get_or-set_same, get_or-set_other}
use Rattle.std.proofs.lemmas.Bool.{cases_lt, cases_eq, and_left, and_right, and_parts, ne_eqb, leb-true}
use Rattle.std.proofs.lemmas.Bool.Decides.{nat_tests}
use Rattle.chunk.specs.Rows.{Row, all_zero, is_byte, at_lane}
use Rattle.line_rows.specs.Begins.{begins_at, some_begins, flag}
use Rattle.line_rows.specs.Marks.{RowAt, Flagged, Marked, separators}
use Rattle.line_rows.proofs.Flags.{is_flags, none_up}

-- ---- what begins at a place, by the bytes from there on

pub begins_same : (s t u : List ℕ) (p q : ℕ) → ((j : ℕ) → j < length s → get_or t (p + j) 0 ≡ get_or u (q + j) 0) → begins_at s t p ≡ begins_at s u q
begins_same [] t u p q h = refl
begins_same (x ∷ s) t u p q h =
    let a : p + 0 ≡ p = omega arith in
    let b : q + 0 ≡ q = omega arith in
    let here : get_or t p 0 ≡ get_or u q 0 = ap (λ (k : ℕ). get_or t k 0) (sym a) ∙ h 0 (omega arith) ∙ ap (λ (k : ℕ). get_or u k 0) b in
    let rest = begins_same s t u (suc p) (suc q) (λ j l.
    let d : suc p + j ≡ p + suc j = omega arith in
    let e : q + suc j ≡ suc q + j = omega arith in
    ap (λ (k : ℕ). get_or t k 0) d ∙ h (suc j) (omega arith) ∙ ap (λ (k : ℕ). get_or u k 0) e) in
    ap (λ (y : ℕ). eqb y x && begins_at s t (suc p)) here ∙ ap (λ (b : Bool). eqb (get_or u q 0) x && b) rest

-- breaks of at most n bytes each
abbrev short : ℕ → List (List ℕ) → Bool
short n [] = true
short n (s ∷ breaks) = leb (length s) n && short n breaks

pub some_same : (n : ℕ) (breaks : List (List ℕ)) → short n breaks ≡ true → (t u : List ℕ) (p q : ℕ) → ((j : ℕ) → j < n → get_or t (p + j) 0 ≡ get_or u (q + j) 0) → some_begins breaks t p ≡ some_begins breaks u q
some_same n [] e t u p q h = refl
some_same n (s ∷ breaks) e t u p q h =
    let ab = and_parts (leb (length s) n) (short n breaks) e in
    let few = leb-true (length s) n ab.0 in
    ap (λ (b : Bool). b || some_begins breaks t p) (begins_same s t u p q (λ j l. h j (omega arith)))
    ∙ ap (λ (b : Bool). begins_at s u q || b) (some_same n breaks ab.1 t u p q h)

-- a test of a place that looks at the m bytes after it, the last of them not 0
pub record Reaches (m : ℕ) (f : List ℕ → ℕ → Bool) : Type 0 where
  pub same : (t u : List ℕ) (p q : ℕ) → ((j : ℕ) → j ≤ m → get_or t (p + j) 0 ≡ get_or u (q + j) 0) → f t p ≡ f u q
  pub cut : (t : List ℕ) (p : ℕ) → get_or t (p + m) 0 ≡ 0 → f t p ≡ false

pub pair_reaches : (a b : ℕ) → 0 < b → Reaches 1 (begins_at (a ∷ b ∷ []))
pair_reaches a b h = record {
  same = λ t u p q e. begins_same (a ∷ b ∷ []) t u p q (λ j l. e j (omega arith));
  cut = λ t p e.
      let n : suc p ≡ p + 1 = omega arith in
      and_right (eqb (get_or t p 0) a) _ (and_left _ true (ap (λ (k : ℕ). eqb (get_or t k 0) b) n ∙ ap (λ (x : ℕ). eqb x b) e ∙ ne_eqb 0 b (λ z. omega arith)));
}

no_third : (a x y : ℕ) → y ≡ 0 → ((eqb a 226 && (eqb x 128 && (eqb y 168 && true))) || ((eqb a 226 && (eqb x 128 && (eqb y 169 && true))) || false)) ≡ false
no_third a x y e = grind (arith, nat_tests)

pub separators_reach : Reaches 2 (some_begins separators)
separators_reach = record {
  same = λ t u p q e. some_same 3 separators refl t u p q (λ j l. e j (omega arith));
  cut = λ t p e. let n : suc (suc p) ≡ p + 2 = omega arith in no_third (get_or t p 0) (get_or t (suc p) 0) (get_or t (suc (suc p)) 0) (ap (λ (k : ℕ). get_or t k 0) n ∙ e);
}

-- ---- a row of a text

-- the flags of a row are those of the text but in its last m lanes, where none is up
pub record Within (f : ℕ → Bool) (place w m : ℕ) (found : List ℕ) : Type 0 where
  pub inner : (i : ℕ) → i + m < w → get_or found i 0 ≡ flag (f (place + i))
  pub outer : (i : ℕ) → w ≤ i + m → get_or found i 0 ≡ 0

module _ {t row : List ℕ} {place w : ℕ} (at : RowAt t place w row) where
  pub row_in : (i : ℕ) → i < w → get_or row i 0 ≡ get_or t (place + i) 0
  row_in i h = ap (λ (xs : List ℕ). get_or xs i 0) at.is ∙ get_or-chunk place w t i 0 h

  row_out : (i : ℕ) → w ≤ i → get_or row i 0 ≡ 0
  row_out i h = get_or_past row i 0 (omega (arith, ap length at.is, length-chunk place w t at.fits))

  pub within : {m : ℕ} {f : List ℕ → ℕ → Bool} → Reaches m f → (found : List ℕ) → Flagged (f row) found → Within (f t) place w m found
  within {m} {f} r found h = record {
    inner = λ i l. h i ∙ ap flag (r.same row t i (place + i) (λ j k.
        let e : place + (i + j) ≡ place + i + j = omega arith in
        row_in (i + j) (omega arith) ∙ ap (λ (n : ℕ). get_or t n 0) e));
    outer = λ i l. h i ∙ ap flag (r.cut row i (row_out (i + m) l));
  }

  -- the row has no such byte
  pub no_byte : (a : ℕ) (first : List ℕ) → 0 < a → first ≡ map (is_byte a) row → all_zero first ≡ true → (i : ℕ) → i < w → eqb (get_or t (place + i) 0) a ≡ false
  no_byte a first h e z i l = ap (λ (x : ℕ). eqb x a) (sym (row_in i l)) ∙ none_up (λ (k : ℕ). eqb (get_or row k 0) a) first z (is_flags a row first h e) i

-- ---- the last lanes, by what stands behind the row

module _ {f : ℕ → Bool} {place w m : ℕ} {found : List ℕ} (h : Within f place w m found) where
  pub none_behind : ((i : ℕ) → i < w → w ≤ i + m → f (place + i) ≡ false) → Marked f place w found
  none_behind never i l =
      ⊎_elim
      (λ (a : i + m < w). h.inner i a)
      (λ (a : w ≤ i + m). h.outer i a ∙ ap flag (sym (never i l a)))
      (cases_lt (i + m) w)

  one_behind : (at : ℕ) (out : List ℕ) → Row w found → at < w → w ≤ at + m → f (place + at) ≡ true → ((i : ℕ) → i < w → w ≤ i + m → i ≢ at → f (place + i) ≡ false)
      → out ≡ at_lane at (λ x. x + 1) found → Marked f place w out
  one_behind at out r la ma sure never e i l =
      let long : length found ≡ w = r.long in
      let same : get_or out at 0 ≡ get_or found at 0 + 1 = ap (λ (xs : List ℕ). get_or xs at 0) e ∙ get_or-set_same found at (get_or found at 0 + 1) 0 (omega arith) in
      ⊎_elim
      (λ (q : i ≡ at).
      subst (λ (k : ℕ). get_or out k 0 ≡ flag (f (place + k))) (sym q)
      (same ∙ ap (λ (n : ℕ). n + 1) (h.outer at ma) ∙ ap flag (sym sure)))
      (λ (q : i ≢ at).
      ap (λ (xs : List ℕ). get_or xs i 0) e ∙ get_or-set_other found at i (get_or found at 0 + 1) 0 q
      ∙ ⊎_elim
      (λ (a : i + m < w). h.inner i a)
      (λ (a : w ≤ i + m). h.outer i a ∙ ap flag (sym (never i l a q)))
      (cases_lt (i + m) w))
      (cases_eq i at)

  -- a flag in the lane n before the last, which the row itself does not show
  pub room_behind : (n : ℕ) → n < m → m ≤ w → (n < w) × (get_or found (w - 1 - n) 0 < 255)
  room_behind n l k = (omega arith, omega (arith, h.outer (w - 1 - n) (omega arith)))

  pub nth_behind : (n size : ℕ) (out : List ℕ) → size ≡ w → Row w found → n < m → m ≤ w → f (place + size - suc n) ≡ true → ((i : ℕ) → i < w → w ≤ i + m → i ≢ w - 1 - n → f (place + i) ≡ false)
      → out ≡ at_lane (w - 1 - n) (λ x. x + 1) found → Marked f place w out
  nth_behind n size out z r l k sure never e =
      let q : place + (w - 1 - n) ≡ place + size - suc n = omega arith in
      one_behind (w - 1 - n) out r (omega arith) (omega arith) (ap f q ∙ sure) never e

-- the last lane alone is open, and has no flag
pub last_none : {f : ℕ → Bool} {place w : ℕ} {found : List ℕ} → Within f place w 1 found → (size : ℕ) → size ≡ w → f (place + size - 1) ≡ false → Marked f place w found
last_none {f} {place} {w} h size z e =
    none_behind h (λ i l k. let q : place + i ≡ place + size - 1 = omega arith in ap f q ∙ e)

-- ---- pairs

-- where `found` has the flags of `first` whose next byte is b
module _ {t row : List ℕ} {place w : ℕ} (at : RowAt t place w row) where
  pub pairs_within : (a b : ℕ) (first found : List ℕ) → 0 < a → 0 < b → first ≡ map (is_byte a) row
      → ((f : ℕ → Bool) → Flagged f first → Flagged (λ i. f i && eqb (get_or row (suc i) 0) b) found) → Within (begins_at (a ∷ b ∷ []) t) place w 1 found
  pairs_within a b first found za zb e h =
      within at (pair_reaches a b zb) found (λ i.
      h (λ k. eqb (get_or row k 0) a) (is_flags a row first za e) i
      ∙ ap (λ (c : Bool). flag (eqb (get_or row i 0) a && c)) (sym (and_true (eqb (get_or row (suc i) 0) b))))
    where
      and_true : (c : Bool) → (c && true) ≡ c
      and_true true = refl
      and_true false = refl
