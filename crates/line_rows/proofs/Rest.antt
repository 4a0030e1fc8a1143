-- The breaks of what is left of a text from a place on. Assumes nothing.
use Rattle.std.proofs.Common.{◌≡◌, ℕ, zero, suc, ◌+◌, ◌-◌, ◌<◌, ◌≤◌, min, Bool, not, ◌&&◌, List, length, get_or, take, drop, refl, ap, ◌∙◌, ⊎_elim, arith, length-drop}
use Rattle.std.proofs.lemmas.List.{get_or-drop}
use Rattle.std.proofs.lemmas.Slice.{between_to_end}
use Rattle.std.proofs.lemmas.Bool.{cases_lt}
use Rattle.cells.specs.Cells.{count}
use Rattle.measures.specs.Breaks.{unicode_breaks, line_weight}
use Rattle.line_rows.specs.Begins.{begins_at, some_begins, cr_lf, break_counts, flag, breaks_in}
use Rattle.line_rows.specs.Passing.{Counted, Passed}
use Rattle.line_rows.proofs.Counts.{counted_below}
use Rattle.line_rows.proofs.Edges.{begins_same, some_same}
use Rattle.line_rows.proofs.Pending.{all_ended}

-- with room for as many breaks as there are bytes, all bytes are passed
pub whole : {t : List ℕ} {bytes most n p : ℕ} → Passed t bytes most n p → length t ≤ most → p ≡ min bytes (length t)
whole {t} {bytes} {most} {n} w h =
    ⊎_elim (λ (l : n < most). w.all l) (λ (l : most ≤ n). omega (arith, counted_below w.counted, w.within)) (cases_lt n most)

module _ (t : List ℕ) (place : ℕ) where
  drop_counts : (p : ℕ) → break_counts (drop place t) p ≡ break_counts t (place + p)
  drop_counts p =
      ap (λ (b : Bool). b && not (begins_at cr_lf (drop place t) p)) (some_same 3 unicode_breaks refl (drop place t) t p (place + p) (λ j l. far j))
      ∙ ap (λ (b : Bool). some_begins unicode_breaks t (place + p) && not b) (begins_same cr_lf (drop place t) t p (place + p) (λ j l. far j))
    where
      far : (j : ℕ) → get_or (drop place t) (p + j) 0 ≡ get_or t (place + p + j) 0
      far j = let e : place + (p + j) ≡ place + p + j = omega arith in get_or-drop place t (p + j) 0 ∙ ap (λ (k : ℕ). get_or t k 0) e

  drop_breaks : (p : ℕ) → breaks_in t place + breaks_in (drop place t) p ≡ breaks_in t (place + p)
  drop_breaks zero = let e : place + 0 ≡ place = omega arith in omega (arith, ap (breaks_in t) e)
  drop_breaks (suc p) = let e : place + suc p ≡ suc (place + p) = omega arith in omega (arith, drop_breaks p, ap flag (drop_counts p), ap (breaks_in t) e)

  -- what `&text[place..]` is
  abbrev pub rest : List ℕ
  rest = take (length t - place) (drop place t)

  rest_is : rest ≡ drop place t
  rest_is = between_to_end t place (length t) (omega arith)

  rest_length : length rest ≡ length t - place
  rest_length = ap length rest_is ∙ length-drop place t

  rest_breaks : (p : ℕ) → breaks_in t place + breaks_in rest p ≡ breaks_in t (place + p)
  rest_breaks p = ap (λ (xs : List ℕ). breaks_in t place + breaks_in xs p) rest_is ∙ drop_breaks p

  module _ (fits : place ≤ length t) where
    -- the breaks before the place and all after it
    pub rest_all : {found n p : ℕ} → found ≡ breaks_in t place → Passed rest (length rest) (length rest) n p → found + n ≡ count (line_weight unicode_breaks) t
    rest_all {found} {n} {p} e w =
        let l : place + p ≡ length t = omega (arith, whole w (omega arith), rest_length) in
        omega (arith, w.counted.right, rest_breaks p, ap (breaks_in t) l, all_ended t)

    -- a count that goes on
    pub rest_counted : {k found bytes n p : ℕ} → Counted t k found place → Passed rest bytes (k - found) n p → Counted t k (found + n) (place + p)
    rest_counted {k} {found} {bytes} {n} {p} c w = record {
      right = omega (arith, c.right, w.counted.right, rest_breaks p);
      few = omega (arith, c.few, w.counted.few);
      fewest = λ q l.
          ⊎_elim
          (λ (a : q < place). c.fewest q a)
          (λ (a : place ≤ q).
          let e : place + (q - place) ≡ q = omega arith in
          omega (arith, c.right, c.few, w.counted.fewest (q - place) (omega arith), rest_breaks (q - place), ap (breaks_in t) e))
          (cases_lt q place);
    }
