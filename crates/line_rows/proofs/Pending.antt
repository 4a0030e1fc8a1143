-- Breaks counted where they begin against breaks that have ended. Assumes nothing.
use Rattle.std.proofs.Common.{◌≡◌, ℕ, zero, suc, ◌+◌, ◌<◌, ◌≤◌, false, not, ◌&&◌, ◌||◌, eqb, ltb, List, length, get_or, refl, ap, ⊎_elim, arith}
use Rattle.std.proofs.lemmas.List.{get_or_past}
use Rattle.std.proofs.lemmas.Bool.{cases_lt}
use Rattle.std.proofs.lemmas.Bool.Decides.{nat_tests}
use Rattle.utf8.specs.Places.{follower}
use Rattle.utf8.proofs.Cuts.{Cut}
use Rattle.cells.specs.Cells.{index, count}
use Rattle.cells.specs.Near.{back}
use Rattle.measures.specs.Breaks.{unicode_breaks, in_crlf, line_weight}
use Rattle.line_rows.specs.Begins.{break_counts, flag, breaks_in}
use Rattle.line_rows.proofs.Counts.{breaks_below}

-- a break of one byte a, before a byte x; CR LF counts and ends at its LF
single : ℕ → ℕ → ℕ
single a x = flag ((ltb 9 a && ltb a 13) || (eqb a 13 && not (eqb x 10)))

-- a next line, and a separator, byte by byte
double : ℕ → ℕ → ℕ
double a b = flag (eqb a 0xC2 && eqb b 0x85)

triple : ℕ → ℕ → ℕ → ℕ
triple a b c = flag (eqb a 0xE2 && (eqb b 0x80 && (eqb c 0xA8 || eqb c 0xA9)))

begins : (t : List ℕ) (p : ℕ) → flag (break_counts t p) ≡ single (get_or t p 0) (get_or t (suc p) 0) + double (get_or t p 0) (get_or t (suc p) 0) + triple (get_or t p 0) (get_or t (suc p) 0) (get_or t (suc (suc p)) 0)
unfolding single double triple
begins t p = grind (arith, nat_tests)

ends : (t : List ℕ) (p : ℕ) → line_weight unicode_breaks t (suc p) ≡ single (get_or t p 0) (get_or t (suc p) 0) + double (back 1 t p) (get_or t p 0) + triple (back 2 t p) (back 1 t p) (get_or t p 0)
unfolding single double triple
ends t p = grind (arith, nat_tests)

-- what ends at a place or would end there but for an LF, by the three bytes before alone
cr_alone : (a x : ℕ) → single a x + flag (eqb a 13 && eqb x 10) ≡ single a 0
unfolding single
cr_alone a x = grind (arith, nat_tests)

pub ends_alone : (t u : List ℕ) (p : ℕ) → get_or t p 0 ≡ get_or u p 0 → back 1 t p ≡ back 1 u p → back 2 t p ≡ back 2 u p
    → line_weight unicode_breaks t (suc p) + flag (in_crlf t (suc p)) ≡ line_weight unicode_breaks u (suc p) + flag (in_crlf u (suc p))
ends_alone t u p ea eb ec =
    let a : single (get_or t p 0) 0 ≡ single (get_or u p 0) 0 = ap (λ (x : ℕ). single x 0) ea in
    let b : double (back 1 t p) (get_or t p 0) ≡ double (back 1 u p) (get_or u p 0) = cc in
    let c : triple (back 2 t p) (back 1 t p) (get_or t p 0) ≡ triple (back 2 u p) (back 1 u p) (get_or u p 0) = cc in
    omega (arith, ends t p, ends u p, cr_alone (get_or t p 0) (get_or t (suc p) 0), cr_alone (get_or u p 0) (get_or u (suc p) 0))

-- what has begun before a place and ends after it, by the two bytes before and the two after
pub pending : List ℕ → ℕ → ℕ
pending t p = double (back 1 t p) (back 0 t p) + triple (back 1 t p) (back 0 t p) (get_or t (suc p) 0) + triple (back 2 t p) (back 1 t p) (back 0 t p)

step : (t : List ℕ) (p : ℕ) → flag (break_counts t p) + pending t p ≡ line_weight unicode_breaks t (suc p) + pending t (suc p)
unfolding pending
step t p = omega (arith, begins t p, ends t p)

-- what has begun has ended or is pending
pub begun_ended : (t : List ℕ) (p : ℕ) → breaks_in t p ≡ index (line_weight unicode_breaks) t p + pending t p
unfolding pending double triple
begun_ended t zero = refl
begun_ended t (suc p) = omega (arith, begun_ended t p, step t p)

none_pending : (t : List ℕ) (p : ℕ) → follower (get_or t p 0) ≡ false → pending t p ≡ 0
unfolding pending double triple
none_pending t p e = grind (arith, nat_tests)

-- at a char start nothing is pending
pub start_ended : (t : List ℕ) (p : ℕ) → Cut t p → breaks_in t p ≡ index (line_weight unicode_breaks) t p
start_ended t p c =
    let z : follower (get_or t p 0) ≡ false =
    ⊎_elim (λ (h : p < length t). c.1 h) (λ (h : length t ≤ p). ap follower (get_or_past t p 0 h)) (cases_lt p (length t)) in
    omega (arith, begun_ended t p, none_pending t p z)

-- nor at the end of any bytes
pub all_ended : (t : List ℕ) → breaks_in t (length t) ≡ count (line_weight unicode_breaks) t
all_ended t = start_ended t (length t) (omega arith, λ h. absurd (omega arith))

pub count_below : (t : List ℕ) → count (line_weight unicode_breaks) t ≤ length t
count_below t = omega (arith, all_ended t, breaks_below t (length t))
