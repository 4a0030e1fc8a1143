use Rattle.std.proofs.Common.{◌≡◌, ℕ, suc, ◌+◌, ◌-◌, true, false, ◌&&◌, ◌||◌, eqb, ◌≢◌, List, get_or, sym, refl, ap, ◌∙◌, ⊎_elim, arith}
use Rattle.std.proofs.lemmas.Bool.{cases_eq, or_from, and_left}
use Rattle.std.proofs.lemmas.Bool.Decides.{nat_tests}
use Rattle.line_rows.specs.Begins.{some_begins}
use Rattle.line_rows.specs.Marks.{separators}
use Rattle.line_rows.proofs.Flags.{down}
use Rattle.line_rows.proofs.Edges.{Within, separators_reach, within, no_byte, none_behind, nth_behind}
use Rattle.line_rows.proofs.row.TextRow.separators.Given as given
use Rattle.line_rows.proofs.row.TextRow.separators.Goals as goal
use Rattle.line_rows.proofs.row.TextRow.separators.Goals.{After-separators_within-found}

-- where E2 does not stand, no separator begins
no_first : (t : List ℕ) (p : ℕ) → eqb (get_or t p 0) 226 ≡ false → some_begins separators t p ≡ false
no_first t p e = or_from _ _ (and_left _ _ e) (or_from _ _ (and_left _ _ e) refl)

second : (a x y : ℕ) → ((eqb a 226 && (eqb x 128 && (eqb y 168 && true))) || ((eqb a 226 && (eqb x 128 && (eqb y 169 && true))) || false)) ≡ true → eqb x 226 ≡ false
second a x y e = grind (arith, nat_tests)

-- where a separator begins, none begins right after
apart : (t : List ℕ) (p q : ℕ) → q ≡ suc p → some_begins separators t p ≡ true → some_begins separators t q ≡ false
apart t p q e h = ap (some_begins separators t) e ∙ no_first t (suc p) (second (get_or t p 0) (get_or t (suc p) 0) (get_or t (suc (suc p)) 0) h)

-- but for the last two lanes, what is found is right
found : (g : given.Over) (c : After-separators_within-found g) → Within (some_begins separators c.args.self.now.text.now) c.args.self.now.place g.K.ByteChunk.SIZE 2 (g.K.ByteChunk.lanes c.separators_within-found.result)
found g c = within c.args.self.now.at separators_reach _ c.separators_within-found.ensures

pub returns-then-is_zero : goal.returns-then-is_zero
returns-then-is_zero g c =
    let z = sym c.if-is_zero.ensures in
    λ i l. down _ z i _ (no_first c.args.self.now.text.now (c.args.self.now.place + i) (no_byte c.args.self.now.at 226 _ (omega arith) c.cmp_eq_byte-first.ensures z i l))

pub returns-then-separator_at : goal.returns-then-separator_at
returns-then-separator_at g c =
    let here = sym c.if-separator_at.ensures in
    nth_behind (found g (goal.at.returns-then-separator_at g c).After-separators_within-found) 1 c.SIZE.result _ c.SIZE.ensures (g.met.K.ByteChunk.row c.separators_within-found.result) (omega arith) (omega (arith, g.met.K.ByteChunk.wide))
    here (λ i l k q. apart c.args.self.now.text.now (c.args.self.now.place + c.SIZE.result - 2) (c.args.self.now.place + i) (omega (arith, c.SIZE.ensures, g.met.K.ByteChunk.wide)) here) c.inc_nth_from_end_lex_byte.ensures

pub returns-then-separator_at-2 : goal.returns-then-separator_at-2
returns-then-separator_at-2 g c =
    nth_behind (found g (goal.at.returns-then-separator_at-2 g c).After-separators_within-found) 0 c.SIZE.result _ c.SIZE.ensures (g.met.K.ByteChunk.row c.separators_within-found.result) (omega arith) (omega (arith, g.met.K.ByteChunk.wide))
    (sym c.if-separator_at-2.ensures)
    (λ i l k q. let n : c.args.self.now.place + i ≡ c.args.self.now.place + c.SIZE.result - 2 = omega (arith, c.SIZE.ensures) in ap (some_begins separators c.args.self.now.text.now) n ∙ sym c.if-separator_at.ensures)
    c.inc_nth_from_end_lex_byte-then-separator_at-2.ensures

pub returns : goal.returns
returns g c =
    none_behind (found g (goal.at.returns g c).After-separators_within-found)
    (λ i l k.
    ⊎_elim
    (λ (q : i ≡ g.K.ByteChunk.SIZE - 1). let n : c.args.self.now.place + i ≡ c.args.self.now.place + c.SIZE.result - 1 = omega (arith, c.SIZE.ensures) in ap (some_begins separators c.args.self.now.text.now) n ∙ sym c.if-separator_at-2.ensures)
    (λ (q : i ≢ g.K.ByteChunk.SIZE - 1). let n : c.args.self.now.place + i ≡ c.args.self.now.place + c.SIZE.result - 2 = omega (arith, c.SIZE.ensures) in ap (some_begins separators c.args.self.now.text.now) n ∙ sym c.if-separator_at.ensures)
    (cases_eq i (g.K.ByteChunk.SIZE - 1)))
