use Rattle.std.proofs.Common.{[], ◌∷◌, sym, arith}
use Rattle.std.proofs.lemmas.Bool.{and_left}
use Rattle.line_rows.specs.Begins.{begins_at}
use Rattle.line_rows.proofs.Flags.{down}
use Rattle.line_rows.proofs.Edges.{Within, pairs_within, no_byte, room_behind, nth_behind, last_none}
use Rattle.line_rows.proofs.row.TextRow.pairs.Given as given
use Rattle.line_rows.proofs.row.TextRow.pairs.Goals as goal
use Rattle.line_rows.proofs.row.TextRow.pairs.Goals.{After-followed_by-found}

-- but for the last lane, what is found is right
found : (g : given.Over) (c : After-followed_by-found g) → Within (begins_at (c.args.first ∷ c.args.second ∷ []) c.args.self.now.text.now) c.args.self.now.place g.K.ByteChunk.SIZE 1 (g.K.ByteChunk.lanes c.followed_by-found.result)
found g c = pairs_within c.args.self.now.at c.args.first c.args.second _ _ c.requires.first c.requires.second c.cmp_eq_byte-flags.ensures c.followed_by-found.ensures

pub returns-then-is_zero : goal.returns-then-is_zero
returns-then-is_zero g c =
    let z = sym c.if-is_zero.ensures in
    λ i l. down _ z i _ (and_left _ _ (no_byte c.args.self.now.at c.args.first _ c.requires.first c.cmp_eq_byte-flags.ensures z i l))

pub inc_nth_from_end_lex_byte-requires : goal.inc_nth_from_end_lex_byte-requires
inc_nth_from_end_lex_byte-requires g c =
    room_behind (found g (goal.at.inc_nth_from_end_lex_byte-requires g c).After-followed_by-found) 0 (omega arith) (omega (arith, g.met.K.ByteChunk.wide))

pub returns-then-pair_at : goal.returns-then-pair_at
returns-then-pair_at g c =
    nth_behind (found g (goal.at.returns-then-pair_at g c).After-followed_by-found) 0 c.SIZE.result _ c.SIZE.ensures (g.met.K.ByteChunk.row c.followed_by-found.result) (omega arith) (omega (arith, g.met.K.ByteChunk.wide))
    (sym c.if-pair_at.ensures) (λ i l k q. absurd (q (omega arith))) c.inc_nth_from_end_lex_byte.ensures

pub returns : goal.returns
returns g c = last_none (found g (goal.at.returns g c).After-followed_by-found) c.SIZE.result c.SIZE.ensures (sym c.if-pair_at.ensures)
