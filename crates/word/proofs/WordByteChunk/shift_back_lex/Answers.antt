use Rattle.std.proofs.Common.{◌≡◌, ℕ, ◌*◌, ◌/◌, ◌^◌, ◌<◌, ◌≤◌, ltb, sym, ap, ◌∙◌, subst, ⊎_elim, arith}
use native.Mathlib.Nat.{div-eq_of_lt}
use Rattle.std.specs.Bool.{if◌then◌else◌}
use Rattle.std.proofs.lemmas.Bool.{cases_lt, le-ltb}
use Rattle.std.proofs.lemmas.Bool.Decides.{nat_tests}
use Rattle.chunk.specs.Rows.{bytes_of}
use Rattle.chunk.proofs.Moves.{bytes_back}
use Rattle.word.proofs.WordByteChunk.shift_back_lex.Goals as goal

-- past the last bit nothing is left
unbounded : (x k : ℕ) → x < 2 ^ 64 → k ≤ 64 → (if ltb k 64 then x / 2 ^ k else 0) ≡ x / 2 ^ k
unbounded x k fits le = ⊎_elim (λ (lt : k < 64). grind (arith, nat_tests)) (λ (all : 64 ≤ k).
    let full : 64 ≡ k = omega arith in
    ap (λ t. if t then x / 2 ^ k else 0) (le-ltb k 64 all) ∙ sym (div-eq_of_lt (subst (λ t. x < 2 ^ t) full fits))) (cases_lt k 64)

pub returns : goal.returns
returns c =
    ap (bytes_of 8) (c.unbounded_shr.ensures ∙ unbounded c.args.self.bits (c.args.n * 8) (omega arith) (omega (arith, c.requires)))
    ∙ bytes_back 8 c.args.n c.args.self.bits c.requires (omega arith)
