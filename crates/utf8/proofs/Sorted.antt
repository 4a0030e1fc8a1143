-- A table that passes the one test has the kind of each byte at its place. Assumes nothing.
use Rattle.std.proofs.Common.{◌≡◌, ℕ, zero, suc, ◌+◌, ◌<◌, Bool, true, false, cond, eqb, List, [], ◌∷◌, length, get_or, sym, refl, ap, ◌∙◌, add-zero, add-suc, suc-add, zero-add, arith}
use Rattle.std.proofs.lemmas.Bool.{eqb-true}
use Rattle.utf8.specs.declared.kind.ByteKind.{ByteKind}
use Rattle.utf8.specs.declared.kind.ByteKind.TheVariants.{One, TailLow, TailMid, TailHigh, Two, ThreeE0, Three, ThreeEd, FourF0, Four, FourF4, Never}
use Rattle.utf8.specs.Kinds.{kind_of, code, sorts_from, sorts}

back : ℕ → ByteKind
back n = get_or (One ∷ TailLow ∷ TailMid ∷ TailHigh ∷ Two ∷ ThreeE0 ∷ Three ∷ ThreeEd ∷ FourF0 ∷ Four ∷ FourF4 ∷ Never ∷ []) n Never

there : (k : ByteKind) → back (code k) ≡ k
unfolding back
there One = refl
there TailLow = refl
there TailMid = refl
there TailHigh = refl
there Two = refl
there ThreeE0 = refl
there Three = refl
there ThreeEd = refl
there FourF0 = refl
there Four = refl
there FourF4 = refl
there Never = refl

same : (k l : ByteKind) → eqb (code k) (code l) ≡ true → k ≡ l
same k l e = sym (there k) ∙ ap back (eqb-true (code k) (code l) e) ∙ there l

passes : (a b : Bool) → cond a b false ≡ true → (a ≡ true) × (b ≡ true)
passes true b e = (refl, e)
passes false b e = (e, absurd (let z : ◌≡◌ {A = ℕ} 0 1 = cc in omega arith))

from : (table : List ByteKind) (b : ℕ) → sorts_from b table ≡ true → (i : ℕ) (d : ByteKind) → i < length table → get_or table i d ≡ kind_of (b + i)
from [] b e i d h = absurd (omega arith)
from (k ∷ table) b e zero d h = same k (kind_of b) (passes (eqb (code k) (code (kind_of b))) _ e).0 ∙ ap kind_of (sym (add-zero b))
from (k ∷ table) b e (suc i) d h =
    from table (suc b) (passes (eqb (code k) (code (kind_of b))) _ e).1 i d (omega arith) ∙ ap kind_of (suc-add b i ∙ sym (add-suc b i))

pub sorted : (table : List ByteKind) → sorts table ≡ true → (b : ℕ) (d : ByteKind) → b < 256 → get_or table b d ≡ kind_of b
sorted table e b d h =
    let p = passes (eqb (length table) 256) (sorts_from 0 table) e in
    let l : length table ≡ 256 = eqb-true (length table) 256 p.0 in
    from table 0 p.1 b d (omega arith) ∙ ap kind_of (zero-add b)
