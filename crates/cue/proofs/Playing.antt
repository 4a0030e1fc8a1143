-- What one record more adds to a transcript, and that a transcript is the only one. Assumes nothing.
use Rattle.std.proofs.Common.{◌≡◌, ℕ, ◌+◌, ◌<◌, ◌≤◌, Bool, true, false, cond, eqb, leb, List, [], ◌++◌, length, get_or, Some, None, Ok, Err, Option, Result, sym, refl, ap, ◌∙◌, subst, append_assoc, append-nil, arith}
use Rattle.std.proofs.lemmas.Bool.{leb-true}
use Rattle.faults.specs.Layers.{CueFault as Fault}
use Rattle.faults.specs.declared.cue.Cause.TheVariants.{Cut}
use Rattle.faults.specs.Layers.{CountFault}
use Rattle.cue.specs.declared.record.Cue.{Cue}
use Rattle.cue.specs.declared.record.Record.{Record}
use Rattle.cue.specs.declared.stop.Stop.{Stop}
use Rattle.cue.specs.declared.stop.Stop.TheVariants.{NoMemory, Refused}
use Rattle.cue.specs.Places.{place_of}
use Rattle.cue.specs.Prints.{line_of, refused_line, not_admitted, Plays, Prints, OnlyPrints}
use Rattle.cue.specs.Prints.Plays.{ends, answers, refuses}
use Rattle.cue.specs.Prints.Prints.{refused, plays}
use Rattle.cue.specs.Records.{record_at, whole}
use Rattle.cue.specs.Steps.{Played, Ran}

-- a record goes on, and not past the file's end
module _ (bs : List ℕ) (p : ℕ) where
  abbrev On : Result (Option Record) Fault → Type 0
  On (Ok None) = Unit {0}
  On (Ok (Some r)) = (p < r.next) × (r.next ≤ length bs)
  On (Err f) = Unit {0}

  on_cond : (b : Bool) (x y : Result (Option Record) Fault) → On x → On y → On (cond b x y)
  on_cond true x y h k = h
  on_cond false x y h k = k

  on_whole : (n : ℕ) (cue : Cue) → 0 < n → On (whole bs p n cue)
  on_whole n cue z = go (leb (p + n) (length bs)) refl
    where
      go : (b : Bool) → leb (p + n) (length bs) ≡ b → On (cond b (Ok (Some (record { cue = cue; next = p + n }))) (Err (record { place = p; cause = Cut })))
      go true e = (omega arith, leb-true (p + n) (length bs) e)
      go false e = tt

  on : On (record_at bs p)
  on =
      let k = get_or bs p 0 in
      on_cond (leb (length bs) p) _ _ tt
      (on_cond (eqb k 1) _ _ (on_whole 5 _ (omega arith)) (on_cond (eqb k 2) _ _ (on_whole 5 _ (omega arith)) (on_cond (eqb k 3) _ _ (on_whole 5 _ (omega arith))
      (on_cond (eqb k 4) _ _ (on_whole 5 _ (omega arith)) (on_cond (eqb k 5) _ _ (on_whole 5 _ (omega arith)) (on_cond (eqb k 6) _ _ (on_whole 9 _ (omega arith)) tt))))))

  pub goes_on : (r : Record) → record_at bs p ≡ Ok (Some r) → (p < r.next) × (r.next ≤ length bs)
  goes_on r e = subst On e on

-- after `number` records, at a place, these lines were added to what stood before, and what the rest prints ends them
pub record Sofar (text cues before : List ℕ) (number at : ℕ) (out : List ℕ) : Type 0 where
  pub few : number ≤ at
  pub within : at ≤ length cues
  pub lines : List ℕ
  pub added : out ≡ before ++ lines
  pub rest : (more : List ℕ) → Plays text cues number at more → Plays text cues 0 0 (lines ++ more)

pub none_yet : (text cues before : List ℕ) → Sofar text cues before 0 0 before
none_yet text cues before = record { few = omega arith; within = omega arith; lines = []; added = sym (append-nil before); rest = λ more h. h }

module _ {text cues before : List ℕ} {number at : ℕ} {out : List ℕ} (old : Sofar text cues before number at out) where
  pub one_more : (r : Record) (place : ℕ) (now' : List ℕ) → record_at cues at ≡ Ok (Some r) → place ≡ place_of text r.cue → now' ≡ out ++ line_of (number + 1) r.cue place → Sofar text cues before (number + 1) r.next now'
  one_more r place now' e is added =
      let on = goes_on cues at r e in
      let line = line_of (number + 1) r.cue (place_of text r.cue) in
      record {
        few = omega (arith, old.few, on.0);
        within = on.1;
        lines = old.lines ++ line;
        added = added ∙ ap (λ (p : ℕ). out ++ line_of (number + 1) r.cue p) is ∙ ap (λ (o : List ℕ). o ++ line_of (number + 1) r.cue (place_of text r.cue)) old.added ∙ append_assoc before old.lines _;
        rest = λ more h. subst (Plays text cues 0 0) (sym (append_assoc old.lines _ more)) (old.rest _ (answers r more e h refl));
      }

  pub all_played : record_at cues at ≡ Ok None → (lines : List ℕ) × (out ≡ before ++ lines) × Plays text cues 0 0 lines
  all_played e = (old.lines, old.added, subst (Plays text cues 0 0) (append-nil old.lines) (old.rest [] (ends e refl)))

  pub one_refused : (f : Fault) → record_at cues at ≡ Err f → (lines : List ℕ) × (out ≡ before ++ lines) × Plays text cues 0 0 (lines ++ refused_line f)
  one_refused f e = (old.lines, old.added, old.rest (refused_line f) (refuses f e refl))

-- what cues print is one thing
module _ (text cues : List ℕ) where
  plays_one : {n p : ℕ} {x y : List ℕ} → Plays text cues n p x → Plays text cues n p y → x ≡ y
  plays_one (ends e a) (ends f b) = a ∙ sym b
  plays_one (ends e a) (answers r rest f h b) = cc (e, f)
  plays_one (ends e a) (refuses g f b) = cc (e, f)
  plays_one (answers r rest e h a) (ends f b) = cc (e, f)
  plays_one {n} (answers r rest e h a) (answers q others f k b) =
      let same : r ≡ q = cc (e, f) in
      let more : rest ≡ others = plays_one (subst (λ (s : Record). Plays text cues (n + 1) s.next rest) same h) k in
      a ∙ ap (λ (s : Record). line_of (n + 1) s.cue (place_of text s.cue) ++ rest) same ∙ ap (λ (o : List ℕ). line_of (n + 1) q.cue (place_of text q.cue) ++ o) more ∙ sym b
  plays_one (answers r rest e h a) (refuses g f b) = cc (e, f)
  plays_one (refuses g e a) (ends f b) = cc (e, f)
  plays_one (refuses g e a) (answers r rest f h b) = cc (e, f)
  plays_one (refuses g e a) (refuses i f b) = let same : g ≡ i = cc (e, f) in a ∙ ap refused_line same ∙ sym b

  prints_one : {x y : List ℕ} → Prints text cues x → Prints text cues y → x ≡ y
  prints_one (refused f e a) (refused g h b) = let same : f ≡ g = cc (e, h) in a ∙ ap refused_line same ∙ sym b
  prints_one (refused f e a) (plays h k) = cc (e, h)
  prints_one (plays e k) (refused f h b) = cc (e, h)
  prints_one (plays e k) (plays h l) = plays_one k l

  pub only_prints : (out : List ℕ) → Prints text cues out → OnlyPrints text cues out
  only_prints out h = record { is = h; only = λ other k. prints_one k h }

-- what a transcript has added before any record, and after all that are played
module _ (text cues : List ℕ) where
  pub refused_first : (f : Fault) (before : List ℕ) → not_admitted text cues ≡ Some f → Ran text cues before (Err (Refused f)) before
  refused_first f before e = ([], sym (append-nil before), refused f e refl)

  module _ (held before after : List ℕ) (e : not_admitted text cues ≡ None) (same : held ≡ text) where
    pub ran : (r : Result (Unit {0}) Stop) → Played held cues before r after → Ran text cues before r after
    ran (Ok u) l = (l.0, l.1, plays e (subst (λ (t : List ℕ). Plays t cues 0 0 l.0) same l.2))
    ran (Err (NoMemory m)) l = tt
    ran (Err (Refused f)) l = (l.0, l.1, plays e (subst (λ (t : List ℕ). Plays t cues 0 0 (l.0 ++ refused_line f)) same l.2))

-- the whole is what the program prints
module _ (text cues before after : List ℕ) (z : before ≡ []) where
  pub all_printed : Ran text cues before (Ok tt) after → OnlyPrints text cues after
  all_printed l = only_prints text cues after (subst (Prints text cues) (sym (l.1 ∙ ap (λ (b : List ℕ). b ++ l.0) z)) l.2)

  pub refusal_printed : (f : Fault) (out : List ℕ) → Ran text cues before (Err (Refused f)) after → out ≡ after ++ refused_line f → OnlyPrints text cues out
  refusal_printed f out l a =
      let is : out ≡ l.0 ++ refused_line f = a ∙ ap (λ (b : List ℕ). b ++ refused_line f) (l.1 ∙ ap (λ (b : List ℕ). b ++ l.0) z) in
      only_prints text cues out (subst (Prints text cues) (sym is) l.2)

-- an answer is the one that was promised
pub same_answer : {a b : ℕ} → ◌≡◌ {A = Result ℕ CountFault} (Ok a) (Ok b) → a ≡ b
same_answer e = cc
