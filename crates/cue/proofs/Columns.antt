-- The place of a column, from the answers of the walks. Assumes nothing.
use Rattle.std.proofs.Common.{◌≡◌, ℕ, ◌+◌, ◌-◌, ◌^◌, ◌<◌, ◌≤◌, min, true, ltb, List, length, sym, ap, ◌∙◌, ⊎_elim, arith}
use Rattle.std.proofs.lemmas.Bool.{cases_lt, cond-false, le-ltb}
use Rattle.utf8.specs.FirstFault.{is_text}
use Rattle.utf8.proofs.Means.{text_from_test}
use Rattle.cells.specs.Cells.{index, count, start}
use Rattle.cells.proofs.Starts.{index_two, start_past}
use Rattle.measures.specs.Chars.{unit_weight}
use Rattle.measures.specs.Breaks.{line_weight, crlf_breaks}
use Rattle.measures.specs.Charring.{unit_lawful}
use Rattle.cue.specs.Places.{column_place}

module _ (t : List ℕ) (sound : is_text t ≡ true) (line column : ℕ) where
  -- a sum that does not fit is above the count, and so is the largest number that does
  capped : (before k : ℕ) → length t < 2 ^ 63 → k ≡ min (before + column) (2 ^ 64 - 1) → start unit_weight t k ≡ start unit_weight t (before + column)
  capped before k short e =
      ⊎_elim
      (λ (lt : before + column < (2 ^ 64 - 1)). let n : k ≡ before + column = omega arith in ap (start unit_weight t) n)
      (λ (ge : (2 ^ 64 - 1) ≤ before + column).
      let few : count unit_weight t ≤ length t + length t = index_two unit_lawful t (text_from_test t sound) (length t) in
      start_past unit_lawful t (text_from_test t sound) k (omega arith) ∙ sym (start_past unit_lawful t (text_from_test t sound) (before + column) (omega arith)))
      (cases_lt (before + column) (2 ^ 64 - 1))

  pub in_line : (r n from before k place next : ℕ) → length t < 2 ^ 63 → n ≡ count (line_weight crlf_breaks) t → line ≤ n
      → from ≡ start (line_weight crlf_breaks) t line → before ≡ index unit_weight t from → k ≡ min (before + column) (2 ^ 64 - 1)
      → place ≡ start unit_weight t k → next ≡ start (line_weight crlf_breaks) t (line + 1) → r ≡ min place next → r ≡ column_place t line column
  in_line r n from before k place next short en h ef eb ek ep ex er =
      let here : place ≡ start unit_weight t (index unit_weight t (start (line_weight crlf_breaks) t line) + column) =
      ep ∙ capped before k short ek ∙ ap (λ (b : ℕ). start unit_weight t (b + column)) (eb ∙ ap (index unit_weight t) ef) in
      er ∙ ap (λ (p : ℕ). min p next) here ∙ ap (min _) ex
      ∙ sym (cond-false (ltb (count (line_weight crlf_breaks) t) line) _ _ (le-ltb (count (line_weight crlf_breaks) t) line (omega arith)))
