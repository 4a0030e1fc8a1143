-- Worked examples of the five measures, as one test over the cells. Assumes nothing.
use Rattle.std.specs.Prelude.{ℕ, Bool, true, ◌&&◌, List, [], ◌∷◌, ◌++◌, replicate, ◌==◌}
use Rattle.cells.specs.Cells.{index, count, start}
use Rattle.measures.specs.Chars.{char_weight, unit_weight}
use Rattle.measures.specs.Breaks.{lf_breaks, crlf_breaks, unicode_breaks, line_weight}

-- how a measure weighs
abbrev Weight : Type 0
Weight = List ℕ → ℕ → ℕ

abbrev lf : Weight
lf = line_weight lf_breaks

abbrev crlf : Weight
crlf = line_weight crlf_breaks

abbrev lines : Weight
lines = line_weight unicode_breaks

abbrev every : List Bool → Bool
every [] = true
every (b ∷ bs) = b && every bs

-- the measure w has this count in t, this index at place p, this start of k
abbrev counts : Weight → List ℕ → ℕ → Bool
counts w t n = count w t == n

abbrev indexes : Weight → List ℕ → ℕ → ℕ → Bool
indexes w t p n = index w t p == n

abbrev begins : Weight → List ℕ → ℕ → ℕ → Bool
begins w t k p = start w t k == p

-- "aé", CR, LF, a musical G clef, "b"
abbrev mixed : List ℕ
mixed = 0x61 ∷ 0xC3 ∷ 0xA9 ∷ 0x0D ∷ 0x0A ∷ 0xF0 ∷ 0x9D ∷ 0x84 ∷ 0x9E ∷ 0x62 ∷ []

-- seven letters before other bytes, so that these begin in the last byte of a word
abbrev after_seven : List ℕ → List ℕ
after_seven bs = replicate 7 0x61 ++ bs

abbrev cr_lf : List ℕ
cr_lf = after_seven (0x0D ∷ 0x0A ∷ [])

abbrev clef : List ℕ
clef = after_seven (0xF0 ∷ 0x9D ∷ 0x84 ∷ 0x9E ∷ [])

abbrev nel : List ℕ
nel = after_seven (0xC2 ∷ 0x85 ∷ [])

abbrev cr_cr_lf : List ℕ
cr_cr_lf = 0x0D ∷ 0x0D ∷ 0x0A ∷ []

-- the empty text has the count, every index and every start 0: these two of each measure
abbrev nothing : Weight → Bool
nothing w = counts w [] 0 && (indexes w [] 0 0 && (indexes w [] 9 0 && (begins w [] 0 0 && begins w [] 9 0)))

abbrev pub examples : Bool
examples = every (
    counts char_weight mixed 6 ∷ counts unit_weight mixed 7
    ∷ counts lines mixed 1 ∷ counts crlf mixed 1 ∷ counts lf mixed 1
    ∷ begins unit_weight mixed 5 5 ∷ indexes unit_weight mixed 7 4
    ∷ indexes lines mixed 4 0 ∷ indexes lines mixed 5 1
    ∷ counts lines cr_lf 1 ∷ counts crlf cr_lf 1 ∷ counts lf cr_lf 1
    ∷ begins lines cr_lf 1 9 ∷ begins crlf cr_lf 1 9 ∷ begins lf cr_lf 1 9
    ∷ counts unit_weight clef 9 ∷ begins unit_weight clef 8 7
    ∷ begins lines nel 1 9 ∷ counts crlf nel 0
    ∷ counts lines cr_cr_lf 2 ∷ counts crlf cr_cr_lf 2 ∷ counts lf cr_cr_lf 1
    ∷ begins lines cr_cr_lf 0 0 ∷ begins lines cr_cr_lf 1 1 ∷ begins lines cr_cr_lf 2 3
    ∷ nothing char_weight ∷ nothing unit_weight ∷ nothing lines ∷ nothing crlf ∷ nothing lf ∷ [])
