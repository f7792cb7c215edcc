-- What is said of widths, one after another.
use Rattle.std.specs.Prelude.{◌≡◌, ◌≢◌, ℕ, ◌+◌, List, [], ◌∷◌, slice_get, Some}
use Rattle.viz_tables.specs.declared.words.Word.{Word}
use Rattle.viz_tables.specs.declared.words.Line.{Line}
use Rattle.viz_tables.specs.Words.{both}

-- what is said of each width about an assertion that consists of two
abbrev pub both_words : List Word → List Word → List Word
both_words [] others = []
both_words (a ∷ rest) [] = []
both_words (a ∷ rest) (b ∷ others) = both a b ∷ both_words rest others

-- this is said of a width, the first of the words being said of that one
abbrev pub IsSaid : List Word → ℕ → Word → ℕ → Type 0
IsSaid words wl word w = (at : ℕ) → w ≡ wl + at → slice_get words at ≡ Some word

-- the last of these lines, if there is one, says another word
abbrev pub EndsOther : List Line → Word → Type 0
EndsOther [] word = Unit {0}
EndsOther (line ∷ []) word = line.word ≢ word
EndsOther (line ∷ other ∷ lines) word = EndsOther (other ∷ lines) word
