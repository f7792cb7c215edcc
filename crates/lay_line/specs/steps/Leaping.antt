-- Segments that a line may take at once.
use Rattle.std.specs.Prelude.{◌≡◌, ◌<◌, ◌≤◌, ◌⊎◌, ℕ, pos, ◌≤ℤ◌, Bool, true, false, ◌&&◌, List, [], ◌∷◌, ◌++◌, length, IsTrue}
use Rattle.std.specs.List.{list_all, flat_map, AllByRecursion}
use Rattle.layout_semantics.specs.InlineContent.{Item, word, space}
use Rattle.lay_line.specs.steps.Loading.{parts_of}
use Rattle.lay_line.specs.steps.Measured.{Measured}

-- a word or a space
abbrev pub is_text : Item → Bool
is_text (word at text) = true
is_text (space at) = true
is_text _ = false

abbrev pub is_begun : List Item → Bool
is_begun (word at text ∷ items) = true
is_begun _ = false

-- a word, and then words and spaces
abbrev pub is_plain : List Item → Bool
is_plain items = is_begun items && list_all is_text items

-- a word or a space is at least 0 wide
abbrev pub IsWide : Measured → Type 0
IsWide m = IsTrue (is_text m.item) → pos 0 ≤ℤ m.width

abbrev pub AreWide : List Measured → Type 0
AreWide ms = AllByRecursion IsWide ms

-- some of the parts of a list, and what is behind them: the first, or more of which each passes
pub record IsLeap {A : Type 0} (passes : List A → Bool) (xs : List A) (marks : List Bool) (first rest : List A)
    (left : List Bool) (count most : ℕ) : Type 0 where
  pub head : List A
  pub heads : List (List A)
  pub parts : parts_of xs marks ≡ (head ∷ heads) ++ parts_of rest left
  pub whole : first ≡ head ++ flat_map (λ part. part) heads
  pub joined : xs ≡ first ++ rest
  pub shorter : length rest < length xs
  pub pass : (heads ≡ []) ⊎ AllByRecursion (λ part. IsTrue (passes part)) (head ∷ heads)
  pub alone : count < 2 → heads ≡ []
  pub few : 2 ≤ count → count ≤ most
