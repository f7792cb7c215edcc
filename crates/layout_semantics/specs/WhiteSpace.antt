-- White space of inline content (CSS 2.1, 16.6.1 and 9.2.2.1): which characters of which text stay.
use Rattle.std.specs.Prelude.{ℕ, Bool, true, false, not, ◌&&◌, ◌||◌, length, ◌==◌, List, [], ◌∷◌, map, flat_map, filter, zip, Option, if◌then◌else◌}
use Rattle.std.specs.Option.{option_map_or}
use Rattle.viz_base.specs.Trees.{is_chars}
use Rattle.viz_base.specs.declared.trees.Kind.{Kind}
use Rattle.viz_base.specs.declared.trees.Kind.TheVariants as of_kind
use Rattle.layout_semantics.specs.Lists.{one_if}
use Rattle.layout_semantics.specs.Parts.{Part, Level}

-- What stands in the inline content of a block container. Inline boxes and floats are no such things: white space
-- collapses through them.
pub data Thing : Type 0 where
  -- a character of the text of a node
  letter : (node c : ℕ) → Thing
  -- an inline-block or an inline-level replaced element
  atom : Thing
  -- a forced line break, or a block-level box in normal flow
  edge : Thing

-- space, tab, line feed, and carriage return, the last in our own reading
abbrev pub is_white : ℕ → Bool
is_white c = c == 32 || (c == 9 || (c == 10 || c == 13))

-- ---- things

abbrev pub inline_things : Kind → ℕ → List ℕ → List Thing
inline_things of_kind.Chars node text = map (Thing.letter node) text
inline_things of_kind.Break node text = Thing.edge ∷ []
inline_things of_kind.Inline node text = []
inline_things _ node text = Thing.atom ∷ []

abbrev pub level_things : Level → Part → List Thing
level_things Level.block p = Thing.edge ∷ []
level_things Level.floated p = []
level_things Level.inline p = inline_things p.kind p.node p.text

abbrev pub things_of : Part → List Thing
things_of p = level_things p.level p

abbrev pub is_in : ℕ → Option ℕ → Bool
is_in node above = option_map_or (λ a. a == node) above false

-- the things of a block container, in document order
abbrev pub things_in : List Part → ℕ → List Thing
things_in parts container = flat_map things_of (filter (λ (p : Part). is_in container p.container) parts)

-- ---- what stays

-- white space stays directly after a character that is none, and after an atom
abbrev pub keeps_white : Thing → Bool
keeps_white (Thing.letter node c) = not (is_white c)
keeps_white Thing.atom = true
keeps_white Thing.edge = false

-- what stays of a thing, by the thing before it: white space stays as a space
abbrev pub stays : Thing → Thing → List Thing
stays before (Thing.letter node c) =
    if not (is_white c) then Thing.letter node c ∷ []
    else (if keeps_white before then Thing.letter node 32 ∷ [] else [])
stays before Thing.atom = Thing.atom ∷ []
stays before Thing.edge = Thing.edge ∷ []

-- The things of a block container without the white space that goes: of a run of white space its first character stays,
-- as a space; but a run with which the content starts, and one after a forced line break or a block, goes whole. White
-- space at the end of the content stays.
abbrev pub collapsed_things : List Thing → List Thing
collapsed_things things = flat_map (λ (pair : Thing × Thing). stays pair.0 pair.1) (zip (Thing.edge ∷ things) things)

-- the characters of the text of a node
abbrev pub letter_of : ℕ → Thing → List ℕ
letter_of node (Thing.letter from c) = one_if (from == node) c
letter_of node Thing.atom = []
letter_of node Thing.edge = []

abbrev pub letters_of : ℕ → List Thing → List ℕ
letters_of node things = flat_map (letter_of node) things

-- a part with the characters that stay of its text
abbrev pub collapsed_part : List Part → Part → Part
collapsed_part parts p = record p {
  text = option_map_or (λ c. letters_of p.node (collapsed_things (things_in parts c))) p.container [];
}

-- a text of which nothing stays makes no box
abbrev pub is_bare : Part → Bool
is_bare p = is_chars p.kind && length p.text == 0

abbrev pub collapsed : List Part → List Part
collapsed parts = filter (λ p. not (is_bare p)) (map (collapsed_part parts) parts)
