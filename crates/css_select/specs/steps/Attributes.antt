-- What tests ask of attributes, computed on bytes.
use Rattle.std.specs.Prelude.{ℕ, ◌==◌, Bool, true, false, not, ◌&&◌, ◌||◌, List, [], ◌∷◌, Option, Some, None, if◌then◌else◌, codes}
use Rattle.std.specs.List.{list_any}
use Rattle.std.specs.Str.{bytes_eq}
use Rattle.viz_base.specs.declared.nodes.Attr.{Attr}
use Rattle.viz_base.specs.declared.selectors.Test.{Test}
use Rattle.viz_base.specs.declared.selectors.Test.TheVariants.{Id, Class, Has, Equals, Word, Dash, FirstChild, Link, Never}
use Rattle.css_semantics.specs.Names.{same_name}
use Rattle.css_semantics.specs.TokensLetters.{is_space}

-- what follows the word at the front of a text
abbrev pub behind : List ℕ → List ℕ → Option (List ℕ)
behind [] text = Some text
behind (w ∷ ws) [] = None
behind (w ∷ ws) (c ∷ cs) = if w == c then behind ws cs else None

abbrev pub ends_white : Option (List ℕ) → Bool
ends_white None = false
ends_white (Some []) = true
ends_white (Some (c ∷ cs)) = is_space c

-- whether the word stands at the front, and white space or nothing follows
abbrev pub begins_word : List ℕ → List ℕ → Bool
begins_word word text = ends_white (behind word text)

-- whether it stands at the front, if a word may start there, or behind some white space
abbrev pub found : Bool → List ℕ → List ℕ → Bool
found start word [] = false
found start word (c ∷ cs) = (start && begins_word word (c ∷ cs)) || found (is_space c) word cs

abbrev pub is_nothing : List ℕ → Bool
is_nothing [] = true
is_nothing (c ∷ cs) = false

-- whether a text is a word: not nothing, and without white space
abbrev pub is_solid : List ℕ → Bool
is_solid word = not (is_nothing word) && not (list_any is_space word)

abbrev pub has_word : List ℕ → List ℕ → Bool
has_word text word = is_solid word && found true word text

abbrev pub ends_dash : Option (List ℕ) → Bool
ends_dash None = false
ends_dash (Some []) = true
ends_dash (Some (c ∷ cs)) = c == 45

abbrev pub is_dashed : List ℕ → List ℕ → Bool
is_dashed text value = ends_dash (behind value text)

-- whether an attribute is one that a test asks for
abbrev pub attribute_passes : Test → Attr → Bool
attribute_passes (Id id) attribute = same_name (codes "id") attribute.name && bytes_eq attribute.value id
attribute_passes (Class word) attribute = same_name (codes "class") attribute.name && has_word attribute.value word
attribute_passes (Has name) attribute = same_name name attribute.name
attribute_passes (Equals name value) attribute = same_name name attribute.name && bytes_eq attribute.value value
attribute_passes (Word name word) attribute = same_name name attribute.name && has_word attribute.value word
attribute_passes (Dash name value) attribute = same_name name attribute.name && is_dashed attribute.value value
attribute_passes FirstChild attribute = false
attribute_passes Link attribute = same_name (codes "href") attribute.name
attribute_passes Never attribute = false
