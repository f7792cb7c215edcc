-- Where the value of a declaration stands, as a refusal names it.
use Rattle.std.specs.Prelude.{◌≡◌, ℕ, suc, List, Option, Some, None, slice_get}
use Rattle.std.specs.Option.{option_and_then}
use Rattle.viz_base.specs.declared.nodes.Body.{Body}
use Rattle.viz_base.specs.declared.nodes.Body.TheVariants as of_body
use Rattle.viz_base.specs.declared.nodes.Node.{Node}
use Rattle.viz_base.specs.declared.settings.Source.{Source}
use Rattle.viz_base.specs.declared.settings.Source.TheVariants.{Default, Author, Style}
use Rattle.css_semantics.specs.CascadeReading.{IsSlice, style_of}

abbrev pub style_text : Body → Option (List ℕ)
style_text (of_body.Element e) = style_of e.attrs
style_text (of_body.Chars text) = None

-- The text that a source names: the default sheet, which is the first one,
-- a sheet of an author, or the style attribute of a node.
abbrev pub text_of_source : List Node → List (List ℕ) → Source → Option (List ℕ)
text_of_source nodes texts (Default at len) = slice_get texts 0
text_of_source nodes texts (Author sheet at len) = slice_get texts (suc sheet)
text_of_source nodes texts (Style node at len) =
    option_and_then (λ (n : Node). style_text n.body) (slice_get nodes node)

abbrev pub place_of_source : Source → ℕ
place_of_source (Default at len) = at
place_of_source (Author sheet at len) = at
place_of_source (Style node at len) = at

abbrev pub length_of_source : Source → ℕ
length_of_source (Default at len) = len
length_of_source (Author sheet at len) = len
length_of_source (Style node at len) = len

-- the bytes of the value that a source names, which begin and end at characters of its text
pub record IsValueAt (nodes : List Node) (texts : List (List ℕ)) (source : Source) (value : List ℕ) : Type 0 where
  pub text : List ℕ
  pub stands : text_of_source nodes texts source ≡ Some text
  pub slice : IsSlice text (place_of_source source) (length_of_source source) value
