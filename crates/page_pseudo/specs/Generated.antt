-- Which text generated content has before and after the content of an element (CSS 2.1, 12.1 and 12.2).
use Rattle.std.specs.Prelude.{ℕ, Bool, not, ◌&&◌, List, Option, Some, None, codes, if◌then◌else◌}
use Rattle.viz_base.specs.Pages.{is_break, is_element, is_replaced}
use Rattle.viz_base.specs.declared.nodes.Body.{Body}
use Rattle.viz_base.specs.declared.selectors.Pseudo.{Pseudo}
use Rattle.viz_base.specs.declared.selectors.Pseudo.TheVariants.{Before, After}
use Rattle.viz_base.specs.declared.settings.Prop.TheVariants.{Content}
use Rattle.viz_base.specs.declared.settings.Setting.{Setting}
use Rattle.viz_base.specs.declared.settings.Value.{Value}
use Rattle.viz_base.specs.declared.settings.Value.TheVariants.{Chars}
use Rattle.css_semantics.specs.ComputedValues.{winner}

-- The content of a replaced element and of a forced break isn't the document's, so nothing stands before or after it
-- there (CSS 2.1, 3.1 and 12.1).
abbrev pub takes_content : Body → Bool
takes_content body = is_element body && (not (is_replaced body) && not (is_break body))

-- the text of a value; `normal`, `none` and `inherit`, which is `normal` here, are no text
abbrev pub text_of : Option Value → Option (List ℕ)
text_of (Some (Chars text)) = Some text
text_of _ = None

-- the text that a pseudo-element of a node has at which these win
abbrev pub generated : Body → List Setting → Option (List ℕ)
generated body winners = if takes_content body then text_of (winner Content winners) else None

-- the tag of a pseudo-element in the grown page, which no selector asks for
abbrev pub tag_of : Pseudo → List ℕ
tag_of Before = codes ":before"
tag_of After = codes ":after"
