-- Which nodes of a page make boxes (CSS 2.1, 9.2.4), and the intrinsic sizes of elements.
use Rattle.std.specs.Prelude.{ℕ, zero, suc, Bool, true, false, not, ◌&&◌, ◌||◌, List, [], ◌∷◌, length, slice_get, Option, Some, None, unwrap_or, option_and_then}
use Rattle.std.specs.List.{list_all}
use Rattle.std.specs.Option.{option_map_or}
use Rattle.viz_base.specs.declared.nodes.Body.{Body}
use Rattle.viz_base.specs.declared.nodes.Body.TheVariants as of_body
use Rattle.viz_base.specs.declared.nodes.Node.{Node}
use Rattle.viz_base.specs.declared.styles.Display.{Display}
use Rattle.viz_base.specs.declared.styles.Display.TheVariants as of_display
use Rattle.viz_base.specs.declared.styles.Style.{Style}
use Rattle.viz_base.specs.Pages.{is_break, is_replaced}

-- ---- elements

-- intrinsic width and height, in whole pixels; those of an `img` without them are 0, in our own reading
abbrev pub intrinsic_size : Body → ℕ × ℕ
intrinsic_size (of_body.Element element) = unwrap_or element.size (0, 0)
intrinsic_size (of_body.Chars text) = (0, 0)

-- an element whose content makes no box
abbrev pub is_closed : Body → Bool
is_closed body = is_break body || is_replaced body

-- ---- nodes

-- a test of what a node is, false where there is no node
abbrev pub node_passes : (Body → Bool) → List Node → ℕ → Bool
node_passes test nodes at = option_map_or (λ (n : Node). test n.body) (slice_get nodes at) false

abbrev pub parent_of : List Node → ℕ → Option ℕ
parent_of nodes at = option_and_then (λ (n : Node). n.parent) (slice_get nodes at)

-- from a node up, so many nodes at most
abbrev pub upwards : ℕ → List Node → Option ℕ → List ℕ
upwards zero nodes at = []
upwards (suc more) nodes None = []
upwards (suc more) nodes (Some at) = at ∷ upwards more nodes (parent_of nodes at)

-- the elements that a node is in, from the nearest to the root; there are no more of them than nodes
abbrev pub ancestors : List Node → ℕ → List ℕ
ancestors nodes at = upwards (length nodes) nodes (parent_of nodes at)

-- ---- which nodes make boxes

-- `display: none` (CSS 2.1, 9.2.4)
abbrev pub is_none_display : Display → Bool
is_none_display of_display.Hidden = true
is_none_display _ = false

abbrev pub is_hidden : List Style → ℕ → Bool
is_hidden styles at = option_map_or (λ (s : Style). is_none_display s.display) (slice_get styles at) false

-- neither the node nor what it is in is hidden, and it is in no replaced element and no `br`
abbrev pub is_shown : List Node → List Style → ℕ → Bool
is_shown nodes styles at =
    not (is_hidden styles at)
    && list_all (λ above. not (is_hidden styles above || node_passes is_closed nodes above)) (ancestors nodes at)
