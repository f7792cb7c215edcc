-- What a page is, and which of its elements are forced line breaks or replaced.
use Rattle.std.specs.Prelude.{◌≡◌, ℕ, ◌≤◌, Bool, true, false, not, nat_lt, ◌==◌, ◌&&◌, ◌||◌, List, [], ◌∷◌, map, length, slice_get, Option, Some, None, is_some, IsTrue, bytes_eq, codes}
use Rattle.std.specs.Char.{to_ascii_lowercase}
use Rattle.std.specs.List.{list_all}
use Rattle.std.specs.Option.{option_map_or}
use Rattle.std.specs.Str.{chars}
use Rattle.viz_base.specs.declared.limits.TheConstants.{MOST_CHARACTERS}
use Rattle.viz_base.specs.Orders.{IsInOrder}
use Rattle.viz_base.specs.declared.nodes.Attr.{Attr}
use Rattle.viz_base.specs.declared.nodes.Body.{Body}
use Rattle.viz_base.specs.declared.nodes.Body.TheVariants as of_body
use Rattle.viz_base.specs.declared.nodes.Node.{Node}

abbrev pub is_element : Body → Bool
is_element (of_body.Element element) = true
is_element (of_body.Chars text) = false

-- the node at a place is an element
abbrev pub is_element_at : List Node → ℕ → Bool
is_element_at nodes at = option_map_or (λ (n : Node). is_element n.body) (slice_get nodes at) false

-- the root has no parent, and the parent of each other node is an element before it
abbrev pub parent_fits : List Node → ℕ → Option ℕ → Bool
parent_fits nodes at None = at == 0
parent_fits nodes at (Some p) = nat_lt p at && is_element_at nodes p

-- the characters of a text node
abbrev pub text_of : Body → List ℕ
text_of (of_body.Element element) = []
text_of (of_body.Chars text) = text

-- a name in ASCII lower case
abbrev pub is_lower : List ℕ → Bool
is_lower name = bytes_eq (map to_ascii_lowercase name) name

-- the tag of an element and the names of its attributes are in lower case,
-- since the case of neither matters (CSS 2.1, 4.1.3)
abbrev pub has_lower_names : Body → Bool
has_lower_names (of_body.Element element) = is_lower element.tag
    && list_all (λ (a : Attr). is_lower a.name) element.attrs
has_lower_names (of_body.Chars text) = true

-- the facts that a page keeps
pub record IsPage (nodes : List Node) : Type 0 where
  pub root : IsTrue (is_element_at nodes 0)
  pub parents : (at : ℕ) (n : Node) → slice_get nodes at ≡ Some n → IsTrue (parent_fits nodes at n.parent)
  pub in_order : IsInOrder (map (λ (n : Node). n.parent) nodes)
  pub texts : (at : ℕ) (n : Node) → slice_get nodes at ≡ Some n → length (chars (text_of n.body)) ≤ MOST_CHARACTERS
  pub names : (at : ℕ) (n : Node) → slice_get nodes at ≡ Some n → IsTrue (has_lower_names n.body)

-- ---- elements

-- an element with this tag
abbrev pub has_tag : List ℕ → Body → Bool
has_tag tag (of_body.Element element) = bytes_eq element.tag tag
has_tag tag (of_body.Chars text) = false

-- `br`, which forces a line break
abbrev pub is_break : Body → Bool
is_break = has_tag (codes "br")

abbrev pub is_sized : Body → Bool
is_sized (of_body.Element element) = is_some element.size
is_sized (of_body.Chars text) = false

-- a replaced element (CSS 2.1, 3.1): each `img`, and any other element but `br` that has intrinsic sizes
abbrev pub is_replaced : Body → Bool
is_replaced body = has_tag (codes "img") body || (is_sized body && not (is_break body))
