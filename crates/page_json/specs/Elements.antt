-- An element or a text of a job file's page.
use Rattle.std.specs.Prelude.{ℕ, Bool, true, not, ◌&&◌, nat_le, List, [], ◌∷◌, Option, Some, None, option_map, option_and_then, if◌then◌else◌, bytes_eq, codes}
use Rattle.std.specs.List.{list_any}
use Rattle.std.specs.Option.{option_map_or}
use Rattle.serde_json.specs.Data.{Data}
use Rattle.serde_json.specs.Find.{get, as_str}
use Rattle.viz_base.specs.declared.limits.TheConstants.{MOST_PIXELS}
use Rattle.viz_base.specs.declared.nodes.Attr.{Attr}
use Rattle.viz_base.specs.declared.nodes.Body.{Body}
use Rattle.viz_base.specs.declared.nodes.Body.TheVariants as of_body
use Rattle.viz_base.specs.declared.nodes.Element.{Element}
use Rattle.page_json.specs.Values.{lower, pair_of, list_at, object_of, all_of, ◌of_member◌}

abbrev pub filled : List ℕ → Option (List ℕ)
filled [] = None
filled (c ∷ cs) = Some (c ∷ cs)

-- a text that is not empty
abbrev pub tag_of : Data → Option (List ℕ)
tag_of d = option_and_then filled ((as_str of_member codes "tag") d)

abbrev pub attr_of : List ℕ × Data → Option Attr
attr_of member = option_map (λ text. record { name = lower member.0; value = text }) (as_str member.1)

-- whether an attribute has this name
abbrev pub has_name : List ℕ → Attr → Bool
has_name name attr = bytes_eq attr.name name

-- no two attributes have one name
abbrev pub have_own_names : List Attr → Bool
have_own_names [] = true
have_own_names (a ∷ attrs) = not (list_any (has_name a.name) attrs) && have_own_names attrs

abbrev pub own_named : List Attr → Option (List Attr)
own_named attrs = if have_own_names attrs then Some attrs else None

-- the attributes of an element, whose names are put in lower case; no two are then the same
abbrev pub attrs_in : Data → Option (List Attr)
attrs_in d = option_and_then own_named (option_and_then (all_of attr_of) (object_of d))

-- a member that is missing has none
abbrev pub attrs_of : Data → Option (List Attr)
attrs_of d = option_map_or attrs_in (get (codes "attrs") d) (Some [])

-- intrinsic sizes in pixels
abbrev pub size_in : ℕ × ℕ → Option (Option (ℕ × ℕ))
size_in p = if nat_le p.0 MOST_PIXELS && nat_le p.1 MOST_PIXELS then Some (Some p) else None

abbrev pub size_of : Data → Option (Option (ℕ × ℕ))
size_of d = option_map_or (λ m. option_and_then size_in (pair_of m)) (get (codes "size") d) (Some None)

-- an element's own members and the list of its children, where none is missing, of another form or against a rule
abbrev pub element_of : Data → Option Element
element_of d =
    option_and_then (λ tag. option_and_then (λ attrs. option_and_then (λ size. option_map (λ children.
    record { tag = lower tag; attrs = attrs; size = size })
    (list_at (codes "children") d)) (size_of d)) (attrs_of d)) (tag_of d)

abbrev pub text_or : Option Element → Option (List ℕ) → Option Body
text_or element None = option_map of_body.Element element
text_or element (Some text) = Some (of_body.Chars text)

-- a text, or an element
abbrev pub body_of : Data → Option Body
body_of d = text_or (element_of d) (as_str d)
