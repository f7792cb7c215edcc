-- The nodes of a job file's page, in document order.
use Rattle.std.specs.Prelude.{ℕ, ◌+◌, max, List, [], ◌∷◌, ◌++◌, length, Option, Some, None, is_some, option_map, unwrap_or, Result, Err, if◌then◌else◌, codes}
use Rattle.std.specs.Ordering.{nat_cmp, match_ordering}
use Rattle.std.specs.Cmp.Lexicographic.{slice_cmp}
use Rattle.serde_json.specs.Data.{Data, null, boolean, number, string, array, object, Items, no_items, item, Members, no_members, member}
use Rattle.serde_json.specs.Find.{as_object, as_str}
use Rattle.viz_base.specs.declared.nodes.Node.{Node}
use Rattle.page_json.specs.Values.{each_of, list_of, ◌of_member◌}
use Rattle.page_json.specs.Elements.{body_of}

-- where a value stands in a page: the number of the element that it is a child of, and how many elements it would
-- be inside of as an element, itself counted
pub record Place : Type 0 where
  pub parent : Option ℕ
  pub depth : ℕ
  pub value : Data

abbrev pub place : Data → Option ℕ → ℕ → Place
place d parent depth = record { parent = parent; depth = depth; value = d }

-- a child and all in it, in document order, the child having the number `at`
abbrev mutual
  pub listed : Data → Option ℕ → ℕ → ℕ → List Place
  listed null parent depth at = place null parent depth ∷ []
  listed (boolean b) parent depth at = place (boolean b) parent depth ∷ []
  listed (number n) parent depth at = place (number n) parent depth ∷ []
  listed (string s) parent depth at = place (string s) parent depth ∷ []
  listed (array ds) parent depth at = place (array ds) parent depth ∷ []
  listed (object ms) parent depth at =
      place (object ms) parent depth ∷ children_listed ms (Some at) (depth + 1) (at + 1)

  -- those of the member `children`
  pub children_listed : Members → Option ℕ → ℕ → ℕ → List Place
  children_listed no_members parent depth at = []
  children_listed (member key d ms) parent depth at = match_ordering (slice_cmp nat_cmp (codes "children") key)
      (children_listed ms parent depth at) (list_listed d parent depth at) (children_listed ms parent depth at)

  -- those of a list
  pub list_listed : Data → Option ℕ → ℕ → ℕ → List Place
  list_listed null parent depth at = []
  list_listed (boolean b) parent depth at = []
  list_listed (number n) parent depth at = []
  list_listed (string s) parent depth at = []
  list_listed (array ds) parent depth at = all_listed ds parent depth at
  list_listed (object ms) parent depth at = []

  pub all_listed : Items → Option ℕ → ℕ → ℕ → List Place
  all_listed no_items parent depth at = []
  all_listed (item d ds) parent depth at =
      listed d parent depth at ++ all_listed ds parent depth (at + length (listed d parent depth at))

-- the children of an element; other values have none
abbrev pub children_of : Data → List Data
children_of d = unwrap_or ((list_of of_member codes "children") d) []

-- the nodes of a page with this root, in document order
abbrev pub places_of : Data → List Place
places_of d = listed d None 1 0

abbrev pub node_of : Place → Option Node
node_of p = option_map (λ body. record { parent = p.parent; body = body }) (body_of p.value)

-- the nodes of a page, or the number of the first that is against a rule; the root is an element
abbrev pub nodes_of : Data → Result (List Node) ℕ
nodes_of d = if is_some (as_str d) then Err 0 else each_of node_of 0 (places_of d)

-- how deep elements are inside one another, the root being 1
abbrev pub depth_of : List Place → ℕ
depth_of [] = 0
depth_of (p ∷ ps) = max (if is_some (as_object p.value) then p.depth else 0) (depth_of ps)
