-- The box tree of a page and its styles (CSS 2.1, 9.2).
use Rattle.std.specs.Prelude.{zip, sum, unwrap_or, option_and_then, ℕ, ◌+◌, Bool, true, false, not, ◌&&◌, ◌||◌, ◌==◌, nat_lt, List, [], ◌∷◌, map, find, flat_map, filter, Option, Some, None, option_map, slice_get, slice_index, if◌then◌else◌, encode_utf8_all, codes}
use Rattle.std.specs.List.{list_any, enumerate_from}
use Rattle.std.specs.Option.{option_map_or}
use Rattle.viz_base.specs.Pages.{is_element, has_tag}
use Rattle.viz_base.specs.declared.nodes.Node.{Node}
use Rattle.viz_base.specs.declared.styles.Style.{Style}
use Rattle.viz_base.specs.declared.trees.BoxNode.{BoxNode}
use Rattle.viz_base.specs.declared.trees.Kind.TheVariants as of_kind
use Rattle.layout_semantics.specs.Elements.{node_passes}
use Rattle.layout_semantics.specs.Lists.{one_if}
use Rattle.layout_semantics.specs.Parts.{Part, Level, shown_parts}
use Rattle.layout_semantics.specs.WhiteSpace.{is_in, collapsed}

-- ---- the styles of the tree

-- the element whose style a node has: a text has its parent's
abbrev pub styled_element : ℕ → Node → ℕ
styled_element at n = if is_element n.body then at else option_map_or (λ p. p) n.parent at

abbrev pub clips_at : List Style → ℕ → Bool
clips_at styles at = option_map_or (λ (s : Style). s.clips) (slice_get styles at) false

-- the first `body` that is a child of the root
abbrev pub first_body : List Node → Option ℕ
first_body nodes = option_map (λ (e : ℕ × Node). e.0)
    (find (λ (e : ℕ × Node). is_in 0 e.1.parent && has_tag (codes "body") e.1.body) (enumerate_from 0 nodes))

-- the element whose overflow goes to the viewport: the first `body` of an `html` whose own overflow is visible
-- (CSS 2.1, 11.1.1)
abbrev pub viewport_clip : List Node → List Style → Option ℕ
viewport_clip nodes styles =
    if node_passes (has_tag (codes "html")) nodes 0 && not (clips_at styles 0) then first_body nodes else None

-- the root does not float (CSS 2.1, 9.7), and overflow that goes to the viewport is used there alone
abbrev pub tree_style : (is_root gives_clip : Bool) → Style → Style
tree_style is_root gives_clip s = record s {
  float = if is_root then None else s.float;
  clips = not gives_clip && s.clips;
}

abbrev pub tree_style_of : Option ℕ → (ℕ × Node) × Style → Style
tree_style_of clip styled =
    let element = styled_element styled.0.0 styled.0.1 in
    tree_style (element == 0) (is_in element clip) styled.1

abbrev pub tree_styles : List Node → List Style → List Style
tree_styles nodes styles = map (tree_style_of (viewport_clip nodes styles)) (zip (enumerate_from 0 nodes) styles)

abbrev pub tree_parents : List Node → List (Option ℕ)
tree_parents nodes = map (λ (n : Node). n.parent) nodes

-- ---- anonymous block boxes (CSS 2.1, 9.2.1.1)

abbrev pub is_block_level : Level → Bool
is_block_level Level.block = true
is_block_level _ = false

abbrev pub is_floated_level : Level → Bool
is_floated_level Level.floated = true
is_floated_level _ = false

abbrev pub is_block_part : Part → Bool
is_block_part p = is_block_level p.level

-- the parts directly in the box of a node
abbrev pub parts_in : List Part → ℕ → List Part
parts_in parts node = filter (λ (p : Part). is_in node p.parent) parts

-- a list cut at its block-level boxes in normal flow: the runs of the others, the empty ones too
abbrev pub with_part : Level → Part → List (List Part) → List (List Part)
with_part Level.block p runs = [] ∷ runs
with_part _ p [] = (p ∷ []) ∷ []
with_part _ p (run ∷ runs) = (p ∷ run) ∷ runs

abbrev pub runs_of : List Part → List (List Part)
runs_of [] = [] ∷ []
runs_of (p ∷ ps) = with_part p.level p (runs_of ps)

-- a run with a box other than a float gets an anonymous block box around it
abbrev pub needs_box : List Part → Bool
needs_box = list_any (λ (p : Part). not (is_floated_level p.level))

-- the runs of a block container that anonymous block boxes hold: there are some only where it has block-level boxes in
-- normal flow
abbrev pub wrapped_in : List Part → List (List Part)
wrapped_in kids = if list_any is_block_part kids then filter needs_box (runs_of kids) else []

abbrev pub nodes_of : List Part → List ℕ
nodes_of run = map (λ (p : Part). p.node) run

abbrev pub has_node : ℕ → List ℕ → Bool
has_node node run = list_any (λ k. k == node) run

-- the nodes of the run around a part that an anonymous block box holds, if one holds it
abbrev pub run_around : List Part → Part → Option (List ℕ)
run_around parts p =
    option_and_then (λ parent. find (has_node p.node) (map nodes_of (wrapped_in (parts_in parts parent)))) p.parent

-- a part and that run
pub record Item : Type 0 where
  pub part : Part
  pub run : Option (List ℕ)

abbrev pub items_of : List Part → List Item
items_of parts = map (λ p. record { part = p; run = run_around parts p }) parts

-- ---- places

abbrev pub first_of : List ℕ → ℕ
first_of run = slice_index run 0

-- an anonymous block box begins with this part
abbrev pub begins_run : Item → Bool
begins_run item = option_map_or (λ run. first_of run == item.part.node) item.run false

-- the anonymous block box that begins with it, if one does, and its own box
abbrev pub box_count : Item → ℕ
box_count item = if begins_run item then 2 else 1

abbrev pub is_before : ℕ → Item → Bool
is_before node item = nat_lt item.part.node node

-- The places of boxes are those in document order, an anonymous block box directly before the first box in it. How many
-- boxes come before those of a node:
abbrev pub boxes_before : List Item → ℕ → ℕ
boxes_before items node = sum (map box_count (filter (is_before node) items))

-- the place of the anonymous block box that begins with a node's box
abbrev pub anonymous_place : List Item → ℕ → ℕ
anonymous_place items node = boxes_before items node

abbrev pub begins_at : List Item → ℕ → Bool
begins_at items node = list_any (λ (item : Item). item.part.node == node && begins_run item) items

-- the place of a node's own box
abbrev pub own_place : List Item → ℕ → ℕ
own_place items node = boxes_before items node + (if begins_at items node then 1 else 0)

-- the place of the box that a part is directly in
abbrev pub outer_place : List Item → Item → Option ℕ
outer_place items item = by_run item.run
  where
    by_run : Option (List ℕ) → Option ℕ
    by_run (Some run) = Some (anonymous_place items (first_of run))
    by_run None = option_map (own_place items) item.part.parent

-- the place of the box directly in a node's box that is a part's or the anonymous block box that begins with it
abbrev pub kid_place : List Item → Item → List ℕ
kid_place items item = by_run item.run
  where
    by_run : Option (List ℕ) → List ℕ
    by_run (Some run) = one_if (first_of run == item.part.node) (anonymous_place items item.part.node)
    by_run None = own_place items item.part.node ∷ []

abbrev pub items_in : List Item → ℕ → List Item
items_in items node = filter (λ (item : Item). is_in node item.part.parent) items

abbrev pub kid_places : List Item → ℕ → List ℕ
kid_places items node = flat_map (kid_place items) (items_in items node)

-- ---- boxes

abbrev pub own_box : List Item → Item → BoxNode
own_box items item = record {
  kind = item.part.kind;
  node = item.part.node;
  parent = outer_place items item;
  kids = kid_places items item.part.node;
  chars = encode_utf8_all item.part.text;
  size = item.part.size;
  context = item.part.context;
  block_level = is_block_level item.part.level || is_floated_level item.part.level;
}

-- the anonymous block box of a run that begins with a part; its node is that of the element around it
abbrev pub anonymous_box : List Item → Part → List ℕ → BoxNode
anonymous_box items p run = record {
  kind = of_kind.Anon;
  node = unwrap_or p.parent 0;
  parent = option_map (own_place items) p.parent;
  kids = map (own_place items) run;
  chars = [];
  size = None;
  context = false;
  block_level = true;
}

-- a part's box, after the anonymous block box that begins with it
abbrev pub with_anonymous : List Item → Item → (begins : Bool) → Option (List ℕ) → List BoxNode
with_anonymous items item true (Some run) = anonymous_box items item.part run ∷ own_box items item ∷ []
with_anonymous items item _ _ = own_box items item ∷ []

abbrev pub boxes_at : List Item → Item → List BoxNode
boxes_at items item = with_anonymous items item (begins_run item) item.run

abbrev pub boxes_of : List Item → List BoxNode
boxes_of items = flat_map (boxes_at items) items

-- the parts of a page whose styles are those of the tree
abbrev pub page_parts : List Node → List Style → List Part
page_parts nodes styles = collapsed (shown_parts nodes (tree_styles nodes styles))

-- the boxes of a page and the styles of its nodes, in document order, a container before its content
abbrev pub page_boxes : List Node → List Style → List BoxNode
page_boxes nodes styles = boxes_of (items_of (page_parts nodes styles))
