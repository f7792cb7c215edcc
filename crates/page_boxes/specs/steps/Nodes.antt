-- The walk over the nodes of a page that gives the boxes of those that make one. It carries for each node what its kids
-- stand in.
use Rattle.std.specs.Prelude.{ℕ, ◌+◌, ◌==◌, Bool, true, not, ◌&&◌, List, [], ◌∷◌, ◌++◌, Option, Some, None, chars, if◌then◌else◌}
use Rattle.viz_base.specs.Pages.{text_of, is_replaced}
use Rattle.viz_base.specs.Trees.{is_inline}
use Rattle.viz_base.specs.declared.nodes.Node.{Node}
use Rattle.viz_base.specs.declared.styles.Style.{Style}
use Rattle.layout_semantics.specs.Elements.{intrinsic_size, is_closed, is_none_display}
use Rattle.layout_semantics.specs.Lists.{one_if}
use Rattle.layout_semantics.specs.Parts.{Part, kind_of_node, level_of, is_context}
use Rattle.page_boxes.specs.declared.nodes.Spot.{Spot}
use Rattle.page_boxes.specs.steps.Tables.{held}

abbrev pub outside : Spot
outside = record { shows = true; container = None }

abbrev pub spot_around : List Spot → Option ℕ → Spot
spot_around spots parent = held spots parent outside

abbrev pub is_shown_in : Spot → Style → Bool
is_shown_in around s = around.shows && not (is_none_display s.display)

abbrev pub spot_in : Spot → ℕ → Node → Style → Spot
spot_in around at n s = record {
  shows = is_shown_in around s && not (is_closed n.body);
  container = if is_inline (kind_of_node (at == 0) n.body s) then around.container else Some at;
}

abbrev pub part_in : Spot → ℕ → Node → Style → Part
part_in around at n s = record {
  node = at;
  parent = n.parent;
  container = around.container;
  kind = kind_of_node (at == 0) n.body s;
  level = level_of (at == 0) n.body s;
  text = chars (text_of n.body);
  size = if is_replaced n.body then Some (intrinsic_size n.body) else None;
  context = is_context (at == 0) (level_of (at == 0) n.body s) (kind_of_node (at == 0) n.body s) s;
}

abbrev pub nodes_walk : List Spot → ℕ → List Node → List Style → List Part
nodes_walk spots at [] styles = []
nodes_walk spots at (n ∷ ns) [] = []
nodes_walk spots at (n ∷ ns) (s ∷ ss) =
    let around = spot_around spots n.parent in
    one_if (is_shown_in around s) (part_in around at n s)
    ++ nodes_walk (spots ++ spot_in around at n s ∷ []) (at + 1) ns ss
