-- The entries of a line, item by item.
use Rattle.std.specs.Prelude.{ℕ, ℤ, pos, ◌-ℤ◌, find, is_some, Bool, true, false, cond, List, [], ◌∷◌, ◌++◌, take, Option, Some}
use Rattle.viz_base.specs.declared.layouts.Entry.{Entry}
use Rattle.viz_base.specs.declared.layouts.Spot.{Spot}
use Rattle.viz_base.specs.declared.renderings.Placed.{Placed}
use Rattle.viz_base.specs.declared.renderings.Quad.{Quad}
use Rattle.viz_base.specs.declared.lengths.Length.{Length}
use Rattle.viz_base.specs.declared.lengths.Sides.{Sides}
use Rattle.layout_semantics.specs.LineHeights.{InlineContext}
use Rattle.layout_semantics.specs.Blocks.{node_of, parent_of, plain_box}
use Rattle.std.specs.Option.{option_map_or}
use Rattle.viz_base.specs.declared.layouts.Entry.TheVariants as of_entry
use Rattle.layout_semantics.specs.Fragments.{ItemPlace, SetLine, text_area, text_right, is_text_of, is_end_of, fragment_edges, grown, float_entries, spots_after}
use Rattle.layout_semantics.specs.InlineContent.{Item, start, finish, word, space, atomic, forced, float}
use Rattle.layout_semantics.specs.Lengths.{margins, borders, paddings}
use Rattle.viz_base.specs.declared.trees.Kind.TheVariants as of_kind
use Rattle.lay_line.specs.steps.Words.{own_reach, raised, inline_raised}

unfoldable pub area_in : InlineContext → ℕ → ℤ → ℤ → ℤ → Quad ℤ
area_in c node baseline left right = text_area c node baseline left right

unfoldable pub text_in : InlineContext → SetLine → ℕ → (left right : ℤ) → Entry ℤ
text_in c line at left right = of_entry.Here (plain_box of_kind.Chars (node_of c.tree at)
    (area_in c (node_of c.tree at)
    (line.baseline -ℤ option_map_or (inline_raised c) (parent_of c.tree.boxes at) (pos 0)) left right))

unfoldable pub piece_in : InlineContext → SetLine → ℕ → Option ItemPlace → ItemPlace → List ItemPlace → List (Entry ℤ)
piece_in c line at before p after =
    cond (option_map_or (is_text_of at) before false) [] (text_in c line at p.left (text_right at p.right after) ∷ [])

unfoldable pub edges_in : InlineContext → (starts ends : Bool) → Sides Length → Quad ℤ
edges_in c starts ends sides = fragment_edges c starts ends sides

unfoldable pub around_in : InlineContext → ℕ → (starts ends : Bool) → Quad ℤ → Placed ℤ
around_in c at starts ends area = from_padding (grown area (edges_in c starts ends (paddings c.tree at)))
  where
    from_border : Quad ℤ → Quad ℤ → Placed ℤ
    from_border padding border =
        record {
          kind = of_kind.Inline;
          node = node_of c.tree at;
          margin = grown border (edges_in c starts ends (margins c.tree at));
          border = border;
          padding = padding;
          content = area;
        }

    from_padding : Quad ℤ → Placed ℤ
    from_padding padding = from_border padding (grown padding (edges_in c starts ends (borders c.tree at)))

-- from an edge on
unfoldable pub from_in : InlineContext → SetLine → ℕ → (starts : Bool) → ℤ → List ItemPlace → Entry ℤ
from_in c line at starts left after = of_entry.Here (up_to (find (is_end_of at) after))
  where
    up_to : Option ItemPlace → Placed ℤ
    up_to last = around_in c at starts (is_some last)
        (area_in c (node_of c.tree at) (line.baseline -ℤ inline_raised c at) left
        (option_map_or (λ (p : ItemPlace). p.left) last line.right))

unfoldable pub atomic_in : InlineContext → SetLine → ℕ → ℤ → Entry ℤ
atomic_in c line at left =
    of_entry.Goes at (record {
      x = left;
      y = (line.baseline -ℤ raised c at (own_reach c at))
          -ℤ (own_reach c at).above;
    })

-- of an item
unfoldable pub item_in : InlineContext → SetLine → Option ItemPlace → ItemPlace → List ItemPlace → List (ℕ × Spot ℤ)
    → List (Entry ℤ)
item_in c line before p after spots = by_item p.item
  where
    by_item : Item → List (Entry ℤ)
    by_item (start at) = from_in c line at true p.right after ∷ []
    by_item (finish at) = []
    by_item (word at text) = piece_in c line at before p after
    by_item (space at) = piece_in c line at before p after
    by_item (atomic at) = atomic_in c line at p.left ∷ []
    by_item (forced at) = []
    by_item (float at) = float_entries (take 1 spots)

-- of items in their order
abbrev pub items_in : InlineContext → SetLine → Option ItemPlace → List ItemPlace → List (ℕ × Spot ℤ) → List (Entry ℤ)
items_in c line before [] spots = []
items_in c line before (p ∷ after) spots = item_in c line before p after spots
    ++ items_in c line (Some p) after (spots_after p.item spots)

-- of the inline boxes that are open at the line's start
abbrev pub opened_in : InlineContext → SetLine → List ℕ → List (Entry ℤ)
opened_in c line [] = []
opened_in c line (at ∷ opened) = from_in c line at false line.left line.places ∷ opened_in c line opened
