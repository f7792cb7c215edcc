-- The boxes of a line (CSS 2.1, 8.6, 9.4.2, 10.6.1).
use Rattle.std.specs.Prelude.{ℕ, ◌==◌, ℤ, pos, ◌+ℤ◌, ◌-ℤ◌, Bool, false, cond, List, [], ◌∷◌, ◌++◌, map, take, drop, find, is_some, unwrap_or, Option, None, Some}
use Rattle.std.specs.Option.{option_map_or}
use Rattle.viz_base.specs.declared.layouts.Entry.{Entry}
use Rattle.viz_base.specs.declared.layouts.Entry.TheVariants as of_entry
use Rattle.viz_base.specs.declared.layouts.Spot.{Spot}
use Rattle.viz_base.specs.declared.lengths.Sides.{Sides}
use Rattle.viz_base.specs.declared.lengths.Length.{Length}
use Rattle.viz_base.specs.declared.renderings.Placed.{Placed}
use Rattle.viz_base.specs.declared.renderings.Quad.{Quad}
use Rattle.viz_base.specs.declared.trees.Kind.TheVariants as of_kind
use Rattle.layout_semantics.specs.Blocks.{node_of, parent_of, plain_box}
use Rattle.layout_semantics.specs.Fonts.{ascent, descent}
use Rattle.layout_semantics.specs.Lengths.{used, margins, borders, paddings}
use Rattle.layout_semantics.specs.InlineContent.{Item, start, finish, word, space, atomic, forced, float}
use Rattle.layout_semantics.specs.LineHeights.{InlineContext, box_extent, shift, inline_shift}
use Rattle.layout_semantics.specs.LineFilling.{item_width, band_width}

-- ---- items side by side

pub record ItemPlace : Type 0 where
  pub item : Item
  pub left : ℤ
  pub right : ℤ

-- items one after another from x on
abbrev pub set_out : InlineContext → ℤ → List Item → List ItemPlace
set_out c x [] = []
set_out c x (i ∷ items) = record { item = i; left = x; right = x +ℤ item_width c i }
    ∷ set_out c (x +ℤ item_width c i) items

abbrev pub is_end_of : ℕ → ItemPlace → Bool
is_end_of at p = by_item p.item
  where
    by_item : Item → Bool
    by_item (finish other) = other == at
    by_item _ = false

abbrev pub is_text_of : ℕ → ItemPlace → Bool
is_text_of at p = by_item p.item
  where
    by_item : Item → Bool
    by_item (word other text) = other == at
    by_item (space other) = other == at
    by_item _ = false

-- ---- a line with its items in their places

pub record SetLine : Type 0 where
  -- the line's baseline
  pub baseline : ℤ
  -- the left and the right edge of its content
  pub left : ℤ
  pub right : ℤ
  pub places : List ItemPlace
  -- where its floats stand, in their order
  pub spots : List (ℕ × Spot ℤ)

-- the content of a fragment reaches from the ascent to the descent of its font (CSS 2.1, 10.6.1)
abbrev pub text_area : InlineContext → ℕ → ℤ → ℤ → ℤ → Quad ℤ
text_area c node baseline left right =
    record {
      left = left;
      top = baseline -ℤ ascent c.tree c.world node;
      right = right;
      bottom = baseline
          +ℤ descent c.tree c.world node;
    }

-- ---- text

-- a text box is raised as the box that it is in: its own style repeats that box's
abbrev pub text_baseline : InlineContext → SetLine → ℕ → ℤ
text_baseline c line at = line.baseline -ℤ option_map_or (inline_shift c) (parent_of c.tree.boxes at) (pos 0)

abbrev pub text_fragment : InlineContext → SetLine → ℕ → (left right : ℤ) → Entry ℤ
text_fragment c line at left right =
    of_entry.Here (plain_box of_kind.Chars (node_of c.tree at)
    (text_area c (node_of c.tree at) (text_baseline c line at) left right))

-- where the piece of a text ends whose last item so far ends here, by what follows on the line
abbrev pub text_right : ℕ → ℤ → List ItemPlace → ℤ
text_right at right [] = right
text_right at right (p ∷ after) = cond (is_text_of at p) (text_right at p.right after) right

-- the piece of a text on the line has an entry at the first of its words and
-- spaces that stay: where the item before is not of that text
abbrev pub text_entry : InlineContext → SetLine → ℕ → (before : Option ItemPlace) → ItemPlace
    → (after : List ItemPlace) → List (Entry ℤ)
text_entry c line at before p after =
    cond (option_map_or (is_text_of at) before false) []
    (text_fragment c line at p.left (text_right at p.right after) ∷ [])

-- ---- inline boxes

-- a rectangle with edges around it
abbrev pub grown : Quad ℤ → Quad ℤ → Quad ℤ
grown q e = record {
  left = q.left -ℤ e.left;
  top = q.top -ℤ e.top;
  right = q.right +ℤ e.right;
  bottom = q.bottom
      +ℤ e.bottom;
}

-- the used edges of a fragment of an inline box: the left ones where the
-- box starts, the right ones where it ends (CSS 2.1, 8.6)
abbrev pub fragment_edges : InlineContext → (starts ends : Bool) → Sides Length → Quad ℤ
fragment_edges c starts ends sides =
    record {
      left = cond starts (of_side sides.left) (pos 0);
      top = of_side sides.top;
      right = cond ends (of_side sides.right) (pos 0);
      bottom = of_side sides.bottom;
    }
  where
    of_side : Length → ℤ
    of_side length = used c.tree c.world length (band_width c.cb)

-- the four rectangles around a fragment's content
abbrev pub around : InlineContext → ℕ → (starts ends : Bool) → Quad ℤ → Placed ℤ
around c at starts ends area = from_padding (grown area (fragment_edges c starts ends (paddings c.tree at)))
  where
    from_border : Quad ℤ → Quad ℤ → Placed ℤ
    from_border padding border =
        record {
          kind = of_kind.Inline;
          node = node_of c.tree at;
          margin = grown border (fragment_edges c starts ends (margins c.tree at));
          border = border;
          padding = padding;
          content = area;
        }

    from_padding : Quad ℤ → Placed ℤ
    from_padding padding = from_border padding (grown padding (fragment_edges c starts ends (borders c.tree at)))

-- the fragment of an inline box: from its start, where that is on the line, else from the left of the line's
-- content; up to its end in what follows, where that is on the line, else to the right of the content
abbrev pub inline_fragment : InlineContext → SetLine → ℕ → (start_right : Option ℤ) → (after : List ItemPlace) → Entry ℤ
inline_fragment c line at start_right after = of_entry.Here (up_to (find (is_end_of at) after))
  where
    up_to : Option ItemPlace → Placed ℤ
    up_to last = around c at (is_some start_right) (is_some last)
        (text_area c (node_of c.tree at) (line.baseline -ℤ inline_shift c at) (unwrap_or start_right line.left)
        (option_map_or (λ (p : ItemPlace). p.left) last line.right))

-- ---- atomic boxes and floats

-- an atomic box stands with its own baseline raised over the line's
abbrev pub atomic_entry : InlineContext → SetLine → ℕ → ℤ → Entry ℤ
atomic_entry c line at left =
    of_entry.Goes at (record {
      x = left;
      y = (line.baseline -ℤ shift c at (box_extent c at))
          -ℤ (box_extent c at).above;
    })

-- floats go to where they stand
abbrev pub float_entries : List (ℕ × Spot ℤ) → List (Entry ℤ)
float_entries spots = map (λ entry. of_entry.Goes entry.0 entry.1) spots

-- ---- the entries of a line after its own

-- the entries of an item, by the item before it on the line, by those after
-- it, and by where the floats stand that are left
abbrev pub item_entries : InlineContext → SetLine → (before : Option ItemPlace) → ItemPlace → (after : List ItemPlace)
    → List (ℕ × Spot ℤ) → List (Entry ℤ)
item_entries c line before p after spots = by_item p.item
  where
    by_item : Item → List (Entry ℤ)
    by_item (start at) = inline_fragment c line at (Some p.right) after ∷ []
    by_item (finish at) = []
    by_item (word at text) = text_entry c line at before p after
    by_item (space at) = text_entry c line at before p after
    by_item (atomic at) = atomic_entry c line at p.left ∷ []
    by_item (forced at) = []
    by_item (float at) = float_entries (take 1 spots)

-- each float of a line takes the first place that is left
abbrev pub spots_after : Item → List (ℕ × Spot ℤ) → List (ℕ × Spot ℤ)
spots_after (float at) spots = drop 1 spots
spots_after _ spots = spots

-- of the items in their order
abbrev pub entries_after : InlineContext → SetLine → (before : Option ItemPlace) → List ItemPlace → List (ℕ × Spot ℤ)
    → List (Entry ℤ)
entries_after c line before [] spots = []
entries_after c line before (p ∷ after) spots = item_entries c line before p after spots
    ++ entries_after c line (Some p) after (spots_after p.item spots)

-- of the inline boxes that are open at the line's start, outermost first
abbrev pub opened_entries : InlineContext → SetLine → List ℕ → List (Entry ℤ)
opened_entries c line opened = map (λ at. inline_fragment c line at None line.places) opened

-- and then of its content in document order
abbrev pub line_entries : InlineContext → SetLine → List ℕ → List (Entry ℤ)
line_entries c line opened = opened_entries c line opened ++ entries_after c line None line.places line.spots
