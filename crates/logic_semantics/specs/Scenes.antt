use Rattle.std.specs.Prelude.{ℕ, ◌*◌, ℤ, pos, Bool, true, false, ◌==◌, ◌&&◌, List, length, filter, slice_get, Option, Some, None}
use Rattle.std.specs.List.{list_any, range_with_len}
use Rattle.std.specs.Option.{option_map_or}
use Rattle.viz_base.specs.declared.worlds.World.{World}
use Rattle.viz_base.specs.declared.trees.Kind.{Kind}
use Rattle.viz_base.specs.declared.trees.Kind.TheVariants as of_kind
use Rattle.viz_base.specs.declared.formulas.Set.{Set}
use Rattle.viz_base.specs.declared.formulas.Set.TheVariants as of_set
use Rattle.viz_base.specs.declared.renderings.Placed.{Placed}
use Rattle.viz_base.specs.declared.renderings.Rendering.{Rendering}

-- what a formula speaks of: the boxes of a rendering, and the viewport's width and height and the default font size in
-- units of 1/64 px
pub record Scene : Type 0 where
  pub boxes : List (Placed ℤ)
  pub width : ℤ
  pub height : ℤ
  pub size : ℤ

-- a rendering at a world
abbrev pub scene_of : Rendering ℤ → World → Scene
scene_of r world = record {
  boxes = r.boxes;
  width = pos (64 * world.w);
  height = pos (64 * world.h);
  size = pos (64 * world.s);
}

-- ---- members of sets

abbrev pub is_kind : Kind → Kind → Bool
is_kind of_kind.Block of_kind.Block = true
is_kind of_kind.Anon of_kind.Anon = true
is_kind of_kind.Float of_kind.Float = true
is_kind of_kind.Atomic of_kind.Atomic = true
is_kind of_kind.Replaced of_kind.Replaced = true
is_kind of_kind.Inline of_kind.Inline = true
is_kind of_kind.Chars of_kind.Chars = true
is_kind of_kind.Line of_kind.Line = true
is_kind of_kind.Break of_kind.Break = true
is_kind _ _ = false

-- the boxes of elements: neither anonymous boxes, nor lines, nor texts (CSS 2.1, 9.2)
abbrev pub is_of_element : Kind → Bool
is_of_element of_kind.Block = true
is_of_element of_kind.Float = true
is_of_element of_kind.Atomic = true
is_of_element of_kind.Replaced = true
is_of_element of_kind.Inline = true
is_of_element _ = false

-- whether a box of this kind that comes from this node is a member of the set
abbrev pub is_member : Set → Kind → ℕ → Bool
is_member (of_set.Of wanted) kind node = is_kind kind wanted
is_member of_set.Every kind node = true
is_member (of_set.Nodes nodes) kind node = is_of_element kind && list_any (λ n. n == node) nodes

-- whether the box at this place of a rendering is
abbrev pub is_member_at : {N : Type 0} → Set → List (Placed N) → ℕ → Bool
is_member_at set boxes place = option_map_or (λ b. is_member set b.kind b.node) (slice_get boxes place) false

-- the members of a set: the places of its boxes, in the rendering's order
abbrev pub members : {N : Type 0} → Set → List (Placed N) → List ℕ
members set boxes = filter (is_member_at set boxes) (range_with_len 0 (length boxes))

-- ---- names

-- the box at a place that may be missing
abbrev pub box_at : {N : Type 0} → List (Placed N) → Option ℕ → Option (Placed N)
box_at boxes None = None
box_at boxes (Some place) = slice_get boxes place

-- the box that a name stands for, the places that the names stand for being listed from the innermost on;
-- a name without a quantifier stands for none
abbrev pub named : {N : Type 0} → List (Placed N) → List ℕ → ℕ → Option (Placed N)
named boxes names name = box_at boxes (slice_get names name)
