-- Floats are placed one after another by the rules, in lines and in flow.
use Rattle.std.proofs.Common.{◌≡◌, ℕ, zero, suc, ◌<◌, ℤ, ◌+ℤ◌, ◌≤ℤ◌, Bool, true, false, cond, List, [], ◌∷◌, ◌++◌, length, drop, fold, slice_get, slice_index_or, ◌&&◌, Contains, Option, Some, refl, ap, subst, inl, inr, ◌⊎◌, arith}
use Rattle.std.specs.List.{list_any}
use Rattle.std.specs.Int.{int_max}
use Rattle.std.proofs.lemmas.Option.{none-some, same_Some}
use Rattle.viz_base.specs.declared.layouts.Band.{Band}
use Rattle.viz_base.specs.declared.layouts.Extent.{Extent}
use Rattle.viz_base.specs.declared.styles.Side.{Side}
use Rattle.viz_base.specs.declared.styles.Side.TheVariants as of_side
use Rattle.viz_base.proofs.ListLemmas.{later_member}
use Rattle.layout_semantics.specs.Floats.{FloatBox, Floating, float_top, with_float, placed_float, float_at}
use Rattle.layout_semantics.specs.InlineContent.{Item, content, float_boxes, makes_line}
use Rattle.layout_semantics.specs.Segments.{segments}
use Rattle.layout_semantics.specs.LineHeights.{InlineContext, line_extent, height_of_extent, extended_boxes, tallest}
use Rattle.layout_semantics.specs.LineFilling.{Met, Line, line_float, line_spot, with_spot, with_waiting, place_each, none_waits, leaves_room, meet, met_after, floats_met, first_items, width_held, segments_held, before_line}
use Rattle.layout_semantics.specs.Lines.{SoFar, LaidLines, before_all, next_line, laid_line, laid_no_line, laid_segments, lines_to, lines_in}
use Rattle.layout_laws.specs.FloatRules.{ObeysRules}
use Rattle.layout_laws.proofs.Members.{first_member}
use Rattle.layout_laws.proofs.Apart.{apart}
use Rattle.layout_laws.proofs.FloatPlaces.{highest_obeys}
use Rattle.layout_laws.specs.PlacedFloats.{ArePlacedAfter, none, next, IsClearOf, AreClear}

-- a float that comes next is placed after those before it
pub float_next : (f : Floating) (before floats : List FloatBox) (least : Option ℤ) (y : ℤ) → ArePlacedAfter before floats → ArePlacedAfter before (with_float f floats least y)
float_next f before floats least y h = next floats f.side f.size f.cb (float_top f.clear floats least y) h

-- ---- lines

module _ (c : InlineContext) (before : List FloatBox) where
  abbrev Placed : List FloatBox → Type 0
  Placed floats = ArePlacedAfter before floats

  one : (met : Met) (least y : ℤ) (at : ℕ) → Placed met.floats → Placed (with_spot c met at (line_spot c met.floats least y at)).floats
  one met least y at h = float_next (line_float c at) before met.floats (Some least) y h

  each : (least y : ℤ) (met : Met) (boxes : List ℕ) → Placed met.floats → Placed (place_each c least y met boxes).floats
  each least y met [] h = h
  each least y met (at ∷ boxes) h = each least y (with_spot c met at (line_spot c met.floats least y at)) boxes (one met least y at h)

  module _ (line : Line) where
    meet_one : (held : ℤ) (met : Met) (at : ℕ) → Placed met.floats → Placed (meet c line held met at).floats
    meet_one held met at h =
        let spot = line_spot c met.floats line.least line.top at in
        by (none_waits met && leaves_room c line held met at spot) (one met line.least line.top at h)
      where
        by : (b : Bool) → Placed (with_spot c met at (line_spot c met.floats line.least line.top at)).floats
            → Placed (cond b (with_spot c met at (line_spot c met.floats line.least line.top at)) (with_waiting met at)).floats
        by true placed = placed
        by false placed = h

    meet_all : (held : ℤ) (met : Met) (boxes : List ℕ) → Placed met.floats → Placed (fold (meet c line held) met boxes).floats
    meet_all held met [] h = h
    meet_all held met (at ∷ boxes) h = meet_all held (meet c line held met at) boxes (meet_one held met at h)

    met_placed : (n : ℕ) → Placed line.before.floats → Placed (met_after c line n).floats
    met_placed zero h = h
    met_placed (suc n) h = meet_all (width_held c (first_items line (suc n))) (met_after c line n) (floats_met c.tree n (slice_index_or line.parts n [])) (met_placed n h)

    after_placed : (now : SoFar) (n : ℕ) → Placed now.floats → Placed line.before.floats → Placed (laid_segments c now line n).after.floats
    after_placed now n h b = by (list_any (makes_line c.tree) (first_items line n))
        (let items = first_items line n in let met = met_after c line n in
        each (int_max now.least line.top) (line.top +ℤ height_of_extent (line_extent c (now.opened ++ extended_boxes items))) (record met { waiting = [] }) met.waiting (met_placed n b))
        (each now.least now.y (record { spots = []; floats = now.floats; waiting = [] }) (float_boxes (first_items line n)) h)
      where
        by : (b : Bool) → Placed (laid_line c now line (first_items line n) (met_after c line n)).after.floats → Placed (laid_no_line c now (first_items line n)).after.floats
            → Placed (elim b as (λ (x : Bool). LaidLines) [ true ↦ laid_line c now line (first_items line n) (met_after c line n) | false ↦ laid_no_line c now (first_items line n) ]).after.floats
        by true there not_there = there
        by false there not_there = not_there

  lines_placed : (lines : ℕ) (now : SoFar) (parts : List (List Item)) → Placed now.floats → Placed (lines_to lines c (tallest c) now parts).after.floats
  unfolding lines_to
  lines_placed zero now parts h = h
  lines_placed (suc lines) now [] h = h
  lines_placed (suc lines) now (first ∷ parts) h =
      let line = next_line c (tallest c) now first (first ∷ parts) in
      let n = segments_held c line in
      lines_placed lines (laid_segments c now line n).after (drop n (first ∷ parts))
      (after_placed line now n h (each now.least now.y (record { spots = []; floats = now.floats; waiting = [] }) (float_boxes (before_line c.tree first)) h))

pub of_lines : (c : InlineContext) (y least : ℤ) (floats : List FloatBox) → ArePlacedAfter floats (lines_in c y least floats).floats
of_lines c y least floats = lines_placed c floats (length (segments c.tree (content c.tree c.container))) (before_all y least floats) (segments c.tree (content c.tree c.container)) none

-- ---- floats that are placed so are clear of those before them

get_member : (xs : List FloatBox) (i : ℕ) (f : FloatBox) → slice_get xs i ≡ Some f → Contains xs f
get_member [] i f e = absurd (none-some f e)
get_member (x ∷ xs) zero f e = first_member xs (same_Some x f e)
get_member (x ∷ xs) (suc i) f e = later_member xs (get_member xs i f e)

get_below : (xs : List FloatBox) (i : ℕ) (f : FloatBox) → slice_get xs i ≡ Some f → i < length xs
get_below [] i f e = absurd (none-some f e)
get_below (x ∷ xs) zero f e = omega arith
get_below (x ∷ xs) (suc i) f e = let rest = get_below xs i f e in omega arith

get_append : (xs : List FloatBox) (x : FloatBox) (i : ℕ) (f : FloatBox) → slice_get (xs ++ x ∷ []) i ≡ Some f → (slice_get xs i ≡ Some f) ⊎ ((i ≡ length xs) × (x ≡ f))
get_append [] x zero f e = inr (refl, same_Some x f e)
get_append [] x (suc i) f e = absurd (none-some f e)
get_append (y ∷ xs) x zero f e = inl e
get_append (y ∷ xs) x (suc i) f e = by (get_append xs x i f e)
  where
    by : ((slice_get xs i ≡ Some f) ⊎ ((i ≡ length xs) × (x ≡ f))) → (slice_get xs i ≡ Some f) ⊎ ((suc i ≡ length (y ∷ xs)) × (x ≡ f))
    by (inl g) = inl g
    by (inr g) = inr (ap suc g.0, g.1)

-- a float at its place is clear of each earlier one
clear_of_each : (floats : List FloatBox) (side : Side) (size : Extent ℤ) (cb : Band ℤ) (top : ℤ) (f : FloatBox) → Contains floats f → IsClearOf (placed_float side size (float_at floats side size cb top)) f
clear_of_each floats side size cb top f i = record {
  apart = apart floats size cb top (float_at floats side size cb top) side obeys f i;
  not_above = low side obeys;
}
  where
    obeys : ObeysRules floats side size.width cb top (float_at floats side size cb top)
    obeys = highest_obeys floats size.width cb top side

    low : (s : Side) → ObeysRules floats s size.width cb top (float_at floats side size cb top) → f.box.top ≤ℤ (float_at floats side size cb top).y
    low of_side.Left o = o.low_enough.below_floats f i
    low of_side.Right o = o.low_enough.below_floats f i

clear_more : (floats : List FloatBox) (g : FloatBox) → AreClear floats → ((f : FloatBox) → Contains floats f → IsClearOf g f) → AreClear (floats ++ g ∷ [])
clear_more floats g h each i j a b l ea eb = by (get_append floats g j b eb) (get_append floats g i a ea)
  where
    by : ((slice_get floats j ≡ Some b) ⊎ ((j ≡ length floats) × (g ≡ b))) → ((slice_get floats i ≡ Some a) ⊎ ((i ≡ length floats) × (g ≡ a))) → IsClearOf b a
    by (inl eb) (inl ea) = h i j a b l ea eb
    by (inl eb) (inr ea) = absurd (let t = get_below floats j b eb in omega (arith, ea.0))
    by (inr eb) (inl ea) = subst (λ (z : FloatBox). IsClearOf z a) eb.1 (each a (get_member floats i a ea))
    by (inr eb) (inr ea) = absurd (omega (arith, ea.0, eb.0))

pub are_clear : (floats : List FloatBox) → ArePlacedAfter [] floats → AreClear floats
are_clear floats none = λ i j a b l ea eb. absurd (none-some a ea)
are_clear floats (next before side size cb top h) = clear_more before (placed_float side size (float_at before side size cb top)) (are_clear before h) (clear_of_each before side size cb top)
