use Rattle.std.proofs.Common.{◌≡◌, ℕ, zero, suc, ℤ, ◌≤ℤ◌, Bool, true, false, List, [], ◌∷◌, ◌++◌, fold, slice_index_or, refl, sym, ◌∙◌, ap, append_assoc, arith}
use Rattle.std.specs.Prelude.{Some, cond, ◌&&◌}
use Rattle.std.specs.Option.{option_to_list}
use Rattle.std.proofs.lemmas.Int.{ints}
use Rattle.viz_base.specs.declared.layouts.Band.{Band}
use Rattle.viz_base.specs.declared.layouts.Spot.{Spot}
use Rattle.viz_base.specs.declared.styles.Side.{Side}
use Rattle.viz_base.specs.declared.styles.Side.TheVariants as of_side
use Rattle.viz_base.proofs.ListLemmas.{all_append}
use Rattle.layout_semantics.specs.Floats.{FloatBox, placed_float, lowest_bottom, float_top}
use Rattle.layout_semantics.specs.LineHeights.{InlineContext}
use Rattle.layout_semantics.specs.LineFilling.{Met, Line, line_float, line_spot, with_spot, with_waiting, place_each, none_waits, leaves_room, meet, met_after, floats_met, first_items, width_held}
use Rattle.layout_laws.specs.FloatRules.{ObeysRules}
use Rattle.layout_laws.specs.LineStacks.{HasMoreFloats}
use Rattle.layout_laws.proofs.FloatPlaces.{highest_obeys}
use Rattle.layout_laws.proofs.Greatest.{greatest_from-bound}

-- ---- lists of floats that grow

append-nothing : (xs : List FloatBox) → xs ++ [] ≡ xs
append-nothing [] = refl
append-nothing (x ∷ xs) = ap (λ l. x ∷ l) (append-nothing xs)

pub more-none : (m : ℤ) (floats : List FloatBox) → HasMoreFloats m floats floats
more-none m floats = record { more = []; whole = sym (append-nothing floats); low = tt }

pub more-one : (m : ℤ) (before after : List FloatBox) (f : FloatBox) → HasMoreFloats m before after → m ≤ℤ f.box.top → HasMoreFloats m before (after ++ f ∷ [])
more-one m before after f h l = record {
  more = h.more ++ f ∷ [];
  whole = ap (λ fs. fs ++ f ∷ []) h.whole ∙ append_assoc before h.more (f ∷ []);
  low = all_append (λ (g : FloatBox). m ≤ℤ g.box.top) h.more (f ∷ []) h.low (l, tt);
}

-- ---- the place of a float isn't above `least`

low-of : (side : Side) (floats : List FloatBox) (width : ℤ) (cb : Band ℤ) (top : ℤ) (at : Spot ℤ) → ObeysRules floats side width cb top at → top ≤ℤ at.y
low-of of_side.Left floats width cb top at o = o.low_enough.below_top
low-of of_side.Right floats width cb top at o = o.low_enough.below_top

pub spot-low : (c : InlineContext) (floats : List FloatBox) (least y : ℤ) (at : ℕ) → least ≤ℤ (line_spot c floats least y at).y
spot-low c floats least y at =
    let f = line_float c at in
    let cleared = option_to_list (lowest_bottom f.clear floats) in
    let top = float_top f.clear floats (Some least) y in
    let below = low-of f.side floats f.size.width f.cb top (line_spot c floats least y at) (highest_obeys floats f.size.width f.cb top f.side) in
    let above = (greatest_from-bound y (least ∷ cleared)).0 in
    omega (arith, ints)

-- ---- floats placed, and met

with-more : (c : InlineContext) (m : ℤ) (before : List FloatBox) (met : Met) (at : ℕ) (spot : Spot ℤ) → HasMoreFloats m before met.floats → m ≤ℤ spot.y → HasMoreFloats m before (with_spot c met at spot).floats
with-more c m before met at spot h l = more-one m before met.floats (placed_float (line_float c at).side (line_float c at).size spot) h l

pub each-more : (c : InlineContext) (m least y : ℤ) (before : List FloatBox) (met : Met) (boxes : List ℕ) → m ≤ℤ least → HasMoreFloats m before met.floats → HasMoreFloats m before (place_each c least y met boxes).floats
each-more c m least y before met [] l h = h
each-more c m least y before met (at ∷ boxes) l h =
    let spot = line_spot c met.floats least y at in
    let low = spot-low c met.floats least y at in
    each-more c m least y before (with_spot c met at spot) boxes l (with-more c m before met at spot h (omega (arith, ints)))

meet-more : (c : InlineContext) (m : ℤ) (line : Line) (held : ℤ) (before : List FloatBox) (met : Met) (at : ℕ) → m ≤ℤ line.least → HasMoreFloats m before met.floats → HasMoreFloats m before (meet c line held met at).floats
meet-more c m line held before met at l h =
    let spot = line_spot c met.floats line.least line.top at in
    let low = spot-low c met.floats line.least line.top at in
    by (none_waits met && leaves_room c line held met at spot) (with-more c m before met at spot h (omega (arith, ints)))
  where
    by : (b : Bool) → HasMoreFloats m before (with_spot c met at (line_spot c met.floats line.least line.top at)).floats
        → HasMoreFloats m before (cond b (with_spot c met at (line_spot c met.floats line.least line.top at)) (with_waiting met at)).floats
    by true placed = placed
    by false placed = h

meets-more : (c : InlineContext) (m : ℤ) (line : Line) (held : ℤ) (before : List FloatBox) (met : Met) (boxes : List ℕ) → m ≤ℤ line.least → HasMoreFloats m before met.floats → HasMoreFloats m before (fold (meet c line held) met boxes).floats
meets-more c m line held before met [] l h = h
meets-more c m line held before met (at ∷ boxes) l h = meets-more c m line held before (meet c line held met at) boxes l (meet-more c m line held before met at l h)

pub met-more : (c : InlineContext) (m : ℤ) (line : Line) (n : ℕ) (before : List FloatBox) → m ≤ℤ line.least → HasMoreFloats m before line.before.floats → HasMoreFloats m before (met_after c line n).floats
met-more c m line zero before l h = h
met-more c m line (suc n) before l h =
    meets-more c m line (width_held c (first_items line (suc n))) before (met_after c line n) (floats_met c.tree n (slice_index_or line.parts n [])) l (met-more c m line n before l h)
