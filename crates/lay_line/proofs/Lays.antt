use Rattle.std.proofs.Common.{◌≡◌, ℕ, zero, suc, ℤ, pos, Bool, true, false, cond, List, [], ◌∷◌, ◌++◌, drop, length, refl, sym, ◌∙◌, ap}
use Rattle.std.specs.Int.{int_max}
use Rattle.std.specs.List.{list_any}
use Rattle.layout_semantics.specs.Floats.{FloatBox}
use Rattle.layout_semantics.specs.InlineContent.{Item, float_boxes, makes_line, content}
use Rattle.layout_semantics.specs.Segments.{segments, what_stays}
use Rattle.layout_semantics.specs.Fragments.{set_out}
use Rattle.layout_semantics.specs.LineHeights.{InlineContext, LineExtent, line_extent, height_of_extent, extended_boxes, tallest}
use Rattle.layout_semantics.specs.LineFilling.{Met, Line, place_each, line_top, before_line, item_width, width_held, first_items, met_after, segments_held}
use Rattle.layout_semantics.specs.Lines.{SoFar, LaidLines, LineList, before_all, next_line, laid_line, laid_no_line, laid_segments, laid_next, followed, go_on, lines_to, lines_in}
use Rattle.lay_line.specs.steps.Held.{nothing_held, with_items}
use Rattle.lay_line.specs.steps.Filling.{Filled, first_filled, filled}
use Rattle.lay_line.specs.steps.Laying.{tallest_of, left_of, line_from, laid, laid_empty, line_closed, line_step, laid_to, lines_by_steps}
use Rattle.lay_line.specs.steps.Lining.{no_floats}
use Rattle.lay_line.specs.steps.Staying.{stand}
use Rattle.lay_line.proofs.Stands.{stand-same}
use Rattle.lay_line.proofs.Lasts.{solid-same}
use Rattle.lay_line.proofs.FoundTops.{top-same}
use Rattle.lay_line.proofs.Widths.{width-same}
use Rattle.lay_line.proofs.Reaching.{extent-same}
use Rattle.lay_line.proofs.Fills.{state, line-filled}
use Rattle.lay_line.proofs.Cuts.{segments-are}

module _ (c : InlineContext) (now : SoFar) (line : Line) where
  abbrev with_rest : ℕ → LaidLines → LaidLines × List (List Item)
  with_rest n s = (s, drop n line.parts)

  laid-same : (n : ℕ) → line_closed c now line (state c line now.opened n) line.parts ≡ with_rest n (laid_segments c now line n)
  laid-same n = by (list_any (makes_line c.tree) (first_items line n))
    where
      items : List Item
      items = first_items line n

      f : Filled
      f = state c line now.opened n

      met : Met
      met = met_after c line n

      -- reaching so far and so wide
      shaped : LineExtent → ℤ → Filled
      shaped e w = record f { extent = e; held = record f.held { width = w } }

      full : laid c now line f (stand c (left_of c line met f.held.width) false f.span.solid items) ≡ laid_line c now line items met
      full =
          ap (laid c now line f) (ap (λ k. stand c (left_of c line met f.held.width) false k items) (solid-same items) ∙ stand-same c (left_of c line met f.held.width) items)
          ∙ (ap (λ (e : LineExtent). laid c now line (shaped e f.held.width) (set_out c (left_of c line met f.held.width) (what_stays items))) (sym (extent-same c now.opened items))
          ∙ ap (λ (w : ℤ). laid c now line (shaped (line_extent c (now.opened ++ extended_boxes items)) w) (set_out c (left_of c line met w) (what_stays items))) (sym (width-same c items)))

      by : (b : Bool) → with_rest n (cond b (laid c now line f (stand c (left_of c line met f.held.width) false f.span.solid items)) (laid_empty c now f.opened items))
          ≡ with_rest n (elim b as (λ (x : Bool). LaidLines) [ true ↦ laid_line c now line items met | false ↦ laid_no_line c now items ])
      by true = ap (with_rest n) full
      by false = refl

-- the line stands where the definition says
line-same : (c : InlineContext) (tall : ℤ) (now : SoFar) (first : List Item) (parts : List (List Item)) (width : ℤ) → width_held c first ≡ width → line_from c tall now first parts width ≡ next_line c tall now first parts
line-same c tall now first parts width e = ap (made width) (top-same c before.floats now.y tall width) ∙ ap (λ w. made w (line_top c before.floats now.y tall w)) (sym e)
  where
    before : Met
    before = place_each c now.least now.y (no_floats now.floats) (float_boxes (before_line c.tree first))

    made : ℤ → ℤ → Line
    made w top = record { top = top; tall = tall; least = now.least; before = before; parts = parts }

-- one line is the next line
step-same : (c : InlineContext) (tall : ℤ) (now : SoFar) (first : List Item) (rest : List (List Item)) → line_step c tall now first rest ≡ laid_next c tall now first (first ∷ rest)
step-same c tall now first rest =
    let parts = first ∷ rest in
    let held = with_items (item_width c) nothing_held first in
    let line = next_line c tall now first parts in
    ap (λ l. line_closed c now l (filled c l (first_filled c l now.opened first held) rest) parts) (line-same c tall now first parts held.width (width-same c first))
    ∙ (ap (λ f. line_closed c now line f parts) (line-filled c line now.opened first rest refl)
    ∙ laid-same c now line (segments_held c line))

-- and all lines are the lines
pub lines-same : (k : ℕ) (c : InlineContext) (tall : ℤ) (now : SoFar) (parts : List (List Item)) → laid_to k c tall now parts ≡ lines_to k c tall now parts
unfolding laid_to lines_to
lines-same zero c tall now parts = refl
lines-same (suc k) c tall now [] = refl
lines-same (suc k) c tall now (first ∷ rest) =
    let next = laid_next c tall now first (first ∷ rest) in
    ap (go_on (laid_to k c tall)) (step-same c tall now first rest)
    ∙ ap (followed next.0) (lines-same k c tall next.0.after next.1)

-- the tallest line in one pass
tallest-same : (c : InlineContext) → tallest_of c (content c.tree c.container) ≡ tallest c
tallest-same c = ap (λ e. int_max (pos 1) (height_of_extent e)) (sym (extent-same c [] (content c.tree c.container)))

-- from the content on
pub lines-are : (c : InlineContext) (y least : ℤ) (floats : List FloatBox) → lines_by_steps c y least floats ≡ lines_in c y least floats
lines-are c y least floats =
    let items = content c.tree c.container in
    let parts = segments c.tree items in
    ap (λ (p : List (List Item)). listed (laid_to (length p) c (tallest_of c items) (before_all y least floats) p)) (sym (segments-are c.tree items))
    ∙ (ap (λ tall. listed (laid_to (length parts) c tall (before_all y least floats) parts)) (tallest-same c)
    ∙ ap listed (lines-same (length parts) c (tallest c) (before_all y least floats) parts))
  where
    listed : LaidLines → LineList
    listed l = record { entries = l.entries; bottom = l.after.y; baseline = l.after.baseline; floats = l.after.floats }
