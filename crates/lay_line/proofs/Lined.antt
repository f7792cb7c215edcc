-- The lines of measured items are the lines.
use Rattle.std.proofs.Common.{◌≡◌, ℕ, zero, suc, ◌≤◌, ℤ, ◌+ℤ◌, pos, Bool, true, false, cond, List, [], ◌∷◌, ◌++◌, map, flat_map, length, take, drop, fold, None, Some, refl, sym, ap, ◌∙◌, append_assoc, append-nil, arith}
use Rattle.std.specs.Prelude.{◌&&◌}
use Rattle.std.specs.Int.{int_max}
use Rattle.std.proofs.lemmas.List.{length-map, length-drop}
use Rattle.layout_semantics.specs.Floats.{FloatBox}
use Rattle.layout_semantics.specs.InlineContent.{Item, float_boxes, content}
use Rattle.layout_semantics.specs.Segments.{may_part}
use Rattle.layout_semantics.specs.LineHeights.{InlineContext, LineExtent, height_of_extent, strut}
use Rattle.layout_semantics.specs.LineFilling.{Met, Line, meet, place_each, line_spot, with_spot, with_waiting, none_waits, leaves_room, before_line, from_line_on, item_width, first_items}
use Rattle.layout_semantics.specs.Fragments.{ItemPlace, float_entries}
use Rattle.layout_semantics.specs.Lines.{SoFar, LaidLines, LineList, before_all, followed, lines_in}
use Rattle.lay_line.specs.steps.Filling.{Filled, with_segment, first_filled, takes, past, filled, extent_at_start}
use Rattle.lay_line.specs.steps.Held.{Held, nothing_held, with_items}
use Rattle.lay_line.specs.steps.Laying.{tallest_of, left_of, line_from, line_added, laid, laid_empty, line_step, laid_to}
use Rattle.lay_line.specs.steps.Loading.{Load, bare, ahead, reaching_boxes, loaded, loading, tallest_by}
use Rattle.lay_line.specs.steps.Lining.{no_floats, met_before, slot_for, first_load, left_in, places_of, entries_in, box_in, full_line, empty_line, ended_line, joined_parts, taken, next_in, going_on, laying, lined}
use Rattle.lay_line.specs.steps.Marks.{marks, marked_parts}
use Rattle.lay_line.specs.steps.Measured.{Measured, measured, rows, first_row}
use Rattle.lay_line.specs.steps.Meeting.{Slot, placed_all}
use Rattle.lay_line.specs.steps.Staying.{no_items, spanned, stand}
use Rattle.lay_line.specs.steps.Words.{width_in, strut_in, room_in}
use Rattle.lay_line.proofs.Fills.{line-filled}
use Rattle.lay_line.proofs.Lays.{lines-are}
use Rattle.lay_line.proofs.Marks.{marks-same}
use Rattle.lay_line.proofs.Measures.{held-same, row-same}
use Rattle.lay_line.proofs.Parts.{measured-parts, bare-measured, measured-append, measured-joined, parts-few, taken-front, joined-split}
use Rattle.lay_line.proofs.Passing.{slot_of, load_of, placed-same, reaching-same, start-same, loaded-same, loading-same, left-same, ahead-same, behind-same, top-same}

-- ---- floats only grow

abbrev Grows : List FloatBox → List FloatBox → Type 0
Grows old new = (more : List FloatBox) × (new ≡ old ++ more)

grows-none : (fs : List FloatBox) → Grows fs fs
grows-none fs = ([], sym (append-nil fs))

grows-then : (a b d : List FloatBox) → Grows a b → Grows b d → Grows a d
grows-then a b d p q = (p.0 ++ q.0, q.1 ∙ (ap (λ l. l ++ q.0) p.1 ∙ append_assoc a p.0 q.0))

grows-front : (old new : List FloatBox) → Grows old new → take (length old) new ≡ old
grows-front old new g = ap (take (length old)) g.1 ∙ front old g.0
  where
    front : (xs ys : List FloatBox) → take (length xs) (xs ++ ys) ≡ xs
    front [] ys = refl
    front (x ∷ xs) ys = ap (λ l. x ∷ l) (front xs ys)

placed-grows : (c : InlineContext) (least y : ℤ) (met : Met) (boxes : List ℕ) → Grows met.floats (place_each c least y met boxes).floats
placed-grows c least y met [] = grows-none met.floats
placed-grows c least y met (at ∷ boxes) =
    let next = with_spot c met at (line_spot c met.floats least y at) in
    grows-then met.floats next.floats (place_each c least y next boxes).floats (_, refl) (placed-grows c least y next boxes)

meet-grows : (c : InlineContext) (line : Line) (held : ℤ) (met : Met) (at : ℕ) → Grows met.floats (meet c line held met at).floats
meet-grows c line held met at = by (none_waits met) (leaves_room c line held met at (line_spot c met.floats line.least line.top at))
  where
    by : (a b : Bool) → Grows met.floats (cond (a && b) (with_spot c met at (line_spot c met.floats line.least line.top at)) (with_waiting met at)).floats
    by true true = (_, refl)
    by true false = grows-none met.floats
    by false b = grows-none met.floats

met-grows : (c : InlineContext) (line : Line) (held : ℤ) (met : Met) (boxes : List ℕ) → Grows met.floats (fold (meet c line held) met boxes).floats
met-grows c line held met [] = grows-none met.floats
met-grows c line held met (at ∷ boxes) =
    let next = meet c line held met at in
    grows-then met.floats next.floats (fold (meet c line held) next boxes).floats (meet-grows c line held met at) (met-grows c line held next boxes)

filled-grows : (c : InlineContext) (line : Line) (f : Filled) (parts : List (List Item)) → Grows f.met.floats (filled c line f parts).met.floats
filled-grows c line f [] = grows-none f.met.floats
filled-grows c line f (part ∷ parts) = by (takes c line f more) (filled-grows c line next parts)
  where
    more : Held
    more = with_items (item_width c) f.held part

    next : Filled
    next = with_segment c line f part (float_boxes part) more

    by : (b : Bool) → Grows next.met.floats (filled c line next parts).met.floats → Grows f.met.floats (past b f (λ n. filled c line n parts) next).met.floats
    by true again = grows-then f.met.floats next.met.floats (filled c line next parts).met.floats (met-grows c line more.width f.met (float_boxes part)) again
    by false again = grows-none f.met.floats

-- ---- segments only get fewer

count-grows : (c : InlineContext) (line : Line) (f : Filled) (parts : List (List Item)) → f.count ≤ (filled c line f parts).count
count-grows c line f [] = omega arith
count-grows c line f (part ∷ parts) = by (takes c line f more) (count-grows c line next parts)
  where
    more : Held
    more = with_items (item_width c) f.held part

    next : Filled
    next = with_segment c line f part (float_boxes part) more

    by : (b : Bool) → next.count ≤ (filled c line next parts).count → f.count ≤ (past b f (λ n. filled c line n parts) next).count
    by true again = omega arith
    by false again = omega arith

step-fewer : (c : InlineContext) (tall : ℤ) (now : SoFar) (first : List Item) (rest : List (List Item)) → length (line_step c tall now first rest).1 ≤ length rest
step-fewer c tall now first rest =
    let held = with_items (item_width c) nothing_held first in
    let line = line_from c tall now first (first ∷ rest) held.width in
    let begun = first_filled c line now.opened first held in
    let more = count-grows c line begun rest in
    let left = length-drop (filled c line begun rest).count (first ∷ rest) in
    omega (arith, more, left)

laid-enough : (n m : ℕ) (c : InlineContext) (tall : ℤ) (now : SoFar) (parts : List (List Item)) → length parts ≤ n → length parts ≤ m → laid_to n c tall now parts ≡ laid_to m c tall now parts
unfolding laid_to
laid-enough zero zero c tall now [] p q = refl
laid-enough zero (suc m) c tall now [] p q = refl
laid-enough (suc n) zero c tall now [] p q = refl
laid-enough (suc n) (suc m) c tall now [] p q = refl
laid-enough zero m c tall now (first ∷ rest) p q = absurd (omega arith)
laid-enough (suc n) zero c tall now (first ∷ rest) p q = absurd (omega arith)
laid-enough (suc n) (suc m) c tall now (first ∷ rest) p q =
    let next = line_step c tall now first rest in
    let fewer = step-fewer c tall now first rest in
    ap (followed next.0) (laid-enough n m c tall next.0.after next.1 (omega (arith, fewer)) (omega (arith, fewer)))

-- ---- one line

module _ (c : InlineContext) (now : SoFar) (line : Line) (f : Filled) (xs : List Item) where
  abbrev solid : ℕ
  solid = (spanned no_items xs).solid

  places-same : (x : ℤ) → places_of x (measured (item_width c) xs) ≡ stand c x false solid xs
  unfolding places_of
  places-same x = ap (λ l. (rows (first_row x (spanned no_items l).solid) (measured (item_width c) xs)).places) (bare-measured (item_width c) xs) ∙ row-same c x solid xs

  abbrev full_with : Met → List ItemPlace → LaidLines
  full_with late places = record {
    after = record { y = line.top +ℤ height_of_extent f.extent; least = int_max now.least line.top; floats = late.floats; opened = f.opened; baseline = Some (line.top +ℤ f.extent.above) };
    entries = line_added c now line f places late;
  }

  full-same : full_line c now (slot_of line) (load_of f) (measured (item_width c) xs)
      ≡ laid c now line f (stand c (left_of c line f.met f.held.width) false solid xs)
  unfolding full_line left_in entries_in box_in room_in
  full-same =
      let late : Met = record { spots = f.met.spots; floats = f.met.floats; waiting = [] } in
      let y = line.top +ℤ height_of_extent f.extent in
      ap (full_with (placed_all c (int_max now.least line.top) y late f.met.waiting)) (places-same (left_of c line f.met f.held.width))
      ∙ ap (λ m. full_with m (stand c (left_of c line f.met f.held.width) false solid xs)) (placed-same c (int_max now.least line.top) y late f.met.waiting)

  abbrev empty_with : Met → LaidLines
  empty_with met = record { after = record { y = now.y; least = now.least; floats = met.floats; opened = f.opened; baseline = now.baseline }; entries = float_entries met.spots }

  empty-same : Grows now.floats f.met.floats → empty_line c now (load_of f) (measured (item_width c) xs) ≡ laid_empty c now f.opened xs
  unfolding empty_line
  empty-same g =
      ap (λ fs. empty_with (placed_all c now.least now.y (no_floats fs) (float_boxes (bare (measured (item_width c) xs))))) (grows-front now.floats f.met.floats g)
      ∙ (ap (λ l. empty_with (placed_all c now.least now.y (no_floats now.floats) (float_boxes l))) (bare-measured (item_width c) xs)
      ∙ ap empty_with (placed-same c now.least now.y (no_floats now.floats) (float_boxes xs)))

  ended-same : Grows now.floats f.met.floats → ended_line c now (slot_of line) (load_of f) (measured (item_width c) xs)
      ≡ cond f.is_line (laid c now line f (stand c (left_of c line f.met f.held.width) false solid xs)) (laid_empty c now f.opened xs)
  unfolding ended_line
  ended-same g =
      ap (λ l. cond f.is_line l (empty_line c now (load_of f) (measured (item_width c) xs))) full-same
      ∙ ap (cond f.is_line (laid c now line f (stand c (left_of c line f.met f.held.width) false solid xs))) (empty-same g)

module _ (c : InlineContext) (tall : ℤ) (now : SoFar) (first : List Item) (rest : List (List Item)) where
  abbrev w : Item → ℤ
  w i = item_width c i

  abbrev held : Held
  held = with_items w nothing_held first

  abbrev before : Met
  before = place_each c now.least now.y (no_floats now.floats) (float_boxes (before_line c.tree first))

  abbrev line : Line
  line = line_from c tall now first (first ∷ rest) held.width

  abbrev begun : Filled
  begun = first_filled c line now.opened first held

  abbrev full : Filled
  full = filled c line begun rest

  before-same : met_before c now (measured w first) ≡ before
  unfolding met_before
  before-same =
      ap (λ l. placed_all c now.least now.y (no_floats now.floats) (float_boxes (take (ahead c l) l))) (bare-measured w first)
      ∙ (ap (λ l. placed_all c now.least now.y (no_floats now.floats) (float_boxes l)) (ahead-same c first)
      ∙ placed-same c now.least now.y (no_floats now.floats) (float_boxes (before_line c.tree first)))

  slot-same : slot_for c tall now before held.width ≡ slot_of line
  slot-same = ap (λ t. slot_at t) (top-same c before.floats now.y tall held.width)
    where
      slot_at : ℤ → Slot
      slot_at t = record { top = t; tall = tall; least = now.least }

  abbrev nothing_with : LineExtent → Filled
  nothing_with x = record { count = 0; span = no_items; held = nothing_held; is_ended = false; is_line = false; met = before; extent = x; opened = now.opened }

  begun-same : first_load c (slot_of line) before now.opened (measured w first) held ≡ load_of begun
  unfolding first_load
  begun-same =
      ap (λ l. loaded c (slot_of line) (load_of (nothing_with (reaching_boxes c (strut_in c) now.opened))) l (float_boxes (drop (ahead c l) l)) held) (bare-measured w first)
      ∙ (ap (λ l. loaded c (slot_of line) (load_of (nothing_with (reaching_boxes c (strut_in c) now.opened))) first (float_boxes l) held) (behind-same c first)
      ∙ (ap (λ x. loaded c (slot_of line) (load_of (nothing_with x)) first (float_boxes (from_line_on c.tree first)) held) (start-same c now.opened)
      ∙ loaded-same c line (nothing_with (extent_at_start c now.opened)) first (float_boxes (from_line_on c.tree first)) held))

  begun-grows : Grows now.floats begun.met.floats
  begun-grows = grows-then now.floats before.floats begun.met.floats (placed-grows c now.least now.y (no_floats now.floats) (float_boxes (before_line c.tree first)))
      (met-grows c line held.width before (float_boxes (from_line_on c.tree first)))

  full-grows : Grows now.floats full.met.floats
  full-grows = grows-then now.floats begun.met.floats full.met.floats begun-grows (filled-grows c line begun rest)

  abbrev parts : List (List Item)
  parts = first ∷ rest

  items-same : (n : ℕ) → taken (joined_parts (map (measured w) parts)) (joined_parts (map (measured w) (drop n parts))) ≡ measured w (first_items line n)
  items-same n =
      let front = flat_map (λ (p : List Item). p) (take n parts) in
      let back = flat_map (λ (p : List Item). p) (drop n parts) in
      let all = measured-joined w parts ∙ (ap (measured w) (joined-split n parts) ∙ measured-append w front back) in
      let left = measured-joined w (drop n parts) in
      ap (λ l. taken l (joined_parts (map (measured w) (drop n parts)))) all
      ∙ (ap (taken (measured w front ++ measured w back)) left ∙ taken-front (measured w front) (measured w back))

  span-same : full.span.solid ≡ (spanned no_items (first_items line full.count)).solid
  span-same =
      let is = line-filled c line now.opened first rest refl in
      ap (λ (g : Filled). g.span.solid) is ∙ ap (λ (g : Filled). (spanned no_items (first_items line g.count)).solid) (sym is)

  abbrev paired : LaidLines → List (List Item) → LaidLines × List (List Measured)
  paired l left = (l, map (measured w) left)

  closed : next_in c tall now (measured w first) (map (measured w) rest)
      ≡ paired (line_step c tall now first rest).0 (line_step c tall now first rest).1
  unfolding next_in
  closed =
      let m = measured w in
      ap of_held (held-same w nothing_held first)
      ∙ (ap (of_before held) before-same
      ∙ (ap (of_slot held before) slot-same
      ∙ (ap (λ l. of_loaded (slot_of line) (loading c (slot_of line) l (map m rest))) begun-same
      ∙ (ap (of_loaded (slot_of line)) (loading-same c line begun rest)
      ∙ (ap (λ l. of_loaded (slot_of line) (load_of full, map m l)) (sym (left-same c line begun parts rest refl))
      ∙ (ap (λ xs. (ended_line c now (slot_of line) (load_of full) xs, map m (drop full.count parts))) (items-same full.count)
      ∙ (ap (λ l. paired l (drop full.count parts)) (ended-same c now line full (first_items line full.count) full-grows)
      ∙ ap (λ k. paired (cond full.is_line (laid c now line full (stand c (left_of c line full.met full.held.width) false k (first_items line full.count)))
      (laid_empty c now full.opened (first_items line full.count))) (drop full.count parts)) (sym span-same))))))))
    where
      of_loaded : Slot → Load × List (List Measured) → LaidLines × List (List Measured)
      of_loaded slot f = (ended_line c now slot f.0 (taken (joined_parts (map (measured w) parts)) (joined_parts f.1)), f.1)

      of_slot : Held → Met → Slot → LaidLines × List (List Measured)
      of_slot h b slot = of_loaded slot (loading c slot (first_load c slot b now.opened (measured w first) h) (map (measured w) rest))

      of_before : Held → Met → LaidLines × List (List Measured)
      of_before h b = of_slot h b (slot_for c tall now b h.width)

      of_held : Held → LaidLines × List (List Measured)
      of_held h = of_before h (met_before c now (measured w first))

-- ---- all lines

laying-same : (k : ℕ) (c : InlineContext) (tall : ℤ) (now : SoFar) (parts : List (List Item)) → laying k c tall now (map (measured (item_width c)) parts) ≡ laid_to k c tall now parts
unfolding laying laid_to
laying-same zero c tall now left = refl
laying-same (suc k) c tall now [] = refl
laying-same (suc k) c tall now (first ∷ rest) =
    let next = line_step c tall now first rest in
    ap (going_on (laying k c tall)) (closed c tall now first rest)
    ∙ ap (followed next.0) (laying-same k c tall next.0.after next.1)

tallest-by : (c : InlineContext) (items : List Item) → tallest_by c items ≡ tallest_of c items
unfolding tallest_by strut_in
tallest-by c items = ap (λ x. int_max (pos 1) (height_of_extent x)) (reaching-same c (strut c) items)

pub lined-is : (c : InlineContext) (y least : ℤ) (floats : List FloatBox)
    → lined c (content c.tree c.container) (measured (width_in c) (content c.tree c.container)) (marks (may_part c.tree) None None (content c.tree c.container)) (before_all y least floats) ≡ lines_in c y least floats
unfolding lined width_in
lined-is c y least floats =
    let items = content c.tree c.container in
    let ms = measured (item_width c) items in
    let bs = marks (may_part c.tree) None None items in
    let parts = marked_parts items bs in
    let now = before_all y least floats in
    let cuts = marks-same (may_part c.tree) None None items in
    let few = parts-few ms bs in
    let same = measured-parts (item_width c) items bs in
    let long = ap length same ∙ length-map parts (measured (item_width c)) in
    ap (λ p. listed (laying (length ms) c (tallest_by c items) now p)) same
    ∙ (ap listed (laying-same (length ms) c (tallest_by c items) now parts)
    ∙ (ap (λ t. listed (laid_to (length ms) c t now parts)) (tallest-by c items)
    ∙ (ap listed (laid-enough (length ms) (length parts) c (tallest_of c items) now parts (omega (arith, few, long)) (omega arith))
    ∙ (ap (λ p. listed (laid_to (length p) c (tallest_of c items) now p)) cuts
    ∙ lines-are c y least floats))))
  where
    listed : LaidLines → LineList
    listed l = record { entries = l.entries; bottom = l.after.y; baseline = l.after.baseline; floats = l.after.floats }
