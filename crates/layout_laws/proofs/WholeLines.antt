-- The entries of lines: besides lines and fragments, each float and each atomic box of the content once, in order.
use Rattle.std.proofs.Common.{◌≡◌, ℕ, zero, suc, ◌-◌, ◌≤◌, ℤ, ◌+ℤ◌, Bool, true, false, cond, List, [], ◌∷◌, ◌++◌, length, take, drop, slice_index_or, flat_map, length-drop, refl, sym, ap, ◌∙◌, arith, Option, None, Some}
use Rattle.std.specs.List.{list_any, prefix_len, range_with_len}
use Rattle.std.specs.Int.{int_max}
use Rattle.std.specs.Option.{option_map_or}
use Rattle.std.proofs.lemmas.Grind.{flat_map-append}
use Rattle.std.proofs.lemmas.List.{take-append-drop}
use Rattle.viz_base.specs.declared.layouts.Entry.{Entry}
use Rattle.viz_base.specs.declared.layouts.Entry.TheVariants as of_entry
use Rattle.viz_base.specs.declared.layouts.Spot.{Spot}
use Rattle.viz_base.specs.declared.trees.Kind.{Kind}
use Rattle.layout_semantics.specs.Lists.{one_if}
use Rattle.layout_semantics.specs.Floats.{FloatBox, band_at}
use Rattle.layout_semantics.specs.InlineContent.{Item, start, finish, word, space, atomic, forced, float, content, float_boxes, makes_line}
use Rattle.layout_semantics.specs.Segments.{segments, is_break, may_part, what_stays}
use Rattle.layout_semantics.specs.LineHeights.{InlineContext, line_extent, extended_boxes, height_of_extent, tallest}
use Rattle.layout_semantics.specs.LineFilling.{Met, Line, item_width, width_held, place_each, joined, first_items, before_line, met_after, may_hold, segments_held}
use Rattle.layout_semantics.specs.Fragments.{ItemPlace, SetLine, set_out, is_text_of, text_fragment, text_right, text_entry, inline_fragment, opened_entries, entries_after, line_entries, float_entries, spots_after, atomic_entry}
use Rattle.layout_semantics.specs.Lines.{SoFar, LaidLines, before_all, next_line, content_left, set_line, laid_line, laid_no_line, laid_segments, lines_to, lines_in}
use Rattle.layout_laws.specs.Entries.{named_by, is_whole}
use Rattle.layout_laws.proofs.Prefixes.{prefix-within}
use Rattle.layout_laws.proofs.Cuts.{cut-joined}
use Rattle.layout_laws.proofs.WholeItems.{inner_of, float_of, inner-stay, floats-stay, floats-independent}
use Rattle.layout_laws.proofs.WholeFloats.{numbers, all_met, place-all, first-met, met-all}

module _ (of_box : ℕ → List (Kind × ℕ)) where
  -- what an entry shows: itself where it is whole, and else what its box does
  abbrev pub shown : Entry ℤ → List (Kind × ℕ)
  shown (of_entry.Here p) = one_if (is_whole p.kind) (named_by p)
  shown (of_entry.Goes at spot) = of_box at

  abbrev pub all_shown : List (Entry ℤ) → List (Kind × ℕ)
  all_shown entries = flat_map shown entries

  abbrev pub all_inner : List Item → List (Kind × ℕ)
  all_inner items = flat_map of_box (flat_map inner_of items)

  abbrev of_item : InlineContext → SetLine → Option ItemPlace → ItemPlace → List ItemPlace → List (ℕ × Spot ℤ) → Item → List (Entry ℤ)
  of_item c line before p after spots i = elim i [ start at ↦ inline_fragment c line at (Some p.right) after ∷ [] | finish at ↦ [] | word at text ↦ text_entry c line at before p after | space at ↦ text_entry c line at before p after | atomic at ↦ atomic_entry c line at p.left ∷ [] | forced at ↦ [] | float at ↦ float_entries (take 1 spots) ]

  fragments-shown : (c : InlineContext) (line : SetLine) (opened : List ℕ) → all_shown (opened_entries c line opened) ≡ []
  fragments-shown c line [] = refl
  fragments-shown c line (at ∷ opened) = fragments-shown c line opened

  text-shown : (c : InlineContext) (line : SetLine) (at : ℕ) (before : Option ItemPlace) (p : ItemPlace) (after : List ItemPlace) → all_shown (text_entry c line at before p after) ≡ []
  text-shown c line at before p after = by (option_map_or (is_text_of at) before false)
    where
      by : (b : Bool) → all_shown (cond b [] (text_fragment c line at p.left (text_right at p.right after) ∷ [])) ≡ []
      by true = refl
      by false = refl

  floats-shown : (spots : List (ℕ × Spot ℤ)) → all_shown (float_entries spots) ≡ flat_map of_box (numbers spots)
  floats-shown [] = refl
  floats-shown (spot ∷ spots) = ap (λ l. of_box spot.0 ++ l) (floats-shown spots)

  item-shown : (c : InlineContext) (line : SetLine) (before : Option ItemPlace) (p : ItemPlace) (after : List ItemPlace) (spots : List (ℕ × Spot ℤ)) (i : Item) (more : List ℕ) → numbers spots ≡ float_of i ++ more
      → all_shown (of_item c line before p after spots i) ≡ flat_map of_box (inner_of i)
  item-shown c line before p after spots (start at) more e = refl
  item-shown c line before p after spots (finish at) more e = refl
  item-shown c line before p after spots (word at text) more e = text-shown c line at before p after
  item-shown c line before p after spots (space at) more e = text-shown c line at before p after
  item-shown c line before p after spots (atomic at) more e = refl
  item-shown c line before p after spots (forced at) more e = refl
  item-shown c line before p after [] (float at) more e = absurd (cc)
  item-shown c line before p after (spot ∷ spots) (float at) more e = ap (λ l. of_box (slice_index_or l 0 at) ++ []) e

  left-numbers : (spots : List (ℕ × Spot ℤ)) (i : Item) (more : List ℕ) → numbers spots ≡ float_of i ++ more → numbers (spots_after i spots) ≡ more
  left-numbers spots (start at) more e = e
  left-numbers spots (finish at) more e = e
  left-numbers spots (word at text) more e = e
  left-numbers spots (space at) more e = e
  left-numbers spots (atomic at) more e = e
  left-numbers spots (forced at) more e = e
  left-numbers [] (float at) more e = absurd (cc)
  left-numbers (spot ∷ spots) (float at) more e = ap (drop 1) e

  both-shown : (xs ys : List (Entry ℤ)) (a b : List (Kind × ℕ)) → all_shown xs ≡ a → all_shown ys ≡ b → all_shown (xs ++ ys) ≡ a ++ b
  both-shown xs ys a b e f = flat_map-append shown xs ys ∙ (ap (λ (l : List (Kind × ℕ)). l ++ all_shown ys) e ∙ ap (λ (l : List (Kind × ℕ)). a ++ l) f)

  places-shown : (c : InlineContext) (line : SetLine) (before : Option ItemPlace) (x : ℤ) (items : List Item) (spots : List (ℕ × Spot ℤ)) → numbers spots ≡ flat_map float_of items
      → all_shown (entries_after c line before (set_out c x items) spots) ≡ all_inner items
  places-shown c line before x [] spots e = refl
  places-shown c line before x (i ∷ items) spots e =
      let p : ItemPlace = record { item = i; left = x; right = x +ℤ item_width c i } in
      let after : List ItemPlace = set_out c (x +ℤ item_width c i) items in
      both-shown (of_item c line before p after spots i) (entries_after c line (Some p) after (spots_after i spots)) (flat_map of_box (inner_of i)) (all_inner items)
      (item-shown c line before p after spots i (flat_map float_of items) e)
      (places-shown c line (Some p) (x +ℤ item_width c i) items (spots_after i spots) (left-numbers spots i (flat_map float_of items) e))
      ∙ sym (flat_map-append of_box (inner_of i) (flat_map inner_of items))

  line-shown : (c : InlineContext) (baseline left held : ℤ) (items : List Item) (late : Met) (opened : List ℕ) → numbers late.spots ≡ flat_map float_of items
      → all_shown (line_entries c (set_line c baseline left held items late) opened) ≡ all_inner items
  line-shown c baseline left held items late opened e =
      let line = set_line c baseline left held items late in
      both-shown (opened_entries c line opened) (entries_after c line None line.places late.spots) [] (all_inner items)
      (fragments-shown c line opened)
      (places-shown c line None left (what_stays items) late.spots (e ∙ sym (floats-stay items)) ∙ ap (flat_map of_box) (inner-stay items))

  -- ---- a line

  laid_line-shown : (c : InlineContext) (now : SoFar) (line : Line) (items : List Item) (met : Met) → all_met met ≡ flat_map float_of items → all_shown (laid_line c now line items met).entries ≡ all_inner items
  laid_line-shown c now line items met e =
      let extent = line_extent c (now.opened ++ extended_boxes items) in
      let room = band_at met.floats c.cb line.top line.tall in
      let least = int_max now.least line.top in
      let bottom = line.top +ℤ height_of_extent extent in
      let late = place_each c least bottom (record met { waiting = [] }) met.waiting in
      line-shown c (line.top +ℤ extent.above) (content_left c room (width_held c items)) (width_held c items) items late now.opened
      (place-all c least bottom (record met { waiting = [] }) met.waiting ∙ e)

  laid_no_line-shown : (c : InlineContext) (now : SoFar) (items : List Item) → list_any (makes_line c.tree) items ≡ false → all_shown (laid_no_line c now items).entries ≡ all_inner items
  laid_no_line-shown c now items n =
      let start : Met = record { spots = []; floats = now.floats; waiting = [] } in
      let met = place_each c now.least now.y start (float_boxes items) in
      floats-shown met.spots ∙ ap (flat_map of_box) (place-all c now.least now.y start (float_boxes items) ∙ sym (floats-independent c.tree items n))

  laid_segments-shown : (c : InlineContext) (now : SoFar) (line : Line) (first : List Item) (parts : List (List Item)) (n : ℕ) → line.parts ≡ first ∷ parts → all_met line.before ≡ flat_map float_of (before_line c.tree first)
      → suc n ≤ length line.parts → all_shown (laid_segments c now line (suc n)).entries ≡ all_inner (first_items line (suc n))
  laid_segments-shown c now line first parts n e placed l = by (list_any (makes_line c.tree) (first_items line (suc n))) refl
    where
      items : List Item
      items = first_items line (suc n)

      met : Met
      met = met_after c line (suc n)

      by : (b : Bool) → list_any (makes_line c.tree) items ≡ b
          → all_shown (elim b as (λ (x : Bool). LaidLines) [ true ↦ laid_line c now line items met | false ↦ laid_no_line c now items ]).entries ≡ all_inner items
      by true f = laid_line-shown c now line items met (met-all c line first parts e placed n l)
      by false f = laid_no_line-shown c now items f

  -- ---- all lines

  lines-shown : (k : ℕ) (c : InlineContext) (now : SoFar) (parts : List (List Item)) → length parts ≤ k → all_shown (lines_to k c (tallest c) now parts).entries ≡ all_inner (joined parts)
  unfolding lines_to
  lines-shown zero c now [] l = refl
  lines-shown zero c now (first ∷ parts) l = absurd (omega arith)
  lines-shown (suc k) c now [] l = refl
  lines-shown (suc k) c now (first ∷ parts) l =
      let all = first ∷ parts in
      let line = next_line c (tallest c) now first all in
      let n = segments_held c line in
      let most = prefix-within (may_hold c line) 2 (length line.parts - 1) in
      let left = length-drop n all in
      let one = laid_segments-shown c now line first parts (prefix_len (may_hold c line) (range_with_len 2 (length line.parts - 1))) refl (first-met c now.least now.y now.floats (float_boxes (before_line c.tree first))) (omega arith) in
      let laid = laid_segments c now line n in
      both-shown laid.entries (lines_to k c (tallest c) laid.after (drop n all)).entries (all_inner (joined (take n all))) (all_inner (joined (drop n all))) one (lines-shown k c laid.after (drop n all) (omega arith))
      ∙ rejoined n all
    where
      rejoined : (n : ℕ) (ps : List (List Item)) → all_inner (joined (take n ps)) ++ all_inner (joined (drop n ps)) ≡ all_inner (joined ps)
      rejoined n ps =
          sym (flat_map-append of_box (flat_map inner_of (joined (take n ps))) (flat_map inner_of (joined (drop n ps))))
          ∙ ap (flat_map of_box) (sym (flat_map-append inner_of (joined (take n ps)) (joined (drop n ps))) ∙ ap (flat_map inner_of) (sym (flat_map-append (λ (part : List Item). part) (take n ps) (drop n ps)) ∙ ap joined (take-append-drop n ps)))

  pub content-shown : (c : InlineContext) (y least : ℤ) (floats : List FloatBox) → all_shown (lines_in c y least floats).entries ≡ all_inner (content c.tree c.container)
  content-shown c y least floats =
      let parts = segments c.tree (content c.tree c.container) in
      lines-shown (length parts) c (before_all y least floats) parts (omega arith) ∙ ap all_inner (cut-joined (is_break (may_part c.tree)) [] (content c.tree c.container))
