-- Inline content, part by part, has the preferred widths of the box that holds it.
use Rattle.std.proofs.Common.{◌≡◌, ◌<◌, ℕ, zero, suc, ℤ, pos, ◌+ℤ◌, ◌*ℤ◌, Bool, true, false, List, [], ◌∷◌, ◌++◌, map, length, Option, Some, None, option_map, slice_index_or, refl, sym, ap, ◌∙◌, arith, Contains}
use Rattle.std.specs.Option.{option_map_or}
use Rattle.std.proofs.lemmas.Int.{ints}
use Rattle.viz_base.specs.Numbers.{floor_of}
use Rattle.viz_base.specs.FontSizes.{fraction}
use Rattle.viz_base.specs.declared.layouts.Inner.{Inner}
use Rattle.viz_base.specs.declared.layouts.Preferred.{Preferred}
use Rattle.viz_base.specs.declared.lengths.Length.{Length}
use Rattle.viz_base.specs.declared.lengths.Length.TheVariants as of_length
use Rattle.viz_base.specs.declared.trees.BoxTree.{BoxTree}
use Rattle.viz_base.specs.declared.worlds.World.{World}
use Rattle.viz_base.proofs.ListLemmas.{later_member}
use Rattle.layout_semantics.specs.InlineContent.{Item, start, finish, word, space, atomic, forced, float, content, inner_items, inner_boxes, start_edges, end_edges}
use Rattle.layout_semantics.specs.Lengths.{used, total}
use Rattle.layout_semantics.specs.Lists.{table_of}
use Rattle.layout_semantics.specs.LineFilling.{item_width}
use Rattle.layout_semantics.specs.LineHeights.{InlineContext}
use Rattle.layout_semantics.specs.Preferred.{absolute_part, measured_width, preferred_item, preferred_segment, preferred_floats, preferred_inline, greatest, with_least, with_most}
use Rattle.layout_semantics.specs.Segments.{segments, pieces, may_part, never, what_stays}
use Rattle.layout_laws.proofs.Members.{first_member}
use Rattle.layout_laws.proofs.Greatest.{All-at}
use Rattle.layout_laws.proofs.Levels.{IsFrom, inner_boxes-from}
use Rattle.layout_laws.specs.Outer.{outer_widths}
use Rattle.layout_semantics.proofs.Pages.{forest}
use Rattle.lay_line.specs.steps.Cutting.{parted}
use Rattle.lay_line.specs.steps.Held.{Held, nothing_held, with_item, with_items}
use Rattle.lay_line.specs.steps.Loading.{parted_by, parts_of}
use Rattle.lay_line.specs.steps.Marks.{marks, marked_parts}
use Rattle.lay_line.proofs.Cuts.{segments-are, pieces-are}
use Rattle.lay_line.proofs.Marks.{marks-same}
use Rattle.lay_line.proofs.Widths.{width-same}
use Rattle.viz_calc.specs.World.{Reading}
use Rattle.lay_line.specs.declared.held.Piece.{Piece}
use Rattle.lay_preferred.specs.Readings.{size_at, sizes_at, parts_at}
use Rattle.lay_preferred.specs.steps.Extremes.{larger, or_zero, most_of}
use Rattle.lay_preferred.specs.steps.Outer.{start_of, end_of, outer}
use Rattle.lay_preferred.specs.steps.Parts.{Sized, sized, width_of, widths_of, held_least, held_most, least_width, most_width, floats_from, widest, widest_float, inline_of, inline_in}
use Rattle.lay_preferred.proofs.Maxima.{greatest-same, most-append}
use Rattle.lay_preferred.proofs.Tables.{measured-is}

-- ---- lists in parts

mapped-parted : {A B : Type 0} (f : A → B) (x : A) (b : Bool) (parts : List (List A)) → parted_by (f x) b (map (λ part. map f part) parts) ≡ map (λ part. map f part) (parted_by x b parts)
mapped-parted f x true parts = refl
mapped-parted f x false [] = refl
mapped-parted f x false (part ∷ parts) = refl

pub parts-map : {A B : Type 0} (f : A → B) (xs : List A) (ms : List Bool) → parts_of (map f xs) ms ≡ map (λ part. map f part) (parts_of xs ms)
parts-map f [] ms = refl
parts-map f (x ∷ xs) [] = ap (parted_by (f x) false) (parts-map f xs []) ∙ mapped-parted f x false (parts_of xs [])
parts-map f (x ∷ xs) (m ∷ ms) = ap (parted_by (f x) m) (parts-map f xs ms) ∙ mapped-parted f x m (parts_of xs ms)

parted-same : (i : Item) (b : Bool) (parts : List (List Item)) → parted_by i b parts ≡ parted i b parts
parted-same i true parts = refl
parted-same i false parts = refl

marked-same : (items : List Item) (ms : List Bool) → parts_of items ms ≡ marked_parts items ms
marked-same [] ms = refl
marked-same (i ∷ items) [] = ap (parted_by i false) (marked-same items []) ∙ parted-same i false (marked_parts items [])
marked-same (i ∷ items) (m ∷ ms) = ap (parted_by i m) (marked-same items ms) ∙ parted-same i m (marked_parts items ms)

segments-same : (tree : BoxTree) (items : List Item) → parts_of items (marks (may_part tree) None None items) ≡ segments tree items
segments-same tree items = marked-same items (marks (may_part tree) None None items) ∙ marks-same (may_part tree) None None items ∙ sym (segments-are tree items)

pieces-same : (items : List Item) → parts_of items (marks never None None items) ≡ pieces items
pieces-same items = marked-same items (marks never None None items) ∙ marks-same never None None items ∙ sym (pieces-are items)

-- ---- widths without percentages are those in a containing block of width 0

module _ (tree : BoxTree) (w : World) (table : List (Option ℤ)) where
  abbrev alone : ℤ → Inner ℤ
  alone x = record { b = 0; width = x; above = pos 0; below = pos 0 }

  abbrev nowhere : InlineContext
  nowhere = record { tree = tree; world = w; container = 0; inner = map (option_map alone) table; cb = record { left = pos 0; right = pos 0 } }

  none-of : (p : ℤ) → fraction p 100000000 (pos 0) ≡ pos 0
  none-of p = ap (λ y. floor_of y 100000000) none
    where
      none : p *ℤ pos 0 ≡ pos 0
      none = omega (arith, ints)

  part-same : (l : Length) → used tree w l (pos 0) ≡ absolute_part tree w l
  part-same of_length.Auto = refl
  part-same (of_length.Px c) = refl
  part-same (of_length.Em k node) = refl
  part-same (of_length.Pct p) = none-of p

  edges-same : (ls : List Length) → total (map (λ l. used tree w l (pos 0)) ls) ≡ total (map (absolute_part tree w) ls)
  edges-same [] = refl
  edges-same (l ∷ ls) = ap (λ x. x +ℤ total (map (λ l. used tree w l (pos 0)) ls)) (part-same l) ∙ ap (λ x. absolute_part tree w l +ℤ x) (edges-same ls)

  inner-same : (t : List (Option ℤ)) (at : ℕ) → option_map_or (λ (i : Inner ℤ). i.width) (slice_index_or (map (option_map alone) t) at None) (pos 0) ≡ measured_width t at
  inner-same [] at = refl
  inner-same (None ∷ t) zero = refl
  inner-same (Some x ∷ t) zero = refl
  inner-same (o ∷ t) (suc at) = inner-same t at

  item-same : (i : Item) → item_width nowhere i ≡ preferred_item tree w table i
  item-same (word at text) = refl
  item-same (space at) = refl
  item-same (atomic at) = inner-same table at
  item-same (start at) = edges-same (start_edges tree at)
  item-same (finish at) = edges-same (end_edges tree at)
  item-same (forced at) = refl
  item-same (float at) = refl

  sums-same : (items : List Item) → total (map (item_width nowhere) items) ≡ total (map (preferred_item tree w table) items)
  sums-same [] = refl
  sums-same (i ∷ items) = ap (λ x. x +ℤ total (map (item_width nowhere) items)) (item-same i) ∙ ap (λ x. preferred_item tree w table i +ℤ x) (sums-same items)

  with-same : (h : Held) (i : Item) → with_item (item_width nowhere) h i ≡ with_item (λ j. preferred_item tree w table i) h i
  with-same h (word at text) = refl
  with-same h (space at) = refl
  with-same h (atomic at) = ap (λ x. with_item (λ j. x) h (atomic at)) (item-same (atomic at))
  with-same h (start at) = ap (λ x. with_item (λ j. x) h (start at)) (item-same (start at))
  with-same h (finish at) = ap (λ x. with_item (λ j. x) h (finish at)) (item-same (finish at))
  with-same h (forced at) = refl
  with-same h (float at) = refl

  -- a float more is nothing more
  no-float : (h : Held) (at : ℕ) → h ≡ with_item (item_width nowhere) h (float at)
  no-float h at = ap (λ x. held x h.spaces h.begun) nothing_more
    where
      held : ℤ → ℤ → Bool → Held
      held x s b = record { width = x; spaces = s; begun = b }

      nothing_more : h.width ≡ h.width +ℤ pos 0
      nothing_more = omega (arith, ints)

  segment-same : (items : List Item) → (with_items (item_width nowhere) nothing_held items).width ≡ preferred_segment tree w table items
  segment-same items = sym (width-same nowhere items) ∙ sums-same (what_stays items)

-- ---- parts whose widths a table gives

module _ (tree : BoxTree) (w : World) (least most : List (Option ℤ)) where
  abbrev tabled : Item → Preferred ℤ
  tabled (float at) = record { least = measured_width least at; most = measured_width most at }
  tabled i = record { least = preferred_item tree w least i; most = preferred_item tree w most i }

  least-held : (h : Held) (items : List Item) → held_least h (sized tabled items) ≡ with_items (item_width (nowhere tree w least)) h items
  least-held h [] = refl
  least-held h (float at ∷ items) = least-held h items ∙ ap (λ k. with_items (item_width (nowhere tree w least)) k items) (no-float tree w least h at)
  least-held h (word at text ∷ items) = least-held (with_item (λ j. preferred_item tree w least (word at text)) h (word at text)) items
  least-held h (space at ∷ items) = least-held (with_item (λ j. preferred_item tree w least (space at)) h (space at)) items
  least-held h (forced at ∷ items) = least-held (with_item (λ j. preferred_item tree w least (forced at)) h (forced at)) items
  least-held h (atomic at ∷ items) = least-held (with_item (λ j. preferred_item tree w least (atomic at)) h (atomic at)) items ∙ ap (λ k. with_items (item_width (nowhere tree w least)) k items) (sym (with-same tree w least h (atomic at)))
  least-held h (start at ∷ items) = least-held (with_item (λ j. preferred_item tree w least (start at)) h (start at)) items ∙ ap (λ k. with_items (item_width (nowhere tree w least)) k items) (sym (with-same tree w least h (start at)))
  least-held h (finish at ∷ items) = least-held (with_item (λ j. preferred_item tree w least (finish at)) h (finish at)) items ∙ ap (λ k. with_items (item_width (nowhere tree w least)) k items) (sym (with-same tree w least h (finish at)))

  most-held : (h : Held) (items : List Item) → held_most h (sized tabled items) ≡ with_items (item_width (nowhere tree w most)) h items
  most-held h [] = refl
  most-held h (float at ∷ items) = most-held h items ∙ ap (λ k. with_items (item_width (nowhere tree w most)) k items) (no-float tree w most h at)
  most-held h (word at text ∷ items) = most-held (with_item (λ j. preferred_item tree w most (word at text)) h (word at text)) items
  most-held h (space at ∷ items) = most-held (with_item (λ j. preferred_item tree w most (space at)) h (space at)) items
  most-held h (forced at ∷ items) = most-held (with_item (λ j. preferred_item tree w most (forced at)) h (forced at)) items
  most-held h (atomic at ∷ items) = most-held (with_item (λ j. preferred_item tree w most (atomic at)) h (atomic at)) items ∙ ap (λ k. with_items (item_width (nowhere tree w most)) k items) (sym (with-same tree w most h (atomic at)))
  most-held h (start at ∷ items) = most-held (with_item (λ j. preferred_item tree w most (start at)) h (start at)) items ∙ ap (λ k. with_items (item_width (nowhere tree w most)) k items) (sym (with-same tree w most h (start at)))
  most-held h (finish at ∷ items) = most-held (with_item (λ j. preferred_item tree w most (finish at)) h (finish at)) items ∙ ap (λ k. with_items (item_width (nowhere tree w most)) k items) (sym (with-same tree w most h (finish at)))

  floats-same : (sum : ℤ) (items : List Item) → floats_from sum (sized tabled items) ≡ sum +ℤ total (preferred_floats most items)
  floats-same sum [] = omega (arith, ints)
  floats-same sum (float at ∷ items) = let rest = floats-same (sum +ℤ measured_width most at) items in omega (arith, ints)
  floats-same sum (word at text ∷ items) = floats-same sum items
  floats-same sum (space at ∷ items) = floats-same sum items
  floats-same sum (atomic at ∷ items) = floats-same sum items
  floats-same sum (start at ∷ items) = floats-same sum items
  floats-same sum (finish at ∷ items) = floats-same sum items
  floats-same sum (forced at ∷ items) = floats-same sum items

  least-part : (items : List Item) → least_width (sized tabled items) ≡ preferred_segment tree w least items
  unfolding least_width
  least-part items = ap (λ (h : Held). h.width) (least-held nothing_held items) ∙ segment-same tree w least items

  most-part : (items : List Item) → most_width (sized tabled items) ≡ preferred_segment tree w most items +ℤ total (preferred_floats most items)
  unfolding most_width
  most-part items =
      ap (λ (h : Held). h.width +ℤ floats_from (pos 0) (sized tabled items)) (most-held nothing_held items)
      ∙ ap (λ x. x +ℤ floats_from (pos 0) (sized tabled items)) (segment-same tree w most items)
      ∙ ap (λ x. preferred_segment tree w most items +ℤ x) (floats-same (pos 0) items ∙ none_before (total (preferred_floats most items)))
    where
      none_before : (x : ℤ) → pos 0 +ℤ x ≡ x
      none_before x = omega (arith, ints)

  widest-same : (f : List Sized → ℤ) (g : List Item → ℤ) → ((part : List Item) → f (sized tabled part) ≡ g part) → (best : Option ℤ) (parts : List (List Item))
      → widest f best (map (sized tabled) parts) ≡ most_of best (map g parts)
  widest-same f g same best [] = refl
  widest-same f g same best (part ∷ parts) =
      ap (λ x. widest f (Some (larger best x)) (map (sized tabled) parts)) (same part) ∙ widest-same f g same (Some (larger best (g part))) parts

  float-same : (best : Option ℤ) (items : List Item) → widest_float best (sized tabled items) ≡ most_of best (preferred_floats least items)
  float-same best [] = refl
  float-same best (float at ∷ items) = float-same (Some (larger best (measured_width least at))) items
  float-same best (word at text ∷ items) = float-same best items
  float-same best (space at ∷ items) = float-same best items
  float-same best (atomic at ∷ items) = float-same best items
  float-same best (start at ∷ items) = float-same best items
  float-same best (finish at ∷ items) = float-same best items
  float-same best (forced at ∷ items) = float-same best items

  pub tabled-is : (items : List Item) → inline_of tree items (sized tabled items)
      ≡ record { least = greatest (map (preferred_segment tree w least) (segments tree items) ++ preferred_floats least items); most = greatest (map (λ piece. preferred_segment tree w most piece +ℤ total (preferred_floats most piece)) (pieces items)) }
  tabled-is items =
      ap (λ x. both_of (or_zero x) (or_zero (widest most_width None (parts_of (sized tabled items) (marks never None None items))))) first
      ∙ ap (λ x. both_of x (or_zero (widest most_width None (parts_of (sized tabled items) (marks never None None items))))) (greatest-same (map (preferred_segment tree w least) (segments tree items) ++ preferred_floats least items))
      ∙ ap (λ x. both_of (greatest (map (preferred_segment tree w least) (segments tree items) ++ preferred_floats least items)) (or_zero x)) second
      ∙ ap (both_of (greatest (map (preferred_segment tree w least) (segments tree items) ++ preferred_floats least items))) (greatest-same (map (λ piece. preferred_segment tree w most piece +ℤ total (preferred_floats most piece)) (pieces items)))
    where
      both_of : ℤ → ℤ → Preferred ℤ
      both_of x y = record { least = x; most = y }

      parts : (ms : List Bool) → parts_of (sized tabled items) ms ≡ map (sized tabled) (parts_of items ms)
      parts ms = parts-map (λ i. one i) items ms
        where
          one : Item → Sized
          one i = record { item = i; widths = tabled i }

      first : widest_float (widest least_width None (parts_of (sized tabled items) (marks (may_part tree) None None items))) (sized tabled items)
          ≡ most_of None (map (preferred_segment tree w least) (segments tree items) ++ preferred_floats least items)
      first =
          ap (λ ps. widest_float (widest least_width None ps) (sized tabled items)) (parts (marks (may_part tree) None None items) ∙ ap (map (sized tabled)) (segments-same tree items))
          ∙ ap (λ o. widest_float o (sized tabled items)) (widest-same least_width (preferred_segment tree w least) least-part None (segments tree items))
          ∙ float-same (most_of None (map (preferred_segment tree w least) (segments tree items))) items
          ∙ sym (most-append None (map (preferred_segment tree w least) (segments tree items)) (preferred_floats least items))

      second : widest most_width None (parts_of (sized tabled items) (marks never None None items))
          ≡ most_of None (map (λ piece. preferred_segment tree w most piece +ℤ total (preferred_floats most piece)) (pieces items))
      second =
          ap (widest most_width None) (parts (marks never None None items) ∙ ap (map (sized tabled)) (pieces-same items))
          ∙ widest-same most_width (λ piece. preferred_segment tree w most piece +ℤ total (preferred_floats most piece)) most-part None (pieces items)

-- ---- the tables of the boxes in inline content

module _ (tree : BoxTree) (w : World) (ks : List ℕ) (within : (k : ℕ) → Contains ks k → k < length tree.boxes) where
  abbrev least_table : List (Option ℤ)
  least_table = table_of (length tree.boxes) (with_least (outer_widths tree w ks))

  abbrev most_table : List (Option ℤ)
  most_table = table_of (length tree.boxes) (with_most (outer_widths tree w ks))

  abbrev pair : ℤ → ℤ → Preferred ℤ
  pair x y = record { least = x; most = y }

  box-tabled : (at : ℕ) → Contains ks at → outer tree w at ≡ pair (measured_width least_table at) (measured_width most_table at)
  unfolding outer
  box-tabled at i =
      sym (ap (λ x. pair x (measured_width most_table at)) (measured-is (outer tree w) (λ p. p.least) at (length tree.boxes) ks (within at i) i)
      ∙ ap (pair (outer tree w at).least) (measured-is (outer tree w) (λ p. p.most) at (length tree.boxes) ks (within at i) i))

  abbrev one : Item → Preferred ℤ → Sized
  one i p = record { item = i; widths = p }

  abbrev by_table : Item → Sized
  by_table i = one i (tabled tree w least_table most_table i)

  all-tabled : (items : List Item) → ((k : ℕ) → Contains (inner_items items) k → Contains ks k) → sized (widths_of tree w) items ≡ sized (tabled tree w least_table most_table) items
  unfolding width_of start_of end_of
  all-tabled [] inner = refl
  all-tabled (float at ∷ items) inner = ap (λ p. one (float at) p ∷ sized (widths_of tree w) items) (box-tabled at (inner at (first_member _ refl))) ∙ ap (λ ss. by_table (float at) ∷ ss) (all-tabled items (λ k i. inner k (later_member _ i)))
  all-tabled (atomic at ∷ items) inner = ap (λ p. one (atomic at) p ∷ sized (widths_of tree w) items) (box-tabled at (inner at (first_member _ refl))) ∙ ap (λ ss. by_table (atomic at) ∷ ss) (all-tabled items (λ k i. inner k (later_member _ i)))
  all-tabled (word at text ∷ items) inner = ap (λ ss. by_table (word at text) ∷ ss) (all-tabled items inner)
  all-tabled (space at ∷ items) inner = ap (λ ss. by_table (space at) ∷ ss) (all-tabled items inner)
  all-tabled (start at ∷ items) inner = ap (λ ss. by_table (start at) ∷ ss) (all-tabled items inner)
  all-tabled (finish at ∷ items) inner = ap (λ ss. by_table (finish at) ∷ ss) (all-tabled items inner)
  all-tabled (forced at ∷ items) inner = ap (λ ss. by_table (forced at) ∷ ss) (all-tabled items inner)

-- one pass over inline content gives the preferred widths of the box that holds it
pub inline-same : (tree : BoxTree) (w : World) (at : ℕ) → inline_in tree w at ≡ preferred_inline tree w (outer_widths tree w (inner_boxes tree at)) (content tree at)
unfolding inline_in
inline-same tree w at =
    let ks = inner_boxes tree at in
    let within = λ (k : ℕ) (i : Contains ks k). (All-at (IsFrom tree.boxes (suc at)) ks k (inner_boxes-from tree at (forest tree)) i).within in
    ap (inline_of tree (content tree at)) (all-tabled tree w ks within (content tree at) (λ k i. i))
    ∙ tabled-is tree w (least_table tree w ks within) (most_table tree w ks within) (content tree at)

-- ---- as the code has it

-- widths by the parts of the code's pieces
abbrev width_pair : ℤ → ℤ → Preferred ℤ
width_pair x y = record { least = x; most = y }

pub inline-by-parts : {N : Type 0} (at : N → Reading → ℤ) (e : Reading) (tree : BoxTree) (items : List Item) (ps : List (Piece (Preferred N))) (x y : ℤ)
    → x ≡ or_zero (widest_float (widest least_width None (parts_at at ps (marks (may_part tree) None None items) e)) (sizes_at at ps e))
    → y ≡ or_zero (widest most_width None (parts_at at ps (marks never None None items) e))
    → width_pair x y ≡ inline_of tree items (sizes_at at ps e)
inline-by-parts {N} at e tree items ps x y p q =
    ap (λ a. width_pair a y) (p ∙ ap (λ parts. or_zero (widest_float (widest least_width None parts) (sizes_at at ps e))) (sym (parts-map (λ (piece : Piece (Preferred N)). size_at at piece e) ps (marks (may_part tree) None None items))))
    ∙ ap (λ b. width_pair (inline_of tree items (sizes_at at ps e)).least b) (q ∙ ap (λ parts. or_zero (widest most_width None parts)) (sym (parts-map (λ (piece : Piece (Preferred N)). size_at at piece e) ps (marks never None None items))))
