-- What stands on a line stays within bounds.
use Rattle.std.proofs.Common.{◌≡◌, ◌⊎◌, inl, inr, ℕ, zero, suc, ◌+◌, ◌*◌, ◌≤◌, ℤ, pos, negsuc, ◌+ℤ◌, ◌-ℤ◌, unsigned_abs, Bool, true, false, cond, List, [], ◌∷◌, map, length, take, reverse, find, Option, Some, None, arith}
use Rattle.std.proofs.lemmas.List.{length-reverse}
use Rattle.std.specs.Prelude.{◌≤ℤ◌, unwrap_or, is_some}
use Rattle.std.specs.Int.{int_max}
use Rattle.std.specs.List.{AllByRecursion}
use Rattle.std.specs.Option.{option_map_or}
use Rattle.std.proofs.lemmas.Int.{ints, clamps}
use Rattle.viz_base.specs.Numbers.{floor_of}
use Rattle.viz_base.specs.declared.layouts.Band.{Band}
use Rattle.viz_base.specs.declared.layouts.Entry.{Entry}
use Rattle.viz_base.specs.declared.layouts.Spot.{Spot}
use Rattle.viz_base.specs.declared.lengths.Sides.{Sides}
use Rattle.viz_base.specs.declared.lengths.Length.{Length}
use Rattle.viz_base.specs.declared.renderings.Quad.{Quad}
use Rattle.viz_base.specs.declared.styles.Align.{Align}
use Rattle.viz_base.specs.declared.styles.Align.TheVariants as of_align
use Rattle.viz_base.specs.Styles.{sides_of}
use Rattle.viz_base.proofs.ListLemmas.{all_append}
use Rattle.layout_semantics.specs.Blocks.{node_of, parent_of}
use Rattle.layout_semantics.specs.InlineContent.{Item, start, finish, word, space, atomic, forced, float}
use Rattle.layout_semantics.specs.Lengths.{used, total, margins, borders, paddings}
use Rattle.layout_semantics.specs.Segments.{without_leading, what_stays}
use Rattle.layout_semantics.specs.LineFilling.{item_width, band_width, width_held}
use Rattle.layout_semantics.specs.LineHeights.{InlineContext, inline_shift}
use Rattle.layout_semantics.specs.Fragments.{ItemPlace, SetLine, set_out, is_end_of, is_text_of, text_area, text_right, text_entry, text_fragment, grown as grown_quad, fragment_edges, around, inline_fragment, atomic_entry, float_entries, item_entries, spots_after, entries_after, opened_entries, line_entries}
use Rattle.layout_semantics.specs.Lines.{aligned}
use Rattle.page_limits.specs.Bounds.{Bounds, IsLevelIn, IsQuadIn, IsPlacedIn}
use Rattle.page_limits.specs.Inline.{IsSmall, IsInlineSmall, IsTextSmall, IsItemBoxSmall, IsItemSmall, IsEntryIn}
use Rattle.page_limits.proofs.LineSizes.{IsAtomBelow, IsItemBelow}
use Rattle.page_limits.proofs.FloatsMet.{ArePut}
use mathlib.Core.List.{reverse_aux}

-- ---- what stays on a line

All-aux : {A : Type 0} (P : A → Type 0) (xs ys : List A) → AllByRecursion P xs → AllByRecursion P ys → AllByRecursion P (reverse_aux xs ys)
All-aux P [] ys a b = b
All-aux P (x ∷ xs) ys a b = All-aux P xs (x ∷ ys) a.1 (a.0, b)

All-reverse : {A : Type 0} (P : A → Type 0) (xs : List A) → AllByRecursion P xs → AllByRecursion P (reverse xs)
All-reverse P xs a = All-aux P xs [] a tt

All-led : (P : Item → Type 0) (items : List Item) → AllByRecursion P items → AllByRecursion P (without_leading items)
All-led P [] a = tt
All-led P (word at text ∷ items) a = a
All-led P (atomic at ∷ items) a = a
All-led P (space at ∷ items) a = All-led P items a.1
All-led P (start at ∷ items) a = (a.0, All-led P items a.1)
All-led P (finish at ∷ items) a = (a.0, All-led P items a.1)
All-led P (forced at ∷ items) a = (a.0, All-led P items a.1)
All-led P (float at ∷ items) a = (a.0, All-led P items a.1)

pub All-stays : (P : Item → Type 0) (items : List Item) → AllByRecursion P items → AllByRecursion P (what_stays items)
All-stays P items a = All-reverse P (without_leading (reverse (without_leading items))) (All-led P (reverse (without_leading items)) (All-reverse P (without_leading items) (All-led P items a)))

fewer-led : (items : List Item) → length (without_leading items) ≤ length items
fewer-led [] = omega arith
fewer-led (word at text ∷ items) = omega arith
fewer-led (atomic at ∷ items) = omega arith
fewer-led (space at ∷ items) = let rest = fewer-led items in omega (arith, rest)
fewer-led (start at ∷ items) = let rest = fewer-led items in omega (arith, rest)
fewer-led (finish at ∷ items) = let rest = fewer-led items in omega (arith, rest)
fewer-led (forced at ∷ items) = let rest = fewer-led items in omega (arith, rest)
fewer-led (float at ∷ items) = let rest = fewer-led items in omega (arith, rest)

fewer-stay : (items : List Item) → length (what_stays items) ≤ length items
fewer-stay items =
    let one = fewer-led items in
    let two = length-reverse (without_leading items) in
    let three = fewer-led (reverse (without_leading items)) in
    let four = length-reverse (without_leading (reverse (without_leading items))) in
    omega (arith, one, two, three, four)

-- ---- where a line's content begins

half-of : (n : ℕ) → (pos 0 ≤ℤ floor_of (pos n) 2) × (floor_of (pos n) 2 ≤ℤ pos n)
half-of n = (omega (arith, ints), omega (arith, ints))

aligned-within : (a : Align) (room : ℤ) → (pos 0 ≤ℤ aligned a room) × (aligned a room ≤ℤ int_max (pos 0) room)
aligned-within of_align.Left room = (omega (arith, ints), omega (arith, ints, clamps))
aligned-within of_align.Right room = (omega (arith, ints, clamps), omega (arith, ints))
aligned-within of_align.Center room = by (int_max (pos 0) room) (omega (arith, ints, clamps))
  where
    by : (z : ℤ) → pos 0 ≤ℤ z → (pos 0 ≤ℤ floor_of z 2) × (floor_of z 2 ≤ℤ z)
    by (pos n) l = half-of n
    by (negsuc n) l = absurd (omega (arith, ints, l))

pub content-left-in : (b : ℕ) (a : Align) (room : Band ℤ) (held : ℤ) → unsigned_abs room.left ≤ b → unsigned_abs room.right ≤ b → unsigned_abs (room.left +ℤ aligned a (band_width room -ℤ held)) ≤ b + unsigned_abs held
content-left-in b a room held l r =
    let w = aligned-within a (band_width room -ℤ held) in
    let from = w.0 in
    let to = w.1 in
    omega (arith, ints, clamps, l, r, from, to)

module _ (c : InlineContext) (own rise : ℕ → Bounds) (s : ℕ) where
  -- ---- widths

  -- so many items take at most this
  abbrev pub spread : ℕ → ℕ
  spread zero = 0
  spread (suc n) = (s + 1) + spread n

  spread-more : (m n : ℕ) → m ≤ n → spread m ≤ spread n
  spread-more zero n l = omega arith
  spread-more (suc m) zero l = absurd (omega (arith, l))
  spread-more (suc m) (suc n) l = let rest = spread-more m n (omega (arith, l)) in omega (arith, rest)

  total-within : (items : List Item) → AllByRecursion (IsItemSmall c own rise s) items → unsigned_abs (total (map (item_width c) items)) ≤ spread (length items)
  total-within [] a = omega (arith, ints)
  total-within (i ∷ items) a = let rest = total-within items a.1 in let width = (a.0).width in omega (arith, ints, rest, width)

  pub held-within : (items : List Item) → AllByRecursion (IsItemSmall c own rise s) items → unsigned_abs (width_held c items) ≤ spread (length items)
  held-within items a =
      let sum = total-within (what_stays items) (All-stays (IsItemSmall c own rise s) items a) in
      let fewer = spread-more (length (what_stays items)) (length items) (fewer-stay items) in
      omega (arith, sum, fewer)

  -- ---- a line whose baseline is so far below its top

  -- items in their places
  pub record IsPlaceIn (above : ℤ) (d : Bounds) (m : ℕ) (p : ItemPlace) : Type 0 where
    pub small : IsItemSmall c own rise s p.item
    pub below : IsItemBelow c own rise s above d p.item
    pub left : unsigned_abs p.left ≤ m
    pub right : unsigned_abs p.right ≤ m

  set-out-in : (above : ℤ) (d : Bounds) (m : ℕ) (x : ℤ) (items : List Item) → unsigned_abs x + spread (length items) ≤ m → AllByRecursion (IsItemSmall c own rise s) items → AllByRecursion (IsItemBelow c own rise s above d) items
      → AllByRecursion (IsPlaceIn above d m) (set_out c x items)
  set-out-in above d m x [] l a b = tt
  set-out-in above d m x (i ∷ items) l a b =
      let width = (a.0).width in
      (record { small = a.0; below = b.0; left = omega (arith, l); right = omega (arith, ints, l, width) }, set-out-in above d m (x +ℤ item_width c i) items (omega (arith, ints, l, width)) a.1 b.1)

  pub stays-in : (above : ℤ) (d : Bounds) (m : ℕ) (x : ℤ) (items : List Item) → unsigned_abs x + spread (length items) ≤ m → AllByRecursion (IsItemSmall c own rise s) items → AllByRecursion (IsItemBelow c own rise s above d) items
      → AllByRecursion (IsPlaceIn above d m) (set_out c x (what_stays items))
  stays-in above d m x items l a b =
      let fewer = spread-more (length (what_stays items)) (length items) (fewer-stay items) in
      set-out-in above d m x (what_stays items) (omega (arith, l, fewer)) (All-stays (IsItemSmall c own rise s) items a) (All-stays (IsItemBelow c own rise s above d) items b)

  -- ---- rectangles near a baseline

  record IsNear (y : ℤ) (m k : ℕ) (q : Quad ℤ) : Type 0 where
    left : unsigned_abs q.left ≤ m
    right : unsigned_abs q.right ≤ m
    top : unsigned_abs (q.top -ℤ y) ≤ k
    bottom : unsigned_abs (q.bottom -ℤ y) ≤ k

  cond-small : (t : Bool) (z : ℤ) → unsigned_abs z ≤ s → unsigned_abs (cond t z (pos 0)) ≤ s
  cond-small true z l = l
  cond-small false z l = omega arith

  AllSmallEdges : Sides Length → Type 0
  AllSmallEdges sides = AllByRecursion (λ length. IsSmall s (used c.tree c.world length (band_width c.cb))) (sides_of sides)

  near-grown : (y : ℤ) (m k : ℕ) (q : Quad ℤ) (starts ends : Bool) (sides : Sides Length) → AllSmallEdges sides → IsNear y m k q → IsNear y (m + s) (k + s) (grown_quad q (fragment_edges c starts ends sides))
  unfolding AllSmallEdges
  near-grown y m k q starts ends sides e n =
      let left = cond-small starts (used c.tree c.world sides.left (band_width c.cb)) e.1.1.1.0 in
      let right = cond-small ends (used c.tree c.world sides.right (band_width c.cb)) e.1.0 in
      let top = e.0 in
      let bottom = e.1.1.0 in
      let a = n.left in let b = n.right in let f = n.top in let g = n.bottom in
      record { left = omega (arith, ints, left, a); right = omega (arith, ints, right, b); top = omega (arith, ints, top, f); bottom = omega (arith, ints, bottom, g) }

  -- a line in bounds
  module _ (above top : ℤ) (d outer b : Bounds) (m : ℕ) (line : SetLine) where
    pub record IsLineIn : Type 0 where
      pub top_in : IsLevelIn outer top
      pub from : (pos 0 -ℤ pos s) ≤ℤ above
      pub to : above ≤ℤ pos (d.down + s)
      pub base : line.baseline ≡ top +ℤ above
      pub up : outer.up + d.up + 7 * s ≤ b.up
      pub down : outer.down + d.down + 7 * s ≤ b.down
      pub aside : m + d.aside + 4 * s ≤ b.aside
      pub left : unsigned_abs line.left ≤ m
      pub right : unsigned_abs line.right ≤ m

    near-in : (q : Quad ℤ) → IsLineIn → IsNear line.baseline (m + 3 * s) (5 * s) q → IsQuadIn b q
    near-in q l n =
        let t = l.top_in.top in let u = l.top_in.bottom in let f = l.from in let g = l.to in let e = l.base in
        let up = l.up in let down = l.down in let aside = l.aside in
        let nl = n.left in let nr = n.right in let nt = n.top in let nb = n.bottom in
        record { left = omega (arith, nl, aside); top = omega (arith, ints); right = omega (arith, nr, aside); bottom = omega (arith, ints) }

    near-wider : (y : ℤ) (j k n i : ℕ) (q : Quad ℤ) → j ≤ n → k ≤ i → IsNear y j k q → IsNear y n i q
    near-wider y j k n i q l h w = let a = w.left in let e = w.right in let f = w.top in let g = w.bottom in record { left = omega (arith, a, l); right = omega (arith, e, l); top = omega (arith, f, h); bottom = omega (arith, g, h) }

    area-near : (at : ℕ) (shift left right : ℤ) → IsSmall s shift → IsTextSmall c own rise s at ⊎ IsInlineSmall c own rise s at → unsigned_abs left ≤ m → unsigned_abs right ≤ m
        → IsNear line.baseline m (2 * s) (text_area c (node_of c.tree at) (line.baseline -ℤ shift) left right)
    area-near at shift left right h (inl t) l r = let a = t.font.ascent in let e = t.font.descent in record { left = l; right = r; top = omega (arith, ints, a, h); bottom = omega (arith, ints, e, h) }
    area-near at shift left right h (inr t) l r = let a = t.font.ascent in let e = t.font.descent in record { left = l; right = r; top = omega (arith, ints, a, h); bottom = omega (arith, ints, e, h) }

    fragment-in : (at : ℕ) (starts ends : Bool) (left right : ℤ) → IsLineIn → IsInlineSmall c own rise s at → unsigned_abs left ≤ m → unsigned_abs right ≤ m
        → IsPlacedIn b (around c at starts ends (text_area c (node_of c.tree at) (line.baseline -ℤ inline_shift c at) left right))
    unfolding AllSmallEdges
    fragment-in at starts ends left right l i a r =
        let y = line.baseline in
        let shift = inline_shift c at in
        let area = text_area c (node_of c.tree at) (y -ℤ shift) left right in
        let e = i.edges in
        let near = area-near at shift left right i.shift (inr i) a r in
        let padding = grown_quad area (fragment_edges c starts ends (paddings c.tree at)) in
        let border = grown_quad padding (fragment_edges c starts ends (borders c.tree at)) in
        let margin = grown_quad border (fragment_edges c starts ends (margins c.tree at)) in
        let one = near-grown y m (2 * s) area starts ends (paddings c.tree at) (e.0, (e.1.0, (e.1.1.0, (e.1.1.1.0, tt)))) near in
        let f = e.1.1.1.1 in
        let two = near-grown y (m + s) (2 * s + s) padding starts ends (borders c.tree at) (f.0, (f.1.0, (f.1.1.0, (f.1.1.1.0, tt)))) one in
        let g = f.1.1.1.1 in
        let three = near-grown y (m + s + s) (2 * s + s + s) border starts ends (margins c.tree at) (g.0, (g.1.0, (g.1.1.0, (g.1.1.1.0, tt)))) two in
        record {
          margin = near-in margin l (near-wider y (m + s + s + s) (2 * s + s + s + s) (m + 3 * s) (5 * s) margin (omega arith) (omega arith) three);
          border = near-in border l (near-wider y (m + s + s) (2 * s + s + s) (m + 3 * s) (5 * s) border (omega arith) (omega arith) two);
          padding = near-in padding l (near-wider y (m + s) (2 * s + s) (m + 3 * s) (5 * s) padding (omega arith) (omega arith) one);
          content = near-in area l (near-wider y m (2 * s) (m + 3 * s) (5 * s) area (omega arith) (omega arith) near);
        }

    -- ---- entries

    AllPlaces : List ItemPlace → Type 0
    AllPlaces places = AllByRecursion (IsPlaceIn above d m) places

    abbrev AllEntries : List (Entry ℤ) → Type 0
    AllEntries entries = AllByRecursion (IsEntryIn own b) entries

    end-within : (test : ItemPlace → Bool) (after : List ItemPlace) → IsLineIn → AllPlaces after → unsigned_abs (option_map_or (λ (p : ItemPlace). p.left) (find test after) line.right) ≤ m
    unfolding AllPlaces
    end-within test [] l a = l.right
    end-within test (p ∷ after) l a = by (test p) (end-within test after l a.1)
      where
        by : (t : Bool) → unsigned_abs (option_map_or (λ (p : ItemPlace). p.left) (find test after) line.right) ≤ m → unsigned_abs (option_map_or (λ (p : ItemPlace). p.left) (cond t (Some p) (find test after)) line.right) ≤ m
        by true rest = (a.0).left
        by false rest = rest

    inline-in : (at : ℕ) (start_right : Option ℤ) (after : List ItemPlace) → IsLineIn → IsInlineSmall c own rise s at → unsigned_abs (unwrap_or start_right line.left) ≤ m → AllPlaces after → IsEntryIn own b (inline_fragment c line at start_right after)
    inline-in at start_right after l i e a =
        fragment-in at (is_some start_right) (is_some (find (is_end_of at) after)) (unwrap_or start_right line.left) (option_map_or (λ (p : ItemPlace). p.left) (find (is_end_of at) after) line.right) l i e (end-within (is_end_of at) after l a)

    text-right-in : (at : ℕ) (right : ℤ) (after : List ItemPlace) → unsigned_abs right ≤ m → AllPlaces after → unsigned_abs (text_right at right after) ≤ m
    unfolding AllPlaces
    text-right-in at right [] l a = l
    text-right-in at right (p ∷ after) l a = by (is_text_of at p) (text-right-in at p.right after (a.0).right a.1)
      where
        by : (t : Bool) → unsigned_abs (text_right at p.right after) ≤ m → unsigned_abs (cond t (text_right at p.right after) right) ≤ m
        by true rest = rest
        by false rest = l

    text-in : (at : ℕ) (before : Option ItemPlace) (p : ItemPlace) (after : List ItemPlace) → IsLineIn → IsTextSmall c own rise s at → unsigned_abs p.left ≤ m → unsigned_abs p.right ≤ m → AllPlaces after
        → AllEntries (text_entry c line at before p after)
    text-in at before p after l t left right a = by (option_map_or (is_text_of at) before false)
      where
        shift : ℤ
        shift = option_map_or (inline_shift c) (parent_of c.tree.boxes at) (pos 0)

        area : Quad ℤ
        area = text_area c (node_of c.tree at) (line.baseline -ℤ shift) p.left (text_right at p.right after)

        q : IsQuadIn b area
        q = near-in area l (near-wider line.baseline m (2 * s) (m + 3 * s) (5 * s) area (omega arith) (omega arith) (area-near at shift p.left (text_right at p.right after) t.shift (inl t) left (text-right-in at p.right after right a)))

        by : (e : Bool) → AllEntries (cond e [] (text_fragment c line at p.left (text_right at p.right after) ∷ []))
        by true = tt
        by false = (record { margin = q; border = q; padding = q; content = q }, tt)

    atom-in : (at : ℕ) (left : ℤ) → IsLineIn → IsAtomBelow c own rise s above d at → unsigned_abs left ≤ m → IsEntryIn own b (atomic_entry c line at left)
    atom-in at left l i h =
        let t = l.top_in.top in let u = l.top_in.bottom in let e = l.base in let up = l.up in let down = l.down in let aside = l.aside in
        let high = i.top in let low = i.low in let wide = i.aside in
        record { top = omega (arith, ints); bottom = omega (arith, ints); aside = omega (arith, h, wide, aside) }

    pub spots-in : (spots : List (ℕ × Spot ℤ)) → ArePut c own rise s b spots → AllEntries (float_entries spots)
    spots-in [] a = tt
    spots-in (e ∷ spots) a = (a.0, spots-in spots a.1)

    take-put : (spots : List (ℕ × Spot ℤ)) → ArePut c own rise s b spots → ArePut c own rise s b (take 1 spots)
    take-put [] a = tt
    take-put (e ∷ spots) a = (a.0, tt)

    drop-put : (i : Item) (spots : List (ℕ × Spot ℤ)) → ArePut c own rise s b spots → ArePut c own rise s b (spots_after i spots)
    drop-put (float at) [] a = tt
    drop-put (float at) (e ∷ spots) a = a.1
    drop-put (start at) spots a = a
    drop-put (finish at) spots a = a
    drop-put (word at text) spots a = a
    drop-put (space at) spots a = a
    drop-put (atomic at) spots a = a
    drop-put (forced at) spots a = a

    item-in : (before : Option ItemPlace) (i : Item) (left right : ℤ) (after : List ItemPlace) (spots : List (ℕ × Spot ℤ)) → IsLineIn → IsPlaceIn above d m (record { item = i; left = left; right = right }) → AllPlaces after → ArePut c own rise s b spots
        → AllEntries (item_entries c line before (record { item = i; left = left; right = right }) after spots)
    unfolding IsItemBoxSmall IsItemBelow
    item-in before (start at) left right after spots l p a w = (inline-in at (Some right) after l p.small.box p.right a, tt)
    item-in before (finish at) left right after spots l p a w = tt
    item-in before (word at text) left right after spots l p a w = text-in at before (record { item = word at text; left = left; right = right }) after l p.small.box p.left p.right a
    item-in before (space at) left right after spots l p a w = text-in at before (record { item = space at; left = left; right = right }) after l p.small.box p.left p.right a
    item-in before (atomic at) left right after spots l p a w = (atom-in at left l p.below p.left, tt)
    item-in before (forced at) left right after spots l p a w = tt
    item-in before (float at) left right after spots l p a w = spots-in (take 1 spots) (take-put spots w)

    after-in : (before : Option ItemPlace) (places : List ItemPlace) (spots : List (ℕ × Spot ℤ)) → IsLineIn → AllPlaces places → ArePut c own rise s b spots → AllEntries (entries_after c line before places spots)
    unfolding AllPlaces
    after-in before [] spots l a w = tt
    after-in before (p ∷ places) spots l a w =
        all_append (IsEntryIn own b) (item_entries c line before p places spots) (entries_after c line (Some p) places (spots_after p.item spots))
        (item-in before p.item p.left p.right places spots l a.0 a.1 w) (after-in (Some p) places (spots_after p.item spots) l a.1 (drop-put p.item spots w))

    open-in : (opened : List ℕ) → IsLineIn → AllByRecursion (IsInlineSmall c own rise s) opened → AllPlaces line.places → AllEntries (opened_entries c line opened)
    open-in [] l o a = tt
    open-in (at ∷ opened) l o a = (inline-in at None line.places l o.0 l.left a, open-in opened l o.1 a)

    pub entries-in : (opened : List ℕ) → IsLineIn → AllByRecursion (IsInlineSmall c own rise s) opened → AllByRecursion (IsPlaceIn above d m) line.places → ArePut c own rise s b line.spots → AllEntries (line_entries c line opened)
    unfolding AllPlaces
    entries-in opened l o a w = all_append (IsEntryIn own b) (opened_entries c line opened) (entries_after c line None line.places line.spots) (open-in opened l o a) (after-in None line.places line.spots l a w)
