use Rattle.std.proofs.Common.{◌≡◌, ℕ, zero, suc, ℤ, ◌+ℤ◌, ◌≤ℤ◌, Bool, true, false, not, List, [], ◌∷◌, ◌++◌, length, take, drop, filter, cond, fold, Contains, refl, sym, ◌∙◌, ap, subst, append_assoc, append-nil, arith}
use Rattle.std.specs.Prelude.{◌==◌}
use Rattle.std.specs.Int.{int_max}
use Rattle.std.specs.List.{AllByRecursion, list_any}
use Rattle.std.proofs.lemmas.Int.{ints, clamps}
use Rattle.viz_base.specs.declared.layouts.Entry.{Entry}
use Rattle.viz_base.specs.declared.layouts.Band.{Band}
use Rattle.viz_base.specs.declared.renderings.Quad.{Quad}
use Rattle.viz_base.proofs.ListLemmas.{all_append, all_parts}
use Rattle.layout_semantics.specs.Floats.{FloatBox, band_at}
use Rattle.layout_semantics.specs.InlineContent.{Item, start, finish, word, space, atomic, forced, float, content, float_boxes, makes_line}
use Rattle.layout_semantics.specs.Segments.{segments, is_break, may_part}
use Rattle.layout_semantics.specs.LineHeights.{InlineContext, height_of_extent, line_extent, extended_boxes, extent_in_line, strut, tallest}
use Rattle.layout_semantics.specs.LineFilling.{Met, Line, joined, first_items, place_each, met_after, segments_held, width_held, before_line}
use Rattle.layout_semantics.specs.Fragments.{float_entries, line_entries}
use Rattle.layout_semantics.specs.Lines.{LaidLines, followed, laid_none, before_all, opened_after, next_line, laid_line, laid_no_line, laid_segments, lines_to, lines_in, line_box, set_line, content_left}
use Rattle.layout_laws.specs.LineStacks.{line_rectangles, IsStack, HasMoreFloats}
use Rattle.layout_laws.proofs.Greatest.{All-from, greatest_from-fewer}
use Rattle.layout_laws.proofs.Cuts.{cut-joined}
use Rattle.layout_laws.proofs.LineTops.{line_top-stands}
use Rattle.layout_laws.proofs.LineEntries.{rectangles-append, entries-none, floats-none}
use Rattle.layout_laws.proofs.LineFloats.{more-none, each-more, met-more}

-- ---- boxes of the content

-- the boxes of the content that count in line heights
abbrev pub all_boxes : InlineContext → List ℕ
all_boxes c = extended_boxes (content c.tree c.container)

abbrev pub OfContent : InlineContext → List ℕ → Type 0
OfContent c boxes = AllByRecursion (Contains (all_boxes c)) boxes

pub height-most : (c : InlineContext) (boxes : List ℕ) → OfContent c boxes → height_of_extent (line_extent c boxes) ≤ℤ tallest c
height-most c boxes each =
    let above = greatest_from-fewer (λ at. (extent_in_line c at).above) (strut c).above (all_boxes c) boxes each in
    let below = greatest_from-fewer (λ at. (extent_in_line c at).below) (strut c).below (all_boxes c) boxes each in
    omega (arith, ints, clamps)

members : (xs : List ℕ) → AllByRecursion (Contains xs) xs
members xs = All-from (Contains xs) xs (λ x i. i)

extended-append : (xs ys : List Item) → extended_boxes (xs ++ ys) ≡ extended_boxes xs ++ extended_boxes ys
extended-append [] ys = refl
extended-append (start at ∷ xs) ys = ap (λ l. at ∷ l) (extended-append xs ys)
extended-append (finish at ∷ xs) ys = extended-append xs ys
extended-append (word at text ∷ xs) ys = extended-append xs ys
extended-append (space at ∷ xs) ys = extended-append xs ys
extended-append (atomic at ∷ xs) ys = ap (λ l. at ∷ l) (extended-append xs ys)
extended-append (forced at ∷ xs) ys = extended-append xs ys
extended-append (float at ∷ xs) ys = extended-append xs ys

abbrev PartsOf : InlineContext → List (List Item) → Type 0
PartsOf c parts = AllByRecursion (λ part. OfContent c (extended_boxes part)) parts

parts-of : (c : InlineContext) (parts : List (List Item)) → OfContent c (extended_boxes (joined parts)) → PartsOf c parts
parts-of c [] a = tt
parts-of c (part ∷ parts) a = let both = all_parts (Contains (all_boxes c)) (extended_boxes part) (extended_boxes (joined parts)) (subst (OfContent c) (extended-append part (joined parts)) a) in (both.0, parts-of c parts both.1)

segments-of : (c : InlineContext) → PartsOf c (segments c.tree (content c.tree c.container))
segments-of c =
    let items = content c.tree c.container in
    parts-of c (segments c.tree items) (subst (λ l. OfContent c (extended_boxes l)) (sym (cut-joined (is_break (may_part c.tree)) [] items)) (members (all_boxes c)))

taken-of : (c : InlineContext) (n : ℕ) (parts : List (List Item)) → PartsOf c parts → OfContent c (extended_boxes (joined (take n parts)))
taken-of c zero parts a = tt
taken-of c (suc n) [] a = tt
taken-of c (suc n) (part ∷ parts) a = subst (OfContent c) (sym (extended-append part (joined (take n parts)))) (all_append (Contains (all_boxes c)) (extended_boxes part) (extended_boxes (joined (take n parts))) a.0 (taken-of c n parts a.1))

dropped-of : (c : InlineContext) (n : ℕ) (parts : List (List Item)) → PartsOf c parts → PartsOf c (drop n parts)
dropped-of c zero parts a = a
dropped-of c (suc n) [] a = tt
dropped-of c (suc n) (part ∷ parts) a = dropped-of c n parts a.1

filter-of : (P : ℕ → Type 0) (q : ℕ → Bool) (xs : List ℕ) → AllByRecursion P xs → AllByRecursion P (filter q xs)
filter-of P q [] a = tt
filter-of P q (x ∷ xs) a = by (q x) (filter-of P q xs a.1)
  where
    by : (b : Bool) → AllByRecursion P (filter q xs) → AllByRecursion P (cond b (x ∷ filter q xs) (filter q xs))
    by true rest = (a.0, rest)
    by false rest = rest

opened-of : (c : InlineContext) (opened : List ℕ) (items : List Item) → OfContent c opened → OfContent c (extended_boxes items) → OfContent c (fold opened_after opened items)
opened-of c opened [] o e = o
opened-of c opened (start at ∷ items) o e = opened-of c (opened ++ at ∷ []) items (all_append (Contains (all_boxes c)) opened (at ∷ []) o (e.0, tt)) e.1
opened-of c opened (finish at ∷ items) o e = opened-of c (filter (λ other. not (other == at)) opened) items (filter-of (Contains (all_boxes c)) (λ other. not (other == at)) opened o) e
opened-of c opened (word at text ∷ items) o e = opened-of c opened items o e
opened-of c opened (space at ∷ items) o e = opened-of c opened items o e
opened-of c opened (atomic at ∷ items) o e = opened-of c opened items o e.1
opened-of c opened (forced at ∷ items) o e = opened-of c opened items o e
opened-of c opened (float at ∷ items) o e = opened-of c opened items o e

-- ---- stacks

stack-more : (y : ℤ) (qs : List (Quad ℤ)) (end : ℤ) (q : Quad ℤ) → IsStack y qs end → end ≤ℤ q.top → IsStack y (qs ++ q ∷ []) q.bottom
stack-more y [] end q s l = (omega (arith, ints), refl)
stack-more y (p ∷ qs) end q s l = (s.0, stack-more p.bottom qs end q s.1 l)

-- ---- what holds between lines

abbrev IsLowLine : InlineContext → Quad ℤ → Type 0
IsLowLine c q = q.bottom ≤ℤ (q.top +ℤ tallest c)

record Holds (c : InlineContext) (y least : ℤ) (floats : List FloatBox) (l : LaidLines) : Type 0 where
  stacked : IsStack y (line_rectangles l.entries) l.after.y
  low : AllByRecursion (IsLowLine c) (line_rectangles l.entries)
  opened : OfContent c l.after.opened
  least_more : least ≤ℤ l.after.least
  more : HasMoreFloats least floats l.after.floats

-- a line box and its fragments among the entries
line-rectangles : (c : InlineContext) (entries rest : List (Entry ℤ)) (room : Band ℤ) (top bottom : ℤ) → line_rectangles rest ≡ []
    → line_rectangles (entries ++ line_box c room top bottom ∷ rest) ≡ line_rectangles entries ++ (record { left = room.left; top = top; right = room.right; bottom = bottom }) ∷ []
line-rectangles c entries rest room top bottom none =
    rectangles-append entries (line_box c room top bottom ∷ rest)
    ∙ ap (λ l. line_rectangles entries ++ (record { left = room.left; top = top; right = room.right; bottom = bottom }) ∷ l) none

laid_line-holds : (c : InlineContext) (y least : ℤ) (floats : List FloatBox) (l : LaidLines) (line : Line) (items : List Item) (met : Met)
    → Holds c y least floats l → l.after.y ≤ℤ line.top → OfContent c (extended_boxes items) → HasMoreFloats least floats met.floats → Holds c y least floats (followed l (laid_line c l.after line items met))
laid_line-holds c y least floats l line items met h order of more =
    let now = l.after in
    let boxes = all_append (Contains (all_boxes c)) now.opened (extended_boxes items) h.opened of in
    let e = line_extent c (now.opened ++ extended_boxes items) in
    let high = height-most c (now.opened ++ extended_boxes items) boxes in
    let room = band_at met.floats c.cb line.top line.tall in
    let bottom = line.top +ℤ height_of_extent e in
    let late = place_each c (int_max now.least line.top) bottom (record met { waiting = [] }) met.waiting in
    let set = set_line c (line.top +ℤ e.above) (content_left c room (width_held c items)) (width_held c items) items late in
    let q : Quad ℤ = record { left = room.left; top = line.top; right = room.right; bottom = bottom } in
    let same = sym (line-rectangles c l.entries (line_entries c set now.opened) room line.top bottom (entries-none c set now.opened)) in
    let known = h.least_more in
    record {
      stacked = subst (λ qs. IsStack y qs bottom) same (stack-more y (line_rectangles l.entries) now.y q h.stacked order);
      low = subst (λ qs. AllByRecursion (IsLowLine c) qs) same (all_append (IsLowLine c) (line_rectangles l.entries) (q ∷ []) h.low (omega (arith, ints), tt));
      opened = opened-of c now.opened items h.opened of;
      least_more = omega (arith, ints, clamps);
      more = each-more c least (int_max now.least line.top) bottom floats (record met { waiting = [] }) met.waiting (omega (arith, ints, clamps)) more;
    }

append-nothing : (xs : List (Quad ℤ)) → xs ++ [] ≡ xs
append-nothing [] = refl
append-nothing (x ∷ xs) = ap (λ l. x ∷ l) (append-nothing xs)

append-none : (entries rest : List (Entry ℤ)) → line_rectangles rest ≡ [] → line_rectangles (entries ++ rest) ≡ line_rectangles entries
append-none entries rest none = rectangles-append entries rest ∙ ap (λ l. line_rectangles entries ++ l) none ∙ append-nothing (line_rectangles entries)

laid_no_line-holds : (c : InlineContext) (y least : ℤ) (floats : List FloatBox) (l : LaidLines) (items : List Item)
    → Holds c y least floats l → OfContent c (extended_boxes items) → Holds c y least floats (followed l (laid_no_line c l.after items))
laid_no_line-holds c y least floats l items h of =
    let now = l.after in
    let met = place_each c now.least now.y (record { spots = []; floats = now.floats; waiting = [] }) (float_boxes items) in
    let same = sym (append-none l.entries (float_entries met.spots) (floats-none met.spots)) in
    record {
      stacked = subst (λ qs. IsStack y qs now.y) same h.stacked;
      low = subst (λ qs. AllByRecursion (IsLowLine c) qs) same h.low;
      opened = opened-of c now.opened items h.opened of;
      least_more = h.least_more;
      more = each-more c least now.least now.y floats (record { spots = []; floats = now.floats; waiting = [] }) (float_boxes items) h.least_more h.more;
    }

laid_segments-holds : (c : InlineContext) (y least : ℤ) (floats : List FloatBox) (l : LaidLines) (line : Line) (n : ℕ)
    → Holds c y least floats l → l.after.y ≤ℤ line.top → least ≤ℤ line.least → PartsOf c line.parts → HasMoreFloats least floats line.before.floats → Holds c y least floats (followed l (laid_segments c l.after line n))
laid_segments-holds c y least floats l line n h order low parts more = by (list_any (makes_line c.tree) (first_items line n))
    (laid_line-holds c y least floats l line (first_items line n) (met_after c line n) h order of (met-more c least line n floats low more))
    (laid_no_line-holds c y least floats l (first_items line n) h of)
  where
    of : OfContent c (extended_boxes (first_items line n))
    of = taken-of c n line.parts parts

    by : (b : Bool) → Holds c y least floats (followed l (laid_line c l.after line (first_items line n) (met_after c line n))) → Holds c y least floats (followed l (laid_no_line c l.after (first_items line n)))
        → Holds c y least floats (followed l (elim b as (λ (x : Bool). LaidLines) [ true ↦ laid_line c l.after line (first_items line n) (met_after c line n) | false ↦ laid_no_line c l.after (first_items line n) ]))
    by true there none = there
    by false there none = none

lines-hold : (lines : ℕ) (c : InlineContext) (y least : ℤ) (floats : List FloatBox) (l : LaidLines) (parts : List (List Item))
    → Holds c y least floats l → PartsOf c parts → Holds c y least floats (followed l (lines_to lines c (tallest c) l.after parts))
unfolding lines_to
lines-hold zero c y least floats l parts h of = subst (λ es. Holds c y least floats (record { after = l.after; entries = es })) (sym (append-nil l.entries)) h
lines-hold (suc lines) c y least floats l [] h of = subst (λ es. Holds c y least floats (record { after = l.after; entries = es })) (sym (append-nil l.entries)) h
lines-hold (suc lines) c y least floats l (first ∷ parts) h of =
    let now = l.after in
    let line = next_line c (tallest c) now first (first ∷ parts) in
    let n = segments_held c line in
    let met = place_each c now.least now.y (record { spots = []; floats = now.floats; waiting = [] }) (float_boxes (before_line c.tree first)) in
    let more = each-more c least now.least now.y floats (record { spots = []; floats = now.floats; waiting = [] }) (float_boxes (before_line c.tree first)) h.least_more h.more in
    let next = laid_segments-holds c y least floats l line n h (line_top-stands c met.floats now.y (tallest c) (width_held c first)).0 h.least_more of more in
    let one = laid_segments c now line n in
    let rest = lines_to lines c (tallest c) one.after (drop n (first ∷ parts)) in
    subst (λ es. Holds c y least floats (record { after = rest.after; entries = es })) (append_assoc l.entries one.entries rest.entries)
    (lines-hold lines c y least floats (followed l one) (drop n (first ∷ parts)) next (dropped-of c n (first ∷ parts) of))

pub record LinesHold (c : InlineContext) (y least : ℤ) (floats : List FloatBox) : Type 0 where
  pub stacked : IsStack y (line_rectangles (lines_in c y least floats).entries) (lines_in c y least floats).bottom
  pub low : AllByRecursion (λ (q : Quad ℤ). q.bottom ≤ℤ (q.top +ℤ tallest c)) (line_rectangles (lines_in c y least floats).entries)
  pub more : HasMoreFloats least floats (lines_in c y least floats).floats

pub lines-in-hold : (c : InlineContext) (y least : ℤ) (floats : List FloatBox) → LinesHold c y least floats
lines-in-hold c y least floats =
    let parts = segments c.tree (content c.tree c.container) in
    let start = laid_none (before_all y least floats) in
    let h = lines-hold (length parts) c y least floats start parts (record { stacked = refl; low = tt; opened = tt; least_more = omega (arith, ints); more = more-none least floats }) (segments-of c) in
    record { stacked = h.stacked; low = h.low; more = h.more }
