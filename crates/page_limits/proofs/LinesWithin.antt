-- The lines of a block container stay within bounds: each goes on by what stands on it.
use Rattle.std.proofs.Common.{◌≡◌, ℕ, zero, suc, ◌+◌, ◌*◌, ◌≤◌, ℤ, pos, ◌+ℤ◌, unsigned_abs, Bool, true, false, not, List, [], ◌∷◌, ◌++◌, length, take, drop, filter, fold, refl, sym, ◌∙◌, ap, subst, append_assoc, arith}
use Rattle.std.specs.Prelude.{◌==◌, ◌||◌}
use Rattle.std.specs.Int.{int_max}
use Rattle.std.specs.List.{AllByRecursion, list_any, position_or_len}
use Rattle.std.specs.Option.{option_to_list}
use Rattle.std.proofs.lemmas.Int.{ints}
use Rattle.viz_base.specs.declared.layouts.Entry.{Entry}
use Rattle.viz_base.specs.declared.layouts.Entry.TheVariants as of_entry
use Rattle.viz_base.proofs.ListLemmas.{all_append, all_parts}
use Rattle.layout_semantics.specs.Floats.{FloatBox, band_at, meets, candidate_tops}
use Rattle.layout_semantics.specs.InlineContent.{Item, start, finish, word, space, atomic, forced, float, float_boxes, content, makes_line}
use Rattle.layout_semantics.specs.Segments.{segments, is_break, may_part}
use Rattle.layout_semantics.specs.LineHeights.{InlineContext, line_extent, height_of_extent, extended_boxes, tallest}
use Rattle.layout_semantics.specs.LineFilling.{Met, Line, place_each, line_spot, with_spot, least_or, fits, meets_none, joined, before_line, met_after, segments_held, width_held}
use Rattle.layout_semantics.specs.Lines.{SoFar, LaidLines, opened_after, next_line, align_of, content_left, set_line, laid_line, laid_no_line, laid_segments, laid_none, lines_to, before_all, lines_in}
use Rattle.layout_laws.proofs.Cuts.{cut-joined}
use Rattle.layout_laws.proofs.Greatest.{least_from-any}
use Rattle.layout_laws.proofs.Levels.{All-implied}
use Rattle.page_limits.specs.Bounds.{Bounds, AreInside, grown, together, IsLevelIn, IsBandIn, IsFloatIn, IsQuadIn}
use Rattle.page_limits.specs.Inline.{IsInlineSmall, IsItemBoxSmall, IsItemSmall, IsContentSmall, IsFloatSmall, rise_of, float_rise, charge, IsEntryIn, AreLinesIn}
use Rattle.page_limits.proofs.Levels.{All-filter, level-wider, level-max, quad-wider, put-wider, inside-grown, inside-more, together-append}
use Rattle.page_limits.proofs.FloatSpots.{beside-in, candidates-in}
use Rattle.page_limits.proofs.LineSizes.{line-tall}
use Rattle.page_limits.proofs.FloatsMet.{floats-wider, band-wider, charges, floats_in, IsMetIn, ArePlacesIn, met-wider, each-met, IsMetFor, All-before, met-after}
use Rattle.page_limits.proofs.LinePlaces.{spread, content-left-in, held-within, stays-in, IsLineIn, spots-in, entries-in}

pub levels-wider : (b around : Bounds) (ys : List ℤ) → AreInside b around → AllByRecursion (IsLevelIn b) ys → AllByRecursion (IsLevelIn around) ys
levels-wider b around ys i a = All-implied (IsLevelIn b) (IsLevelIn around) ys (λ y h. level-wider b around y i h) a

least-or-in : (b : Bounds) (y : ℤ) (xs : List ℤ) → IsLevelIn b y → AllByRecursion (IsLevelIn b) xs → IsLevelIn b (least_or y xs)
least-or-in b y [] h a = h
least-or-in b y (x ∷ xs) h a = least_from-any (IsLevelIn b) x xs a.0 a.1

any-some : (p : Item → Bool) (items : List Item) → list_any p items ≡ true → 1 ≤ length items
any-some p [] e = absurd (cc)
any-some p (i ∷ items) e = omega arith

joined-split : (n : ℕ) (parts : List (List Item)) → joined (take n parts) ++ joined (drop n parts) ≡ joined parts
joined-split zero parts = refl
joined-split (suc n) [] = refl
joined-split (suc n) (part ∷ parts) = append_assoc part (joined (take n parts)) (joined (drop n parts)) ∙ ap (λ l. part ++ l) (joined-split n parts)

All-parts : (P : Item → Type 0) (parts : List (List Item)) → AllByRecursion P (joined parts) → AllByRecursion (AllByRecursion P) parts
All-parts P [] a = tt
All-parts P (part ∷ parts) a = let both = all_parts P part (joined parts) a in (both.0, All-parts P parts both.1)

module _ (c : InlineContext) (own rise : ℕ → Bounds) (s : ℕ) where
  abbrev AllItems : List Item → Type 0
  AllItems items = AllByRecursion (IsItemSmall c own rise s) items

  abbrev rises : List Item → Bounds
  rises items = together (rise_of rise) items

  abbrev floats_of : List Item → Bounds
  floats_of items = floats_in c own rise s items

  abbrev wide : ℕ → ℕ
  wide n = spread c own rise s n

  abbrev pub charge_of : List Item → Bounds
  charge_of items = together (charge own rise s) items

  -- ---- what items may take

  record IsRoomFor (items : List Item) : Type 0 where
    up : (floats_of items).up + (rises items).up + 19 * wide (length items) ≤ (charge_of items).up
    down : (floats_of items).down + (rises items).down + 19 * wide (length items) ≤ (charge_of items).down
    aside : (floats_of items).aside + (rises items).aside + 19 * wide (length items) ≤ (charge_of items).aside

  room-next : (i : Item) (items : List Item) → floats_of (i ∷ items) ≡ floats_of items → IsRoomFor items → IsRoomFor (i ∷ items)
  room-next i items e r =
      let up = r.up in let down = r.down in let aside = r.aside in
      let a = ap (λ (b : Bounds). b.up) e in let d = ap (λ (b : Bounds). b.down) e in let f = ap (λ (b : Bounds). b.aside) e in
      record { up = omega (arith, up, a); down = omega (arith, down, d); aside = omega (arith, aside, f) }

  room-for : (items : List Item) → IsRoomFor items
  unfolding float_rise
  room-for [] = record { up = omega arith; down = omega arith; aside = omega arith }
  room-for (float at ∷ items) = let r = room-for items in let up = r.up in let down = r.down in let aside = r.aside in record { up = omega (arith, up); down = omega (arith, down); aside = omega (arith, aside) }
  room-for (start at ∷ items) = room-next (start at) items refl (room-for items)
  room-for (finish at ∷ items) = room-next (finish at) items refl (room-for items)
  room-for (word at text ∷ items) = room-next (word at text) items refl (room-for items)
  room-for (space at ∷ items) = room-next (space at) items refl (room-for items)
  room-for (atomic at ∷ items) = room-next (atomic at) items refl (room-for items)
  room-for (forced at ∷ items) = room-next (forced at) items refl (room-for items)

  floats-small : (items : List Item) → AllItems items → AllByRecursion (IsFloatSmall c own rise s) (float_boxes items)
  unfolding IsItemBoxSmall
  floats-small [] a = tt
  floats-small (float at ∷ items) a = ((a.0).box, floats-small items a.1)
  floats-small (start at ∷ items) a = floats-small items a.1
  floats-small (finish at ∷ items) a = floats-small items a.1
  floats-small (word at text ∷ items) a = floats-small items a.1
  floats-small (space at ∷ items) a = floats-small items a.1
  floats-small (atomic at ∷ items) a = floats-small items a.1
  floats-small (forced at ∷ items) a = floats-small items a.1

  opened-in : (opened : List ℕ) (items : List Item) → AllByRecursion (IsInlineSmall c own rise s) opened → AllItems items → AllByRecursion (IsInlineSmall c own rise s) (fold opened_after opened items)
  unfolding IsItemBoxSmall
  opened-in opened [] o a = o
  opened-in opened (start at ∷ items) o a = opened-in (opened ++ at ∷ []) items (all_append (IsInlineSmall c own rise s) opened (at ∷ []) o ((a.0).box, tt)) a.1
  opened-in opened (finish at ∷ items) o a = opened-in (filter (λ other. not (other == at)) opened) items (All-filter (IsInlineSmall c own rise s) (λ other. not (other == at)) opened o) a.1
  opened-in opened (word at text ∷ items) o a = opened-in opened items o a.1
  opened-in opened (space at ∷ items) o a = opened-in opened items o a.1
  opened-in opened (atomic at ∷ items) o a = opened-in opened items o a.1
  opened-in opened (forced at ∷ items) o a = opened-in opened items o a.1
  opened-in opened (float at ∷ items) o a = opened-in opened items o a.1

  entry-wider : (b around : Bounds) (e : Entry ℤ) → AreInside b around → IsEntryIn own b e → IsEntryIn own around e
  entry-wider b around (of_entry.Here p) i h = record {
    margin = quad-wider b around p.margin i h.margin;
    border = quad-wider b around p.border i h.border;
    padding = quad-wider b around p.padding i h.padding;
    content = quad-wider b around p.content i h.content;
  }
  entry-wider b around (of_entry.Goes k at) i h = put-wider b around (own k) at i h

  entries-wider : (b around : Bounds) (es : List (Entry ℤ)) → AreInside b around → AllByRecursion (IsEntryIn own b) es → AllByRecursion (IsEntryIn own around) es
  entries-wider b around es i a = All-implied (IsEntryIn own b) (IsEntryIn own around) es (λ e h. entry-wider b around e i h) a

  -- ---- between lines

  record IsSoFarIn (b : Bounds) (now : SoFar) : Type 0 where
    band : IsBandIn b c.cb
    at : IsLevelIn b now.y
    from : IsLevelIn b now.least
    floats : AllByRecursion (IsFloatIn b) now.floats
    opened : AllByRecursion (IsInlineSmall c own rise s) now.opened
    baseline : AllByRecursion (IsLevelIn b) (option_to_list now.baseline)

  record AreLaidIn (b : Bounds) (l : LaidLines) : Type 0 where
    after : IsSoFarIn b l.after
    entries : AllByRecursion (IsEntryIn own b) l.entries

  so-far-wider : (b around : Bounds) (now : SoFar) → AreInside b around → IsSoFarIn b now → IsSoFarIn around now
  so-far-wider b around now i n = record {
    band = band-wider b around i n.band;
    at = level-wider b around now.y i n.at;
    from = level-wider b around now.least i n.from;
    floats = floats-wider b around now.floats i n.floats;
    opened = n.opened;
    baseline = levels-wider b around (option_to_list now.baseline) i n.baseline;
  }

  laid-wider : (b around : Bounds) (l : LaidLines) → AreInside b around → AreLaidIn b l → AreLaidIn around l
  laid-wider b around l i h = record { after = so-far-wider b around l.after i h.after; entries = entries-wider b around l.entries i h.entries }

  -- ---- one line

  module _ (small : IsContentSmall c own rise s) where
    some-wide : (n : ℕ) → 1 ≤ n → s + 1 ≤ wide n
    some-wide zero l = absurd (omega (arith, l))
    some-wide (suc n) l = omega arith

    line-in : (b base : Bounds) (now : SoFar) (line : Line) (items : List Item) (met : Met) → 1 ≤ length items → IsSoFarIn b now → AreInside b base → IsLevelIn base line.top
        → IsMetFor c own rise s base (grown b (floats_of items)) met → AllItems items → AreLaidIn (grown b (charge_of items)) (laid_line c now line items met)
    line-in b base now line items met some n inside top_in m a =
        let boxes = now.opened ++ extended_boxes items in
        let e = line_extent c boxes in
        let tall = line-tall c own rise s now.opened items small.above small.below n.opened a in
        let from = tall.from in let to = tall.to in let low = tall.low in let high = tall.tall in
        let d = rises items in
        let bm = m.bounds in
        let most = grown b (charge_of items) in
        let more : Bounds = record { up = 2 * s; down = d.down + 5 * s; aside = 0 } in
        let bl = grown bm more in
        let r = room-for items in let ru = r.up in let rd = r.down in let ra = r.aside in
        let w = some-wide (length items) some in
        let mr = m.room in let mu = mr.up in let md = mr.down in let ma = mr.aside in
        let bu = inside.up in
        let base_in = m.around in
        let start = inside-more b base bm inside base_in in
        let met_most : AreInside bm most = record { up = omega (arith, ru, mu); down = omega (arith, rd, md); aside = omega (arith, ra, ma) } in
        let late_most : AreInside (grown bl (charges c own rise s met.waiting)) most = record { up = omega (arith, ru, mu, w); down = omega (arith, rd, md, w); aside = omega (arith, ra, ma) } in
        let top = line.top in
        let height = height_of_extent e in
        let bottom = top +ℤ height in
        let tm = level-wider base bm top base_in top_in in
        let tt_ = tm.top in let tb = tm.bottom in
        let bottom_in : IsLevelIn bl bottom = record { top = omega (arith, ints); bottom = omega (arith, ints) } in
        let bl_in = inside-grown bm more in
        let least_in = level-max bl now.least top (level-wider bm bl now.least bl_in (level-wider b bm now.least start n.from)) (level-wider bm bl top bl_in tm) in
        let places : ArePlacesIn c own rise s bl (int_max now.least top) bottom = record { band = band-wider bm bl bl_in (band-wider b bm start n.band); from = least_in; at = bottom_in } in
        let late = place_each c (int_max now.least top) bottom (record met { waiting = [] }) met.waiting in
        let none_waits : IsMetIn c own rise s bl (record met { waiting = [] }) = met-wider c own rise s bm bl (record met { waiting = [] }) bl_in (record { floats = m.there.floats; spots = m.there.spots }) in
        let late_in = met-wider c own rise s (grown bl (charges c own rise s met.waiting)) most late late_most (each-met c own rise s bl (int_max now.least top) bottom (record met { waiting = [] }) met.waiting places m.waits none_waits) in
        let bl_most = inside-more bl (grown bl (charges c own rise s met.waiting)) most (inside-grown bl (charges c own rise s met.waiting)) late_most in
        let room = band_at met.floats c.cb top line.tall in
        let room_in = beside-in bm (filter (meets top line.tall) met.floats) c.cb (All-filter (IsFloatIn bm) (meets top line.tall) met.floats m.there.floats) (band-wider b bm start n.band) in
        let room_most = band-wider bm most {cb = room} met_most room_in in
        let clamped = width_held c items in
        let clamped_in = held-within c own rise s items a in
        let left = content_left c room clamped in
        let left_in : unsigned_abs left ≤ bm.aside + unsigned_abs clamped = content-left-in bm.aside (align_of c.tree c.container) room clamped room_in.left room_in.right in
        let m_ = bm.aside + 2 * wide (length items) in
        let set = set_line c (top +ℤ e.above) left clamped items late in
        let line_is : IsLineIn c own rise s e.above top d bm most m_ set = record {
          top_in = tm;
          from = from;
          to = to;
          base = refl;
          up = omega (arith, ru, mu, w);
          down = omega (arith, rd, md, w);
          aside = omega (arith, ra, ma, w);
          left = omega (arith, left_in, clamped_in);
          right = omega (arith, ints, left_in, clamped_in);
        } in
        let placed = stays-in c own rise s e.above d m_ left items (omega (arith, left_in, clamped_in)) a tall.each in
        let base_level : IsLevelIn most (top +ℤ e.above) = record { top = omega (arith, ints, ru, mu, w); bottom = omega (arith, ints, rd, md, w) } in
        let quad : IsQuadIn most (record { left = room.left; top = top; right = room.right; bottom = bottom }) = record { left = room_most.left; top = level-wider bm most top met_most tm; right = room_most.right; bottom = level-wider bl most bottom bl_most bottom_in } in
        record {
          after = record {
            band = band-wider b most (inside-grown b (charge_of items)) n.band;
            at = level-wider bl most bottom bl_most bottom_in;
            from = level-wider bl most (int_max now.least top) bl_most least_in;
            floats = late_in.floats;
            opened = opened-in now.opened items n.opened a;
            baseline = (base_level, tt);
          };
          entries = (
            record { margin = quad; border = quad; padding = quad; content = quad },
            entries-in c own rise s e.above top d bm most m_ set now.opened line_is n.opened placed late_in.spots,
          );
        }

    no-line-in : (b : Bounds) (now : SoFar) (items : List Item) → IsSoFarIn b now → AllItems items → AreLaidIn (grown b (charge_of items)) (laid_no_line c now items)
    no-line-in b now items n a =
        let most = grown b (charge_of items) in
        let r = room-for items in let ru = r.up in let rd = r.down in let ra = r.aside in
        let met = place_each c now.least now.y (record { spots = []; floats = now.floats; waiting = [] }) (float_boxes items) in
        let inside : AreInside (grown b (floats_of items)) most = record { up = omega (arith, ru); down = omega (arith, rd); aside = omega (arith, ra) } in
        let met_in = met-wider c own rise s (grown b (floats_of items)) most met inside (each-met c own rise s b now.least now.y (record { spots = []; floats = now.floats; waiting = [] }) (float_boxes items)
        (record { band = n.band; from = n.from; at = n.at }) (floats-small items a) (record { floats = n.floats; spots = tt })) in
        let wider = so-far-wider b most now (inside-grown b (charge_of items)) n in
        record {
          after = record { band = wider.band; at = wider.at; from = wider.from; floats = met_in.floats; opened = opened-in now.opened items n.opened a; baseline = wider.baseline };
          entries = spots-in c own rise s (pos 0) (pos 0) b b most 0 (record { baseline = pos 0; left = pos 0; right = pos 0; places = []; spots = [] }) met.spots met_in.spots;
        }

    -- ---- the next line

    each-waits : (least y : ℤ) (met : Met) (boxes : List ℕ) → (place_each c least y met boxes).waiting ≡ met.waiting
    each-waits least y met [] = refl
    each-waits least y met (at ∷ boxes) = each-waits least y (with_spot c met at (line_spot c met.floats least y at)) boxes

    abbrev AllParts : List (List Item) → Type 0
    AllParts parts = AllByRecursion AllItems parts

    part-floats : (parts : List (List Item)) → AllParts parts → AllByRecursion (λ (part : List Item). AllByRecursion (IsFloatSmall c own rise s) (float_boxes part)) parts
    part-floats parts a = All-implied AllItems (λ (part : List Item). AllByRecursion (IsFloatSmall c own rise s) (float_boxes part)) parts (λ part h. floats-small part h) a

    taken-in : (n : ℕ) (parts : List (List Item)) → AllParts parts → AllItems (joined (take n parts))
    taken-in zero parts a = tt
    taken-in (suc n) [] a = tt
    taken-in (suc n) (part ∷ parts) a = all_append (IsItemSmall c own rise s) part (joined (take n parts)) a.0 (taken-in n parts a.1)

    dropped-in : (n : ℕ) (parts : List (List Item)) → AllParts parts → AllParts (drop n parts)
    dropped-in zero parts a = a
    dropped-in (suc n) [] a = tt
    dropped-in (suc n) (part ∷ parts) a = dropped-in n parts a.1

    next-in : (b : Bounds) (now : SoFar) (first : List Item) (parts : List (List Item)) (n : ℕ) → IsSoFarIn b now → AllParts (first ∷ parts)
        → AreLaidIn (grown b (charge_of (joined (take (suc n) (first ∷ parts))))) (laid_segments c now (next_line c (tallest c) now first (first ∷ parts)) (suc n))
    next-in b now first parts n so a = by (list_any (makes_line c.tree) items) refl
      where
        items : List Item
        items = joined (take (suc n) (first ∷ parts))

        line : Line
        line = next_line c (tallest c) now first (first ∷ parts)

        before : List ℕ
        before = float_boxes (before_line c.tree first)

        started : Met
        started = record { spots = []; floats = now.floats; waiting = [] }

        base : Bounds
        base = grown b (floats_of (before_line c.tree first))

        inside : AreInside b base
        inside = inside-grown b (floats_of (before_line c.tree first))

        there : IsMetIn c own rise s base line.before
        there = each-met c own rise s b now.least now.y started before (record { band = so.band; from = so.from; at = so.at })
            (All-before c own rise s (position_or_len (makes_line c.tree) first) first (floats-small first a.0)) (record { floats = so.floats; spots = tt })

        top_in : IsLevelIn base line.top
        top_in =
            let at = level-wider b base now.y inside so.at in
            least-or-in base now.y (filter (λ top. fits (width_held c first) (band_at line.before.floats c.cb top (tallest c)) || meets_none line.before.floats top (tallest c)) (candidate_tops line.before.floats now.y)) at
            (All-filter (IsLevelIn base) (λ top. fits (width_held c first) (band_at line.before.floats c.cb top (tallest c)) || meets_none line.before.floats top (tallest c)) (candidate_tops line.before.floats now.y)
            (candidates-in base line.before.floats now.y there.floats at))

        waits : line.before.waiting ≡ []
        waits = each-waits now.least now.y started before

        met : IsMetFor c own rise s base base line.before
        met = record {
          bounds = base;
          around = record { up = omega arith; down = omega arith; aside = omega arith };
          there = there;
          waits = rw waits tt;
          room = subst (λ ws. AreInside (grown base (charges c own rise s ws)) base) (sym waits) (record { up = omega arith; down = omega arith; aside = omega arith });
        }

        met_next : IsMetFor c own rise s base (grown b (floats_of items)) (met_after c line (suc n))
        met_next = met-after c own rise s b line first parts refl (part-floats (first ∷ parts) a) (suc n)
            (record { band = band-wider b base inside so.band; from = level-wider b base now.least inside so.from; at = top_in }) met

        by : (t : Bool) → list_any (makes_line c.tree) items ≡ t → AreLaidIn (grown b (charge_of items)) (laid_segments c now line (suc n))
        by true e = rw e (line-in b base now line items (met_after c line (suc n)) (any-some (makes_line c.tree) items e) so inside top_in met_next (taken-in (suc n) (first ∷ parts) a))
        by false e = rw e (no-line-in b now items so (taken-in (suc n) (first ∷ parts) a))

    none-in : (b : Bounds) (now : SoFar) (parts : List (List Item)) → IsSoFarIn b now → AreLaidIn (grown b (charge_of (joined parts))) (laid_none now)
    none-in b now parts so = record { after = so-far-wider b (grown b (charge_of (joined parts))) now (inside-grown b (charge_of (joined parts))) so; entries = tt }

    steps-in : (lines : ℕ) (b : Bounds) (now : SoFar) (parts : List (List Item)) → IsSoFarIn b now → AllParts parts → AreLaidIn (grown b (charge_of (joined parts))) (lines_to lines c (tallest c) now parts)
    unfolding lines_to
    steps-in zero b now parts so a = none-in b now parts so
    steps-in (suc lines) b now [] so a = none-in b now [] so
    steps-in (suc lines) b now (first ∷ parts) so a =
        let line = next_line c (tallest c) now first (first ∷ parts) in
        let n = segments_held c line in
        let taken = joined (take n (first ∷ parts)) in
        let left = joined (drop n (first ∷ parts)) in
        let one = laid_segments c now line n in
        let one_in : AreLaidIn (grown b (charge_of taken)) one = next-in b now first parts _ so a in
        let rest = lines_to lines c (tallest c) one.after (drop n (first ∷ parts)) in
        let rest_in = steps-in lines (grown b (charge_of taken)) one.after (drop n (first ∷ parts)) one_in.after (dropped-in n (first ∷ parts) a) in
        let whole = ap charge_of (sym (joined-split n (first ∷ parts))) ∙ together-append (charge own rise s) taken left in
        let up = ap (λ (x : Bounds). x.up) whole in
        let down = ap (λ (x : Bounds). x.down) whole in
        let aside = ap (λ (x : Bounds). x.aside) whole in
        let most = grown b (charge_of (joined (first ∷ parts))) in
        let rest_most : AreInside (grown (grown b (charge_of taken)) (charge_of left)) most = record { up = omega (arith, up); down = omega (arith, down); aside = omega (arith, aside) } in
        let one_most : AreInside (grown b (charge_of taken)) most = record { up = omega (arith, up); down = omega (arith, down); aside = omega (arith, aside) } in
        let last = laid-wider (grown (grown b (charge_of taken)) (charge_of left)) most rest rest_most rest_in in
        record { after = last.after; entries = all_append (IsEntryIn own most) one.entries rest.entries (entries-wider (grown b (charge_of taken)) most one.entries one_most one_in.entries) last.entries }

    pub lines-within : (b : Bounds) (y least : ℤ) (floats : List FloatBox) → IsBandIn b c.cb → AllByRecursion (IsLevelIn b) (y ∷ least ∷ []) → AllByRecursion (IsFloatIn b) floats
        → AreLinesIn own (grown b (charge_of (content c.tree c.container))) (lines_in c y least floats)
    lines-within b y least floats band levels f =
        let items = content c.tree c.container in
        let parts = segments c.tree items in
        let same = cut-joined (is_break (may_part c.tree)) [] items in
        let laid = lines_to (length parts) c (tallest c) (before_all y least floats) parts in
        let all = subst AllItems (sym same) small.items in
        let done = steps-in (length parts) b (before_all y least floats) parts (record { band = band; at = levels.0; from = levels.1.0; floats = f; opened = tt; baseline = tt }) (All-parts (IsItemSmall c own rise s) parts all) in
        let whole = subst (λ l. AreLaidIn (grown b (charge_of l)) laid) same done in
        record { entries = whole.entries; bottom = whole.after.at; baseline = whole.after.baseline; floats = whole.after.floats }
