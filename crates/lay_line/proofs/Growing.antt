-- One line after another stays within the room that all have.
use Rattle.std.proofs.Common.{◌≡◌, ℕ, suc, ◌+◌, ◌*◌, ◌<◌, ◌≤◌, ◌^◌, ℤ, pos, ◌+ℤ◌, Bool, true, false, cond, List, [], ◌∷◌, ◌++◌, length, take, drop, refl, sym, subst, ap, ◌∙◌, append_assoc, append-nil, arith}
use Rattle.std.proofs.Math.Seq.{take-append_seam}
use Rattle.std.specs.Int.{int_max}
use Rattle.std.proofs.lemmas.Int.{ints}
use Rattle.std.proofs.lemmas.List.{length-append, take-append-drop}
use Rattle.std.proofs.Math.Nat.{suc-mul, mul-le-mul_right}
use Rattle.viz_calc.specs.State.{IsSmall, AllSmall}
use Rattle.layout_semantics.specs.Blocks.{node_of}
use Rattle.layout_semantics.specs.Floats.{FloatBox}
use Rattle.layout_semantics.specs.InlineContent.{Item, float_boxes}
use Rattle.layout_semantics.specs.LineFilling.{Met}
use Rattle.layout_semantics.specs.LineHeights.{InlineContext, height_of_extent}
use Rattle.layout_semantics.specs.Lines.{SoFar}
use Rattle.lay_line.specs.Fits.{InlineFits}
use Rattle.lay_line.specs.Limits.{AllWithin, weight, FloatsWithin, floats_reach, PlacesFit, RoomFits, ClampFits, FillFits, BoxesReach}
use Rattle.lay_line.specs.LinesFit.{FirstFits, EndFits, RestFits, LinesFit}
use Rattle.lay_line.specs.steps.Held.{Held, nothing_held}
use Rattle.lay_line.specs.steps.Lining.{no_floats, met_before, slot_for, first_load, full_line, empty_line, ended_line, joined_parts, taken, next_in}
use Rattle.lay_line.specs.steps.Loading.{Load, bare, ahead, reaching, reaching_boxes, loaded, loading, takes_more}
use Rattle.lay_line.specs.steps.Measured.{Measured, held_with}
use Rattle.lay_line.specs.steps.Meeting.{Slot, placed_all}
use Rattle.lay_line.specs.steps.Words.{strut_in}
use Rattle.lay_line.proofs.Filling.{weight_joined, held_grows, bare_joined, boxes_joined}
use Rattle.lay_line.proofs.Growth.{ground_at, on_slot, MetFits, LoadFits, floats_more, reach_joined, all_placed, as_places, all_met, items_high, boxes_high, top_in_within, all_loaded}
use Rattle.lay_line.proofs.Parts.{taken-front}
use Rattle.lay_line.proofs.Placing.{max_within, all_half}

-- ---- lists

times_more : (n k h : ℕ) → suc n ≤ k → n * h + h ≤ k * h
times_more n k h l = subst (λ (x : ℕ). x ≤ k * h) (suc-mul n h) (mul-le-mul_right h l)

module _ (c : InlineContext) (slot : Slot) where
  -- what a line takes stands before what it leaves
  pub left_behind : (f : Load) (parts : List (List Measured)) → (front : List Measured) × (joined_parts parts ≡ front ++ joined_parts (loading c slot f parts).1)
  left_behind f [] = ([], refl)
  left_behind f (part ∷ parts) = by (takes_more c slot f (held_with f.held part)) (left_behind next parts)
    where
      next : Load
      next = loaded c slot f (bare part) (float_boxes (bare part)) (held_with f.held part)

      by : (b : Bool) → (front : List Measured) × (joined_parts parts ≡ front ++ joined_parts (loading c slot next parts).1)
          → (front : List Measured) × (joined_parts (part ∷ parts) ≡ front ++ joined_parts (cond b (loading c slot next parts) (f, part ∷ parts)).1)
      by true rest = (part ++ rest.0, ap (λ l. part ++ l) rest.1 ∙ sym (append_assoc part rest.0 _))
      by false rest = ([], refl)

-- ---- the next line

module _ (c : InlineContext) (tall : ℤ) (now : SoFar) (first : List Measured) (rest : List (List Measured)) (r : RestFits c tall now (first ++ joined_parts rest)) where
  abbrev all : List Measured
  all = first ++ joined_parts rest

  abbrev reached : ℕ
  reached = r.most + floats_reach c (float_boxes (bare all))

  within_limit : reached ≤ 2 ^ 99
  within_limit = let room = r.room in omega arith

  abbrev ahead_boxes : List ℕ
  ahead_boxes = float_boxes (take (ahead c (bare first)) (bare first))

  abbrev late_boxes : List ℕ
  late_boxes = float_boxes (drop (ahead c (bare first)) (bare first))

  abbrev rest_boxes : List ℕ
  rest_boxes = float_boxes (bare (joined_parts rest))

  first_boxes : float_boxes (bare first) ≡ ahead_boxes ++ late_boxes
  first_boxes = ap float_boxes (sym (take-append-drop (ahead c (bare first)) (bare first))) ∙ boxes_joined (take (ahead c (bare first)) (bare first)) (drop (ahead c (bare first)) (bare first))

  all_boxes : float_boxes (bare all) ≡ ahead_boxes ++ (late_boxes ++ rest_boxes)
  all_boxes =
      ap float_boxes (bare_joined first (joined_parts rest))
      ∙ (boxes_joined (bare first) (bare (joined_parts rest))
      ∙ (ap (λ l. l ++ rest_boxes) first_boxes ∙ append_assoc ahead_boxes late_boxes rest_boxes))

  begins : MetFits (ground_at c reached now.floats now.least now.y) (no_floats now.floats) (ahead_boxes ++ (late_boxes ++ rest_boxes))
  begins = record {
    most = r.most;
    floats = r.floats;
    numbers = r.numbers;
    more = [];
    front = sym (append-nil now.floats);
    spots = tt;
    room = let same = ap (floats_reach c) all_boxes in omega arith;
  }

  abbrev held : Held
  held = held_with nothing_held first

  abbrev before : Met
  before = met_before c now first

  before_fits : MetFits (ground_at c reached now.floats now.least now.y) before (late_boxes ++ rest_boxes)
  unfolding met_before
  before_fits = all_placed c reached within_limit now.floats now.least now.y (no_floats now.floats) ahead_boxes (late_boxes ++ rest_boxes) begins

  abbrev slot : Slot
  slot = slot_for c tall now before held.width

  top_fits : MetFits (on_slot c reached now.floats slot) before (late_boxes ++ rest_boxes)
  top_fits = record {
    most = before_fits.most;
    floats = before_fits.floats;
    numbers = (
      before_fits.numbers.0,
      (
        before_fits.numbers.1.0,
        (
          before_fits.numbers.1.1.0,
          (top_in_within before_fits.most c tall held.width now.y before_fits.numbers.1.1.1.0 before.floats before_fits.floats, tt),
        ),
      ),
    );
    more = before_fits.more;
    front = before_fits.front;
    spots = before_fits.spots;
    room = before_fits.room;
  }

  abbrev load : Load
  load = first_load c slot before now.opened first held

  load_fits : LoadFits (on_slot c reached now.floats slot) r.high load (joined_parts rest)
  unfolding first_load loaded
  load_fits = record {
    held = let one = weight_joined first (joined_parts rest) in let grows = held_grows nothing_held first in let widths = r.widths in omega arith;
    met = all_met c reached within_limit now.floats slot held.width before late_boxes rest_boxes top_fits;
    extent = items_high c r.high r.reaches (reaching_boxes c (strut_in c) now.opened) (bare first) (boxes_high c r.high r.reaches (strut_in c) now.opened r.strut_reaches);
  }

  abbrev full : Load × List (List Measured)
  full = loading c slot load rest

  full_fits : LoadFits (on_slot c reached now.floats slot) r.high full.0 (joined_parts full.1)
  full_fits = all_loaded c reached r.high within_limit now.floats slot r.reaches load rest load_fits

  abbrev items : List Measured
  items = taken (joined_parts (first ∷ rest)) (joined_parts full.1)

  pub split : all ≡ items ++ joined_parts full.1
  split =
      let front = left_behind c slot load rest in
      let whole : all ≡ (first ++ front.0) ++ joined_parts full.1 = ap (λ l. first ++ l) front.1 ∙ sym (append_assoc first front.0 (joined_parts full.1)) in
      whole ∙ ap (λ l. l ++ joined_parts full.1) (sym (ap (λ l. taken l (joined_parts full.1)) whole ∙ taken-front (first ++ front.0) (joined_parts full.1)))

  split_boxes : floats_reach c (float_boxes (bare all)) ≡ floats_reach c (float_boxes (bare items)) + floats_reach c (float_boxes (bare (joined_parts full.1)))
  split_boxes =
      ap (λ l. floats_reach c (float_boxes (bare l))) split
      ∙ (ap (floats_reach c) (ap float_boxes (bare_joined items (joined_parts full.1)) ∙ boxes_joined (bare items) (bare (joined_parts full.1)))
      ∙ reach_joined c (float_boxes (bare items)) (float_boxes (bare (joined_parts full.1))))

  begun_again : take (length now.floats) full.0.met.floats ≡ now.floats
  begun_again = ap (take (length now.floats)) full_fits.met.front ∙ take-append_seam now.floats full_fits.met.more

  -- what the calls of a line ask
  pub top_room : RoomFits c before.floats now.y tall
  top_room = record {
    edges = λ f i. all_half before_fits.most (f.box.left ∷ f.box.top ∷ f.box.right ∷ f.box.bottom ∷ []) most_half (before_fits.floats f i);
    numbers = (at_half before_fits.numbers.0, (at_half before_fits.numbers.1.0, (at_half before_fits.numbers.1.1.1.0, (let t = r.tall_near.0 in omega arith, tt))));
  }
    where
      most_half : before_fits.most ≤ 2 ^ 99
      most_half = let room = before_fits.room in let limit = within_limit in omega arith

      at_half : {a : ℕ} → a ≤ before_fits.most → a ≤ 2 ^ 99
      at_half w = let le = most_half in omega arith

  pub clamp_fits : ClampFits nothing_held first
  clamp_fits = let one = weight_joined first (joined_parts rest) in let w = r.widths in omega arith

  pub before_places : PlacesFit c now.floats now.least now.y (float_boxes (bare first))
  before_places = record {
    most = r.most;
    floats_within = r.floats;
    numbers = r.numbers;
    room = let room = r.room in let one = ap (floats_reach c) (ap float_boxes (bare_joined first (joined_parts rest)) ∙ boxes_joined (bare first) (bare (joined_parts rest))) in
        let two = reach_joined c (float_boxes (bare first)) rest_boxes in omega arith;
  }

  pub tall_small : AllSmall (tall ∷ [])
  tall_small = let t = r.tall_near.0 in (omega arith, tt)

  pub least_small : AllSmall (now.least ∷ [])
  least_small = let l = r.numbers.1.1.0 in let room = r.room in (omega arith, tt)

  pub first_fits : FirstFits c slot before first
  first_fits = (
    r.strut,
    (
      λ at. (r.boxes at).reach,
      (
        record {
          most = top_fits.most;
          floats_within = top_fits.floats;
          numbers = top_fits.numbers;
          room = let a = top_fits.room in let l = r.room in let one = ap (floats_reach c) (ap float_boxes (bare_joined first (joined_parts rest)) ∙ boxes_joined (bare first) (bare (joined_parts rest))) in
              let two = reach_joined c (float_boxes (bare first)) rest_boxes in omega arith;
        },
        let t = r.tall_near.0 in omega arith,
      ),
    ),
  )

  pub fill_fits : FillFits c slot load (joined_parts rest)
  fill_fits = record {
    held = let h = load_fits.held in omega arith;
    places = as_places c reached within_limit now.floats slot.least slot.top load.met rest_boxes load_fits.met;
    tall = let t = r.tall_near.0 in omega arith;
    reach = λ at. (r.boxes at).reach;
  }

  pub end_fits : EndFits c (record { y = now.y; least = now.least; floats = length now.floats }) slot full.0 items
  end_fits = record {
    boxes = r.boxes;
    numbers = (
      near m.numbers.0,
      (
        near m.numbers.1.0,
        (
          near m.numbers.1.1.0,
          (
            near m.numbers.1.1.1.0,
            (
              r.tall_near.0,
              (
                low full_fits.extent.0,
                (low full_fits.extent.1.0, (let h = full_fits.held in omega arith, tt)),
              ),
            ),
          ),
        ),
      ),
    );
    floats = floats_more m.most (2 ^ 95) full.0.met.floats most_low m.floats;
    waiting = let room = m.room in let l = reached_low in omega arith;
    spots = m.spots;
    widths = let one = ap weight split in let two = weight_joined items (joined_parts full.1) in let w = r.widths in omega arith;
    empty = subst (λ fs. PlacesFit c fs now.least now.y (float_boxes (bare items))) (sym begun_again)
        (record { most = r.most; floats_within = r.floats; numbers = r.numbers; room = let room = r.room in let s = split_boxes in omega arith });
  }
    where
      m : MetFits (on_slot c reached now.floats slot) full.0.met (float_boxes (bare (joined_parts full.1)))
      m = full_fits.met

      reached_low : reached ≤ 2 ^ 95
      reached_low = let room = r.room in omega arith

      most_low : m.most ≤ 2 ^ 95
      most_low = let room = m.room in let l = reached_low in omega arith

      near : {a : ℕ} → a ≤ m.most → a ≤ 2 ^ 95
      near w = let l = most_low in omega arith

      low : {a : ℕ} → a ≤ r.high → a ≤ 2 ^ 95
      low w = let l = r.low in omega arith

  -- ---- and after it

  abbrev RestAfter : SoFar → Type 0
  RestAfter after = RestFits c tall after (joined_parts full.1)

  made : (after : SoFar) (n : ℕ) → FloatsWithin n after.floats → AllWithin n (c.cb.left ∷ c.cb.right ∷ after.least ∷ after.y ∷ [])
      → n + floats_reach c (float_boxes (bare (joined_parts full.1))) ≤ reached + 2 * r.high → length (joined_parts full.1) < length all → RestAfter after
  made after n floats numbers near fewer = record {
    boxes = r.boxes;
    strut = r.strut;
    high = r.high;
    reaches = r.reaches;
    strut_reaches = r.strut_reaches;
    low = r.low;
    tall_near = r.tall_near;
    most = n;
    floats = floats;
    numbers = numbers;
    widths = let one = ap weight split in let two = weight_joined items (joined_parts full.1) in let w = r.widths in omega arith;
    room = let room = r.room in let more = times_more (length (joined_parts full.1)) (length all) (2 * r.high) (omega arith) in
        fit n (floats_reach c (float_boxes (bare (joined_parts full.1)))) reached (2 * r.high) (length (joined_parts full.1) * (2 * r.high)) (length all * (2 * r.high)) (2 ^ 95) near more room;
  }
    where
      fit : (n left reached high some every limit : ℕ) → n + left ≤ reached + high → some + high ≤ every → reached + every ≤ limit → n + left + some ≤ limit
      fit n left reached high some every limit p q l = omega arith

  after_full : length (joined_parts full.1) < length all → RestAfter (full_line c now slot full.0 items).after
  unfolding full_line
  after_full fewer = made _ late.most late.floats late.numbers late_room fewer
    where
      m : MetFits (on_slot c reached now.floats slot) full.0.met (float_boxes (bare (joined_parts full.1)))
      m = full_fits.met

      least : ℤ
      least = int_max now.least slot.top

      bottom : ℤ
      bottom = slot.top +ℤ height_of_extent full.0.extent

      met : Met
      met = record { spots = full.0.met.spots; floats = full.0.met.floats; waiting = [] }

      high : ℕ
      high = m.most + 2 * r.high

      starts : MetFits (ground_at c (high + floats_reach c full.0.met.waiting) now.floats least bottom) met (full.0.met.waiting ++ [])
      starts = record {
        most = high;
        floats = floats_more m.most high full.0.met.floats (omega arith) m.floats;
        numbers = let p = m.numbers.0 in let q = m.numbers.1.0 in let s = m.numbers.1.1.0 in let t = m.numbers.1.1.1.0 in let a = full_fits.extent.0 in let b = full_fits.extent.1.0 in
            (omega arith, (omega arith, (max_within high now.least slot.top (omega arith) (omega arith), (omega (arith, ints), tt))));
        more = m.more;
        front = m.front;
        spots = m.spots;
        room = let none = ap (floats_reach c) (append-nil full.0.met.waiting) in omega arith;
      }

      limit : high + floats_reach c full.0.met.waiting ≤ 2 ^ 99
      limit = let room = m.room in let l = r.low in let all_room = r.room in omega arith

      late : MetFits (ground_at c (high + floats_reach c full.0.met.waiting) now.floats least bottom) (placed_all c least bottom met full.0.met.waiting) []
      late = all_placed c (high + floats_reach c full.0.met.waiting) limit now.floats least bottom met full.0.met.waiting [] starts

      late_room : late.most + floats_reach c (float_boxes (bare (joined_parts full.1))) ≤ reached + 2 * r.high
      late_room = let room = m.room in let l = late.room in omega arith

  after_empty : length (joined_parts full.1) < length all → RestAfter (empty_line c now full.0 items).after
  unfolding empty_line
  after_empty fewer = subst (λ fs. RestAfter (record { y = now.y; least = now.least; floats = (placed_all c now.least now.y (no_floats fs) (float_boxes (bare items))).floats; opened = full.0.opened; baseline = now.baseline }))
      (sym begun_again) (made _ again.most again.floats again.numbers again_room fewer)
    where
      starts : MetFits (ground_at c reached now.floats now.least now.y) (no_floats now.floats) (float_boxes (bare items) ++ float_boxes (bare (joined_parts full.1)))
      starts = record {
        most = r.most;
        floats = r.floats;
        numbers = r.numbers;
        more = [];
        front = sym (append-nil now.floats);
        spots = tt;
        room = let s = split_boxes in let j = reach_joined c (float_boxes (bare items)) (float_boxes (bare (joined_parts full.1))) in omega arith;
      }

      again : MetFits (ground_at c reached now.floats now.least now.y) (placed_all c now.least now.y (no_floats now.floats) (float_boxes (bare items))) (float_boxes (bare (joined_parts full.1)))
      again = all_placed c reached within_limit now.floats now.least now.y (no_floats now.floats) (float_boxes (bare items)) (float_boxes (bare (joined_parts full.1))) starts

      again_room : again.most + floats_reach c (float_boxes (bare (joined_parts full.1))) ≤ reached + 2 * r.high
      again_room = let room = again.room in omega arith

  after_ended : length (joined_parts full.1) < length all → RestAfter (ended_line c now slot full.0 items).after
  unfolding ended_line
  after_ended fewer = by full.0.is_line
    where
      by : (b : Bool) → RestAfter (cond b (full_line c now slot full.0 items) (empty_line c now full.0 items)).after
      by true = after_full fewer
      by false = after_empty fewer

  -- fewer are left where the first segment has an item
  pub fewer_left : length (joined_parts rest) < length all → length (joined_parts full.1) < length all
  fewer_left l =
      let front = left_behind c slot load rest in
      let same = ap length front.1 ∙ length-append front.0 (joined_parts full.1) in
      omega arith

  pub rest_fits : length (joined_parts rest) < length all → RestFits c tall (next_in c tall now first rest).0.after (joined_parts (next_in c tall now first rest).1)
  unfolding next_in
  rest_fits l = after_ended (fewer_left l)

-- ---- all lines begin

module _ (c : InlineContext) (y least : ℤ) (floats : List FloatBox) where
  pub y_small : LinesFit c y least floats → IsSmall y
  y_small l = let w = l.rest.numbers.1.1.1.0 in let room = l.rest.room in omega arith

  pub least_begins_small : LinesFit c y least floats → IsSmall least
  least_begins_small l = let w = l.rest.numbers.1.1.0 in let room = l.rest.room in omega arith

  pub tallest_fits : (items : List Item) → LinesFit c y least floats
      → InlineFits c.tree c.world (node_of c.tree c.container) × (BoxesReach c × AllSmall (height_of_extent (reaching c (strut_in c) items) ∷ pos 1 ∷ []))
  tallest_fits items l = (l.rest.strut, (λ at. (l.rest.boxes at).reach, (both (items_high c l.rest.high l.rest.reaches (strut_in c) items l.rest.strut_reaches), (one, tt))))
    where
      both : AllWithin l.rest.high ((reaching c (strut_in c) items).above ∷ (reaching c (strut_in c) items).below ∷ []) → IsSmall (height_of_extent (reaching c (strut_in c) items))
      both w = let a = w.0 in let b = w.1.0 in let low = l.rest.low in omega (arith, ints)

      one : IsSmall (pos 1)
      one = omega (arith, ints)
