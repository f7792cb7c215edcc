-- What the end of a line computes fits.
use Rattle.std.proofs.Common.{ℕ, ◌*◌, ◌≤◌, ◌^◌, ℤ, ◌+ℤ◌, List, [], ◌∷◌, ◌++◌, take, sym, ap, append-nil, arith}
use Rattle.std.specs.Int.{int_max}
use Rattle.std.proofs.lemmas.Int.{ints}
use Rattle.viz_base.specs.declared.layouts.Band.{Band}
use Rattle.viz_calc.specs.State.{IsSmall, AllSmall}
use Rattle.layout_semantics.specs.Floats.{meets}
use Rattle.layout_semantics.specs.InlineContent.{float_boxes}
use Rattle.layout_semantics.specs.LineFilling.{Met}
use Rattle.layout_semantics.specs.LineHeights.{InlineContext, height_of_extent}
use Rattle.layout_semantics.specs.Lines.{align_of}
use Rattle.lay_float.specs.Limits.{AreHalf}
use Rattle.lay_line.specs.Limits.{floats_reach, PlacesFit}
use Rattle.lay_line.specs.LineFits.{OnLine, SpotsOnLine, ContentFits}
use Rattle.lay_line.specs.LinesFit.{Start, EndFits}
use Rattle.lay_line.specs.steps.Lining.{no_floats, left_in}
use Rattle.lay_line.specs.steps.Loading.{Load, bare}
use Rattle.lay_line.specs.steps.Measured.{Measured}
use Rattle.lay_line.specs.steps.Meeting.{Slot, placed_all}
use Rattle.lay_line.specs.steps.Words.{room_in}
use Rattle.lay_line.proofs.Growth.{ground_at, MetFits, all_placed, floats_more}
use Rattle.lay_line.proofs.OnLines.{all_small, begin_within}
use Rattle.lay_line.proofs.Placing.{Within, max_within, more_within, all_half, room_within}

module _ (c : InlineContext) (start : Start) (slot : Slot) (f : Load) (items : List Measured) (fits : EndFits c start slot f items) where
  abbrev bottom : ℤ
  bottom = slot.top +ℤ height_of_extent f.extent

  abbrev room : Band ℤ
  room = room_in c f.met.floats slot.top slot.tall

  abbrev late : Met
  late = placed_all c (int_max start.least slot.top) bottom (record { spots = f.met.spots; floats = f.met.floats; waiting = [] }) f.met.waiting

  pub high_small : IsSmall (height_of_extent f.extent)
  high_small = let a = fits.numbers.1.1.1.1.1.0 in let b = fits.numbers.1.1.1.1.1.1.0 in omega (arith, ints)

  bottom_within : Within (2 ^ 97) bottom
  bottom_within = let t = fits.numbers.1.1.1.0 in let a = fits.numbers.1.1.1.1.1.0 in let b = fits.numbers.1.1.1.1.1.1.0 in omega (arith, ints)

  pub bottom_small : IsSmall bottom
  bottom_small = let w = bottom_within in omega arith

  pub room_half : AreHalf f.met.floats (c.cb.left ∷ c.cb.right ∷ slot.top ∷ slot.tall ∷ [])
  room_half = record {
    edges = λ g i. all_half (2 ^ 95) (g.box.left ∷ g.box.top ∷ g.box.right ∷ g.box.bottom ∷ []) (omega arith) (fits.floats g i);
    numbers = all_half (2 ^ 95) (c.cb.left ∷ c.cb.right ∷ slot.top ∷ slot.tall ∷ []) (omega arith)
        (fits.numbers.0, (fits.numbers.1.0, (fits.numbers.1.1.1.0, (fits.numbers.1.1.1.1.0, tt))));
  }

  pub top_small : AllSmall (slot.top ∷ [])
  top_small = all_small (2 ^ 95) (slot.top ∷ []) (omega arith) (fits.numbers.1.1.1.0, tt)

  late_starts : MetFits (ground_at c (2 ^ 99) f.met.floats (int_max start.least slot.top) bottom) (record { spots = f.met.spots; floats = f.met.floats; waiting = [] }) (f.met.waiting ++ [])
  late_starts = record {
    most = 2 ^ 97;
    floats = floats_more (2 ^ 95) (2 ^ 97) f.met.floats (omega arith) fits.floats;
    numbers = let p = fits.numbers.0 in let q = fits.numbers.1.0 in let l = fits.numbers.1.1.0 in let t = fits.numbers.1.1.1.0 in let b = bottom_within in (omega arith, (omega arith, (max_within (2 ^ 97) start.least slot.top (omega arith) (omega arith), (b, tt))));
    more = [];
    front = sym (append-nil f.met.floats);
    spots = fits.spots;
    room = let none = ap (floats_reach c) (append-nil f.met.waiting) in let w = fits.waiting in omega arith;
  }

  pub late_places : PlacesFit c f.met.floats (int_max start.least slot.top) bottom f.met.waiting
  late_places = record {
    most = late_starts.most;
    floats_within = late_starts.floats;
    numbers = late_starts.numbers;
    room = let room = late_starts.room in let none = ap (floats_reach c) (append-nil f.met.waiting) in omega arith;
  }

  late_spots : SpotsOnLine late.spots
  late_spots = (all_placed c (2 ^ 99) (omega arith) f.met.floats (int_max start.least slot.top) bottom (record { spots = f.met.spots; floats = f.met.floats; waiting = [] }) f.met.waiting [] late_starts).spots

  room_near : Within (2 ^ 95) room.left × Within (2 ^ 95) room.right
  unfolding room_in
  room_near = room_within (2 ^ 95) f.met.floats fits.floats c.cb (meets slot.top slot.tall) fits.numbers.0 fits.numbers.1.0

  pub box_small : AllSmall (room.left ∷ slot.top ∷ room.right ∷ bottom ∷ [])
  box_small = let l = room_near.0 in let r = room_near.1 in let t = fits.numbers.1.1.1.0 in let b = bottom_within in (omega arith, (omega arith, (omega arith, (omega arith, tt))))

  pub baseline_small : IsSmall (slot.top +ℤ f.extent.above)
  baseline_small = let t = fits.numbers.1.1.1.0 in let a = fits.numbers.1.1.1.1.1.0 in omega (arith, ints)

  pub begin_on_line : OnLine (room.left ∷ room.right ∷ f.held.width ∷ [])
  begin_on_line = more_within (2 ^ 95) (2 ^ 98) (room.left ∷ room.right ∷ f.held.width ∷ []) (omega arith) (room_near.0, (room_near.1, (fits.numbers.1.1.1.1.1.1.1.0, tt)))

  pub content_fits : ContentFits (slot.top +ℤ f.extent.above) (left_in c room f.held.width) f.held.width late.spots items
  unfolding left_in
  content_fits = record {
    numbers = (
      (let t = fits.numbers.1.1.1.0 in let a = fits.numbers.1.1.1.1.1.0 in omega (arith, ints)),
      (
        at_most (begin_within room.left room.right f.held.width (align_of c.tree c.container) (2 ^ 95) room_near.0 room_near.1 fits.numbers.1.1.1.1.1.1.1.0),
        ((let w = fits.numbers.1.1.1.1.1.1.1.0 in omega arith), tt),
      ),
    );
    widths = let w = fits.widths in omega arith;
    on_line = late_spots;
  }
    where
      at_most : {a : ℕ} → a ≤ 4 * 2 ^ 95 → a ≤ 2 ^ 97
      at_most w = omega arith

  pub empty_spots : SpotsOnLine (placed_all c start.least start.y (no_floats (take start.floats f.met.floats)) (float_boxes (bare items))).spots
  empty_spots = (all_placed c (2 ^ 99) (omega arith) (take start.floats f.met.floats) start.least start.y (no_floats (take start.floats f.met.floats)) (float_boxes (bare items)) [] starts).spots
    where
      starts : MetFits (ground_at c (2 ^ 99) (take start.floats f.met.floats) start.least start.y) (no_floats (take start.floats f.met.floats)) (float_boxes (bare items) ++ [])
      starts = record {
        most = fits.empty.most;
        floats = fits.empty.floats_within;
        numbers = fits.empty.numbers;
        more = [];
        front = sym (append-nil (take start.floats f.met.floats));
        spots = tt;
        room = let none = ap (floats_reach c) (append-nil (float_boxes (bare items))) in let r = fits.empty.room in omega arith;
      }
