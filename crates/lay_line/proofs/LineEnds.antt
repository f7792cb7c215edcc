-- A line that ends, from what it is made of.
use Rattle.std.proofs.Common.{◌≡◌, ℕ, ℤ, ◌+ℤ◌, true, false, cond, List, [], ◌∷◌, ◌++◌, length, take, Some, sym, ap, ◌∙◌, append_assoc}
use Rattle.std.specs.Int.{int_max}
use Rattle.viz_base.specs.declared.layouts.Band.{Band}
use Rattle.viz_base.specs.declared.layouts.Entry.{Entry}
use Rattle.layout_semantics.specs.Floats.{FloatBox}
use Rattle.layout_semantics.specs.Fragments.{float_entries}
use Rattle.layout_semantics.specs.InlineContent.{float_boxes}
use Rattle.layout_semantics.specs.LineFilling.{Met}
use Rattle.layout_semantics.specs.LineHeights.{InlineContext, height_of_extent}
use Rattle.layout_semantics.specs.Lines.{SoFar, LaidLines}
use Rattle.lay_line.specs.Lining.{late_in}
use Rattle.lay_line.specs.steps.Lining.{no_floats, left_in, places_of, entries_in, box_in, full_line, empty_line, ended_line}
use Rattle.lay_line.specs.steps.Loading.{Load, bare}
use Rattle.lay_line.specs.steps.Measured.{Measured}
use Rattle.lay_line.specs.steps.Meeting.{Slot, placed_all}
use Rattle.lay_line.specs.steps.Words.{room_in}

-- an entry, and then others
pub entries-then : (old mid new rest : List (Entry ℤ)) (first is : Entry ℤ) → mid ≡ old ++ first ∷ [] → first ≡ is → new ≡ mid ++ rest → new ≡ old ++ is ∷ rest
entries-then old mid new rest first is m f n = n ∙ (ap (λ l. l ++ rest) m ∙ (append_assoc old (first ∷ []) rest ∙ ap (λ x. old ++ x ∷ rest) f))

module _ (c : InlineContext) (now : SoFar) (slot : Slot) (f : Load) (items : List Measured) where
  pub ended-full : f.is_line ≡ true → full_line c now slot f items ≡ ended_line c now slot f items
  unfolding ended_line
  ended-full t = sym (ap (λ b. cond b (full_line c now slot f items) (empty_line c now f items)) t)

  pub ended-empty : f.is_line ≡ false → empty_line c now f items ≡ ended_line c now slot f items
  unfolding ended_line
  ended-empty t = sym (ap (λ b. cond b (full_line c now slot f items) (empty_line c now f items)) t)

-- what the end of a line is made of
pub record LineEnd : Type 0 where
  pub bottom : ℤ
  pub least : ℤ
  pub room : Band ℤ
  pub late : Met
  pub left : ℤ
  pub baseline : ℤ

module _ (c : InlineContext) (now : SoFar) (f : Load) (items : List Measured) where
  abbrev pub full_of : Slot → LineEnd → LaidLines
  full_of slot end = record {
    after = record { y = end.bottom; least = end.least; floats = end.late.floats; opened = f.opened; baseline = Some end.baseline };
    entries = box_in c end.room slot.top end.bottom
        ∷ entries_in c (record { baseline = end.baseline; left = end.left; right = end.left +ℤ f.held.width; places = places_of end.left items; spots = end.late.spots }) now.opened;
  }

  pub full-is : (slot : Slot) (end : LineEnd)
      → end.bottom ≡ slot.top +ℤ height_of_extent f.extent → end.least ≡ int_max now.least slot.top → end.room ≡ room_in c f.met.floats slot.top slot.tall
      → end.late ≡ late_in c end.least end.bottom f.met → end.left ≡ left_in c end.room f.held.width → end.baseline ≡ slot.top +ℤ f.extent.above
      → full_of slot end ≡ full_line c now slot f items
  unfolding full_line
  full-is slot end b l r t x y =
      ap (λ k. full_of slot (record end { baseline = k })) y
      ∙ (ap (λ k. full_of slot (record end { left = k; baseline = base })) x
      ∙ (ap (λ k. full_of slot (record end { late = k; left = left_in c end.room f.held.width; baseline = base })) t
      ∙ (ap (λ k. full_of slot (record end { room = k; late = late_in c end.least end.bottom f.met; left = left_in c k f.held.width; baseline = base })) r
      ∙ (ap (λ k. full_of slot (in_room end.bottom k)) l ∙ ap (λ k. full_of slot (in_room k (int_max now.least slot.top))) b))))
    where
      base : ℤ
      base = slot.top +ℤ f.extent.above

      room : Band ℤ
      room = room_in c f.met.floats slot.top slot.tall

      in_room : (bottom least : ℤ) → LineEnd
      in_room bottom least = record { bottom = bottom; least = least; room = room; late = late_in c least bottom f.met; left = left_in c room f.held.width; baseline = base }

  abbrev pub empty_of : Met → LaidLines
  empty_of met = record { after = record { y = now.y; least = now.least; floats = met.floats; opened = f.opened; baseline = now.baseline }; entries = float_entries met.spots }

  pub empty-is : (floats : List FloatBox) (boxes : List ℕ) (met : Met) → floats ≡ take (length now.floats) f.met.floats → boxes ≡ float_boxes (bare items)
      → met ≡ placed_all c now.least now.y (no_floats floats) boxes → empty_of met ≡ empty_line c now f items
  unfolding empty_line
  empty-is floats boxes met fs bs m =
      ap empty_of m
      ∙ (ap (λ l. empty_of (placed_all c now.least now.y (no_floats floats) l)) bs
      ∙ ap (λ l. empty_of (placed_all c now.least now.y (no_floats l) (float_boxes (bare items)))) fs)
