-- How much a line holds of measured items, segment by segment.
use Rattle.std.specs.Prelude.{◌≡◌, ◌<◌, ℕ, suc, ℤ, pos, Bool, false, cond, not, ◌&&◌, ◌||◌, List, [], ◌∷◌, ◌++◌, length, map, Option, Some, None}
use Rattle.std.specs.Int.{int_max}
use Rattle.std.specs.List.{list_any, onto_first}
use Rattle.layout_semantics.specs.InlineContent.{Item, start, atomic, float_boxes}
use Rattle.layout_semantics.specs.Segments.{is_forced}
use Rattle.layout_semantics.specs.LineHeights.{InlineContext, LineExtent, height_of_extent}
use Rattle.layout_semantics.specs.LineFilling.{Met, fits}
use Rattle.layout_semantics.specs.Lines.{opened_after}
use Rattle.lay_line.specs.steps.Filling.{with_extent}
use Rattle.lay_line.specs.steps.Held.{Held}
use Rattle.lay_line.specs.steps.Measured.{Measured, held_with}
use Rattle.lay_line.specs.steps.Meeting.{Slot, met_all}
use Rattle.lay_line.specs.steps.Words.{reach_in, strut_in, makes, room_in}

-- ---- parts

abbrev pub parted_by : {A : Type 0} → A → Bool → List (List A) → List (List A)
parted_by x b parts = cond b ((x ∷ []) ∷ parts) (onto_first x parts)

-- a list in the parts that marks make
abbrev pub parts_of : {A : Type 0} → List A → List Bool → List (List A)
parts_of [] marks = []
parts_of (x ∷ xs) [] = parted_by x false (parts_of xs [])
parts_of (x ∷ xs) (m ∷ marks) = parted_by x m (parts_of xs marks)

-- how many items there are up to the first mark, n being behind
abbrev pub mark_from : ℕ → List Bool → Option ℕ
mark_from n [] = None
mark_from n (m ∷ marks) = cond m (Some (suc n)) (mark_from (suc n) marks)

-- the first part of a list, and what is behind it
pub record IsFirst {A : Type 0} (xs : List A) (marks : List Bool) (first rest : List A) (left : List Bool)
    : Type 0 where
  pub parts : parts_of xs marks ≡ first ∷ parts_of rest left
  pub joined : xs ≡ first ++ rest
  pub shorter : length rest < length xs

abbrev pub bare : List Measured → List Item
bare ms = map (λ (m : Measured). m.item) ms

-- ---- heights

-- the box that an item extends a line by
abbrev pub extending : Item → Option ℕ
extending (start at) = Some at
extending (atomic at) = Some at
extending _ = None

unfoldable pub with_reach : InlineContext → LineExtent → ℕ → LineExtent
with_reach c e at = with_extent e (reach_in c at)

abbrev pub with_reach_of : InlineContext → LineExtent → Option ℕ → LineExtent
with_reach_of c e None = e
with_reach_of c e (Some at) = with_reach c e at

abbrev pub reaching : InlineContext → LineExtent → List Item → LineExtent
reaching c e [] = e
reaching c e (i ∷ items) = reaching c (with_reach_of c e (extending i)) items

abbrev pub reaching_boxes : InlineContext → LineExtent → List ℕ → LineExtent
reaching_boxes c e [] = e
reaching_boxes c e (at ∷ boxes) = reaching_boxes c (with_reach c e at) boxes

unfoldable pub tallest_by : InlineContext → List Item → ℤ
tallest_by c items = int_max (pos 1) (height_of_extent (reaching c (strut_in c) items))

-- ---- open inline boxes

abbrev pub opened_by : List ℕ → List Item → List ℕ
opened_by opened [] = opened
opened_by opened (i ∷ items) = opened_by (opened_after opened i) items

-- ---- a line

abbrev pub has_forced : List Item → Bool
has_forced items = list_any is_forced items

abbrev pub has_maker : InlineContext → List Item → Bool
has_maker c items = list_any (makes c.tree) items

-- what a line holds so far: its width, whether a forced break is among it and whether something makes the
-- line exist, the floats met, how far it reaches, and the inline boxes that are open behind it
pub record Load : Type 0 where
  pub held : Held
  pub is_ended : Bool
  pub is_line : Bool
  pub met : Met
  pub extent : LineExtent
  pub opened : List ℕ

-- with one segment more, which has come to this width, and at whose end these floats are met
unfoldable pub loaded : InlineContext → Slot → Load → List Item → List ℕ → Held → Load
loaded c slot f part floats held = record {
  held = held;
  is_ended = f.is_ended || has_forced part;
  is_line = f.is_line || has_maker c part;
  met = met_all c slot held.width f.met floats;
  extent = reaching c f.extent part;
  opened = opened_by f.opened part;
}

-- a later segment stands on the line where no forced break stands before it, and it fits beside the floats met so far
unfoldable pub takes_more : InlineContext → Slot → Load → Held → Bool
takes_more c slot f held = not f.is_ended && fits held.width (room_in c f.met.floats slot.top slot.tall)

-- segments one by one, and those that are left
abbrev pub loading : InlineContext → Slot → Load → List (List Measured) → Load × List (List Measured)
loading c slot f [] = (f, [])
loading c slot f (part ∷ parts) = cond (takes_more c slot f (held_with f.held part))
    (loading c slot (loaded c slot f (bare part) (float_boxes (bare part)) (held_with f.held part)) parts)
    (f, part ∷ parts)

-- how many items stand before the first that makes the line exist
abbrev pub ahead_by : (Item → Bool) → List Item → ℕ
ahead_by test [] = 0
ahead_by test (i ∷ items) = cond (test i) 0 (suc (ahead_by test items))

unfoldable pub ahead : InlineContext → List Item → ℕ
ahead c items = ahead_by (makes c.tree) items
