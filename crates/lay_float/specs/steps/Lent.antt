-- Numbers that are lent, at a reading.
use Rattle.std.specs.Prelude.{ℤ, List, Option, option_map, IsTrue}
use denote.Ref.{Bor}
use Rattle.viz_base.specs.declared.layouts.Band.{Band}
use Rattle.viz_base.specs.declared.styles.Side.{Side}
use Rattle.viz_calc.specs.World.{Reading}
use Rattle.viz_calc.specs.State.{IsSmall}
use Rattle.viz_calc.specs.Run.{Run}
use Rattle.viz_calc.specs.Renderings.{band_at}
use Rattle.lay_float.specs.Readings.{boxes_at}
use Rattle.lay_float.specs.declared.floats.PlacedFloat.{PlacedFloat}
use Rattle.lay_float.specs.steps.Shelves as steps
use Rattle.lay_float.specs.steps.Shelves.{far_edge, shelf_on}
use Rattle.lay_float.specs.steps.Brackets as brackets
use Rattle.lay_float.specs.steps.Brackets.{IsBracket}
use Rattle.lay_float.specs.declared.bands.Room.{Room}
use Rattle.lay_float.specs.declared.engine.Ahead.{Ahead}
use Rattle.lay_float.specs.declared.brackets.Bracket.{Bracket}
use Rattle.lay_float.specs.declared.brackets.Wanted.{Wanted}
use Rattle.lay_float.specs.declared.shelves.Shelf.{Shelf}
use Rattle.lay_float.specs.declared.shelves.Place.{Place}

-- a number, where there is one
abbrev pub lent_at : {N : Type 0} → (N → Reading → ℤ) → Option (Bor N) → Reading → Option ℤ
lent_at at n e = option_map (λ n. at n.now e) n

abbrev pub shelf_at : {N : Type 0} → (N → Reading → ℤ) → Shelf N → Reading → steps.Shelf
shelf_at at s e = record { edge = at s.edge.now e; limit = lent_at at s.limit e; is_bounded = s.is_bounded }

abbrev pub place_at : {N : Type 0} → (N → Reading → ℤ) → Place N → Reading → steps.Place
place_at at p e = record { top = at p.top.now e; edge = at p.edge.now e }

abbrev pub ahead_at : {N : Type 0} → (N → Reading → ℤ) → Ahead N → Reading → steps.Ahead
ahead_at at a e = record { high = at a.high.now e; rest = boxes_at at a.rest.now e }

abbrev pub bracket_at : {N : Type 0} → (N → Reading → ℤ) → Bracket N → Reading → brackets.Bracket
bracket_at at b e = record { taken = at b.taken.now e; found = option_map (λ p. place_at at p e) b.found }

-- a bracket for the float that is wanted
abbrev pub IsBracketFor : {N : Type 0} → (N → Reading → ℤ) → Wanted N → Reading → ℤ → brackets.Bracket → Type 0
IsBracketFor at w e high b =
    IsBracket (boxes_at at w.floats.now e) w.side (at w.width.now e) (band_at at w.cb.now e) high b

-- where the one is a bracket for the float that is wanted, so is the other
abbrev pub KeepsBrackets : {N : Type 0} → (N → Reading → ℤ) → Wanted N → Reading → brackets.Bracket
    → brackets.Bracket → Type 0
KeepsBrackets at w e old new = (high : ℤ) → IsBracketFor at w e high old → IsBracketFor at w e high new

-- at whatever top a float stands, its other edge is at most 2^100 in size
abbrev pub FitsAnywhere : {N : Type 0} → Run → (N → Reading → ℤ) → List (PlacedFloat N) → Side → Band N → N → Type 0
FitsAnywhere s at floats side cb width = (e : Reading) → IsTrue (s.is_open e) → (y : ℤ)
    → IsSmall (far_edge side (shelf_on (boxes_at at floats e) side (band_at at cb e) y).edge (at width e))

abbrev pub room_at : {N : Type 0} → (N → Reading → ℤ) → Room N → Reading → Band ℤ
room_at at r e = record { left = at r.left.now e; right = at r.right.now e }
