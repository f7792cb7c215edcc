-- What a line holds, and where its items stand, stays within the sizes of its pieces.
use Rattle.std.proofs.Common.{◌≡◌, ℕ, ◌+◌, ◌<◌, ◌≤◌, ℤ, pos, ◌+ℤ◌, Bool, true, false, cond, unsigned_abs, List, [], ◌∷◌, drop, get_or, length, sym, ap, ◌∙◌, arith}
use Rattle.std.proofs.lemmas.Int.{ints}
use Rattle.std.proofs.lemmas.List.{at_drop_more}
use Rattle.viz_calc.specs.World.{Reading}
use Rattle.layout_semantics.specs.InlineContent.{Item, start, finish, word, space, atomic, forced, float}
use Rattle.lay_line.specs.Limits.{AllWithin, weight, held_size}
use Rattle.lay_line.specs.Readings.{pieces_at}
use Rattle.lay_line.specs.Ways.{solid_way, other_way, item_way}
use Rattle.lay_line.specs.declared.held.Piece.{Piece}
use Rattle.lay_line.specs.steps.Held.{Held, with_solid, with_other, with_item}
use Rattle.lay_line.specs.steps.Measured.{Measured, Row, row_with, row_after}
use Rattle.lay_line.specs.steps.Staying.{stays, is_some_left, fewer}

-- ---- an item more

module _ (m : ℕ) (w : ℤ) (h : Held) (fits : held_size h + unsigned_abs w ≤ m) where
  solid_within : AllWithin m (solid_way w h)
  solid_within = (omega (arith, ints), (omega (arith, ints), (omega (arith, ints), tt)))

  space_within : (b : Bool) → AllWithin m (cond b ((h.spaces +ℤ w) ∷ []) (pos 0 ∷ []))
  space_within true = (omega (arith, ints), tt)
  space_within false = (omega (arith, ints), tt)

  other_within : AllWithin m (other_way w h)
  other_within = (omega (arith, ints), tt)

  pub item_within : (i : Item) → AllWithin m (item_way w h i)
  item_within (word at text) = solid_within
  item_within (atomic at) = solid_within
  item_within (space at) = space_within h.begun
  item_within (start at) = other_within
  item_within (finish at) = other_within
  item_within (forced at) = other_within
  item_within (float at) = other_within

module _ (w : ℤ) (h : Held) where
  solid_grows : held_size (with_solid w h) ≤ held_size h + unsigned_abs w
  solid_grows = omega (arith, ints)

  space_grows : (b : Bool) → unsigned_abs h.width + unsigned_abs (cond b (h.spaces +ℤ w) (pos 0)) ≤ held_size h + unsigned_abs w
  space_grows true = omega (arith, ints)
  space_grows false = omega (arith, ints)

  other_grows : held_size (with_other w h) ≤ held_size h + unsigned_abs w
  other_grows = omega (arith, ints)

  pub item_grows : (i : Item) → held_size (with_item (λ j. w) h i) ≤ held_size h + unsigned_abs w
  item_grows (word at text) = solid_grows
  item_grows (atomic at) = solid_grows
  item_grows (space at) = space_grows h.begun
  item_grows (start at) = other_grows
  item_grows (finish at) = other_grows
  item_grows (forced at) = other_grows
  item_grows (float at) = other_grows

-- ---- a piece more

pub weight_next : {N : Type 0} (at : N → Reading → ℤ) (e : Reading) (ps : List (Piece N)) (k : ℕ) (p : Piece N) → k < length ps → p ≡ get_or ps k p
    → weight (pieces_at at (drop k ps) e) ≡ unsigned_abs (at p.width e) + weight (pieces_at at (drop (k + 1) ps) e)
weight_next at e ps k p lt is =
    at_drop_more (λ l. weight (pieces_at at l e)) ps k p lt
    ∙ ap (λ (q : Piece _). unsigned_abs (at q.width e) + weight (pieces_at at (drop (k + 1) ps) e)) (sym is)

pub room_for : (m h w rest all total : ℕ) → all ≡ w + rest → h + all ≤ total → total ≤ m → h + w ≤ m
room_for m h w rest all total is le fits = omega arith

pub room_left : (h next w rest all total : ℕ) → all ≡ w + rest → next ≤ h + w → h + all ≤ total → next + rest ≤ total
room_left h next w rest all total is grows le = omega arith

-- ---- a row

pub stand_within : (m : ℕ) (x w : ℤ) → unsigned_abs x + unsigned_abs w ≤ m → AllWithin m (x ∷ (x +ℤ w) ∷ [])
stand_within m x w fits = (omega (arith, ints), (omega (arith, ints), tt))

pub row_grows : (r : Row) (p : Measured) → unsigned_abs (row_after r p).x ≤ unsigned_abs r.x + unsigned_abs p.width
row_grows r p = by (stays r.begun (is_some_left (fewer r.left)) p.item)
  where
    by : (b : Bool) → unsigned_abs (cond b (row_with (record r { left = fewer r.left }) p) (record r { left = fewer r.left })).x ≤ unsigned_abs r.x + unsigned_abs p.width
    by true = omega (arith, ints)
    by false = omega (arith, ints)
