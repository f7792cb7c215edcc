-- The steps over measured items are those over items.
use Rattle.std.proofs.Common.{◌≡◌, ℕ, zero, suc, ◌+◌, ℤ, Bool, true, false, not, cond, List, [], ◌∷◌, map, length, take, drop, fold, Option, Some, None, refl, sym, ap, ◌∙◌, arith}
use Rattle.std.specs.Prelude.{◌&&◌, ◌||◌, int_lt}
use Rattle.std.specs.Int.{int_min}
use Rattle.std.specs.List.{list_any, before_first, prefix_len}
use Rattle.std.proofs.lemmas.Int.{ints, clamps}
use Rattle.layout_semantics.specs.Floats.{FloatBox, band_at, meets}
use Rattle.layout_semantics.specs.InlineContent.{Item, start, finish, word, space, atomic, forced, float, float_boxes, makes_line}
use Rattle.layout_semantics.specs.LineHeights.{InlineContext, LineExtent, strut}
use Rattle.layout_semantics.specs.LineFilling.{Met, Line, fits, meet, none_waits, leaves_room, line_spot, with_spot, with_waiting, place_each, item_width, before_line, from_line_on}
use Rattle.layout_semantics.specs.Lines.{opened_after}
use Rattle.layout_laws.specs.Standing.{may_stand}
use Rattle.lay_line.specs.steps.Held.{Held, with_items}
use Rattle.lay_line.specs.steps.Filling.{Filled, with_segment, takes, past, filled, with_item_box, with_box, extent_at_start}
use Rattle.lay_line.specs.steps.Loading.{Load, bare, with_reach, reaching, reaching_boxes, opened_by, has_forced, has_maker, loaded, takes_more, loading, ahead_by, ahead}
use Rattle.lay_line.specs.steps.Measured.{Measured, measured}
use Rattle.lay_line.specs.steps.Meeting.{Slot, placed_next, placed_all, met_next, met_all, stands_at, top_in}
use Rattle.lay_line.specs.steps.Tops.{lower, with_float, top_or, top_found}
use Rattle.lay_line.specs.steps.Words.{own_reach, raised, reach_in, strut_in, makes, spot_in, floats_with, room_in}
use Rattle.lay_line.proofs.Fills.{drop-next}
use Rattle.lay_line.proofs.Measures.{held-same}
use Rattle.lay_line.proofs.Parts.{bare-measured}

-- ---- floats

pub placed-same : (c : InlineContext) (least y : ℤ) (met : Met) (boxes : List ℕ) → placed_all c least y met boxes ≡ place_each c least y met boxes
unfolding placed_next spot_in floats_with
placed-same c least y met [] = refl
placed-same c least y met (at ∷ boxes) = placed-same c least y (placed_next c least y met at) boxes

abbrev pub slot_of : Line → Slot
slot_of line = record { top = line.top; tall = line.tall; least = line.least }

met-next : (c : InlineContext) (line : Line) (held : ℤ) (met : Met) (at : ℕ) → met_next c (slot_of line) held met at ≡ meet c line held met at
unfolding met_next spot_in floats_with room_in
met-next c line held met at = by (none_waits met) (leaves_room c line held met at (line_spot c met.floats line.least line.top at))
  where
    by : (a b : Bool) → cond a (cond b (with_spot c met at (line_spot c met.floats line.least line.top at)) (with_waiting met at)) (with_waiting met at)
        ≡ cond (a && b) (with_spot c met at (line_spot c met.floats line.least line.top at)) (with_waiting met at)
    by true b = refl
    by false b = refl

pub met-same : (c : InlineContext) (line : Line) (held : ℤ) (met : Met) (boxes : List ℕ) → met_all c (slot_of line) held met boxes ≡ fold (meet c line held) met boxes
met-same c line held met [] = refl
met-same c line held met (at ∷ boxes) = met-same c line held (met_next c (slot_of line) held met at) boxes ∙ ap (λ m. fold (meet c line held) m boxes) (met-next c line held met at)

-- ---- heights and open boxes

pub reaching-same : (c : InlineContext) (e : LineExtent) (items : List Item) → reaching c e items ≡ fold (with_item_box c) e items
unfolding with_reach reach_in own_reach raised
reaching-same c e [] = refl
reaching-same c e (start at ∷ items) = reaching-same c (with_box c e at) items
reaching-same c e (finish at ∷ items) = reaching-same c e items
reaching-same c e (word at text ∷ items) = reaching-same c e items
reaching-same c e (space at ∷ items) = reaching-same c e items
reaching-same c e (atomic at ∷ items) = reaching-same c (with_box c e at) items
reaching-same c e (forced at ∷ items) = reaching-same c e items
reaching-same c e (float at ∷ items) = reaching-same c e items

boxes-same : (c : InlineContext) (e : LineExtent) (boxes : List ℕ) → reaching_boxes c e boxes ≡ fold (with_box c) e boxes
unfolding with_reach reach_in own_reach raised
boxes-same c e [] = refl
boxes-same c e (at ∷ boxes) = boxes-same c (with_box c e at) boxes

pub start-same : (c : InlineContext) (opened : List ℕ) → reaching_boxes c (strut_in c) opened ≡ extent_at_start c opened
unfolding strut_in
start-same c opened = boxes-same c (strut c) opened

opened-same : (opened : List ℕ) (items : List Item) → opened_by opened items ≡ fold opened_after opened items
opened-same opened [] = refl
opened-same opened (i ∷ items) = opened-same (opened_after opened i) items

maker-same : (c : InlineContext) (items : List Item) → has_maker c items ≡ list_any (makes_line c.tree) items
unfolding makes
maker-same c items = refl

-- ---- one segment

abbrev pub load_of : Filled → Load
load_of f = record { held = f.held; is_ended = f.is_ended; is_line = f.is_line; met = f.met; extent = f.extent; opened = f.opened }

pub loaded-same : (c : InlineContext) (line : Line) (f : Filled) (part : List Item) (floats : List ℕ) (held : Held) → loaded c (slot_of line) (load_of f) part floats held ≡ load_of (with_segment c line f part floats held)
unfolding loaded
loaded-same c line f part floats held =
    ap (λ l. made l (met_all c (slot_of line) held.width f.met floats) (reaching c f.extent part) (opened_by f.opened part)) (ap (λ l. f.is_line || l) (maker-same c part))
    ∙ (ap (λ m. made is_line m (reaching c f.extent part) (opened_by f.opened part)) (met-same c line held.width f.met floats)
    ∙ (ap (λ x. made is_line (fold (meet c line held.width) f.met floats) x (opened_by f.opened part)) (reaching-same c f.extent part)
    ∙ ap (made is_line (fold (meet c line held.width) f.met floats) (fold (with_item_box c) f.extent part)) (opened-same f.opened part)))
  where
    is_line : Bool
    is_line = f.is_line || list_any (makes_line c.tree) part

    made : Bool → Met → LineExtent → List ℕ → Load
    made l m x o = record { held = held; is_ended = f.is_ended || has_forced part; is_line = l; met = m; extent = x; opened = o }

takes-same : (c : InlineContext) (line : Line) (f : Filled) (held : Held) → takes_more c (slot_of line) (load_of f) held ≡ takes c line f held
unfolding takes_more room_in
takes-same c line f held = by f.is_ended (fits held.width (band_at f.met.floats c.cb line.top line.tall))
  where
    by : (a b : Bool) → (not a && b) ≡ (b && not a)
    by true true = refl
    by true false = refl
    by false true = refl
    by false false = refl

-- ---- the segments of a line

-- what is left behind those that it takes
abbrev pub left_by : InlineContext → Line → Filled → List (List Item) → List (List Item)
left_by c line f [] = []
left_by c line f (part ∷ parts) = cond (takes c line f (with_items (item_width c) f.held part))
    (left_by c line (with_segment c line f part (float_boxes part) (with_items (item_width c) f.held part)) parts) (part ∷ parts)

pub loading-same : (c : InlineContext) (line : Line) (f : Filled) (parts : List (List Item))
    → loading c (slot_of line) (load_of f) (map (measured (item_width c)) parts) ≡ (load_of (filled c line f parts), map (measured (item_width c)) (left_by c line f parts))
loading-same c line f [] = refl
loading-same c line f (part ∷ parts) =
    let w = item_width c in
    let more = with_items w f.held part in
    let next = with_segment c line f part (float_boxes part) more in
    ap (λ h. step h (bare (measured w part))) (held-same w f.held part)
    ∙ (ap (step more) (bare-measured w part)
    ∙ (ap (λ b. cond b (loading c (slot_of line) (loaded c (slot_of line) (load_of f) part (float_boxes part) more) (map (measured w) parts)) (load_of f, map (measured w) (part ∷ parts))) (takes-same c line f more)
    ∙ (ap (λ l. cond (takes c line f more) (loading c (slot_of line) l (map (measured w) parts)) (load_of f, map (measured w) (part ∷ parts))) (loaded-same c line f part (float_boxes part) more)
    ∙ by (takes c line f more) (loading-same c line next parts))))
  where
    step : Held → List Item → Load × List (List Measured)
    step h items = cond (takes_more c (slot_of line) (load_of f) h)
        (loading c (slot_of line) (loaded c (slot_of line) (load_of f) items (float_boxes items) h) (map (measured (item_width c)) parts)) (load_of f, map (measured (item_width c)) (part ∷ parts))

    rest : Filled
    rest = with_segment c line f part (float_boxes part) (with_items (item_width c) f.held part)

    by : (b : Bool) → loading c (slot_of line) (load_of rest) (map (measured (item_width c)) parts) ≡ (load_of (filled c line rest parts), map (measured (item_width c)) (left_by c line rest parts))
        → cond b (loading c (slot_of line) (load_of rest) (map (measured (item_width c)) parts)) (load_of f, map (measured (item_width c)) (part ∷ parts))
        ≡ (load_of (past b f (λ next. filled c line next parts) rest), map (measured (item_width c)) (cond b (left_by c line rest parts) (part ∷ parts)))
    by true again = again
    by false again = refl

pub left-same : (c : InlineContext) (line : Line) (f : Filled) (all parts : List (List Item)) → drop f.count all ≡ parts → drop (filled c line f parts).count all ≡ left_by c line f parts
left-same c line f all [] e = e
left-same c line f all (part ∷ parts) e = by (takes c line f (with_items (item_width c) f.held part)) (left-same c line rest all parts (drop-next f.count all part parts e))
  where
    rest : Filled
    rest = with_segment c line f part (float_boxes part) (with_items (item_width c) f.held part)

    by : (b : Bool) → drop (filled c line rest parts).count all ≡ left_by c line rest parts → drop (past b f (λ next. filled c line next parts) rest).count all ≡ cond b (left_by c line rest parts) (part ∷ parts)
    by true again = again
    by false again = e

-- ---- before the line exists

by-same : (test : Item → Bool) (items : List Item) → take (ahead_by test items) items ≡ before_first test items
by-same test [] = refl
by-same test (i ∷ items) = by (test i) (by-same test items)
  where
    by : (b : Bool) → take (ahead_by test items) items ≡ before_first test items → take (cond b 0 (suc (ahead_by test items))) (i ∷ items) ≡ take (cond (not b) (1 + prefix_len (λ x. not (test x)) items) 0) (i ∷ items)
    by true again = refl
    by false again =
        let n = prefix_len (λ x. not (test x)) items in
        let one : suc n ≡ 1 + n = omega arith in
        ap (λ l. i ∷ l) again ∙ ap (λ k. take k (i ∷ items)) one

pub ahead-same : (c : InlineContext) (items : List Item) → take (ahead c items) items ≡ before_line c.tree items
unfolding ahead makes
ahead-same c items = by-same (makes_line c.tree) items

pub behind-same : (c : InlineContext) (items : List Item) → drop (ahead c items) items ≡ from_line_on c.tree items
behind-same c items = dropped items (ahead c items) ∙ ap (λ l. drop (length l) items) (ahead-same c items)
  where
    dropped : (xs : List Item) (n : ℕ) → drop n xs ≡ drop (length (take n xs)) xs
    dropped xs zero = refl
    dropped [] (suc n) = refl
    dropped (x ∷ xs) (suc n) = dropped xs n

-- ---- the top

stays-least : (passes : ℤ → Bool) (y : ℤ) (floats : List FloatBox) → fold (with_float passes y) (Some y) floats ≡ Some y
stays-least passes y [] = refl
stays-least passes y (f ∷ floats) = ap (λ b. fold (with_float passes y) b floats) (by (int_lt y f.box.bottom) (passes f.box.bottom) refl) ∙ stays-least passes y floats
  where
    by : (a b : Bool) → int_lt y f.box.bottom ≡ a → cond a (cond b (Some (int_min f.box.bottom y)) (Some y)) (Some y) ≡ Some y
    by true true e = ap Some (least e)
      where
        least : int_lt y f.box.bottom ≡ true → int_min f.box.bottom y ≡ y
        least e = grind (arith, ints, clamps)
    by true false e = refl
    by false b e = refl

stands-same : (c : InlineContext) (floats : List FloatBox) (tall width top : ℤ) → stands_at c floats tall width top ≡ may_stand c floats tall width top
unfolding stands_at room_in
stands-same c floats tall width top = by (fits width (band_at floats c.cb top tall)) (list_any (meets top tall) floats)
  where
    by : (a b : Bool) → (not b || a) ≡ (a || not b)
    by true true = refl
    by true false = refl
    by false true = refl
    by false false = refl

float-same : (p q : ℤ → Bool) (y : ℤ) (best : Option ℤ) (floats : List FloatBox) → ((t : ℤ) → p t ≡ q t) → fold (with_float p y) best floats ≡ fold (with_float q y) best floats
float-same p q y best [] same = refl
float-same p q y best (f ∷ floats) same =
    ap (λ b. fold (with_float p y) (cond (int_lt y f.box.bottom) (cond b (Some (lower best f.box.bottom)) best) best) floats) (same f.box.bottom)
    ∙ float-same p q y (with_float q y best f) floats same

pub top-same : (c : InlineContext) (floats : List FloatBox) (y tall width : ℤ) → top_in c floats y tall width ≡ top_found c floats y tall width
unfolding top_in
top-same c floats y tall width =
    ap (λ b. cond b y (top_or y (fold (with_float (stands_at c floats tall width) y) None floats))) (stands-same c floats tall width y)
    ∙ (ap (λ o. cond (may_stand c floats tall width y) y (top_or y o)) (float-same (stands_at c floats tall width) (may_stand c floats tall width) y None floats (stands-same c floats tall width))
    ∙ by (may_stand c floats tall width y))
  where
    by : (b : Bool) → cond b y (top_or y (fold (with_float (may_stand c floats tall width) y) None floats)) ≡ top_or y (fold (with_float (may_stand c floats tall width) y) (cond b (Some y) None) floats)
    by true = sym (ap (top_or y) (stays-least (may_stand c floats tall width) y floats))
    by false = refl
