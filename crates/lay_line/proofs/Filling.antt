-- What is asked of a line that takes segments, one segment further on.
use Rattle.std.proofs.Common.{◌≡◌, ℕ, ◌+◌, ◌≤◌, ◌^◌, ℤ, unsigned_abs, List, [], ◌∷◌, ◌++◌, take, drop, refl, sym, subst, ap, ◌∙◌, arith}
use Rattle.std.proofs.lemmas.List.{map-append, take-append-drop}
use Rattle.viz_calc.specs.State.{AllSmall}
use Rattle.viz_calc.specs.World.{Reading}
use Rattle.layout_semantics.specs.Floats.{FloatBox}
use Rattle.layout_semantics.specs.InlineContent.{Item, start, finish, word, space, atomic, forced, float, float_boxes}
use Rattle.layout_semantics.specs.LineFilling.{Met}
use Rattle.layout_semantics.specs.LineHeights.{InlineContext}
use Rattle.lay_line.specs.Items.{item_of, bare_of}
use Rattle.lay_line.specs.Limits.{weight, held_size, PlacesFit, floats_reach, FillFits, RoomFits, ClampFits}
use Rattle.lay_line.specs.Readings.{piece_at, pieces_at}
use Rattle.lay_line.specs.declared.held.Piece.{Piece}
use Rattle.lay_line.specs.steps.Held.{Held}
use Rattle.lay_line.specs.steps.Loading.{Load, bare, loaded}
use Rattle.lay_line.specs.steps.Measured.{Measured, held_with, with_measured}
use Rattle.lay_line.specs.steps.Meeting.{Slot, met_all, met_next}
use Rattle.lay_line.proofs.Placing.{met_places, room_fits}
use Rattle.lay_line.proofs.HeldSizes.{item_grows}
use Rattle.lay_line.proofs.LoadSteps.{bare-same}

-- ---- two lists, one behind the other

pub weight_joined : (a b : List Measured) → weight (a ++ b) ≡ weight a + weight b
weight_joined [] b = omega arith
weight_joined (m ∷ a) b = let rest = weight_joined a b in omega arith

pub held_grows : (h : Held) (ms : List Measured) → held_size (held_with h ms) ≤ held_size h + weight ms
held_grows h [] = omega arith
held_grows h (m ∷ ms) = let rest = held_grows (with_measured h m) ms in let one = item_grows m.width h m.item in omega arith

pub bare_joined : (a b : List Measured) → bare (a ++ b) ≡ bare a ++ bare b
bare_joined [] b = refl
bare_joined (m ∷ a) b = ap (λ l. m.item ∷ l) (bare_joined a b)

pub boxes_joined : (a b : List Item) → float_boxes (a ++ b) ≡ float_boxes a ++ float_boxes b
boxes_joined [] b = refl
boxes_joined (word at text ∷ a) b = boxes_joined a b
boxes_joined (atomic at ∷ a) b = boxes_joined a b
boxes_joined (space at ∷ a) b = boxes_joined a b
boxes_joined (start at ∷ a) b = boxes_joined a b
boxes_joined (finish at ∷ a) b = boxes_joined a b
boxes_joined (forced at ∷ a) b = boxes_joined a b
boxes_joined (float at ∷ a) b = ap (λ l. at ∷ l) (boxes_joined a b)

reach_front : (c : InlineContext) (a b : List ℕ) → floats_reach c a ≤ floats_reach c (a ++ b)
reach_front c [] b = omega arith
reach_front c (at ∷ a) b = let rest = reach_front c a b in omega arith

pub front_places : (c : InlineContext) (fs : List FloatBox) (least y : ℤ) (a b : List ℕ) → PlacesFit c fs least y (a ++ b) → PlacesFit c fs least y a
front_places c fs least y a b p =
    record { most = p.most; floats_within = p.floats_within; numbers = p.numbers; room = lower p.most (floats_reach c a) (floats_reach c (a ++ b)) (2 ^ 99) (reach_front c a b) p.room }
  where
    lower : (m r s n : ℕ) → r ≤ s → m + s ≤ n → m + r ≤ n
    lower m r s n le room = omega arith

reach_back : (c : InlineContext) (a b : List ℕ) → floats_reach c b ≤ floats_reach c (a ++ b)
reach_back c [] b = omega arith
reach_back c (at ∷ a) b = let rest = reach_back c a b in omega arith

back_places : (c : InlineContext) (fs : List FloatBox) (least y : ℤ) (a b : List ℕ) → PlacesFit c fs least y (a ++ b) → PlacesFit c fs least y b
back_places c fs least y a b p =
    record { most = p.most; floats_within = p.floats_within; numbers = p.numbers; room = lower p.most (floats_reach c b) (floats_reach c (a ++ b)) (2 ^ 99) (reach_back c a b) p.room }
  where
    lower : (m r s n : ℕ) → r ≤ s → m + s ≤ n → m + r ≤ n
    lower m r s n le room = omega arith

pub behind_places : (c : InlineContext) (slot : Slot) (held : ℤ) (met : Met) (a b : List ℕ) → PlacesFit c met.floats slot.least slot.top (a ++ b)
    → PlacesFit c (met_all c slot held met a).floats slot.least slot.top b
behind_places c slot held met [] b p = p
behind_places c slot held met (at ∷ a) b p = behind_places c slot held (met_next c slot held met at) a b (met_places c slot held met at (a ++ b) p)

-- ---- a segment

module _ (c : InlineContext) (slot : Slot) (load : Load) (first rest : List Measured) where
  parted : PlacesFit c load.met.floats slot.least slot.top (float_boxes (bare (first ++ rest))) → PlacesFit c load.met.floats slot.least slot.top (float_boxes (bare first) ++ float_boxes (bare rest))
  parted p = subst (λ (l : List ℕ). PlacesFit c load.met.floats slot.least slot.top l) (ap float_boxes (bare_joined first rest) ∙ boxes_joined (bare first) (bare rest)) p

  pub first_holds : FillFits c slot load (first ++ rest) → ClampFits load.held first
  first_holds f = lower (held_size load.held) (weight first) (weight rest) (weight (first ++ rest)) (2 ^ 100) (weight_joined first rest) f.held
    where
      lower : (h a b all n : ℕ) → all ≡ a + b → h + all ≤ n → h + a ≤ n
      lower h a b all n e le = omega arith

  pub first_places : FillFits c slot load (first ++ rest) → PlacesFit c load.met.floats slot.least slot.top (float_boxes (bare first))
  first_places f = front_places c load.met.floats slot.least slot.top (float_boxes (bare first)) (float_boxes (bare rest)) (parted f.places)

  pub rest_fits : FillFits c slot load (first ++ rest) → FillFits c slot (loaded c slot load (bare first) (float_boxes (bare first)) (held_with load.held first)) rest
  unfolding loaded
  rest_fits f = record {
    held = left (held_size load.held) (held_size (held_with load.held first)) (weight first) (weight rest) (weight (first ++ rest)) (2 ^ 100) (weight_joined first rest) (held_grows load.held first) f.held;
    places = behind_places c slot (held_with load.held first).width load.met (float_boxes (bare first)) (float_boxes (bare rest)) (parted f.places);
    tall = f.tall;
    reach = f.reach;
  }
    where
      left : (h next a b all n : ℕ) → all ≡ a + b → next ≤ h + a → h + all ≤ n → next + b ≤ n
      left h next a b all n e grows le = omega arith

-- what a line holds is small
pub held_small : (c : InlineContext) (slot : Slot) (load : Load) (pieces : List Measured) → FillFits c slot load pieces → AllSmall (load.held.width ∷ load.held.spaces ∷ [])
held_small c slot load pieces f = (first (unsigned_abs load.held.width) (unsigned_abs load.held.spaces) (weight pieces) (2 ^ 100) f.held, (second (unsigned_abs load.held.width) (unsigned_abs load.held.spaces) (weight pieces) (2 ^ 100) f.held, tt))
  where
    first : (w s a n : ℕ) → w + s + a ≤ n → w ≤ n
    first w s a n le = omega arith

    second : (w s a n : ℕ) → w + s + a ≤ n → s ≤ n
    second w s a n le = omega arith

pub fill_room : (c : InlineContext) (slot : Slot) (load : Load) (pieces : List Measured) → FillFits c slot load pieces → RoomFits c load.met.floats slot.top slot.tall
fill_room c slot load pieces f = room_fits c load.met.floats slot.least slot.top slot.tall (float_boxes (bare pieces)) f.places f.tall

-- ---- as the code has it

pub pieces_joined : {N : Type 0} (at : N → Reading → ℤ) (e : Reading) (all a b : List (Piece N)) → all ≡ a ++ b → pieces_at at all e ≡ pieces_at at a e ++ pieces_at at b e
pieces_joined at e all a b is = ap (λ l. pieces_at at l e) is ∙ map-append (λ p. piece_at at p e) a b

pub loaded_is : (c : InlineContext) (slot : Slot) (f next : Load) (part : List Measured) (held : Held) (items : List Item) (floats : List ℕ)
    → held ≡ held_with f.held part → bare part ≡ items → floats ≡ float_boxes items → next ≡ loaded c slot f items floats held
    → next ≡ loaded c slot f (bare part) (float_boxes (bare part)) (held_with f.held part)
loaded_is c slot f next part held items floats h b fl n =
    n
    ∙ (ap (loaded c slot f items floats) h
    ∙ (ap (λ l. loaded c slot f items l (held_with f.held part)) fl
    ∙ ap (λ l. loaded c slot f l (float_boxes l) (held_with f.held part)) (sym b)))

-- the floats of the first pieces, and of those behind them
module _ {N : Type 0} (c : InlineContext) (fs : List FloatBox) (least y : ℤ) (at : N → Reading → ℤ) (e : Reading) (ps : List (Piece N)) (n : ℕ) where
  parted_boxes : float_boxes (bare (pieces_at at ps e)) ≡ float_boxes (bare_of (take n ps)) ++ float_boxes (bare_of (drop n ps))
  parted_boxes =
      ap float_boxes (bare-same at e ps ∙ (ap bare_of (sym (take-append-drop n ps)) ∙ map-append (λ p. item_of p.item) (take n ps) (drop n ps)))
      ∙ boxes_joined (bare_of (take n ps)) (bare_of (drop n ps))

  split_places : PlacesFit c fs least y (float_boxes (bare (pieces_at at ps e))) → PlacesFit c fs least y (float_boxes (bare_of (take n ps)) ++ float_boxes (bare_of (drop n ps)))
  split_places p = subst (λ (l : List ℕ). PlacesFit c fs least y l) parted_boxes p

  pub ahead_places : PlacesFit c fs least y (float_boxes (bare (pieces_at at ps e))) → PlacesFit c fs least y (float_boxes (bare_of (take n ps)))
  ahead_places p = front_places c fs least y (float_boxes (bare_of (take n ps))) (float_boxes (bare_of (drop n ps))) (split_places p)

  pub behind_boxes : PlacesFit c fs least y (float_boxes (bare (pieces_at at ps e))) → PlacesFit c fs least y (float_boxes (bare_of (drop n ps)))
  behind_boxes p = back_places c fs least y (float_boxes (bare_of (take n ps))) (float_boxes (bare_of (drop n ps))) (split_places p)
