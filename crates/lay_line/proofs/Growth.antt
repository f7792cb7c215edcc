-- How far the floats and the numbers of lines come to stand, line by line.
use Rattle.std.proofs.Common.{◌≡◌, ℕ, ◌+◌, ◌≤◌, ◌^◌, ℤ, Bool, true, false, cond, int_lt, List, [], ◌∷◌, ◌++◌, fold, Option, Some, None, refl, subst, ap, ◌∙◌, append_assoc, arith}
use Rattle.std.specs.Prelude.{unwrap_or}
use Rattle.std.proofs.lemmas.Int.{ints, clamps}
use Rattle.viz_base.specs.declared.layouts.Extent.{Extent}
use Rattle.viz_base.specs.declared.layouts.Spot.{Spot}
use Rattle.viz_base.specs.declared.styles.Clear.{Clear}
use Rattle.viz_base.specs.declared.styles.Clear.TheVariants as of_clear
use Rattle.viz_base.specs.declared.styles.Side.{Side}
use Rattle.viz_base.specs.declared.styles.Side.TheVariants as of_side
use Rattle.viz_base.specs.declared.styles.Style.{Style}
use Rattle.viz_base.proofs.ListLemmas.{later_member}
use Rattle.layout_semantics.specs.Floats.{FloatBox, float_at, float_top, placed_float}
use Rattle.layout_semantics.specs.InlineContent.{Item, float_boxes}
use Rattle.layout_semantics.specs.Lengths.{own}
use Rattle.layout_semantics.specs.LineFilling.{Met, float_size, none_waits, with_waiting}
use Rattle.layout_semantics.specs.LineHeights.{InlineContext, LineExtent}
use Rattle.lay_line.specs.Limits.{AllWithin, weight, held_size, FloatsWithin, float_reach, floats_reach, PlacesFit}
use Rattle.lay_line.specs.LineFits.{SpotOnLine, SpotsOnLine}
use Rattle.lay_line.specs.steps.Loading.{Load, bare, extending, with_reach, with_reach_of, reaching, reaching_boxes, loaded, loading, takes_more}
use Rattle.lay_line.specs.steps.Lining.{joined_parts}
use Rattle.lay_line.specs.steps.Measured.{Measured, held_with}
use Rattle.lay_line.specs.steps.Meeting.{Slot, kept_at, placed_next, placed_all, met_at_spot, met_next, met_all, leaves, stands_at, top_in}
use Rattle.lay_line.specs.steps.Tops.{lower, with_top, with_float, top_or}
use Rattle.lay_line.specs.steps.Words.{size_in, spot_in, floats_with, reach_in}
use Rattle.layout_laws.proofs.Members.{first_member}
use Rattle.lay_line.proofs.Filling.{weight_joined, held_grows, bare_joined, boxes_joined}
use Rattle.lay_line.proofs.Placing.{Within, max_within, IsNear, more_within, spot_near, grown_within, top_within}

-- ---- floats

pub reach_joined : (c : InlineContext) (a b : List ℕ) → floats_reach c (a ++ b) ≡ floats_reach c a + floats_reach c b
reach_joined c [] b = omega arith
reach_joined c (at ∷ a) b = let rest = reach_joined c a b in omega arith

pub floats_more : (m n : ℕ) (fs : List FloatBox) → m ≤ n → FloatsWithin m fs → FloatsWithin n fs
floats_more m n fs le on f i = more_within m n (f.box.left ∷ f.box.top ∷ f.box.right ∷ f.box.bottom ∷ []) le (on f i)

spots_joined : (a : List (ℕ × Spot ℤ)) (s : ℕ × Spot ℤ) → SpotsOnLine a → SpotOnLine s → SpotsOnLine (a ++ s ∷ [])
spots_joined [] s on one = (one, tt)
spots_joined (x ∷ a) s on one = (on.0, spots_joined a s on.1 one)

-- what stays the same while floats are met: the content, how far all of them may come to stand,
-- the floats that stood before, and where those that are met come, none standing above `least`
pub record Ground : Type 0 where
  pub c : InlineContext
  pub total : ℕ
  pub old : List FloatBox
  pub least : ℤ
  pub y : ℤ

abbrev pub ground_at : InlineContext → ℕ → List FloatBox → ℤ → ℤ → Ground
ground_at c total old least y = record { c = c; total = total; old = old; least = least; y = y }

abbrev pub on_slot : InlineContext → ℕ → List FloatBox → Slot → Ground
on_slot c total old slot = ground_at c total old slot.least slot.top

-- floats met behind the old ones, with these boxes still to come, within the total with all that wait or come
pub record MetFits (g : Ground) (met : Met) (boxes : List ℕ) : Type 0 where
  pub most : ℕ
  pub floats : FloatsWithin most met.floats
  pub numbers : AllWithin most (g.c.cb.left ∷ g.c.cb.right ∷ g.least ∷ g.y ∷ [])
  pub more : List FloatBox
  pub front : met.floats ≡ g.old ++ more
  pub spots : SpotsOnLine met.spots
  pub room : most + floats_reach g.c met.waiting + floats_reach g.c boxes ≤ g.total

module _ (c : InlineContext) (total : ℕ) (limit : total ≤ 2 ^ 99) (old : List FloatBox) (least y : ℤ) where
  -- a float more stands
  keeps : (met : Met) (at : ℕ) (boxes : List ℕ) → MetFits (ground_at c total old least y) met (at ∷ boxes) → MetFits (ground_at c total old least y) (kept_at c met at (spot_in c met.floats least y at)) boxes
  unfolding spot_in floats_with size_in
  keeps met at boxes p = record {
    most = p.most + float_reach c at;
    floats = grown_within p.most met.floats side size spot p.floats near;
    numbers = more_within p.most (p.most + float_reach c at) (c.cb.left ∷ c.cb.right ∷ least ∷ y ∷ []) (omega arith) p.numbers;
    more = p.more ++ one;
    front = ap (λ l. l ++ one) p.front ∙ append_assoc old p.more one;
    spots = spots_joined met.spots (at, spot) p.spots on;
    room = let room = p.room in omega arith;
  }
    where
      side : Side
      side = unwrap_or (own c.tree at (λ (s : Style). s.float) None) of_side.Left

      clear : Clear
      clear = own c.tree at (λ (s : Style). s.clear) of_clear.Nothing

      size : Extent ℤ
      size = float_size c at

      top : ℤ
      top = float_top clear met.floats (Some least) y

      spot : Spot ℤ
      spot = float_at met.floats side size c.cb top

      top_is : Within p.most top
      top_is = top_within p.most met.floats clear least y p.floats p.numbers.1.1.0 p.numbers.1.1.1.0

      one : List FloatBox
      one = placed_float side size spot ∷ []

      near : IsNear p.most size.width spot
      near = spot_near p.most met.floats side size c.cb top p.floats p.numbers.0 p.numbers.1.0 top_is

      on : SpotOnLine (at, spot)
      on = let x = near.x in let far = near.y in let room = p.room in (omega arith, (omega arith, tt))

  -- or waits
  waits : (met : Met) (at : ℕ) (boxes : List ℕ) → MetFits (ground_at c total old least y) met (at ∷ boxes) → MetFits (ground_at c total old least y) (with_waiting met at) boxes
  waits met at boxes p = record {
    most = p.most;
    floats = p.floats;
    numbers = p.numbers;
    more = p.more;
    front = p.front;
    spots = p.spots;
    room = let room = p.room in let all = reach_joined c met.waiting (at ∷ []) in omega arith;
  }

  placed_fits : (met : Met) (at : ℕ) (boxes : List ℕ) → MetFits (ground_at c total old least y) met (at ∷ boxes) → MetFits (ground_at c total old least y) (placed_next c least y met at) boxes
  unfolding placed_next
  placed_fits met at boxes p = keeps met at boxes p

  pub all_placed : (met : Met) (a b : List ℕ) → MetFits (ground_at c total old least y) met (a ++ b) → MetFits (ground_at c total old least y) (placed_all c least y met a) b
  all_placed met [] b p = p
  all_placed met (at ∷ a) b p = all_placed (placed_next c least y met at) a b (placed_fits met at (a ++ b) p)

  -- as the clauses have it
  pub as_places : (met : Met) (boxes : List ℕ) → MetFits (ground_at c total old least y) met boxes → PlacesFit c met.floats least y boxes
  as_places met boxes p = record { most = p.most; floats_within = p.floats; numbers = p.numbers; room = let room = p.room in omega arith }

module _ (c : InlineContext) (total : ℕ) (limit : total ≤ 2 ^ 99) (old : List FloatBox) (slot : Slot) (held : ℤ) where
  met_fits : (met : Met) (at : ℕ) (boxes : List ℕ) → MetFits (on_slot c total old slot) met (at ∷ boxes) → MetFits (on_slot c total old slot) (met_next c slot held met at) boxes
  unfolding met_next
  met_fits met at boxes p = outer (none_waits met)
    where
      spot : Spot ℤ
      spot = spot_in c met.floats slot.least slot.top at

      inner : (b : Bool) → MetFits (on_slot c total old slot) (cond b (kept_at c met at spot) (with_waiting met at)) boxes
      inner true = keeps c total limit old slot.least slot.top met at boxes p
      inner false = waits c total limit old slot.least slot.top met at boxes p

      outer : (b : Bool) → MetFits (on_slot c total old slot) (cond b (met_at_spot c slot held met at spot) (with_waiting met at)) boxes
      outer true = inner (leaves c slot held (floats_with c met.floats at spot) spot.y)
      outer false = waits c total limit old slot.least slot.top met at boxes p

  pub all_met : (met : Met) (a b : List ℕ) → MetFits (on_slot c total old slot) met (a ++ b) → MetFits (on_slot c total old slot) (met_all c slot held met a) b
  all_met met [] b p = p
  all_met met (at ∷ a) b p = all_met (met_next c slot held met at) a b (met_fits met at (a ++ b) p)

-- ---- heights

module _ (c : InlineContext) (high : ℕ) (reaches : (at : ℕ) → AllWithin high ((reach_in c at).above ∷ (reach_in c at).below ∷ [])) where
  abbrev High : LineExtent → Type 0
  High x = AllWithin high (x.above ∷ x.below ∷ [])

  with_high : (x : LineExtent) (at : ℕ) → High x → High (with_reach c x at)
  unfolding with_reach
  with_high x at h = let a = (reaches at).0 in let b = (reaches at).1.0 in let p = h.0 in let q = h.1.0 in (max_within high (reach_in c at).above x.above a p, (max_within high (reach_in c at).below x.below b q, tt))

  by_high : (x : LineExtent) (o : Option ℕ) → High x → High (with_reach_of c x o)
  by_high x None h = h
  by_high x (Some at) h = with_high x at h

  pub items_high : (x : LineExtent) (items : List Item) → High x → High (reaching c x items)
  items_high x [] h = h
  items_high x (i ∷ items) h = items_high (with_reach_of c x (extending i)) items (by_high x (extending i) h)

  pub boxes_high : (x : LineExtent) (boxes : List ℕ) → High x → High (reaching_boxes c x boxes)
  boxes_high x [] h = h
  boxes_high x (at ∷ boxes) h = boxes_high (with_reach c x at) boxes (with_high x at h)

-- ---- the top of a line

module _ (m : ℕ) (c : InlineContext) (tall width y : ℤ) (w : Within m y) (floats : List FloatBox) where
  abbrev SomeWithin : Option ℤ → Type 0
  SomeWithin None = Unit {0}
  SomeWithin (Some z) = Within m z

  lower_within : (best : Option ℤ) (z : ℤ) → SomeWithin best → Within m z → Within m (lower best z)
  lower_within None z b w = w
  lower_within (Some best) z b w = omega (arith, ints, clamps)

  with_within : (p : ℤ → Bool) (best : Option ℤ) (f : FloatBox) → SomeWithin best → Within m f.box.bottom → SomeWithin (with_float p y best f)
  with_within p best f b w = outer (int_lt y f.box.bottom)
    where
      inner : (t : Bool) → SomeWithin (cond t (Some (lower best f.box.bottom)) best)
      inner true = lower_within best f.box.bottom b w
      inner false = b

      outer : (t : Bool) → SomeWithin (cond t (with_top p best f.box.bottom) best)
      outer true = inner (p f.box.bottom)
      outer false = b

  fold_within : (p : ℤ → Bool) (best : Option ℤ) (fs : List FloatBox) → SomeWithin best → FloatsWithin m fs → SomeWithin (fold (with_float p y) best fs)
  fold_within p best [] b on = b
  fold_within p best (f ∷ fs) b on = fold_within p (with_float p y best f) fs (with_within p best f b (on f (first_member fs refl)).1.1.1.0) (λ g i. on g (later_member fs i))

  or_within : (o : Option ℤ) → SomeWithin o → Within m (top_or y o)
  or_within None b = w
  or_within (Some z) b = b

  pub top_in_within : FloatsWithin m floats → Within m (top_in c floats y tall width)
  unfolding top_in
  top_in_within on = by (stands_at c floats tall width y)
    where
      by : (t : Bool) → Within m (cond t y (top_or y (fold (with_float (stands_at c floats tall width) y) None floats)))
      by true = w
      by false = or_within (fold (with_float (stands_at c floats tall width) y) None floats) (fold_within (stands_at c floats tall width) None floats tt on)

-- ---- a line takes segments

-- with these pieces still to come
pub record LoadFits (g : Ground) (high : ℕ) (f : Load) (pieces : List Measured) : Type 0 where
  pub held : held_size f.held + weight pieces ≤ 2 ^ 95
  pub met : MetFits g f.met (float_boxes (bare pieces))
  pub extent : AllWithin high (f.extent.above ∷ f.extent.below ∷ [])

module _ (c : InlineContext) (total high : ℕ) (limit : total ≤ 2 ^ 99) (old : List FloatBox) (slot : Slot) (reaches : (at : ℕ) → AllWithin high ((reach_in c at).above ∷ (reach_in c at).below ∷ [])) where
  next_load : (f : Load) (first rest : List Measured) → LoadFits (on_slot c total old slot) high f (first ++ rest)
      → LoadFits (on_slot c total old slot) high (loaded c slot f (bare first) (float_boxes (bare first)) (held_with f.held first)) rest
  unfolding loaded
  next_load f first rest p = record {
    held = let one = weight_joined first rest in let grows = held_grows f.held first in let held = p.held in omega arith;
    met = all_met c total limit old slot (held_with f.held first).width f.met (float_boxes (bare first)) (float_boxes (bare rest))
        (subst (λ (l : List ℕ). MetFits (on_slot c total old slot) f.met l) (ap float_boxes (bare_joined first rest) ∙ boxes_joined (bare first) (bare rest)) p.met);
    extent = items_high c high reaches f.extent (bare first) p.extent;
  }

  pub all_loaded : (f : Load) (parts : List (List Measured)) → LoadFits (on_slot c total old slot) high f (joined_parts parts)
      → LoadFits (on_slot c total old slot) high (loading c slot f parts).0 (joined_parts (loading c slot f parts).1)
  all_loaded f [] p = p
  all_loaded f (part ∷ parts) p =
      let next = loaded c slot f (bare part) (float_boxes (bare part)) (held_with f.held part) in
      by (takes_more c slot f (held_with f.held part)) (all_loaded next parts (next_load f part (joined_parts parts) p))
    where
      after : Load
      after = loaded c slot f (bare part) (float_boxes (bare part)) (held_with f.held part)

      by : (b : Bool) → LoadFits (on_slot c total old slot) high (loading c slot after parts).0 (joined_parts (loading c slot after parts).1)
          → LoadFits (on_slot c total old slot) high (cond b (loading c slot after parts) (f, part ∷ parts)).0 (joined_parts (cond b (loading c slot after parts) (f, part ∷ parts)).1)
      by true again = again
      by false again = p
