-- What floats that stand level at one edge tell of another, and the floats that wait behind the last one that is named.
use Rattle.std.proofs.Common.{◌≡◌, ℕ, ◌+◌, ◌<◌, ◌≤◌, ◌^◌, ℤ, pos, ◌≤ℤ◌, ◌<ℤ◌, Bool, false, ◌&&◌, ◌||◌, int_le, int_lt, List, [], ◌∷◌, ◌++◌, length, take, map, Contains, Option, Some, None, ◌⊎◌, inl, inr, refl, sym, ap, ◌∙◌, subst, arith}
use Rattle.std.specs.Prelude.{unwrap_or, unsigned_abs, IfSome}
use Rattle.std.specs.List.{AllByRecursion, list_any}
use Rattle.std.specs.Option.{option_to_list, option_map_or}
use Rattle.std.proofs.lemmas.Int.{ints}
use Rattle.std.proofs.lemmas.List.{take_all, take-append-le, length-append}
use Rattle.std.proofs.lemmas.List.Elements.{Contains-append_left}
use Rattle.viz_base.specs.declared.layouts.Extent.{Extent}
use Rattle.viz_base.specs.declared.layouts.Spot.{Spot}
use Rattle.viz_base.specs.declared.layouts.Waiting.{Waiting}
use Rattle.viz_base.specs.declared.styles.Clear.{Clear}
use Rattle.viz_base.specs.declared.styles.Clear.TheVariants as of_clear
use Rattle.viz_base.specs.declared.styles.Side.{Side}
use Rattle.viz_base.specs.declared.styles.Side.TheVariants as of_side
use Rattle.viz_base.specs.declared.trees.BoxTree.{BoxTree}
use Rattle.viz_calc.specs.World.{Reading}
use Rattle.layout_semantics.specs.Clearance.{Base, hangs, stands, Ground, with_waiting}
use Rattle.layout_semantics.specs.Floats.{FloatBox, is_relevant, lowest_bottom, placed_float}
use Rattle.layout_semantics.specs.FlowBoxes.{clear_of}
use Rattle.layout_laws.proofs.Greatest.{All-from, All-at}
use Rattle.layout_laws.proofs.Members.{no_member, only_member, any_none, from_map}
use Rattle.lay_float.specs.steps.Bands.{is_relevant_side}
use Rattle.lay_float.specs.Limits.{AreHalf}
use Rattle.lay_float.specs.TrialReadings.{trial_at}
use Rattle.lay_float.specs.Trials.{Tried}
use Rattle.lay_float.proofs.Same.{AreAbove, tried-same}
use Rattle.lay_margin.specs.Readings.{floats_at as waiting_at, waiting_at as waiting_in}
use Rattle.lay_margin.specs.declared.runs.Run.{Run}
use Rattle.lay_steps.specs.Forward.{bottom_to_clear}
use Rattle.page_limits.specs.Bounds.{all_around, IsLevelIn}
use Rattle.lay_flow.specs.Levels.{IsWithin, StaysFree, hinders, clears, clears_level, float_side}
use Rattle.lay_flow.specs.Low.{IsBaseLow, IsRunLow, IsWaitingLow}
use Rattle.lay_flow.specs.Tries.{first_trial, other_trials, trial_of, floats_with, IsTrialOf}
use Rattle.lay_flow.specs.WayFits.{IsGroundLow, IsGoingLow, WaitingFits, waiting_reach}
use Rattle.lay_flow.specs.Ways.{ground_at, AreTried, AreAllTried, TellsOf}
use Rattle.lay_flow.specs.declared.forward.Way.{Way}
use Rattle.lay_flow.specs.declared.parts.Tries.{Tries}
use Rattle.lay_flow.proofs.Levels.{IsFor, AreFor}
use Rattle.lay_flow.proofs.LevelTrials.{AreLevel, AreUnnamed, level-from, level-least, level-tops, tried-tops, falls-on, named-alone}
use Rattle.lay_flow.proofs.Tried.{floats-same, floats-half}
use Rattle.lay_flow.proofs.WaitingLow.{way-waits, floats-half as low-half}

-- an edge within what low margins reach
pub within-near : (base : Base) (run : Run ℤ) (y : ℤ) → IsWithin base run y → IsBaseLow base → IsRunLow run → IsLevelIn (all_around (2 ^ 92)) y
within-near (hangs edge) run y i l r =
    let h = i.high in let w = i.low in let t = l.top in let u = l.bottom in let a = r.most in let b = r.least in
    record { top = omega (arith, ints, h, w, t, u, a, b); bottom = omega (arith, ints, h, w, t, u, a, b) }
within-near (stands edge) run y i l r =
    let h = i.high in let w = i.low in let t = l.top in let u = l.bottom in
    record { top = omega (arith, ints, h, w, t, u); bottom = omega (arith, ints, h, w, t, u) }

module _ (g : Ground) where
  -- where the last one's top is at the edge, all stand level there
  level-of : (y : ℤ) (w : Waiting ℤ) (ws : List (Waiting ℤ)) (t : Tried) → trial_of g y (w ∷ ws) ≡ Some t → t.level ≤ℤ y → AreLevel g.tree g.size g.least y (w ∷ ws) g.floats
  level-of y w ws t e l =
      let s = other_trials g ws (first_trial g w y) in
      let same : s ≡ t = ap (λ o. unwrap_or o t) e in
      let last : s.level ≤ℤ y = subst (λ (u : Tried). u.level ≤ℤ y) (sym same) l in
      level-from g.tree g.size g.least y (w ∷ ws) g.floats (λ f i.
      let top = tried-tops g.tree g.size g.least y w ws g.floats f (subst (λ fs. Contains fs f) (sym (tried-same g.tree g.size g.least y w ws g.floats)) i) in
      omega (arith, ints, top, last))

  module _ (from to : ℤ) where
    for-one : (f : FloatBox) → f.box.top ≤ℤ from → f.box.top ≤ℤ to → (to <ℤ f.box.bottom → from <ℤ f.box.bottom) → IsFor from to f f
    for-one f a b c = record { same = λ clear. refl; from = a; to = b; below = c; left = λ l. omega (arith, ints); right = λ r. omega (arith, ints) }

    past : (f : FloatBox) → hinders from to f ≡ false → f.box.top ≤ℤ to
    past f h = grind (arith, ints)

    ended : (f : FloatBox) → hinders from to f ≡ false → to <ℤ f.box.bottom → from <ℤ f.box.bottom
    ended f h l = grind (arith, ints)

    no-lower : (least : Option ℤ) → option_map_or (int_lt to) least false ≡ false → (x : ℤ) → Contains (option_to_list least) x → x ≤ℤ to
    no-lower None h x i = no_member i
    no-lower (Some z) h x i = let e = only_member z x i in grind (arith, ints)

    module _ (w : Waiting ℤ) (ws : List (Waiting ℤ)) (level : AreLevel g.tree g.size g.least from (w ∷ ws) g.floats) where
      tops : AreAbove from g.floats
      tops = level-tops g.tree g.size g.least from w ws g.floats level

      are-for : StaysFree g.floats g.least from to → AreFor from to g.floats g.floats
      are-for (inl l) f i = (f, i, for-one f (tops f i) (let a = tops f i in omega (arith, ints, a, l)) (λ b. omega (arith, ints, b, l)))
      are-for (inr (m, n)) f i = let h = any_none (hinders from to) g.floats f n i in (f, i, for-one f (tops f i) (past f h) (ended f h))

      low : StaysFree g.floats g.least from to → (x : ℤ) → Contains (option_to_list g.least) x → x ≤ℤ to
      low (inl l) x i = let a = level-least g.tree g.size g.least from w ws g.floats level x i in omega (arith, ints, a, l)
      low (inr (m, n)) x i = no-lower g.least m x i

    -- so a trial at one edge tells whether a box is cleared at the other
    pub tells : (b : ℕ) (ws : List (Waiting ℤ)) (t : Tried) → trial_of g from ws ≡ Some t → t.level ≤ℤ from → StaysFree g.floats g.least from to → clears_level (clear_of g.tree b) g.floats t.all from to ≡ clears g b ws to
    unfolding bottom_to_clear
    tells b [] t e l s = absurd (cc)
    tells b (w ∷ ws) t e l s =
        let level = level-of from w ws t e l in
        ap (λ fs. clears_level (clear_of g.tree b) g.floats fs from to) (ap (floats_with g) (sym e) ∙ floats-same g from (w ∷ ws))
        ∙ sym (falls-on g.tree g.size g.least (clear_of g.tree b) from to (w ∷ ws) g.floats (are-for w ws level s) (low w ws level s) level)

  -- ---- floats behind those that matter

  pub more-tried : (y : ℤ) (n : ℕ) (ws rest : List (Waiting ℤ)) (t : Tried) → IsTrialOf g y n ws t → IsTrialOf g y n (ws ++ rest) t
  more-tried y n ws rest t i =
      let within = i.within in
      let long = length-append ws rest in
      record { within = omega (arith, within, long); tried = ap (trial_of g y) (take-append-le n ws rest within) ∙ i.tried }

  pub fewer-tried : (y : ℤ) (n : ℕ) (ws rest : List (Waiting ℤ)) (t : Tried) → n ≤ length ws → IsTrialOf g y n (ws ++ rest) t → IsTrialOf g y n ws t
  fewer-tried y n ws rest t l i = record { within = l; tried = ap (trial_of g y) (sym (take-append-le n ws rest l)) ∙ i.tried }

  pub clears-same : (b : ℕ) (y : ℤ) (ws rest : List (Waiting ℤ)) → AreUnnamed g.tree g.size g.least (clear_of g.tree b) rest → clears g b ws y ≡ clears g b (ws ++ rest) y
  unfolding bottom_to_clear
  clears-same b y ws rest none = sym (named-alone g.tree g.size g.least (clear_of g.tree b) y ws rest g.floats none)

module _ (size : Waiting ℤ → Extent ℤ) where
  reach-part : (ws rest : List (Waiting ℤ)) → waiting_reach size ws ≤ waiting_reach size (ws ++ rest)
  reach-part [] rest = omega arith
  reach-part (w ∷ ws) rest = let l = reach-part ws rest in omega (arith, l)

  pub going-part : (run : Run ℤ) (ws rest : List (Waiting ℤ)) → IsGoingLow size run (ws ++ rest) → IsGoingLow size run ws
  going-part run ws rest i = record {
    margins = i.margins;
    bands = All-from IsWaitingLow ws (λ w j. All-at IsWaitingLow (ws ++ rest) w i.bands (Contains-append_left ws rest w j));
    room = let l = reach-part ws rest in let r = i.room in omega (arith, l, r);
  }

-- ---- sides

relevant-side : (clear : Clear) (side : Side) (size : Extent ℤ) (p : Spot ℤ) → is_relevant clear (placed_float side size p) ≡ is_relevant_side clear side
relevant-side of_clear.Nothing side size p = refl
relevant-side of_clear.Left of_side.Left size p = refl
relevant-side of_clear.Left of_side.Right size p = refl
relevant-side of_clear.Right of_side.Left size p = refl
relevant-side of_clear.Right of_side.Right size p = refl
relevant-side of_clear.Both side size p = refl

pub unnamed-at : {N : Type 0} (at : N → Reading → ℤ) (e : Reading) (tree : BoxTree) (size : Waiting ℤ → Extent ℤ) (least : Option ℤ) (clear : Clear) (ws : List (Waiting N))
    → ((w : Waiting N) → Contains ws w → is_relevant_side clear (float_side tree w.at) ≡ false) → AreUnnamed tree size least clear (waiting_at at ws e)
unnamed-at at e tree size least clear ws none v i =
    let w = from_map (λ w. waiting_in at w e) ws v i in
    subst (λ (u : Waiting ℤ). is_relevant clear (placed_float (float_side tree u.at) (size u) (record { x = pos 0; y = pos 0 })) ≡ false) w.2 (relevant-side clear (float_side tree w.0.at) (size (waiting_in at w.0 e)) (record { x = pos 0; y = pos 0 }) ∙ none w.0 w.1)

-- ---- what is kept

pub ground-half : (base : Base) (floats : List FloatBox) (least : Option ℤ) → IsGroundLow base floats least → AreHalf floats []
ground-half base floats least g = low-half (2 ^ 90) floats (omega arith) g.before

module _ {N : Type 0} (at : N → Reading → ℤ) (x : Way N) (e : Reading) where
  pub all-trial : (ws : List (Waiting ℤ)) (t : Tries N) → AreAllTried at x e ws t → trial_of (ground_at at x e) (at t.y e) ws ≡ Some (trial_at at t.trial e)
  all-trial ws t i =
      let count = i.0 in
      ap (trial_of (ground_at at x e) (at t.y e)) (sym (take_all t.count ws (omega (arith, count)))) ∙ i.1.tried

  -- what is computed at an edge within what low margins reach fits
  pub near-waits : (run : Run ℤ) (ws : List (Waiting ℤ)) (y : ℤ) → IsWithin (ground_at at x e).base run y → IsGroundLow (ground_at at x e).base (ground_at at x e).floats (ground_at at x e).least
      → IsGoingLow (ground_at at x e).size run ws → WaitingFits (ground_at at x e).size (ground_at at x e).floats (ground_at at x e).least y ws
  near-waits run ws y i g l = way-waits (ground_at at x e).size (ground_at at x e).base (ground_at at x e).floats (ground_at at x e).least run ws y g l (within-near (ground_at at x e).base run y i g.edge l.margins)

  pub trial-half : (run : Run ℤ) (ws : List (Waiting ℤ)) (t : Tries N) (y : ℤ) → TellsOf at x e run ws t y → IsGroundLow (ground_at at x e).base (ground_at at x e).floats (ground_at at x e).least
      → IsGoingLow (ground_at at x e).size run ws → AreHalf (trial_at at t.trial e).all []
  trial-half run ws t y i g l =
      subst (λ o. AreHalf (floats_with (ground_at at x e) o) []) (all-trial ws t i.tried)
      (floats-half (ground_at at x e) (at t.y e) ws (near-waits run ws (at t.y e) i.level.within g l))

  pub tells-of : (b : ℕ) (run : Run ℤ) (ws : List (Waiting ℤ)) (t : Tries N) (y : ℤ) → TellsOf at x e run ws t y
      → clears_level (clear_of (ground_at at x e).tree b) (ground_at at x e).floats (trial_at at t.trial e).all (at t.y e) y ≡ clears (ground_at at x e) b ws y
  tells-of b run ws t y i = tells (ground_at at x e) (at t.y e) y b ws (trial_at at t.trial e) (all-trial ws t i.tried) i.level.level i.level.free

  -- tries of the first ones of these floats, and of fewer
  pub are-more : (ws rest : List (Waiting ℤ)) (tries : Option (Tries N)) → AreTried at x e ws tries → AreTried at x e (ws ++ rest) tries
  are-more ws rest None i = tt
  are-more ws rest (Some t) i = more-tried (ground_at at x e) (at t.y e) t.count ws rest (trial_at at t.trial e) i

  pub are-fewer : (ws rest : List (Waiting ℤ)) (tries : Option (Tries N)) → IfSome tries (λ t. t.count ≤ length (ws ++ rest) → t.count ≤ length ws) → AreTried at x e (ws ++ rest) tries → AreTried at x e ws tries
  are-fewer ws rest None l i = tt
  are-fewer ws rest (Some t) l i = fewer-tried (ground_at at x e) (at t.y e) t.count ws rest (trial_at at t.trial e) (l i.within) i
