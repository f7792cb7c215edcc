-- Floats that are tried one after another, and all stand level; which of them reach below the edge at which they were tried.
use Rattle.std.proofs.Common.{◌≡◌, ℕ, zero, suc, ℤ, pos, ◌+ℤ◌, ◌≤ℤ◌, ◌<ℤ◌, Bool, true, false, ◌&&◌, ◌||◌, int_lt, IsTrue, List, [], ◌∷◌, ◌++◌, length, drop, Contains, Option, Some, None, MatchOption, refl, sym, ap, ◌∙◌, subst, ⊎_elim, arith}
use Rattle.std.specs.List.{list_any}
use Rattle.std.specs.Option.{option_to_list, option_map_or}
use Rattle.std.proofs.lemmas.Int.{ints}
use Rattle.std.proofs.lemmas.List.{append-nil, append_assoc}
use Rattle.std.proofs.lemmas.List.Elements.{Contains-append_left, Contains-append_right}
use Rattle.std.proofs.lemmas.List.Folds.{list_any-append}
use Rattle.viz_base.specs.declared.layouts.Extent.{Extent}
use Rattle.viz_base.specs.declared.layouts.Spot.{Spot}
use Rattle.viz_base.specs.declared.layouts.Waiting.{Waiting}
use Rattle.viz_base.specs.declared.styles.Clear.{Clear}
use Rattle.viz_base.specs.declared.styles.Clear.TheVariants as of_clear
use Rattle.viz_base.specs.declared.styles.Side.{Side}
use Rattle.viz_base.specs.declared.styles.Side.TheVariants as of_side
use Rattle.viz_base.specs.declared.trees.BoxTree.{BoxTree}
use Rattle.viz_base.proofs.ListLemmas.{later_member}
use Rattle.layout_semantics.specs.Clearance.{with_waiting}
use Rattle.layout_semantics.specs.Floats.{FloatBox, Floating, floating, is_relevant, lowest_bottom, placed_float, float_at, float_top, float_spot, with_float, with_float_at}
use Rattle.layout_laws.specs.Clearance.{IsLowestBottom}
use Rattle.layout_laws.specs.FloatRules.{IsLowEnough, ObeysRules}
use Rattle.layout_laws.proofs.LowestBottoms.{lowest}
use Rattle.layout_laws.proofs.Members.{first_member, any_in, any_from, any_none}
use Rattle.lay_float.proofs.Highest.{highest_is}
use Rattle.lay_float.proofs.Tops.{top-from, top-least}
use Rattle.lay_float.proofs.Same.{IsTrial, AreAbove, still, fewer, at-first, tops-above}
use Rattle.lay_float.specs.Trials.{Tried, reaching, first_tried, next_tried, all_tried}
use Rattle.lay_flow.proofs.Levels.{IsFor, AreFor, level-there, still-for}

-- a float that `clear` names and that reaches below y
abbrev pub falls : Clear → ℤ → FloatBox → Bool
falls clear y f = is_relevant clear f && int_lt y f.box.bottom

-- some are named that reach below y exactly where their lowest bottom is below y
pub falls-is : (clear : Clear) (y : ℤ) (floats : List FloatBox) → option_map_or (int_lt y) (lowest_bottom clear floats) false ≡ list_any (falls clear y) floats
falls-is clear y floats = by (lowest_bottom clear floats) (lowest clear floats) (list_any (falls clear y) floats) refl
  where
    both : (a b : Bool) → a ≡ true → b ≡ true → (a && b) ≡ true
    both true b h k = k
    both false b h k = h

    parts : (a b : Bool) → (a && b) ≡ true → (a ≡ true) × (b ≡ true)
    parts true b h = (refl, h)
    parts false b h = absurd (cc)

    by-some : (b : ℤ) → IsLowestBottom clear floats b → (t c : Bool) → list_any (falls clear y) floats ≡ t → int_lt y b ≡ c → c ≡ t
    by-some b is true true e h = refl
    by-some b is false false e h = refl
    by-some b is true false e h =
        let some = any_in (falls clear y) floats e in
        let p = parts (is_relevant clear some.0) (int_lt y some.0.box.bottom) some.2 in
        let l = is.bound some.0 some.1 p.0 in
        absurd (let q = p.1 in grind (arith, ints))
    by-some b is false true e h =
        let r = is.reached in
        absurd (let t = any_from (falls clear y) floats r.0 r.1 (both (is_relevant clear r.0) (int_lt y r.0.box.bottom) r.2 (ap (int_lt y) r.3 ∙ h)) in cc)

    by-none : ((f : FloatBox) → Contains floats f → is_relevant clear f ≡ false) → (t : Bool) → list_any (falls clear y) floats ≡ t → false ≡ t
    by-none none false e = refl
    by-none none true e =
        let some = any_in (falls clear y) floats e in
        let p = parts (is_relevant clear some.0) (int_lt y some.0.box.bottom) some.2 in
        absurd (let n = none some.0 some.1 in let q = p.0 in cc)

    by : (o : Option ℤ) → MatchOption o ((f : FloatBox) → Contains floats f → is_relevant clear f ≡ false) (IsLowestBottom clear floats) → (t : Bool) → list_any (falls clear y) floats ≡ t → option_map_or (int_lt y) o false ≡ t
    by None none t e = by-none none t e
    by (Some b) is t e = by-some b is t (int_lt y b) e refl

module _ (tree : BoxTree) (size : Waiting ℤ → Extent ℤ) (least : Option ℤ) where
  abbrev one : Waiting ℤ → Floating
  one w = floating tree w.at (size w) w.cb

  -- each stands at the edge at which it is tried
  pub AreLevel : ℤ → List (Waiting ℤ) → List FloatBox → Type 0
  AreLevel y [] floats = Unit {0}
  AreLevel y (w ∷ ws) floats = ((float_spot (one w) floats least y).y ≡ y) × AreLevel y ws (with_float (one w) floats least y)

  kept : (y : ℤ) (ws : List (Waiting ℤ)) (floats : List FloatBox) (f : FloatBox) → Contains floats f → Contains (with_waiting tree size ws floats least y) f
  kept y [] floats f i = i
  kept y (w ∷ ws) floats f i = kept y ws (with_float (one w) floats least y) f (Contains-append_left floats _ f i)

  low-of : (side : Side) (w : Floating) (floats : List FloatBox) (t : ℤ) (at : Spot ℤ) → ObeysRules floats side w.size.width w.cb t at → IsLowEnough floats t at
  low-of of_side.Left w floats t at h = h.low_enough
  low-of of_side.Right w floats t at h = h.low_enough

  low : (y : ℤ) (w : Floating) (floats : List FloatBox) → IsLowEnough floats (float_top w.clear floats least y) (float_spot w floats least y)
  low y w floats = low-of w.side w floats (float_top w.clear floats least y) (float_spot w floats least y) (highest_is floats w.side w.size w.cb (float_top w.clear floats least y)).obeys

  -- where no top is below the edge, all stand level
  pub level-from : (y : ℤ) (ws : List (Waiting ℤ)) (floats : List FloatBox) → AreAbove y (with_waiting tree size ws floats least y) → AreLevel y ws floats
  unfolding AreLevel
  level-from y [] floats h = tt
  level-from y (w ∷ ws) floats h =
      let spot = float_spot (one w) floats least y in
      let box = placed_float (one w).side (one w).size spot in
      let a = h box (kept y ws (with_float (one w) floats least y) box (Contains-append_right floats (box ∷ []) box (first_member [] refl))) in
      let b = (low y (one w) floats).below_top in
      let c = top-from (one w).clear floats least y in
      (omega (arith, ints), level-from y ws (with_float (one w) floats least y) h)

  -- what was tried before one that stands level isn't below it
  pub level-least : (y : ℤ) (w : Waiting ℤ) (ws : List (Waiting ℤ)) (floats : List FloatBox) → AreLevel y (w ∷ ws) floats → (x : ℤ) → Contains (option_to_list least) x → x ≤ℤ y
  unfolding AreLevel
  level-least y w ws floats h x i =
      let a = top-least (one w).clear floats least y x i in
      let b = (low y (one w) floats).below_top in
      let c = h.0 in
      omega (arith, ints)

  pub level-tops : (y : ℤ) (w : Waiting ℤ) (ws : List (Waiting ℤ)) (floats : List FloatBox) → AreLevel y (w ∷ ws) floats → AreAbove y floats
  unfolding AreLevel
  level-tops y w ws floats h f i =
      let a = (low y (one w) floats).below_floats f i in
      let c = h.0 in
      omega (arith, ints)

  -- and so they do at another edge
  pub level-on : (y z : ℤ) (ws : List (Waiting ℤ)) (fs gs : List FloatBox) → AreFor y z fs gs → ((x : ℤ) → Contains (option_to_list least) x → x ≤ℤ z) → AreLevel y ws fs → AreLevel z ws gs
  unfolding AreLevel
  level-on y z [] fs gs a l h = tt
  level-on y z (w ∷ ws) fs gs a l h =
      (level-there y z fs gs a (one w) least l h.0, level-on y z ws (with_float (one w) fs least y) (with_float (one w) gs least z) (still-for y z fs gs a (one w) least l h.0) l h.1)

  -- ---- which of those that stand level reach below the edge

  abbrev pub has_height : Clear → Waiting ℤ → Bool
  has_height clear w = is_relevant clear (placed_float (one w).side (one w).size (record { x = pos 0; y = pos 0 })) && int_lt (pos 0) (size w).height

  -- where those that wait stand
  pub stood : ℤ → List (Waiting ℤ) → List FloatBox → List FloatBox
  stood y [] floats = []
  stood y (w ∷ ws) floats = placed_float (one w).side (one w).size (float_spot (one w) floats least y) ∷ stood y ws (with_float (one w) floats least y)

  pub stood-is : (y : ℤ) (ws : List (Waiting ℤ)) (floats : List FloatBox) → with_waiting tree size ws floats least y ≡ floats ++ stood y ws floats
  unfolding stood
  stood-is y [] floats = sym (append-nil floats)
  stood-is y (w ∷ ws) floats = stood-is y ws (with_float (one w) floats least y) ∙ append_assoc floats (placed_float (one w).side (one w).size (float_spot (one w) floats least y) ∷ []) (stood y ws (with_float (one w) floats least y))

  relevant-same : (clear : Clear) (w : Floating) (p q : Spot ℤ) → is_relevant clear (placed_float w.side w.size p) ≡ is_relevant clear (placed_float w.side w.size q)
  relevant-same of_clear.Nothing w p q = refl
  relevant-same of_clear.Left w p q = refl
  relevant-same of_clear.Right w p q = refl
  relevant-same of_clear.Both w p q = refl

  pub stood-falls : (clear : Clear) (y : ℤ) (ws : List (Waiting ℤ)) (floats : List FloatBox) → AreLevel y ws floats → list_any (falls clear y) (stood y ws floats) ≡ list_any (has_height clear) ws
  unfolding AreLevel stood
  stood-falls clear y [] floats h = refl
  stood-falls clear y (w ∷ ws) floats h =
      let spot = float_spot (one w) floats least y in
      let level = h.0 in
      let high : int_lt y (spot.y +ℤ (size w).height) ≡ int_lt (pos 0) (size w).height = grind (arith, ints) in
      let same = relevant-same clear (one w) spot (record { x = pos 0; y = pos 0 }) in
      ap (λ b. (b && int_lt y (spot.y +ℤ (size w).height)) || list_any (falls clear y) (stood y ws (with_float (one w) floats least y))) same
      ∙ ap (λ b. (is_relevant clear (placed_float (one w).side (one w).size (record { x = pos 0; y = pos 0 })) && b) || list_any (falls clear y) (stood y ws (with_float (one w) floats least y))) high
      ∙ ap (λ b. has_height clear w || b) (stood-falls clear y ws (with_float (one w) floats least y) h.1)

  drops : (fs gs : List FloatBox) → drop (length fs) (fs ++ gs) ≡ gs
  drops [] gs = refl
  drops (f ∷ fs) gs = drops fs gs

  -- so what is tried at one edge tells of another
  pub falls-on : (clear : Clear) (y z : ℤ) (ws : List (Waiting ℤ)) (floats : List FloatBox) → AreFor y z floats floats → ((x : ℤ) → Contains (option_to_list least) x → x ≤ℤ z) → AreLevel y ws floats
      → option_map_or (int_lt z) (lowest_bottom clear (with_waiting tree size ws floats least z)) false
      ≡ (option_map_or (int_lt z) (lowest_bottom clear floats) false || option_map_or (int_lt y) (lowest_bottom clear (drop (length floats) (with_waiting tree size ws floats least y))) false)
  falls-on clear y z ws floats a l h =
      falls-is clear z (with_waiting tree size ws floats least z)
      ∙ ap (list_any (falls clear z)) (stood-is z ws floats)
      ∙ list_any-append (falls clear z) floats (stood z ws floats)
      ∙ ap (λ b. list_any (falls clear z) floats || b) (stood-falls clear z ws floats (level-on y z ws floats floats a l h) ∙ sym (stood-falls clear y ws floats h))
      ∙ sym (ap (λ b. b || option_map_or (int_lt y) (lowest_bottom clear (drop (length floats) (with_waiting tree size ws floats least y))) false) (falls-is clear z floats)
      ∙ ap (λ b. list_any (falls clear z) floats || b)
      (ap (λ fs. option_map_or (int_lt y) (lowest_bottom clear (drop (length floats) fs)) false) (stood-is y ws floats)
      ∙ ap (λ fs. option_map_or (int_lt y) (lowest_bottom clear fs) false) (drops floats (stood y ws floats))
      ∙ falls-is clear y (stood y ws floats)))

  -- ---- those that `clear` doesn't name

  abbrev pub is_named : Clear → Waiting ℤ → Bool
  is_named clear w = is_relevant clear (placed_float (one w).side (one w).size (record { x = pos 0; y = pos 0 }))

  abbrev pub AreUnnamed : Clear → List (Waiting ℤ) → Type 0
  AreUnnamed clear ws = (w : Waiting ℤ) → Contains ws w → is_named clear w ≡ false

  unnamed-fall : (clear : Clear) (y : ℤ) (ws : List (Waiting ℤ)) (floats : List FloatBox) → AreUnnamed clear ws → list_any (falls clear y) (stood y ws floats) ≡ false
  unfolding stood
  unnamed-fall clear y [] floats none = refl
  unnamed-fall clear y (w ∷ ws) floats none =
      let spot = float_spot (one w) floats least y in
      ap (λ b. (b && int_lt y (spot.y +ℤ (size w).height)) || list_any (falls clear y) (stood y ws (with_float (one w) floats least y)))
      (relevant-same clear (one w) spot (record { x = pos 0; y = pos 0 }) ∙ none w (first_member ws refl))
      ∙ unnamed-fall clear y ws (with_float (one w) floats least y) (λ v i. none v (later_member ws i))

  waiting-on : (y : ℤ) (ws vs : List (Waiting ℤ)) (floats : List FloatBox) → with_waiting tree size (ws ++ vs) floats least y ≡ with_waiting tree size vs (with_waiting tree size ws floats least y) least y
  waiting-on y [] vs floats = refl
  waiting-on y (w ∷ ws) vs floats = waiting-on y ws vs (with_float (one w) floats least y)

  -- they needn't be tried
  pub named-alone : (clear : Clear) (y : ℤ) (ws vs : List (Waiting ℤ)) (floats : List FloatBox) → AreUnnamed clear vs
      → option_map_or (int_lt y) (lowest_bottom clear (with_waiting tree size (ws ++ vs) floats least y)) false
      ≡ option_map_or (int_lt y) (lowest_bottom clear (with_waiting tree size ws floats least y)) false
  named-alone clear y ws vs floats none =
      let tried = with_waiting tree size ws floats least y in
      falls-is clear y (with_waiting tree size (ws ++ vs) floats least y)
      ∙ ap (list_any (falls clear y)) (waiting-on y ws vs floats ∙ stood-is y vs tried)
      ∙ list_any-append (falls clear y) tried (stood y vs tried)
      ∙ ap (λ b. list_any (falls clear y) tried || b) (unnamed-fall clear y vs tried none)
      ∙ or-false (list_any (falls clear y) tried)
      ∙ sym (falls-is clear y tried)
    where
      or-false : (b : Bool) → (b || false) ≡ b
      or-false true = refl
      or-false false = refl

  -- ---- trials

  later-tops : (y : ℤ) (ws : List (Waiting ℤ)) (t : Tried) → IsTrial y t.all t.near t.level → AreAbove t.level t.all → AreAbove (all_tried tree size least ws t).level (all_tried tree size least ws t).all
  later-tops y [] t i tops = tops
  later-tops y (w ∷ ws) t i tops =
      let less = fewer y t.all t.near t.level i tops in
      later-tops y ws (next_tried (one w) least t) (still y t.all (reaching t.level t.near) t.level less (one w) least) (tops-above y t.all (reaching t.level t.near) t.level less (one w) least)

  -- no float that is tried has its top below the last one's
  pub tried-tops : (y : ℤ) (w : Waiting ℤ) (ws : List (Waiting ℤ)) (floats : List FloatBox) → AreAbove (all_tried tree size least ws (first_tried (one w) floats least y)).level (all_tried tree size least ws (first_tried (one w) floats least y)).all
  tried-tops y w ws floats =
      let i = at-first y floats in
      later-tops y ws (first_tried (one w) floats least y) (still y floats floats y i (one w) least) (tops-above y floats floats y i (one w) least)
