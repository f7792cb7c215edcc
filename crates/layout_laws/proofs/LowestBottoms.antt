-- The lowest bottom of floats, and where a cleared box stands.
use Rattle.std.proofs.Common.{◌≡◌, ℕ, zero, suc, ℤ, ◌≤ℤ◌, Bool, true, false, IsTrue, List, [], ◌∷◌, ◌++◌, map, filter, Contains, Option, Some, None, MatchOption, refl, sym, subst, inl, inr, ◌⊎◌, ⊎_elim, arith}
use Rattle.std.specs.Option.{option_map_or}
use Rattle.std.proofs.lemmas.Int.{ints}
use Rattle.std.proofs.lemmas.List.Elements.{Contains-append_left}
use Rattle.viz_base.specs.declared.layouts.Band.{Band}
use Rattle.viz_base.specs.declared.layouts.Extent.{Extent}
use Rattle.viz_base.specs.declared.layouts.LeadEnd.{LeadEnd}
use Rattle.viz_base.specs.declared.layouts.LeadEnd.TheVariants as of_end
use Rattle.viz_base.specs.declared.layouts.Waiting.{Waiting}
use Rattle.viz_base.specs.declared.styles.Clear.{Clear}
use Rattle.viz_base.specs.declared.trees.BoxTree.{BoxTree}
use Rattle.viz_base.proofs.ListLemmas.{later_member}
use Rattle.layout_semantics.specs.Extremes.{greatest_from}
use Rattle.layout_semantics.specs.Floats.{FloatBox, is_relevant, lowest_bottom, floating, with_float}
use Rattle.layout_semantics.specs.FlowBoxes.{clear_of}
use Rattle.layout_semantics.specs.Leads.{Leading, is_up_to, lead}
use Rattle.layout_semantics.specs.Clearance.{run_end, Ground, Resolved, with_waiting, is_cleared, cleared_edge, resolve_step, resolve_to}
use Rattle.layout_laws.specs.Clearance.{IsLowestBottom}
use Rattle.layout_laws.proofs.Members.{no_member, first_member, first_or_later, from_filter, to_filter, to_map, from_map}
use Rattle.layout_laws.proofs.Extremes.{below_greatest, start_below_greatest, greatest_is_one}

module _ (clear : Clear) (floats : List FloatBox) where
  abbrev relevant : List FloatBox
  relevant = filter (is_relevant clear) floats

  abbrev bottom : FloatBox → ℤ
  bottom f = f.box.bottom

  none_is : relevant ≡ [] → lowest_bottom clear floats ≡ None
  none_is e = rw e refl

  some_is : (f : FloatBox) (fs : List FloatBox) → relevant ≡ f ∷ fs → lowest_bottom clear floats ≡ Some (greatest_from f.box.bottom (map bottom fs))
  some_is f fs e = rw e refl

  abbrev Answer : Option ℤ → Type 0
  Answer answer = MatchOption answer ((f : FloatBox) → Contains floats f → is_relevant clear f ≡ false) (IsLowestBottom clear floats)

  named : (f : FloatBox) → Contains floats f → IsTrue (is_relevant clear f) → Contains relevant f
  named f i r = to_filter (is_relevant clear) floats f i r

  when_none : relevant ≡ [] → (f : FloatBox) → Contains floats f → is_relevant clear f ≡ false
  when_none e f i = by (is_relevant clear f) refl
    where
      by : (b : Bool) → is_relevant clear f ≡ b → b ≡ false
      by true t = no_member (subst (λ (fs : List FloatBox). Contains fs f) e (named f i t))
      by false t = refl

  when_some : (g : FloatBox) (gs : List FloatBox) → relevant ≡ g ∷ gs → IsLowestBottom clear floats (greatest_from g.box.bottom (map bottom gs))
  when_some g gs e = record {
    bound = λ f i r. of_member f (to_map bottom (g ∷ gs) f (subst (λ (fs : List FloatBox). Contains fs f) e (named f i r)));
    reached = to_member (greatest_is_one g.box.bottom (map bottom gs));
  }
    where
      of_member : (f : FloatBox) → Contains (map bottom (g ∷ gs)) f.box.bottom → f.box.bottom ≤ℤ greatest_from g.box.bottom (map bottom gs)
      of_member f i =
          ⊎_elim
          (λ same. let t = start_below_greatest g.box.bottom (map bottom gs) in omega (arith, ints, same))
          (λ j. below_greatest g.box.bottom (map bottom gs) f.box.bottom j)
          (first_or_later g.box.bottom (map bottom gs) f.box.bottom i)

      of_named : (f : FloatBox) → Contains (g ∷ gs) f → (f.box.bottom ≡ greatest_from g.box.bottom (map bottom gs)) → (f : FloatBox) × Contains floats f × IsTrue (is_relevant clear f) × (f.box.bottom ≡ greatest_from g.box.bottom (map bottom gs))
      of_named f i same = let r = from_filter (is_relevant clear) floats f (subst (λ (fs : List FloatBox). Contains fs f) (sym e) i) in (f, r.0, r.1, same)

      to_member : ((greatest_from g.box.bottom (map bottom gs) ≡ g.box.bottom) ⊎ Contains (map bottom gs) (greatest_from g.box.bottom (map bottom gs)))
          → (f : FloatBox) × Contains floats f × IsTrue (is_relevant clear f) × (f.box.bottom ≡ greatest_from g.box.bottom (map bottom gs))
      to_member (inl same) = of_named g (first_member gs refl) (sym same)
      to_member (inr i) = let f = from_map bottom gs (greatest_from g.box.bottom (map bottom gs)) i in of_named f.0 (later_member gs f.1) f.2

  pub lowest : Answer (lowest_bottom clear floats)
  lowest = by relevant refl
    where
      by : (fs : List FloatBox) → relevant ≡ fs → Answer (lowest_bottom clear floats)
      by [] e = subst Answer (sym (none_is e)) (when_none e)
      by (g ∷ gs) e = subst Answer (sym (some_is g gs e)) (when_some g gs e)

  -- of a float that it names the answer is no less than its bottom
  pub no_higher : (least : ℤ) (f : FloatBox) → Contains floats f → IsTrue (is_relevant clear f) → f.box.bottom ≤ℤ option_map_or (λ y. y) (lowest_bottom clear floats) least
  no_higher least f i r = by (lowest_bottom clear floats) lowest
    where
      by : (answer : Option ℤ) → Answer answer → f.box.bottom ≤ℤ option_map_or (λ y. y) answer least
      by None none = absurd (let t = none f i in cc)
      by (Some y) is = is.bound f i r

-- ---- floats that are placed stay in the list

kept : (tree : BoxTree) (size : Waiting ℤ → Extent ℤ) (fs : List (Waiting ℤ)) (floats : List FloatBox) (least : Option ℤ) (y : ℤ) (f : FloatBox) → Contains floats f → Contains (with_waiting tree size fs floats least y) f
kept tree size [] floats least y f i = i
kept tree size (g ∷ gs) floats least y f i = kept tree size gs (with_float (floating tree g.at (size g) g.cb) floats least y) least y f (Contains-append_left floats _ f i)

-- ---- a cleared box

module _ (g : Ground) (run : List ℤ) (d : ℕ) (y : ℤ) where
  abbrev Stands : Type 0
  Stands = (f : FloatBox) → Contains g.floats f → IsTrue (is_relevant (clear_of g.tree d) f) → f.box.bottom ≤ℤ y

  abbrev edge_of : Leading → ℕ → ℤ
  edge_of found at = cleared_edge g run found at

  below_floats : (found : Leading) (f : FloatBox) → Contains g.floats f → IsTrue (is_relevant (clear_of g.tree d) f) → f.box.bottom ≤ℤ edge_of found d
  below_floats found f i r = no_higher (clear_of g.tree d) (with_waiting g.tree g.size found.waiting g.floats g.least (run_end g.base (run ++ found.margins))) (run_end g.base (run ++ found.margins)) f
      (kept g.tree g.size found.waiting g.floats g.least (run_end g.base (run ++ found.margins)) f i) r

  abbrev Ends : Option (ℕ × ℤ) → Type 0
  Ends o = MatchOption o (⊥) (λ p. (p.0 ≡ d) × (p.1 ≡ y))

  ends : (o : Option (ℕ × ℤ)) → o ≡ Some (d, y) → Ends o
  ends o e = subst Ends (sym e) (refl, refl)

  step : (go_on : ℕ → Resolved) → ((at : ℕ) → (go_on at).cleared ≡ Some (d, y) → Stands) → (found : Leading) → (resolve_step g run go_on found).cleared ≡ Some (d, y) → Stands
  step go_on rest found h = by_end found.end refl h
    where
      cleared_here : (at : ℕ) → at ≡ d → edge_of found at ≡ y → Stands
      cleared_here at same e f i r =
          let t = subst (λ (z : ℕ). edge_of found z ≡ y) same e in
          let l = below_floats found f i r in omega (arith, ints, t)

      by_clearance : (at : ℕ) (c : Bool) → found.end ≡ of_end.Cleared at → is_cleared g run found at ≡ c → (resolve_step g run go_on found).cleared ≡ Some (d, y) → Stands
      by_clearance at true e c h = let k = rw (e, c) at h in let t = ends (Some (at, edge_of found at)) k in cleared_here at t.0 t.1
      by_clearance at false e c h = rest at (rw (e, c) at h)

      by_end : (end : LeadEnd) → found.end ≡ end → (resolve_step g run go_on found).cleared ≡ Some (d, y) → Stands
      by_end of_end.Through e h = absurd (ends None (rw e at h))
      by_end (of_end.Solid at) e h = absurd (ends None (rw e at h))
      by_end (of_end.Cleared at) e h = by_clearance at (is_cleared g run found at) e refl h

  pub stands : (cb : Band ℤ) (b left : ℕ) (passed : ℕ → Bool) → (resolve_to g run cb b left passed).cleared ≡ Some (d, y) → Stands
  unfolding resolve_to
  stands cb b zero passed h = absurd (ends None h)
  stands cb b (suc left) passed h = step (λ at. resolve_to g run cb b left (is_up_to at)) (λ at k. stands cb b left (is_up_to at) k) (lead g.tree g.world passed cb b) h
