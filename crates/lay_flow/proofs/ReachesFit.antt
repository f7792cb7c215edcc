-- Where a box in flow is reached within bounds, what is computed to reach it fits.
use Rattle.std.proofs.Common.{◌≡◌, ℕ, ◌*◌, ◌<◌, ◌≤◌, ◌^◌, ℤ, ◌+ℤ◌, Bool, true, false, List, [], ◌∷◌, length, Some, None, refl, sym, ap, subst, arith}
use Rattle.std.specs.Prelude.{◌==◌}
use Rattle.std.specs.List.{AllByRecursion}
use Rattle.std.specs.Option.{option_to_list}
use Rattle.std.proofs.lemmas.Bool.Decides.{nat_tests}
use Rattle.std.proofs.lemmas.Int.{ints}
use Rattle.viz_base.specs.declared.layouts.Band.{Band}
use Rattle.viz_base.specs.declared.layouts.Waiting.{Waiting}
use Rattle.viz_base.specs.declared.trees.BoxTree.{BoxTree}
use Rattle.viz_base.specs.declared.worlds.World.{World}
use Rattle.layout_semantics.specs.Flow.{Independent, Cleared}
use Rattle.layout_semantics.specs.FlowBoxes.{inline_size}
use Rattle.layout_semantics.specs.InlineContent.{is_floated_at}
use Rattle.layout_semantics.specs.Leads.{is_up_to, none_passed}
use Rattle.layout_semantics.specs.Order.{IsOnPage}
use Rattle.layout_semantics.specs.Clearance.{Base, hangs, stands}
use Rattle.lay_margin.specs.declared.runs.Run.{Run}
use Rattle.lay_margin.specs.Fitting.{BoxFits}
use Rattle.lay_margin.specs.Runs.{no_run, collapse}
use Rattle.lay_steps.specs.Flow.{Standing, at_top, below, Context, Met, met, ground_of, size_in}
use Rattle.lay_steps.specs.Forward.{End, Found, goes_on, solid, cleared, cleared_of, forward}
use Rattle.lay_steps.proofs.Sound.{IsFlowKid}
use Rattle.page_limits.specs.Bounds.{Bounds, AreInside, grown, all_around, IsLevelIn, IsBandIn, IsFloatIn}
use Rattle.page_limits.specs.Boxes.{IsWhole, IsBoxSmall, IsIndependentIn}
use Rattle.page_limits.proofs.Levels.{inside-grown}
use Rattle.page_limits.proofs.FloatsMet.{floats-wider, band-wider}
use Rattle.page_limits.proofs.LinesWithin.{levels-wider}
use Rattle.page_limits.proofs.Ahead.{IsPending, rise, ahead, ahead-level, match-pending}
use Rattle.page_limits.proofs.WaysWithin as within
use Rattle.page_limits.proofs.WaysWithin.{IsBaseIn, IsSizeIn, IsBoxFound, IsBoxEndIn, way-in}
use Rattle.page_limits.proofs.BoxesWithin.{none-low}
use Rattle.page_limits.proofs.FlowWithin.{IsContextIn, IsStandingIn}
use Rattle.lay_flow.specs.Low.{IsBandLow, IsClearedLow, IsRunLow, IsStandingLow}
use Rattle.lay_flow.specs.WayFits.{ForwardFits, FromFits, StandingFits, ReachFits}
use Rattle.lay_steps.specs.Flow.{reached_from, reached_of}
use Rattle.lay_flow.proofs.WaysFit.{ways-fit}

module _ (tree : BoxTree) (w : World) (own turned : ℕ → Bounds) (s t : ℕ) (fine : 8 * t ≤ s)
    (boxes : (k : ℕ) → IsOnPage tree.boxes k → IsWhole tree k → IsBoxSmall tree w t k) (low : s ≤ 2 ^ 80)
    (fits : (cb : Band ℤ) (k : ℕ) → IsFlowKid tree w k (inline_size cb) → is_floated_at tree k ≡ false → IsBandLow cb → BoxFits tree w cb k)
    (apart : ℕ → Independent) (independent_in : (k : ℕ) → IsIndependentIn (own k) s (apart k)) (cb : Band ℤ) (c : Context) (k : ℕ)
    (l : k < length tree.boxes) (i : IsFlowKid tree w k (inline_size cb)) (f : is_floated_at tree k ≡ false) where
  abbrev rises : ℕ → Bounds
  rises j = rise tree own turned s j

  abbrev near : Bounds → Bounds
  near b = grown b (all_around (4 * s))

  abbrev IsNarrow : Bounds → Type 0
  IsNarrow b = AreInside b (all_around (2 ^ 88))

  abbrev IsBegun : Bounds → Base → Type 0
  IsBegun b base = IsBaseIn tree w own turned s t fine boxes (size_in apart) base c.floats c.least b base

  sized : (base : Base) (b : Bounds) (g : Waiting ℤ) → IsSizeIn tree w own turned s t fine boxes (size_in apart) base c.floats c.least b g
  unfolding size_in
  sized base b g = let a = independent_in g.at in record { wide = a.width; tall = a.height }

  forward-fits : (b : Bounds) (base : Base) (passed : ℕ → Bool) (run : Run ℤ) → IsBegun b base → AllByRecursion (IsFloatIn b) c.floats → AllByRecursion (IsLevelIn b) (option_to_list c.least) → IsBandIn b cb
      → within.IsRunLow s run → IsNarrow (grown b (rises k)) → ForwardFits tree w apart cb c k base passed run
  forward-fits b base passed run begun floats least band r n =
      ways-fit tree w own turned s t fine boxes low fits (size_in apart) base c.floats c.least b (sized base b) begun floats least passed b cb k run [] l i f band r
      (record { bands = tt; room = record { up = omega arith; down = omega arith; aside = omega arith } }) n

  found-in : (b : Bounds) (base : Base) (passed : ℕ → Bool) (run : Run ℤ) (begun : IsBegun b base) (floats : AllByRecursion (IsFloatIn b) c.floats) (least : AllByRecursion (IsLevelIn b) (option_to_list c.least)) → IsBandIn b cb
      → within.IsRunLow s run → IsBoxFound tree w own turned s t fine boxes (size_in apart) base c.floats c.least b (sized base b) begun floats least b k (forward (ground_of tree w apart base c) passed cb k run)
  found-in b base passed run begun floats least band r =
      way-in tree w own turned s t fine boxes (size_in apart) base c.floats c.least b (sized base b) begun floats least passed (length tree.boxes) b cb k run [] l i f band r
      (record { bands = tt; room = record { up = omega arith; down = omega arith; aside = omega arith } })

  -- the box that is cleared where a way ends is low
  end-low : (b : Bounds) (base : Base) (begun : IsBegun b base) (floats : AllByRecursion (IsFloatIn b) c.floats) (least : AllByRecursion (IsLevelIn b) (option_to_list c.least)) (ws : List (Waiting ℤ)) (end : End) → IsNarrow (grown b (rises k))
      → IsBoxEndIn tree w own turned s t fine boxes (size_in apart) base c.floats c.least b (sized base b) begun floats least b k ws end → IsClearedLow (cleared_of end)
  end-low b base begun floats least ws goes_on n q = tt
  end-low b base begun floats least ws solid n q = tt
  end-low b base begun floats least ws (cleared d y) n q =
      let a = ahead-level tree own turned s b (k ∷ []) d y (q.0 []) in
      let at = a.top in let ab = a.bottom in let u = n.up in let v = n.down in
      record { top = omega (arith, ints, at, u); bottom = omega (arith, ints, ab, v) }

  -- the way of the box itself, from its edge
  from-edge : (b : Bounds) (edge : ℤ) → IsLevelIn (near b) edge → AllByRecursion (IsFloatIn b) c.floats → AllByRecursion (IsLevelIn b) (option_to_list c.least) → IsBandIn b cb → IsNarrow (grown (near b) (rises k))
      → ForwardFits tree w apart cb c k (stands edge) (is_up_to k) no_run
  from-edge b edge e floats least band n =
      let wide = inside-grown b (all_around (4 * s)) in
      forward-fits (near b) (stands edge) (is_up_to k) no_run e (floats-wider b (near b) c.floats wide floats) (levels-wider b (near b) (option_to_list c.least) wide least) (band-wider b (near b) wide band) (none-low s) n

  -- where it is reached, and what is ahead of it
  pub reach-fits : (b : Bounds) (ks : List ℕ) → IsBandIn b cb → IsContextIn tree w own turned s t fine boxes apart independent_in b (k ∷ ks) c → IsStandingLow c.standing → IsNarrow (grown (near b) (rises k))
      → ReachFits tree w apart cb c k
  reach-fits b ks band h low_is n = by c.standing h.standing low_is
    where
      narrow : IsNarrow (grown b (rises k))
      narrow = let u = n.up in let d = n.down in let v = n.aside in record { up = omega (arith, u); down = omega (arith, d); aside = omega (arith, v) }

      from : (edge : ℤ) → IsLevelIn (near b) edge → ForwardFits tree w apart cb c k (stands edge) (is_up_to k) no_run
      from edge e = from-edge b edge e h.floats h.least band n

      run-low : (run : Run ℤ) → within.IsRunLow s run → IsRunLow run
      run-low run r = let a = r.most in let d = r.least in record { most = omega (arith, a, low); least = omega (arith, d, low) }

      same-edge : (d : ℕ) (e edge : ℤ) → ◌≡◌ {A = Cleared} (Some (d, e)) (Some (k, edge)) → (k ≡ d) × (edge ≡ e)
      same-edge d e edge q = (sym (ap (λ (o : Cleared). (pick o).0) q), sym (ap (λ (o : Cleared). (pick o).1) q))
        where
          pick : Cleared → ℕ × ℤ
          pick None = (d, e)
          pick (Some x) = x

      ended : (base : Base) (begun : IsBegun b base) (ws : List (Waiting ℤ)) (end : End) → IsBoxEndIn tree w own turned s t fine boxes (size_in apart) base c.floats c.least b (sized base b) begun h.floats h.least b k ws end
          → FromFits tree w apart cb c k (cleared_of end)
      ended base begun ws goes_on q = (tt, λ edge e. absurd (cc))
      ended base begun ws solid q = (tt, λ edge e. absurd (cc))
      ended base begun ws (cleared d y) q = (
        end-low b base begun h.floats h.least ws (cleared d y) narrow q,
        λ edge e. (let both = same-edge d y edge e in
            from edge (subst (λ (z : ℤ). IsLevelIn (near b) z) (sym both.1) (match-pending tree own turned s b k ks d y both.0 f (ahead (q.0 ks))))),
      )

      by : (st : Standing) → IsStandingIn tree w own turned s t fine boxes apart independent_in b (k ∷ ks) st → IsStandingLow st → StandingFits tree w apart cb c k st
      by (at_top y None) q o = (o.0, (tt, λ edge e. absurd (cc)))
      by (at_top y (Some d)) q o = (
        o.0,
        (
          o.1,
          λ edge e. (let both = same-edge d.0 d.1 edge e in
              from edge (subst (λ (z : ℤ). IsLevelIn (near b) z) (sym both.1) (match-pending tree own turned s b k ks d.0 d.1 both.0 f q.1))),
        ),
      )
      by (below edge run stuck) q o =
          let found = found-in b (hangs edge) none_passed run q.0 h.floats h.least band q.1 in
          let x = forward (ground_of tree w apart (hangs edge) c) none_passed cb k run in
          (o.0, o.1, forward-fits b (hangs edge) none_passed run q.0 h.floats h.least band q.1 narrow, run-low x.run found.run, ended (hangs edge) q.0 x.waiting x.end found.end)

  -- the box that is cleared ahead of it is low
  pub ahead-of-reached-low : (b : Bounds) (ks : List ℕ) → IsBandIn b cb → IsContextIn tree w own turned s t fine boxes apart independent_in b (k ∷ ks) c → IsStandingLow c.standing → IsNarrow (grown (near b) (rises k))
      → IsClearedLow (reached_of tree w apart cb c k).reached.cleared
  unfolding reached_of reached_from
  ahead-of-reached-low b ks band h low_is n = by c.standing h.standing low_is
    where
      wide : AreInside b (near b)
      wide = inside-grown b (all_around (4 * s))

      narrow : IsNarrow (grown b (rises k))
      narrow = let u = n.up in let d = n.down in let v = n.aside in record { up = omega (arith, u); down = omega (arith, d); aside = omega (arith, v) }

      same-number : (d : ℕ) → (d == k) ≡ true → k ≡ d
      same-number d e = grind (arith, nat_tests)

      -- where it is cleared itself
      itself : (edge : ℤ) → IsLevelIn (near b) edge → IsClearedLow (cleared_of (forward (ground_of tree w apart (stands edge) c) (is_up_to k) cb k no_run).end)
      itself edge e =
          let floats = floats-wider b (near b) c.floats wide h.floats in
          let least = levels-wider b (near b) (option_to_list c.least) wide h.least in
          let x = forward (ground_of tree w apart (stands edge) c) (is_up_to k) cb k no_run in
          end-low (near b) (stands edge) e floats least x.waiting x.end n (found-in (near b) (stands edge) (is_up_to k) no_run e floats least (band-wider b (near b) wide band) (none-low s)).end

      from : (y : ℤ) (o : Cleared) (r : Run ℤ) → IsPending tree own turned s b (k ∷ ks) o → IsClearedLow o → IsClearedLow (reached_from tree w apart cb c k y o r).reached.cleared
      from y None r p l = tt
      from y (Some d) r p l = by_match (d.0 == k) refl
        where
          own_way : Found
          own_way = forward (ground_of tree w apart (stands d.1) c) (is_up_to k) cb k no_run

          by_match : (m : Bool) → (d.0 == k) ≡ m → IsClearedLow (elim m as (λ _. Met) [
            | true ↦ met (record { top = d.1; clears = true; cleared = cleared_of own_way.end }) own_way.run
            | false ↦ met (record { top = y; clears = false; cleared = Some d }) r
          ]).reached.cleared
          by_match true e = itself d.1 (match-pending tree own turned s b k ks d.0 d.1 (same-number d.0 e) f p)
          by_match false e = l

      pending : (base : Base) (begun : IsBegun b base) (ws : List (Waiting ℤ)) (end : End) → IsBoxEndIn tree w own turned s t fine boxes (size_in apart) base c.floats c.least b (sized base b) begun h.floats h.least b k ws end
          → IsPending tree own turned s b (k ∷ ks) (cleared_of end)
      pending base begun ws goes_on q = tt
      pending base begun ws solid q = tt
      pending base begun ws (cleared d y) q = ahead (q.0 ks)

      by : (st : Standing) → IsStandingIn tree w own turned s t fine boxes apart independent_in b (k ∷ ks) st → IsStandingLow st → IsClearedLow (reached_of tree w apart cb (record c { standing = st }) k).reached.cleared
      by (at_top y next) q o = from y next no_run q.1 o.1
      by (below edge run stuck) q o =
          let found = found-in b (hangs edge) none_passed run q.0 h.floats h.least band q.1 in
          let x = forward (ground_of tree w apart (hangs edge) c) none_passed cb k run in
          from (edge +ℤ collapse x.run) (cleared_of x.end) x.run (pending (hangs edge) q.0 x.waiting x.end found.end) (end-low b (hangs edge) q.0 h.floats h.least x.waiting x.end narrow found.end)
