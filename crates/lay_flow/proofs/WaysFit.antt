-- Where the flow stays within bounds, what is computed on its ways forward fits.
use Rattle.std.proofs.Common.{◌≡◌, ℕ, zero, suc, ◌+◌, ◌*◌, ◌<◌, ◌≤◌, ◌^◌, ℤ, Bool, true, false, List, [], ◌∷◌, ◌++◌, length, slice_index_or, Option, refl, sym, ◌∙◌, ap, subst, arith}
use Rattle.std.specs.List.{AllByRecursion}
use Rattle.std.specs.Option.{option_to_list}
use Rattle.std.proofs.lemmas.Int.{ints}
use Rattle.viz_base.specs.declared.layouts.Band.{Band}
use Rattle.viz_base.specs.declared.layouts.Extent.{Extent}
use Rattle.viz_base.specs.declared.layouts.Waiting.{Waiting}
use Rattle.viz_base.specs.declared.trees.BoxTree.{BoxTree}
use Rattle.viz_base.specs.declared.worlds.World.{World}
use Rattle.viz_base.proofs.ListLemmas.{all_append}
use Rattle.layout_semantics.specs.Floats.{FloatBox}
use Rattle.layout_semantics.specs.FlowBoxes.{flow_children, inline_size, block_band}
use Rattle.layout_semantics.specs.Horizontal.{flow_widths}
use Rattle.layout_semantics.specs.InlineContent.{is_floated_at}
use Rattle.layout_semantics.specs.Order.{IsOnPage}
use Rattle.layout_semantics.specs.Clearance.{Base, hangs, stands, on_ground}
use Rattle.layout_laws.proofs.Levels.{IsFrom, All-implied}
use Rattle.layout_laws.proofs.LeadLevels.{children-from}
use Rattle.lay_margin.specs.declared.runs.Run.{Run}
use Rattle.lay_margin.specs.Fitting.{BoxFits, LeadsTo, itself}
use Rattle.lay_margin.specs.Fitting.{inside as leads_inside}
use Rattle.lay_margin.specs.Runs.{with_margin}
use Rattle.lay_margin.specs.steps.Leads.{enters, inner_band, margin_above, margin_below}
use Rattle.lay_steps.specs.Forward.{Found, End, goes_on, solid, cleared, found, kid_of, passed_box, way}
use Rattle.lay_steps.proofs.LeadCases.{found-float, found-flow}
use Rattle.lay_steps.proofs.Sound.{IsFlowKid, enters-no-line, lead-sound}
use Rattle.page_limits.specs.Bounds.{Bounds, AreInside, grown, all_around, together, IsLevelIn, IsBandIn, IsFloatIn}
use Rattle.page_limits.specs.Boxes.{AreWidthsSmall, IsWhole, IsBoxSmall}
use Rattle.page_limits.proofs.Levels.{level-wider, inside-grown, inside-more, together-append}
use Rattle.page_limits.proofs.FloatsMet.{floats-wider, band-wider}
use Rattle.page_limits.proofs.LinesWithin.{levels-wider}
use Rattle.page_limits.proofs.Rising.{rise-of-kids, rise-box, rise-float}
use Rattle.page_limits.proofs.ContentBoxes.{flow-whole}
use Rattle.page_limits.proofs.Ahead.{rise}
use Rattle.page_limits.proofs.WaysWithin as within
use Rattle.page_limits.proofs.WaysWithin.{run-with, margin-small, DoWaitIn, IsBaseIn, IsSizeIn, IsBoxFound, way-in}
use Rattle.lay_flow.specs.Low.{reach, IsBandLow, IsRunLow, IsBaseLow, IsWaitingLow}
use Rattle.lay_flow.specs.WayFits.{IsBoxLow, Stage, one, several, ComesTo, here, inside, first, later, waiting_reach, IsGoingLow, WayFits}

-- the fact of a list of boxes at a place
at-place : (P : ℕ → Type 0) (ks : List ℕ) (i : ℕ) → AllByRecursion P ks → i < length ks → P (slice_index_or ks i 0)
at-place P [] i a l = absurd (omega arith)
at-place P (k ∷ ks) zero a l = a.0
at-place P (k ∷ ks) (suc i) a l = at-place P ks i a.1 (omega (arith, l))

module _ (tree : BoxTree) (w : World) (own turned : ℕ → Bounds) (s t : ℕ) (fine : 8 * t ≤ s)
    (boxes : (k : ℕ) → IsOnPage tree.boxes k → IsWhole tree k → IsBoxSmall tree w t k) (low : s ≤ 2 ^ 80)
    (fits : (cb : Band ℤ) (k : ℕ) → IsFlowKid tree w k (inline_size cb) → is_floated_at tree k ≡ false → IsBandLow cb → BoxFits tree w cb k) where
  abbrev rises : ℕ → Bounds
  rises k = rise tree own turned s k

  abbrev Kid : Band ℤ → ℕ → Type 0
  Kid cb k = IsFlowKid tree w k (inline_size cb)

  abbrev IsRunIn : Run ℤ → Type 0
  IsRunIn run = within.IsRunLow s run

  run-low : (run : Run ℤ) → IsRunIn run → IsRunLow run
  run-low run r = let a = r.most in let b = r.least in record { most = omega (arith, a, low); least = omega (arith, b, low) }

  inner-kids : (cb : Band ℤ) (k : ℕ) → Kid cb k → is_floated_at tree k ≡ false → enters tree k ≡ true → AllByRecursion (Kid (inner_band tree w cb k)) (flow_children tree k)
  inner-kids cb k i f goes = lead-sound tree w cb k i f goes

  -- all that goes on from here stays within 2^88
  abbrev IsNarrow : Bounds → Type 0
  IsNarrow b = AreInside b (all_around (2 ^ 88))

  box-low : (b : Bounds) (cb : Band ℤ) (k : ℕ) → IsNarrow b → IsBandIn b cb → Kid cb k → is_floated_at tree k ≡ false → IsBoxLow tree w cb k
  box-low b cb k n band i f =
      let m = margin-small tree w own turned s t fine boxes cb k i f in
      let a = m.0 in let c = m.1 in
      let u = n.up in let d = n.down in let v = n.aside in
      record { fits = fits cb k i f (band-wider b reach (record { up = omega (arith, u); down = omega (arith, d); aside = omega (arith, v) }) band); above = omega (arith, a, low); below = omega (arith, c, low) }

  inner-band-in : (b : Bounds) (cb : Band ℤ) (k : ℕ) → Kid cb k → is_floated_at tree k ≡ false → IsBandIn b cb → IsBandIn (grown b (all_around (16 * s))) (inner_band tree w cb k)
  unfolding inner_band
  inner-band-in b cb k i f band =
      let x = subst (λ (z : ℤ). AreWidthsSmall t (flow_widths tree w k z)) (sym i.sound.room) (boxes k i.sound.page (flow-whole tree w k (i.flow f))).flow in
      let a = x.margin_left in let c = x.border_left in let d = x.padding_left in let e = x.content in
      let l = band.left in
      record { left = omega (arith, ints, a, c, d, l, fine); right = omega (arith, ints, a, c, d, e, l, fine) }

  -- within a box: its children together make it go on by no more than it does itself
  narrow-inside : (b : Bounds) (k : ℕ) → k < length tree.boxes → is_floated_at tree k ≡ false → enters tree k ≡ true → IsNarrow (grown b (rises k))
      → IsNarrow (grown (grown b (all_around (16 * s))) (together rises (flow_children tree k)))
  narrow-inside b k l f goes i =
      let rise_is = rise-box tree own turned s k f ∙ ap (grown (all_around (32 * (s + 1)))) (rise-of-kids tree own turned s k l (enters-no-line tree k goes)) in
      let up = ap (λ (x : Bounds). x.up) rise_is in let down = ap (λ (x : Bounds). x.down) rise_is in let aside = ap (λ (x : Bounds). x.aside) rise_is in
      let iu = i.up in let id = i.down in let ia = i.aside in
      record { up = omega (arith, up, iu); down = omega (arith, down, id); aside = omega (arith, aside, ia) }

  narrow-at : (b : Bounds) (ks : List ℕ) (i : ℕ) → i < length ks → IsNarrow (grown b (together rises ks)) → IsNarrow (grown b (rises (slice_index_or ks i 0)))
  narrow-at b [] i l n = absurd (omega (arith, l))
  narrow-at b (k ∷ ks) zero l n = let u = n.up in let d = n.down in let v = n.aside in record { up = omega (arith, u); down = omega (arith, d); aside = omega (arith, v) }
  narrow-at b (k ∷ ks) (suc i) l n =
      let u = n.up in let d = n.down in let v = n.aside in
      narrow-at b ks i (omega (arith, l)) (record { up = omega (arith, u); down = omega (arith, d); aside = omega (arith, v) })

  all-within : (k : ℕ) → AllByRecursion (λ j. j < length tree.boxes) (flow_children tree k)
  all-within k = All-implied (IsFrom tree.boxes (suc k)) (λ j. j < length tree.boxes) (flow_children tree k) (λ j h. h.within) (children-from tree k)

  lead-low : (cb : Band ℤ) (k : ℕ) (band : Band ℤ) (d : ℕ) → LeadsTo tree w cb k band d → (b : Bounds) → k < length tree.boxes → Kid cb k → is_floated_at tree k ≡ false → IsBandIn b cb → IsNarrow (grown b (rises k)) → IsBoxLow tree w band d
  unfolding inner_band
  lead-low _ _ _ _ (itself cb k) b l i f at n = box-low b cb k (inside-more b (grown b (rises k)) (all_around (2 ^ 88)) (inside-grown b (rises k)) n) at i f
  lead-low _ _ _ _ (leads_inside {cb = cb} {band = band} {b = k} {i = j} {k = d} goes lt h r) b l i f at n =
      lead-low (block_band tree w cb k) (slice_index_or (flow_children tree k) j 0) band d r (grown b (all_around (16 * s)))
      (at-place (λ m. m < length tree.boxes) (flow_children tree k) j (all-within k) lt)
      (at-place (Kid (block_band tree w cb k)) (flow_children tree k) j (inner-kids cb k i f goes) lt) h
      (inner-band-in b cb k i f at) (narrow-at (grown b (all_around (16 * s))) (flow_children tree k) j lt (narrow-inside b k l f goes n))

  module _ (size : Waiting ℤ → Extent ℤ) (base : Base) (floats : List FloatBox) (least : Option ℤ) (start : Bounds) (sized : (f : Waiting ℤ) → IsSizeIn tree w own turned s t fine boxes size base floats least start f)
      (base_in : IsBaseIn tree w own turned s t fine boxes size base floats least start base) (floats_in : AllByRecursion (IsFloatIn start) floats) (least_in : AllByRecursion (IsLevelIn start) (option_to_list least)) (p : ℕ → Bool) where
    abbrev DoesWait : Bounds → List (Waiting ℤ) → Type 0
    DoesWait b ws = DoWaitIn tree w own turned s t fine boxes size base floats least start b ws

    abbrev charges : List (Waiting ℤ) → Bounds
    charges ws = together (λ (f : Waiting ℤ). grown (own f.at) (all_around s)) ws

    abbrev go : Band ℤ → ℕ → Run ℤ → List (Waiting ℤ) → Found
    go = way (on_ground tree w size base floats least) p

    waits-wider : (b around : Bounds) (ws : List (Waiting ℤ)) → AreInside b around → DoesWait b ws → DoesWait around ws
    waits-wider b around ws i d = record {
      bands = All-implied (λ (f : Waiting ℤ). IsBandIn b f.cb) (λ (f : Waiting ℤ). IsBandIn around f.cb) ws (λ f h. band-wider b around i h) d.bands;
      room = inside-more (grown start (charges ws)) b around d.room i;
    }

    one-more-waits : (b : Bounds) (cb : Band ℤ) (k : ℕ) (ws : List (Waiting ℤ)) → is_floated_at tree k ≡ true → IsBandIn b cb → DoesWait b ws → DoesWait (grown b (rises k)) (ws ++ record { at = k; cb = cb } ∷ [])
    one-more-waits b cb k ws f band d =
        let r = d.room in
        let up = r.up in let down = r.down in let aside = r.aside in
        let all = together-append (λ (f : Waiting ℤ). grown (own f.at) (all_around s)) ws (record { at = k; cb = cb } ∷ []) in
        let au = ap (λ (x : Bounds). x.up) all in let ad = ap (λ (x : Bounds). x.down) all in let aa = ap (λ (x : Bounds). x.aside) all in
        let own_is = rise-float tree own turned s k f in
        let ou = ap (λ (x : Bounds). x.up) own_is in let od = ap (λ (x : Bounds). x.down) own_is in let oa = ap (λ (x : Bounds). x.aside) own_is in
        let i = inside-grown b (rises k) in
        record {
          bands = all_append (λ (f : Waiting ℤ). IsBandIn (grown b (rises k)) f.cb) ws (record { at = k; cb = cb } ∷ [])
              (waits-wider b (grown b (rises k)) ws i d).bands (band-wider b (grown b (rises k)) i band, tt);
          room = record { up = omega (arith, up, au, ou); down = omega (arith, down, ad, od); aside = omega (arith, aside, aa, oa) };
        }

    -- how far floats that wait can reach
    reach-in : (ws : List (Waiting ℤ)) → waiting_reach size ws ≤ (charges ws).up + (charges ws).down + (charges ws).aside
    reach-in [] = omega arith
    reach-in (f ∷ ws) =
        let i = sized f in
        let wide = i.wide in let t = i.tall.top in let u = i.tall.bottom in
        let rest = reach-in ws in
        omega (arith, ints, wide, t, u, rest)

    -- where all stays within 2^88
    going-low : (b : Bounds) (run : Run ℤ) (ws : List (Waiting ℤ)) → AreInside b (all_around (2 ^ 88)) → IsRunIn run → DoesWait b ws → IsGoingLow size run ws
    going-low b run ws i r d =
        let up = d.room.up in let down = d.room.down in let aside = d.room.aside in
        let iu = i.up in let id = i.down in let ia = i.aside in
        let all = reach-in ws in
        record {
          margins = run-low run r;
          bands = All-implied (λ (f : Waiting ℤ). IsBandIn b f.cb) IsWaitingLow ws (λ f h. band-wider b reach (record { up = omega (arith, iu); down = omega (arith, id); aside = omega (arith, ia) }) h) d.bands;
          room = omega (arith, up, down, aside, iu, id, ia, all);
        }

    -- ---- the boxes that a way comes to

    abbrev rises_at : Stage → Bounds
    rises_at (one k) = rises k
    rises_at (several ks) = together rises ks

    abbrev Stands : Band ℤ → Stage → Type 0
    Stands cb (one k) = (k < length tree.boxes) × (Kid cb k × (is_floated_at tree k ≡ false))
    Stands cb (several ks) = AllByRecursion (λ k. k < length tree.boxes) ks × AllByRecursion (Kid cb) ks

    record DoesKidGo (b : Bounds) (k : ℕ) (f : Found) : Type 0 where
      run : IsRunIn f.run
      waits : DoesWait (grown b (rises k)) f.waiting

    kid-goes : (b : Bounds) (cb : Band ℤ) (k : ℕ) (run : Run ℤ) (ws : List (Waiting ℤ)) → k < length tree.boxes → Kid cb k → IsBandIn b cb → IsRunIn run → DoesWait b ws
        → (kid_of tree w (go cb) cb run ws k).end ≡ goes_on → DoesKidGo b k (kid_of tree w (go cb) cb run ws k)
    kid-goes b cb k run ws l i band r d = by (is_floated_at tree k) refl
      where
        Goes : Found → Type 0
        Goes f = f.end ≡ goes_on → DoesKidGo b k f

        passed : (run : Run ℤ) (ws : List (Waiting ℤ)) (end : End) → is_floated_at tree k ≡ false
            → IsBoxFound tree w own turned s t fine boxes size base floats least start sized base_in floats_in least_in b k (found run ws end) → Goes (passed_box tree w cb k (found run ws end))
        passed run ws goes_on f h e = record { run = run-with s run (margin_below tree w cb k) h.run (margin-small tree w own turned s t fine boxes cb k i f).1; waits = h.end }
        passed run ws solid f h e = absurd (cc)
        passed run ws (cleared d y) f h e = absurd (cc)

        by : (f : Bool) → is_floated_at tree k ≡ f → Goes (kid_of tree w (go cb) cb run ws k)
        by true f = subst Goes (sym (found-float tree w (go cb) cb k run ws f)) (λ e. record { run = r; waits = one-more-waits b cb k ws f band d })
        by false f =
            let x = go cb k run ws in
            subst Goes (sym (found-flow tree w (go cb) cb k run ws f))
            (passed x.run x.waiting x.end f (way-in tree w own turned s t fine boxes size base floats least start sized base_in floats_in least_in p (length tree.boxes) b cb k run ws l i f band r d))

    comes-low : (cb : Band ℤ) (stage : Stage) (run : Run ℤ) (ws : List (Waiting ℤ)) (end : Run ℤ) (all : List (Waiting ℤ)) → ComesTo tree w go cb stage run ws end all
        → (b : Bounds) → Stands cb stage → IsBandIn b cb → IsRunIn run → DoesWait b ws → AreInside (grown b (rises_at stage)) (all_around (2 ^ 88)) → IsGoingLow size end all
    comes-low cb (one k) run ws _ _ here b st band r d i = going-low b run ws (inside-more b (grown b (rises k)) (all_around (2 ^ 88)) (inside-grown b (rises k)) i) r d
    comes-low cb (one k) run ws end all (inside goes c) b st band r d i =
        let f = st.1.1 in
        let kid = st.1.0 in
        let opened = grown b (all_around (16 * s)) in
        comes-low (inner_band tree w cb k) (several (flow_children tree k)) (with_margin run (margin_above tree w cb k)) ws end all c opened
        (all-within k, inner-kids cb k kid f goes)
        (inner-band-in b cb k kid f band) (run-with s run (margin_above tree w cb k) r (margin-small tree w own turned s t fine boxes cb k kid f).0)
        (waits-wider b opened ws (inside-grown b (all_around (16 * s))) d) (narrow-inside b k st.0 f goes i)
    comes-low cb (several []) run ws end all c b st band r d i = elim c [ ]
    comes-low cb (several (k ∷ ks)) run ws end all (first f c) b st band r d i =
        let iu = i.up in let id = i.down in let ia = i.aside in
        comes-low cb (one k) run ws end all c b (st.0.0, (st.1.0, f)) band r d (record { up = omega (arith, iu); down = omega (arith, id); aside = omega (arith, ia) })
    comes-low cb (several (k ∷ ks)) run ws end all (later e c) b st band r d i =
        let iu = i.up in let id = i.down in let ia = i.aside in
        let kid = kid-goes b cb k run ws st.0.0 st.1.0 band r d e in
        let x = kid_of tree w (go cb) cb run ws k in
        comes-low cb (several ks) x.run x.waiting end all c (grown b (rises k)) (st.0.1, st.1.1) (band-wider b (grown b (rises k)) (inside-grown b (rises k)) band) kid.run kid.waits
        (record { up = omega (arith, iu); down = omega (arith, id); aside = omega (arith, ia) })

    -- a way from a box, where it and all in it stay within 2^88
    pub ways-fit : (b : Bounds) (cb : Band ℤ) (k : ℕ) (run : Run ℤ) (ws : List (Waiting ℤ)) → k < length tree.boxes → Kid cb k → is_floated_at tree k ≡ false → IsBandIn b cb → IsRunIn run → DoesWait b ws
        → AreInside (grown b (rises k)) (all_around (2 ^ 88)) → WayFits (on_ground tree w size base floats least) go cb k run ws
    ways-fit b cb k run ws l i f band r d j = record {
      ground = record { edge = begin base base_in; before = floats-wider start reach floats narrow floats_in; tops = levels-wider start reach (option_to_list least) narrow least_in };
      lead = λ other n to. lead-low cb k other n to b l i f band j;
      ways = λ end all c. comes-low cb (one k) run ws end all c b (l, (i, f)) band r d j;
    }
      where
        narrow : AreInside start reach
        narrow =
            let up = d.room.up in let down = d.room.down in let aside = d.room.aside in
            let ju = j.up in let jd = j.down in let ja = j.aside in
            record { up = omega (arith, up, ju); down = omega (arith, down, jd); aside = omega (arith, aside, ja) }

        begin : (c : Base) → IsBaseIn tree w own turned s t fine boxes size base floats least start c → IsBaseLow c
        begin (hangs edge) h = level-wider start reach edge narrow h
        begin (stands edge) h = level-wider start reach edge narrow h
