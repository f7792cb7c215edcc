-- On the way forward to the next box that is cleared, all stays within bounds.
use Rattle.std.proofs.Common.{◌≡◌, ℕ, zero, suc, ◌+◌, ◌*◌, ◌<◌, ◌≤◌, ℤ, ◌+ℤ◌, unsigned_abs, Bool, true, false, List, [], ◌∷◌, ◌++◌, length, Contains, Option, Some, None, refl, sym, ◌∙◌, ap, subst, arith}
use Rattle.std.specs.Prelude.{unwrap_or}
use Rattle.std.specs.List.{AllByRecursion}
use Rattle.std.specs.Option.{option_to_list}
use Rattle.std.proofs.lemmas.Int.{ints, clamps}
use Rattle.viz_base.specs.declared.layouts.Band.{Band}
use Rattle.viz_base.specs.declared.layouts.Extent.{Extent}
use Rattle.viz_base.specs.declared.layouts.Waiting.{Waiting}
use Rattle.viz_base.specs.declared.trees.BoxTree.{BoxTree}
use Rattle.viz_base.specs.declared.worlds.World.{World}
use Rattle.viz_base.proofs.ListLemmas.{all_append, later_member}
use Rattle.layout_semantics.specs.Clearance.{Base, hangs, stands, with_waiting, on_ground}
use Rattle.layout_semantics.specs.Floats.{FloatBox, floating, with_float, lowest_bottom}
use Rattle.layout_semantics.specs.FlowBoxes.{clear_of, may_collapse_through, flow_children, inline_size}
use Rattle.layout_semantics.specs.Horizontal.{flow_widths}
use Rattle.layout_semantics.specs.InlineContent.{is_floated_at, has_line}
use Rattle.layout_semantics.specs.Order.{IsOnPage}
use Rattle.layout_semantics.specs.Verticals.{verticals}
use Rattle.layout_laws.proofs.Greatest.{All-at}
use Rattle.layout_laws.proofs.Levels.{IsFrom, All-implied}
use Rattle.layout_laws.proofs.LeadLevels.{children-from}
use Rattle.layout_laws.proofs.Members.{first_member}
use Rattle.lay_margin.specs.declared.runs.Run.{Run}
use Rattle.lay_margin.specs.Runs.{with_margin, collapse}
use Rattle.lay_margin.specs.steps.Leads.{enters, stops, inner_band, margin_above, margin_below}
use Rattle.lay_steps.specs.Runs.{edge_at}
use Rattle.lay_steps.specs.Forward.{End, goes_on, solid, cleared, Found, found, then_on, decided_found, closed_found, passed_box, kid_of, bottom_to_clear, clear_edge, is_to_clear, forward_to}
use Rattle.lay_steps.proofs.LeadCases.{found-float, found-flow, closed-through, closed-stops, way_to, kids_way, inner_way, decision, entered, way-stops, way-enters}
use Rattle.lay_steps.proofs.Sound.{IsFlowKid, enters-no-line, lead-sound}
use Rattle.page_limits.specs.Bounds.{Bounds, AreInside, grown, no_bounds, all_around, together, IsLevelIn, IsBandIn, IsExtentIn, IsFloatIn, levels_of}
use Rattle.page_limits.specs.Inline.{IsSmall}
use Rattle.page_limits.specs.Boxes.{AreWidthsSmall, AreSidesSmall, IsWhole, IsBoxSmall}
use Rattle.page_limits.proofs.Levels.{level-wider, inside-grown, inside-more, together-append}
use Rattle.page_limits.proofs.FloatSpots.{lowest-in, with-float}
use Rattle.page_limits.proofs.FloatsMet.{floats-wider, band-wider}
use Rattle.page_limits.proofs.LinesWithin.{levels-wider}
use Rattle.page_limits.proofs.Rising.{rise-of-kids, rise-box, rise-float}
use Rattle.page_limits.proofs.ContentBoxes.{flow-whole}
use Rattle.page_limits.proofs.Ahead.{IsBeforeIn, AreRising, flow-rises, rise, Ahead, here, inside, later}

-- ---- runs of margins

pub record IsRunLow (s : ℕ) (run : Run ℤ) : Type 0 where
  pub most : IsSmall s run.pos
  pub least : IsSmall s run.neg

pub run-with : (s : ℕ) (run : Run ℤ) (m : ℤ) → IsRunLow s run → IsSmall s m → IsRunLow s (with_margin run m)
run-with s run m r l = let a = r.most in let b = r.least in record { most = omega (arith, ints, clamps, a, l); least = omega (arith, ints, clamps, b, l) }

pub collapse-small : (s : ℕ) (run : Run ℤ) → IsRunLow s run → unsigned_abs (collapse run) ≤ 2 * s
collapse-small s run r = let a = r.most in let b = r.least in omega (arith, ints, a, b)

-- a height somewhat higher or lower
pub level-near : (b : Bounds) (n : ℕ) (y z : ℤ) → IsLevelIn b y → unsigned_abs z ≤ n → IsLevelIn (grown b (all_around n)) (y +ℤ z)
level-near b n y z h l = let t = h.top in let u = h.bottom in record { top = omega (arith, ints, l); bottom = omega (arith, ints, l) }

module _ (tree : BoxTree) (w : World) (own turned : ℕ → Bounds) (s t : ℕ) (fine : 8 * t ≤ s)
    (boxes : (k : ℕ) → IsOnPage tree.boxes k → IsWhole tree k → IsBoxSmall tree w t k) where
  abbrev rises : ℕ → Bounds
  rises k = rise tree own turned s k

  abbrev Kid : Band ℤ → ℕ → Type 0
  Kid cb k = IsFlowKid tree w k (inline_size cb)

  pub margin-small : (cb : Band ℤ) (k : ℕ) → Kid cb k → is_floated_at tree k ≡ false → IsSmall s (margin_above tree w cb k) × IsSmall s (margin_below tree w cb k)
  unfolding margin_above margin_below
  margin-small cb k i f =
      let v = subst (λ (z : ℤ). AreSidesSmall t (verticals tree w k z)) (sym i.sound.room) (boxes k i.sound.page (flow-whole tree w k (i.flow f))).sides in
      let a = v.margin_top in
      let b = v.margin_bottom in
      (omega (arith, a, fine), omega (arith, b, fine))

  inner-band-in : (b : Bounds) (cb : Band ℤ) (k : ℕ) → Kid cb k → is_floated_at tree k ≡ false → IsBandIn b cb → IsBandIn (grown b (all_around (16 * s))) (inner_band tree w cb k)
  unfolding inner_band
  inner-band-in b cb k i f band =
      let x = subst (λ (z : ℤ). AreWidthsSmall t (flow_widths tree w k z)) (sym i.sound.room) (boxes k i.sound.page (flow-whole tree w k (i.flow f))).flow in
      let a = x.margin_left in let c = x.border_left in let d = x.padding_left in let e = x.content in
      let l = band.left in
      record { left = omega (arith, ints, a, c, d, l, fine); right = omega (arith, ints, a, c, d, e, l, fine) }

  module _ (size : Waiting ℤ → Extent ℤ) (base : Base) (floats : List FloatBox) (least : Option ℤ) (start : Bounds) where
    pub record IsSizeIn (f : Waiting ℤ) : Type 0 where
      pub wide : IsSmall s (size f).width
      pub tall : IsLevelIn (own f.at) (size f).height

    abbrev pub IsBaseIn : Base → Type 0
    IsBaseIn (hangs edge) = IsLevelIn start edge
    IsBaseIn (stands edge) = IsLevelIn start edge

    -- ---- floats that wait

    abbrev wait_charge : Waiting ℤ → Bounds
    wait_charge f = grown (own f.at) (all_around s)

    abbrev wait_charges : List (Waiting ℤ) → Bounds
    wait_charges ws = together wait_charge ws

    pub record DoWaitIn (b : Bounds) (ws : List (Waiting ℤ)) : Type 0 where
      pub bands : AllByRecursion (λ (f : Waiting ℤ). IsBandIn b f.cb) ws
      pub room : AreInside (grown start (wait_charges ws)) b

    waits-wider : (b around : Bounds) (ws : List (Waiting ℤ)) → AreInside b around → DoWaitIn b ws → DoWaitIn around ws
    waits-wider b around ws i d = record {
      bands = All-implied (λ (f : Waiting ℤ). IsBandIn b f.cb) (λ (f : Waiting ℤ). IsBandIn around f.cb) ws (λ f h. band-wider b around i h) d.bands;
      room = inside-more (grown start (wait_charges ws)) b around d.room i;
    }

    one-more-waits : (b : Bounds) (cb : Band ℤ) (k : ℕ) (ws : List (Waiting ℤ)) → is_floated_at tree k ≡ true → IsBandIn b cb → DoWaitIn b ws → DoWaitIn (grown b (rises k)) (ws ++ record { at = k; cb = cb } ∷ [])
    one-more-waits b cb k ws f band d =
        let r = d.room in
        let up = r.up in let down = r.down in let aside = r.aside in
        let all = together-append wait_charge ws (record { at = k; cb = cb } ∷ []) in
        let au = ap (λ (x : Bounds). x.up) all in let ad = ap (λ (x : Bounds). x.down) all in let aa = ap (λ (x : Bounds). x.aside) all in
        let own_is = rise-float tree own turned s k f in
        let ou = ap (λ (x : Bounds). x.up) own_is in let od = ap (λ (x : Bounds). x.down) own_is in let oa = ap (λ (x : Bounds). x.aside) own_is in
        let inside = inside-grown b (rises k) in
        record {
          bands = all_append (λ (f : Waiting ℤ). IsBandIn (grown b (rises k)) f.cb) ws (record { at = k; cb = cb } ∷ [])
              (All-implied (λ (f : Waiting ℤ). IsBandIn b f.cb) (λ (f : Waiting ℤ). IsBandIn (grown b (rises k)) f.cb) ws (λ f h. band-wider b (grown b (rises k)) inside h) d.bands)
              (band-wider b (grown b (rises k)) inside band, tt);
          room = record { up = omega (arith, up, au, ou); down = omega (arith, down, ad, od); aside = omega (arith, aside, aa, oa) };
        }

    placed-in : (b : Bounds) (fs : List FloatBox) (y : ℤ) (ws : List (Waiting ℤ)) → ((f : Waiting ℤ) → IsSizeIn f) → AllByRecursion (IsFloatIn b) fs → AllByRecursion (IsLevelIn b) (levels_of least y) → AllByRecursion (λ (f : Waiting ℤ). IsBandIn b f.cb) ws
        → AllByRecursion (IsFloatIn (grown b (wait_charges ws))) (with_waiting tree size ws fs least y)
    placed-in b fs y [] sized a l h = floats-wider b (grown b no_bounds) fs (inside-grown b no_bounds) a
    placed-in b fs y (f ∷ ws) sized a l h =
        let extent : Bounds = record { up = (own f.at).up; down = (own f.at).down; aside = s } in
        let next = grown b (wait_charge f) in
        let i = inside-grown b (wait_charge f) in
        let is = sized f in
        let e : IsExtentIn extent (size f) = record { width = is.wide; height = record { top = is.tall.top; bottom = is.tall.bottom } } in
        let more = with_float (floating tree f.at (size f) f.cb) fs least y in
        let placed = floats-wider (grown b extent) next more (record { up = omega arith; down = omega arith; aside = omega arith }) (with-float b extent (floating tree f.at (size f) f.cb) fs least y a l h.0 e) in
        floats-wider (grown next (wait_charges ws)) (grown b (wait_charges (f ∷ ws))) (with_waiting tree size ws more least y) (record { up = omega arith; down = omega arith; aside = omega arith })
        (placed-in next more y ws sized placed (levels-wider b next (levels_of least y) i l) (All-implied (λ (g : Waiting ℤ). IsBandIn b g.cb) (λ (g : Waiting ℤ). IsBandIn next g.cb) ws (λ g q. band-wider b next i q) h.1))

    module _ (sized : (f : Waiting ℤ) → IsSizeIn f) (base_in : IsBaseIn base) (floats_in : AllByRecursion (IsFloatIn start) floats) (least_in : AllByRecursion (IsLevelIn start) (option_to_list least)) where
      edge-in : (run : Run ℤ) → IsRunLow s run → IsLevelIn (grown start (all_around (2 * s))) (edge_at base run)
      edge-in run r = by base base_in
        where
          by : (c : Base) → IsBaseIn c → IsLevelIn (grown start (all_around (2 * s))) (edge_at c run)
          by (hangs edge) i = level-near start (2 * s) edge (collapse run) i (collapse-small s run r)
          by (stands edge) i = level-wider start (grown start (all_around (2 * s))) edge (inside-grown start (all_around (2 * s))) i

      bottom-in : (b : Bounds) (k : ℕ) (ws : List (Waiting ℤ)) (y : ℤ) → DoWaitIn b ws → IsLevelIn (grown start (all_around (2 * s))) y
          → AllByRecursion (IsLevelIn (grown b (all_around (4 * s)))) (option_to_list (bottom_to_clear (on_ground tree w size base floats least) k ws y))
      unfolding bottom_to_clear
      bottom-in b k ws y d l =
          let from : Bounds = record { up = start.up + 2 * s; down = start.down + 2 * s; aside = start.aside + 2 * s + b.aside } in
          let i : AreInside start from = record { up = omega arith; down = omega arith; aside = omega arith } in
          let j : AreInside (grown start (all_around (2 * s))) from = record { up = omega arith; down = omega arith; aside = omega arith } in
          let bands = All-implied (λ (f : Waiting ℤ). IsBandIn b f.cb) (λ (f : Waiting ℤ). IsBandIn from f.cb) ws (λ f h. (let a = h.left in let c = h.right in record { left = omega (arith, a); right = omega (arith, c) })) d.bands in
          let placed = placed-in from floats y ws sized (floats-wider start from floats i floats_in) (level-wider (grown start (all_around (2 * s))) from y j l, levels-wider start from (option_to_list least) i least_in) bands in
          let lowest = lowest-in (grown from (wait_charges ws)) (clear_of tree k) (with_waiting tree size ws floats least y) placed in
          let up = d.room.up in let down = d.room.down in
          All-implied (IsLevelIn (grown from (wait_charges ws))) (IsLevelIn (grown b (all_around (4 * s)))) (option_to_list (lowest_bottom (clear_of tree k) (with_waiting tree size ws floats least y)))
          (λ z h. (let a = h.top in let c = h.bottom in record { top = omega (arith, ints, up); bottom = omega (arith, ints, down) })) lowest

      clear-edge-in : (b : Bounds) (k : ℕ) (run : Run ℤ) (ws : List (Waiting ℤ)) → IsRunLow s run → DoWaitIn b ws → IsLevelIn (grown b (all_around (4 * s))) (clear_edge (on_ground tree w size base floats least) k run ws)
      clear-edge-in b k run ws r d =
          let up = d.room.up in let down = d.room.down in
          let y = edge-in run r in
          by (bottom_to_clear (on_ground tree w size base floats least) k ws (edge_at base run)) (bottom-in b k ws (edge_at base run) d y)
          (let a = y.top in let c = y.bottom in record { top = omega (arith, ints, up); bottom = omega (arith, ints, down) })
        where
          by : (o : Option ℤ) → AllByRecursion (IsLevelIn (grown b (all_around (4 * s)))) (option_to_list o) → IsLevelIn (grown b (all_around (4 * s))) (edge_at base run) → IsLevelIn (grown b (all_around (4 * s))) (unwrap_or o (edge_at base run))
          by None a l = l
          by (Some z) a l = a.0

      decided-in : (b : Bounds) (cb : Band ℤ) (k : ℕ) (run : Run ℤ) (ws : List (Waiting ℤ)) → IsRunLow s run → DoWaitIn b ws → AllByRecursion (IsLevelIn (grown b (all_around (4 * s)))) (option_to_list (decision tree w size base floats least cb k run ws))
      decided-in b cb k run ws r d = by (is_to_clear (on_ground tree w size base floats least) cb k run ws)
        where
          by : (c : Bool) → AllByRecursion (IsLevelIn (grown b (all_around (4 * s)))) (option_to_list (elim c as (λ _. Option ℤ) [ true ↦ Some (clear_edge (on_ground tree w size base floats least) k run ws) | false ↦ None ]))
          by true = (clear-edge-in b k run ws r d, tt)
          by false = tt

      -- ---- where the way ends

      abbrev pub IsBoxEndIn : Bounds → ℕ → List (Waiting ℤ) → End → Type 0
      IsBoxEndIn b k ws goes_on = DoWaitIn (grown b (rises k)) ws
      IsBoxEndIn b k ws solid = Unit {0}
      IsBoxEndIn b k ws (cleared d e) = ((ks : List ℕ) → Ahead tree own turned s b (k ∷ ks) d e) × (k ≤ d)

      pub record IsBoxFound (b : Bounds) (k : ℕ) (f : Found) : Type 0 where
        pub run : IsRunLow s f.run
        pub end : IsBoxEndIn b k f.waiting f.end

      pub record IsAheadOf (b : Bounds) (ks : List ℕ) (d : ℕ) (e : ℤ) : Type 0 where
        pub ahead : Ahead tree own turned s b ks d e
        pub owner : ℕ
        pub among : Contains ks owner
        pub flows : is_floated_at tree owner ≡ false
        pub from : owner ≤ d

      abbrev AreKidsEndIn : Bounds → List ℕ → List (Waiting ℤ) → End → Type 0
      AreKidsEndIn b ks ws goes_on = DoWaitIn (grown b (together rises ks)) ws
      AreKidsEndIn b ks ws solid = Unit {0}
      AreKidsEndIn b ks ws (cleared d e) = IsAheadOf b ks d e

      record AreKidsFound (b : Bounds) (ks : List ℕ) (f : Found) : Type 0 where
        run : IsRunLow s f.run
        end : AreKidsEndIn b ks f.waiting f.end

      abbrev go : (ℕ → Bool) → ℕ → Band ℤ → ℕ → Run ℤ → List (Waiting ℤ) → Found
      go p n cb b run ws = way_to tree w size base floats least p n cb b run ws

      abbrev go_kids : (ℕ → Bool) → ℕ → Band ℤ → List ℕ → Run ℤ → List (Waiting ℤ) → Found
      go_kids p n band ks run ws = kids_way tree w size base floats least p n band ks run ws

      abbrev IsWayIn : (ℕ → Bool) → ℕ → Type 0
      IsWayIn p n = (b : Bounds) (cb : Band ℤ) (k : ℕ) (run : Run ℤ) (ws : List (Waiting ℤ)) → k < length tree.boxes → Kid cb k → is_floated_at tree k ≡ false → IsBandIn b cb → IsRunLow s run → DoWaitIn b ws
          → IsBoxFound b k (go p n cb k run ws)

      -- one child
      abbrev IsKidEndIn : Bounds → ℕ → List (Waiting ℤ) → End → Type 0
      IsKidEndIn b k ws goes_on = DoWaitIn (grown b (rises k)) ws
      IsKidEndIn b k ws solid = Unit {0}
      IsKidEndIn b k ws (cleared d e) = ((ks : List ℕ) → Ahead tree own turned s b (k ∷ ks) d e) × (k ≤ d) × (is_floated_at tree k ≡ false)

      record IsKidFound (b : Bounds) (k : ℕ) (f : Found) : Type 0 where
        run : IsRunLow s f.run
        end : IsKidEndIn b k f.waiting f.end

      passed-in : (b : Bounds) (cb : Band ℤ) (k : ℕ) (run : Run ℤ) (ws : List (Waiting ℤ)) (end : End) → Kid cb k → is_floated_at tree k ≡ false → IsBoxFound b k (found run ws end) → IsKidFound b k (passed_box tree w cb k (found run ws end))
      passed-in b cb k run ws goes_on i f h = record { run = run-with s run (margin_below tree w cb k) h.run (margin-small cb k i f).1; end = h.end }
      passed-in b cb k run ws solid i f h = record { run = h.run; end = tt }
      passed-in b cb k run ws (cleared d e) i f h = record { run = h.run; end = (h.end.0, h.end.1, f) }

      kid-in : (p : ℕ → Bool) (n : ℕ) → IsWayIn p n → (b : Bounds) (band : Band ℤ) (k : ℕ) (run : Run ℤ) (ws : List (Waiting ℤ)) → k < length tree.boxes → Kid band k → IsBandIn b band → IsRunLow s run → DoWaitIn b ws
          → IsKidFound b k (kid_of tree w (go p n band) band run ws k)
      kid-in p n again b band k run ws l i band_in r d = by (is_floated_at tree k) refl
        where
          by : (t : Bool) → is_floated_at tree k ≡ t → IsKidFound b k (kid_of tree w (go p n band) band run ws k)
          by true f = subst (IsKidFound b k) (sym (found-float tree w (go p n band) band k run ws f)) (record { run = r; end = one-more-waits b band k ws f band_in d })
          by false f =
              let g = go p n band k run ws in
              subst (IsKidFound b k) (sym (found-flow tree w (go p n band) band k run ws f))
              (passed-in b band k g.run g.waiting g.end i f (again b band k run ws l i f band_in r d))

      -- children one after another
      then-kids : (b : Bounds) (k : ℕ) (ks : List ℕ) (run : Run ℤ) (ws : List (Waiting ℤ)) (end : End) (rest : Found) → AllByRecursion (IsBeforeIn tree k) ks → IsKidFound b k (found run ws end)
          → (end ≡ goes_on → AreKidsFound (grown b (rises k)) ks rest) → AreKidsFound b (k ∷ ks) (then_on (found run ws end) rest)
      then-kids b k ks run ws solid rest o h r = record { run = h.run; end = tt }
      then-kids b k ks run ws (cleared d e) rest o h r = record { run = h.run; end = record { ahead = h.end.0 ks; owner = k; among = first_member ks refl; flows = h.end.2; from = h.end.1 } }
      then-kids b k ks run ws goes_on rest o h r = by rest.run rest.waiting rest.end (r refl)
        where
          by : (run : Run ℤ) (ws : List (Waiting ℤ)) (end : End) → AreKidsFound (grown b (rises k)) ks (found run ws end) → AreKidsFound b (k ∷ ks) (found run ws end)
          by run ws goes_on q = record { run = q.run; end = waits-wider (grown (grown b (rises k)) (together rises ks)) (grown b (together rises (k ∷ ks))) ws (record { up = omega arith; down = omega arith; aside = omega arith }) q.end }
          by run ws solid q = record { run = q.run; end = tt }
          by run ws (cleared d e) q =
              let a = q.end in
              let before = All-at (IsBeforeIn tree k) ks a.owner o a.among in
              record {
                run = q.run;
                end = record {
                  ahead = later (λ f. (let both = before f a.flows in record { end = a.owner; to = a.from; here = both.0; closes = both.1 })) a.ahead;
                  owner = a.owner;
                  among = later_member ks a.among;
                  flows = a.flows;
                  from = a.from;
                };
              }

      kids-in : (p : ℕ → Bool) (n : ℕ) → IsWayIn p n → (b : Bounds) (band : Band ℤ) (ks : List ℕ) (run : Run ℤ) (ws : List (Waiting ℤ)) → AllByRecursion (Kid band) ks → AllByRecursion (λ k. k < length tree.boxes) ks → AreRising tree ks → IsBandIn b band → IsRunLow s run → DoWaitIn b ws
          → AreKidsFound b ks (go_kids p n band ks run ws)
      kids-in p n again b band [] run ws i l o band_in r d = record { run = r; end = waits-wider b (grown b no_bounds) ws (inside-grown b no_bounds) d }
      kids-in p n again b band (k ∷ ks) run ws i l o band_in r d =
          let f = kid_of tree w (go p n band) band run ws k in
          let one = kid-in p n again b band k run ws l.0 i.0 band_in r d in
          then-kids b k ks f.run f.waiting f.end (go_kids p n band ks f.run f.waiting) o.0 one
          (λ e. kids-in p n again (grown b (rises k)) band ks f.run f.waiting i.1 l.1 o.1 (band-wider b (grown b (rises k)) (inside-grown b (rises k)) band_in) one.run
          (subst (IsKidEndIn b k f.waiting) e one.end))

      -- after the children of a box
      closed-in : (b : Bounds) (k : ℕ) (run : Run ℤ) (ws : List (Waiting ℤ)) (end : End) → k < length tree.boxes → is_floated_at tree k ≡ false → has_line tree k ≡ false → AreKidsFound (grown b (all_around (16 * s))) (flow_children tree k) (found run ws end)
          → IsBoxFound b k (closed_found tree k (found run ws end))
      closed-in b k run ws solid l f n h = record { run = h.run; end = tt }
      closed-in b k run ws (cleared d e) l f n h =
          let a = h.end in
          let kid = All-at (IsFrom tree.boxes (suc k)) (flow_children tree k) a.owner (children-from tree k) a.among in
          let from = kid.from in
          let to = a.from in
          record { run = h.run; end = ((λ ks. inside l (omega arith) f n a.ahead), omega arith) }
      closed-in b k run ws goes_on l f n h = by (may_collapse_through tree k) refl
        where
          by : (m : Bool) → may_collapse_through tree k ≡ m → IsBoxFound b k (closed_found tree k (found run ws goes_on))
          by true m =
              let all = rise-box tree own turned s k f ∙ ap (grown (all_around (32 * (s + 1)))) (rise-of-kids tree own turned s k l n) in
              let up = ap (λ (x : Bounds). x.up) all in
              let down = ap (λ (x : Bounds). x.down) all in
              let aside = ap (λ (x : Bounds). x.aside) all in
              subst (IsBoxFound b k) (sym (closed-through tree w k run ws m))
              (record { run = h.run; end = waits-wider (grown (grown b (all_around (16 * s))) (together rises (flow_children tree k))) (grown b (rises k)) ws (record { up = omega (arith, up); down = omega (arith, down); aside = omega (arith, aside) }) h.end })
          by false m = subst (IsBoxFound b k) (sym (closed-stops tree w k run ws m)) (record { run = h.run; end = tt })

      decided-found : (b : Bounds) (k : ℕ) (run : Run ℤ) (ws : List (Waiting ℤ)) (o : Option ℤ) (inner : Found) → IsRunLow s run → AllByRecursion (IsLevelIn (grown b (all_around (4 * s)))) (option_to_list o) → IsBoxFound b k inner
          → IsBoxFound b k (decided_found k run ws o inner)
      decided-found b k run ws None inner r a h = h
      decided-found b k run ws (Some e) inner r a h = record { run = r; end = ((λ ks. here a.0), omega arith) }

      pub way-in : (p : ℕ → Bool) (n : ℕ) → IsWayIn p n
      unfolding forward_to
      way-in p zero b cb k run ws l i f band_in r d = record { run = r; end = waits-wider b (grown b (rises k)) ws (inside-grown b (rises k)) d }
      way-in p (suc n) b cb k run ws l i f band_in r d = by (own_in (way-in p n)) (stops tree p k) refl
        where
          inner : Found
          inner = inner_way tree w size base floats least p n cb k run ws

          opened : Bounds
          opened = grown b (all_around (16 * s))

          after : Run ℤ
          after = with_margin run (margin_above tree w cb k)

          after_low : IsRunLow s after
          after_low = run-with s run (margin_above tree w cb k) r (margin-small cb k i f).0

          own_in : IsWayIn p n → IsBoxFound b k (entered tree w size base floats least cb k run ws inner (enters tree k))
          own_in again = by_enter (enters tree k) refl
            where
              by_enter : (e : Bool) → enters tree k ≡ e → IsBoxFound b k (entered tree w size base floats least cb k run ws inner e)
              by_enter false e = record { run = after_low; end = tt }
              by_enter true e =
                  closed-in b k inner.run inner.waiting inner.end l f (enters-no-line tree k e)
                  (kids-in p n again opened (inner_band tree w cb k) (flow_children tree k) after ws (lead-sound tree w cb k i f e)
                  (All-implied (IsFrom tree.boxes (suc k)) (λ j. j < length tree.boxes) (flow_children tree k) (λ j h. h.within) (children-from tree k)) (flow-rises tree k)
                  (inner-band-in b cb k i f band_in) after_low (waits-wider b opened ws (inside-grown b (all_around (16 * s))) d))

          by : IsBoxFound b k (entered tree w size base floats least cb k run ws inner (enters tree k)) → (t : Bool) → stops tree p k ≡ t → IsBoxFound b k (way_to tree w size base floats least p (suc n) cb k run ws)
          by own_is true e = subst (IsBoxFound b k) (sym (way-stops tree w size base floats least p n cb k run ws e))
              (decided-found b k run ws (decision tree w size base floats least cb k run ws) (entered tree w size base floats least cb k run ws inner (enters tree k)) r (decided-in b cb k run ws r d) own_is)
          by own_is false e = subst (IsBoxFound b k) (sym (way-enters tree w size base floats least p n cb k run ws e)) own_is
