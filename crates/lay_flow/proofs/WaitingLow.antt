-- Floats that wait, placed one after another, stay within what their sizes leave them.
use Rattle.std.proofs.Common.{ℕ, ◌+◌, ◌≤◌, ◌^◌, ℤ, unsigned_abs, List, [], ◌∷◌, length, Option, arith}
use Rattle.std.specs.List.{AllByRecursion}
use Rattle.std.specs.Option.{option_to_list}
use Rattle.std.proofs.lemmas.Int.{ints}
use Rattle.viz_base.specs.declared.layouts.Band.{Band}
use Rattle.viz_base.specs.declared.layouts.Extent.{Extent}
use Rattle.viz_base.specs.declared.layouts.Waiting.{Waiting}
use Rattle.viz_base.specs.declared.renderings.Quad.{Quad}
use Rattle.viz_base.specs.declared.trees.BoxTree.{BoxTree}
use Rattle.viz_base.specs.declared.worlds.World.{World}
use Rattle.layout_semantics.specs.Clearance.{Base, with_waiting, on_ground}
use Rattle.layout_semantics.specs.Floats.{FloatBox, floating, with_float}
use Rattle.layout_semantics.specs.Leads.{is_up_to}
use Rattle.layout_laws.proofs.Greatest.{All-at}
use Rattle.layout_laws.proofs.Levels.{All-implied}
use Rattle.lay_float.specs.Limits.{AllHalf, AreHalf}
use Rattle.lay_margin.specs.declared.runs.Run.{Run}
use Rattle.lay_margin.specs.steps.Leads.{lead_of}
use Rattle.lay_steps.specs.Forward.{hypothetical_edge}
use Rattle.lay_steps.specs.Runs.{edge_at}
use Rattle.page_limits.specs.Bounds.{AreInside, all_around, levels_of, IsLevelIn, IsBandIn, IsExtentIn, IsFloatIn, IsQuadIn}
use Rattle.page_limits.proofs.FloatSpots.{with-float}
use Rattle.page_limits.proofs.FloatsMet.{floats-wider, band-wider}
use Rattle.page_limits.proofs.LinesWithin.{levels-wider}
use Rattle.lay_flow.specs.Low.{reach, IsWaitingLow}
use Rattle.lay_flow.specs.WayFits.{WaitingFits, IsGroundLow, IsGoingLow, IsDecisionLow}
use Rattle.lay_flow.proofs.LeadsLow.{edge-near, lead-low}

quad-half : (m : ℕ) (q : Quad ℤ) → m ≤ 2 ^ 99 → IsQuadIn (all_around m) q → AllHalf (q.left ∷ q.top ∷ q.right ∷ q.bottom ∷ [])
quad-half m q l i =
    let a = i.left in let b = i.right in
    let t = i.top.top in let u = i.top.bottom in let v = i.bottom.top in let x = i.bottom.bottom in
    (omega (arith, l, a), (omega (arith, ints, l, t, u), (omega (arith, l, b), (omega (arith, ints, l, v, x), tt))))

pub floats-half : (m : ℕ) (floats : List FloatBox) → m ≤ 2 ^ 99 → AllByRecursion (IsFloatIn (all_around m)) floats → AreHalf floats []
floats-half m floats l a = record { edges = λ f i. quad-half m f.box l (All-at (IsFloatIn (all_around m)) floats f a i); numbers = tt }

levels-half : (m : ℕ) (ys : List ℤ) → m ≤ 2 ^ 99 → AllByRecursion (IsLevelIn (all_around m)) ys → AllHalf ys
levels-half m [] l a = tt
levels-half m (y ∷ ys) l a = let t = a.0.top in let u = a.0.bottom in (omega (arith, ints, l, t, u), levels-half m ys l a.1)

module _ (tree : BoxTree) (size : Waiting ℤ → Extent ℤ) (least : Option ℤ) (y : ℤ) where
  abbrev one_reach : Waiting ℤ → ℕ
  one_reach f = unsigned_abs (size f).width + unsigned_abs (size f).height

  size-in : (f : Waiting ℤ) → IsExtentIn (all_around (one_reach f)) (size f)
  size-in f = record { width = omega arith; height = record { top = omega (arith, ints); bottom = omega (arith, ints) } }

  -- after the first one
  pub next-waits : (floats : List FloatBox) (f : Waiting ℤ) (ws : List (Waiting ℤ)) → WaitingFits size floats least y (f ∷ ws) → WaitingFits size (with_float (floating tree f.at (size f) f.cb) floats least y) least y ws
  next-waits floats f ws p =
      let n = one_reach f in
      let sizes = p.sizes in
      let room = p.room in
      let i : AreInside (all_around p.most) (all_around (p.most + n)) = record { up = omega arith; down = omega arith; aside = omega arith } in
      record {
        most = p.most + n;
        before = with-float (all_around p.most) (all_around n) (floating tree f.at (size f) f.cb) floats least y p.before p.levels p.bands.0 (size-in f);
        levels = levels-wider (all_around p.most) (all_around (p.most + n)) (levels_of least y) i p.levels;
        bands = All-implied (λ (g : Waiting ℤ). IsBandIn (all_around p.most) g.cb) (λ (g : Waiting ℤ). IsBandIn (all_around (p.most + n)) g.cb) ws (λ g h. band-wider (all_around p.most) (all_around (p.most + n)) i h) p.bands.1;
        sizes = omega (arith, sizes);
        room = omega (arith, room);
      }

  -- the size of the first, and what its place asks
  pub first-size : (floats : List FloatBox) (f : Waiting ℤ) (ws : List (Waiting ℤ)) → WaitingFits size floats least y (f ∷ ws) → IsExtentIn reach (size f)
  first-size floats f ws p =
      let sizes = p.sizes in
      record { width = omega (arith, sizes); height = record { top = omega (arith, ints, sizes); bottom = omega (arith, ints, sizes) } }

  pub first-half : (floats : List FloatBox) (f : Waiting ℤ) (ws : List (Waiting ℤ)) → WaitingFits size floats least y (f ∷ ws)
      → AreHalf floats ((size f).width ∷ (size f).height ∷ f.cb.left ∷ f.cb.right ∷ levels_of least y)
  first-half floats f ws p =
      let room = p.room in
      let left = p.bands.0.left in
      let right = p.bands.0.right in
      record {
        edges = (floats-half p.most floats (omega (arith, room)) p.before).edges;
        numbers = (omega (arith, room), (omega (arith, room), (omega (arith, room, left), (omega (arith, room, right), levels-half p.most (levels_of least y) (omega (arith, room)) p.levels))));
      }

  pub before-half : (floats : List FloatBox) (ws : List (Waiting ℤ)) → WaitingFits size floats least y ws → AreHalf floats []
  before-half floats ws p = let room = p.room in floats-half p.most floats (omega (arith, room)) p.before

  -- after all of them
  pub after-half : (floats : List FloatBox) (ws : List (Waiting ℤ)) → WaitingFits size floats least y ws → AreHalf (with_waiting tree size ws floats least y) []
  after-half floats [] p = before-half floats [] p
  after-half floats (f ∷ ws) p = after-half (with_float (floating tree f.at (size f) f.cb) floats least y) ws (next-waits floats f ws p)

-- what waits on a way whose numbers are low, from where its run ends
pub way-waits : (size : Waiting ℤ → Extent ℤ) (base : Base) (floats : List FloatBox) (least : Option ℤ) (run : Run ℤ) (ws : List (Waiting ℤ)) (y : ℤ) → IsGroundLow base floats least → IsGoingLow size run ws → IsLevelIn (all_around (2 ^ 92)) y
    → WaitingFits size floats least y ws
way-waits size base floats least run ws y g go l =
    let room = go.room in
    let i : AreInside reach (all_around (2 ^ 92)) = record { up = omega arith; down = omega arith; aside = omega arith } in
    record {
      most = 2 ^ 92;
      before = floats-wider reach (all_around (2 ^ 92)) floats i g.before;
      levels = (l, levels-wider reach (all_around (2 ^ 92)) (option_to_list least) i g.tops);
      bands = All-implied IsWaitingLow (λ (f : Waiting ℤ). IsBandIn (all_around (2 ^ 92)) f.cb) ws (λ f h. band-wider reach (all_around (2 ^ 92)) i h) go.bands;
      sizes = room;
      room = omega (arith, room);
    }

-- from where the run of a box would end if it were not cleared, and from where the run before it ends
module _ (tree : BoxTree) (w : World) (size : Waiting ℤ → Extent ℤ) (base : Base) (floats : List FloatBox) (least : Option ℤ) (run : Run ℤ) (ws : List (Waiting ℤ)) where
  pub hypothetical-waits : (cb : Band ℤ) (b : ℕ) → IsDecisionLow (on_ground tree w size base floats least) cb b run ws → WaitingFits size floats least (hypothetical_edge (on_ground tree w size base floats least) cb b run) ws
  unfolding hypothetical_edge
  hypothetical-waits cb b f =
      let own = (lead_of tree w (is_up_to b) cb b run []).run in
      way-waits size base floats least run ws (edge_at base own) f.ground f.going (edge-near base own f.ground.edge (lead-low tree w (is_up_to b) (length tree.boxes) cb b run [] f.lead f.going.margins))

  pub edge-waits : IsGroundLow base floats least → IsGoingLow size run ws → WaitingFits size floats least (edge_at base run) ws
  edge-waits g go = way-waits size base floats least run ws (edge_at base run) g go (edge-near base run g.edge go.margins)
