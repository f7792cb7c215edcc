-- On a page whose boxes fit, so does what is computed of one of them in coordinates of its own.
use Rattle.std.proofs.Common.{◌≡◌, ℕ, ◌*◌, ◌<◌, ◌≤◌, ◌^◌, ℤ, pos, false, length, refl, subst, arith}
use Rattle.std.proofs.lemmas.Int.{ints}
use Rattle.viz_base.specs.declared.trees.BoxTree.{BoxTree}
use Rattle.viz_base.specs.declared.worlds.World.{World}
use Rattle.layout_semantics.specs.Flow.{Independent}
use Rattle.layout_semantics.specs.FlowBoxes.{is_replaced_at, flow_children, content_from, room}
use Rattle.layout_semantics.specs.Rectangles.{Frame, content_top}
use Rattle.lay_steps.proofs.Sound.{IsSound}
use Rattle.page_limits.specs.Bounds.{Bounds, AreInside, all_around, grown, IsBandIn, IsLevelIn, IsQuadIn}
use Rattle.page_limits.specs.Boxes.{AreSidesSmall, AreWidthsSmall, IsIndependentIn, IsWhole}
use Rattle.page_limits.specs.Loads.{greatest_length}
use Rattle.page_limits.specs.Rises.{content_rise}
use Rattle.page_limits.proofs.BoxesWithin.{top-in, none-low}
use Rattle.page_limits.proofs.FlowWithin.{IsContextIn}
use Rattle.page_limits.proofs.Levels.{inside-more, level-wider, quad-wider}
use Rattle.lay_flow.specs.IndependentFits.{IndependentFits, own_end}
use Rattle.lay_flow.specs.Fits.{near}
use Rattle.lay_flow.specs.Low.{IsContextLow, IsFrameLow}
use Rattle.lay_flow.proofs.PageFits.{IsBoxFit, IsPageFit}
use Rattle.lay_flow.specs.WalkFits.{WalkFits, before_content, inner_end}
use Rattle.lay_steps.specs.Flow.{fresh, corner_of, root_of, context_independent, content_of}
use Rattle.lay_steps.proofs.StepCases.{independent-context}
use Rattle.lay_flow.proofs.TablesWithin.{AreBounded, fine, boxes-small, lines-small, turned, rise_by, rise-far, independent-known}
use Rattle.lay_flow.proofs.WalkWithin.{ContentIn}
use Rattle.lay_flow.proofs.WalkPlaces.{walk-fits, content-end}

module _ (tree : BoxTree) (w : World) (page : IsPageFit tree w) (apart : ℕ → Independent) (a : AreBounded tree w page apart)
    (k : ℕ) (l : k < length tree.boxes) (i : IsSound tree w k (room tree w k)) (q : IsWhole tree k) where
  fit : IsBoxFit tree w k
  fit = page.each k i.page q

  abbrev f : Frame
  f = corner_of tree w k (room tree w k)

  abbrev top : ℤ
  top = content_top f

  -- ---- where the walk through it starts

  abbrev turned_by : ℕ → Bounds
  turned_by = turned tree w page apart a

  abbrev begin : Bounds
  begin = all_around (16 * greatest_length)

  x : AreWidthsSmall (2 ^ 42) f.x
  unfolding corner_of
  x = (boxes-small tree w page k i.page q).widths

  v : AreSidesSmall (2 ^ 42) f.v
  unfolding corner_of
  v = (boxes-small tree w page k i.page q).sides

  corner : IsLevelIn (all_around greatest_length) f.corner.y
  unfolding corner_of
  corner = let m = v.margin_top in record { top = omega (arith, ints, m); bottom = omega (arith, ints, m) }

  top-is : IsLevelIn begin top
  top-is = level-wider (grown (all_around greatest_length) (all_around greatest_length)) begin top (record { up = omega arith; down = omega arith; aside = omega arith })
      (top-in greatest_length (2 ^ 42) (fine tree w page) (all_around greatest_length) f v corner)

  band : IsBandIn begin (content_from (pos 0) f.x)
  band =
      let m = x.margin_left in let b = x.border_left in let p = x.padding_left in let c = x.content in
      record { left = omega (arith, ints, m, b, p); right = omega (arith, ints, m, b, p, c) }

  begun : IsContextIn tree w a.own turned_by greatest_length (2 ^ 42) (fine tree w page) (boxes-small tree w page) apart a.known begin (flow_children tree k) (fresh top)
  begun = record { standing = (top-is, none-low greatest_length); floats = tt; least = tt; baseline = tt }

  room-left : AreInside (grown begin (content_rise tree a.own turned_by greatest_length k)) (all_around (2 ^ 80))
  room-left =
      let far = rise-far tree w page apart a k l in
      let up = far.up in let down = far.down in let aside = far.aside in
      record { up = omega (arith, up); down = omega (arith, down); aside = omega (arith, aside) }

  begins : ContentIn tree w a.own turned_by greatest_length (2 ^ 42) (fine tree w page) (boxes-small tree w page) apart a.known k (content_from (pos 0) f.x) top (fresh top)
  unfolding corner_of
  begins = record {
    b = begin;
    left = pos 0;
    wide = room tree w k;
    same = refl;
    sound = i;
    whole = q;
    there = l;
    band = band;
    at = top-is;
    begun = begun;
    ahead = tt;
    room = room-left;
  }

  low : greatest_length ≤ 2 ^ 72
  low = omega arith

  inside : WalkFits tree w apart (before_content k (content_from (pos 0) f.x) top (fresh top))
  inside = walk-fits tree w a.own turned_by greatest_length (2 ^ 42) (fine tree w page) (boxes-small tree w page) apart a.known (lines-small tree w page a.own apart a.known) low a.far page.each
      (before_content k (content_from (pos 0) f.x) top (fresh top)) begins

  end : IsContextLow (inner_end tree w apart k (content_from (pos 0) f.x) top (fresh top))
  end = content-end tree w a.own turned_by greatest_length (2 ^ 42) (fine tree w page) (boxes-small tree w page) apart a.known (lines-small tree w page a.own apart a.known) low a.far page.each
      k (content_from (pos 0) f.x) top (fresh top) begins

  -- ---- the box

  frame-low : IsFrameLow (corner_of tree w k (room tree w k))
  unfolding corner_of
  frame-low =
      let m = fit.shape.sides.margin_top in
      record { x = fit.shape.widths; v = fit.shape.sides; aside = fit.shape.widths.margin_left; top = record { top = omega (arith, ints, m); bottom = omega (arith, ints, m) } }

  margin : is_replaced_at tree k ≡ false
      → IsQuadIn near (root_of tree w k f (own_end tree w apart k f)).margin
  unfolding context_independent
  margin e =
      let own = rise_by tree w page apart a k in
      let wide = room tree w k in
      let known = subst (IsIndependentIn own greatest_length) (independent-context tree w (content_of tree w apart) k wide e) (independent-known tree w page apart a k l wide i q) in
      quad-wider own near (root_of tree w k f (own_end tree w apart k f)).margin
      (inside-more own (all_around (2 ^ 72)) near (rise-far tree w page apart a k l) (record { up = omega arith; down = omega arith; aside = omega arith })) (known.boxes.0).margin

  pub independent-fits : IndependentFits tree w apart k (room tree w k)
  independent-fits = record {
    shape = fit.shape;
    frame = frame-low;
    replaced = fit.replaced;
    root = λ e. record { frame = frame-low; own_height = fit.own_height; inside = inside; end = end; margin = margin e };
  }
