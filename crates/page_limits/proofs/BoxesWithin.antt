-- The rectangles of a box stay within bounds, and its content's end.
use Rattle.std.proofs.Common.{◌≡◌, ℕ, ◌+◌, ◌*◌, ◌≤◌, ℤ, pos, ◌+ℤ◌, ◌-ℤ◌, unsigned_abs, Bool, true, false, List, [], ◌∷◌, map, Option, Some, None, subst, arith}
use Rattle.std.specs.List.{AllByRecursion}
use Rattle.std.specs.Option.{option_to_list}
use Rattle.std.proofs.lemmas.Int.{ints, clamps}
use Rattle.viz_base.specs.declared.layouts.Spot.{Spot}
use Rattle.viz_base.specs.declared.renderings.Placed.{Placed}
use Rattle.viz_base.specs.declared.renderings.Quad.{Quad}
use Rattle.viz_base.specs.declared.trees.BoxTree.{BoxTree}
use Rattle.layout_semantics.specs.Extremes.{greatest_from}
use Rattle.layout_semantics.specs.Floats.{FloatBox}
use Rattle.layout_semantics.specs.Flow.{raised}
use Rattle.layout_semantics.specs.Rectangles.{Frame, content_top, border_width, border_height, placed_box, shifted_quad, shifted_box, shifted}
use Rattle.lay_margin.specs.Runs.{no_run, collapse}
use Rattle.lay_steps.specs.Flow.{Standing, at_top, below, Context, next_edge, context_height, block_height, joined_run}
use Rattle.lay_margin.specs.declared.runs.Run.{Run}
use Rattle.layout_laws.proofs.Levels.{All-implied}
use Rattle.page_limits.specs.Bounds.{Bounds, AreInside, grown, all_around, IsLevelIn, IsAsideIn, IsQuadIn, IsFloatIn, IsPlacedIn, IsPutIn}
use Rattle.page_limits.specs.Boxes.{AreWidthsSmall, AreSidesSmall, IsHeightClamped}
use Rattle.page_limits.proofs.Levels.{All-map, level-wider, level-max, quad-wider, inside-grown}
use Rattle.page_limits.proofs.WaysWithin.{IsRunLow, collapse-small, level-near}

pub box-wider : (b around : Bounds) (p : Placed ℤ) → AreInside b around → IsPlacedIn b p → IsPlacedIn around p
box-wider b around p i h = record {
  margin = quad-wider b around p.margin i h.margin;
  border = quad-wider b around p.border i h.border;
  padding = quad-wider b around p.padding i h.padding;
  content = quad-wider b around p.content i h.content;
}

pub boxes-wider : (b around : Bounds) (ps : List (Placed ℤ)) → AreInside b around → AllByRecursion (IsPlacedIn b) ps → AllByRecursion (IsPlacedIn around) ps
boxes-wider b around ps i a = All-implied (IsPlacedIn b) (IsPlacedIn around) ps (λ p h. box-wider b around p i h) a

-- ---- boxes put down

quad-put : (b own : Bounds) (at : Spot ℤ) (q : Quad ℤ) → IsPutIn b own at → IsQuadIn own q → IsQuadIn b (shifted_quad at q)
quad-put b own at q p i =
    let t = p.top in let u = p.bottom in let a = p.aside in
    let left = i.left in let right = i.right in let tt_ = i.top.top in let tb = i.top.bottom in let bt = i.bottom.top in let bb = i.bottom.bottom in
    record {
      left = omega (arith, ints, left, a);
      top = record { top = omega (arith, ints); bottom = omega (arith, ints) };
      right = omega (arith, ints, right, a);
      bottom = record { top = omega (arith, ints); bottom = omega (arith, ints) };
    }

pub boxes-put : (b own : Bounds) (at : Spot ℤ) (ps : List (Placed ℤ)) → IsPutIn b own at → AllByRecursion (IsPlacedIn own) ps → AllByRecursion (IsPlacedIn b) (shifted at ps)
boxes-put b own at ps p a = All-map (IsPlacedIn b) (shifted_box at) ps (All-implied (IsPlacedIn own) (λ q. IsPlacedIn b (shifted_box at q)) ps
    (λ q i. record { margin = quad-put b own at q.margin p i.margin; border = quad-put b own at q.border p i.border; padding = quad-put b own at q.padding p i.padding; content = quad-put b own at q.content p i.content }) a)

-- ---- sums of small numbers

abbrev sized : ℕ → ℤ → Type 0
sized t z = unsigned_abs z ≤ t

sum-of-two : (a b : ℤ) (m n : ℕ) → sized m a → sized n b → sized (m + n) (a +ℤ b)
sum-of-two a b m n h k = omega (arith, ints, h, k)

pub width-small : (t : ℕ) (a b c d e : ℤ) → sized t a → sized t b → sized t c → sized t d → sized t e → sized (5 * t) (a +ℤ b +ℤ c +ℤ d +ℤ e)
width-small t a b c d e ha hb hc hd he =
    let x = sum-of-two a b t t ha hb in
    let y = sum-of-two (a +ℤ b) c (t + t) t x hc in
    let z = sum-of-two (a +ℤ b +ℤ c) d (t + t + t) t y hd in
    let u = sum-of-two (a +ℤ b +ℤ c +ℤ d) e (t + t + t + t) t z he in
    omega (arith, u)

-- a place at the side
aside-plus : (x a : ℤ) (n m k : ℕ) → sized n x → sized m a → m ≤ k → sized (n + k) (x +ℤ a)
aside-plus x a n m k h l g = omega (arith, ints, h, l, g)

aside-minus : (x a : ℤ) (n m k : ℕ) → sized n x → sized m a → m ≤ k → sized (n + k) (x -ℤ a)
aside-minus x a n m k h l g = omega (arith, ints, h, l, g)

module _ (s t : ℕ) (fine : 8 * t ≤ s) where
  -- ---- a box with its content

  pub top-in : (b : Bounds) (f : Frame) → AreSidesSmall t f.v → IsLevelIn b f.corner.y → IsLevelIn (grown b (all_around s)) (content_top f)
  top-in b f v y =
      let a = v.border_top in let c = v.padding_top in let up = y.top in let down = y.bottom in
      record { top = omega (arith, ints, a, c, fine); bottom = omega (arith, ints, a, c, fine) }

  -- the border edge below a content
  bottom-in : (b : Bounds) (h : ℤ) (f : Frame) → AreSidesSmall t f.v → IsLevelIn b (content_top f +ℤ h) → IsLevelIn (grown b (all_around s)) (f.corner.y +ℤ border_height f.v h)
  bottom-in b h f v l =
      let vd = v.padding_bottom in let ve = v.border_bottom in let lt = l.top in let lb = l.bottom in
      subst (IsLevelIn (grown b (all_around s))) (sums f.corner.y f.v.border_top f.v.padding_top h f.v.padding_bottom f.v.border_bottom)
      (record { top = omega (arith, ints, lt, vd, ve, fine); bottom = omega (arith, ints, lb, vd, ve, fine) })
    where
      sums : (y a b c d e : ℤ) → y +ℤ a +ℤ b +ℤ c +ℤ d +ℤ e ≡ y +ℤ (a +ℤ b +ℤ c +ℤ d +ℤ e)
      sums y a b c d e = omega (arith, ints)

  pub placed-box-in : (b : Bounds) (tree : BoxTree) (k : ℕ) (f : Frame) (h : ℤ) → AreWidthsSmall t f.x → AreSidesSmall t f.v → IsAsideIn b f.corner.x → IsLevelIn b f.corner.y → IsLevelIn b (content_top f +ℤ h)
      → IsPlacedIn (grown b (all_around (2 * s))) (placed_box tree k f h)
  placed-box-in b tree k f h x v left y bottom =
      let xa = x.margin_left in let xb = x.border_left in let xc = x.padding_left in let xd = x.content in let xe = x.padding_right in let xf = x.border_right in let xg = x.margin_right in
      let va = v.margin_top in let vb = v.border_top in let vc = v.padding_top in let vd = v.padding_bottom in let ve = v.border_bottom in let vf = v.margin_bottom in
      let yt = y.top in let yb = y.bottom in let bt = bottom.top in let bb = bottom.bottom in
      let wide = width-small t f.x.border_left f.x.padding_left f.x.content f.x.padding_right f.x.border_right xb xc xd xe xf in
      let right = aside-plus f.corner.x (border_width f.x) b.aside (5 * t) s left wide (omega (arith, fine)) in
      let far = f.corner.x +ℤ border_width f.x in
      let inner_left = sum-of-two f.x.border_left f.x.padding_left t t xb xc in
      let inner_right = sum-of-two f.x.border_right f.x.padding_right t t xf xe in
      let low = bottom-in b h f v bottom in
      let lt = low.top in let lb = low.bottom in
      record {
        margin = record {
          left = aside-minus f.corner.x f.x.margin_left b.aside t (2 * s) left xa (omega (arith, fine));
          top = record { top = omega (arith, ints, va, fine); bottom = omega (arith, ints, va, fine) };
          right = two_more (far +ℤ f.x.margin_right) (aside-plus far f.x.margin_right (b.aside + s) t s right xg (omega (arith, fine)));
          bottom = record { top = omega (arith, ints, lt, vf, fine); bottom = omega (arith, ints, lb, vf, fine) };
        };
        border = record {
          left = omega (arith, left);
          top = record { top = omega (arith, ints); bottom = omega (arith, ints) };
          right = omega (arith, right);
          bottom = record { top = omega (arith, ints, lt); bottom = omega (arith, ints, lb) };
        };
        padding = record {
          left = aside-plus f.corner.x f.x.border_left b.aside t (2 * s) left xb (omega (arith, fine));
          top = record { top = omega (arith, ints, vb, fine); bottom = omega (arith, ints, vb, fine) };
          right = two_more (far -ℤ f.x.border_right) (aside-minus far f.x.border_right (b.aside + s) t s right xf (omega (arith, fine)));
          bottom = record { top = omega (arith, ints, lt, ve, fine); bottom = omega (arith, ints, lb, ve, fine) };
        };
        content = record {
          left = aside-plus f.corner.x (f.x.border_left +ℤ f.x.padding_left) b.aside (t + t) (2 * s) left inner_left (omega (arith, fine));
          top = record { top = omega (arith, ints, vb, vc, fine); bottom = omega (arith, ints, vb, vc, fine) };
          right = two_more (far -ℤ (f.x.border_right +ℤ f.x.padding_right)) (aside-minus far (f.x.border_right +ℤ f.x.padding_right) (b.aside + s) (t + t) s right inner_right (omega (arith, fine)));
          bottom = record { top = omega (arith, ints, lt, vd, ve, fine); bottom = omega (arith, ints, lb, vd, ve, fine) };
        };
      }
    where
      two_more : (z : ℤ) → sized (b.aside + s + s) z → sized (b.aside + 2 * s) z
      two_more z l = omega (arith, l)

  -- a height that is clamped goes down no farther than the content
  pub clamped-in : (b : Bounds) (top auto h : ℤ) → IsHeightClamped t auto h → IsLevelIn b top → IsLevelIn b (top +ℤ auto) → IsLevelIn (grown b (all_around s)) (top +ℤ h)
  clamped-in b top auto h i l m =
      let from = i.from in let to = i.to in let lt = l.top in let lb = l.bottom in let mb = m.bottom in
      record { top = omega (arith, ints, fine); bottom = omega (arith, ints, clamps, fine) }

-- ---- where contents end

pub edge-in : (b : Bounds) (s : ℕ) (edge : ℤ) (run : Run ℤ) → IsLevelIn b edge → IsRunLow s run → IsLevelIn (grown b (all_around (2 * s))) (edge +ℤ collapse run)
edge-in b s edge run l r = level-near b (2 * s) edge (collapse run) l (collapse-small s run r)

-- from the top to the lowest of some levels
lowest-from : (b : Bounds) (top : ℤ) (ys : List ℤ) → IsLevelIn b top → AllByRecursion (IsLevelIn b) ys → IsLevelIn b (top +ℤ greatest_from (pos 0) (map (λ y. y -ℤ top) ys))
lowest-from b top [] l a = let t = l.top in let u = l.bottom in record { top = omega (arith, ints); bottom = omega (arith, ints) }
lowest-from b top (y ∷ ys) l a =
    let rest = lowest-from b top ys l a.1 in
    let t = rest.top in let u = rest.bottom in let v = (a.0).top in let w = (a.0).bottom in
    record { top = omega (arith, ints, clamps); bottom = omega (arith, ints, clamps) }

pub raised-in : (b : Bounds) (least : Option ℤ) (y : ℤ) → AllByRecursion (IsLevelIn b) (option_to_list least) → IsLevelIn b y → AllByRecursion (IsLevelIn b) (option_to_list (raised least y))
raised-in b None y a l = (l, tt)
raised-in b (Some z) y a l = (level-max b y z l a.0, tt)

-- how far a standing goes, whatever is pending
abbrev pub StandsIn : Bounds → ℕ → Standing → Type 0
StandsIn b s (at_top y cleared) = IsLevelIn b y
StandsIn b s (below edge run stuck) = IsLevelIn b edge × IsRunLow s run

pub next-edge-in : (b : Bounds) (s : ℕ) (st : Standing) → StandsIn b s st → IsLevelIn (grown b (all_around (2 * s))) (next_edge st)
next-edge-in b s (at_top y cleared) l = level-wider b (grown b (all_around (2 * s))) y (inside-grown b (all_around (2 * s))) l
next-edge-in b s (below edge run stuck) l = edge-in b s edge run l.0 l.1

floats-bottoms : (b : Bounds) (fs : List FloatBox) → AllByRecursion (IsFloatIn b) fs → AllByRecursion (IsLevelIn b) (map (λ (f : FloatBox). f.box.bottom) fs)
floats-bottoms b fs a = All-map (IsLevelIn b) (λ (f : FloatBox). f.box.bottom) fs (All-implied (IsFloatIn b) (λ f. IsLevelIn b f.box.bottom) fs (λ f i. i.bottom) a)

pub context-bottom-in : (b : Bounds) (s : ℕ) (top : ℤ) (end : Context) → IsLevelIn b top → StandsIn b s end.standing → AllByRecursion (IsFloatIn b) end.floats → IsLevelIn (grown b (all_around (2 * s))) (top +ℤ context_height top end)
unfolding context_height
context-bottom-in b s top end l st fs =
    let wide = grown b (all_around (2 * s)) in
    let i = inside-grown b (all_around (2 * s)) in
    lowest-from wide top (next_edge end.standing ∷ map (λ (f : FloatBox). f.box.bottom) end.floats) (level-wider b wide top i l)
    (next-edge-in b s end.standing st, floats-bottoms wide end.floats (All-implied (IsFloatIn b) (IsFloatIn wide) end.floats (λ f q. quad-wider b wide f.box i q) fs))

pub block-bottom-in : (b : Bounds) (s : ℕ) (joins : Bool) (top : ℤ) (st : Standing) → IsLevelIn b top → StandsIn b s st → IsLevelIn (grown b (all_around (2 * s))) (top +ℤ block_height joins top st)
block-bottom-in b s joins top (at_top y cleared) l h = let t = l.top in let u = l.bottom in record { top = omega (arith, ints); bottom = omega (arith, ints) }
block-bottom-in b s joins top (below edge run stuck) l h = by joins stuck
  where
    whole : (z : ℤ) → z ≡ top +ℤ (z -ℤ top)
    whole z = omega (arith, ints)

    by : (joins stuck : Bool) → IsLevelIn (grown b (all_around (2 * s))) (top +ℤ block_height joins top (below edge run stuck))
    by true false = subst (IsLevelIn (grown b (all_around (2 * s)))) (whole edge) (level-wider b (grown b (all_around (2 * s))) edge (inside-grown b (all_around (2 * s))) h.0)
    by true true = subst (IsLevelIn (grown b (all_around (2 * s)))) (whole (edge +ℤ collapse run)) (edge-in b s edge run h.0 h.1)
    by false stuck = subst (IsLevelIn (grown b (all_around (2 * s)))) (whole (edge +ℤ collapse run)) (edge-in b s edge run h.0 h.1)

pub none-low : (s : ℕ) → IsRunLow s no_run
none-low s = record { most = omega arith; least = omega arith }

pub joined-low : (b : Bounds) (s : ℕ) (joins : Bool) (st : Standing) → StandsIn b s st → IsRunLow s (joined_run joins st)
joined-low b s true (at_top y cleared) h = none-low s
joined-low b s false (at_top y cleared) h = none-low s
joined-low b s true (below edge run true) h = none-low s
joined-low b s true (below edge run false) h = h.1
joined-low b s false (below edge run stuck) h = none-low s
