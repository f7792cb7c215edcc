-- What is computed of a box, and of where boxes stand, fits where their numbers are low.
use Rattle.std.proofs.Common.{◌≡◌, ℕ, ◌+◌, ◌≤◌, ◌^◌, ℤ, pos, ◌+ℤ◌, ◌-ℤ◌, Bool, true, false, ◌∷◌, map, Some, None, ap, subst, arith}
use Rattle.std.specs.Prelude.{unwrap_or}
use Rattle.viz_base.specs.declared.renderings.Quad.{Quad}
use Rattle.viz_base.specs.declared.trees.BoxTree.{BoxTree}
use Rattle.viz_base.specs.declared.worlds.World.{World}
use Rattle.viz_calc.specs.State.{AllSmall}
use Rattle.layout_laws.proofs.Greatest.{greatest_from-any}
use Rattle.layout_laws.proofs.Levels.{All-implied}
use Rattle.layout_semantics.specs.DefiniteHeights.{given_height, clamped_height}
use Rattle.layout_semantics.specs.Floats.{FloatBox}
use Rattle.layout_semantics.specs.Flow.{content_height}
use Rattle.layout_semantics.specs.Rectangles.{Frame, content_top, border_width, border_height, outset, inset, placed_box}
use Rattle.lay_margin.specs.declared.runs.Run.{Run}
use Rattle.lay_margin.specs.Runs.{collapse}
use Rattle.lay_frame.specs.Fitting.{top_way, BorderFits, AroundFits, PlaceFits, border_of}
use Rattle.page_limits.proofs.Levels.{All-map}
use Rattle.page_limits.specs.Bounds.{IsQuadIn, IsFloatIn}
use Rattle.page_limits.specs.Boxes.{IsHeightClamped}
use Rattle.page_limits.specs.Inline.{IsSmall}
use Rattle.lay_steps.specs.Flow.{Standing, at_top, below, Context, next_edge, block_height}
use Rattle.lay_flow.specs.Low.{reach, IsLevelLow, IsRunLow, IsStandingLow, IsContextLow, IsFrameLow}
use Rattle.lay_flow.specs.Fits.{IsNear, IsHeightFit, near}
use Rattle.lay_steps.specs.Flow.{context_height}
use Rattle.lay_flow.proofs.Sizes.{wider, fit, plus, less, zero-small, clamped-small, level, IsQuadSmall, quad-fits, size-quad, run-small}

-- ---- where boxes stand

pub edge-small : (edge : ℤ) (r : Run ℤ) → IsLevelLow edge → IsRunLow r → IsSmall (2 ^ 92) (edge +ℤ collapse r)
edge-small edge r l low = plus (2 ^ 90) (2 ^ 91) (2 ^ 92) edge (collapse r) (level edge l) (run-small r low) (omega arith)

pub edge-near : (edge : ℤ) (r : Run ℤ) → IsLevelLow edge → IsRunLow r → IsNear (edge +ℤ collapse r)
edge-near edge r l low = wider (2 ^ 92) (2 ^ 95) (edge +ℤ collapse r) (edge-small edge r l low) (omega arith)

pub next-edge-small : (s : Standing) → IsStandingLow s → IsSmall (2 ^ 92) (next_edge s)
next-edge-small (at_top y cleared) l = wider (2 ^ 90) (2 ^ 92) y (level y l.0) (omega arith)
next-edge-small (below edge run stuck) l = edge-small edge run l.0 l.1

pub next-edge-near : (s : Standing) → IsStandingLow s → IsNear (next_edge s)
next-edge-near s l = wider (2 ^ 92) (2 ^ 95) (next_edge s) (next-edge-small s l) (omega arith)

-- ---- heights

pub tall-small : (m k : ℕ) (top : ℤ) (end : Context) → IsSmall m top → IsContextLow end → 2 ^ 92 + m ≤ k → IsSmall k (context_height top end)
unfolding context_height
tall-small m k top end t low l =
    greatest_from-any (IsSmall k) (pos 0) (map (λ y. y -ℤ top) (next_edge end.standing ∷ map (λ (f : FloatBox). f.box.bottom) end.floats)) (zero-small k) (
      less (2 ^ 92) m k (next_edge end.standing) top (next-edge-small end.standing low.standing) t l,
      All-map (IsSmall k) (λ y. y -ℤ top) (map (λ (f : FloatBox). f.box.bottom) end.floats)
          (All-map (λ y. IsSmall k (y -ℤ top)) (λ (f : FloatBox). f.box.bottom) end.floats
          (All-implied (IsFloatIn reach) (λ f. IsSmall k (f.box.bottom -ℤ top)) end.floats
          (λ f i. less (2 ^ 92) m k f.box.bottom top (wider (2 ^ 90) (2 ^ 92) f.box.bottom (level f.box.bottom i.bottom) (omega arith)) t l) low.floats)),
    )

pub block-small : (m k : ℕ) (joins : Bool) (top : ℤ) (end : Standing) → IsSmall m top → IsStandingLow end → 2 ^ 92 + m ≤ k → IsSmall k (block_height joins top end)
block-small m k joins top (at_top y cleared) t low l = zero-small k
block-small m k true top (below edge run false) t low l = less (2 ^ 92) m k edge top (wider (2 ^ 90) (2 ^ 92) edge (level edge low.0) (omega arith)) t l
block-small m k true top (below edge run true) t low l = less (2 ^ 92) m k (edge +ℤ collapse run) top (edge-small edge run low.0 low.1) t l
block-small m k false top (below edge run stuck) t low l = less (2 ^ 92) m k (edge +ℤ collapse run) top (edge-small edge run low.0 low.1) t l

-- a height that is given, and one of the content
pub known-tall : (tree : BoxTree) (w : World) (b : ℕ) (h : ℤ) → IsHeightFit tree w b → given_height tree w b ≡ Some h → IsSmall (2 ^ 94) (clamped_height tree w b h)
known-tall tree w b h fit given =
    let same : content_height tree w b (pos 0) ≡ clamped_height tree w b h = ap (λ o. clamped_height tree w b (unwrap_or o (pos 0))) given in
    clamped-small (2 ^ 94) (pos 0) (clamped_height tree w b h) (subst (IsHeightClamped (2 ^ 90) (pos 0)) same (fit.clamped (pos 0))) (zero-small (2 ^ 94)) (omega arith)

pub content-tall : (tree : BoxTree) (w : World) (b : ℕ) (h : ℤ) → IsHeightFit tree w b → given_height tree w b ≡ None → IsSmall (2 ^ 94) h → IsSmall (2 ^ 94) (clamped_height tree w b h)
content-tall tree w b h fit given small =
    let same : content_height tree w b h ≡ clamped_height tree w b h = ap (λ o. clamped_height tree w b (unwrap_or o h)) given in
    clamped-small (2 ^ 94) h (clamped_height tree w b h) (subst (IsHeightClamped (2 ^ 90) h) same (fit.clamped h)) small (omega arith)

-- ---- a box before its height

module _ (f : Frame) (low : IsFrameLow f) where
  border-top : IsSmall (2 ^ 91) (f.corner.y +ℤ f.v.border_top)
  border-top = plus (2 ^ 90) (2 ^ 90) (2 ^ 91) f.corner.y f.v.border_top (level f.corner.y low.top) low.v.border_top (omega arith)

  pub top-small : IsSmall (2 ^ 92) (content_top f)
  top-small = plus (2 ^ 91) (2 ^ 90) (2 ^ 92) (f.corner.y +ℤ f.v.border_top) f.v.padding_top border-top low.v.padding_top (omega arith)

  pub top-near : IsNear (content_top f)
  top-near = wider (2 ^ 92) (2 ^ 95) (content_top f) top-small (omega arith)

  pub top-fits : AllSmall (top_way f)
  top-fits = (wider (2 ^ 91) (2 ^ 100) (f.corner.y +ℤ f.v.border_top) border-top (omega arith), fit (2 ^ 92) (content_top f) top-small (omega arith))

-- ---- rectangles

outset-small : (m n k : ℕ) (q : Quad ℤ) (left top right bottom : ℤ) → IsQuadSmall m q → IsSmall n left → IsSmall n top → IsSmall n right → IsSmall n bottom → m + n ≤ k
    → IsQuadSmall k (outset q left top right bottom)
outset-small m n k q left top right bottom s l t r b le = record {
  left = less m n k q.left left s.left l le;
  top = less m n k q.top top s.top t le;
  right = plus m n k q.right right s.right r le;
  bottom = plus m n k q.bottom bottom s.bottom b le;
}

inset-small : (m n k : ℕ) (q : Quad ℤ) (left top right bottom : ℤ) → IsQuadSmall m q → IsSmall n left → IsSmall n top → IsSmall n right → IsSmall n bottom → m + n ≤ k
    → IsQuadSmall k (inset q left top right bottom)
inset-small m n k q left top right bottom s l t r b le = record {
  left = plus m n k q.left left s.left l le;
  top = plus m n k q.top top s.top t le;
  right = less m n k q.right right s.right r le;
  bottom = less m n k q.bottom bottom s.bottom b le;
}

small-fits : (z : ℤ) → IsSmall (2 ^ 90) z → IsSmall (2 ^ 100) z
small-fits z s = wider (2 ^ 90) (2 ^ 100) z s (omega arith)

-- ---- a box with its content so high

module _ (f : Frame) (h : ℤ) (low : IsFrameLow f) (tall : IsSmall (2 ^ 94) h) where
  abbrev most : ℕ
  most = 2 ^ 94 + 2 ^ 93 + 2 ^ 90

  left-terms : IsSmall (2 ^ 91) (f.x.border_left +ℤ f.x.padding_left)
  left-terms = plus (2 ^ 90) (2 ^ 90) (2 ^ 91) f.x.border_left f.x.padding_left low.x.border_left low.x.padding_left (omega arith)

  right-terms : IsSmall (2 ^ 91) (f.x.border_right +ℤ f.x.padding_right)
  right-terms = plus (2 ^ 90) (2 ^ 90) (2 ^ 91) f.x.border_right f.x.padding_right low.x.border_right low.x.padding_right (omega arith)

  with-content : IsSmall (2 ^ 92) (f.x.border_left +ℤ f.x.padding_left +ℤ f.x.content)
  with-content = plus (2 ^ 91) (2 ^ 90) (2 ^ 92) (f.x.border_left +ℤ f.x.padding_left) f.x.content left-terms low.x.content (omega arith)

  with-padding : IsSmall (2 ^ 93) (f.x.border_left +ℤ f.x.padding_left +ℤ f.x.content +ℤ f.x.padding_right)
  with-padding = plus (2 ^ 92) (2 ^ 90) (2 ^ 93) (f.x.border_left +ℤ f.x.padding_left +ℤ f.x.content) f.x.padding_right with-content low.x.padding_right (omega arith)

  wide : IsSmall (2 ^ 93 + 2 ^ 90) (border_width f.x)
  wide = plus (2 ^ 93) (2 ^ 90) (2 ^ 93 + 2 ^ 90) (f.x.border_left +ℤ f.x.padding_left +ℤ f.x.content +ℤ f.x.padding_right) f.x.border_right with-padding low.x.border_right (omega arith)

  top-terms : IsSmall (2 ^ 91) (f.v.border_top +ℤ f.v.padding_top)
  top-terms = plus (2 ^ 90) (2 ^ 90) (2 ^ 91) f.v.border_top f.v.padding_top low.v.border_top low.v.padding_top (omega arith)

  bottom-terms : IsSmall (2 ^ 91) (f.v.border_bottom +ℤ f.v.padding_bottom)
  bottom-terms = plus (2 ^ 90) (2 ^ 90) (2 ^ 91) f.v.border_bottom f.v.padding_bottom low.v.border_bottom low.v.padding_bottom (omega arith)

  down-content : IsSmall (2 ^ 94 + 2 ^ 91) (f.v.border_top +ℤ f.v.padding_top +ℤ h)
  down-content = plus (2 ^ 91) (2 ^ 94) (2 ^ 94 + 2 ^ 91) (f.v.border_top +ℤ f.v.padding_top) h top-terms tall (omega arith)

  down-padding : IsSmall (2 ^ 94 + 2 ^ 92) (f.v.border_top +ℤ f.v.padding_top +ℤ h +ℤ f.v.padding_bottom)
  down-padding = plus (2 ^ 94 + 2 ^ 91) (2 ^ 90) (2 ^ 94 + 2 ^ 92) (f.v.border_top +ℤ f.v.padding_top +ℤ h) f.v.padding_bottom down-content low.v.padding_bottom (omega arith)

  down : IsSmall (2 ^ 94 + 2 ^ 93) (border_height f.v h)
  down = plus (2 ^ 94 + 2 ^ 92) (2 ^ 90) (2 ^ 94 + 2 ^ 93) (f.v.border_top +ℤ f.v.padding_top +ℤ h +ℤ f.v.padding_bottom) f.v.border_bottom down-padding low.v.border_bottom (omega arith)

  pub border-small : IsQuadSmall most (border_of f h)
  border-small = record {
    left = wider (2 ^ 90) most f.corner.x low.aside (omega arith);
    top = wider (2 ^ 90) most f.corner.y (level f.corner.y low.top) (omega arith);
    right = plus (2 ^ 90) (2 ^ 93 + 2 ^ 90) most f.corner.x (border_width f.x) low.aside wide (omega arith);
    bottom = plus (2 ^ 90) (2 ^ 94 + 2 ^ 93) most f.corner.y (border_height f.v h) (level f.corner.y low.top) down (omega arith);
  }

  border-fits : BorderFits f h
  border-fits =
      let b = border-small in (
        (small-fits f.corner.x low.aside, fit (2 ^ 90) f.corner.y (level f.corner.y low.top) (omega arith)),
        (
          (
            wider (2 ^ 91) (2 ^ 100) (f.x.border_left +ℤ f.x.padding_left) left-terms (omega arith),
            (
              wider (2 ^ 92) (2 ^ 100) (f.x.border_left +ℤ f.x.padding_left +ℤ f.x.content) with-content (omega arith),
              (
                wider (2 ^ 93) (2 ^ 100) (f.x.border_left +ℤ f.x.padding_left +ℤ f.x.content +ℤ f.x.padding_right) with-padding (omega arith),
                fit (2 ^ 93 + 2 ^ 90) (border_width f.x) wide (omega arith),
              ),
            ),
          ),
          (
            fit most (f.corner.x +ℤ border_width f.x) b.right (omega arith),
            (
              (
                wider (2 ^ 91) (2 ^ 100) (f.v.border_top +ℤ f.v.padding_top) top-terms (omega arith),
                (
                  wider (2 ^ 94 + 2 ^ 91) (2 ^ 100) (f.v.border_top +ℤ f.v.padding_top +ℤ h) down-content (omega arith),
                  (
                    wider (2 ^ 94 + 2 ^ 92) (2 ^ 100) (f.v.border_top +ℤ f.v.padding_top +ℤ h +ℤ f.v.padding_bottom) down-padding (omega arith),
                    fit (2 ^ 94 + 2 ^ 93) (border_height f.v h) down (omega arith),
                  ),
                ),
              ),
              fit most (f.corner.y +ℤ border_height f.v h) b.bottom (omega arith),
            ),
          ),
        ),
      )

  margin-small : IsQuadSmall (2 ^ 95) (outset (border_of f h) f.x.margin_left f.v.margin_top f.x.margin_right f.v.margin_bottom)
  margin-small = outset-small most (2 ^ 90) (2 ^ 95) (border_of f h) f.x.margin_left f.v.margin_top f.x.margin_right f.v.margin_bottom border-small low.x.margin_left low.v.margin_top low.x.margin_right low.v.margin_bottom (omega arith)

  around-fits : AroundFits f.x f.v (border_of f h)
  around-fits = (
    (small-fits f.x.margin_left low.x.margin_left, (small-fits f.v.margin_top low.v.margin_top, (small-fits f.x.margin_right low.x.margin_right, (small-fits f.v.margin_bottom low.v.margin_bottom, tt)))),
    (
      quad-fits (2 ^ 95) (outset (border_of f h) f.x.margin_left f.v.margin_top f.x.margin_right f.v.margin_bottom) margin-small (omega arith),
      (
        (small-fits f.x.border_left low.x.border_left, (small-fits f.v.border_top low.v.border_top, (small-fits f.x.border_right low.x.border_right, (small-fits f.v.border_bottom low.v.border_bottom, tt)))),
        (
          quad-fits (2 ^ 95) (inset (border_of f h) f.x.border_left f.v.border_top f.x.border_right f.v.border_bottom)
              (inset-small most (2 ^ 90) (2 ^ 95) (border_of f h) f.x.border_left f.v.border_top f.x.border_right f.v.border_bottom border-small low.x.border_left low.v.border_top low.x.border_right low.v.border_bottom (omega arith))
              (omega arith),
          (
            (
              wider (2 ^ 91) (2 ^ 100) (f.x.border_left +ℤ f.x.padding_left) left-terms (omega arith),
              (
                wider (2 ^ 91) (2 ^ 100) (f.v.border_top +ℤ f.v.padding_top) top-terms (omega arith),
                (
                  wider (2 ^ 91) (2 ^ 100) (f.x.border_right +ℤ f.x.padding_right) right-terms (omega arith),
                  fit (2 ^ 91) (f.v.border_bottom +ℤ f.v.padding_bottom) bottom-terms (omega arith),
                ),
              ),
            ),
            quad-fits (2 ^ 96) (inset (border_of f h) (f.x.border_left +ℤ f.x.padding_left) (f.v.border_top +ℤ f.v.padding_top) (f.x.border_right +ℤ f.x.padding_right) (f.v.border_bottom +ℤ f.v.padding_bottom))
                (inset-small most (2 ^ 91) (2 ^ 96) (border_of f h) (f.x.border_left +ℤ f.x.padding_left) (f.v.border_top +ℤ f.v.padding_top) (f.x.border_right +ℤ f.x.padding_right) (f.v.border_bottom +ℤ f.v.padding_bottom) border-small left-terms top-terms right-terms bottom-terms (omega arith))
                (omega arith),
          ),
        ),
      ),
    ),
  )

  pub place-fits : PlaceFits f h
  place-fits = (border-fits, around-fits)

  pub margin-near : (tree : BoxTree) (b : ℕ) → IsQuadIn near (placed_box tree b f h).margin
  margin-near tree b = size-quad (2 ^ 95) (placed_box tree b f h).margin margin-small
