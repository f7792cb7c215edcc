-- What is asked around what is in a box, where its frame is low.
use Rattle.std.proofs.Common.{◌^◌, ℤ, pos, ◌+ℤ◌, ◌-ℤ◌, [], ◌∷◌, arith}
use Rattle.viz_base.specs.declared.layouts.Band.{Band}
use Rattle.viz_base.specs.declared.layouts.Widths.{Widths}
use Rattle.viz_calc.specs.State.{AllSmall}
use Rattle.layout_semantics.specs.FlowBoxes.{inline_size}
use Rattle.layout_semantics.specs.Rectangles.{Frame}
use Rattle.lay_margin.specs.Fitting.{content_way}
use Rattle.lay_frame.specs.Fitting.{KeptFits}
use Rattle.page_limits.specs.Boxes.{AreWidthsSmall}
use Rattle.lay_flow.specs.Low.{IsAsideLow, IsBandLow, IsFrameLow}
use Rattle.lay_flow.proofs.Framed.{place-fits}
use Rattle.lay_flow.proofs.Sizes.{wider, fit, plus, less, zero-small, zero-fits}

pub band-fits : (left : ℤ) (x : Widths ℤ) → IsAsideLow left → AreWidthsSmall (2 ^ 90) x → AllSmall (content_way left x)
band-fits left x l s =
    let a = plus (2 ^ 90) (2 ^ 90) (2 ^ 91) left x.margin_left l s.margin_left (omega arith) in
    let b = plus (2 ^ 91) (2 ^ 90) (2 ^ 92) (left +ℤ x.margin_left) x.border_left a s.border_left (omega arith) in
    let c = plus (2 ^ 92) (2 ^ 90) (2 ^ 93) (left +ℤ x.margin_left +ℤ x.border_left) x.padding_left b s.padding_left (omega arith) in
    let d = plus (2 ^ 93) (2 ^ 90) (2 ^ 94) (left +ℤ x.margin_left +ℤ x.border_left +ℤ x.padding_left) x.content c s.content (omega arith) in (
      wider (2 ^ 91) (2 ^ 100) (left +ℤ x.margin_left) a (omega arith),
      (
        wider (2 ^ 92) (2 ^ 100) (left +ℤ x.margin_left +ℤ x.border_left) b (omega arith),
        (wider (2 ^ 93) (2 ^ 100) (left +ℤ x.margin_left +ℤ x.border_left +ℤ x.padding_left) c (omega arith), fit (2 ^ 94) (left +ℤ x.margin_left +ℤ x.border_left +ℤ x.padding_left +ℤ x.content) d (omega arith)),
      ),
    )

pub kept-fits : (f : Frame) → IsFrameLow f → KeptFits f
kept-fits f low = (zero-fits, place-fits f (pos 0) low (zero-small (2 ^ 94)))

pub inline_size-fits : (cb : Band ℤ) → IsBandLow cb → AllSmall (inline_size cb ∷ [])
inline_size-fits cb low = fit (2 ^ 91) (cb.right -ℤ cb.left) (less (2 ^ 90) (2 ^ 90) (2 ^ 91) cb.right cb.left low.right low.left (omega arith)) (omega arith)
