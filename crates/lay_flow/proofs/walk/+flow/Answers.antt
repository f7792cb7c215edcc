use Rattle.std.proofs.Common.{IsTrue, ◌≡◌, ◌<◌, ◌+◌, ◌++◌, ℕ, ℤ, true, false, List, [], ◌∷◌, drop, length, slice_index_or, append_assoc, ap, ◌∙◌, sym, subst, arith}
use Rattle.viz_base.specs.declared.renderings.Placed.{Placed}
use Rattle.viz_calc.specs.State.{AllSmall}
use Rattle.viz_calc.specs.World.{Reading}
use Rattle.viz_calc.proofs.Runs.{Goes-then, BlamesButMem-then}
use Rattle.viz_calc.specs.Renderings.{band_at}
use Rattle.layout_semantics.specs.Flow.{Cleared}
use Rattle.layout_semantics.specs.FlowBoxes.{content_from, is_context_root, is_replaced_at}
use Rattle.layout_semantics.specs.InlineContent.{has_line, holds_inline, is_floated_at}
use Rattle.layout_semantics.specs.Rectangles.{Frame, content_top}
use Rattle.lay_frame.specs.Readings.{boxes_at, frame_at}
use Rattle.lay_tree.proofs.Kids.{flow-kids}
use Rattle.lay_steps.specs.Flow.{Context, Met, Step, fresh, met, without_boxes}
use Rattle.lay_margin.specs.Runs.{run_at}
use Rattle.lay_flow.specs.Fits.{IsNear, IsReplacedFit}
use Rattle.lay_flow.specs.Low.{IsContextLow, IsFrameLow, IsLevelLow, IsRunLow}
use Rattle.lay_flow.specs.WalkFits.{WalkFits, before_content, before_children, before_child, before_flow, when_reached, when_starting, when_going_on}
use Rattle.lay_steps.specs.Flow.{block_of, child_of, children_of, laid_of, opened, root_of, standing_after, standing_in}
use Rattle.lay_flow.specs.Readings.{apart_at, context_at, ending_at, laid_with, met_at, standing_at, cleared_at}
use Rattle.lay_flow.proofs.Around.{inline_size-fits, band-fits, kept-fits}
use Rattle.lay_steps.proofs.Levels.{by-lines, by-children}
use Rattle.lay_flow.proofs.Framed.{top-fits, top-near}
use Rattle.lay_flow.proofs.Givens.{boxes-later, first, first_at, more, more_at}
use Rattle.lay_steps.proofs.KidSteps.{kids-next}
use Rattle.lay_flow.proofs.Sizes.{zero-fits, level-fits}
use Rattle.lay_flow.proofs.Walks.{content-walk, kid-walk, child-walk, flow-walk, laid-walk, start-walk, go-on-walk, content-moved, end-moved}
use Rattle.lay_steps.proofs.WalkSteps.{flow-context}
use Rattle.lay_flow.proofs.walk.+flow.Goals as goal

pub content-returns-then-has_line-clause-context : goal.content-returns-then-has_line-clause-context
content-returns-then-has_line-clause-context g t c = λ e o.
    let at = g.S.Steady.at in
    let page = c.args.page.now in
    let lines : has_line page.tree.now c.args.b ≡ true = grind arith in
    c.in_lines.ensures.context e o
    ∙ ap (λ (x : Step). x.context) (by-lines page.tree.now e.world (apart_at at page.apart.now e) c.args.b (band_at at c.args.cb.now e) (at c.args.top.now e) (context_at at c.args.context.now e) c.requires.within lines)

pub content-returns-then-has_line-clause-boxes : goal.content-returns-then-has_line-clause-boxes
content-returns-then-has_line-clause-boxes g t c = λ e o.
    let at = g.S.Steady.at in
    let page = c.args.page.now in
    let lines : has_line page.tree.now c.args.b ≡ true = grind arith in
    c.in_lines.ensures.boxes e o
    ∙ ap (λ (x : Step). boxes_at at c.args.out.now.items e ++ x.boxes) (by-lines page.tree.now e.world (apart_at at page.apart.now e) c.args.b (band_at at c.args.cb.now e) (at c.args.top.now e) (context_at at c.args.context.now e) c.requires.within lines)

pub content-returns-then-not-holds_inline-clause-context : goal.content-returns-then-not-holds_inline-clause-context
content-returns-then-not-holds_inline-clause-context g t c = λ e o.
    let at = g.S.Steady.at in
    let page = c.args.page.now in
    let lines : has_line page.tree.now c.args.b ≡ false = grind arith in
    let blocks : holds_inline page.tree.now c.args.b ≡ false = grind arith in
    c.children.ensures.context e o
    ∙ ap (λ (x : Step). x.context) (by-children page.tree.now e.world (apart_at at page.apart.now e) c.args.b (band_at at c.args.cb.now e) (at c.args.top.now e) (context_at at c.args.context.now e) c.requires.within
    c.children-kids.result.now lines (c.children-kids.ensures.value ∙ sym (flow-kids page.tree.now c.args.b blocks)))

pub content-returns-then-not-holds_inline-clause-boxes : goal.content-returns-then-not-holds_inline-clause-boxes
content-returns-then-not-holds_inline-clause-boxes g t c = λ e o.
    let at = g.S.Steady.at in
    let page = c.args.page.now in
    let lines : has_line page.tree.now c.args.b ≡ false = grind arith in
    let blocks : holds_inline page.tree.now c.args.b ≡ false = grind arith in
    c.children.ensures.boxes e o
    ∙ ap (λ (x : Step). boxes_at at c.args.out.now.items e ++ x.boxes) (by-children page.tree.now e.world (apart_at at page.apart.now e) c.args.b (band_at at c.args.cb.now e) (at c.args.top.now e) (context_at at c.args.context.now e) c.requires.within
    c.children-kids.result.now lines (c.children-kids.ensures.value ∙ sym (flow-kids page.tree.now c.args.b blocks)))

pub content-returns-in-Ok-clause-context : goal.content-returns-in-Ok-clause-context
content-returns-in-Ok-clause-context g t c = λ e o.
    let at = g.S.Steady.at in
    let page = c.args.page.now in
    let lines : has_line page.tree.now c.args.b ≡ false = grind arith in
    c.children-in-Ok.ensures.context e o
    ∙ ap (λ (x : Step). x.context) (by-children page.tree.now e.world (apart_at at page.apart.now e) c.args.b (band_at at c.args.cb.now e) (at c.args.top.now e) (context_at at c.args.context.now e) c.requires.within
    c.as_slice.result.now lines (c.as_slice.ensures.value ∙ c.in-Ok.ensures.value))

pub content-returns-in-Ok-clause-boxes : goal.content-returns-in-Ok-clause-boxes
content-returns-in-Ok-clause-boxes g t c = λ e o.
    let at = g.S.Steady.at in
    let page = c.args.page.now in
    let lines : has_line page.tree.now c.args.b ≡ false = grind arith in
    c.children-in-Ok.ensures.boxes e o
    ∙ ap (λ (x : Step). boxes_at at c.args.out.now.items e ++ x.boxes) (by-children page.tree.now e.world (apart_at at page.apart.now e) c.args.b (band_at at c.args.cb.now e) (at c.args.top.now e) (context_at at c.args.context.now e) c.requires.within
    c.as_slice.result.now lines (c.as_slice.ensures.value ∙ c.in-Ok.ensures.value))

pub flow-returns-clause-context : goal.flow-returns-clause-context
flow-returns-clause-context g t c = λ e o.
    let at = g.S.Steady.at in
    let page = c.args.page.now in
    let o1 = c.standing_after.ensures.goes.closes e o in
    let o2 = c.lay-laid.ensures.goes.closes e o1 in
    let o3 = c.copy_standing-before.ensures.goes.closes e o2 in
    let is = c.replace-cleared.ensures.value in
    let after = c.replace-cleared.ensures.after in
    flow-context page.tree.now e.world (apart_at at page.apart.now e) (band_at at c.args.cb.now e) (context_at at c.args.context.now e) c.args.b
    (met_at at c.reach-met.result e) (laid_with at c.lay-laid.result c.lay-laid.new.context e) (standing_at at c.copy_standing-before.result e) (standing_at at c.standing_after.result e)
    (c.reach-met.ensures.value e o3)
    (c.lay-laid.ensures.value c.reach-met.result.reached.clears e o1
    ∙ ap (λ x. without_boxes (laid_of page.tree.now e.world (apart_at at page.apart.now e) (band_at at c.args.cb.now e) (context_at at c.args.context.now e) c.args.b
    (record { top = at c.reach-met.result.reached.top e; clears = c.reach-met.result.reached.clears; cleared = cleared_at at x e }))) is)
    (c.copy_standing-before.ensures.value e o2)
    (c.standing_after.ensures.value e o
    ∙ ap (λ x. standing_after page.tree.now e.world (band_at at c.args.cb.now e) (standing_at at c.copy_standing-before.result e) c.args.b
    (met (record { top = at c.reach-met.result.reached.top e; clears = c.reach-met.result.reached.clears; cleared = cleared_at at x e }) (run_at at c.reach-met.result.own e))
    (ending_at at c.lay-laid.result e)) after)

-- ---- causes

pub lay_context-returns-clause-cause : goal.lay_context-returns-clause-cause
lay_context-returns-clause-cause g t c =
    let at = g.S.Steady.at in
    let page = c.args.page.now in
    let tree = page.tree.now in
    let b = c.args.b in
    let cb = (λ (e : Reading). band_at at c.args.cb.now e) in
    let s = (λ (e : Reading). context_at at c.args.context.now e) in
    let f = (λ (e : Reading). frame_at at c.args.shape.now e) in
    let apart = (λ (e : Reading). apart_at at page.apart.now e) in
    let asks = (λ (e : Reading). WalkFits tree e.world (apart e) (when_starting (cb e) (s e) b (f e))) in
    let at_start = (λ (e : Reading) (w : asks e). start-walk tree e.world (apart e) (cb e) (s e) b (f e) w) in
    let band = c.content_between-band.ensures in
    let top = c.content_top-top.ensures in
    let own = c.fresh-own.ensures in
    let kept = c.keep-place.ensures in
    let inside = c.content.ensures in
    let placed = c.context_box-placed.ensures in
    let one = first_at {tree = tree} {asks = asks} band.goes band.cause (λ a e o. let x = (at_start e (a e o)).around in band-fits (cb e).left (f e).x x.left x.frame.x) in
    let two = more_at one top.goes top.cause (λ a e o. top-fits (f e) (at_start e (a e o)).around.frame) in
    let three = more_at two own.goes own.cause (λ a e o. subst IsNear (sym (top.value e o)) (top-near (f e) (at_start e (a e o)).around.frame)) in
    let four = more three kept.goes kept.cause (λ a e o. kept-fits (f e) (at_start e (a.1 e o)).around.frame) in
    let band-is = (λ (e : Reading) (o : IsTrue ((g.S.Steady.run c.keep-place.new.calc).is_open e)). band.value e (top.goes.closes e (own.goes.closes e (kept.goes.closes e o)))) in
    let top-is = (λ (e : Reading) (o : IsTrue ((g.S.Steady.run c.keep-place.new.calc).is_open e)). top.value e (own.goes.closes e (kept.goes.closes e o))) in
    let own-is = (λ (e : Reading) (o : IsTrue ((g.S.Steady.run c.keep-place.new.calc).is_open e)). own.value e (kept.goes.closes e o) ∙ ap fresh (top-is e o)) in
    let five = more four inside.goes inside.cause (λ a. (
      a.0,
      λ e o.
          content-moved tree e.world (apart e) b (band_at at c.content_between-band.result e) (content_from (cb e).left (f e).x) (at c.content_top-top.result e) (content_top (f e)) (context_at at c.fresh-own.result e) (fresh (content_top (f e)))
          (band-is e o) (top-is e o) (own-is e o) (at_start e (a.1 e o)).around.inside,
    )) in
    let end-is = (λ (e : Reading) (o : IsTrue ((g.S.Steady.run c.content.new.calc).is_open e)).
    inside.context e o
    ∙ end-moved tree e.world (apart e) b (band_at at c.content_between-band.result e) (content_from (cb e).left (f e).x) (at c.content_top-top.result e) (content_top (f e)) (context_at at c.fresh-own.result e) (fresh (content_top (f e)))
    (band-is e (inside.goes.closes e o)) (top-is e (inside.goes.closes e o)) (own-is e (inside.goes.closes e o))) in
    let six = more_at five placed.goes placed.cause (λ a e o.
    let x = (at_start e (a e o)).around in (x.own_height, (x.frame, subst IsContextLow (sym (end-is e o)) x.end))) in
    let bottom = c.copy-bottom.ensures in
    let seven = more_at six bottom.goes bottom.cause (λ a e o.
    subst (λ (z : ℤ). AllSmall (z ∷ [])) (sym (ap (λ (p : Placed ℤ). p.border.bottom) (placed.value e o ∙ ap (root_of tree e.world b (f e)) (end-is e (placed.goes.closes e o)))))
    (level-fits _ (at_start e (a e o)).around.bottom_low)) in
    let left = c.leave.ensures in
    let eight = more_at seven left.goes left.cause (λ a e o. let x = at_start e (a e o) in (x.least, x.around.frame)) in
    let run = c.empty-run.ensures in
    let nine = more_at eight run.goes run.cause (λ a e o. zero-fits) in
    let last = c.closing-margins.ensures in
    (more_at nine last.goes last.cause (λ a e o. (at_start e (a e o)).around.frame)).cause

pub lay_block-returns-clause-cause : goal.lay_block-returns-clause-cause
lay_block-returns-clause-cause g t c =
    let at = g.S.Steady.at in
    let page = c.args.page.now in
    let tree = page.tree.now in
    let b = c.args.b in
    let cb = (λ (e : Reading). band_at at c.args.cb.now e) in
    let s = (λ (e : Reading). context_at at c.args.context.now e) in
    let f = (λ (e : Reading). frame_at at c.args.shape.now e) in
    let ahead = (λ (e : Reading). cleared_at at c.args.cleared e) in
    let apart = (λ (e : Reading). apart_at at page.apart.now e) in
    let asks = (λ (e : Reading). WalkFits tree e.world (apart e) (when_going_on (cb e) (s e) b (ahead e) (f e))) in
    let at_start = (λ (e : Reading) (w : asks e). go-on-walk tree e.world (apart e) (cb e) (s e) b (ahead e) (f e) w) in
    let band = c.content_between-band.ensures in
    let top = c.content_top-top.ensures in
    let standing = c.standing_in-standing.ensures in
    let begun = c.open.ensures in
    let kept = c.keep-place.ensures in
    let inside = c.content.ensures in
    let placed = c.block_box-placed.ensures in
    let inner = (λ (e : Reading). opened (s e) (f e) (standing_in tree b (ahead e) (f e))) in
    let one = first_at {tree = tree} {asks = asks} band.goes band.cause (λ a e o. let x = (at_start e (a e o)).around in band-fits (cb e).left (f e).x x.left x.frame.x) in
    let two = more_at one top.goes top.cause (λ a e o. top-fits (f e) (at_start e (a e o)).around.frame) in
    let three = more_at two standing.goes standing.cause (λ a e o. (at_start e (a e o)).around.frame) in
    let four = more_at three begun.goes begun.cause (λ a e o. let x = at_start e (a e o) in (x.least, x.around.frame)) in
    let five = more four kept.goes kept.cause (λ a e o. kept-fits (f e) (at_start e (a.1 e o)).around.frame) in
    let band-is = (λ (e : Reading) (o : IsTrue ((g.S.Steady.run c.keep-place.new.calc).is_open e)). band.value e (top.goes.closes e (standing.goes.closes e (begun.goes.closes e (kept.goes.closes e o))))) in
    let top-is = (λ (e : Reading) (o : IsTrue ((g.S.Steady.run c.keep-place.new.calc).is_open e)). top.value e (standing.goes.closes e (begun.goes.closes e (kept.goes.closes e o)))) in
    let inner-is = (λ (e : Reading) (o : IsTrue ((g.S.Steady.run c.keep-place.new.calc).is_open e)). begun.value e (kept.goes.closes e o) ∙ ap (opened (s e) (f e)) (standing.value e (begun.goes.closes e (kept.goes.closes e o)))) in
    let six = more five inside.goes inside.cause (λ a. (
      a.0,
      λ e o.
          content-moved tree e.world (apart e) b (band_at at c.content_between-band.result e) (content_from (cb e).left (f e).x) (at c.content_top-top.result e) (content_top (f e)) (context_at at c.open.new.context e) (inner e)
          (band-is e o) (top-is e o) (inner-is e o) (at_start e (a.1 e o)).around.inside,
    )) in
    let end-is = (λ (e : Reading) (o : IsTrue ((g.S.Steady.run c.content.new.calc).is_open e)).
    inside.context e o
    ∙ end-moved tree e.world (apart e) b (band_at at c.content_between-band.result e) (content_from (cb e).left (f e).x) (at c.content_top-top.result e) (content_top (f e)) (context_at at c.open.new.context e) (inner e)
    (band-is e (inside.goes.closes e o)) (top-is e (inside.goes.closes e o)) (inner-is e (inside.goes.closes e o))) in
    let end-low = (λ (e : Reading) (o : IsTrue ((g.S.Steady.run c.content.new.calc).is_open e)) (a : asks e). subst IsContextLow (sym (end-is e o)) (at_start e a).around.end) in
    let seven = more_at six placed.goes placed.cause (λ a e o. let x = (at_start e (a e o)).around in (x.own_height, (x.frame, end-low e o (a e o)))) in
    let bottom = c.copy-bottom.ensures in
    let eight = more_at seven bottom.goes bottom.cause (λ a e o.
    subst (λ (z : ℤ). AllSmall (z ∷ [])) (sym (ap (λ (p : Placed ℤ). p.border.bottom) (placed.value e o ∙ ap (block_of tree e.world b (f e)) (end-is e (placed.goes.closes e o)))))
    (level-fits _ (at_start e (a e o)).around.bottom_low)) in
    let run = c.joined_run-run.ensures in
    let nine = more_at eight run.goes run.cause (λ a e o. (end-low e (placed.goes.closes e (bottom.goes.closes e o)) (a e o)).standing) in
    let last = c.closing-margins.ensures in
    (more_at nine last.goes last.cause (λ a e o. (at_start e (a e o)).around.frame)).cause

pub lay-returns-then-is_replaced-clause-cause : goal.lay-returns-then-is_replaced-clause-cause
lay-returns-then-is_replaced-clause-cause g t c =
    let at = g.S.Steady.at in
    let page = c.args.page.now in
    let tree = page.tree.now in
    let b = c.args.b in
    let cb = (λ (e : Reading). band_at at c.args.cb.now e) in
    let s = (λ (e : Reading). context_at at c.args.context.now e) in
    let y = (λ (e : Reading). at c.args.top.now e) in
    let ahead = (λ (e : Reading). cleared_at at c.args.cleared e) in
    let apart = (λ (e : Reading). apart_at at page.apart.now e) in
    let asks = (λ (e : Reading). WalkFits tree e.world (apart e) (when_reached (cb e) (s e) b (y e) (ahead e))) in
    let at_start = (λ (e : Reading) (w : asks e). laid-walk tree e.world (apart e) (cb e) (s e) b (y e) (ahead e) w) in
    let is : is_replaced_at tree b ≡ true = grind arith in
    let shape = c.shape-shape.ensures in
    let wide = c.inline_size-room.ensures in
    let placed = c.lay_replaced.ensures in
    let one = first {tree = tree} {asks = asks} shape.goes shape.cause (λ a. (a.0, λ e o. let x = at_start e (a.1 e o) in (x.band, (x.top_low, x.shape)))) in
    let two = more_at one wide.goes wide.cause (λ a e o. inline_size-fits (cb e) (at_start e (a e o)).band) in
    (more two placed.goes placed.cause (λ a e o.
    let x = at_start e (a.1 e o) in (
      subst (λ (z : ℤ). IsReplacedFit tree e.world b z) (sym (wide.value e o)) (x.replaced is),
      (x.least, subst IsFrameLow (sym (shape.value e (wide.goes.closes e o))) x.frame),
    ))).cause

pub lay-returns-then-establishes_context-clause-cause : goal.lay-returns-then-establishes_context-clause-cause
lay-returns-then-establishes_context-clause-cause g t c =
    let at = g.S.Steady.at in
    let page = c.args.page.now in
    let tree = page.tree.now in
    let b = c.args.b in
    let cb = (λ (e : Reading). band_at at c.args.cb.now e) in
    let s = (λ (e : Reading). context_at at c.args.context.now e) in
    let y = (λ (e : Reading). at c.args.top.now e) in
    let ahead = (λ (e : Reading). cleared_at at c.args.cleared e) in
    let apart = (λ (e : Reading). apart_at at page.apart.now e) in
    let asks = (λ (e : Reading). WalkFits tree e.world (apart e) (when_reached (cb e) (s e) b (y e) (ahead e))) in
    let at_start = (λ (e : Reading) (w : asks e). laid-walk tree e.world (apart e) (cb e) (s e) b (y e) (ahead e) w) in
    let not : is_replaced_at tree b ≡ false = grind arith in
    let is : is_context_root tree b ≡ true = grind arith in
    let shape = c.shape-shape.ensures in
    let inside = c.lay_context.ensures in
    let one = first {tree = tree} {asks = asks} shape.goes shape.cause (λ a. (a.0, λ e o. let x = at_start e (a.1 e o) in (x.band, (x.top_low, x.shape)))) in
    (more one inside.goes inside.cause (λ a. (
      a.0,
      λ e o.
          subst (λ (f : Frame). WalkFits tree e.world (apart e) (when_starting (cb e) (s e) b f)) (sym (shape.value e o)) ((at_start e (a.1 e o)).root not is),
    ))).cause

pub lay-returns-clause-cause : goal.lay-returns-clause-cause
lay-returns-clause-cause g t c =
    let at = g.S.Steady.at in
    let page = c.args.page.now in
    let tree = page.tree.now in
    let b = c.args.b in
    let cb = (λ (e : Reading). band_at at c.args.cb.now e) in
    let s = (λ (e : Reading). context_at at c.args.context.now e) in
    let y = (λ (e : Reading). at c.args.top.now e) in
    let ahead = (λ (e : Reading). cleared_at at c.args.cleared e) in
    let apart = (λ (e : Reading). apart_at at page.apart.now e) in
    let asks = (λ (e : Reading). WalkFits tree e.world (apart e) (when_reached (cb e) (s e) b (y e) (ahead e))) in
    let at_start = (λ (e : Reading) (w : asks e). laid-walk tree e.world (apart e) (cb e) (s e) b (y e) (ahead e) w) in
    let not : is_replaced_at tree b ≡ false = grind arith in
    let is : is_context_root tree b ≡ false = grind arith in
    let shape = c.shape-shape.ensures in
    let inside = c.lay_block.ensures in
    let one = first {tree = tree} {asks = asks} shape.goes shape.cause (λ a. (a.0, λ e o. let x = at_start e (a.1 e o) in (x.band, (x.top_low, x.shape)))) in
    (more one inside.goes inside.cause (λ a. (
      a.0,
      λ e o.
          subst (λ (f : Frame). WalkFits tree e.world (apart e) (when_going_on (cb e) (s e) b (ahead e) f)) (sym (shape.value e o)) ((at_start e (a.1 e o)).block not is),
    ))).cause

pub flow-returns-clause-cause : goal.flow-returns-clause-cause
flow-returns-clause-cause g t c =
    let at = g.S.Steady.at in
    let page = c.args.page.now in
    let tree = page.tree.now in
    let b = c.args.b in
    let cb = (λ (e : Reading). band_at at c.args.cb.now e) in
    let s = (λ (e : Reading). context_at at c.args.context.now e) in
    let apart = (λ (e : Reading). apart_at at page.apart.now e) in
    let asks = (λ (e : Reading). WalkFits tree e.world (apart e) (before_flow (cb e) (s e) b)) in
    let at_start = (λ (e : Reading) (w : asks e). flow-walk tree e.world (apart e) (cb e) (s e) b w) in
    let met = c.reach-met.ensures in
    let before = c.copy_standing-before.ensures in
    let laid = c.lay-laid.ensures in
    let after = c.standing_after.ensures in
    let one = first {tree = tree} {asks = asks} met.goes met.cause (λ a e o. (at_start e (a.1 e o)).reach) in
    let two = more_at one before.goes before.cause (λ a e o. (at_start e (a e o)).standing) in
    let met-is = (λ (e : Reading) (o : IsTrue ((g.S.Steady.run c.copy_standing-before.new.calc).is_open e)). met.value e (before.goes.closes e o)) in
    let three = more two laid.goes laid.cause (λ a. (
      a.0,
      λ e o.
          subst (λ (x : Cleared). WalkFits tree e.world (apart e) (when_reached (cb e) (s e) b (at c.reach-met.result.reached.top e) x)) (sym (ap (λ x. cleared_at at x e) c.replace-cleared.ensures.value))
          (subst (λ (x : Met). WalkFits tree e.world (apart e) (when_reached (cb e) (s e) b x.reached.top x.reached.cleared)) (sym (met-is e o)) (at_start e (a.1 e o)).inside),
    )) in
    (more_at three after.goes after.cause (λ a e o.
    let x = at_start e (a e o) in
    let is = met-is e (laid.goes.closes e o) in (
      x.band,
      (
        x.down,
        (subst (λ (m : Met). IsLevelLow m.reached.top) (sym is) x.top_low, subst (λ (m : Met). IsRunLow m.run) (sym is) x.run),
      ),
    ))).cause

pub content-returns-then-has_line-clause-cause : goal.content-returns-then-has_line-clause-cause
content-returns-then-has_line-clause-cause g t c =
    let at = g.S.Steady.at in
    let page = c.args.page.now in
    let tree = page.tree.now in
    let b = c.args.b in
    let cb = (λ (e : Reading). band_at at c.args.cb.now e) in
    let y = (λ (e : Reading). at c.args.top.now e) in
    let s = (λ (e : Reading). context_at at c.args.context.now e) in
    let apart = (λ (e : Reading). apart_at at page.apart.now e) in
    let asks = (λ (e : Reading). WalkFits tree e.world (apart e) (before_content b (cb e) (y e) (s e))) in
    let lines : has_line tree b ≡ true = grind arith in
    (first {tree = tree} {asks = asks} c.in_lines.ensures.goes c.in_lines.ensures.cause (λ a e o.
    (content-walk tree e.world (apart e) b (cb e) (y e) (s e) (a.1 e o)).in_lines lines)).cause

pub content-returns-then-not-holds_inline-clause-cause : goal.content-returns-then-not-holds_inline-clause-cause
content-returns-then-not-holds_inline-clause-cause g t c =
    let at = g.S.Steady.at in
    let page = c.args.page.now in
    let tree = page.tree.now in
    let b = c.args.b in
    let cb = (λ (e : Reading). band_at at c.args.cb.now e) in
    let y = (λ (e : Reading). at c.args.top.now e) in
    let s = (λ (e : Reading). context_at at c.args.context.now e) in
    let apart = (λ (e : Reading). apart_at at page.apart.now e) in
    let asks = (λ (e : Reading). WalkFits tree e.world (apart e) (before_content b (cb e) (y e) (s e))) in
    let lines : has_line tree b ≡ false = grind arith in
    let blocks : holds_inline tree b ≡ false = grind arith in
    (first {tree = tree} {asks = asks} c.children.ensures.goes c.children.ensures.cause (λ a. (
      a.0,
      λ e o.
          subst (λ (ks : List ℕ). WalkFits tree e.world (apart e) (before_children (cb e) (y e) (s e) ks)) (sym (c.children-kids.ensures.value ∙ sym (flow-kids tree b blocks)))
          ((content-walk tree e.world (apart e) b (cb e) (y e) (s e) (a.1 e o)).in_boxes lines),
    ))).cause

pub content-returns-in-Ok-clause-cause : goal.content-returns-in-Ok-clause-cause
content-returns-in-Ok-clause-cause g t c =
    let at = g.S.Steady.at in
    let page = c.args.page.now in
    let tree = page.tree.now in
    let b = c.args.b in
    let cb = (λ (e : Reading). band_at at c.args.cb.now e) in
    let y = (λ (e : Reading). at c.args.top.now e) in
    let s = (λ (e : Reading). context_at at c.args.context.now e) in
    let apart = (λ (e : Reading). apart_at at page.apart.now e) in
    let asks = (λ (e : Reading). WalkFits tree e.world (apart e) (before_content b (cb e) (y e) (s e))) in
    let lines : has_line tree b ≡ false = grind arith in
    (first {tree = tree} {asks = asks} c.children-in-Ok.ensures.goes c.children-in-Ok.ensures.cause (λ a. (
      a.0,
      λ e o.
          subst (λ (ks : List ℕ). WalkFits tree e.world (apart e) (before_children (cb e) (y e) (s e) ks)) (sym (c.as_slice.ensures.value ∙ c.in-Ok.ensures.value))
          ((content-walk tree e.world (apart e) b (cb e) (y e) (s e) (a.1 e o)).in_boxes lines),
    ))).cause

pub children-loop-k-preserved : goal.children-loop-k-preserved
children-loop-k-preserved g t c =
    let at = g.S.Steady.at in
    let page = c.args.page.now in
    let tree = page.tree.now in
    let boxes = c.args.boxes.now in
    let i = c.loop-k.k-index in
    let within : i < length boxes = grind arith in
    let inv = c.loop-k.invariant in
    let own = c.child.ensures in
    let cb = (λ (e : Reading). band_at at c.args.cb.now e) in
    let y = (λ (e : Reading). at c.args.top.now e) in
    let s = (λ (e : Reading). context_at at c.loop-k.context e) in
    let apart = (λ (e : Reading). apart_at at page.apart.now e) in
    let next = (λ (e : Reading) (w : WalkFits tree e.world (apart e) (before_children (cb e) (y e) (s e) (drop i boxes))).
    kid-walk tree e.world (apart e) (cb e) (y e) (s e) boxes i within w) in
    record {
      goes = Goes-then _ _ _ inv.goes own.goes;
      agrees = own.agrees;
      context = λ e o.
          ap (λ (x : Context). (children_of tree e.world (apart e) (cb e) (y e) x (drop (i + 1) boxes)).context) (own.context e o)
          ∙ sym (ap (λ (q : Step). q.context) (kids-next tree e.world (apart e) (cb e) (y e) (s e) boxes i within))
          ∙ inv.context e (own.goes.closes e o);
      boxes = λ e o.
          let one = child_of tree e.world (apart e) (cb e) (y e) (s e) (slice_index_or boxes i 0) in
          let rest = children_of tree e.world (apart e) (cb e) (y e) one.context (drop (i + 1) boxes) in
          let old = boxes_at at c.loop-k.out.items e in
          ap (λ (x : Context). boxes_at at c.child.new.out.items e ++ (children_of tree e.world (apart e) (cb e) (y e) x (drop (i + 1) boxes)).boxes) (own.context e o)
          ∙ ap (λ (l : List (Placed ℤ)). l ++ rest.boxes) (own.boxes e o)
          ∙ append_assoc old one.boxes rest.boxes
          ∙ sym (ap (λ (q : Step). old ++ q.boxes) (kids-next tree e.world (apart e) (cb e) (y e) (s e) boxes i within))
          ∙ inv.boxes e (own.goes.closes e o);
      left = λ a e o.
          subst (λ (x : Context). WalkFits tree e.world (apart e) (before_children (cb e) (y e) x (drop (i + 1) boxes))) (sym (own.context e o)) (next e (inv.left a e (own.goes.closes e o))).others;
      cause = BlamesButMem-then _ _ _ _ _ inv.goes own.goes inv.cause (λ a. (boxes-later tree _ _ inv.goes a.0, λ e o. (next e (inv.left a.1 e o)).first)) own.cause;
    }

pub child-returns-then-is_floated-clause-cause : goal.child-returns-then-is_floated-clause-cause
child-returns-then-is_floated-clause-cause g t c =
    let at = g.S.Steady.at in
    let page = c.args.page.now in
    let tree = page.tree.now in
    let k = c.args.k in
    let cb = (λ (e : Reading). band_at at c.args.cb.now e) in
    let y = (λ (e : Reading). at c.args.top.now e) in
    let s = (λ (e : Reading). context_at at c.args.context.now e) in
    let apart = (λ (e : Reading). apart_at at page.apart.now e) in
    let asks = (λ (e : Reading). WalkFits tree e.world (apart e) (before_child (cb e) (y e) (s e) k)) in
    let is : is_floated_at tree k ≡ true = grind arith in
    (first {tree = tree} {asks = asks} c.float.ensures.goes c.float.ensures.cause (λ a e o.
    let x = (child-walk tree e.world (apart e) (cb e) (y e) (s e) k (a.1 e o)).floats is in (x.so_far, (x.band, (x.top_near, x.own))))).cause

pub child-returns-else-is_floated-clause-cause : goal.child-returns-else-is_floated-clause-cause
child-returns-else-is_floated-clause-cause g t c =
    let at = g.S.Steady.at in
    let page = c.args.page.now in
    let tree = page.tree.now in
    let k = c.args.k in
    let cb = (λ (e : Reading). band_at at c.args.cb.now e) in
    let y = (λ (e : Reading). at c.args.top.now e) in
    let s = (λ (e : Reading). context_at at c.args.context.now e) in
    let apart = (λ (e : Reading). apart_at at page.apart.now e) in
    let asks = (λ (e : Reading). WalkFits tree e.world (apart e) (before_child (cb e) (y e) (s e) k)) in
    let is : is_floated_at tree k ≡ false = grind arith in
    (first {tree = tree} {asks = asks} c.flow.ensures.goes c.flow.ensures.cause (λ a. (
      a.0,
      λ e o.
          (child-walk tree e.world (apart e) (cb e) (y e) (s e) k (a.1 e o)).flows is,
    ))).cause
