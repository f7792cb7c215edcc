use Rattle.std.proofs.Common.{IsTrue, ◌+ℤ◌, ◌-ℤ◌, ap, sym, subst, ◌∙◌}
use Rattle.viz_base.specs.Numbers.{floor_of}
use Rattle.layout_semantics.specs.Fonts.{font_size}
use Rattle.viz_calc.specs.State.{IsSmall}
use Rattle.viz_calc.specs.World.{Reading}
use Rattle.lay_line.specs.Fits.{CentredFits}
use Rattle.lay_line.specs.Readings.{line_extent_at}
use Rattle.lay_line.proofs.Chains.{start, next}
use Rattle.lay_line.proofs.Tables.{one-part}
use Rattle.lay_line.proofs.shifts.centred.Goals as goal

pub returns : goal.returns
returns g c =
    let at = g.S.Steady.at in
    let tree = c.args.tree.now in
    let node = c.args.node in
    let part = c.size_part-part.ensures in
    let whole = c.height-whole.ensures in
    let half = c.half-half.ensures in
    let sum = c.add-top.ensures in
    let asks = (λ (e : Reading). CentredFits tree e.world node (line_extent_at at c.args.extent.now e)) in
    let first = start {asks = asks} part.goes part.cause (λ f e o. (f e o).0) in
    let second = next first whole.goes whole.cause (λ f e o. ((f e o).1.0, tt)) in
    let third = next second half.goes half.cause (λ f e o. (subst IsSmall (sym (ap (λ x. floor_of x 2) (whole.value e o))) (f e o).1.1.0, tt)) in
    let top = (λ (e : Reading) (o : IsTrue ((g.S.Steady.run c.half-half.new.calc).is_open e)).
    let o1 = half.goes.closes e o in
    ap (λ p. p +ℤ at c.half-half.result e) (part.value e (whole.goes.closes e o1) ∙ one-part 4 (font_size tree e.world node))
    ∙ ap (λ h. floor_of (font_size tree e.world node) 4 +ℤ h) (half.value e o ∙ ap (λ x. floor_of x 2) (whole.value e o1))) in
    let fourth = next third sum.goes sum.cause (λ f e o. (subst IsSmall (sym (top e o)) (f e o).1.1.1.0, tt)) in
    let chain = (next fourth c.sub.ensures.goes c.sub.ensures.cause (λ f e o.
    (subst IsSmall (sym (ap (λ x. x -ℤ at c.args.extent.now.above e) (sum.value e o ∙ top e (sum.goes.closes e o)))) (f e o).1.1.1.1.0, tt))) in
    record {
      goes = chain.goes;
      value = λ e o.
          let at = g.S.Steady.at in
          let o1 = c.sub.ensures.goes.closes e o in
          let o2 = c.add-top.ensures.goes.closes e o1 in
          let o3 = c.half-half.ensures.goes.closes e o2 in
          let o4 = c.height-whole.ensures.goes.closes e o3 in
          c.sub.ensures.value e o
          ∙ ap (λ x. x -ℤ at c.args.extent.now.above e)
          (c.add-top.ensures.value e o1
          ∙ (ap (λ p. p +ℤ at c.half-half.result e) (c.size_part-part.ensures.value e o4 ∙ one-part 4 (font_size c.args.tree.now e.world c.args.node))
          ∙ ap (λ h. floor_of (font_size c.args.tree.now e.world c.args.node) 4 +ℤ h) (c.half-half.ensures.value e o2 ∙ ap (λ x. floor_of x 2) (c.height-whole.ensures.value e o3))));
      cause = chain.cause;
    }
