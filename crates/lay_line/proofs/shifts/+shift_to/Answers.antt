use Rattle.std.proofs.Common.{◌≡◌, ◌+ℤ◌, ◌-◌, suc, IsTrue, sym, ap, ◌∙◌, subst, arith}
use Rattle.viz_base.specs.declared.lengths.Valign.TheVariants as of_valign
use Rattle.viz_base.specs.declared.styles.Style.{Style}
use Rattle.viz_calc.specs.Run.{Blames}
use Rattle.viz_calc.specs.State.{IsSmall}
use Rattle.viz_calc.specs.World.{Reading}
use Rattle.viz_calc.proofs.Runs.{Goes-then, Blames-then}
use Rattle.layout_semantics.specs.Blocks.{node_of}
use Rattle.layout_semantics.specs.Lengths.{own}
use Rattle.layout_semantics.specs.LineHeights.{inline_extent, shift_to}
use Rattle.lay_line.specs.Contexts.{context_at}
use Rattle.lay_line.specs.Readings.{line_extent_at}
use Rattle.lay_line.specs.steps.Words.{raise_in}
use Rattle.lay_line.specs.Fits.{InlineFits, RaiseFits, ShiftFits_to}
use Rattle.lay_line.proofs.Fitting.{fits-none, fits-here, fits-root, fits-up}
use Rattle.lay_line.proofs.Tables.{shift-none, shift-here, shift-root, shift-up}
use Rattle.lay_line.proofs.shifts.+shift_to.Goals as goal

pub returns-then-levels-eq0 : goal.returns-then-levels-eq0
returns-then-levels-eq0 g t c = record {
  goes = c.zero.ensures.goes;
  value = λ e o.
      let at = g.S.Steady.at in
      c.zero.ensures.value e o ∙ sym (shift-none c.args.levels (context_at at c.args.container.now e) c.args.at (line_extent_at at c.args.extent.now e) c.if-levels-eq0.true);
  cause =
      let at = g.S.Steady.at in
      let none = c.zero.ensures.cause in
      record {
        mem = none.mem;
        coeff = λ f. none.coeff (λ e o. fits-none c.args.levels (context_at at c.args.container.now e) c.args.at (line_extent_at at c.args.extent.now e) c.if-levels-eq0.true (f e o));
        opens = none.opens;
      };
}

pub returns-then-at-container : goal.returns-then-at-container
unfolding context_at
returns-then-at-container g t c = record {
  goes = c.zero-then-at-container.ensures.goes;
  value = λ e o.
      let at = g.S.Steady.at in
      c.zero-then-at-container.ensures.value e o ∙ sym (shift-here c.args.levels (context_at at c.args.container.now e) c.args.at (line_extent_at at c.args.extent.now e) c.if-at-container.true);
  cause =
      let at = g.S.Steady.at in
      let none = c.zero-then-at-container.ensures.cause in
      record {
        mem = none.mem;
        coeff = λ f. none.coeff (λ e o. fits-here c.args.levels (context_at at c.args.container.now e) c.args.at (line_extent_at at c.args.extent.now e) c.if-at-container.true (f e o));
        opens = none.opens;
      };
}

pub returns-in-None : goal.returns-in-None
unfolding context_at
returns-in-None g t c = record {
  goes = c.zero-in-None.ensures.goes;
  value = λ e o.
      let at = g.S.Steady.at in
      c.zero-in-None.ensures.value e o ∙ sym (shift-root c.args.levels (context_at at c.args.container.now e) c.args.at (line_extent_at at c.args.extent.now e) (sym c.in-None.ensures));
  cause =
      let at = g.S.Steady.at in
      let none = c.zero-in-None.ensures.cause in
      record {
        mem = none.mem;
        coeff = λ f. none.coeff (λ e o. fits-root c.args.levels (context_at at c.args.container.now e) c.args.at (line_extent_at at c.args.extent.now e) (sym c.in-None.ensures) (f e o));
        opens = none.opens;
      };
}

pub returns-in-Some : goal.returns-in-Some
unfolding context_at
returns-in-Some g t c = record {
  goes = Goes-then _ _ _ (Goes-then _ _ _ (Goes-then _ _ _ c.raise-own.ensures.goes c.inline_extent-outer.ensures.goes) c.shift_to-above.ensures.goes) c.add.ensures.goes;
  value = λ e o.
      let at = g.S.Steady.at in
      let tree = c.args.container.now.tree.now in
      let ctx = context_at at c.args.container.now e in
      let ext = line_extent_at at c.args.extent.now e in
      let b = c.args.at in
      let p = c.in-Some.parent in
      let less = c.args.levels - 1 in
      let o1 = c.add.ensures.goes.closes e o in
      let o2 = c.shift_to-above.ensures.goes.closes e o1 in
      let o3 = c.inline_extent-outer.ensures.goes.closes e o2 in
      let up : c.args.levels ≡ suc (c.args.levels - 1) = omega arith in
      let node = c.node-node.ensures in
      let around = c.node-around.ensures in
      let own_one = c.raise-own.ensures.value e o3
      ∙ (ap (λ n. raise_in ctx n c.node-around.result ext c.vertical_align-valign.result) node
      ∙ (ap (λ n. raise_in ctx (node_of tree b) n ext c.vertical_align-valign.result) around
      ∙ ap (λ v. raise_in ctx (node_of tree b) (node_of tree p) ext v) c.vertical_align-valign.ensures)) in
      let above = c.shift_to-above.ensures.value e o1
      ∙ ap (λ x. shift_to less ctx p x) (c.inline_extent-outer.ensures.value e o2 ∙ ap (λ n. inline_extent tree e.world n) around) in
      c.add.ensures.value e o
      ∙ (ap (λ x. x +ℤ at c.shift_to-above.result e) own_one
      ∙ (ap (λ x. raise_in ctx (node_of tree b) (node_of tree p) ext (own tree b (λ (s : Style). s.valign) of_valign.Baseline) +ℤ x) above
      ∙ sym (shift-up c.args.levels less ctx b ext p up c.if-at-container.false (sym c.in-Some.ensures))));
  cause =
      let at = g.S.Steady.at in
      let run = g.S.Steady.run in
      let tree = c.args.container.now.tree.now in
      let b = c.args.at in
      let p = c.in-Some.parent in
      let less = c.args.levels - 1 in
      let up : c.args.levels ≡ suc (c.args.levels - 1) = omega arith in
      let node = c.node-node.ensures in
      let around = c.node-around.ensures in
      let valign = c.vertical_align-valign.ensures in
      let own_one = c.raise-own.ensures in
      let outer = c.inline_extent-outer.ensures in
      let above = c.shift_to-above.ensures in
      let start = run c.args.calc.now in
      let more = (e : Reading) → IsTrue (start.is_open e) → ShiftFits_to c.args.levels (context_at at c.args.container.now e) b (line_extent_at at c.args.extent.now e) in
      let parts = (λ (f : more) (e : Reading) (o : IsTrue (start.is_open e)).
      fits-up c.args.levels less (context_at at c.args.container.now e) b (line_extent_at at c.args.extent.now e) p up c.if-at-container.false (sym c.in-Some.ensures) (f e o)) in
      let own_is = (λ (e : Reading) (o : IsTrue ((run c.raise-own.new.calc).is_open e)).
      own_one.value e o
      ∙ (ap (λ n. raise_in (context_at at c.args.container.now e) n c.node-around.result (line_extent_at at c.args.extent.now e) c.vertical_align-valign.result) node
      ∙ (ap (λ n. raise_in (context_at at c.args.container.now e) (node_of tree b) n (line_extent_at at c.args.extent.now e) c.vertical_align-valign.result) around
      ∙ ap (λ v. raise_in (context_at at c.args.container.now e) (node_of tree b) (node_of tree p) (line_extent_at at c.args.extent.now e) v) valign))) in
      let outer_is = (λ (e : Reading) (o : IsTrue ((run c.inline_extent-outer.new.calc).is_open e)). outer.value e o ∙ ap (λ n. inline_extent tree e.world n) around) in
      let first : Blames start (run c.raise-own.new.calc) more = record {
        mem = own_one.cause.mem;
        coeff = λ f. own_one.cause.coeff (λ e o.
            let ctx = context_at at c.args.container.now e in
            let ext = line_extent_at at c.args.extent.now e in
            subst (λ n. RaiseFits ctx n c.node-around.result ext c.vertical_align-valign.result) (sym node)
            (subst (λ n. RaiseFits ctx (node_of tree b) n ext c.vertical_align-valign.result) (sym around)
            (subst (λ v. RaiseFits ctx (node_of tree b) (node_of tree p) ext v) (sym valign) (parts f e o).0)));
        opens = own_one.cause.opens;
      } in
      let second = Blames-then start (run c.raise-own.new.calc) (run c.inline_extent-outer.new.calc) _ more own_one.goes outer.goes first
      (λ f e o. subst (λ n. InlineFits tree e.world n) (sym around) (parts f e (own_one.goes.closes e o)).1.0) outer.cause in
      let g2 = Goes-then _ _ _ own_one.goes outer.goes in
      let third = Blames-then start (run c.inline_extent-outer.new.calc) (run c.shift_to-above.new.calc) _ more g2 above.goes second
      (λ f e o. subst (λ x. ShiftFits_to less (context_at at c.args.container.now e) p x) (sym (outer_is e o)) (parts f e (g2.closes e o)).1.1.0) above.cause in
      Blames-then start (run c.shift_to-above.new.calc) (run c.add.new.self) _ more (Goes-then _ _ _ g2 above.goes) c.add.ensures.goes third
      (λ f e o.
      let o2 = above.goes.closes e o in
      let o3 = outer.goes.closes e o2 in
      let ctx = context_at at c.args.container.now e in
      let sum = ap (λ x. x +ℤ at c.shift_to-above.result e) (own_is e o3)
      ∙ ap (λ x. raise_in ctx (node_of tree b) (node_of tree p) (line_extent_at at c.args.extent.now e) (own tree b (λ (s : Style). s.valign) of_valign.Baseline) +ℤ x)
      (above.value e o ∙ ap (λ x. shift_to less ctx p x) (outer_is e o2)) in
      (subst IsSmall (sym sum) (parts f e (own_one.goes.closes e o3)).1.1.1.0, tt))
      c.add.ensures.cause;
}
