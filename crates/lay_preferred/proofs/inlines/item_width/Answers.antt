use Rattle.std.proofs.Common.{ℕ, sym, subst, ap, arith}
use Rattle.std.proofs.lemmas.Grind.{common_steps}
use Rattle.viz_calc.specs.State.{AllSmall}
use Rattle.layout_semantics.specs.Fonts.{text_width}
use Rattle.lay_length.specs.Ways.{part_way}
use Rattle.lay_line.specs.Items.{item_of}
use Rattle.lay_preferred.specs.Fitting.{ItemFits}
use Rattle.lay_preferred.specs.steps.Parts.{width_of}
use Rattle.lay_preferred.proofs.inlines.item_width.Goals as goal

pub returns-in-Word : goal.returns-in-Word
unfolding ItemFits width_of
returns-in-Word g c = record {
  goes = grind (arith, common_steps);
  value = grind (arith, common_steps);
  cause =
      let tree = c.args.tree.now in
      let text = c.in-Word.word.now.letters in
      let why = c.word_width.ensures.cause in
      record {
        mem = why.mem;
        coeff = λ f. why.coeff (λ e o.
            subst (λ (n : ℕ). AllSmall (part_way tree e.world n (text_width tree e.world n text))) (sym c.node.ensures)
            (subst (ItemFits tree e.world) (ap item_of c.in-Word.is) (f e o)));
        opens = why.opens;
      };
}

pub returns-in-Space : goal.returns-in-Space
unfolding ItemFits width_of
returns-in-Space g c = record {
  goes = grind (arith, common_steps);
  value = grind (arith, common_steps);
  cause =
      let why = c.space_width.ensures.cause in
      record { mem = why.mem; coeff = λ f. why.coeff (λ e o. subst (ItemFits c.args.tree.now e.world) (ap item_of c.in-Space.is) (f e o)); opens = why.opens };
}

pub returns-in-Start : goal.returns-in-Start
unfolding ItemFits width_of
returns-in-Start g c = record {
  goes = grind (arith, common_steps);
  value = grind (arith, common_steps);
  cause =
      let why = c.start_width.ensures.cause in
      record { mem = why.mem; coeff = λ f. why.coeff (λ e o. subst (ItemFits c.args.tree.now e.world) (ap item_of c.in-Start.is) (f e o)); opens = why.opens };
}

pub returns-in-Finish : goal.returns-in-Finish
unfolding ItemFits width_of
returns-in-Finish g c = record {
  goes = grind (arith, common_steps);
  value = grind (arith, common_steps);
  cause =
      let why = c.end_width.ensures.cause in
      record { mem = why.mem; coeff = λ f. why.coeff (λ e o. subst (ItemFits c.args.tree.now e.world) (ap item_of c.in-Finish.is) (f e o)); opens = why.opens };
}
