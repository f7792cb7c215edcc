use Rattle.std.proofs.Common.{◌≡◌, ap, subst, ◌∙◌}
use Rattle.std.specs.Option.{option_copied}
use Rattle.css_semantics.specs.ComputedValues.{AreDrawn, IsComputed, of_parent}
use Rattle.page_style.proofs.computing.add_style.Goals as goal

pub returns : goal.returns
returns c =
    let n = c.args.node.now in
    let ws = c.args.winners.now in
    let s = c.in_ok-style.style in
    let d = c.drawn_borders-borders.result in
    let up_drawn : c.copied.result ≡ of_parent c.args.drawn.now.items n = c.copied.ensures ∙ c.of_parent.ensures ∙ ap (λ ds. of_parent ds n) c.as_slice.ensures.value in
    let up : option_copied c.of_parent-2.result ≡ of_parent c.args.styles.now n = c.of_parent-2.ensures ∙ ap (λ ss. of_parent ss n) c.as_slice-2.ensures in
    record {
      borders = d;
      style = s;
      one_drawn = c.in_ok-push.ensures.items;
      one_style = c.in_ok-push-2.ensures.ok;
      are_drawn = subst (λ p. AreDrawn ws p d) up_drawn c.drawn_borders-borders.ensures;
      element = λ b. subst (λ p. IsComputed c.args.fonts.now c.args.at ws d p s) up (subst (λ k. IsComputed c.args.fonts.now k ws d (option_copied c.of_parent-2.result) s) c.in_ok-number.ensures (c.in_ok-style.ensures.element b));
      text = λ b t e. c.in_ok-style.ensures.text b t (up ∙ e);
    }
