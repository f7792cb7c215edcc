use Rattle.std.proofs.Common.{◌≡◌, ℕ, [], ◌∷◌, length, refl, sym, subst, ap, ◌∙◌, arith}
use Rattle.std.proofs.lemmas.Grind.{common_steps}
use Rattle.std.specs.Str.{chars}
use Rattle.viz_calc.specs.State.{AllSmall}
use Rattle.layout_semantics.specs.Fonts.{text_width}
use Rattle.lay_length.specs.Ways.{part_way}
use Rattle.lay_preferred.proofs.inlines.space_width.Goals as goal

pub text_width-requires : goal.text_width-requires
unfolding chars
text_width-requires g c = let one : length (chars (32 ∷ [])) ≡ 1 = refl in omega (arith, one)

pub returns : goal.returns
unfolding chars
returns g c = record {
  goes = grind (arith, common_steps);
  value = λ e o. c.text_width.ensures.value e o ∙ ap (λ n. text_width c.args.tree.now e.world n (32 ∷ [])) c.node.ensures;
  cause =
      let why = c.text_width.ensures.cause in
      record {
        mem = why.mem;
        coeff = λ f. why.coeff (λ e o. subst (λ (n : ℕ). AllSmall (part_way c.args.tree.now e.world n (text_width c.args.tree.now e.world n (32 ∷ [])))) (sym c.node.ensures) (f e o));
        opens = why.opens;
      };
}
