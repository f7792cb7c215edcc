use Rattle.std.proofs.Common.{◌≡◌, [], ◌∷◌, length, refl, ap, sym, subst, ◌∙◌, arith}
use Rattle.viz_calc.specs.State.{AllSmall}
use Rattle.viz_calc.specs.World.{Reading}
use Rattle.layout_semantics.specs.Blocks.{node_of}
use Rattle.lay_length.specs.Ways.{part_way}
use Rattle.lay_line.proofs.Chains.{start}
use Rattle.std.specs.Str.{chars}
use Rattle.layout_semantics.specs.Fonts.{text_width}
use Rattle.lay_line.proofs.sizes.space_width.Goals as goal

pub text_width-requires : goal.text_width-requires
unfolding chars
text_width-requires g c = let one : length (chars (32 ∷ [])) ≡ 1 = refl in omega (arith, one)

pub returns : goal.returns
unfolding chars
returns g c =
    let tree = c.args.tree.now in
    let asks = (λ (e : Reading). AllSmall (part_way tree e.world (node_of tree c.args.at) (text_width tree e.world (node_of tree c.args.at) (32 ∷ [])))) in
    let chain = (start {asks = asks} c.text_width.ensures.goes c.text_width.ensures.cause
    (λ f e o. subst (λ n. AllSmall (part_way tree e.world n (text_width tree e.world n (32 ∷ [])))) (sym c.node.ensures) (f e o))) in
    record {
      goes = chain.goes;
      value = λ e o. c.text_width.ensures.value e o ∙ ap (λ n. text_width c.args.tree.now e.world n (32 ∷ [])) c.node.ensures;
      cause = chain.cause;
    }
