use Rattle.std.proofs.Common.{◌≡◌, ◌+◌, suc, ℤ, ◌∷◌, [], Option, Some, FitsSigned, w64, to_z-of_z, rules, arith, ap, sym, subst, ◌∙◌}
use Rattle.std.proofs.lemmas.Grind.{common_steps}
use Rattle.viz_base.specs.FontSizes.{fraction}
use Rattle.viz_base.specs.declared.lengths.Length.{Length}
use Rattle.viz_base.specs.declared.lengths.Length.TheVariants as of_length
use Rattle.viz_base.specs.declared.trees.BoxTree.{BoxTree}
use Rattle.viz_base.specs.declared.worlds.World.{World}
use Rattle.viz_calc.specs.State.{AllSmall}
use Rattle.viz_calc.specs.World.{Reading}
use Rattle.layout_semantics.specs.DefiniteHeights.{definite_height, definite_height_to}
use Rattle.lay_width.specs.Fitting.{DefiniteFits_to, HeightFits}
use Rattle.lay_width.specs.Readings.{option_at}
use Rattle.lay_line.proofs.Chains.{start, next}
use Rattle.lay_flow.specs.Fits.{OwnFits}
use Rattle.lay_flow.proofs.heights.height_of.Goals as goal

-- of a percentage of a definite height
part-fits : (tree : BoxTree) (w : World) (length : Length) (part : ℤ) (around : Option ℤ) (whole : ℤ) → length ≡ of_length.Pct part → around ≡ Some whole → HeightFits tree w around length
    → AllSmall (fraction part 100000000 whole ∷ [])
part-fits tree w length part around whole l a f = subst (λ o. HeightFits tree w o (of_length.Pct part)) a (subst (HeightFits tree w around) l f)

pub returns-in-Some : goal.returns-in-Some
returns-in-Some g c =
    let at = g.S.Steady.at in
    let tree = c.args.page.now.tree.now in
    let b = c.args.b in
    let whole = c.definite_height.ensures in
    let from = c.from.ensures in
    let same : suc b ≡ c.from.result + 1 = omega (arith, from) in
    let asks = (λ (e : Reading). OwnFits tree e.world b c.args.length.now) in
    let one = start {asks = asks} whole.goes whole.cause (λ f e o. subst (λ n. DefiniteFits_to n tree e.world b) same (f e o).0) in
    let chain = next one c.percentage.ensures.goes c.percentage.ensures.cause (λ f e o.
    let fits = (f e o).1 in
    let known : definite_height tree e.world b ≡ Some (at c.in-Some.whole e) =
    ap (λ n. definite_height_to n tree e.world b) same ∙ sym (whole.value e o) ∙ ap (λ r. option_at at r e) c.in-Some.is in
    let part : FitsSigned w64 c.in-Pct.part = search rules in
    rw to_z-of_z (part-fits tree e.world c.args.length.now c.in-Pct.part (definite_height tree e.world b) (at c.in-Some.whole e) c.in-Pct.is known fits)) in
    record {
      goes = chain.goes;
      value = grind (arith, common_steps);
      cause = chain.cause;
    }

pub returns-in-None : goal.returns-in-None
returns-in-None g c =
    let tree = c.args.page.now.tree.now in
    let b = c.args.b in
    let from = c.from.ensures in
    let same : suc b ≡ c.from.result + 1 = omega (arith, from) in
    let chain = start {asks = λ (e : Reading). OwnFits tree e.world b c.args.length.now} c.definite_height.ensures.goes c.definite_height.ensures.cause (λ f e o. subst (λ n. DefiniteFits_to n tree e.world b) same (f e o).0) in
    record {
      goes = chain.goes;
      value = grind (arith, common_steps);
      cause = chain.cause;
    }
