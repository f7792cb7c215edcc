use Rattle.std.proofs.Common.{◌≡◌, ◌∙◌, ap}
use Rattle.std.proofs.lemmas.Result.{IfOk-weaker}
use Rattle.viz_base.specs.declared.formulas.Formula.{Formula}
use Rattle.page_build.specs.Renumbering.{number_in, renumbered}
use Rattle.page_build.specs.Seen.{number_at}
use Rattle.page_build.proofs.Numbers.{renumbered-by}
use Rattle.page_build.proofs.renumbering.renumbered.Goals as goal

pub returns : goal.returns
returns c =
    let f = c.args.formula.now in
    IfOk-weaker c.over.result (λ (g : Formula). g ≡ renumbered (number_at c.deref.result.now) f) (λ (g : Formula). g ≡ renumbered (number_in c.args.from.now) f)
    (λ g is. is ∙ (ap (λ numbers. renumbered (number_at numbers) f) c.deref.ensures.value ∙ renumbered-by c.args.from.now c.in_ok-numbers.numbers.items f c.in_ok-numbers.ensures))
    c.over.ensures
