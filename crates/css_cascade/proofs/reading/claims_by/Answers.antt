use Rattle.std.proofs.Common.{sym, subst, Ok}
use Rattle.std.proofs.lemmas.Result.{IfOk-weaker}
use Rattle.css_semantics.specs.CascadeReading.{IsClaimed, says}
use Rattle.css_cascade.proofs.reading.claims_by.Goals as goal

pub returns-in-Some : goal.returns-in-Some
returns-in-Some c = IfOk-weaker _ _ _ (λ claims h. subst (λ cs. IsClaimed c.args.origin c.args.text.now c.args.decl.now (Ok cs)) (sym h.2) (says c.in-Some.ensures h.1)) c.said.ensures

pub returns-in-None : goal.returns-in-None
returns-in-None c = subst (λ cs. IsClaimed c.args.origin c.args.text.now c.args.decl.now (Ok cs)) (sym c.new.ensures) (IsClaimed.nothing_there c.in-None.ensures)
