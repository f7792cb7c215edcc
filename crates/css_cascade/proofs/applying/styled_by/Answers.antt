use Rattle.std.proofs.Common.{subst}
use Rattle.std.proofs.lemmas.Result.{IfOk-weaker}
use Rattle.css_semantics.specs.declared.claims.Origin.TheVariants as of_origin
use Rattle.css_semantics.specs.CascadeReading.{AreClaimed}
use Rattle.css_cascade.proofs.Applies.{styled_as}
use Rattle.css_cascade.proofs.applying.styled_by.Goals as goal

pub returns : goal.returns
returns c = IfOk-weaker _ _ _ (λ claims h. styled_as c.args.node c.args.text.now c.in_ok-decls.decls c.in_ok-decls.ensures claims (subst (λ ds. AreClaimed (of_origin.Style c.args.node) c.args.text.now ds claims) c.as_slice.ensures h)) c.claims_in.ensures
