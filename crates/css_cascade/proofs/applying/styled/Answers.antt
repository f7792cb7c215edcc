use Rattle.std.proofs.Common.{sym, subst}
use Rattle.std.proofs.lemmas.Result.{IfOk-weaker}
use Rattle.css_semantics.specs.CascadeReading.{IsStyled}
use Rattle.css_cascade.proofs.applying.styled.Goals as goal

pub returns-in-Some : goal.returns-in-Some
returns-in-Some c = IfOk-weaker _ _ _ (λ claims h. IsStyled.styled (sym c.in-Some.ensures) h.1 h.2) c.styled_by.ensures

pub returns-in-None : goal.returns-in-None
returns-in-None c = subst (IsStyled c.args.node c.args.attrs.now) (sym c.new.ensures) (IsStyled.unstyled (sym c.in-None.ensures))
