use Rattle.cert_semantics.proofs.Variables.{have_variables, height_is_of_form_2}
use Rattle.cert_semantics.proofs.axes.axes_have_variables.Goals as goal

pub returns-clause-have : goal.returns-clause-have
returns-clause-have c = have_variables

pub returns-clause-height : goal.returns-clause-height
returns-clause-height c = height_is_of_form_2
