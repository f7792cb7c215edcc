use Rattle.cert_text.proofs.Faults.{spelled, stuck}
use Rattle.cert_text.proofs.nodes.read_cert.Goals as goal

pub overflow_sub-result : goal.overflow_sub-result
overflow_sub-result c = (stuck _ _ (rw c.in-Err-Refused.field-0-is at c.in-Err-Refused.ensures)).within

pub returns-in-Ok : goal.returns-in-Ok
returns-in-Ok c = spelled _ _ _ c.in-Ok.ensures

pub returns-in-Err-Refused : goal.returns-in-Err-Refused
returns-in-Err-Refused c = (stuck _ _ (rw c.in-Err-Refused.field-0-is at c.in-Err-Refused.ensures)).no_text
