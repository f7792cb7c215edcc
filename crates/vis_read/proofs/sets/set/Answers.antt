use Rattle.vis_read.specs.Tokens.{IsSet}
use Rattle.vis_read.proofs.sets.set.Goals as goal

pub returns-in-Err-Bad : goal.returns-in-Err-Bad
returns-in-Err-Bad c = IsSet.bad c.in-Err-Bad.field-0-0 (rw c.in-Err-Bad.field-0-is at c.in-Err-Bad.ensures.answer)

pub returns-in-Err-Unsupported : goal.returns-in-Err-Unsupported
returns-in-Err-Unsupported c = IsSet.unsupported c.in-Err-Unsupported.field-0-0 (rw c.in-Err-Unsupported.field-0-is at c.in-Err-Unsupported.ensures.answer)
