use Rattle.cert_semantics.proofs.FitDefs.{shaped_defs_are_fit}
use Rattle.cert_semantics.proofs.shapes.well_shaped_defs.Goals as goal

pub returns : goal.returns
returns c = shaped_defs_are_fit
