use Rattle.std.proofs.Common.{[], arith}
use Rattle.page_media.specs.Features.{authors}
use Rattle.page_media.proofs.Seventeenth.{behind-sheets}
use Rattle.page_media.proofs.laws.features_are_all.Goals as goal

pub returns : goal.returns
returns c = λ sheets. behind-sheets [] 0 (authors sheets) (omega arith)
