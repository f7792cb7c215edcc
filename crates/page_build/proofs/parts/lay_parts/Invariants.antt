use Rattle.std.proofs.Common.{take}
use Rattle.page_json.specs.Jobs.{raw_of}
use Rattle.page_build.specs.Jobs.{HaveTrees}
use Rattle.page_build.proofs.parts.lay_parts.Given as goal

abbrev pub invariant-loop-signs : goal.invariant-loop-signs
invariant-loop-signs l = HaveTrees (raw_of l.file.raw) l.file.sheets.items l.file.features (take l.signs-index l.parts)
