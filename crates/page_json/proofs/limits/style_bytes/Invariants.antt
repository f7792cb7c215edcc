use Rattle.std.proofs.Common.{◌≡◌, take}
use Rattle.std.specs.Prelude.{sum_by}
use Rattle.page_json.specs.Jobs.{style_bytes_in}
use Rattle.page_json.proofs.limits.style_bytes.Given as goal

abbrev pub invariant-loop-attr : goal.invariant-loop-attr
invariant-loop-attr l = l.total ≡ sum_by style_bytes_in (take l.attr-index l.attrs)
