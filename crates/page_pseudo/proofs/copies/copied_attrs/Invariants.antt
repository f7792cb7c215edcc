use Rattle.std.proofs.Common.{◌≡◌, ◌++◌, drop}
use Rattle.page_pseudo.proofs.copies.copied_attrs.Given as goal

abbrev pub invariant-loop-attr : goal.invariant-loop-attr
invariant-loop-attr l = l.copies ++ drop l.attr-index l.attrs ≡ l.attrs
