use Rattle.std.proofs.Common.{◌≡◌, ◌++◌, drop}
use Rattle.page_media.proofs.copies.copied_decls.Given as goal

abbrev pub invariant-loop-decl : goal.invariant-loop-decl
invariant-loop-decl l = l.copies ++ drop l.decl-index l.decls ≡ l.decls
