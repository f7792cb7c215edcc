use Rattle.std.proofs.Common.{rules}
use Rattle.css_semantics.specs.SheetsMarks.{text_of}
use Rattle.css_syntax.proofs.declarations.decl_of.Goals as goal

pub returns : goal.returns
unfolding text_of
returns c = search rules
