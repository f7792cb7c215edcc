use Rattle.std.proofs.lemmas.Bool.Decides.{Decides-eqb}
use Rattle.std.proofs.lemmas.Slice.Eq.{strip_prefix_is}
use Rattle.css_select.proofs.Words.{behind_by}
use Rattle.css_select.proofs.attributes.behind.Goals as goal

pub returns : goal.returns
returns c = behind_by c.args.word.now c.args.text.now c.strip_prefix.result (strip_prefix_is Decides-eqb c.args.text.now c.args.word.now c.strip_prefix.result c.strip_prefix.ensures.cases)
