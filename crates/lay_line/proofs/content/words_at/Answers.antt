use Rattle.std.proofs.Common.{Some, None, ap, sym, ◌∙◌}
use Rattle.std.specs.Option.{option_copied}
use Rattle.lay_line.specs.steps.Content.{summed_words}
use Rattle.lay_line.proofs.Contents.{kept-words}
use Rattle.lay_line.proofs.content.words_at.Goals as goal

pub returns-in-Some : goal.returns-in-Some
returns-in-Some c =
    ap (summed_words c.args.at) c.as_slice.ensures
    ∙ kept-words c.args.tree.now c.args.at (Some c.in-Some.words.now) (sym (ap option_copied c.in-Some.is) ∙ c.get.ensures.value)

pub returns-in-None : goal.returns-in-None
returns-in-None c = kept-words c.args.tree.now c.args.at None (sym (ap option_copied c.in-None.is) ∙ c.get.ensures.value)
