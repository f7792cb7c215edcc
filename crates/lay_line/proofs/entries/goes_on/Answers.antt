use Rattle.std.proofs.Common.{false, sym, ap, ◌∙◌}
use Rattle.std.specs.Option.{option_map_or}
use Rattle.layout_semantics.specs.Fragments.{is_text_of}
use Rattle.lay_line.specs.Readings.{before_at}
use Rattle.lay_line.proofs.entries.goes_on.Goals as goal

pub returns-in-Some : goal.returns-in-Some
returns-in-Some g c = λ read e. c.is_text_of.ensures read e ∙ sym (ap (λ o. option_map_or (is_text_of c.args.at) (before_at read o e) false) c.in-Some.is)
