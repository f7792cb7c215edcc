use Rattle.std.specs.Option.{option_copied}
use Rattle.page_style.specs.Added.{own_of}
use Rattle.page_style.proofs.StyleFacts.{is_style}
use Rattle.page_style.proofs.elements.element_style.Goals as goal

pub invariant_of-result : goal.invariant_of-result
invariant_of-result c = record { ok = is_style c.args.node c.args.winners.now c.requires c.args.drawn (option_copied c.args.parent) (own_of c.own_lengths-own.result) _ _ _ c.own_lengths-own.ensures c.size.ensures c.line.ensures c.valign.ensures }
