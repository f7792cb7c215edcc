use Rattle.std.proofs.Common.{◌≡◌, ◌==◌, ◌∷◌, Some, false, map, option_map, sym, subst, arith}
use Rattle.std.proofs.lemmas.Bool.Decides.{nat_tests}
use Rattle.css_cascade.specs.steps.Seen.{seen}
use Rattle.css_cascade.specs.steps.Trying.{Behind}
use Rattle.css_cascade.proofs.Strongest.{other_behind}
use Rattle.css_cascade.proofs.trying.join.Goals as goal

pub returns-else-found-next-clause-goes : goal.returns-else-found-next-clause-goes
returns-else-found-next-clause-goes c = λ behind.
    let rulesets = c.args.rulesets.now in
    let before = map (option_map seen) c.args.best.now.items in
    let after = map (option_map seen) c.keep_rules.new.best.items in
    let apart : (c.in-Some.found.rules == c.args.next.rules) ≡ false = grind (arith, nat_tests, c.if-found-next.false) in
    subst (λ going. Behind rulesets after (Some c.args.next) behind ≡ Behind rulesets before going (c.args.next ∷ behind)) (sym c.in-Some.is)
    (other_behind rulesets before after c.in-Some.found c.args.next behind apart c.keep_rules.ensures.kept)
