use Rattle.std.proofs.Common.{◌≡◌, ◌++◌, ◌∙◌, List, [], map, option_map, refl, sym, ap, subst}
use Rattle.std.specs.Prelude.{flat_map}
use Rattle.std.proofs.lemmas.List.{append-nil}
use Rattle.css_semantics.specs.CascadeNodes.{winners_of}
use Rattle.css_semantics.specs.CascadeReading.{AreAppliedBeside}
use Rattle.css_semantics.specs.PseudoCascade.{settings_beside}
use Rattle.css_cascade.specs.steps.Beside.{IsBeside, named, refused_of}
use Rattle.css_cascade.specs.steps.Seen.{claims_in, seen}
use Rattle.css_cascade.specs.steps.Trimming.{rules_of}
use Rattle.css_cascade.proofs.Keeping.{winners_are}
use Rattle.css_cascade.proofs.beside.come_beside.Goals as goal

pub returns-in_ok-settings_beside-in-Element : goal.returns-in_ok-settings_beside-in-Element
returns-in_ok-settings_beside-in-Element c =
    let kept = c.in_ok-best-in-Element.ensures.kept in
    let among = c.in_ok-winners-in-Element.ensures ∙ ap (λ b. flat_map claims_in (map (option_map seen) b)) c.as_slice.ensures.value in
    let winners : map (λ x. x.now) c.in_ok-winners-in-Element.winners.items ≡ winners_of kept.0 =
    winners_are _ (kept.0 ++ []) _ kept.2 among ∙ ap winners_of (append-nil kept.0) in
    record {
      all = kept.0;
      are_applied = subst (λ body. AreAppliedBeside c.args.page.now.nodes (map rules_of c.args.rulesets.now) c.args.at body kept.0) (sym c.in-Element.is) (AreAppliedBeside.to_element kept.1);
      settings_are = c.in_ok-settings_beside-in-Element.ensures ∙ ap settings_beside (ap (map (λ x. x.now)) c.deref.ensures.value ∙ winners);
      refused_is = c.refused_of.ensures ∙ ap (λ cs. option_map named (refused_of cs)) (ap (map (λ x. x.now)) c.deref-in-Element.ensures.value ∙ winners);
    }

pub returns-in-Chars : goal.returns-in-Chars
returns-in-Chars c = record {
  all = [];
  are_applied = subst (λ body. AreAppliedBeside c.args.page.now.nodes (map rules_of c.args.rulesets.now) c.args.at body []) (sym c.in-Chars.is) AreAppliedBeside.to_text;
  settings_are = c.new.ensures;
  refused_is = refl;
}
