use Rattle.std.proofs.Common.{◌≡◌, ◌++◌, ◌∙◌, List, [], map, option_map, refl, sym, ap, subst}
use Rattle.std.specs.Prelude.{flat_map}
use Rattle.std.specs.List.{list_any}
use Rattle.css_semantics.specs.CascadeNodes.{hides, winners_of}
use Rattle.css_semantics.specs.CascadeOrder.{Applied, applied, style_spec}
use Rattle.css_semantics.specs.CascadeReading.{AreApplied, IsStyled}
use Rattle.css_cascade.specs.steps.Seen.{claims_in, seen}
use Rattle.css_cascade.specs.steps.Trimming.{rules_of}
use Rattle.css_cascade.proofs.Keeping.{winners_are}
use Rattle.css_cascade.proofs.hidden.hides_here.Goals as goal

pub returns-in_ok-winners-in-Element : goal.returns-in_ok-winners-in-Element
returns-in_ok-winners-in-Element c =
    let kept = c.in_ok-best-in-Element.ensures.kept in
    let style = c.as_slice-in-Element.result.now in
    let list : List Applied = kept.0 ++ map (applied style_spec) style in
    let said = subst (IsStyled c.args.at c.as_slice.result.now) (sym c.as_slice-in-Element.ensures) c.in_ok-style-in-Element.ensures in
    let all = AreApplied.to_element kept.1 (subst (λ attrs. IsStyled c.args.at attrs style) c.as_slice.ensures said) in
    let winners : map (λ x. x.now) c.deref.result.now ≡ winners_of list =
    winners_are _ list _ kept.2
    (ap (map (λ x. x.now)) c.deref.ensures.value ∙ c.in_ok-winners-in-Element.ensures ∙ ap (λ b. flat_map claims_in (map (option_map seen) b)) c.as_slice-in-Element-2.ensures.value) in (
      list,
      subst (λ body. AreApplied c.args.page.now.nodes (map rules_of c.args.rulesets.now) c.args.at body list) (sym c.in-Element.is) all,
      c.has_hiding.ensures ∙ ap (list_any hides) winners,
    )

pub returns-in-Chars : goal.returns-in-Chars
returns-in-Chars c =
    ([], subst (λ body. AreApplied c.args.page.now.nodes (map rules_of c.args.rulesets.now) c.args.at body []) (sym c.in-Chars.is) AreApplied.to_text, refl)
