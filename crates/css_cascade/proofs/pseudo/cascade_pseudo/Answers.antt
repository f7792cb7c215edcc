use Rattle.std.proofs.Common.{◌≡◌, [], length, replicate, Ok, rules, sym, subst, ap, ◌∙◌}
use Rattle.css_semantics.specs.PseudoCascade.{IsPseudoCascade}
use Rattle.viz_base.specs.Answers.{FailsWith}
use Rattle.css_cascade.specs.Faults.{refusal_of}
use Rattle.viz_base.specs.declared.settings.Cascaded.{Cascaded}
use Rattle.css_cascade.specs.steps.Beside.{AreBeside, GoesOrRefuses}
use Rattle.css_cascade.proofs.Judged.{nothing_in, of_pseudo}
use Rattle.css_cascade.proofs.Rulesets.{gives_on}
use Rattle.css_cascade.proofs.PseudoOutcomes.{no_pseudo, pseudo_lists, pseudo_places, refused_pseudo}
use Rattle.css_cascade.proofs.pseudo.cascade_pseudo.Goals as goal

pub returns-in_err-rulesets-clause-given : goal.returns-in_err-rulesets-clause-given
returns-in_err-rulesets-clause-given c =
    let k : FailsWith (refusal_of c.in_err-rulesets.field-0.0) (IsPseudoCascade c.args.page.now.nodes c.args.texts.now c.args.sheets.now c.args.which) =
    refused_pseudo _ _ _ _ c.in_err-rulesets.field-0.0 c.in_err-rulesets.ensures in
    search rules

pub returns-in_err-rulesets-clause-places : goal.returns-in_err-rulesets-clause-places
returns-in_err-rulesets-clause-places c = pseudo_places c.from_residual.result c.args.page.now.nodes c.args.texts.now c.args.sheets.now c.args.which (returns-in_err-rulesets-clause-given c)

pub returns-clause-given : goal.returns-clause-given
returns-clause-given c =
    let nodes = c.args.page.now.nodes in
    let rulesets = c.in_ok-rulesets.rulesets.items in
    gives_on c.judged.result (GoesOrRefuses nodes c.args.texts.now c.args.sheets.now rulesets) (IsPseudoCascade nodes c.args.texts.now c.args.sheets.now c.args.which)
    (λ a h. of_pseudo nodes c.args.texts.now c.args.sheets.now c.args.which rulesets a c.in_ok-rulesets.ensures h)
    (c.judged.ensures rulesets (subst (λ rs. AreBeside nodes rs c.in_ok-beside.beside) c.deref.ensures.value c.in_ok-beside.ensures))

pub returns-clause-lists : goal.returns-clause-lists
returns-clause-lists c = pseudo_lists c.judged.result c.args.page.now.nodes c.args.texts.now c.args.sheets.now c.args.which (returns-clause-given c)

pub returns-clause-places : goal.returns-clause-places
returns-clause-places c = pseudo_places c.judged.result c.args.page.now.nodes c.args.texts.now c.args.sheets.now c.args.which (returns-clause-given c)

pub returns-then-is_empty-clause-given : goal.returns-then-is_empty-clause-given
returns-then-is_empty-clause-given c =
    let nodes = c.args.page.now.nodes in
    let rulesets = c.in_ok-rulesets.rulesets.items in
    let none : rulesets ≡ [] = sym c.as_slice.ensures.value ∙ nothing_in c.as_slice.result.now (sym c.if-is_empty.true ∙ c.is_empty.ensures) in
    subst (λ ws. IsPseudoCascade nodes c.args.texts.now c.args.sheets.now c.args.which (Ok ws)) (sym (c.in_ok-winners.ensures ∙ ap (λ n. replicate n []) c.len.ensures))
    (no_pseudo nodes c.args.texts.now c.args.sheets.now c.args.which rulesets none c.in_ok-rulesets.ensures)

pub returns-then-is_empty-clause-lists : goal.returns-then-is_empty-clause-lists
returns-then-is_empty-clause-lists c =
    pseudo_lists (Ok (record { winners = c.in_ok-winners.winners })) c.args.page.now.nodes c.args.texts.now c.args.sheets.now c.args.which (returns-then-is_empty-clause-given c)
