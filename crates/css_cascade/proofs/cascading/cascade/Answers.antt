use Rattle.std.proofs.Common.{◌∙◌, [], map, rules, ap, sym, subst}
use Rattle.css_semantics.specs.Cascade.{Goes, IsCascade, cascaded}
use Rattle.viz_base.specs.Answers.{FailsWith}
use Rattle.css_cascade.specs.Faults.{refusal_of}
use Rattle.css_cascade.specs.steps.Trimming.{rules_of}
use Rattle.css_cascade.specs.steps.Trying.{AreBuckets}
use Rattle.css_cascade.proofs.Outcomes.{lists_on, places_on}
use Rattle.css_cascade.proofs.Rulesets.{gives_on, refused_page}
use Rattle.css_cascade.proofs.cascading.cascade.Goals as goal

pub returns-in_err-rulesets-clause-given : goal.returns-in_err-rulesets-clause-given
returns-in_err-rulesets-clause-given c =
    let k : FailsWith (refusal_of c.in_err-rulesets.field-0.0) (IsCascade c.args.page.now.nodes c.args.texts.now c.args.sheets.now) =
    refused_page _ _ _ c.in_err-rulesets.field-0.0 c.in_err-rulesets.ensures in
    search rules

pub cascade_nodes-requires-clause-buckets : goal.cascade_nodes-requires-clause-buckets
cascade_nodes-requires-clause-buckets c =
    subst (λ ts. AreBuckets c.args.page.now.nodes (map rules_of ts) c.in_ok-buckets.buckets) (c.deref-2.ensures.value ∙ sym c.deref-3.ensures.value) c.in_ok-buckets.ensures

pub returns-clause-given : goal.returns-clause-given
returns-clause-given c = gives_on c.cascade_nodes.result (Goes c.args.page.now.nodes (map rules_of c.deref-3.result.now) [] [] c.args.page.now.nodes) (IsCascade c.args.page.now.nodes c.args.texts.now c.args.sheets.now)
    (λ a g. cascaded c.in_ok-rulesets.ensures (subst (λ rs. Goes c.args.page.now.nodes rs [] [] c.args.page.now.nodes a) (ap (map rules_of) c.deref-3.ensures.value ∙ c.in_ok-trimmed.ensures.0 ∙ c.deref.ensures.value) g))
    c.cascade_nodes.ensures

pub returns-clause-lists : goal.returns-clause-lists
returns-clause-lists c = lists_on c.cascade_nodes.result c.args.page.now.nodes c.args.texts.now c.args.sheets.now (returns-clause-given c)

pub returns-clause-places : goal.returns-clause-places
returns-clause-places c = places_on c.cascade_nodes.result c.args.page.now.nodes c.args.texts.now c.args.sheets.now (returns-clause-given c)

pub returns-in_err-rulesets-clause-places : goal.returns-in_err-rulesets-clause-places
returns-in_err-rulesets-clause-places c = places_on c.from_residual.result c.args.page.now.nodes c.args.texts.now c.args.sheets.now (returns-in_err-rulesets-clause-given c)
