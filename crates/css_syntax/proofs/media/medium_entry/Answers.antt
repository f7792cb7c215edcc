use Rattle.std.proofs.Common.{◌≡◌, ◌∙◌, sym, ap, [], true}
use Rattle.css_semantics.specs.MediaLists.{is_medium}
use Rattle.css_semantics.specs.steps.MediaLists.{further, with_front}
use Rattle.css_syntax.proofs.MediaSteps.{medium_made}
use Rattle.css_syntax.proofs.media.medium_entry.Goals as goal

pub returns : goal.returns
returns c =
    let named : is_medium c.args.name ≡ true = sym c.is_medium.ensures ∙ c.if-not-is_medium.false in
    let features : c.in_ok-features.features ≡ with_front [] (further c.args.rest.now) = c.in_ok-features.ensures ∙ ap (λ x. with_front x (further c.args.rest.now)) c.new.ensures in
    c.entry_with.ensures ∙ medium_made c.args.negated c.args.name c.args.rest.now c.is_shown.result c.in_ok-features.features named c.is_shown.ensures features
