use Rattle.std.proofs.Common.{◌≡◌, ℕ, Bool, List, Option, length, Err, sym, ◌∙◌, ap, subst}
use Rattle.css_semantics.specs.Cascade.{value_at}
use Rattle.css_cascade.specs.declared.beside.Refused.{Refused}
use Rattle.css_cascade.specs.steps.Beside.{GoesOrRefuses, IsRefusedAt, NoneRefusedTo, has_refused}
use Rattle.css_cascade.proofs.Judged.{none_has, none_shown, one_shown}
use Rattle.css_cascade.proofs.pseudo.judged.Goals.{then-has_refused+in_ok-hidden+in_default, else-has_refused}
use Rattle.css_cascade.proofs.pseudo.judged.Goals as goal

pub returns-in-Some : goal.returns-in-Some
returns-in-Some c rulesets beside =
    let at = c.in-Some.at in
    let named = c.in-Some.named in
    let one = subst (λ (rs : List (Option Refused)). IsRefusedAt rs c.deref-then-has_refused-2.result.now at named × NoneRefusedTo rs c.deref-then-has_refused-2.result.now at) c.deref-then-has_refused.ensures.value c.in-Some.ensures in
    let two = subst (λ (hs : List Bool). IsRefusedAt c.args.beside.refused.items hs at named × NoneRefusedTo c.args.beside.refused.items hs at) c.deref-then-has_refused-2.ensures.value one in
    subst (λ n. GoesOrRefuses c.args.page.now.nodes c.args.texts.now c.args.sheets.now rulesets (Err (value_at n named.prop named.source))) (sym c.in_ok-number.ensures)
    (one_shown c.args.page.now.nodes c.args.texts.now c.args.sheets.now rulesets c.args.beside.winners c.args.beside.refused.items beside c.in_ok-hidden.hidden.items at named c.in_ok-hidden.ensures two.0 two.1)

pub returns : goal.returns
returns c rulesets beside =
    let nodes = c.args.page.now.nodes in
    elim c.if-has_refused.branch [
      | then-has_refused+in_ok-hidden+in_default w ↦
          (let one = subst (λ (rs : List (Option Refused)). NoneRefusedTo rs w.deref-then-has_refused-2.result.now (length rs)) w.deref-then-has_refused.ensures.value w.in_default.ensures in
          let two = subst (λ (hs : List Bool). NoneRefusedTo c.args.beside.refused.items hs (length c.args.beside.refused.items)) w.deref-then-has_refused-2.ensures.value one in
          none_shown nodes c.args.texts.now c.args.sheets.now rulesets c.args.beside.winners c.args.beside.refused.items beside w.in_ok-hidden.hidden.items w.in_ok-hidden.ensures two)
      | else-has_refused w ↦
          none_has nodes c.args.texts.now c.args.sheets.now rulesets c.args.beside.winners c.args.beside.refused.items beside
          (sym (ap has_refused c.deref.ensures.value) ∙ (sym c.has_refused.ensures ∙ w.if-has_refused.false))
    ]
