use Rattle.std.proofs.Common.{◌-◌, ◌∙◌, length, Some, refl, sym, ap}
use Rattle.std.specs.Prelude.{slice_get}
use Rattle.std.specs.Option.{option_copied}
use Rattle.cert_check.specs.declared.descent.Above.{Above}
use Rattle.cert_check.specs.declared.descent.Above.TheVariants as of_above
use Rattle.cert_check.specs.declared.visits.Last.TheVariants.{Def, First, Other}
use Rattle.cert_check.proofs.Turns.{is_last, either_other}
use Rattle.cert_check.proofs.visits.last_of.Goals as goal

pub returns-in-Def : goal.returns-in-Def
returns-in-Def c =
    let s = c.args.descent.now in
    let above = c.above.ensures in
    let last = (λ i. slice_get (sym above i) (length (sym above i) - 1)) ∙ sym c.last.ensures.value ∙ ap option_copied c.in_ok-last.was in
    let step = of_above.Def c.in-Def.field-0 c.in-Def.field-1 in
    is_last s.job.now.form s.above step Def (last ∙ ap (λ (a : Above). Some a) c.in-Def.is) (λ outer. refl)

pub returns-in-First : goal.returns-in-First
returns-in-First c =
    let s = c.args.descent.now in
    let above = c.above.ensures in
    let last = (λ i. slice_get (sym above i) (length (sym above i) - 1)) ∙ sym c.last.ensures.value ∙ ap option_copied c.in_ok-last.was in
    is_last s.job.now.form s.above (of_above.First c.in-First.field-0) First (last ∙ ap (λ (a : Above). Some a) c.in-First.is) (λ outer. refl)

pub returns-in-Second : goal.returns-in-Second
returns-in-Second c =
    let s = c.args.descent.now in
    let above = c.above.ensures in
    let last = (λ i. slice_get (sym above i) (length (sym above i) - 1)) ∙ sym c.last.ensures.value ∙ ap option_copied c.in_ok-last.was in
    is_last s.job.now.form s.above c.in_ok-last.field-0.now Other last (either_other c.in_ok-last.field-0.now c.in-Second.is)

pub returns-in-Second-2 : goal.returns-in-Second-2
returns-in-Second-2 c =
    let s = c.args.descent.now in
    let above = c.above.ensures in
    let last = (λ i. slice_get (sym above i) (length (sym above i) - 1)) ∙ sym c.last.ensures.value ∙ ap option_copied c.in_ok-last.was in
    is_last s.job.now.form s.above c.in_ok-last.field-0.now Other last (either_other c.in_ok-last.field-0.now c.in-Second.is)
