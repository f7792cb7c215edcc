use Rattle.std.proofs.Common.{◌≡◌, ◌∙◌, ◌++◌, reverse, Option, sym, ap}
use Rattle.std.specs.Option.{option_and_then, option_to_list}
use Rattle.viz_base.specs.declared.jobs.Job.{Job}
use Rattle.cert_semantics.specs.Paths.{second, ◌▸◌, form_of}
use Rattle.viz_base.specs.declared.rectangles.Child.TheVariants.{Second}
use Rattle.cert_check.specs.declared.visits.Pending.{Pending}
use Rattle.cert_check.specs.declared.visits.Visits.{Visits}
use Rattle.cert_semantics.specs.Units.{cut_of, cut_at}
use Rattle.cert_check.specs.steps.Descent.{outer_of}
use Rattle.cert_check.specs.steps.Ways.{path_at}
use Rattle.cert_check.proofs.Descents.{form_is}
use Rattle.cert_check.proofs.Turns.{up_first, to_second}
use Rattle.cert_check.proofs.visits.Visits.turn_here.Goals as goal

pub returns-clause-due : goal.returns-clause-due
returns-clause-due c =
    let old = c.args.self.now in
    let new : Visits = record { descent = c.enter_second.new.self; part = c.child_part-self.result; pending = c.pop.new.self } in
    let first = up_first old.descent.job.now.range (path_at old.descent) (reverse old.pending.items) c.requires.first c.requires.turns.held in
    let held : Pending = c.in-Some.field-0 in
    let popped = c.pop.ensures.items ∙ ap (λ (o : Option Pending). c.pop.new.self.items ++ option_to_list o) c.in-Some.is in
    let left = c.leave_row.new.self in
    let job = c.in_ok-enter_second.ensures.job ∙ c.leave_row.ensures.job in
    let path = c.in_ok-enter_second.ensures.above ∙ (λ i. second held.row ▸ c.leave_row.ensures.above i) in
    let form : c.job.result.now.form ≡ form_of (outer_of (path_at old.descent)) = ap (λ (j : Job). j.form) (c.job.ensures ∙ c.in_ok-enter_second.ensures.job) ∙ sym (form_is left.job.now.form left.above) ∙ ap form_of c.leave_row.ensures.above in
    let cut = c.child_part-self.ensures ∙ (λ i. option_and_then (cut_at (cut_of (form i) held.row) Second) held.part) in
    to_second old new c.args.number first held popped job path cut c.requires.turns
