use Rattle.std.proofs.Common.{[], ◌∙◌, length, refl}
use Rattle.layout_semantics.specs.Leads.{is_up_to, none_passed}
use Rattle.layout_semantics.specs.Clearance.{hangs, stands, on_ground, resolve}
use Rattle.lay_margin.specs.Runs.{no_run}
use Rattle.lay_steps.proofs.InOrder.{box_before}
use Rattle.lay_steps.proofs.Resolved.{up-prefix, resolve-found}
use Rattle.lay_steps.proofs.FlowSteps.{run-append, below-found}
use Rattle.lay_steps.proofs.laws.clearance_is_decided_on_the_way.Goals as goal

pub returns-clause-margins : goal.returns-clause-margins
returns-clause-margins c size edge run cb floats least =
    let found = below-found c.args.tree.now c.args.world size floats least c.args.at (length c.args.tree.now.boxes) c.requires.within (box_before c.args.tree.now c.args.at c.requires.within) cb edge run in
    run-append run (resolve (on_ground c.args.tree.now c.args.world size (hangs edge) floats least) run cb c.args.at none_passed).margins ∙ found.run

pub returns-clause-cleared : goal.returns-clause-cleared
returns-clause-cleared c size edge run cb floats least = (below-found c.args.tree.now c.args.world size floats least c.args.at (length c.args.tree.now.boxes) c.requires.within (box_before c.args.tree.now c.args.at c.requires.within) cb edge run).cleared

pub returns-clause-opened : goal.returns-clause-opened
returns-clause-opened c size y cb floats least =
    (resolve-found c.args.tree.now c.args.world size (stands y) floats least [] no_run (λ more. refl) cb c.args.at (length c.args.tree.now.boxes) c.requires.within (box_before c.args.tree.now c.args.at c.requires.within) (is_up_to c.args.at) (up-prefix c.args.at)).cleared
