use Rattle.std.proofs.Common.{◌≢◌, Err, refl, rules, sym, subst}
use Rattle.page_json.specs.Jobs.{raw_of}
use Rattle.page_pseudo.specs.Growth.{growth_of}
use Rattle.page_build.specs.declared.faults.JobRefusal.TheVariants.{Mem}
use Rattle.page_build.specs.Jobs.{HasBoxes, IsRefusedTree}
use Rattle.page_build.specs.Seen.{IsLaid}
use Rattle.page_build.proofs.Stages.{refused_by}
use Rattle.page_build.proofs.building.laid_under.Goals as goal

pub returns-in_err-grown : goal.returns-in_err-grown
returns-in_err-grown c =
    let refusal = c.in_err-grown.field-0.0 in
    let k : (refusal ≢ Mem → IsRefusedTree (raw_of c.args.raw.now) c.args.sheets.now refusal) = λ other. IsRefusedTree.page (c.in_err-grown.ensures.given other) in
    search rules

pub returns-in_err-tree : goal.returns-in_err-tree
returns-in_err-tree c =
    let raw = c.args.raw.now in
    let sheets = c.args.sheets.now in
    let refusal = c.in_err-tree.field-0.0 in
    let k : (refusal ≢ Mem → IsRefusedTree (raw_of raw) sheets refusal) = λ other.
    (let found = c.in_err-tree.ensures other in
    let boxes : HasBoxes (raw_of raw) sheets (growth_of c.in_ok-grown.grown) (Err found.0) = record { growth = c.in_ok-grown.ensures.given; fonts = raw.fonts; measures = refl; tree = found.1 } in
    subst (IsRefusedTree (raw_of raw) sheets) (sym found.2) (IsRefusedTree.boxes boxes)) in
    refused_by (IsLaid (raw_of raw) sheets) (λ other. other ≢ Mem → IsRefusedTree (raw_of raw) sheets other) c.from_residual-in_err-tree.result refusal c.from_residual-in_err-tree.ensures k
