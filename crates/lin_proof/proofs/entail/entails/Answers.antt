use Rattle.std.proofs.Common.{arith}
use Rattle.std.proofs.lemmas.Grind.{common_steps}
use Rattle.lin_proof.specs.Entailments.{Entails}
use Rattle.lin_proof.proofs.Sound.{entailment_law}
use Rattle.lin_proof.proofs.entail.entails.Goals as goal

pub returns-clause-sound : goal.returns-clause-sound
returns-clause-sound c =
    λ yes. let entailed : Entails c.args.facts.now c.args.vars c.args.row.now c.args.d.now = grind (arith, common_steps) in
    entailment_law c.args.facts.now c.args.vars c.args.row.now c.args.d.now entailed
