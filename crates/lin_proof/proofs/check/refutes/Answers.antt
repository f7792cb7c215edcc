use Rattle.std.proofs.Common.{arith}
use Rattle.std.proofs.lemmas.Grind.{common_steps}
use Rattle.lin_proof.specs.Derivations.{Refutes}
use Rattle.lin_proof.proofs.Sound.{law}
use Rattle.lin_proof.proofs.check.refutes.Goals as goal

pub returns-clause-sound : goal.returns-clause-sound
returns-clause-sound c =
    λ yes. let refuted : Refutes c.args.facts.now c.args.vars c.args.d.now = grind (arith, common_steps) in
    law c.args.facts.now c.args.vars c.args.d.now refuted
