-- From the checker's verdict to what it proves of a job.
use Rattle.std.proofs.Common.{ℕ, List, arith}
use Rattle.viz_base.specs.declared.worlds.World.{World}
use Rattle.viz_base.specs.declared.jobs.Job.{Job}
use Rattle.cert_text.specs.declared.certificate.Cert.{Cert}
use Rattle.cert_semantics.specs.Paths.{Path}
use Rattle.cert_semantics.specs.Nodes.{Decision, names, splits, states, is_empty, by_worlds, by_answers}
use Rattle.cert_check.specs.declared.verdicts.Verdict.TheVariants.{Rejected}
use Rattle.cert_check.specs.declared.verdicts.Reject.TheVariants.{Untrue}
use Rattle.cert_check.specs.Verdicts.{IsFault, Passes, IsVerdict}
use Rattle.prove_search.specs.Outcomes.{IsProof, IsViolation}
use Rattle.prove_search.specs.steps.Turns.{IsWithinBounds}

pub passes_proves : (job : Job) (turns most : ℕ) (cert : Cert) (text : List ℕ) → IsWithinBounds job turns most cert text → Passes job cert
    → IsProof job turns most cert
passes_proves job turns most cert text bounds passes = record {
  right = passes.right;
  holds = passes.holds;
  few = bounds.few;
  text = text;
  spelled = bounds.spelled;
  short = omega (arith, bounds.short);
  one_grid = bounds.one_grid;
  form = bounds.form;
}

-- only a grid is rejected so, and its world is one of the range
fault_violates : (job : Job) (path : Path) (decision : Decision) (n : ℕ) (world : World) → IsFault job path decision (Untrue n world)
    → IsViolation job job.range world
fault_violates job path (names row d) n world h = absurd h
fault_violates job path (splits row) n world h = absurd h
fault_violates job path (states row why) n world h = absurd h
fault_violates job path (is_empty why) n world h = absurd h
fault_violates job path by_worlds n world h = record { in_range = h.1.in_range; untrue = h.1.untrue }
fault_violates job path (by_answers answers) n world h = absurd h

pub untrue_violates : (job : Job) (cert : Cert) (n : ℕ) (world : World) → IsVerdict job cert (Rejected (Untrue n world))
    → IsViolation job job.range world
untrue_violates job cert n world h = fault_violates job h.node.path h.node.decision n world h.rejected.1
