-- The turns that a certificate takes, and its bounds.
use Rattle.std.specs.Prelude.{◌≡◌, ◌↔◌, ℕ, ◌+◌, ◌<◌, ◌≤◌, ◌^◌, min, Option, MatchOption, List, length, IsTrue}
use Rattle.viz_base.specs.declared.jobs.Job.{Job}
use Rattle.cert_text.specs.declared.certificate.Cert.{Cert}
use Rattle.cert_text.specs.declared.certificate.CertNode.{CertNode}
use Rattle.cert_text.specs.declared.certificate.CertNode.TheVariants.{Grid}
use Rattle.cert_text.specs.Texts.{CertText}
use Rattle.viz_base.specs.Worlds.{world_count}
use Rattle.prove_search.specs.Outcomes.{laid_out_count, has_lemma}

-- what is left of the turns where each grid and leaf of a node takes one; None where there are fewer turns
abbrev pub AreLeft : CertNode → ℕ → Option ℕ → Type 0
AreLeft node turns found = MatchOption found (turns < laid_out_count node) (λ left. laid_out_count node + left ≡ turns)

-- it has at most as many grids and leaves as there are turns, this text of at most `most` bytes and 64 MiB, for a range of at most 64
-- worlds it is one grid, and it is of form 2 exactly where it has lemmas
pub record IsWithinBounds (job : Job) (turns most : ℕ) (cert : Cert) (text : List ℕ) : Type 0 where
  pub few : laid_out_count cert.root ≤ turns
  pub spelled : CertText cert text
  pub short : length text ≤ min most (2 ^ 26)
  pub one_grid : world_count job.range ≤ 64 → cert.root ≡ Grid
  pub form : (cert.form ≡ 2) ↔ IsTrue (has_lemma cert.root)
