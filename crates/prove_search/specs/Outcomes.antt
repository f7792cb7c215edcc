-- What the answers of a search mean.
use Rattle.std.specs.Prelude.{◌≡◌, ◌↔◌, ◌⊎◌, ℕ, ◌+◌, ◌-◌, ◌*◌, ◌<◌, ◌≤◌, Bool, true, false, ◌||◌, IsTrue, List, length}
use Rattle.viz_base.specs.declared.worlds.World.{World}
use Rattle.viz_base.specs.declared.worlds.Rect.{Rect}
use Rattle.viz_base.specs.declared.jobs.Job.{Job}
use Rattle.viz_base.specs.Worlds.{IsInRange, world_count}
use Rattle.cert_text.specs.declared.certificate.Cert.{Cert}
use Rattle.cert_text.specs.declared.certificate.CertNode.{CertNode}
use Rattle.cert_text.specs.declared.certificate.CertNode.TheOpen.{CertNode-F}
use Rattle.cert_text.specs.declared.certificate.CertNode.TheVariants.{Grid}
use Rattle.cert_text.specs.declared.certificate.CertNode.TheFolds.{fold-CertNode}
use Rattle.cert_text.specs.Texts.{CertText}
use Rattle.viz_base.specs.Rectangles.{IsWithin, IsProper}
use Rattle.cert_check.specs.Truths.{is_true_at, Holds}
use Rattle.cert_check.specs.Right.{Right}
use Rattle.prove_search.specs.declared.outcome.Outcome.{Outcome}
use Rattle.prove_search.specs.declared.outcome.Outcome.TheVariants.{Proved, Violated, Undecided}

-- how many grids and leaves a node has
abbrev pub laid_out_step : CertNode-F ℕ → ℕ
laid_out_step (CertNode-F.Def row d below) = below
laid_out_step (CertNode-F.Split row first second) = first + second
laid_out_step (CertNode-F.Lemma row why below) = below
laid_out_step (CertNode-F.Void why) = 0
laid_out_step CertNode-F.Grid = 1
laid_out_step (CertNode-F.Leaf answers) = 1

abbrev pub laid_out_count : CertNode → ℕ
laid_out_count = fold-CertNode ℕ laid_out_step

-- whether a node has a lemma, itself or below it
abbrev pub lemma_step : CertNode-F Bool → Bool
lemma_step (CertNode-F.Def row d below) = below
lemma_step (CertNode-F.Split row first second) = first || second
lemma_step (CertNode-F.Lemma row why below) = true
lemma_step (CertNode-F.Void why) = false
lemma_step CertNode-F.Grid = false
lemma_step (CertNode-F.Leaf answers) = false

abbrev pub has_lemma : CertNode → Bool
has_lemma = fold-CertNode Bool lemma_step

-- how many bytes of text the certificates need at most that go through a range by halves and grids alone
abbrev pub plain_most : ℕ
plain_most = 5242880

-- the certificate is right for the job, which holds; it has at most as many grids and leaves as there were turns, a text
-- of at most `most` bytes, and for a range of at most 64 worlds it is one grid; it is of form 2 exactly where it has lemmas
pub record IsProof (job : Job) (turns most : ℕ) (cert : Cert) : Type 0 where
  pub right : Right job cert
  pub holds : Holds job
  pub few : laid_out_count cert.root ≤ turns
  pub text : List ℕ
  pub spelled : CertText cert text
  pub short : length text ≤ most
  pub one_grid : world_count job.range ≤ 64 → cert.root ≡ Grid
  pub form : (cert.form ≡ 2) ↔ IsTrue (has_lemma cert.root)

-- the text is that of such a certificate
pub record IsProofText (job : Job) (turns most : ℕ) (text : List ℕ) : Type 0 where
  pub cert : Cert
  pub proof : IsProof job turns most cert
  pub spelled : CertText cert text

-- a world of the rectangle at which the formula is false
pub record IsViolation (job : Job) (r : Rect) (world : World) : Type 0 where
  pub in_range : IsInRange r world
  pub untrue : is_true_at job world ≡ false

-- A part of the rectangle, with at least one world, that so many turns left open: there were none, and then it is
-- the whole, or there were fewer than two a world less one, of more than 64 worlds.
pub record IsUndecided (r : Rect) (turns : ℕ) (part : Rect) : Type 0 where
  pub proper : IsProper part
  pub within : IsWithin r part
  pub cause : (turns ≡ 0) ⊎ ((64 < world_count r) × (turns < 2 * world_count r - 1))
  pub whole : turns ≡ 0 → part ≡ r

-- only with a turn a world is found at which the formula is false
abbrev pub IsOutcome : Job → (turns most : ℕ) → Outcome → Type 0
IsOutcome job turns most (Proved text) = IsProofText job turns most text.items
IsOutcome job turns most (Violated world) = (0 < turns) × IsViolation job job.range world
IsOutcome job turns most (Undecided part) = IsUndecided job.range turns part

-- proved, and the fact holds, or violated, and it does not
abbrev pub Decides : Outcome → Type 0 → Type 0
Decides (Proved text) P = P
Decides (Violated world) P = P → ⊥
Decides (Undecided part) P = ⊥
