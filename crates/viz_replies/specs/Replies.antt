-- What is replied to a question about a job, given the bytes of its file:
-- an answer, and the whole output that goes with it.
use Rattle.std.specs.Prelude.{◌≡◌, ◌⊎◌, ℕ, ◌/◌, ◌<◌, ◌≤◌, nat_lt, List, [], ◌∷◌, ◌++◌, length, slice_get, Some, codes, if◌then◌else◌}
use Rattle.std.specs.List.{flat_map}
use Rattle.viz_base.specs.declared.jobs.Job.{Job}
use Rattle.viz_base.specs.declared.worlds.World.{World}
use Rattle.viz_base.specs.declared.worlds.Rect.{Rect}
use Rattle.viz_replies.specs.Print.{printed}
use Rattle.logic_semantics.specs.Scenes.{scene_of}
use Rattle.logic_semantics.specs.Blame.{blame}
use Rattle.cert_text.specs.declared.certificate.Cert.{Cert}
use Rattle.cert_text.specs.Texts.{CertText}
use Rattle.cert_text.specs.steps.Write.{row_bytes}
use Rattle.cert_check.specs.declared.verdicts.Reject.{Reject}
use Rattle.cert_check.specs.declared.verdicts.Reject.TheVariants.{OtherJob, Shape, Line, Untrue, Unmet, Differs, Short, Left, Coeff}
use Rattle.cert_check.specs.Truths.{rendering_of}
use Rattle.cert_file.specs.declared.verdict.FileVerdict.TheVariants.{Accepted, Rejected}
use Rattle.cert_file.specs.Files.{IsFileVerdict}
use Rattle.prove_search.specs.Outcomes.{IsProof, IsViolation, IsUndecided}
use Rattle.viz_replies.specs.declared.reply.Answer.{Answer}
use Rattle.viz_replies.specs.declared.reply.Answer.TheVariants as ends
use Rattle.viz_replies.specs.declared.question.Question.{Question}
use Rattle.viz_replies.specs.declared.question.Screen.{Screen}
use Rattle.viz_replies.specs.declared.question.Question.TheVariants as asks
use Rattle.lin_proof.specs.Form.{Form}
use Rattle.viz_replies.specs.Lines.{numbered, spaced}
use Rattle.viz_replies.specs.Screens.{world_in, spaced_world, spaced_part}
use Rattle.viz_replies.specs.Jobs.{SpellJobs, SpellsJobAt, AreNoJobs, IsNoJobAt}
use Rattle.viz_replies.specs.Certificates.{cert_most, IsNoCert}
use Rattle.viz_replies.specs.Truths.{IsFalseThere}

-- ---- what is printed

-- the rendering of the job's page at the world
abbrev pub boxes_text : Job → World → List ℕ
boxes_text job world = printed (rendering_of job world)

-- the lines of the boxes that the formula blames at the world
abbrev pub blame_lines : Job → World → List ℕ
blame_lines job world =
    flat_map (λ place. numbered (codes "blame") (place ∷ []))
    (blame (scene_of (rendering_of job world) world) job.formula)

-- a world, whom the formula blames there, and the rendering there
abbrev pub violation_text : Job → World → List ℕ
violation_text job world = codes "violated"
    ++ (spaced_world job.form world ++ (codes "\n" ++ (blame_lines job world ++ boxes_text job world)))

-- a part that is open yet of the range of a job of this form
abbrev pub open_line : ℕ → Rect → List ℕ
open_line form part = codes "undecided" ++ (spaced_part form part ++ codes "\n")

-- the rows of an answer that is to another difference: the one that is asked for, and the answer's own
abbrev pub differs_line : (node number : ℕ) (ours theirs : Form) → List ℕ
differs_line node number ours theirs =
    codes "differs"
    ++ (spaced node ++ (spaced number
    ++ (codes " " ++ (row_bytes ours ++ (codes " / " ++ (row_bytes theirs ++ codes "\n"))))))

-- the world of a grid at which the formula is false
abbrev pub untrue_line : (form node : ℕ) → World → List ℕ
untrue_line form node world = codes "untrue" ++ (spaced node ++ (spaced_world form world ++ codes "\n"))

-- why a certificate is wrong for a job of this form
abbrev pub reject_reason : ℕ → Reject → List ℕ
reject_reason form OtherJob = codes "other-job\n"
reject_reason form (Shape node) = numbered (codes "shape") (node ∷ [])
reject_reason form (Line node number line) = numbered (codes "line") (node ∷ number ∷ line ∷ [])
reject_reason form (Untrue node world) = untrue_line form node world
reject_reason form (Unmet node) = numbered (codes "unmet") (node ∷ [])
reject_reason form (Differs node number ours theirs) = differs_line node number ours theirs
reject_reason form (Short node) = numbered (codes "short") (node ∷ [])
reject_reason form (Left node count) = numbered (codes "left") (node ∷ count ∷ [])
reject_reason form (Coeff node) = numbered (codes "coeff") (node ∷ [])

-- the part whose certificate is wrong, where there are several
abbrev pub part_words : (parts part : ℕ) → List ℕ
part_words parts part = if nat_lt 1 parts then codes "part" ++ (spaced part ++ codes " ") else []

-- the line for a certificate that is wrong for the job, of this form, of one of so many parts
abbrev pub reject_line : (form parts part : ℕ) → Reject → List ℕ
reject_line form parts part reject = codes "rejected " ++ (part_words parts part ++ reject_reason form reject)

-- ---- lay

-- the rendering at a screen of the job that the bytes spell there
pub record IsLaidOut (bytes : List ℕ) (screen : Screen) (output : List ℕ) : Type 0 where
  pub job : Job
  pub spelled : SpellsJobAt bytes screen.w screen.s job
  pub text : output ≡ boxes_text job (world_in screen job.range)

-- ---- prove

-- how many bytes the certificate of each of so many parts has at most
abbrev pub part_most : ℕ → ℕ
part_most parts = cert_most / parts

-- the texts of certificates that prove each of these jobs within the turns
pub data AreProofs (turns most : ℕ) : List Job → List ℕ → Type 0 where
  nothing : AreProofs turns most [] []
  first : {job : Job} {jobs : List Job} {cert : Cert} {text rest : List ℕ} → IsProof job turns most cert
      → CertText cert text → AreProofs turns most jobs rest → AreProofs turns most (job ∷ jobs) (text ++ rest)

-- the first of these jobs that isn't proved: those before it are, by certificates of these texts
pub record IsFirstOpen (turns most : ℕ) (jobs : List Job) (job : Job) : Type 0 where
  pub before : List Job
  pub behind : List Job
  pub whole : jobs ≡ before ++ job ∷ behind
  pub texts : List ℕ
  pub proofs : AreProofs turns most before texts

-- a part of the range that the turns left open for a job
pub record IsLeftOpen (turns : ℕ) (jobs : List Job) (output : List ℕ) : Type 0 where
  pub job : Job
  pub first : IsFirstOpen turns (part_most (length jobs)) jobs job
  pub part : Rect
  pub undecided : IsUndecided job.range turns part
  pub text : output ≡ open_line job.form part

-- what a search of the jobs of all parts comes to, unless it finds a world
abbrev pub IsSearched : ℕ → List Job → Answer → List ℕ → Type 0
IsSearched turns jobs ends.Done output = AreProofs turns (part_most (length jobs)) jobs output
IsSearched turns jobs ends.Undecided output = IsLeftOpen turns jobs output
IsSearched turns jobs answer output = ⊥

-- a world of the range at which the formula of the first part that isn't proved is false, which at least one turn has
-- found
pub record IsFound (turns : ℕ) (jobs : List Job) (world : World) : Type 0 where
  pub job : Job
  pub first : IsFirstOpen turns (part_most (length jobs)) jobs job
  pub turn : 0 < turns
  pub violation : IsViolation job job.range world

-- the bytes spell jobs, such a world is found, and the assertion as it is written is false there: whom it blames there,
-- and the boxes there
pub record IsViolated (bytes : List ℕ) (turns : ℕ) (output : List ℕ) : Type 0 where
  pub jobs : List Job
  pub spelled : SpellJobs bytes jobs
  pub world : World
  pub found : IsFound turns jobs world
  pub there : IsFalseThere bytes world
  pub text : output ≡ violation_text there.job world

-- ---- check, about the jobs of all parts

-- the bytes spell as many certificates, which are right for the jobs
pub record IsAccepted (jobs : List Job) (bytes output : List ℕ) : Type 0 where
  pub short : length bytes ≤ cert_most
  pub accepted : IsFileVerdict jobs bytes Accepted
  pub text : output ≡ codes "accepted\n"

-- they spell as many, of which this is the first that is wrong
pub record IsWrong (jobs : List Job) (bytes output : List ℕ) : Type 0 where
  pub short : length bytes ≤ cert_most
  pub part : ℕ
  pub job : Job
  pub job_is : slice_get jobs part ≡ Some job
  pub reject : Reject
  pub rejected : IsFileVerdict jobs bytes (Rejected part reject)
  pub text : output ≡ reject_line job.form (length jobs) part reject

abbrev pub IsChecked : List Job → List ℕ → Answer → List ℕ → Type 0
IsChecked jobs bytes ends.Done output = IsAccepted jobs bytes output
IsChecked jobs bytes ends.CertRefused output = IsNoCert (length jobs) bytes output ⊎ IsWrong jobs bytes output
IsChecked jobs bytes answer output = ⊥

-- ---- replies

-- the bytes spell jobs, and this is what is replied about them
pub record IsReplyOnJobs (bytes : List ℕ) (replied : List Job → Type 0) : Type 0 where
  pub jobs : List Job
  pub spelled : SpellJobs bytes jobs
  pub reply : replied jobs

-- what is replied to a question about what the bytes of a job file spell
abbrev pub IsReplyAbout : List ℕ → Question → Answer → List ℕ → Type 0
IsReplyAbout bytes (asks.Lay screen) ends.Done output = IsLaidOut bytes screen output
IsReplyAbout bytes (asks.Lay screen) answer output = ⊥
IsReplyAbout bytes (asks.Prove turns) ends.Violated output = IsViolated bytes turns output
IsReplyAbout bytes (asks.Prove turns) answer output = IsReplyOnJobs bytes (λ jobs. IsSearched turns jobs answer output)
IsReplyAbout bytes (asks.Check cert) answer output = IsReplyOnJobs bytes (λ jobs. IsChecked jobs cert answer output)

-- the bytes spell no job at the screen, or no jobs
abbrev pub SpellNothing : List ℕ → Question → List ℕ → Type 0
SpellNothing bytes (asks.Lay screen) output = IsNoJobAt bytes screen.w screen.s output
SpellNothing bytes (asks.Prove turns) output = AreNoJobs bytes output
SpellNothing bytes (asks.Check cert) output = AreNoJobs bytes output

-- the reply where the bytes spell nothing, for this reason
pub record IsRefusal (reason : List ℕ → Type 0) (answer : Answer) (output : List ℕ) : Type 0 where
  pub refused : answer ≡ ends.JobRefused
  pub why : reason output

-- an answer with its whole output, in reply to a question about the bytes of a job file
abbrev pub IsReply : List ℕ → Question → Answer → List ℕ → Type 0
IsReply bytes question answer output =
    IsReplyAbout bytes question answer output ⊎ IsRefusal (SpellNothing bytes question) answer output
