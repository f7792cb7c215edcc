-- What both files come to.
use Rattle.std.specs.Prelude.{◌≡◌, ℕ, ◌+◌, ◌<◌, ◌^◌, ◌≤◌, List, length, Some, slice_get}
use Rattle.viz_base.specs.declared.jobs.Job.{Job}
use Rattle.cert_text.specs.declared.certificate.Cert.{Cert}
use Rattle.cert_text.specs.Nodes.{node_count}
use Rattle.cert_file.specs.Files.{AreReadFor, AreTexts}
use Rattle.viz_replies.specs.Certificates.{cert_most}
use Rattle.viz_replies.specs.steps.Answers.{AreSpelled}
use Rattle.viz_renew.specs.declared.files.FilesRead.{FilesRead}
use Rattle.viz_renew.specs.declared.files.FilesRead.TheVariants.{Read, Refused}
use Rattle.viz_renew.specs.Files.{IsRefused}

-- no certificate has more nodes than a checker numbers
abbrev pub HaveFewNodes : List Cert → Type 0
HaveFewNodes certs = (n : ℕ) (cert : Cert) → slice_get certs n ≡ Some cert → node_count cert.root + 3 < 2 ^ 32

-- these jobs and certificates
pub record AreRead (bytes cert : List ℕ) (jobs : List Job) (certs : List Cert) : Type 0 where
  pub spelled : AreSpelled bytes jobs
  pub short : length cert ≤ cert_most
  pub read : AreReadFor jobs cert certs

-- or a refusal
abbrev pub AreFilesRead : (bytes cert : List ℕ) → FilesRead → Type 0
AreFilesRead bytes cert (Read jobs certs) = AreRead bytes cert jobs certs
AreFilesRead bytes cert (Refused reply) = IsRefused bytes cert reply.answer reply.output.items

-- what is to be known of jobs and certificates to renew them
pub record CanRenew (bytes : List ℕ) (jobs : List Job) (certs : List Cert) : Type 0 where
  pub spelled : AreSpelled bytes jobs
  pub as_many : length certs ≡ length jobs
  pub few : HaveFewNodes certs
  pub texts : List ℕ
  pub spell : AreTexts certs texts
