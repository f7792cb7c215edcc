-- What of a certificate file is kept under a job file.
use Rattle.std.specs.Prelude.{◌≡◌, ℕ, ◌+◌, List, [], ◌∷◌, ◌++◌, codes}
use Rattle.viz_base.specs.declared.jobs.Job.{Job}
use Rattle.cert_text.specs.declared.certificate.Cert.{Cert}
use Rattle.viz_renew.specs.declared.counts.Kept.{Kept}
use Rattle.viz_renew.specs.Pieces.{ArePieces}
use Rattle.viz_replies.specs.declared.reply.Answer.{Answer}
use Rattle.viz_replies.specs.declared.reply.Answer.TheVariants as ends
use Rattle.viz_replies.specs.Lines.{spaced}
use Rattle.viz_renew.specs.declared.sums.Sums.{Sums}
use Rattle.viz_renew.specs.Files.{IsReplyOver}

-- ---- sums

abbrev pub no_sums : Sums
no_sums = record { leaves = 0; leaves_kept = 0; grids = 0; grids_kept = 0 }

-- with those of a part more
abbrev pub plus : Sums → Kept → Sums
plus sums kept = record {
  leaves = sums.leaves + kept.leaves;
  leaves_kept = sums.leaves_kept + kept.leaves_kept;
  grids = sums.grids + kept.grids;
  grids_kept = sums.grids_kept + kept.grids_kept;
}

-- the sums over the certificates of all parts
pub data AddUp : List Job → List Cert → Sums → Type 0 where
  nothing : AddUp [] [] no_sums
  more : {jobs : List Job} {certs : List Cert} {sums : Sums} (job : Job) (cert : Cert) (kept : Kept)
      → AddUp jobs certs sums → ArePieces job cert kept
      → AddUp (jobs ++ job ∷ []) (certs ++ cert ∷ []) (plus sums kept)

-- ---- the reply

-- a word, a count, and of how many it is
abbrev pub share : List ℕ → ℕ → ℕ → List ℕ
share word kept all = word ++ (spaced kept ++ (codes " of" ++ spaced all))

-- as `leaves 3 of 4 grids 1 of 2`
abbrev pub sums_line : Sums → List ℕ
sums_line sums =
    share (codes "leaves") sums.leaves_kept sums.leaves
    ++ (share (codes " grids") sums.grids_kept sums.grids ++ codes "\n")

pub record IsKeptReply (jobs : List Job) (certs : List Cert) (answer : Answer) (output : List ℕ) : Type 0 where
  pub sums : Sums
  pub add : AddUp jobs certs sums
  pub answer_is : answer ≡ ends.Done
  pub line : output ≡ sums_line sums

-- what `kept` replies
abbrev pub IsReplyToKept : (bytes cert : List ℕ) → Answer → List ℕ → Type 0
IsReplyToKept bytes cert answer output =
    IsReplyOver bytes cert answer output (λ jobs certs. IsKeptReply jobs certs answer output)
