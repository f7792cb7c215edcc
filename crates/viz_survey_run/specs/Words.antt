-- The forms of the program's words.
use Rattle.std.specs.Prelude.{◌≡◌, ◌≢◌, ℕ, ◌<◌, ◌^◌, List, [], ◌∷◌, codes, decimal}
use Rattle.viz_replies.specs.Certificates.{cert_most}
use Rattle.viz_tables.specs.Tables.{list_most}
use Rattle.viz_survey_run.specs.declared.words.Command.{Command}
use Rattle.viz_survey_run.specs.declared.words.Request.{Request}
use Rattle.viz_survey_run.specs.declared.words.Request.TheVariants.{Table, Kept, Renew}

-- the first word
abbrev pub verb_of : Request → List ℕ
verb_of (Table turns) = codes "table"
verb_of Kept = codes "kept"
verb_of (Renew turns) = codes "renew"

-- the words behind the names of both files
abbrev pub turns_of : Request → List (List ℕ)
turns_of (Table turns) = decimal turns ∷ []
turns_of Kept = []
turns_of (Renew turns) = decimal turns ∷ []

-- turns have 64 bits
abbrev pub IsCounted : Request → Type 0
IsCounted (Table turns) = turns < 2 ^ 64
IsCounted Kept = Unit {0}
IsCounted (Renew turns) = turns < 2 ^ 64

-- the words ask for the command: a verb, the names of two files, none of them empty, and for `table` and `renew` a
-- number of turns
pub record Asks (words : List (List ℕ)) (c : Command) : Type 0 where
  pub words_are : words ≡ verb_of c.request ∷ c.job.now ∷ c.other.now ∷ turns_of c.request
  pub job_named : c.job.now ≢ []
  pub other_named : c.other.now ≢ []
  pub counted : IsCounted c.request

-- the words are none of the forms
abbrev pub AskNothing : List (List ℕ) → Type 0
AskNothing words = (c : Command) → Asks words c → ⊥

-- a command about the files of these names, none of them empty
pub record IsAbout (job other : List ℕ) (request : Request) (c : Command) : Type 0 where
  pub same_request : c.request ≡ request
  pub same_job : c.job.now ≡ job
  pub same_other : c.other.now ≡ other
  pub job_named : job ≢ []
  pub other_named : other ≢ []

-- the most bytes that the second file may have
abbrev pub cap_of : Request → ℕ
cap_of (Table turns) = list_most
cap_of Kept = cert_most
cap_of (Renew turns) = cert_most
