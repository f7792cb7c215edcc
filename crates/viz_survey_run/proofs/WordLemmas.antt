-- The names among the words of a command.
use Rattle.std.proofs.Common.{ℕ, List, Bool, IsTrue, ap}
use Rattle.viz_run.specs.Words.{word_at}
use Rattle.viz_survey_run.specs.declared.words.Command.{Command}
use Rattle.viz_survey_run.specs.Words.{Asks}

-- the second word is the job file's name
pub job_word : (sure : List ℕ → Bool) (words : List (List ℕ)) (c : Command) → Asks words c → IsTrue (sure (word_at words 1)) → IsTrue (sure c.job.now)
job_word sure words c asks is = let second = ap (λ ws. word_at ws 1) asks.words_are in rw second at is

-- the third is the other file's
pub other_word : (sure : List ℕ → Bool) (words : List (List ℕ)) (c : Command) → Asks words c → IsTrue (sure (word_at words 2)) → IsTrue (sure c.other.now)
other_word sure words c asks is = let third = ap (λ ws. word_at ws 2) asks.words_are in rw third at is
