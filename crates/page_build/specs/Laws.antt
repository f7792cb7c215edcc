-- Bytes come to one thing at most.
use Rattle.std.specs.Prelude.{◌≡◌, ℕ, List, Result, Ok, Err}
use Rattle.viz_base.specs.declared.jobs.Job.{Job}
use Rattle.page_build.specs.declared.faults.JobRefusal.{JobRefusal}
use Rattle.page_build.specs.Jobs.{AreJobsOf, AreRefusedAs, IsJobAt, IsRefusedAt}

-- what bytes come to, apart from want of memory: the jobs that they spell, or why they spell none
abbrev pub ComeTo : List ℕ → Result (List Job) JobRefusal → Type 0
ComeTo bytes (Ok jobs) = AreJobsOf bytes jobs
ComeTo bytes (Err refusal) = AreRefusedAs bytes refusal

-- the same at a viewport's width and a default font size
abbrev pub ComesTo : List ℕ → ℕ → ℕ → Result Job JobRefusal → Type 0
ComesTo bytes w s (Ok job) = IsJobAt bytes w s job
ComesTo bytes w s (Err refusal) = IsRefusedAt bytes w s refusal

-- bytes spell at most one list of jobs, or are refused in one way, and never both; and so at each width and size
pub record OneAnswer : Type 0 where
  pub jobs : (bytes : List ℕ) (a b : Result (List Job) JobRefusal) → ComeTo bytes a → ComeTo bytes b → a ≡ b
  pub job : (bytes : List ℕ) (w s : ℕ) (a b : Result Job JobRefusal) → ComesTo bytes w s a → ComesTo bytes w s b → a ≡ b
