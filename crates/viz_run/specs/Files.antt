-- What the files are that a run loads.
use Rattle.std.specs.Prelude.{◌≡◌, ℕ, List, Option, Some, None, Result, Ok}
use Rattle.viz_outside.specs.declared.shelf.Loaded.{Loaded}
use Rattle.viz_outside.specs.declared.shelf.ShelfFault.{ShelfFault}
use Rattle.viz_outside.specs.Shelf.{loaded_of}
use Rattle.viz_base.specs.declared.jobs.Job.{Job}
use Rattle.viz_replies.specs.Jobs.{SpellJobs, job_most}
use Rattle.viz_replies.specs.Certificates.{cert_most}

-- what a shelf tells of its files, if it tells them
abbrev pub Files : Type 0
Files = Option (List ℕ → Option (List ℕ))

-- a shelf before and after, what it tells of its files, and which loads lead from one state to another
pub record Shelved (F : Type 0) : Type 1 where
  pub files : Files
  pub loads : F → List ℕ → ℕ → Result Loaded ShelfFault → F → Type 0
  pub old : F
  pub new : F

-- the shelf that such functions tell of
abbrev pub shelved : {F : Type 0} → (F → Files) → (F → List ℕ → ℕ → Result Loaded ShelfFault → F → Type 0) → F → F
    → Shelved F
shelved files loads old new = record { files = files old; loads = loads; old = old; new = new }

-- bytes that the file of the name may hold: those that are told, or any where nothing is
abbrev pub MayHold : Files → List ℕ → List ℕ → Type 0
MayHold None name bytes = Unit {0}
MayHold (Some held) name bytes = held name ≡ Some bytes

-- the file of the name may hold these bytes, and one load within the cap, which
-- led from the one state to the other, gave them, or that there are more of them
abbrev pub IsGiven : {F : Type 0} → Shelved F → List ℕ → ℕ → F → F → List ℕ → Type 0
IsGiven shelf name cap from to bytes = MayHold shelf.files name bytes × shelf.loads from name cap (Ok (loaded_of cap bytes)) to

-- the first load was of the file of the name, and gave bytes that spell jobs
pub record HoldsJobs {F : Type 0} (shelf : Shelved F) (name : List ℕ) : Type 0 where
  pub bytes : List ℕ
  pub between : F
  pub given : IsGiven shelf name job_most shelf.old between bytes
  pub jobs : List Job
  pub spelled : SpellJobs bytes jobs

-- ---- which files were loaded, whatever came of it

-- the only load was of the job file of this name, and answered so
abbrev pub LoadsJob : {F : Type 0} → Shelved F → List ℕ → Result Loaded ShelfFault → Type 0
LoadsJob shelf job answer = shelf.loads shelf.old job job_most answer shelf.new

-- the first load was of the job file, and gave bytes that spell jobs; the second, and last, was of the certificate file
-- of this name, and answered so
pub record LoadsBoth {F : Type 0} (shelf : Shelved F) (job cert : List ℕ) (answer : Result Loaded ShelfFault) : Type 0 where
  pub first : HoldsJobs shelf job
  pub second : shelf.loads first.between cert cert_most answer shelf.new
