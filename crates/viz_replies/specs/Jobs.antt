-- What the bytes of a job file are.
use Rattle.std.specs.Prelude.{◌≡◌, ◌⊎◌, ℕ, ◌≤◌, ◌<◌, List, [], ◌∷◌, ◌++◌, length, codes}
use Rattle.viz_base.specs.declared.jobs.Job.{Job}
use Rattle.viz_base.specs.declared.raw_jobs.Part.{Part}
use Rattle.viz_base.specs.declared.raw_jobs.Part.TheVariants as part
use Rattle.viz_base.specs.declared.raw_jobs.Which.{Which}
use Rattle.viz_base.specs.declared.raw_jobs.Which.TheVariants as which
use Rattle.viz_base.specs.declared.settings.Prop.{Prop}
use Rattle.css_semantics.specs.Properties.{row}
use Rattle.page_build.specs.declared.faults.JobRefusal.{JobRefusal}
use Rattle.page_build.specs.declared.faults.JobRefusal.TheVariants.{Mem, NotJson, Shape, Limit, Range, Import, MediaQuery, TooManyRules, TooManyQueries, TooManyParts, Selector, Value, Generated, BlockInInline, RightToLeft, TooManyBoxes, Reach, Bad, Unbound, TooDeep}
use Rattle.page_build.specs.Jobs.{AreJobsOf, AreRefusedAs, IsJobAt, IsRefusedAt}
use Rattle.viz_replies.specs.Lines.{spaced, numbered}

-- a job file has at most 16 MiB
abbrev pub job_most : ℕ
job_most = 16777216

-- the bytes spell these jobs, one for each part of their range
pub record SpellJobs (bytes : List ℕ) (jobs : List Job) : Type 0 where
  pub short : length bytes ≤ job_most
  pub read : AreJobsOf bytes jobs

-- the bytes spell this job at a viewport's width and a default font size, in pixels
pub record SpellsJobAt (bytes : List ℕ) (w s : ℕ) (job : Job) : Type 0 where
  pub short : length bytes ≤ job_most
  pub read : IsJobAt bytes w s job

-- ---- lines

abbrev pub shape_words : Part → List ℕ
shape_words part.Top = codes "job-refused shape top"
shape_words part.Widths = codes "job-refused shape widths"
shape_words part.Sizes = codes "job-refused shape sizes"
shape_words part.Height = codes "job-refused shape height"
shape_words part.Fonts = codes "job-refused shape fonts"
shape_words part.Css = codes "job-refused shape css"
shape_words part.Page = codes "job-refused shape page"
shape_words part.Assert = codes "job-refused shape assert"

abbrev pub limit_words : Which → List ℕ
limit_words which.Elements = codes "job-refused limit elements"
limit_words which.Depth = codes "job-refused limit depth"
limit_words which.Text = codes "job-refused limit text"
limit_words which.Css = codes "job-refused limit css"
limit_words which.Fonts = codes "job-refused limit fonts"
limit_words which.Advances = codes "job-refused limit advances"
limit_words which.Formula = codes "job-refused limit formula"

-- a node, the name of a property, and what is shown of its value
abbrev pub value_line : ℕ → Prop → List ℕ → List ℕ
value_line node prop value =
    codes "job-refused unsupported-value"
    ++ (spaced node ++ (codes " " ++ ((row prop).name ++ (codes " " ++ (value ++ codes "\n")))))

abbrev pub long_line : List ℕ
long_line = codes "job-refused too-long\n"

-- the line for bytes that are refused; want of memory has none
abbrev pub refusal_line : JobRefusal → List ℕ
refusal_line Mem = []
refusal_line NotJson = codes "job-refused not-json\n"
refusal_line (Shape p place) = numbered (shape_words p) (place ∷ [])
refusal_line (Limit w count) = numbered (limit_words w) (count ∷ [])
refusal_line Range = codes "job-refused range\n"
refusal_line (Import sheet place) = numbered (codes "job-refused import") (sheet ∷ place ∷ [])
refusal_line (MediaQuery sheet place) = numbered (codes "job-refused media-query") (sheet ∷ place ∷ [])
refusal_line (TooManyRules sheet) = numbered (codes "job-refused too-many-rules") (sheet ∷ [])
refusal_line (TooManyQueries sheet place) = numbered (codes "job-refused too-many-queries") (sheet ∷ place ∷ [])
refusal_line (TooManyParts count) = numbered (codes "job-refused too-many-parts") (count ∷ [])
refusal_line (Selector sheet place) = numbered (codes "job-refused unsupported-selector") (sheet ∷ place ∷ [])
refusal_line (Value node prop value) = value_line node prop value
refusal_line (Generated node) = numbered (codes "job-refused generated") (node ∷ [])
refusal_line (BlockInInline node) = numbered (codes "job-refused block-in-inline") (node ∷ [])
refusal_line (RightToLeft node letter) = numbered (codes "job-refused right-to-left") (node ∷ letter ∷ [])
refusal_line TooManyBoxes = codes "job-refused too-many-boxes\n"
refusal_line (Reach node) = numbered (codes "job-refused reach") (node ∷ [])
refusal_line (Bad place) = numbered (codes "job-refused formula-bad") (place ∷ [])
refusal_line (Unbound place) = numbered (codes "job-refused formula-unbound") (place ∷ [])
refusal_line (TooDeep place) = numbered (codes "job-refused formula-too-deep") (place ∷ [])

-- ---- no job

-- the bytes are too many
pub record IsTooLong (bytes output : List ℕ) : Type 0 where
  pub long : job_most < length bytes
  pub line : output ≡ long_line

-- the bytes are refused with this line, for all parts of their range
pub record AreRefused (bytes output : List ℕ) : Type 0 where
  pub short : length bytes ≤ job_most
  pub refusal : JobRefusal
  pub refused : AreRefusedAs bytes refusal
  pub line : output ≡ refusal_line refusal

-- the bytes are refused with this line, at a viewport's width and a default font size
pub record IsRefused (bytes : List ℕ) (w s : ℕ) (output : List ℕ) : Type 0 where
  pub short : length bytes ≤ job_most
  pub refusal : JobRefusal
  pub refused : IsRefusedAt bytes w s refusal
  pub line : output ≡ refusal_line refusal

-- the bytes spell no jobs, for the reason that the line gives
abbrev pub AreNoJobs : List ℕ → List ℕ → Type 0
AreNoJobs bytes output = IsTooLong bytes output ⊎ AreRefused bytes output

-- the bytes spell no job there, for the reason that the line gives
abbrev pub IsNoJobAt : List ℕ → ℕ → ℕ → List ℕ → Type 0
IsNoJobAt bytes w s output = IsTooLong bytes output ⊎ IsRefused bytes w s output
