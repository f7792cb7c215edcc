-- The table of a list of rules: at which widths of a job file's range each holds.
use Rattle.std.specs.Prelude.{◌≡◌, ◌⊎◌, ℕ, ◌<◌, ◌≤◌, ◌||◌, Bool, false, List, [], ◌∷◌, ◌++◌, length, Ok, Err, codes, if◌then◌else◌}
use Rattle.std.specs.List.{flat_map, list_any}
use Rattle.page_build.specs.declared.faults.JobRefusal.{JobRefusal}
use Rattle.page_build.specs.declared.faults.JobRefusal.TheVariants.{Bad, Unbound, TooDeep}
use Rattle.page_build.specs.Jobs.{AreJobsWith, AreRefusedWith}
use Rattle.viz_replies.specs.Jobs.{job_most, long_line, refusal_line}
use Rattle.viz_base.specs.declared.jobs.Job.{Job}
use Rattle.viz_tables.specs.declared.rules.Rule.{Rule}
use Rattle.viz_tables.specs.Lists.{IsListOf}
use Rattle.viz_tables.specs.declared.words.Line.{Line}
use Rattle.viz_tables.specs.Surveys.{IsSurvey}
use Rattle.viz_tables.specs.declared.table.TableAnswer.{TableAnswer}
use Rattle.viz_tables.specs.declared.table.TableAnswer.TheVariants as ends
use Rattle.viz_tables.specs.Lines.{form_line, is_open, line_text, long_list_line, place_line}

-- a list has at most 2 MiB
abbrev pub list_most : ℕ
list_most = 2097152

-- ---- tables

-- The text of the surveys of rules, in their order, each with the rule's formula in place of the job file's assertion,
-- and whether a line is undecided: that of no rules is empty, and that of a further rule goes behind the others.
pub data IsTable (bytes : List ℕ) (turns : ℕ) : List Rule → List ℕ → Bool → Type 0 where
  nothing : IsTable bytes turns [] [] false
  more : {rules : List Rule} {text : List ℕ} {undecided : Bool} (rule : Rule) (lines : List Line)
      → IsTable bytes turns rules text undecided → IsSurvey rule.formula bytes turns lines
      → IsTable bytes turns (rules ++ rule ∷ []) (text ++ flat_map (line_text rule.name) lines)
      (undecided || list_any is_open lines)

-- the survey of a rule goes behind what there was
pub record IsPushed (bytes : List ℕ) (turns : ℕ) (rule : Rule) (old new : List ℕ) (undecided : Bool) : Type 0 where
  pub lines : List Line
  pub survey : IsSurvey rule.formula bytes turns lines
  pub text : new ≡ old ++ flat_map (line_text rule.name) lines
  pub open_is : undecided ≡ list_any is_open lines

-- the answer, by whether a line is undecided
abbrev pub end_of : Bool → TableAnswer
end_of undecided = if undecided then ends.Undecided else ends.Done

-- ---- refusals

-- a formula that is at fault is the list's, and all else the job file's
abbrev pub refused_answer : JobRefusal → TableAnswer
refused_answer (Bad at) = ends.ListRefused
refused_answer (Unbound at) = ends.ListRefused
refused_answer (TooDeep at) = ends.ListRefused
refused_answer why = ends.JobRefused

-- the line of a refusal under the formula of a line of the list
abbrev pub refused_line : ℕ → JobRefusal → List ℕ
refused_line line (Bad at) = place_line line (codes " formula-bad") at
refused_line line (Unbound at) = place_line line (codes " formula-unbound") at
refused_line line (TooDeep at) = place_line line (codes " formula-too-deep") at
refused_line line why = refusal_line why

-- the job file spells jobs under a formula
abbrev pub IsTakenWith : (formula bytes : List ℕ) → Type 0
IsTakenWith formula bytes = (jobs : List Job) × AreJobsWith formula bytes jobs

-- so it does under the formula of each of these rules
pub data AreTaken (bytes : List ℕ) : List Rule → Type 0 where
  nothing : AreTaken bytes []
  more : {rules : List Rule} (rule : Rule) → AreTaken bytes rules → IsTakenWith rule.formula bytes
      → AreTaken bytes (rules ++ rule ∷ [])

-- The first rule under whose formula the job file is refused: those before it are taken, and of none is there a survey.
pub record IsRefusedAt (bytes : List ℕ) (rules : List Rule) (answer : TableAnswer) (output : List ℕ) : Type 0 where
  pub before : List Rule
  pub rule : Rule
  pub behind : List Rule
  pub whole : rules ≡ before ++ rule ∷ behind
  pub taken : AreTaken bytes before
  pub why : JobRefusal
  pub refused : AreRefusedWith rule.formula bytes why
  pub answer_is : answer ≡ refused_answer why
  pub line : output ≡ refused_line (length before) why

-- the table of all rules
pub record IsWhole (bytes : List ℕ) (rules : List Rule) (turns : ℕ) (answer : TableAnswer) (output : List ℕ)
    : Type 0 where
  pub undecided : Bool
  pub table : IsTable bytes turns rules output undecided
  pub answer_is : answer ≡ end_of undecided

-- the table of rules, or the first that is refused
abbrev pub IsTableReply : List ℕ → List Rule → ℕ → TableAnswer → List ℕ → Type 0
IsTableReply bytes rules turns answer output =
    IsWhole bytes rules turns answer output ⊎ IsRefusedAt bytes rules answer output

-- ---- lists

-- a list spells rules, and this is their table
pub record IsOfRules (bytes list : List ℕ) (turns : ℕ) (answer : TableAnswer) (output : List ℕ) : Type 0 where
  pub rules : List Rule
  pub spelled : IsListOf list (Ok rules)
  pub reply : IsTableReply bytes rules turns answer output

-- a line breaks the form of a list
pub record IsBroken (list : List ℕ) (answer : TableAnswer) (output : List ℕ) : Type 0 where
  pub line : ℕ
  pub broken : IsListOf list (Err line)
  pub answer_is : answer ≡ ends.ListRefused
  pub text : output ≡ form_line line

abbrev pub IsListed : (bytes list : List ℕ) → ℕ → TableAnswer → List ℕ → Type 0
IsListed bytes list turns answer output =
    IsOfRules bytes list turns answer output ⊎ IsBroken list answer output

-- ---- files

-- a job file that is too long comes first
pub record IsLongJob (bytes : List ℕ) (answer : TableAnswer) (output : List ℕ) : Type 0 where
  pub long : job_most < length bytes
  pub answer_is : answer ≡ ends.JobRefused
  pub text : output ≡ long_line

-- a list that is too long comes second
pub record IsLongList (bytes list : List ℕ) (answer : TableAnswer) (output : List ℕ) : Type 0 where
  pub short : length bytes ≤ job_most
  pub long : list_most < length list
  pub answer_is : answer ≡ ends.ListRefused
  pub text : output ≡ long_list_line

-- both are short
pub record AreShort (bytes list : List ℕ) (turns : ℕ) (answer : TableAnswer) (output : List ℕ) : Type 0 where
  pub short_job : length bytes ≤ job_most
  pub short_list : length list ≤ list_most
  pub reply : IsListed bytes list turns answer output

-- what `table` replies
abbrev pub IsReplyToTable : (bytes list : List ℕ) → ℕ → TableAnswer → List ℕ → Type 0
IsReplyToTable bytes list turns answer output =
    IsLongJob bytes answer output
    ⊎ (IsLongList bytes list answer output ⊎ AreShort bytes list turns answer output)
