-- The jobs that the bytes of a job file spell, or why they spell none: what comes of one stage after another, in this
-- order. A page whose rules depend on the viewport's width has a job for each part of its range, and one at each world.
use Rattle.std.specs.Prelude.{◌≡◌, ℕ, Bool, [], ◌∷◌, ◌++◌, List, map, Option, Result, Ok, Err}
use Rattle.std.specs.List.{AllByRecursion}
use Rattle.sha2.specs.Sha256.{sha256}
use Rattle.viz_base.specs.declared.fonts.Font.{Font}
use Rattle.viz_base.specs.declared.formulas.Formula.{Formula}
use Rattle.viz_base.specs.declared.jobs.Job.{Job}
use Rattle.viz_base.specs.declared.nodes.Node.{Node}
use Rattle.viz_base.specs.declared.selectors.Pseudo.TheVariants.{Before, After}
use Rattle.viz_base.specs.declared.settings.Setting.{Setting}
use Rattle.viz_base.specs.declared.sheets.Feature.{Feature}
use Rattle.viz_base.specs.declared.sheets.Sheet.{Sheet}
use Rattle.viz_base.specs.declared.styles.Style.{Style}
use Rattle.css_semantics.specs.Cascade.{Fault, IsCascade}
use Rattle.css_semantics.specs.ComputedValues.{AreComputed}
use Rattle.css_semantics.specs.DefaultSheet.{default_text}
use Rattle.css_semantics.specs.PseudoCascade.{IsPseudoCascade}
use Rattle.css_semantics.specs.SheetsReading.{Refusal}
use Rattle.layout_semantics.specs.Refusals.{BoxRefusal}
use Rattle.vis_read.specs.declared.faults.FormulaFault.{FormulaFault}
use Rattle.vis_read.specs.Texts.{IsAnswerOf, IsFormulaText}
use Rattle.page_json.specs.declared.faults.JobFault.{JobFault}
use Rattle.page_json.specs.Fonts.{measures_of}
use Rattle.page_json.specs.Jobs.{Raw, raw_job, raw_job_with}
use Rattle.page_media.specs.Features.{features_of}
use Rattle.page_media.specs.Guards.{guarded}
use Rattle.page_media.specs.Parts.{few_parts_of, sign_of}
use Rattle.page_media.specs.Queries.{is_met, met_sheets}
use Rattle.page_pseudo.specs.Grown.{Written}
use Rattle.page_pseudo.specs.Growth.{Growth, IsGrowth}
use Rattle.page_boxes.specs.Trees.{TreeLists, lists_of, page_tree}
use Rattle.page_build.specs.declared.faults.JobRefusal.{JobRefusal}
use Rattle.page_build.specs.declared.faults.JobRefusal.TheVariants.{Generated, TooManyParts, TooManyQueries}
use Rattle.page_build.specs.Renumbering.{number_in, renumbered}
use Rattle.page_build.specs.Refusals.{of_file, of_sheet, of_boxes, of_formula, IsTold}
use Rattle.page_build.specs.Sheets.{AreSheets, IsFirstRefused}

-- ---- what wins, under sheets whose texts these are, the default sheet coming first

-- what wins on a page as it is written: at its nodes (CSS 2.1, chapter 6), at their `:before` and at their `:after` (12.1)
pub record AreWinning (texts : List (List ℕ)) (sheets : List Sheet) (page : Written) : Type 0 where
  pub own : IsCascade page.nodes texts sheets (Ok page.own)
  pub before : IsPseudoCascade page.nodes texts sheets Before (Ok page.before)
  pub after : IsPseudoCascade page.nodes texts sheets After (Ok page.after)

-- the page with its generated content (CSS 2.1, 12.1), or the node at which there is too much of it
pub record HasGrowth (nodes : List Node) (texts : List (List ℕ)) (sheets : List Sheet) (answer : Result Growth ℕ)
    : Type 0 where
  pub page : Written
  pub written : page.nodes ≡ nodes
  pub winning : AreWinning texts sheets page
  pub growth : IsGrowth page answer

-- A page is refused by a selector or a value that wins at a node, else by a value that wins at a `:before`, else by one
-- that wins at an `:after`, else by too much generated content.
pub data IsRefusedPage (nodes : List Node) (texts : List (List ℕ)) (sheets : List Sheet) : JobRefusal → Type 0 where
  own : {why : Fault} {refusal : JobRefusal} → IsCascade nodes texts sheets (Err why) → IsTold nodes texts why refusal
      → IsRefusedPage nodes texts sheets refusal
  before : {own : List (List Setting)} {why : Fault} {refusal : JobRefusal}
      → IsCascade nodes texts sheets (Ok own) → IsPseudoCascade nodes texts sheets Before (Err why)
      → IsTold nodes texts why refusal → IsRefusedPage nodes texts sheets refusal
  after : {own before : List (List Setting)} {why : Fault} {refusal : JobRefusal}
      → IsCascade nodes texts sheets (Ok own) → IsPseudoCascade nodes texts sheets Before (Ok before)
      → IsPseudoCascade nodes texts sheets After (Err why) → IsTold nodes texts why refusal
      → IsRefusedPage nodes texts sheets refusal
  content : {node : ℕ} → HasGrowth nodes texts sheets (Err node) → IsRefusedPage nodes texts sheets (Generated node)

-- ---- what a file says, under the sheets of a page

abbrev pub texts_of : Raw → List (List ℕ)
texts_of raw = default_text ∷ raw.css

-- the box tree of a page with its generated content (CSS 2.1, 6.1, 6.2 and 9.2), or why it gets none
pub record HasTree (grown : Growth) (fonts : List Font) (answer : Result TreeLists BoxRefusal) : Type 0 where
  pub styles : List Style
  pub computed : AreComputed grown.0 grown.1 fonts styles
  pub boxes : page_tree grown.0 styles fonts ≡ answer

pub record HasBoxes (raw : Raw) (sheets : List Sheet) (grown : Growth) (answer : Result TreeLists BoxRefusal)
    : Type 0 where
  pub growth : HasGrowth raw.nodes (texts_of raw) sheets (Ok grown)
  pub fonts : List Font
  pub measures : map measures_of fonts ≡ raw.fonts
  pub tree : HasTree grown fonts answer

-- the assertion of a page, over the page with its generated content
pub record HasAssertion (nodes : List Node) (text : List ℕ) (from : List (Option ℕ)) (formula : Formula)
    : Type 0 where
  pub written : Formula
  pub spelled : IsFormulaText nodes text written
  pub over_grown : formula ≡ renumbered (number_in from) written

-- what the rules of these sheets make of the page: its boxes, and the assertion as it is written
pub record IsMade (raw : Raw) (sheets : List Sheet) (tree : TreeLists) (formula : Formula) : Type 0 where
  pub grown : Growth
  pub boxes : HasBoxes raw sheets grown (Ok tree)
  pub assertion : HasAssertion raw.nodes raw.formula grown.2 formula

abbrev pub HasATree : Raw → List Sheet → Type 0
HasATree raw sheets = (grown : Growth) × (tree : TreeLists) × HasBoxes raw sheets grown (Ok tree)

-- why they make no boxes, by the first of the stages that refuses the page
pub data IsRefusedTree (raw : Raw) (sheets : List Sheet) : JobRefusal → Type 0 where
  page : {refusal : JobRefusal} → IsRefusedPage raw.nodes (texts_of raw) sheets refusal
      → IsRefusedTree raw sheets refusal
  boxes : {grown : Growth} {why : BoxRefusal} → HasBoxes raw sheets grown (Err why)
      → IsRefusedTree raw sheets (of_boxes why)

-- ---- the sheets of a page, and what they ask of the viewport's width (Media Queries 3)

pub record HaveFeatures (css : List (List ℕ)) (sheets : List Sheet) (features : List Feature) : Type 0 where
  pub read : AreSheets css sheets
  pub asked : features_of sheets ≡ Ok features

-- the first sheet that is refused comes first, and then too many features
pub data IsRefusedCss (css : List (List ℕ)) : JobRefusal → Type 0 where
  sheet : {number : ℕ} {why : Refusal} → IsFirstRefused css number why → IsRefusedCss css (of_sheet number why)
  queries : {sheets : List Sheet} {number place : ℕ} → AreSheets css sheets
      → features_of sheets ≡ Err (number, place) → IsRefusedCss css (TooManyQueries number place)

-- ---- the job at one world's width and size, in pixels: that of the rules that are met there

pub record IsBuiltAt (raw : Raw) (w s : ℕ) (job : Job) : Type 0 where
  pub form : job.form ≡ raw.form
  pub range : job.range ≡ raw.range
  pub sheets : List Sheet
  pub features : List Feature
  pub have : HaveFeatures raw.css sheets features
  pub made : IsMade raw (met_sheets (is_met w s) sheets) (lists_of job.tree) job.formula

pub data IsNotBuiltAt (raw : Raw) (w s : ℕ) : JobRefusal → Type 0 where
  css : {refusal : JobRefusal} → IsRefusedCss raw.css refusal → IsNotBuiltAt raw w s refusal
  tree : {sheets : List Sheet} {features : List Feature} {refusal : JobRefusal} → HaveFeatures raw.css sheets features
      → IsRefusedTree raw (met_sheets (is_met w s) sheets) refusal → IsNotBuiltAt raw w s refusal
  assertion : {sheets : List Sheet} {features : List Feature} (fault : FormulaFault)
      → HaveFeatures raw.css sheets features → HasATree raw (met_sheets (is_met w s) sheets)
      → IsAnswerOf raw.nodes raw.formula (Err fault) → IsNotBuiltAt raw w s (of_formula fault)

-- ---- the jobs of the parts of the range

-- the rules that are met where the features have these signs
abbrev pub chosen_by : List Feature → List Bool → List Sheet → List Sheet
chosen_by features signs sheets = met_sheets (sign_of features signs) sheets

-- the job of one part: its rules' boxes, and the assertion where the world is one of the part, and true elsewhere
pub record IsPartOf (raw : Raw) (sheets : List Sheet) (features : List Feature) (signs : List Bool) (job : Job)
    : Type 0 where
  pub form : job.form ≡ raw.form
  pub range : job.range ≡ raw.range
  pub written : Formula
  pub made : IsMade raw (chosen_by features signs sheets) (lists_of job.tree) written
  pub guard : job.formula ≡ guarded features signs written

-- one job for each part
pub data ArePartsOf (raw : Raw) (sheets : List Sheet) (features : List Feature)
    : List (List Bool) → List Job → Type 0 where
  nothing : ArePartsOf raw sheets features [] []
  first : {signs : List Bool} {job : Job} {parts : List (List Bool)} {jobs : List Job}
      → IsPartOf raw sheets features signs job → ArePartsOf raw sheets features parts jobs
      → ArePartsOf raw sheets features (signs ∷ parts) (job ∷ jobs)

abbrev pub HaveTrees : Raw → List Sheet → List Feature → List (List Bool) → Type 0
HaveTrees raw sheets features parts = AllByRecursion (λ signs. HasATree raw (chosen_by features signs sheets)) parts

-- the first part that gets no boxes
pub record IsFirstPartRefused (raw : Raw) (sheets : List Sheet) (features : List Feature) (parts : List (List Bool))
    (refusal : JobRefusal) : Type 0 where
  pub before : List (List Bool)
  pub signs : List Bool
  pub behind : List (List Bool)
  pub whole : parts ≡ before ++ signs ∷ behind
  pub trees : HaveTrees raw sheets features before
  pub refused : IsRefusedTree raw (chosen_by features signs sheets) refusal

-- the jobs of what a file says, whose assertion spells a formula
pub record AreBuilt (raw : Raw) (jobs : List Job) : Type 0 where
  pub sheets : List Sheet
  pub features : List Feature
  pub have : HaveFeatures raw.css sheets features
  pub parts : List (List Bool)
  pub few : few_parts_of features raw.range ≡ Ok parts
  pub formula : Formula
  pub spelled : IsFormulaText raw.nodes raw.formula formula
  pub each : ArePartsOf raw sheets features parts jobs

-- why what a file says is no list of jobs, by the first of its stages that refuses it
pub data AreNotBuilt (raw : Raw) : JobRefusal → Type 0 where
  css : {refusal : JobRefusal} → IsRefusedCss raw.css refusal → AreNotBuilt raw refusal
  many : {sheets : List Sheet} {features : List Feature} {count : ℕ} → HaveFeatures raw.css sheets features
      → few_parts_of features raw.range ≡ Err count → AreNotBuilt raw (TooManyParts count)
  part : {sheets : List Sheet} {features : List Feature} {parts : List (List Bool)} {refusal : JobRefusal}
      → HaveFeatures raw.css sheets features → few_parts_of features raw.range ≡ Ok parts
      → IsFirstPartRefused raw sheets features parts refusal → AreNotBuilt raw refusal
  assertion : {sheets : List Sheet} {features : List Feature} {parts : List (List Bool)} (fault : FormulaFault)
      → HaveFeatures raw.css sheets features → few_parts_of features raw.range ≡ Ok parts
      → HaveTrees raw sheets features parts → IsAnswerOf raw.nodes raw.formula (Err fault)
      → AreNotBuilt raw (of_formula fault)

-- ---- bytes

-- the bytes spell these jobs, one for each part of their range
pub record AreJobsOf (bytes : List ℕ) (jobs : List Job) : Type 0 where
  pub raw : Raw
  pub read : raw_job bytes ≡ Ok raw
  pub digests : AllByRecursion (λ (job : Job). job.digest ≡ sha256 bytes) jobs
  pub built : AreBuilt raw jobs

-- the bytes spell no jobs, for this reason
pub data AreRefusedAs (bytes : List ℕ) : JobRefusal → Type 0 where
  file : {why : JobFault} → raw_job bytes ≡ Err why → AreRefusedAs bytes (of_file why)
  later : {raw : Raw} {refusal : JobRefusal} → raw_job bytes ≡ Ok raw → AreNotBuilt raw refusal
      → AreRefusedAs bytes refusal

-- the bytes spell this job at a viewport's width and a default font size, in pixels
pub record IsJobAt (bytes : List ℕ) (w s : ℕ) (job : Job) : Type 0 where
  pub raw : Raw
  pub read : raw_job bytes ≡ Ok raw
  pub digest : job.digest ≡ sha256 bytes
  pub built : IsBuiltAt raw w s job

-- the bytes spell no job there, for this reason
pub data IsRefusedAt (bytes : List ℕ) (w s : ℕ) : JobRefusal → Type 0 where
  file : {why : JobFault} → raw_job bytes ≡ Err why → IsRefusedAt bytes w s (of_file why)
  later : {raw : Raw} {refusal : JobRefusal} → raw_job bytes ≡ Ok raw → IsNotBuiltAt raw w s refusal
      → IsRefusedAt bytes w s refusal

-- ---- bytes under another assertion: this text in place of the member `assert`, whatever that is

-- the bytes spell these jobs under it, one for each part of their range
pub record AreJobsWith (assertion bytes : List ℕ) (jobs : List Job) : Type 0 where
  pub raw : Raw
  pub read : raw_job_with assertion bytes ≡ Ok raw
  pub digests : AllByRecursion (λ (job : Job). job.digest ≡ sha256 bytes) jobs
  pub built : AreBuilt raw jobs

-- the bytes spell no jobs under it, for this reason
pub data AreRefusedWith (assertion bytes : List ℕ) : JobRefusal → Type 0 where
  file : {why : JobFault} → raw_job_with assertion bytes ≡ Err why → AreRefusedWith assertion bytes (of_file why)
  later : {raw : Raw} {refusal : JobRefusal} → raw_job_with assertion bytes ≡ Ok raw → AreNotBuilt raw refusal
      → AreRefusedWith assertion bytes refusal
