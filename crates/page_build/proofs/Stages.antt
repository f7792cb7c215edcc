-- What comes of one stage of a job is what comes of the job.
use Rattle.std.proofs.Common.{◌≡◌, ◌≢◌, ℕ, Bool, List, Result, Ok, Err, refl, sym, ◌∙◌, ap, subst}
use Rattle.std.specs.Prelude.{IfOk, MatchResult}
use Rattle.std.specs.Result.{IsErr, IsErrAnd}
use Rattle.std.proofs.lemmas.Bool.{false≢true}
use Rattle.viz_base.specs.Answers.{FailsWith}
use Rattle.viz_base.specs.declared.formulas.Formula.{Formula}
use Rattle.viz_base.specs.declared.jobs.Job.{Job}
use Rattle.viz_base.specs.declared.nodes.Node.{Node}
use Rattle.viz_base.specs.declared.sheets.Feature.{Feature}
use Rattle.viz_base.specs.declared.sheets.Sheet.{Sheet}
use Rattle.layout_semantics.specs.Refusals.{BoxRefusal}
use Rattle.page_json.specs.declared.faults.JobFault.{JobFault}
use Rattle.page_json.specs.declared.faults.JobFault.TheVariants as of_fault
use Rattle.page_json.specs.Faults.{refusal_of}
use Rattle.page_json.specs.Jobs.{Raw, raw_job, raw_of}
use Rattle.viz_base.specs.declared.raw_jobs.RawJob.{RawJob}
use Rattle.page_media.specs.Features.{asked, features_of}
use Rattle.page_media.specs.Laws.{AreAll, ChosenAreMet, FeaturesAreAll}
use Rattle.page_media.specs.Parts.{sign_of, signs_at}
use Rattle.page_media.specs.Queries.{is_met, met_sheets}
use Rattle.page_pseudo.specs.Grown.{Written}
use Rattle.page_pseudo.specs.Growth.{IsGrowth, growth_of}
use Rattle.page_pseudo.specs.declared.growing.Grown.{Grown}
use Rattle.page_boxes.specs.declared.faults.BoxFault.{BoxFault}
use Rattle.page_boxes.specs.declared.faults.BoxFault.TheVariants as of_box
use Rattle.page_boxes.specs.Trees.{TreeLists, lists_of, refusal_named}
use Rattle.vis_read.specs.declared.faults.FormulaFault.{FormulaFault}
use Rattle.vis_read.specs.declared.faults.FormulaFault.TheVariants as of_text
use Rattle.vis_read.specs.Texts.{IsAnswerOf, IsFault}
use Rattle.page_build.specs.declared.building.Laid.{Laid}
use Rattle.page_build.specs.declared.faults.JobRefusal.{JobRefusal}
use Rattle.page_build.specs.declared.faults.JobRefusal.TheVariants.{Generated, Mem, TooManyQueries}
use Rattle.page_build.specs.declared.files.JobFile.{JobFile}
use Rattle.page_build.specs.Jobs.{AreWinning, HasAssertion, HasATree, HasBoxes, HasGrowth, IsBuiltAt, IsJobAt, IsMade, IsNotBuiltAt, IsRefusedAt, IsRefusedCss, IsRefusedPage}
use Rattle.page_build.specs.Refusals.{IsSheetRefusal, of_boxes, of_box_fault, of_file, of_formula}
use Rattle.page_build.specs.Seen.{IsAsked, IsFileOf, IsJobWith, IsLaid, IsUnread}
use Rattle.page_build.specs.Sheets.{AreSheets}

-- what `?` gives for a refusal
pub refused_by : {A : Type 0} (P : A → Type 0) (Q : JobRefusal → Type 0) (r : Result A JobRefusal) (x : JobRefusal) → IsErr r × IsErrAnd r (λ given. given ≡ x) → Q x → MatchResult r P Q
refused_by P Q (Ok a) x h q = absurd (false≢true h.0)
refused_by P Q (Err given) x h q = subst Q (sym h.1) q

-- ---- files

pub file_refused : (said : Result Raw JobFault) (fault : JobFault) → FailsWith (refusal_of fault) (λ given. said ≡ given) → of_file fault ≢ Mem → IsUnread said (of_file fault)
file_refused said of_fault.Mem h other = absurd (other refl)
file_refused said of_fault.NotJson h other = IsUnread.file h
file_refused said (of_fault.Shape part place) h other = IsUnread.file h
file_refused said (of_fault.Limit which count) h other = IsUnread.file h
file_refused said of_fault.Range h other = IsUnread.file h

pub sheet_refused : (css : List (List ℕ)) (refusal : JobRefusal) → IsSheetRefusal css refusal → IsRefusedCss css refusal
sheet_refused css refusal h = subst (IsRefusedCss css) (sym h.3) (IsRefusedCss.sheet h.2)

pub asking_refused : (css : List (List ℕ)) (sheets : List Sheet) (refusal : JobRefusal) → AreSheets css sheets
    → (number : ℕ) × (place : ℕ) × (features_of sheets ≡ Err (number, place)) × (refusal ≡ TooManyQueries number place) → IsRefusedCss css refusal
asking_refused css sheets refusal are h = subst (IsRefusedCss css) (sym h.3) (IsRefusedCss.queries are h.2)

-- a file by what is read
pub file_from : (said : Result Raw JobFault) (bytes : List ℕ) (raw : RawJob) (r : Result JobFile JobRefusal) → said ≡ Ok (raw_of raw)
    → MatchResult r (IsFileOf (Ok (raw_of raw)) bytes) (λ refusal. refusal ≢ Mem → IsRefusedCss raw.css refusal)
    → MatchResult r (IsFileOf said bytes) (λ refusal. refusal ≢ Mem → IsUnread said refusal)
file_from said bytes raw (Ok file) is h = subst (λ given. IsFileOf given bytes file) (sym is) h
file_from said bytes raw (Err refusal) is h = λ other. IsUnread.css is (h other)

-- ---- pages

-- the page with the content that wins on it
pub grown_from : (nodes : List Node) (texts : List (List ℕ)) (sheets : List Sheet) (w : Written) (r : Result Grown JobRefusal) → w.nodes ≡ nodes → AreWinning texts sheets w
    → MatchResult r (λ g. IsGrowth w (Ok (growth_of g))) (λ refusal. refusal ≢ Mem → (node : ℕ) × IsGrowth w (Err node) × (refusal ≡ Generated node))
    → MatchResult r (λ g. HasGrowth nodes texts sheets (Ok (growth_of g))) (λ refusal. refusal ≢ Mem → IsRefusedPage nodes texts sheets refusal)
grown_from nodes texts sheets w (Ok g) same winning h = record { page = w; written = same; winning = winning; growth = h }
grown_from nodes texts sheets w (Err refusal) same winning h = λ other.
    (let found = h other in
    let content : HasGrowth nodes texts sheets (Err found.0) = record { page = w; written = same; winning = winning; growth = found.1 } in
    subst (IsRefusedPage nodes texts sheets) (sym found.2) (IsRefusedPage.content content))

pub boxes_refused : (answer : Result TreeLists BoxRefusal) (fault : BoxFault) → FailsWith (refusal_named fault) (λ given. answer ≡ given)
    → of_box_fault fault ≢ Mem → (why : BoxRefusal) × (answer ≡ Err why) × (of_box_fault fault ≡ of_boxes why)
boxes_refused answer of_box.Mem h other = absurd (other refl)
boxes_refused answer (of_box.BlockInInline node) h other = (BoxRefusal.block_in_inline node, h, refl)
boxes_refused answer (of_box.RightToLeft node letter) h other = (BoxRefusal.right_to_left node letter, h, refl)
boxes_refused answer of_box.TooManyBoxes h other = (BoxRefusal.too_many_boxes, h, refl)
boxes_refused answer (of_box.Reach node) h other = (BoxRefusal.reach node, h, refl)

-- ---- assertions

formula_refused : (nodes : List Node) (text : List ℕ) (fault : FormulaFault) → of_formula fault ≢ Mem → IsFault nodes text fault → IsAnswerOf nodes text (Err fault)
formula_refused nodes text of_text.Mem other h = absurd (other refl)
formula_refused nodes text (of_text.Bad at) other h = h
formula_refused nodes text (of_text.Unbound at) other h = h
formula_refused nodes text (of_text.TooDeep at) other h = h

-- an assertion spells none
pub unspelled : (nodes : List Node) (text : List ℕ) (refusal : JobRefusal) → refusal ≢ Mem
    → (fault : FormulaFault) × IsFault nodes text fault × (refusal ≡ of_formula fault)
    → (fault : FormulaFault) × IsAnswerOf nodes text (Err fault) × (refusal ≡ of_formula fault)
unspelled nodes text refusal other h = (h.0, formula_refused nodes text h.0 (subst (λ r. r ≢ Mem) h.2 other) h.1, h.2)

-- ---- width queries

-- with the signs of a world those rules are chosen that are met there
pub chosen_there : (features : List Feature) (sheets : List Sheet) (signs : List Bool) (w s : ℕ) → FeaturesAreAll → ChosenAreMet → features_of sheets ≡ Ok features
    → signs ≡ signs_at features w s → met_sheets (sign_of features signs) sheets ≡ met_sheets (is_met w s) sheets
chosen_there features sheets signs w s all met e is =
    let whole = (subst (AreAll (asked sheets)) e (all sheets)).0 in
    ap (λ some. met_sheets (sign_of features some) sheets) is ∙ (ap (λ fs. met_sheets (sign_of fs (signs_at fs w s)) sheets) whole ∙ met sheets w s)

-- ---- jobs

pub tree_there : {raw : Raw} {sheets : List Sheet} {laid : Laid} → IsLaid raw sheets laid → HasATree raw sheets
tree_there {laid = laid} h = (h.grown, lists_of laid.tree, h.boxes)

-- the boxes and the assertion of a job
pub made_from : (raw : Raw) (sheets : List Sheet) (laid : Laid) (formula : Formula) (job : Job) → IsLaid raw sheets laid
    → HasAssertion raw.nodes raw.formula laid.from formula → job.tree ≡ laid.tree → IsMade raw sheets (lists_of job.tree) formula
made_from raw sheets laid formula job h assertion same = record {
  grown = h.grown;
  boxes = subst (λ tree. HasBoxes raw sheets h.grown (Ok (lists_of tree))) (sym same) h.boxes;
  assertion = subst (λ from. HasAssertion raw.nodes raw.formula from formula) h.from assertion;
}

module _ (file : JobFile) (asked : IsAsked file) (w s : ℕ) where
  abbrev met_there : List Sheet
  met_there = met_sheets (is_met w s) file.sheets.items

  pub built_at : (laid : Laid) (formula : Formula) (job : Job) → IsLaid (raw_of file.raw) met_there laid → HasAssertion file.raw.page.nodes file.raw.formula laid.from formula
      → IsJobWith file laid.tree formula job → IsBuiltAt (raw_of file.raw) w s job
  built_at laid formula job h assertion with_these = record {
    form = with_these.form;
    range = with_these.range;
    sheets = file.sheets.items;
    features = file.features;
    have = asked;
    made = subst (IsMade (raw_of file.raw) met_there (lists_of job.tree)) (sym with_these.formula)
        (made_from (raw_of file.raw) met_there laid formula job h assertion with_these.tree);
  }

  pub unspelled_at : (refusal : JobRefusal) → HasATree (raw_of file.raw) met_there
      → (fault : FormulaFault) × IsAnswerOf file.raw.page.nodes file.raw.formula (Err fault) × (refusal ≡ of_formula fault) → IsNotBuiltAt (raw_of file.raw) w s refusal
  unspelled_at refusal tree h = subst (IsNotBuiltAt (raw_of file.raw) w s) (sym h.2) (IsNotBuiltAt.assertion h.0 asked tree h.1)

pub unread_at : {bytes : List ℕ} (w s : ℕ) {refusal : JobRefusal} → IsUnread (raw_job bytes) refusal → IsRefusedAt bytes w s refusal
unread_at w s (IsUnread.file e) = IsRefusedAt.file e
unread_at w s (IsUnread.css e h) = IsRefusedAt.later e (IsNotBuiltAt.css h)

pub job_from : (bytes : List ℕ) (w s : ℕ) (file : JobFile) (r : Result Job JobRefusal) → IsFileOf (raw_job bytes) bytes file
    → MatchResult r (IsBuiltAt (raw_of file.raw) w s) (λ refusal. refusal ≢ Mem → IsNotBuiltAt (raw_of file.raw) w s refusal) → IfOk r (λ job. job.digest ≡ file.digest)
    → MatchResult r (IsJobAt bytes w s) (λ refusal. refusal ≢ Mem → IsRefusedAt bytes w s refusal)
job_from bytes w s file (Ok job) is built kept = record { raw = raw_of file.raw; read = is.read; digest = kept ∙ is.digest; built = built }
job_from bytes w s file (Err refusal) is later kept = λ other. IsRefusedAt.later is.read (later other)
