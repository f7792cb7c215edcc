-- The jobs of the parts of a range, one after another.
use Rattle.std.proofs.Common.{◌≡◌, ◌≢◌, ℕ, suc, ◌+◌, ◌<◌, Bool, List, [], ◌∷◌, ◌++◌, length, take, drop, get_or, Result, Ok, Err, refl, sym, ◌∙◌, ap, subst, drop-cons}
use Rattle.std.specs.List.{AllByRecursion}
use Rattle.std.specs.Prelude.{IfOk, MatchResult}
use Rattle.std.proofs.lemmas.List.{take_more, take-append-drop}
use Rattle.sha2.specs.Sha256.{sha256}
use Rattle.viz_base.specs.declared.formulas.Formula.{Formula}
use Rattle.viz_base.specs.declared.jobs.Job.{Job}
use Rattle.viz_base.specs.declared.sheets.Feature.{Feature}
use Rattle.viz_base.specs.declared.sheets.Sheet.{Sheet}
use Rattle.page_boxes.specs.Trees.{lists_of}
use Rattle.page_json.specs.Jobs.{Raw, raw_job, raw_job_with, raw_of}
use Rattle.page_media.specs.Guards.{guarded}
use Rattle.page_media.specs.Parts.{few_parts_of}
use Rattle.vis_read.specs.declared.faults.FormulaFault.{FormulaFault}
use Rattle.vis_read.specs.Texts.{IsAnswerOf, IsFormulaText}
use Rattle.page_build.specs.declared.building.Laid.{Laid}
use Rattle.page_build.specs.declared.faults.JobRefusal.{JobRefusal}
use Rattle.page_build.specs.declared.faults.JobRefusal.TheVariants.{Mem, TooManyParts}
use Rattle.page_build.specs.declared.files.JobFile.{JobFile}
use Rattle.page_build.specs.Jobs.{AreBuilt, AreJobsOf, AreJobsWith, AreNotBuilt, AreRefusedAs, AreRefusedWith, ArePartsOf, HasATree, HaveTrees, IsFirstPartRefused, IsPartOf, IsRefusedTree, chosen_by}
use Rattle.page_build.specs.Refusals.{of_formula}
use Rattle.page_build.specs.Renumbering.{number_in, renumbered}
use Rattle.page_build.specs.Seen.{IsAsked, IsFileOf, IsJobWith, IsLaid, IsUnread}
use Rattle.page_build.proofs.Stages.{made_from}

all_behind : {X : Type 0} (P : X → Type 0) (xs : List X) (x : X) → AllByRecursion P xs → P x → AllByRecursion P (xs ++ x ∷ [])
all_behind P [] x h p = (p, tt)
all_behind P (y ∷ ys) x h p = (h.0, all_behind P ys x h.1 p)

-- ---- one part behind others

module _ (raw : Raw) (sheets : List Sheet) (features : List Feature) where
  abbrev Signs : Type 0
  Signs = List Bool

  behind : {parts : List Signs} {jobs : List Job} (signs : Signs) (job : Job) → ArePartsOf raw sheets features parts jobs → IsPartOf raw sheets features signs job
      → ArePartsOf raw sheets features (parts ++ signs ∷ []) (jobs ++ job ∷ [])
  behind signs job ArePartsOf.nothing is = ArePartsOf.first is ArePartsOf.nothing
  behind signs job (ArePartsOf.first one rest) is = ArePartsOf.first one (behind signs job rest is)

  front : (parts : List Signs) (i : ℕ) (signs : Signs) → i < length parts → signs ≡ get_or parts i signs → take (i + 1) parts ≡ take i parts ++ signs ∷ []
  front parts i signs l e = take_more parts i signs l ∙ ap (λ one. take i parts ++ one ∷ []) (sym e)

  pub parts_more : (parts : List Signs) (i : ℕ) (jobs : List Job) (signs : Signs) (job : Job) → i < length parts → signs ≡ get_or parts i signs
      → ArePartsOf raw sheets features (take i parts) jobs → IsPartOf raw sheets features signs job
      → ArePartsOf raw sheets features (take (i + 1) parts) (jobs ++ job ∷ [])
  parts_more parts i jobs signs job l e are is =
      subst (λ some. ArePartsOf raw sheets features some (jobs ++ job ∷ [])) (sym (front parts i signs l e)) (behind signs job are is)

  pub trees_more : (parts : List Signs) (i : ℕ) (signs : Signs) → i < length parts → signs ≡ get_or parts i signs
      → HaveTrees raw sheets features (take i parts) → HasATree raw (chosen_by features signs sheets) → HaveTrees raw sheets features (take (i + 1) parts)
  trees_more parts i signs l e have has =
      subst (HaveTrees raw sheets features) (sym (front parts i signs l e)) (all_behind (λ some. HasATree raw (chosen_by features some sheets)) (take i parts) signs have has)

  pub trees_of : {parts : List Signs} {jobs : List Job} → ArePartsOf raw sheets features parts jobs → HaveTrees raw sheets features parts
  trees_of ArePartsOf.nothing = tt
  trees_of (ArePartsOf.first {job = job} one rest) = ((one.made.grown, lists_of job.tree, one.made.boxes), trees_of rest)

  pub first_part : (parts : List Signs) (i : ℕ) (signs : Signs) (refusal : JobRefusal) → i < length parts → signs ≡ get_or parts i signs
      → HaveTrees raw sheets features (take i parts) → IsRefusedTree raw (chosen_by features signs sheets) refusal → IsFirstPartRefused raw sheets features parts refusal
  first_part parts i signs refusal l e have is = record {
    before = take i parts;
    signs = signs;
    behind = drop (suc i) parts;
    whole = sym (take-append-drop i parts) ∙ ap (λ rest. take i parts ++ rest) (subst (λ one. drop i parts ≡ one ∷ drop (suc i) parts) (sym e) (drop-cons parts i signs l));
    trees = have;
    refused = is;
  }

pub digests_more : (digest : List ℕ) (jobs : List Job) (job : Job) → AllByRecursion (λ (j : Job). j.digest ≡ digest) jobs → job.digest ≡ digest
    → AllByRecursion (λ (j : Job). j.digest ≡ digest) (jobs ++ job ∷ [])
digests_more digest jobs job h e = all_behind (λ (j : Job). j.digest ≡ digest) jobs job h e

-- ---- files

module _ (file : JobFile) (asked : IsAsked file) where
  abbrev Spelled : Formula → Type 0
  Spelled = IsFormulaText file.raw.page.nodes file.raw.formula

  pub part_from : (signs : List Bool) (laid : Laid) (formula with_guard : Formula) (job : Job) → IsLaid (raw_of file.raw) (chosen_by file.features signs file.sheets.items) laid
      → Spelled formula → with_guard ≡ guarded file.features signs (renumbered (number_in laid.from) formula) → IsJobWith file laid.tree with_guard job
      → IsPartOf (raw_of file.raw) file.sheets.items file.features signs job
  part_from signs laid formula with_guard job h spelled is with_these = record {
    form = with_these.form;
    range = with_these.range;
    written = renumbered (number_in laid.from) formula;
    made = made_from (raw_of file.raw) (chosen_by file.features signs file.sheets.items) laid (renumbered (number_in laid.from) formula) job h
        (record { written = formula; spelled = spelled; over_grown = refl }) with_these.tree;
    guard = with_these.formula ∙ is;
  }

  module _ (parts : List (List Bool)) (few : few_parts_of file.features file.raw.range ≡ Ok parts) where
    pub built_parts : (formula : Formula) (r : Result (List Job) JobRefusal) → Spelled formula
        → MatchResult r (ArePartsOf (raw_of file.raw) file.sheets.items file.features parts)
        (λ refusal. refusal ≢ Mem → IsFirstPartRefused (raw_of file.raw) file.sheets.items file.features parts refusal)
        → MatchResult r (AreBuilt (raw_of file.raw)) (λ refusal. refusal ≢ Mem → AreNotBuilt (raw_of file.raw) refusal)
    built_parts formula (Ok jobs) spelled h = record { sheets = file.sheets.items; features = file.features; have = asked; parts = parts; few = few; formula = formula; spelled = spelled; each = h }
    built_parts formula (Err refusal) spelled h = λ other. AreNotBuilt.part asked few (h other)

    pub part_refused : (refusal : JobRefusal) → IsFirstPartRefused (raw_of file.raw) file.sheets.items file.features parts refusal → AreNotBuilt (raw_of file.raw) refusal
    part_refused refusal h = AreNotBuilt.part asked few h

    pub unspelled_parts : (refusal : JobRefusal) → HaveTrees (raw_of file.raw) file.sheets.items file.features parts
        → (fault : FormulaFault) × IsAnswerOf file.raw.page.nodes file.raw.formula (Err fault) × (refusal ≡ of_formula fault) → AreNotBuilt (raw_of file.raw) refusal
    unspelled_parts refusal trees h = subst (AreNotBuilt (raw_of file.raw)) (sym h.2) (AreNotBuilt.assertion h.0 asked few trees h.1)

  pub many_parts : (refusal : JobRefusal) → (count : ℕ) × (few_parts_of file.features file.raw.range ≡ Err count) × (refusal ≡ TooManyParts count) → AreNotBuilt (raw_of file.raw) refusal
  many_parts refusal h = subst (AreNotBuilt (raw_of file.raw)) (sym h.2) (AreNotBuilt.many asked h.1)

-- ---- bytes

pub unread : {bytes : List ℕ} {refusal : JobRefusal} → IsUnread (raw_job bytes) refusal → AreRefusedAs bytes refusal
unread (IsUnread.file e) = AreRefusedAs.file e
unread (IsUnread.css e h) = AreRefusedAs.later e (AreNotBuilt.css h)

pub unread_with : {assertion bytes : List ℕ} {refusal : JobRefusal} → IsUnread (raw_job_with assertion bytes) refusal → AreRefusedWith assertion bytes refusal
unread_with (IsUnread.file e) = AreRefusedWith.file e
unread_with (IsUnread.css e h) = AreRefusedWith.later e (AreNotBuilt.css h)

all_same : (jobs : List Job) (digest given : List ℕ) → digest ≡ given → AllByRecursion (λ (job : Job). job.digest ≡ digest) jobs → AllByRecursion (λ (job : Job). job.digest ≡ given) jobs
all_same jobs digest given e h = subst (λ d. AllByRecursion (λ (job : Job). job.digest ≡ d) jobs) e h

pub jobs_from : (bytes : List ℕ) (file : JobFile) (r : Result (List Job) JobRefusal) → IsFileOf (raw_job bytes) bytes file
    → MatchResult r (AreBuilt (raw_of file.raw)) (λ refusal. refusal ≢ Mem → AreNotBuilt (raw_of file.raw) refusal)
    → IfOk r (AllByRecursion (λ (job : Job). job.digest ≡ file.digest))
    → MatchResult r (AreJobsOf bytes) (λ refusal. refusal ≢ Mem → AreRefusedAs bytes refusal)
jobs_from bytes file (Ok jobs) is built kept =
    record { raw = raw_of file.raw; read = is.read; digests = all_same jobs file.digest (sha256 bytes) is.digest kept; built = built }
jobs_from bytes file (Err refusal) is later kept = λ other. AreRefusedAs.later is.read (later other)

pub jobs_with : (assertion bytes : List ℕ) (file : JobFile) (r : Result (List Job) JobRefusal) → IsFileOf (raw_job_with assertion bytes) bytes file
    → MatchResult r (AreBuilt (raw_of file.raw)) (λ refusal. refusal ≢ Mem → AreNotBuilt (raw_of file.raw) refusal)
    → IfOk r (AllByRecursion (λ (job : Job). job.digest ≡ file.digest))
    → MatchResult r (AreJobsWith assertion bytes) (λ refusal. refusal ≢ Mem → AreRefusedWith assertion bytes refusal)
jobs_with assertion bytes file (Ok jobs) is built kept =
    record { raw = raw_of file.raw; read = is.read; digests = all_same jobs file.digest (sha256 bytes) is.digest kept; built = built }
jobs_with assertion bytes file (Err refusal) is later kept = λ other. AreRefusedWith.later is.read (later other)
