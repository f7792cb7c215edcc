-- Bytes spell at most one list of jobs, or are refused in one way; and so at each width and size.
use Rattle.std.proofs.Common.{◌≡◌, ℕ, Bool, List, [], ◌∷◌, ◌++◌, Result, Ok, Err, refl, sym, ◌∙◌, ap, subst}
use Rattle.std.specs.List.{AllByRecursion}
use Rattle.viz_base.specs.declared.formulas.Formula.{Formula}
use Rattle.viz_base.specs.declared.jobs.Job.{Job}
use Rattle.viz_base.specs.declared.sheets.Feature.{Feature}
use Rattle.viz_base.specs.declared.sheets.Sheet.{Sheet}
use Rattle.viz_base.specs.Pages.{IsPage}
use Rattle.viz_base.proofs.Sameness.{same_Ok, same_Err, no_Ok, no_cons, same_head, same_tail}
use Rattle.page_boxes.specs.Trees.{lists_of}
use Rattle.page_json.specs.Jobs.{Raw}
use Rattle.page_media.specs.Features.{features_of}
use Rattle.page_media.specs.Guards.{guarded}
use Rattle.page_media.specs.Parts.{few_parts_of}
use Rattle.page_media.specs.Queries.{is_met, met_sheets}
use Rattle.page_build.specs.declared.faults.JobRefusal.{JobRefusal}
use Rattle.page_build.specs.declared.faults.JobRefusal.TheVariants.{TooManyParts, TooManyQueries}
use Rattle.page_build.specs.Jobs.{AreBuilt, AreJobsOf, AreNotBuilt, AreRefusedAs, ArePartsOf, HaveFeatures, HaveTrees, IsBuiltAt, IsFirstPartRefused, IsJobAt, IsMade, IsNotBuiltAt, IsPartOf, IsRefusedAt, IsRefusedCss, IsRefusedTree, chosen_by}
use Rattle.page_build.specs.Laws.{ComeTo, ComesTo}
use Rattle.page_build.specs.Refusals.{of_file}
use Rattle.page_build.proofs.OnePage.{Laws}
use Rattle.page_build.proofs.OneSheet.{one_default, one_sheet_refusal, read_or_refused}
use Rattle.page_build.proofs.OneTree.{made_tree, one_fault, one_made, one_refused_tree, spelled_or_refused, tree_or_refused}
use Rattle.page_build.proofs.PartStages.{trees_of}
use Rattle.page_build.proofs.ReadPages.{raw_page}
use Rattle.page_build.proofs.SameFields.{same_job, same_tree}

-- ---- what sheets ask

abbrev at_place : ℕ × ℕ → JobRefusal
at_place place = TooManyQueries place.0 place.1

module _ {css : List (List ℕ)} where
  one_have : {s t : List Sheet} {f g : List Feature} → HaveFeatures css s f → HaveFeatures css t g → (s ≡ t) × (f ≡ g)
  one_have h k = let same = one_default h.read k.read in (same, same_Ok (sym h.asked ∙ (ap features_of same ∙ k.asked)))

  have_or_refused : {s : List Sheet} {f : List Feature} {refusal : JobRefusal} → HaveFeatures css s f → IsRefusedCss css refusal → ⊥
  have_or_refused h (IsRefusedCss.sheet k) = read_or_refused h.read k
  have_or_refused h (IsRefusedCss.queries read e) = no_Ok (sym h.asked ∙ (ap features_of (one_default h.read read) ∙ e))

  one_css : {a b : JobRefusal} → IsRefusedCss css a → IsRefusedCss css b → a ≡ b
  one_css (IsRefusedCss.sheet h) (IsRefusedCss.sheet k) = one_sheet_refusal h k
  one_css (IsRefusedCss.sheet h) (IsRefusedCss.queries read e) = absurd (read_or_refused read h)
  one_css (IsRefusedCss.queries read e) (IsRefusedCss.sheet k) = absurd (read_or_refused read k)
  one_css (IsRefusedCss.queries read e) (IsRefusedCss.queries again f) = ap at_place (same_Err (sym e ∙ (ap features_of (one_default read again) ∙ f)))

module _ (laws : Laws) (raw : Raw) (page : IsPage raw.nodes) where
  -- ---- one job

  job_is : {sheets : List Sheet} {f g : Formula} (a b : Job) → a.digest ≡ b.digest → a.form ≡ b.form → a.range ≡ b.range → a.formula ≡ b.formula
      → IsMade raw sheets (lists_of a.tree) f → IsMade raw sheets (lists_of b.tree) g → a ≡ b
  job_is {sheets = sheets} a b digest form range formula h k =
      same_job a b digest form range (same_tree a.tree b.tree (one_made laws raw page sheets h k).0) formula

  -- ---- at a width and a size

  module _ (w s : ℕ) where
    abbrev met_of : List Sheet → List Sheet
    met_of sheets = met_sheets (is_met w s) sheets

    one_at : {a b : Job} → IsBuiltAt raw w s a → IsBuiltAt raw w s b → a.digest ≡ b.digest → a ≡ b
    one_at {a = a} {b = b} h k digest =
        let same = (one_have h.have k.have).0 in
        let other : IsMade raw (met_of h.sheets) (lists_of b.tree) b.formula = subst (λ sheets. IsMade raw (met_of sheets) (lists_of b.tree) b.formula) (sym same) k.made in
        job_is a b digest (h.form ∙ sym k.form) (h.range ∙ sym k.range) (one_made laws raw page (met_of h.sheets) h.made other).1 h.made other

    at_or_refused : {job : Job} {refusal : JobRefusal} → IsBuiltAt raw w s job → IsNotBuiltAt raw w s refusal → ⊥
    at_or_refused h (IsNotBuiltAt.css k) = have_or_refused h.have k
    at_or_refused {refusal = refusal} h (IsNotBuiltAt.tree have k) =
        tree_or_refused laws raw page (met_of h.sheets) (made_tree laws raw page (met_of h.sheets) h.made)
        (subst (λ sheets. IsRefusedTree raw (met_of sheets) refusal) (sym (one_have h.have have).0) k)
    at_or_refused h (IsNotBuiltAt.assertion fault have tree k) = spelled_or_refused raw.nodes raw.formula h.made.assertion.written fault laws h.made.assertion.spelled k

    one_not_at : {a b : JobRefusal} → IsNotBuiltAt raw w s a → IsNotBuiltAt raw w s b → a ≡ b
    one_not_at (IsNotBuiltAt.css h) (IsNotBuiltAt.css k) = one_css h k
    one_not_at (IsNotBuiltAt.css h) (IsNotBuiltAt.tree have k) = absurd (have_or_refused have h)
    one_not_at (IsNotBuiltAt.css h) (IsNotBuiltAt.assertion fault have tree k) = absurd (have_or_refused have h)
    one_not_at (IsNotBuiltAt.tree have h) (IsNotBuiltAt.css k) = absurd (have_or_refused have k)
    one_not_at {b = b} (IsNotBuiltAt.tree {sheets = sheets} have h) (IsNotBuiltAt.tree again k) =
        one_refused_tree laws raw page (met_of sheets) h (subst (λ others. IsRefusedTree raw (met_of others) b) (sym (one_have have again).0) k)
    one_not_at {a = a} (IsNotBuiltAt.tree have h) (IsNotBuiltAt.assertion {sheets = sheets} fault again tree k) =
        absurd (tree_or_refused laws raw page (met_of sheets) tree (subst (λ others. IsRefusedTree raw (met_of others) a) (one_have have again).0 h))
    one_not_at (IsNotBuiltAt.assertion fault have tree h) (IsNotBuiltAt.css k) = absurd (have_or_refused have k)
    one_not_at {b = b} (IsNotBuiltAt.assertion {sheets = sheets} fault have tree h) (IsNotBuiltAt.tree again k) =
        absurd (tree_or_refused laws raw page (met_of sheets) tree (subst (λ others. IsRefusedTree raw (met_of others) b) (sym (one_have have again).0) k))
    one_not_at (IsNotBuiltAt.assertion fault have tree h) (IsNotBuiltAt.assertion other again trees k) = one_fault raw.nodes raw.formula fault other laws h k

  -- ---- parts

  module _ (sheets : List Sheet) (features : List Feature) where
    one_part : {signs : List Bool} {a b : Job} → IsPartOf raw sheets features signs a → IsPartOf raw sheets features signs b → a.digest ≡ b.digest → a ≡ b
    one_part {signs = signs} {a = a} {b = b} h k digest =
        let written = (one_made laws raw page (chosen_by features signs sheets) h.made k.made).1 in
        job_is a b digest (h.form ∙ sym k.form) (h.range ∙ sym k.range) (h.guard ∙ (ap (guarded features signs) written ∙ sym k.guard)) h.made k.made

    one_list : {parts : List (List Bool)} {xs ys : List Job} (digest : List ℕ) → ArePartsOf raw sheets features parts xs → ArePartsOf raw sheets features parts ys
        → AllByRecursion (λ (job : Job). job.digest ≡ digest) xs → AllByRecursion (λ (job : Job). job.digest ≡ digest) ys → xs ≡ ys
    one_list digest ArePartsOf.nothing ArePartsOf.nothing d e = refl
    one_list digest (ArePartsOf.first {jobs = xs} h hs) (ArePartsOf.first {job = b} k ks) d e =
        ap (λ job. job ∷ xs) (one_part h k (d.0 ∙ sym e.0)) ∙ ap (λ jobs. b ∷ jobs) (one_list digest hs ks d.1 e.1)

    none_refused : {refusal : JobRefusal} (signs : List Bool) (before : List (List Bool)) (behind parts : List (List Bool)) → parts ≡ before ++ signs ∷ behind
        → HaveTrees raw sheets features parts → IsRefusedTree raw (chosen_by features signs sheets) refusal → ⊥
    none_refused signs [] behind [] e h k = no_cons e
    none_refused {refusal = refusal} signs [] behind (part ∷ parts) e h k =
        tree_or_refused laws raw page (chosen_by features part sheets) h.0 (subst (λ some. IsRefusedTree raw (chosen_by features some sheets) refusal) (sym (same_head e)) k)
    none_refused signs (one ∷ before) behind [] e h k = no_cons e
    none_refused signs (one ∷ before) behind (part ∷ parts) e h k = none_refused signs before behind parts (same_tail e) h.1 k

    trees_or_refused : {parts : List (List Bool)} {refusal : JobRefusal} → HaveTrees raw sheets features parts → IsFirstPartRefused raw sheets features parts refusal → ⊥
    trees_or_refused {parts = parts} h k = none_refused k.signs k.before k.behind parts k.whole h k.refused

    one_first : {a b : JobRefusal} (before : List (List Bool)) (signs : List Bool) (behind others : List (List Bool)) (other : List Bool) (rest : List (List Bool))
        → before ++ signs ∷ behind ≡ others ++ other ∷ rest → HaveTrees raw sheets features before → HaveTrees raw sheets features others
        → IsRefusedTree raw (chosen_by features signs sheets) a → IsRefusedTree raw (chosen_by features other sheets) b → a ≡ b
    one_first {b = b} [] signs behind [] other rest e h k j i =
        one_refused_tree laws raw page (chosen_by features signs sheets) j (subst (λ some. IsRefusedTree raw (chosen_by features some sheets) b) (sym (same_head e)) i)
    one_first {a = a} [] signs behind (one ∷ others) other rest e h k j i =
        absurd (tree_or_refused laws raw page (chosen_by features one sheets) k.0 (subst (λ some. IsRefusedTree raw (chosen_by features some sheets) a) (same_head e) j))
    one_first {b = b} (one ∷ before) signs behind [] other rest e h k j i =
        absurd (tree_or_refused laws raw page (chosen_by features one sheets) h.0 (subst (λ some. IsRefusedTree raw (chosen_by features some sheets) b) (sym (same_head e)) i))
    one_first (one ∷ before) signs behind (two ∷ others) other rest e h k j i = one_first before signs behind others other rest (same_tail e) h.1 k.1 j i

    one_first_part : {parts : List (List Bool)} {a b : JobRefusal} → IsFirstPartRefused raw sheets features parts a → IsFirstPartRefused raw sheets features parts b → a ≡ b
    one_first_part h k = one_first h.before h.signs h.behind k.before k.signs k.behind (sym h.whole ∙ k.whole) h.trees k.trees h.refused k.refused

  -- ---- what sheets make of a range

  -- the parts of two readings are the same
  record AreSame (s t : List Sheet) (f g : List Feature) (p q : List (List Bool)) : Type 0 where
    sheets : s ≡ t
    features : f ≡ g
    parts : p ≡ q

  one_split : {s t : List Sheet} {f g : List Feature} {p q : List (List Bool)} → HaveFeatures raw.css s f → HaveFeatures raw.css t g
      → few_parts_of f raw.range ≡ Ok p → few_parts_of g raw.range ≡ Ok q → AreSame s t f g p q
  one_split h k e d =
      let same = one_have h k in
      record { sheets = same.0; features = same.1; parts = same_Ok (sym e ∙ (ap (λ fs. few_parts_of fs raw.range) same.1 ∙ d)) }

  few_or_many : {s t : List Sheet} {f g : List Feature} {p : List (List Bool)} {count : ℕ} → HaveFeatures raw.css s f → HaveFeatures raw.css t g
      → few_parts_of f raw.range ≡ Ok p → few_parts_of g raw.range ≡ Err count → ⊥
  few_or_many h k e d = no_Ok (sym e ∙ (ap (λ fs. few_parts_of fs raw.range) (one_have h k).1 ∙ d))

  -- the same, said of what another reading has
  moved : {s t : List Sheet} {f g : List Feature} {p q : List (List Bool)} (P : List Sheet → List Feature → List (List Bool) → Type 0) → AreSame s t f g p q → P t g q → P s f p
  moved {s = s} {f = f} {g = g} {q = q} P same h =
      subst (λ parts. P s f parts) (sym same.parts) (subst (λ features. P s features q) (sym same.features) (subst (λ sheets. P sheets g q) (sym same.sheets) h))

  one_built : {xs ys : List Job} (digest : List ℕ) → AreBuilt raw xs → AreBuilt raw ys
      → AllByRecursion (λ (job : Job). job.digest ≡ digest) xs → AllByRecursion (λ (job : Job). job.digest ≡ digest) ys → xs ≡ ys
  one_built {ys = ys} digest h k d e =
      let each = moved (λ s f p. ArePartsOf raw s f p ys) (one_split h.have k.have h.few k.few) k.each in
      one_list h.sheets h.features digest h.each each d e

  built_or_refused : {jobs : List Job} {refusal : JobRefusal} → AreBuilt raw jobs → AreNotBuilt raw refusal → ⊥
  built_or_refused h (AreNotBuilt.css k) = have_or_refused h.have k
  built_or_refused h (AreNotBuilt.many have e) = few_or_many h.have have h.few e
  built_or_refused {refusal = refusal} h (AreNotBuilt.part have few k) =
      trees_or_refused h.sheets h.features (trees_of raw h.sheets h.features h.each)
      (moved (λ s f p. IsFirstPartRefused raw s f p refusal) (one_split h.have have h.few few) k)
  built_or_refused h (AreNotBuilt.assertion fault have few trees k) = spelled_or_refused raw.nodes raw.formula h.formula fault laws h.spelled k

  one_not_built : {a b : JobRefusal} → AreNotBuilt raw a → AreNotBuilt raw b → a ≡ b
  one_not_built (AreNotBuilt.css h) (AreNotBuilt.css k) = one_css h k
  one_not_built (AreNotBuilt.css h) (AreNotBuilt.many have e) = absurd (have_or_refused have h)
  one_not_built (AreNotBuilt.css h) (AreNotBuilt.part have few k) = absurd (have_or_refused have h)
  one_not_built (AreNotBuilt.css h) (AreNotBuilt.assertion fault have few trees k) = absurd (have_or_refused have h)
  one_not_built (AreNotBuilt.many have d) (AreNotBuilt.css k) = absurd (have_or_refused have k)
  one_not_built (AreNotBuilt.many have d) (AreNotBuilt.many again e) =
      ap TooManyParts (same_Err (sym d ∙ (ap (λ fs. few_parts_of fs raw.range) (one_have have again).1 ∙ e)))
  one_not_built (AreNotBuilt.many have d) (AreNotBuilt.part again few k) = absurd (few_or_many again have few d)
  one_not_built (AreNotBuilt.many have d) (AreNotBuilt.assertion fault again few trees k) = absurd (few_or_many again have few d)
  one_not_built (AreNotBuilt.part have few h) (AreNotBuilt.css k) = absurd (have_or_refused have k)
  one_not_built (AreNotBuilt.part have few h) (AreNotBuilt.many again e) = absurd (few_or_many have again few e)
  one_not_built {b = b} (AreNotBuilt.part {sheets = sheets} {features = features} have few h) (AreNotBuilt.part again also k) =
      one_first_part sheets features h (moved (λ s f p. IsFirstPartRefused raw s f p b) (one_split have again few also) k)
  one_not_built (AreNotBuilt.part {sheets = sheets} {features = features} have few h) (AreNotBuilt.assertion fault again also trees k) =
      absurd (trees_or_refused sheets features (moved (HaveTrees raw) (one_split have again few also) trees) h)
  one_not_built (AreNotBuilt.assertion fault have few trees h) (AreNotBuilt.css k) = absurd (have_or_refused have k)
  one_not_built (AreNotBuilt.assertion fault have few trees h) (AreNotBuilt.many again e) = absurd (few_or_many have again few e)
  one_not_built {b = b} (AreNotBuilt.assertion {sheets = sheets} {features = features} fault have few trees h) (AreNotBuilt.part again also k) =
      absurd (trees_or_refused sheets features trees (moved (λ s f p. IsFirstPartRefused raw s f p b) (one_split have again few also) k))
  one_not_built (AreNotBuilt.assertion fault have few trees h) (AreNotBuilt.assertion other again also more k) = one_fault raw.nodes raw.formula fault other laws h k

-- ---- bytes

module _ (laws : Laws) (bytes : List ℕ) where
  jobs_or_refusal : {jobs : List Job} {refusal : JobRefusal} → AreJobsOf bytes jobs → AreRefusedAs bytes refusal → ⊥
  jobs_or_refusal h (AreRefusedAs.file e) = no_Ok (sym h.read ∙ e)
  jobs_or_refusal {jobs = jobs} h (AreRefusedAs.later {raw = raw} e later) =
      built_or_refused laws raw (raw_page bytes raw e) (subst (λ said. AreBuilt said jobs) (same_Ok (sym h.read ∙ e)) h.built) later

  same_refusal : {a b : JobRefusal} → AreRefusedAs bytes a → AreRefusedAs bytes b → a ≡ b
  same_refusal (AreRefusedAs.file e) (AreRefusedAs.file f) = ap of_file (same_Err (sym e ∙ f))
  same_refusal (AreRefusedAs.file e) (AreRefusedAs.later f later) = absurd (no_Ok (sym f ∙ e))
  same_refusal (AreRefusedAs.later e later) (AreRefusedAs.file f) = absurd (no_Ok (sym e ∙ f))
  same_refusal {a = a} (AreRefusedAs.later e later) (AreRefusedAs.later {raw = raw} f other) =
      one_not_built laws raw (raw_page bytes raw f) (subst (λ said. AreNotBuilt said a) (same_Ok (sym e ∙ f)) later) other

  pub one_jobs : (a b : Result (List Job) JobRefusal) → ComeTo bytes a → ComeTo bytes b → a ≡ b
  one_jobs (Ok a) (Ok b) h k =
      let built = subst (λ said. AreBuilt said a) (same_Ok (sym h.read ∙ k.read)) h.built in
      ap Ok (one_built laws k.raw (raw_page bytes k.raw k.read) _ built k.built h.digests k.digests)
  one_jobs (Ok a) (Err b) h k = absurd (jobs_or_refusal h k)
  one_jobs (Err a) (Ok b) h k = absurd (jobs_or_refusal k h)
  one_jobs (Err a) (Err b) h k = ap Err (same_refusal h k)

  module _ (w s : ℕ) where
    job_or_refusal : {job : Job} {refusal : JobRefusal} → IsJobAt bytes w s job → IsRefusedAt bytes w s refusal → ⊥
    job_or_refusal h (IsRefusedAt.file e) = no_Ok (sym h.read ∙ e)
    job_or_refusal {job = job} h (IsRefusedAt.later {raw = raw} e later) =
        at_or_refused laws raw (raw_page bytes raw e) w s (subst (λ said. IsBuiltAt said w s job) (same_Ok (sym h.read ∙ e)) h.built) later

    same_refusal_at : {a b : JobRefusal} → IsRefusedAt bytes w s a → IsRefusedAt bytes w s b → a ≡ b
    same_refusal_at (IsRefusedAt.file e) (IsRefusedAt.file f) = ap of_file (same_Err (sym e ∙ f))
    same_refusal_at (IsRefusedAt.file e) (IsRefusedAt.later f later) = absurd (no_Ok (sym f ∙ e))
    same_refusal_at (IsRefusedAt.later e later) (IsRefusedAt.file f) = absurd (no_Ok (sym e ∙ f))
    same_refusal_at {a = a} (IsRefusedAt.later e later) (IsRefusedAt.later {raw = raw} f other) =
        one_not_at laws raw (raw_page bytes raw f) w s (subst (λ said. IsNotBuiltAt said w s a) (same_Ok (sym e ∙ f)) later) other

    pub one_job : (a b : Result Job JobRefusal) → ComesTo bytes w s a → ComesTo bytes w s b → a ≡ b
    one_job (Ok a) (Ok b) h k =
        let built = subst (λ said. IsBuiltAt said w s a) (same_Ok (sym h.read ∙ k.read)) h.built in
        ap Ok (one_at laws k.raw (raw_page bytes k.raw k.read) w s built k.built (h.digest ∙ sym k.digest))
    one_job (Ok a) (Err b) h k = absurd (job_or_refusal h k)
    one_job (Err a) (Ok b) h k = absurd (job_or_refusal k h)
    one_job (Err a) (Err b) h k = ap Err (same_refusal_at h k)
