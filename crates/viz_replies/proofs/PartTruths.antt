-- The jobs of the parts of a range, and the job at a world: each part's job is that at the worlds of the part, with its
-- guard, and says nothing of other worlds.
use Rattle.std.proofs.Common.{◌≡◌, ◌∙◌, ◌<◌, ◌≤◌, ◌^◌, ◌+◌, ◌||◌, ◌&&◌, ltb-false, not, ℕ, Bool, true, false, List, [], ◌∷◌, length, cond, Result, Ok, Err, refl, sym, ap, subst, arith}
use Rattle.std.specs.Prelude.{count_by, nat_lt}
use Rattle.std.specs.List.{AllByRecursion, list_any}
use Rattle.std.proofs.lemmas.Bool.{or_left, or_right}
use Rattle.std.proofs.lemmas.List.{length-map}
use Rattle.std.proofs.lemmas.List.Sums.{sum_by-cons}
use Rattle.viz_base.specs.Jobs.{IsRange}
use Rattle.viz_base.specs.declared.formulas.Formula.{Formula}
use Rattle.viz_base.specs.declared.jobs.Job.{Job}
use Rattle.viz_base.specs.declared.sheets.Feature.{Feature}
use Rattle.viz_base.specs.declared.sheets.Sheet.{Sheet}
use Rattle.viz_base.specs.declared.worlds.Rect.{Rect}
use Rattle.viz_base.specs.declared.worlds.World.{World}
use Rattle.viz_base.specs.Formulas.{has_small_terms, is_bound_in}
use Rattle.viz_base.proofs.Sameness.{same_Ok}
use Rattle.viz_base.specs.Worlds.{IsInRange}
use Rattle.logic_semantics.specs.Scenes.{scene_of}
use Rattle.logic_semantics.specs.Truth.{truth}
use Rattle.cert_check.specs.Truths.{is_true_at, rendering_of}
use Rattle.page_json.specs.Jobs.{Raw}
use Rattle.page_boxes.specs.Trees.{lists_of}
use Rattle.page_media.specs.Features.{asked, features_of}
use Rattle.page_media.specs.Laws.{AreAll, ChosenAreMet, EachPartHasAWorld, EachWorldHasOnePart, FeaturesAreAll, GuardedIsIf, SameSignsAreEqual}
use Rattle.page_media.specs.Parts.{few_parts_of, parts_of, same_signs, signs_at}
use Rattle.page_media.specs.Queries.{is_met, met_sheets}
use Rattle.page_media.proofs.GuardTruths.{guarded-bound, guarded-small}
use Rattle.page_build.specs.Jobs.{AreBuilt, ArePartsOf, HaveFeatures, IsBuiltAt, IsMade, IsPartOf, chosen_by}
use Rattle.viz_replies.specs.Parts.{HaveDigest, IsToldAt, PartsTell, are_true_at}

pub record PartLaws : Type 0 where
  pub all : FeaturesAreAll
  pub met : ChosenAreMet
  pub one : EachWorldHasOnePart
  pub some : EachPartHasAWorld
  pub same : SameSignsAreEqual
  pub if_part : GuardedIsIf

-- ---- jobs without their guard

-- a job with another formula, which keeps the facts that a job keeps
abbrev unguarded : (job : Job) (f : Formula) → is_bound_in f 0 ≡ true → has_small_terms f ≡ true → Job
unguarded job f bound small = record {
  digest = job.digest;
  form = job.form;
  range = job.range;
  tree = job.tree;
  formula = f;
  ok = record {
    formed = job.ok.formed;
    in_range = job.ok.in_range;
    few_boxes = job.ok.few_boxes;
    few_characters = job.ok.few_characters;
    reach = job.ok.reach;
    bound = bound;
    small_terms = small;
  };
}

-- ---- features and parts

-- the features that are told are all that the sheets ask for
all_features : FeaturesAreAll → (sheets : List Sheet) (features : List Feature) → features_of sheets ≡ Ok features → features ≡ asked sheets
all_features all sheets features e =
    let told : AreAll {P = ℕ × ℕ} (asked sheets) (Ok features) = rw e at (all sheets) in
    told.0

abbrev few_or_err : ℕ → List (List Bool) → Bool → Result (List (List Bool)) ℕ
few_or_err count all many = cond many (Err count) (Ok all)

few_are : (count : ℕ) (all parts : List (List Bool)) (many : Bool) → few_or_err count all many ≡ Ok parts → (parts ≡ all) × (many ≡ false)
few_are count all parts true e = absurd (cc)
few_are count all parts false e = (sym (same_Ok e), refl)

parts_are : (features : List Feature) (range : Rect) (parts : List (List Bool)) → few_parts_of features range ≡ Ok parts
    → (parts ≡ parts_of features range) × (nat_lt 12 (length (parts_of features range)) ≡ false)
parts_are features range parts e =
    few_are (length (parts_of features range)) (parts_of features range) parts (nat_lt 12 (length (parts_of features range))) e

-- ---- members

-- what is so of each member is so of all
all_members : (P : List Bool → Type 0) (equal : SameSignsAreEqual) (xs : List (List Bool)) → ((x : List Bool) → list_any (same_signs x) xs ≡ true → P x) → AllByRecursion P xs
all_members P equal [] h = tt
all_members P equal (x ∷ xs) h = (
  h x (or_left (same_signs x x) (list_any (same_signs x) xs) ((equal x x).1 refl)),
  all_members P equal xs (λ y is. h y (or_right (same_signs y x) (list_any (same_signs y) xs) is)),
)

counted : (test : List Bool → Bool) (x : List Bool) (xs : List (List Bool)) (b : Bool) → test x ≡ b → count_by test (x ∷ xs) ≡ cond b 1 0 + count_by test xs
counted test x xs b is = sum_by-cons (λ s. cond (test s) 1 0) x xs ∙ ap (λ t. cond t 1 0 + count_by test xs) is

abbrev HaveLength : List Feature → List (List Bool) → Type 0
HaveLength features parts = AllByRecursion (λ signs. length signs ≡ length features) parts

-- each part's signs are as many as the features
as_many_signs : PartLaws → (features : List Feature) (range : Rect) → range.hl ≤ range.hh → HaveLength features (parts_of features range)
as_many_signs laws features range heights =
    all_members (λ signs. length signs ≡ length features) laws.same (parts_of features range)
    (λ signs member. let found = laws.some features range signs heights member in ap length found.2 ∙ length-map features (is_met found.0.w found.0.s))

-- other signs are other from both sides
other_signs : SameSignsAreEqual → (a b : List Bool) → same_signs a b ≡ false → same_signs b a ≡ false
other_signs equal a b other = by_test (same_signs b a) refl
  where
    by_test : (t : Bool) → same_signs b a ≡ t → t ≡ false
    by_test false is = refl
    by_test true is = let alike : same_signs a b ≡ true = (equal a b).1 (sym ((equal b a).0 is)) in absurd (cc)

-- ---- at a world of the range

module _ (laws : PartLaws) (raw : Raw) (range : IsRange raw.range) (digest : List ℕ) (world : World) (inside : IsInRange raw.range world) (sheets : List Sheet) (features : List Feature)
    (have : HaveFeatures raw.css sheets features)
  where
    abbrev signs_there : List Bool
    signs_there = signs_at features world.w world.s

    small_width : world.w < 2 ^ 32
    small_width =
        let most = range.width_most in
        let in_it = inside.width_most in
        omega arith

    -- the rules of the part are those that are met
    chosen_there : (signs : List Bool) → signs ≡ signs_there → chosen_by features signs sheets ≡ met_sheets (is_met world.w world.s) sheets
    chosen_there signs same =
        ap (λ some. chosen_by features some sheets) same
        ∙ (ap (λ fs. chosen_by fs (signs_at fs world.w world.s) sheets) (all_features laws.all sheets features have.asked) ∙ laws.met sheets world.w world.s)

    -- a part's formula is the assertion in the part, and true elsewhere
    part_truth : (signs : List Bool) (job : Job) (h : IsPartOf raw sheets features signs job) → length signs ≡ length features
        → is_true_at job world ≡ (not (same_signs signs signs_there) || truth (scene_of (rendering_of job world) world) h.written)
    part_truth signs job h as_many =
        ap (λ f. truth (scene_of (rendering_of job world) world) f) h.guard
        ∙ laws.if_part features signs h.written (rendering_of job world) world as_many small_width

    elsewhere : (signs : List Bool) (job : Job) → IsPartOf raw sheets features signs job → length signs ≡ length features → same_signs signs_there signs ≡ false → is_true_at job world ≡ true
    elsewhere signs job h as_many other =
        part_truth signs job h as_many ∙ ap (λ b. not b || truth (scene_of (rendering_of job world) world) h.written) (other_signs laws.same signs_there signs other)

    -- the job of the part in which the world is, without its guard
    record IsThere (job : Job) : Type 0 where
      there : Job
      digest_is : there.digest ≡ job.digest
      built : IsBuiltAt raw world.w world.s there
      truth_is : is_true_at job world ≡ is_true_at there world

    part_there : (signs : List Bool) (job : Job) → IsPartOf raw sheets features signs job → signs ≡ signs_there → IsThere job
    part_there signs job h same =
        let bound : is_bound_in h.written 0 ≡ true = sym (guarded-bound features signs h.written) ∙ (sym (ap (λ f. is_bound_in f 0) h.guard) ∙ job.ok.bound) in
        let small : has_small_terms h.written ≡ true = sym (guarded-small features signs h.written) ∙ (sym (ap has_small_terms h.guard) ∙ job.ok.small_terms) in
        let as_many : length signs ≡ length features = ap length same ∙ length-map features (is_met world.w world.s) in
        let alike : same_signs signs signs_there ≡ true = (laws.same signs signs_there).1 same in
        let met : IsMade raw (met_sheets (is_met world.w world.s) sheets) (lists_of job.tree) h.written =
        subst (λ some. IsMade raw some (lists_of job.tree) h.written) (chosen_there signs same) h.made in
        record {
          there = unguarded job h.written bound small;
          digest_is = refl;
          built = record { form = h.form; range = h.range; sheets = sheets; features = features; have = have; made = met };
          truth_is = part_truth signs job h as_many ∙ ap (λ b. not b || truth (scene_of (rendering_of job world) world) h.written) alike;
        }

    -- jobs of parts in none of which the world is say nothing of it
    all_elsewhere : {parts : List (List Bool)} {jobs : List Job} → ArePartsOf raw sheets features parts jobs → HaveLength features parts → count_by (same_signs signs_there) parts ≡ 0
        → are_true_at jobs world ≡ true
    all_elsewhere ArePartsOf.nothing lengths none = refl
    all_elsewhere (ArePartsOf.first {signs = signs} {job = job} {parts = parts} {jobs = jobs} h hs) lengths none = by_test (all_elsewhere hs lengths.1) (same_signs signs_there signs) refl
      where
        by_test : (count_by (same_signs signs_there) parts ≡ 0 → are_true_at jobs world ≡ true) → (b : Bool) → same_signs signs_there signs ≡ b → are_true_at (job ∷ jobs) world ≡ true
        by_test later true alike = let here = counted (same_signs signs_there) signs parts true alike in absurd (omega (arith, here, none))
        by_test later false other =
            let here = counted (same_signs signs_there) signs parts false other in
            let rest : count_by (same_signs signs_there) parts ≡ 0 = omega (arith, here, none) in
            rw (elsewhere signs job h lengths.0 other) (later rest)

    and_true : (a b : Bool) → b ≡ true → (a && b) ≡ a
    and_true true b is = is
    and_true false b is = refl

    -- those of parts of which one has the world say what the job at the world does
    told_at : {parts : List (List Bool)} {jobs : List Job} → ArePartsOf raw sheets features parts jobs → HaveLength features parts → HaveDigest digest jobs → count_by (same_signs signs_there) parts ≡ 1
        → IsToldAt raw digest jobs world
    told_at ArePartsOf.nothing lengths digests one = absurd (omega arith)
    told_at (ArePartsOf.first {signs = signs} {job = job} {parts = parts} {jobs = jobs} h hs) lengths digests one = by_test (told_at hs lengths.1 digests.1) (same_signs signs_there signs) refl
      where
        by_test : (count_by (same_signs signs_there) parts ≡ 1 → IsToldAt raw digest jobs world) → (b : Bool) → same_signs signs_there signs ≡ b → IsToldAt raw digest (job ∷ jobs) world
        by_test later true alike =
            let here = counted (same_signs signs_there) signs parts true alike in
            let rest : count_by (same_signs signs_there) parts ≡ 0 = omega (arith, here, one) in
            let found = part_there signs job h (sym ((laws.same signs_there signs).0 alike)) in
            record {
              job = found.there;
              digest_is = found.digest_is ∙ digests.0;
              built = found.built;
              truth = and_true (is_true_at job world) (are_true_at jobs world) (all_elsewhere hs lengths.1 rest) ∙ found.truth_is;
            }
        by_test later false other =
            let here = counted (same_signs signs_there) signs parts false other in
            let rest : count_by (same_signs signs_there) parts ≡ 1 = omega (arith, here, one) in
            let found = later rest in
            record {
              job = found.job;
              digest_is = found.digest_is;
              built = found.built;
              truth = ap (λ b. b && are_true_at jobs world) (elsewhere signs job h lengths.0 other) ∙ found.truth;
            }

-- ---- over the range

pub ranges_of : {raw : Raw} {sheets : List Sheet} {features : List Feature} {parts : List (List Bool)} {jobs : List Job} → ArePartsOf raw sheets features parts jobs
    → AllByRecursion (λ (job : Job). job.range ≡ raw.range) jobs
ranges_of ArePartsOf.nothing = tt
ranges_of (ArePartsOf.first h hs) = (h.range, ranges_of hs)

lengths_of : {raw : Raw} {sheets : List Sheet} {features : List Feature} {parts : List (List Bool)} {jobs : List Job} → ArePartsOf raw sheets features parts jobs → length jobs ≡ length parts
lengths_of ArePartsOf.nothing = refl
lengths_of (ArePartsOf.first h hs) = let rest = lengths_of hs in omega arith

some_part : (test : List Bool → Bool) (parts : List (List Bool)) → count_by test parts ≡ 1 → 0 < length parts
some_part test [] one = absurd (omega arith)
some_part test (x ∷ xs) one = omega arith

part_count : EachWorldHasOnePart → (raw : Raw) (jobs : List Job) → IsRange raw.range → AreBuilt raw jobs → (0 < length jobs) × (length jobs ≤ 12)
part_count one raw jobs range b =
    let parts = parts_are b.features raw.range b.parts b.few in
    let same = lengths_of b.each in
    let number = ap length parts.0 in
    let world : World = record { w = raw.range.wl; s = raw.range.sl; h = raw.range.hl } in
    let inside : IsInRange raw.range world = record {
      width_least = omega arith;
      width_most = range.widths;
      size_least = omega arith;
      size_most = range.sizes;
      height_least = omega arith;
      height_most = range.heights;
    } in
    let some = some_part (same_signs (signs_at b.features world.w world.s)) (parts_of b.features raw.range) (one b.features raw.range world inside) in
    let few = ltb-false 12 (length (parts_of b.features raw.range)) parts.1 in
    (omega arith, omega arith)

pub all_told : PartLaws → PartsTell
all_told laws raw digest jobs range digests b =
    let count = part_count laws.one raw jobs range b in
    let parts = parts_are b.features raw.range b.parts b.few in
    let lengths : HaveLength b.features b.parts = subst (HaveLength b.features) (sym parts.0) (as_many_signs laws b.features raw.range range.heights) in
    record {
      some = count.0;
      few = count.1;
      ranges = ranges_of b.each;
      told = λ world inside. (let one : count_by (same_signs (signs_at b.features world.w world.s)) b.parts ≡ 1 =
          ap (count_by (same_signs (signs_at b.features world.w world.s))) parts.0 ∙ laws.one b.features raw.range world inside in
          told_at laws raw range digest world inside b.sheets b.features b.have b.each lengths digests one);
    }
