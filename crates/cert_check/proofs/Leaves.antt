-- From a calc over which a leaf was laid out to the verdict on the leaf.
use Rattle.std.proofs.Common.{◌≡◌, ℕ, ◌-◌, ◌<◌, ◌≤◌, Bool, true, false, not, List, length, take, Option, Some, None, refl, sym, ◌∙◌, ap, subst, arith, take_all, IsTrue}
use Rattle.std.specs.Prelude.{slice_get}
use Rattle.std.specs.Option.{option_map_or}
use Rattle.std.proofs.lemmas.Bool.{and_parts}
use Rattle.viz_base.specs.Numbers.{Rose}
use Rattle.viz_base.specs.declared.jobs.Job.{Job}
use Rattle.viz_calc.specs.World.{Reading}
use Rattle.viz_calc.specs.State.{Kept, Grows}
use Rattle.lin_proof.specs.Form.{Form}
use Rattle.lin_proof.specs.declared.derivation.Answer.{Answer}
use Rattle.cert_semantics.specs.Paths.{Path, form_of}
use Rattle.cert_semantics.specs.Facts.{facts}
use Rattle.cert_semantics.specs.Shapes.{same_row}
use Rattle.cert_semantics.specs.Derived.{AreRefuted}
use Rattle.cert_semantics.proofs.FitDefs.{decides_same_row}
use Rattle.sym_calc.specs.declared.floors.Floor.{Floor}
use Rattle.sym_calc.specs.declared.sym.Sym.{Sym}
use Rattle.sym_calc.specs.declared.troubles.Trouble.{Trouble}
use Rattle.sym_calc.specs.declared.troubles.Trouble.TheVariants as of_trouble
use Rattle.sym_calc.specs.Calc.{facts_of, named_of, state_of}
use Rattle.sym_calc.specs.declared.paths.Origin.{Origin}
use Rattle.sym_calc.specs.Floors.{floors_of}
use Rattle.sym_calc.specs.History.{are_fit, are_right, is_wrong, is_to_another, is_accounted}
use Rattle.sym_calc.specs.Kept.{reading_by, kept_is_open}
use Rattle.sym_calc.specs.Knowledge.{is_kept}
use Rattle.sym_calc.proofs.Along.{kept_are_those}
use Rattle.sym_calc.proofs.Refuted.{right_is_refuted, wrong_is_fault}
use Rattle.sym_calc.proofs.Tagged.{AreSame, tag_same}
use Rattle.cert_check.specs.declared.verdicts.Verdict.TheVariants.{Accepted, Rejected}
use Rattle.cert_check.specs.declared.verdicts.Reject.TheVariants.{Unmet, Left, Coeff}
use Rattle.cert_check.specs.Truths.{is_true_at}
use Rattle.cert_check.specs.Truths.{IsThroughout}
use Rattle.cert_check.specs.Leaves.{StandsOver, IsWrongAnswer, IsToAnother, IsLeafFault, node_in, IsLeafVerdict, reject_of, left_of}

-- ---- what a calc accounts for, below a path

module _ (job : Job) (path : Path) (own : List Floor) (tape : List Answer) (taken : ℕ) (fit : are_fit (form_of path) (floors_of path) own ≡ true) where
  right_to : (answers : List Answer) → are_right (form_of path) (facts job.range path) (floors_of path) own 0 answers ≡ true → AreRefuted job.range path answers
  right_to answers e = right_is_refuted job.range path own answers fit e

  right_taken : is_accounted (form_of path) (facts job.range path) (floors_of path) own tape taken None ≡ true → AreRefuted job.range path (take taken tape)
  unfolding is_accounted
  right_taken e = right_to (take taken tape) e

  wrong_at : (number line : ℕ) → AreRefuted job.range path (take number tape) → (o : Option Answer) → slice_get tape number ≡ o
      → option_map_or (is_wrong (form_of path) (facts job.range path) (floors_of path) own line) o false ≡ true → IsWrongAnswer job.range path tape number line
  wrong_at number line before None is e = absurd (cc)
  wrong_at number line before (Some a) is e =
      record { answer = a; is_answer = is; before = before; wrong = wrong_is_fault job.range path own a line fit e }

  another_at : (number : ℕ) (ours theirs : Form) → AreRefuted job.range path (take number tape) → (o : Option Answer) → slice_get tape number ≡ o
      → option_map_or (is_to_another ours theirs) o false ≡ true → IsToAnother job.range path tape number ours theirs
  another_at number ours theirs before None is e = absurd (cc)
  another_at number ours theirs before (Some a) is e =
      let both = and_parts (same_row a.row theirs) (not (same_row ours theirs)) e in
      record {
        answer = a;
        is_answer = is;
        before = before;
        theirs_is = (decides_same_row a.row theirs).0 both.0;
        other = λ same. apart (same_row ours theirs) ((decides_same_row ours theirs).1 same) both.1;
      }
    where
      apart : (b : Bool) → b ≡ true → not b ≡ true → ⊥
      apart true e f = absurd (cc)
      apart false e f = absurd (cc)

  fault_told : (n : ℕ) (t : Trouble) → is_accounted (form_of path) (facts job.range path) (floors_of path) own tape taken (Some t) ≡ true → IsLeafFault job path tape (reject_of n t)
  unfolding is_accounted
  fault_told n (of_trouble.Line number line) e =
      let both = and_parts (are_right (form_of path) (facts job.range path) (floors_of path) own 0 (take number tape))
      (option_map_or (is_wrong (form_of path) (facts job.range path) (floors_of path) own line) (slice_get tape number) false) e in
      wrong_at number line (right_to (take number tape) both.0) (slice_get tape number) refl both.1
  fault_told n (of_trouble.Differs number ours theirs) e =
      let both = and_parts (are_right (form_of path) (facts job.range path) (floors_of path) own 0 (take number tape))
      (option_map_or (is_to_another ours theirs) (slice_get tape number) false) e in
      another_at number ours theirs (right_to (take number tape) both.0) (slice_get tape number) refl both.1
  fault_told n of_trouble.Short e = right_to tape e

node_told : (n : ℕ) (t : Trouble) → node_in (reject_of n t) ≡ n
node_told n (of_trouble.Line number line) = refl
node_told n (of_trouble.Differs number ours theirs) = refl
node_told n of_trouble.Short = refl

-- ---- a calc before and after

module _ (job : Job) (old new : Sym) (grows : Grows (state_of old) (state_of new)) where
  -- the path and the tape are the same
  same : AreSame new.path.now.origin.form new.path.now.facts new.path.now.floors new.tape.now old.path.now.origin.form old.path.now.facts old.path.now.floors old.tape.now
  same = tag_same new.path.now.origin.form new.path.now.facts new.path.now.floors new.tape.now old.path.now.origin.form old.path.now.facts old.path.now.floors old.tape.now (ap (λ (k : Kept). k.coeffs) grows.kept)

  module _ (path : Path) (over : StandsOver job.range path old) where
    form_is : new.path.now.origin.form ≡ form_of path
    form_is = same.form_is ∙ ap (λ (o : Origin). o.form) over.origin_is

    facts_are : new.path.now.facts ≡ facts job.range path
    facts_are = same.facts_are ∙ over.facts_are

    floors_are : new.path.now.floors ≡ floors_of path
    floors_are = same.floors_are ∙ over.floors_are

    fit : are_fit (form_of path) (floors_of path) new.floors ≡ true
    fit = (λ i. are_fit (sym form_is i) (sym floors_are i) new.floors) ∙ new.fit

    accounted : (trouble : Option Trouble) → new.trouble ≡ trouble
        → is_accounted (form_of path) (facts job.range path) (floors_of path) new.floors old.tape.now new.taken trouble ≡ true
    accounted trouble is =
        (λ i. is_accounted (sym form_is i) (sym facts_are i) (sym floors_are i) new.floors (sym same.tape_is i) new.taken (sym is i)) ∙ new.accounted

    pub taken_right : new.trouble ≡ None → AreRefuted job.range path (take new.taken old.tape.now)
    taken_right none = right_taken job path new.floors old.tape.now new.taken fit (accounted None none)

    -- at each world of the path the calc has an open reading
    throughout : (wanted : Bool) → ((e : Reading) → IsTrue ((state_of new).is_open e) → wanted ≡ is_true_at job e.world) → IsThroughout job path wanted
    throughout wanted value world in_range on_path =
        let met = (kept_are_those job.range path over.formed over.sound over.entailed world).1 (in_range, on_path) in
        let kept_old : is_kept old.path.now.origin (facts_of old) (named_of old) world ≡ true = over.kept world ∙ met in
        let kept_new : is_kept new.path.now.origin (facts_of new) (named_of new) world ≡ true = ap (λ (k : Kept). k.worlds world) grows.kept ∙ kept_old in
        sym (value (reading_by new.path.now.origin.form (named_of new) world) (kept_is_open new.path.now.origin (facts_of new) (named_of new) world kept_new))

    pub leaf_told : (n : ℕ) (t : Trouble) → new.trouble ≡ Some t → IsLeafVerdict job n path old.tape.now (Rejected (reject_of n t))
    leaf_told n t is = (node_told n t, fault_told job path new.floors old.tape.now new.taken fit n t (accounted (Some t) is))

    pub leaf_accepted : (n : ℕ) → ((e : Reading) → IsTrue ((state_of new).is_open e) → true ≡ is_true_at job e.world) → new.trouble ≡ None → left_of new ≡ 0
        → IsLeafVerdict job n path old.tape.now Accepted
    leaf_accepted n value none left =
        let most : length old.tape.now ≤ new.taken = let e = ap (λ (t : List Answer). length t) same.tape_is in omega arith in
        (throughout true value, subst (AreRefuted job.range path) (take_all new.taken old.tape.now most) (taken_right none))

    pub leaf_left : (n count : ℕ) → ((e : Reading) → IsTrue ((state_of new).is_open e) → true ≡ is_true_at job e.world) → new.trouble ≡ None → count ≡ left_of new → 0 < count
        → IsLeafVerdict job n path old.tape.now (Rejected (Left n count))
    leaf_left n count value none is some =
        let e = ap (λ (t : List Answer). length t) same.tape_is in
        let first : new.taken ≡ length old.tape.now - count = omega arith in (
          refl,
          record {
            holds = throughout true value;
            some = some;
            most = omega arith;
            right = subst (λ m. AreRefuted job.range path (take m old.tape.now)) first (taken_right none);
          },
        )

    pub leaf_unmet : (n : ℕ) → ((e : Reading) → IsTrue ((state_of new).is_open e) → false ≡ is_true_at job e.world)
        → IsLeafVerdict job n path old.tape.now (Rejected (Unmet n))
    leaf_unmet n value = (refl, throughout false value)

    pub leaf_coeff : (n : ℕ) → new.trouble ≡ None → Rose old.coeffs new.coeffs → IsLeafVerdict job n path old.tape.now (Rejected (Coeff n))
    leaf_coeff n none counted =
        (refl, record { before = old; stands = over; tape_is = refl; after = new; grows = grows; untroubled = none; counted = counted })
