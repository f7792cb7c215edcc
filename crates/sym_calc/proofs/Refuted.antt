-- From what a calc did below a path to what a leaf of a certificate is to show.
use Rattle.std.proofs.Common.{◌≡◌, ℕ, zero, suc, ◌+◌, ◌≤◌, ◌==◌, ℤ, pos, Bool, true, false, not, ◌&&◌, ◌||◌, List, [], ◌∷◌, ◌++◌, map, length, take, drop, Option, Some, None, refl, sym, ◌∙◌, ap, subst, arith, append_assoc, append-nil}
use Rattle.std.specs.Ordering.{int_eq}
use Rattle.std.specs.Option.{option_map_or}
use Rattle.std.specs.List.{list_any}
use Rattle.std.specs.Int.Signed.{lt_z}
use Rattle.std.proofs.Math.Bool.{or-false, or_comm}
use Rattle.std.proofs.lemmas.Bool.{and_parts}
use Rattle.std.proofs.lemmas.Bool.Decides.{nat_tests}
use Rattle.std.proofs.lemmas.List.Folds.{list_any-append}
use Rattle.viz_base.specs.declared.worlds.Rect.{Rect}
use Rattle.lin_proof.specs.Form.{Form}
use Rattle.lin_proof.specs.declared.derivation.Answer.{Answer}
use Rattle.lin_proof.specs.Derivations.{are_declared, first_fault}
use Rattle.cert_semantics.specs.Axes.{axis_count}
use Rattle.cert_semantics.specs.Paths.{def, first, second, lemma, Path as Steps, root, ◌▸◌, form_of, variables}
use Rattle.cert_semantics.specs.Facts.{step_facts, facts}
use Rattle.cert_semantics.specs.Nodes.{names}
use Rattle.cert_semantics.specs.Shapes.{has_variable, has_remainders, same_row, is_named, is_shaped}
use Rattle.cert_semantics.specs.Derived.{below_floors, AreFloors, denial, IsRefuted, AreRefuted}
use Rattle.sym_calc.specs.declared.floors.Floor.{Floor}
use Rattle.sym_calc.specs.Floors.{same_floor, floors_of}
use Rattle.sym_calc.specs.Knowledge.{contrary}
use Rattle.sym_calc.specs.History.{facts_from, is_fit, are_fit, fault_below, are_right, is_wrong}
use Rattle.sym_calc.specs.Laws.{IsFaultBelow, RightIsRefuted, WrongIsFault}
use Rattle.sym_calc.proofs.Along.{variables_of}
use Rattle.sym_calc.proofs.Histories.{first_right, any_met}

-- ---- a fit floor is that of a well shaped def

pub named_is : (f : Floor) (steps : Steps) → is_named f.row f.by steps ≡ list_any (same_floor f) (floors_of steps)
named_is f (root form) = refl
named_is f (def row d ▸ outer) =
    let rest = named_is f outer in
    let here = same_floor f (record { row = row; by = d }) in
    let others = list_any (same_floor f) (floors_of outer) in
    (λ i. (same_row f.row row && int_eq f.by d) || rest i)
    ∙ or_comm (same_row f.row row && int_eq f.by d) others
    ∙ (λ i. others || sym (or-false (same_row f.row row && int_eq f.by d)) i)
    ∙ sym (list_any-append (same_floor f) (floors_of outer) (record { row = row; by = d } ∷ []))
named_is f (first row ▸ outer) = named_is f outer
named_is f (second row ▸ outer) = named_is f outer
named_is f (lemma row ▸ outer) = named_is f outer

fit_shaped : (range : Rect) (s : Steps) (f : Floor) → is_fit (form_of s) (floors_of s) f ≡ true → is_shaped range s (names f.row f.by) ≡ true
fit_shaped range s f fit =
    (λ i. are_declared (variables_of s i) f.row.terms && has_variable f.row && lt_z (pos 1) f.by && has_remainders f.by f.row && not (named_is f s i)) ∙ fit

-- ---- the steps below a path that floors make

abbrev pairs : List Floor → List (Form × ℤ)
pairs fs = map (λ f. (f.row, f.by)) fs

fit_floors : (range : Rect) (path : Steps) (fs : List Floor) → are_fit (form_of path) (floors_of path) fs ≡ true → AreFloors range path (pairs fs)
unfolding are_fit
fit_floors range path [] e = tt
fit_floors range path (f ∷ fs) e =
    let both = and_parts (is_fit (form_of path) (floors_of path) f) (are_fit (form_of path) (floors_of path ++ f ∷ []) fs) e in
    (fit_shaped range path f both.0, fit_floors range (def f.row f.by ▸ path) fs both.1)

floors_below : (path : Steps) (fs : List Floor) → floors_of (below_floors path (pairs fs)) ≡ floors_of path ++ fs
floors_below path [] = sym (append-nil (floors_of path))
floors_below path (f ∷ fs) = floors_below (def f.row f.by ▸ path) fs ∙ append_assoc (floors_of path) (f ∷ []) fs

facts_below : (range : Rect) (path : Steps) (fs : List Floor) → facts range (below_floors path (pairs fs)) ≡ facts range path ++ facts_from (variables path) fs
facts_below range path [] = sym (append-nil (facts range path))
facts_below range path (f ∷ fs) =
    facts_below range (def f.row f.by ▸ path) fs
    ∙ append_assoc (facts range path) (step_facts (variables path) (def f.row f.by)) (facts_from (variables path + 1) fs)

form_below : (path : Steps) (ts : List (Form × ℤ)) → form_of (below_floors path ts) ≡ form_of path
form_below path [] = refl
form_below path (t ∷ ts) = form_below (def t.0 t.1 ▸ path) ts

abbrev fault_on : Rect → Steps → Answer → Option ℕ
fault_on range path a = first_fault (facts range (denial a.yes a.row ▸ path)) (variables path) a.why

denied_facts : (range : Rect) (path : Steps) (yes : Bool) (row : Form) → facts range (denial yes row ▸ path) ≡ facts range path ++ contrary yes row ∷ []
denied_facts range path true row = refl
denied_facts range path false row = refl

fault_at : (range : Rect) (path : Steps) (fs : List Floor) (a : Answer) → fault_on range (below_floors path (pairs fs)) a ≡ fault_below (form_of path) (facts range path) (floors_of path) fs a
fault_at range path fs a =
    let all = denied_facts range (below_floors path (pairs fs)) a.yes a.row
    ∙ (λ i. facts_below range path fs i ++ contrary a.yes a.row ∷ [])
    ∙ (λ i. facts range path ++ facts_from (variables_of path i) fs ++ contrary a.yes a.row ∷ []) in
    let count = variables_of (below_floors path (pairs fs)) ∙ (λ i. length (floors_below path fs i) + axis_count (form_below path (pairs fs) i)) in
    λ i. first_fault (all i) (count i) a.why

-- ---- floors in two parts

floors_first : (range : Rect) (path : Steps) (xs ys : List (Form × ℤ)) → AreFloors range path (xs ++ ys) → AreFloors range path xs
floors_first range path [] ys h = tt
floors_first range path (x ∷ xs) ys h = (h.0, floors_first range (def x.0 x.1 ▸ path) xs ys h.1)

floors_later : (range : Rect) (path : Steps) (xs ys : List (Form × ℤ)) → AreFloors range path (xs ++ ys) → AreFloors range (below_floors path xs) ys
floors_later range path [] ys h = h
floors_later range path (x ∷ xs) ys h = floors_later range (def x.0 x.1 ▸ path) xs ys h.1

below_both : (path : Steps) (xs ys : List (Form × ℤ)) → below_floors path (xs ++ ys) ≡ below_floors (below_floors path xs) ys
below_both path [] ys = refl
below_both path (x ∷ xs) ys = below_both (def x.0 x.1 ▸ path) xs ys

-- those from the n-th on of the first m
between : ℕ → ℕ → List Floor → List Floor
between n m own = drop n (take m own)

split_at : (n m : ℕ) (own : List Floor) → n ≤ m → pairs (take n own) ++ pairs (between n m own) ≡ pairs (take m own)
unfolding between
split_at zero m own less = refl
split_at (suc n) zero own less = absurd (omega arith)
split_at (suc n) (suc m) [] less = refl
split_at (suc n) (suc m) (f ∷ fs) less = ap (λ ts. (f.row, f.by) ∷ ts) (split_at n m fs (omega arith))

split_whole : (m : ℕ) (own : List Floor) → pairs (take m own) ++ pairs (drop m own) ≡ pairs own
split_whole zero own = refl
split_whole (suc m) [] = refl
split_whole (suc m) (f ∷ fs) = ap (λ ts. (f.row, f.by) ∷ ts) (split_whole m fs)

module _ (range : Rect) (path : Steps) (own : List Floor) (fit : are_fit (form_of path) (floors_of path) own ≡ true) where
  some_floors : (m : ℕ) → AreFloors range path (pairs (take m own))
  some_floors m =
      floors_first range path (pairs (take m own)) (pairs (drop m own)) (subst (AreFloors range path) (sym (split_whole m own)) (fit_floors range path own fit))

  refuted_from : (n : ℕ) (answers : List Answer) → are_right (form_of path) (facts range path) (floors_of path) own n answers ≡ true → AreRefuted range (below_floors path (pairs (take n own))) answers
  refuted_from n [] e = tt
  refuted_from n (a ∷ answers) e =
      let h = first_right (form_of path) (facts range path) (floors_of path) own n a answers e in
      let all = split_at n h.at own h.least in
      let end = sym (below_both path (pairs (take n own)) (pairs (between n h.at own))) ∙ ap (below_floors path) all in (
        pairs (between n h.at own),
        floors_later range path (pairs (take n own)) (pairs (between n h.at own)) (subst (AreFloors range path) (sym all) (some_floors h.at)),
        subst (λ p. IsRefuted range p a) (sym end) (fault_at range path (take h.at own) a ∙ h.right),
        subst (λ p. AreRefuted range p answers) (sym end) (refuted_from h.at answers h.rest),
      )

  line_is : (o : Option ℕ) (line : ℕ) → option_map_or (λ wrong. wrong == line) o false ≡ true → o ≡ Some line
  line_is None line e = absurd (cc)
  line_is (Some l) line e = let same : l ≡ line = grind (arith, nat_tests) in ap Some same

  fault_of : (a : Answer) (line : ℕ) → is_wrong (form_of path) (facts range path) (floors_of path) own line a ≡ true → IsFaultBelow range path a line
  unfolding is_wrong
  fault_of a line e =
      let h = any_met (length own) (λ m. option_map_or (λ wrong. wrong == line) (fault_below (form_of path) (facts range path) (floors_of path) (take m own) a) false) e in
      record {
        floors = pairs (take h.at own);
        are_floors = some_floors h.at;
        wrong = fault_at range path (take h.at own) a ∙ line_is (fault_below (form_of path) (facts range path) (floors_of path) (take h.at own) a) line h.met;
      }

pub right_is_refuted : RightIsRefuted
right_is_refuted range path own answers fit right = refuted_from range path own fit 0 answers right

pub wrong_is_fault : WrongIsFault
wrong_is_fault range path own answer line fit wrong = fault_of range path own fit answer line wrong
