-- The way down to a node with one step more or less.
use Rattle.std.proofs.Common.{◌≡◌, ℕ, zero, suc, ◌-◌, ◌<◌, ◌≤◌, ℤ, pos, ◌<ℤ◌, Bool, true, false, not, ◌&&◌, List, [], ◌∷◌, ◌++◌, length, take, refl, sym, ◌∙◌, ap, arith, length-append, take_all}
use Rattle.std.specs.List.{list_any}
use Rattle.std.specs.Int.Signed.{lt_z}
use Rattle.std.proofs.lemmas.Int.{ints}
use Rattle.std.proofs.lemmas.Bool.{and_parts}
use Rattle.viz_base.specs.declared.worlds.Rect.{Rect}
use Rattle.lin_proof.specs.Form.{Form, denied}
use Rattle.cert_semantics.specs.Paths.{Step, def, first, second, lemma, Path, root, ◌▸◌, form_of, variables, is_declared, AreSound}
use Rattle.cert_semantics.specs.Facts.{step_facts, facts}
use Rattle.cert_semantics.specs.Derived.{AreEntailed}
use Rattle.cert_semantics.specs.Nodes.{names}
use Rattle.cert_semantics.specs.Shapes.{has_variable, has_remainders, is_named, is_shaped}
use Rattle.sym_calc.specs.declared.floors.Floor.{Floor}
use Rattle.sym_calc.specs.Floors.{same_floor, floors_of}
use Rattle.sym_calc.proofs.Refuted.{named_is}
use Rattle.cert_check.specs.declared.descent.Above.{Above}
use Rattle.cert_check.specs.declared.descent.Above.TheVariants.{Def, First, Second, Lemma}
use Rattle.cert_check.specs.steps.Descent.{step_of, path_from, path_of, are_sound, outer_of, is_below_def, is_below_row}
use Rattle.cert_check.specs.steps.Grids.{is_above_zero, are_above_zero}

-- ---- one step more

path_from-push : (path : Path) (above : List Above) (step : Above) → path_from path (above ++ step ∷ []) ≡ step_of step ▸ path_from path above
path_from-push path [] step = refl
path_from-push path (a ∷ above) step = path_from-push (step_of a ▸ path) above step

pub path_push : (form : ℕ) (above : List Above) (step : Above) → path_of form (above ++ step ∷ []) ≡ step_of step ▸ path_of form above
path_push form = path_from-push (root form)

pub after_push : (form : ℕ) (above now : List Above) (step : Above) → now ≡ above ++ step ∷ [] → path_of form now ≡ step_of step ▸ path_of form above
after_push form above now step is = ap (path_of form) is ∙ path_push form above step

-- the form of the path is the job's
form_from : (path : Path) (above : List Above) → form_of (path_from path above) ≡ form_of path
form_from path [] = refl
form_from path (a ∷ above) = form_from (step_of a ▸ path) above

pub form_is : (form : ℕ) (above : List Above) → form_of (path_of form above) ≡ form
form_is form = form_from (root form)

-- ---- the last step

pub record IsPushed (above : List Above) : Type 0 where
  pub front : List Above
  pub last : Above
  pub are : above ≡ front ++ last ∷ []

last_of : (a : Above) (above : List Above) → IsPushed (a ∷ above)
last_of a [] = record { front = []; last = a; are = refl }
last_of a (b ∷ above) = let h = last_of b above in record { front = a ∷ h.front; last = h.last; are = ap (λ l. a ∷ l) h.are }

pub below_def_pushed : (form : ℕ) (above : List Above) → is_below_def (path_of form above) ≡ true → IsPushed above
below_def_pushed form [] e = absurd (cc)
below_def_pushed form (a ∷ above) e = last_of a above

pub below_row_pushed : (form : ℕ) (above : List Above) → is_below_row (path_of form above) ≡ true → IsPushed above
below_row_pushed form [] e = absurd (cc)
below_row_pushed form (a ∷ above) e = last_of a above

pub take_front : {A : Type 0} (xs ys : List A) (n : ℕ) → n ≡ length xs → take n (xs ++ ys) ≡ xs
take_front [] [] zero e = refl
take_front [] (y ∷ ys) zero e = refl
take_front [] ys (suc n) e = absurd (omega arith)
take_front (x ∷ xs) ys zero e = absurd (omega arith)
take_front (x ∷ xs) ys (suc n) e = ap (λ l. x ∷ l) (take_front xs ys n (omega arith))

-- ---- sound steps

pub sound_is : (path : Path) → are_sound path ≡ true → AreSound path
sound_is (root form) e = tt
sound_is (def row d ▸ outer) e =
    let all = and_parts (is_declared outer row && lt_z (pos 0) d) (are_sound outer) e in
    let here = and_parts (is_declared outer row) (lt_z (pos 0) d) all.0 in
    let above = here.1 in
    ((here.0, omega (arith, ints, above)), sound_is outer all.1)
sound_is (first row ▸ outer) e = let both = and_parts (is_declared outer row) (are_sound outer) e in (both.0, sound_is outer both.1)
sound_is (second row ▸ outer) e = let both = and_parts (is_declared outer row) (are_sound outer) e in (both.0, sound_is outer both.1)
sound_is (lemma row ▸ outer) e = let both = and_parts (is_declared outer row) (are_sound outer) e in (both.0, sound_is outer both.1)

numbers_from : (path : Path) (above : List Above) → are_sound (path_from path above) ≡ true → are_above_zero above ≡ true
numbers_from path [] e = refl
numbers_from path (step ∷ above) e =
    let rest = numbers_from (step_of step ▸ path) above e in
    let here = here_by step (outer_sound (step_of step ▸ path) above e) in
    λ i. here i && rest i
  where
    outer_sound : (p : Path) (steps : List Above) → are_sound (path_from p steps) ≡ true → are_sound p ≡ true
    outer_sound p [] s = s
    outer_sound p (a ∷ steps) s = drop_step (step_of a) p (outer_sound (step_of a ▸ p) steps s)
      where
        drop_step : (s : Step) (q : Path) → are_sound (s ▸ q) ≡ true → are_sound q ≡ true
        drop_step (def row d) q f = (and_parts (is_declared q row && lt_z (pos 0) d) (are_sound q) f).1
        drop_step (first row) q f = (and_parts (is_declared q row) (are_sound q) f).1
        drop_step (second row) q f = (and_parts (is_declared q row) (are_sound q) f).1
        drop_step (lemma row) q f = (and_parts (is_declared q row) (are_sound q) f).1

    here_by : (a : Above) → are_sound (step_of a ▸ path) ≡ true → is_above_zero a ≡ true
    here_by (Def row d) s =
        (and_parts (is_declared path row) (lt_z (pos 0) d) (and_parts (is_declared path row && lt_z (pos 0) d) (are_sound path) s).0).1
    here_by (First row) s = refl
    here_by (Second row) s = refl
    here_by (Lemma row) s = refl

pub numbers_above_zero : (form : ℕ) (above : List Above) → are_sound (path_of form above) ≡ true → are_above_zero above ≡ true
numbers_above_zero form = numbers_from (root form)

-- ---- a well shaped def

pub record IsFitHere (path : Path) (row : Form) (d : ℤ) : Type 0 where
  pub declared : is_declared path row ≡ true
  pub above : pos 0 <ℤ d
  pub test : lt_z (pos 0) d ≡ true
  pub more : pos 1 <ℤ d
  pub remainders : has_remainders d row ≡ true
  pub new : list_any (same_floor (record { row = row; by = d })) (floors_of path) ≡ false

pub fit_here : (range : Rect) (path : Path) (row : Form) (d : ℤ) → is_shaped range path (names row d) ≡ true → IsFitHere path row d
fit_here range path row d e =
    let a = and_parts (is_declared path row && has_variable row && lt_z (pos 1) d && has_remainders d row) (not (is_named row d path)) e in
    let b = and_parts (is_declared path row && has_variable row && lt_z (pos 1) d) (has_remainders d row) a.0 in
    let c = and_parts (is_declared path row && has_variable row) (lt_z (pos 1) d) b.0 in
    let one = c.1 in
    let more : pos 1 <ℤ d = omega (arith, ints, one) in
    record {
      declared = (and_parts (is_declared path row) (has_variable row) c.0).0;
      above = omega (arith, ints, more);
      test = by_test (lt_z (pos 0) d) refl more;
      more = more;
      remainders = b.1;
      new = sym (named_is (record { row = row; by = d }) path) ∙ no_test (is_named row d path) a.1;
    }
  where
    by_test : (b : Bool) → lt_z (pos 0) d ≡ b → pos 1 <ℤ d → b ≡ true
    by_test true f more = refl
    by_test false f more = absurd (omega (arith, ints, f, more))

    no_test : (b : Bool) → not b ≡ true → b ≡ false
    no_test true f = absurd (cc)
    no_test false f = refl

-- ---- the way after a step is taken back

pub record IsLeft (form : ℕ) (range : Rect) (above : List Above) (more fewer : ℕ) : Type 0 where
  pub above_are : path_of form (take (length above - 1) above) ≡ outer_of (path_of form above)
  pub some : 0 < length above
  pub sound : are_sound (path_of form above) ≡ true → are_sound (outer_of (path_of form above)) ≡ true
  pub entailed : AreEntailed range (path_of form above) → AreEntailed range (outer_of (path_of form above))
  pub facts_most : more ≤ length (facts range (path_of form above))
  pub floors_most : fewer ≤ length (floors_of (path_of form above))
  pub facts_are : take (length (facts range (path_of form above)) - more) (facts range (path_of form above)) ≡ facts range (outer_of (path_of form above))
  pub floors_are : take (length (floors_of (path_of form above)) - fewer) (floors_of (path_of form above)) ≡ floors_of (outer_of (path_of form above))

record IsOuter (range : Rect) (path : Path) (more fewer : ℕ) : Type 0 where
  pub sound : are_sound path ≡ true → are_sound (outer_of path) ≡ true
  pub entailed : AreEntailed range path → AreEntailed range (outer_of path)
  pub facts_most : more ≤ length (facts range path)
  pub floors_most : fewer ≤ length (floors_of path)
  pub facts_are : take (length (facts range path) - more) (facts range path) ≡ facts range (outer_of path)
  pub floors_are : take (length (floors_of path) - fewer) (floors_of path) ≡ floors_of (outer_of path)

outer_def : (range : Rect) (path : Path) → is_below_def path ≡ true → IsOuter range path 2 1
outer_def range (root form) e = absurd (cc)
outer_def range (def row d ▸ outer) e =
    let more = length-append (facts range outer) (step_facts (variables outer) (def row d)) in
    let one = length-append (floors_of outer) (record { row = row; by = d } ∷ []) in
    record {
      sound = λ s. (and_parts (is_declared outer row && lt_z (pos 0) d) (are_sound outer) s).1;
      entailed = λ h. h;
      facts_most = omega (arith, more);
      floors_most = omega (arith, one);
      facts_are = take_front (facts range outer) (step_facts (variables outer) (def row d)) _ (omega (arith, more));
      floors_are = take_front (floors_of outer) (record { row = row; by = d } ∷ []) _ (omega (arith, one));
    }
outer_def range (first row ▸ outer) e = absurd (cc)
outer_def range (second row ▸ outer) e = absurd (cc)
outer_def range (lemma row ▸ outer) e = absurd (cc)

-- a step that adds one fact
outer_by : (range : Rect) (outer : Path) (step : Step) (row : Form) → facts range (step ▸ outer) ≡ facts range outer ++ row ∷ [] → floors_of (step ▸ outer) ≡ floors_of outer
    → (are_sound (step ▸ outer) ≡ true → are_sound outer ≡ true) → (AreEntailed range (step ▸ outer) → AreEntailed range outer) → IsOuter range (step ▸ outer) 1 0
outer_by range outer step row facts_are floors_are sound entailed =
    let count = ap (λ (fs : List Form). length fs) facts_are ∙ length-append (facts range outer) (row ∷ []) in
    let floor_count = ap (λ (fs : List Floor). length fs) floors_are in
    record {
      sound = sound;
      entailed = entailed;
      facts_most = omega (arith, count);
      floors_most = omega arith;
      facts_are = ap (take (length (facts range (step ▸ outer)) - 1)) facts_are ∙ take_front (facts range outer) (row ∷ []) _ (omega (arith, count));
      floors_are = ap (take (length (floors_of (step ▸ outer)) - 0)) floors_are ∙ take_all _ (floors_of outer) (omega (arith, floor_count));
    }

outer_row : (range : Rect) (path : Path) → is_below_row path ≡ true → IsOuter range path 1 0
outer_row range (root form) e = absurd (cc)
outer_row range (def row d ▸ outer) e = absurd (cc)
outer_row range (first row ▸ outer) e = outer_by range outer (first row) row refl refl (λ s. (and_parts (is_declared outer row) (are_sound outer) s).1) (λ h. h)
outer_row range (second row ▸ outer) e = outer_by range outer (second row) (denied row) refl refl (λ s. (and_parts (is_declared outer row) (are_sound outer) s).1) (λ h. h)
outer_row range (lemma row ▸ outer) e = outer_by range outer (lemma row) row refl refl (λ s. (and_parts (is_declared outer row) (are_sound outer) s).1) (λ h. h.1)

left_by : (form : ℕ) (range : Rect) (above : List Above) (more fewer : ℕ) → IsPushed above → IsOuter range (path_of form above) more fewer → IsLeft form range above more fewer
left_by form range above more fewer h o = record {
  above_are =
      let count : length above - 1 ≡ length h.front = omega (arith, ap (λ (l : List Above). length l) h.are, length-append h.front (h.last ∷ [])) in
      ap (path_of form) (ap (λ l. take (length above - 1) l) h.are ∙ take_front h.front (h.last ∷ []) (length above - 1) count)
      ∙ sym (ap outer_of (ap (path_of form) h.are ∙ path_push form h.front h.last));
  some = omega (arith, ap (λ (l : List Above). length l) h.are, length-append h.front (h.last ∷ []));
  sound = o.sound;
  entailed = o.entailed;
  facts_most = o.facts_most;
  floors_most = o.floors_most;
  facts_are = o.facts_are;
  floors_are = o.floors_are;
}

pub left_def : (form : ℕ) (range : Rect) (above : List Above) → is_below_def (path_of form above) ≡ true → IsLeft form range above 2 1
left_def form range above e = left_by form range above 2 1 (below_def_pushed form above e) (outer_def range (path_of form above) e)

pub left_row : (form : ℕ) (range : Rect) (above : List Above) → is_below_row (path_of form above) ≡ true → IsLeft form range above 1 0
left_row form range above e = left_by form range above 1 0 (below_row_pushed form above e) (outer_row range (path_of form above) e)
