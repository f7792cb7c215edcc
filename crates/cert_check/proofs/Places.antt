-- Where a world lies by the steps above a grid, one after another.
use Rattle.std.proofs.Common.{◌≡◌, ℕ, zero, suc, ◌==◌, ℤ, pos, ◌+ℤ◌, ◌*ℤ◌, ◌≤ℤ◌, ◌<ℤ◌, Bool, true, false, cond, ◌&&◌, ◌||◌, List, [], ◌∷◌, ◌++◌, length, Option, Some, None, refl, sym, ◌∙◌, ap, subst, arith, length-append}
use Rattle.std.proofs.lemmas.Bool.{and_parts}
use Rattle.std.specs.Prelude.{is_some, map, option_and_then, ⊤}
use Rattle.std.specs.Option.{option_map, option_map_or}
use Rattle.std.specs.Int.{int_div_euclid}
use Rattle.std.specs.Int.RustNames.{int_le}
use Rattle.std.specs.Int.Signed.{lt_z}
use Rattle.std.proofs.lemmas.Int.{ints}
use Rattle.std.proofs.lemmas.Bool.Decides.{nat_tests}
use Rattle.std.proofs.lemmas.Option.{same_Some, slice_get-map}
use Rattle.viz_base.specs.declared.worlds.World.{World}
use Rattle.viz_base.specs.declared.worlds.Axis.{Axis}
use Rattle.lin_proof.specs.Form.{Form, Terms, value, terms_value}
use Rattle.lin_proof.specs.Number.{in_i128}
use Rattle.viz_base.specs.Worlds.{along}
use Rattle.cert_semantics.specs.Axes.{axes, axis_of, number_on}
use Rattle.cert_semantics.specs.Paths.{def, first, second, lemma, Path, root, ◌▸◌, form_of, variables, with_value, with_floor, values_at, values_along}
use Rattle.sym_calc.proofs.Knowing.{to_le}
use Rattle.cert_semantics.specs.Units.{is_unit}
use Rattle.cert_check.specs.declared.descent.Above.{Above}
use Rattle.cert_check.specs.declared.descent.Above.TheVariants.{Def, First, Second, Lemma}
use Rattle.cert_check.specs.Numbers.{checked, add_term, sum_on, computed, are_computed}
use Rattle.cert_check.specs.steps.Descent.{step_of, path_from, path_of}
use Rattle.cert_check.specs.steps.Grids.{value_in, pass, place_from, place_of}

-- ---- sums

checked_is : (z y : ℤ) → checked z ≡ Some y → y ≡ z
checked_is z y e = by_test (in_i128 z) e
  where
    by_test : (b : Bool) → cond b (Some z) None ≡ Some y → y ≡ z
    by_test true e = sym (same_Some z y e)
    by_test false e = absurd (cc)

add_is : (sum : ℤ) (t : ℕ × ℤ) (v : ℕ → ℤ) (z : ℤ) → add_term sum t v ≡ Some z → z ≡ sum +ℤ t.1 *ℤ v t.0
add_is sum t v z e = by_product (checked (t.1 *ℤ v t.0)) refl e
  where
    by_product : (o : Option ℤ) → checked (t.1 *ℤ v t.0) ≡ o → option_and_then (λ product. checked (sum +ℤ product)) o ≡ Some z → z ≡ sum +ℤ t.1 *ℤ v t.0
    by_product None f e = absurd (cc)
    by_product (Some p) f e = checked_is (sum +ℤ p) z e ∙ ap (λ y. sum +ℤ y) (checked_is (t.1 *ℤ v t.0) p f)

sum_is : (sum : ℤ) (ts : Terms) (v : ℕ → ℤ) (z : ℤ) → sum_on sum ts v ≡ Some z → z ≡ sum +ℤ terms_value ts v
sum_is sum [] v z e = let is = same_Some sum z e in omega (arith, ints, is)
sum_is sum (t ∷ ts) v z e = by_next (λ next. sum_is next ts v z) (add_term sum t v) refl e
  where
    by_next : ((next : ℤ) → sum_on next ts v ≡ Some z → z ≡ next +ℤ terms_value ts v) → (o : Option ℤ) → add_term sum t v ≡ o → option_and_then (λ next. sum_on next ts v) o ≡ Some z
        → z ≡ sum +ℤ (t.1 *ℤ v t.0 +ℤ terms_value ts v)
    by_next rest None f e = absurd (cc)
    by_next rest (Some next) f e = let h = rest next e in let n = add_is sum t v next f in omega (arith, ints, h, n)

computed_is : (row : Form) (v : ℕ → ℤ) (z : ℤ) → computed row v ≡ Some z → z ≡ value row v
computed_is row v z e = sum_is row.k row.terms v z e

-- ---- the values of the variables as a list

numbers_at : World → Path → List ℤ
numbers_at world (root form) = map (λ axis. pos (along axis world)) (axes form)
numbers_at world (def row d ▸ outer) = numbers_at world outer ++ int_div_euclid (value row (value_in (numbers_at world outer))) d ∷ []
numbers_at world (first row ▸ outer) = numbers_at world outer
numbers_at world (second row ▸ outer) = numbers_at world outer
numbers_at world (lemma row ▸ outer) = numbers_at world outer

numbers-def : (world : World) (row : Form) (d : ℤ) (path : Path) → numbers_at world (def row d ▸ path) ≡ numbers_at world path ++ int_div_euclid (value row (value_in (numbers_at world path))) d ∷ []
unfolding numbers_at
numbers-def world row d path = refl

numbers-first : (world : World) (row : Form) (path : Path) → numbers_at world (first row ▸ path) ≡ numbers_at world path
unfolding numbers_at
numbers-first world row path = refl

numbers-second : (world : World) (row : Form) (path : Path) → numbers_at world (second row ▸ path) ≡ numbers_at world path
unfolding numbers_at
numbers-second world row path = refl

numbers-lemma : (world : World) (row : Form) (path : Path) → numbers_at world (lemma row ▸ path) ≡ numbers_at world path
unfolding numbers_at
numbers-lemma world row path = refl

length_map : {A B : Type 0} (f : A → B) (xs : List A) → length (map f xs) ≡ length xs
length_map f [] = refl
length_map f (x ∷ xs) = ap suc (length_map f xs)

count_is : (world : World) (path : Path) → length (numbers_at world path) ≡ variables path
unfolding numbers_at
count_is world (root form) = length_map (λ axis. pos (along axis world)) (axes form)
count_is world (def row d ▸ outer) =
    omega (arith, count_is world outer, length-append (numbers_at world outer) (int_div_euclid (value row (value_in (numbers_at world outer))) d ∷ []))
count_is world (first row ▸ outer) = count_is world outer
count_is world (second row ▸ outer) = count_is world outer
count_is world (lemma row ▸ outer) = count_is world outer

value_push : (ns : List ℤ) (q : ℤ) (x : ℕ) → value_in (ns ++ q ∷ []) x ≡ with_value (value_in ns) (length ns) q x
value_push [] q zero = refl
value_push [] q (suc x) = past (suc x == 0) refl
  where
    past : (a : Bool) → (suc x == 0) ≡ a → pos 0 ≡ cond a q (pos 0)
    past true e = absurd (grind (arith, nat_tests))
    past false e = refl
value_push (n ∷ ns) q zero = before (0 == suc (length ns)) refl
  where
    before : (a : Bool) → (0 == suc (length ns)) ≡ a → n ≡ cond a q n
    before true e = absurd (grind (arith, nat_tests))
    before false e = refl
value_push (n ∷ ns) q (suc x) = value_push ns q x ∙ by_test (x == length ns) refl (suc x == suc (length ns)) refl
  where
    by_test : (a : Bool) → (x == length ns) ≡ a → (b : Bool) → (suc x == suc (length ns)) ≡ b → cond a q (value_in ns x) ≡ cond b q (value_in ns x)
    by_test true e true f = refl
    by_test true e false f = absurd (grind (arith, nat_tests))
    by_test false e true f = absurd (grind (arith, nat_tests))
    by_test false e false f = refl

values_are : (world : World) (path : Path) → values_along world path ≡ value_in (numbers_at world path)
unfolding numbers_at
values_are world (root form) = λ i x. at_axis x i
  where
    by_axis : (o : Option Axis) → number_on o world ≡ option_map_or (λ v. v) (option_map (λ axis. pos (along axis world)) o) (pos 0)
    by_axis None = refl
    by_axis (Some axis) = refl

    at_axis : (x : ℕ) → values_at form world x ≡ value_in (map (λ axis. pos (along axis world)) (axes form)) x
    at_axis x = by_axis (axis_of form x) ∙ ap (λ o. option_map_or (λ v. v) o (pos 0)) (sym (slice_get-map (λ axis. pos (along axis world)) (axes form) x))
values_are world (def row d ▸ outer) =
    let above = values_are world outer in
    let count = count_is world outer in
    (λ i. with_floor row d (above i) (sym count i))
    ∙ sym (λ i x. value_push (numbers_at world outer) (int_div_euclid (value row (value_in (numbers_at world outer))) d) x i)
values_are world (first row ▸ outer) = values_are world outer
values_are world (second row ▸ outer) = values_are world outer
values_are world (lemma row ▸ outer) = values_are world outer

-- ---- the steps besides unit splits

-- each split of the path that is no unit split is taken
abbrev pub BesidesOn : World → Path → Type 0
BesidesOn world (root form) = ⊤
BesidesOn world (def row d ▸ outer) = BesidesOn world outer
BesidesOn world (first row ▸ outer) = (is_unit (form_of outer) row ≡ false → pos 0 ≤ℤ value row (values_along world outer)) × BesidesOn world outer
BesidesOn world (second row ▸ outer) = (is_unit (form_of outer) row ≡ false → value row (values_along world outer) <ℤ pos 0) × BesidesOn world outer
BesidesOn world (lemma row ▸ outer) = BesidesOn world outer

-- what is known of the steps so far: they are computed, and the world is on them as the flag says
record IsSoFar (world : World) (path : Path) (ns : List ℤ) (flag : Bool) : Type 0 where
  pub values : ns ≡ numbers_at world path
  pub computed : are_computed path world ≡ true
  pub on : flag ≡ true → BesidesOn world path
  pub off : flag ≡ false → BesidesOn world path → ⊥

-- what a place says of the whole path
abbrev pub Says : World → Path → Option Bool → Type 0
Says world path None = are_computed path world ≡ false
Says world path (Some true) = (are_computed path world ≡ true) × BesidesOn world path
Says world path (Some false) = (are_computed path world ≡ true) × (BesidesOn world path → ⊥)

-- a number that is outside stays so
stays_outside : (world : World) (path : Path) (above : List Above) → are_computed path world ≡ false → are_computed (path_from path above) world ≡ false
stays_outside world path [] e = e
stays_outside world path (a ∷ above) e = stays_outside world (step_of a ▸ path) above (by_step a)
  where
    by_step : (a : Above) → are_computed (step_of a ▸ path) world ≡ false
    by_step (Def row d) = (λ i. e i && is_some (computed row (values_along world path)))
    by_step (First row) = (λ i. e i && (is_unit (form_of path) row || is_some (computed row (values_along world path))))
    by_step (Second row) = (λ i. e i && (is_unit (form_of path) row || is_some (computed row (values_along world path))))
    by_step (Lemma row) = e

end_says : (world : World) (path : Path) (ns : List ℤ) (on : Bool) → IsSoFar world path ns on → Says world path (Some on)
end_says world path ns true h = (h.computed, h.on refl)
end_says world path ns false h = (h.computed, h.off refl)

-- one step more
abbrev Passes : World → Path → Above → Option (List ℤ × Bool) → Type 0
Passes world path a None = are_computed (step_of a ▸ path) world ≡ false
Passes world path a (Some p) = IsSoFar world (step_of a ▸ path) p.0 p.1

as_along : (world : World) (path : Path) (ns : List ℤ) (row : Form) → ns ≡ numbers_at world path → computed row (value_in ns) ≡ computed row (values_along world path)
as_along world path ns row is = ap (λ (l : List ℤ). computed row (value_in l)) is ∙ ap (computed row) (sym (values_are world path))

not_le : (z : ℤ) → int_le (pos 0) z ≡ false → pos 0 ≤ℤ z → ⊥
not_le z e h = absurd (omega (arith, ints, e, h))

is_lt : (z : ℤ) → lt_z z (pos 0) ≡ true → z <ℤ pos 0
is_lt z e = omega (arith, ints, e)

not_lt : (z : ℤ) → lt_z z (pos 0) ≡ false → z <ℤ pos 0 → ⊥
not_lt z e h = absurd (omega (arith, ints, e, h))

-- of a conjunction that is false, one part is
one_false : (a b : Bool) (P : Type 0) → (a && b) ≡ false → (a ≡ false → P) → (b ≡ false → P) → P
one_false true b P e f g = g e
one_false false b P e f g = f refl

passes : (world : World) (path : Path) (ns : List ℤ) (on : Bool) → IsSoFar world path ns on → (a : Above) → Passes world path a (pass (form_of path) a ns on)
passes world path ns on h (Def row d) = by_number (computed row (value_in ns)) refl
  where
    along : computed row (value_in ns) ≡ computed row (values_along world path)
    along = as_along world path ns row h.values

    by_number : (o : Option ℤ) → computed row (value_in ns) ≡ o → Passes world path (Def row d) (option_map (λ v. (ns ++ int_div_euclid v d ∷ [], on)) o)
    by_number None e = let past = h.computed in let none = ap is_some (sym along ∙ e) in λ i. past i && none i
    by_number (Some z) e =
        let past = h.computed in
        let some = ap is_some (sym along ∙ e) in
        let z_is : z ≡ value row (value_in (numbers_at world path)) = computed_is row (value_in ns) z e ∙ ap (λ (l : List ℤ). value row (value_in l)) h.values in
        record {
          values = (λ i. h.values i ++ int_div_euclid (z_is i) d ∷ []) ∙ sym (numbers-def world row d path);
          computed = λ i. past i && some i;
          on = h.on;
          off = h.off;
        }
passes world path ns on h (First row) = by_unit (is_unit (form_of path) row) refl
  where
    along : computed row (value_in ns) ≡ computed row (values_along world path)
    along = as_along world path ns row h.values

    by_number : is_unit (form_of path) row ≡ false → (o : Option ℤ) → computed row (value_in ns) ≡ o → Passes world path (First row) (option_map (λ v. (ns, on && int_le (pos 0) v)) o)
    by_number u None e = let past = h.computed in let none = ap is_some (sym along ∙ e) in λ i. past i && (u i || none i)
    by_number u (Some z) e =
        let past = h.computed in
        let some = ap is_some (sym along ∙ e) in
        let z_is : z ≡ value row (values_along world path) = computed_is row (values_along world path) z (sym along ∙ e) in
        record {
          values = h.values ∙ sym (numbers-first world row path);
          computed = λ i. past i && (u i || some i);
          on = λ t. let b = and_parts on (int_le (pos 0) z) t in (λ _. subst (λ y. pos 0 ≤ℤ y) z_is (to_le z b.1), h.on b.0);
          off = λ f b. one_false on (int_le (pos 0) z) ⊥ f (λ o. h.off o b.1) (λ l. not_le z l (subst (λ y. pos 0 ≤ℤ y) (sym z_is) (b.0 u)));
        }

    by_unit : (b : Bool) → is_unit (form_of path) row ≡ b → Passes world path (First row) (cond b (Some (ns, on)) (option_map (λ v. (ns, on && int_le (pos 0) v)) (computed row (value_in ns))))
    by_unit true u =
        let past = h.computed in
        record {
          values = h.values ∙ sym (numbers-first world row path);
          computed = λ i. past i && (u i || is_some (computed row (values_along world path)));
          on = λ t. (λ f. absurd (cc), h.on t);
          off = λ f b. h.off f b.1;
        }
    by_unit false u = by_number u (computed row (value_in ns)) refl
passes world path ns on h (Second row) = by_unit (is_unit (form_of path) row) refl
  where
    along : computed row (value_in ns) ≡ computed row (values_along world path)
    along = as_along world path ns row h.values

    by_number : is_unit (form_of path) row ≡ false → (o : Option ℤ) → computed row (value_in ns) ≡ o → Passes world path (Second row) (option_map (λ v. (ns, on && lt_z v (pos 0))) o)
    by_number u None e = let past = h.computed in let none = ap is_some (sym along ∙ e) in λ i. past i && (u i || none i)
    by_number u (Some z) e =
        let past = h.computed in
        let some = ap is_some (sym along ∙ e) in
        let z_is : z ≡ value row (values_along world path) = computed_is row (values_along world path) z (sym along ∙ e) in
        record {
          values = h.values ∙ sym (numbers-second world row path);
          computed = λ i. past i && (u i || some i);
          on = λ t. let b = and_parts on (lt_z z (pos 0)) t in (λ _. subst (λ y. y <ℤ pos 0) z_is (is_lt z b.1), h.on b.0);
          off = λ f b. one_false on (lt_z z (pos 0)) ⊥ f (λ o. h.off o b.1) (λ l. not_lt z l (subst (λ y. y <ℤ pos 0) (sym z_is) (b.0 u)));
        }

    by_unit : (b : Bool) → is_unit (form_of path) row ≡ b → Passes world path (Second row) (cond b (Some (ns, on)) (option_map (λ v. (ns, on && lt_z v (pos 0))) (computed row (value_in ns))))
    by_unit true u =
        let past = h.computed in
        record {
          values = h.values ∙ sym (numbers-second world row path);
          computed = λ i. past i && (u i || is_some (computed row (values_along world path)));
          on = λ t. (λ f. absurd (cc), h.on t);
          off = λ f b. h.off f b.1;
        }
    by_unit false u = by_number u (computed row (value_in ns)) refl
passes world path ns on h (Lemma row) = record {
  values = h.values ∙ sym (numbers-lemma world row path);
  computed = h.computed;
  on = h.on;
  off = h.off;
}

places : (world : World) (path : Path) (ns : List ℤ) (on : Bool) → IsSoFar world path ns on → (above : List Above) → Says world (path_from path above) (place_from (form_of path) above ns on)
places world path ns on h [] = end_says world path ns on h
places world path ns on h (a ∷ above) = by_pass (λ p f. places world (step_of a ▸ path) p.0 p.1 f above) (pass (form_of path) a ns on) (passes world path ns on h a)
  where
    by_pass : ((p : List ℤ × Bool) → IsSoFar world (step_of a ▸ path) p.0 p.1 → Says world (path_from (step_of a ▸ path) above) (place_from (form_of path) above p.0 p.1))
        → (o : Option (List ℤ × Bool)) → Passes world path a o → Says world (path_from (step_of a ▸ path) above) (option_and_then (λ p. place_from (form_of path) above p.0 p.1) o)
    by_pass rest None f = stays_outside world (step_of a ▸ path) above f
    by_pass rest (Some p) f = rest p f

start : (form : ℕ) (world : World) → IsSoFar world (root form) (map (λ axis. pos (along axis world)) (axes form)) true
unfolding numbers_at
start form world = record { values = refl; computed = refl; on = λ t. tt; off = λ f. absurd (cc) }

pub place_says : (form : ℕ) (world : World) (above : List Above) → Says world (path_of form above) (place_of form above world)
place_says form world above = places world (root form) (map (λ axis. pos (along axis world)) (axes form)) true (start form world) above
