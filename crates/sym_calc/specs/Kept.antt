-- The reading of a kept world: its floors are what they are there.
use Rattle.std.specs.Prelude.{◌≡◌, ℕ, ◌+◌, ◌<◌, ℤ, pos, true, ◌&&◌, List, [], ◌∷◌, length, refl}
use Rattle.std.specs.Int.{int_div_euclid}
use Rattle.std.specs.List.{list_all}
use Rattle.std.specs.Ordering.{int_eq}
use Rattle.std.proofs.Common.{◌∙◌, ap, arith}
use Rattle.std.proofs.lemmas.Bool.{and_parts}
use Rattle.std.proofs.lemmas.Bool.Decides.{Decides-int_eq}
use Rattle.viz_base.specs.declared.worlds.World.{World}
use Rattle.viz_base.specs.declared.worlds.Axis.{Axis}
use Rattle.viz_base.specs.declared.worlds.Axis.TheVariants.{Width, Size, Height}
use Rattle.viz_base.specs.Worlds.{along}
use Rattle.viz_calc.specs.World.{Reading}
use Rattle.lin_proof.specs.Form.{Form, value}
use Rattle.cert_semantics.specs.Axes.{axis_count, number_on, variable_of}
use Rattle.cert_semantics.specs.Paths.{with_floor, values_at}
use Rattle.cert_semantics.proofs.Values.{with_old}
use Rattle.cert_semantics.proofs.Variables.{by_form, own_axis, two, three}
use Rattle.sym_calc.specs.declared.floors.Floor.{Floor}
use Rattle.sym_calc.specs.declared.paths.Origin.{Origin}
use Rattle.sym_calc.specs.Floors.{with_floors, values_by}
use Rattle.sym_calc.specs.Knowledge.{has_height, has_numbers, are_met, is_open, is_kept}

-- the variables of these axes have the world's numbers
abbrev pub HaveNumbers : ℕ → World → (ℕ → ℤ) → Type 0
HaveNumbers axes world v = (axis : Axis) → variable_of axis < axes → v (variable_of axis) ≡ pos (along axis world)

pub numbers_tested : (form : ℕ) (world : World) (v : ℕ → ℤ) → HaveNumbers (axis_count form) world v
    → has_numbers form world v ≡ true
numbers_tested form world v =
    by_form (λ some. HaveNumbers (length some) world v
    → list_all (λ axis. int_eq (v (variable_of axis)) (pos (along axis world))) some ≡ true) of_two of_three form
  where
    same : (n : ℕ) (axis : Axis) → variable_of axis < n → HaveNumbers n world v
        → int_eq (v (variable_of axis)) (pos (along axis world)) ≡ true
    same n axis less h = (Decides-int_eq (v (variable_of axis)) (pos (along axis world))).1 (h axis less)

    of_two : HaveNumbers 2 world v
        → list_all (λ axis. int_eq (v (variable_of axis)) (pos (along axis world))) two ≡ true
    of_two h =
        let w = same 2 Width (omega arith) h in
        let s = same 2 Size (omega arith) h in
        λ i. w i && (s i && true)

    of_three : HaveNumbers 3 world v
        → list_all (λ axis. int_eq (v (variable_of axis)) (pos (along axis world))) three ≡ true
    of_three h =
        let w = same 3 Width (omega arith) h in
        let s = same 3 Size (omega arith) h in
        let t = same 3 Height (omega arith) h in
        λ i. w i && (s i && (t i && true))

pub numbers_there : (form : ℕ) (world : World) (v : ℕ → ℤ) → has_numbers form world v ≡ true
    → HaveNumbers (axis_count form) world v
numbers_there form world v =
    by_form (λ some. list_all (λ axis. int_eq (v (variable_of axis)) (pos (along axis world))) some ≡ true
    → HaveNumbers (length some) world v) of_two of_three form
  where
    same : (axis : Axis) → int_eq (v (variable_of axis)) (pos (along axis world)) ≡ true
        → v (variable_of axis) ≡ pos (along axis world)
    same axis e = (Decides-int_eq (v (variable_of axis)) (pos (along axis world))).0 e

    parts : (axis : Axis) (some : List Axis)
        → list_all (λ axis. int_eq (v (variable_of axis)) (pos (along axis world))) (axis ∷ some) ≡ true
        → (v (variable_of axis) ≡ pos (along axis world))
        × (list_all (λ axis. int_eq (v (variable_of axis)) (pos (along axis world))) some ≡ true)
    parts axis some e =
        let both = and_parts (int_eq (v (variable_of axis)) (pos (along axis world)))
        (list_all (λ axis. int_eq (v (variable_of axis)) (pos (along axis world))) some) e in
        (same axis both.0, both.1)

    of_two : list_all (λ axis. int_eq (v (variable_of axis)) (pos (along axis world))) two ≡ true
        → HaveNumbers 2 world v
    of_two e Width less = (parts Width (Size ∷ []) e).0
    of_two e Size less = (parts Size [] (parts Width (Size ∷ []) e).1).0
    of_two e Height less = absurd (omega arith)

    of_three : list_all (λ axis. int_eq (v (variable_of axis)) (pos (along axis world))) three ≡ true
        → HaveNumbers 3 world v
    of_three e Width less = (parts Width (Size ∷ Height ∷ []) e).0
    of_three e Size less = (parts Size (Height ∷ []) (parts Width (Size ∷ Height ∷ []) e).1).0
    of_three e Height less =
        (parts Height [] (parts Size (Height ∷ []) (parts Width (Size ∷ Height ∷ []) e).1).1).0

values_below : (fs : List Floor) (x : ℕ) (v : ℕ → ℤ) (y : ℕ) → y < x → with_floors fs x v y ≡ v y
values_below [] x v y less = refl
values_below (f ∷ fs) x v y less =
    values_below fs (x + 1) (with_floor f.row f.by v x) y (omega arith) ∙ with_old v x
    (int_div_euclid (value f.row v) f.by) y less

-- those at a world have its numbers
pub number_at_world : (form : ℕ) (world : World) → HaveNumbers (axis_count form) world (values_at form world)
number_at_world form world axis less = ap (λ o. number_on o world) (own_axis axis form less)

abbrev pub reading_by : ℕ → List Floor → World → Reading
reading_by form named world = record { world = world; terms = values_by form named world }

-- a world whose values meet the facts is open
pub kept_is_open : (origin : Origin) (facts : List Form) (named : List Floor) (world : World)
    → is_kept origin facts named world ≡ true → is_open origin facts (reading_by origin.form named world) ≡ true
kept_is_open origin facts named world kept =
    let form = origin.form in
    let both = and_parts (has_height origin world) (are_met facts (values_by form named world)) kept in
    let tall = both.0 in
    let met = both.1 in
    let numbers = numbers_tested form world (values_by form named world)
    (λ axis less. values_below named (axis_count form) (values_at form world) (variable_of axis) less
    ∙ number_at_world form world axis less) in
    λ i. (tall i && numbers i) && met i
