-- The facts and floors of a certificate's path.
use Rattle.std.proofs.Common.{◌≡◌, ℕ, ◌+◌, ◌<◌, ◌==◌, ◌^◌, ℤ, pos, negsuc, neg_ℤ, Bool, true, false, cond, ◌&&◌, ◌||◌, List, [], ◌∷◌, ◌++◌, length, refl, sym, ◌∙◌, ap, subst, arith, length-append, IsTrue, lit<}
use Rattle.std.specs.List.{AllByRecursion, flat_map}
use Rattle.std.proofs.lemmas.Bool.{and_parts}
use Rattle.std.proofs.lemmas.Bool.Decides.{nat_tests}
use Rattle.viz_base.specs.declared.worlds.World.{World}
use Rattle.viz_base.specs.declared.worlds.Axis.{Axis}
use Rattle.viz_base.specs.declared.worlds.Axis.TheVariants.{Width, Size, Height}
use Rattle.viz_base.specs.declared.worlds.Span.{Span}
use Rattle.viz_base.specs.declared.worlds.Rect.{Rect}
use Rattle.viz_base.specs.Worlds.{along, side_of, IsInRange}
use Rattle.viz_base.specs.Jobs.{IsFormed}
use Rattle.lin_proof.specs.Form.{Form, denied}
use Rattle.lin_proof.specs.Derivations.{are_declared}
use Rattle.cert_semantics.specs.Axes.{variable_of, axes, axis_count}
use Rattle.cert_semantics.specs.Paths.{def, first, second, lemma, Path as Steps, root, ◌▸◌, form_of, variables, with_floor, values_along, IsOn}
use Rattle.cert_semantics.specs.Facts.{row_of, side_facts, range_facts, step_facts, facts}
use Rattle.cert_semantics.specs.Laws.{AreAlong}
use Rattle.cert_semantics.proofs.Values.{declared_local, denied_local, row_local, axes_along}
use Rattle.cert_semantics.proofs.Variables.{by_form, two, three}
use Rattle.cert_semantics.proofs.PathFacts.{facts_hold, facts_say_all, to_meets, from_meets}
use Rattle.sym_calc.specs.declared.floors.Floor.{Floor}
use Rattle.sym_calc.specs.Floors.{floors_of, values_by}
use Rattle.sym_calc.specs.Knowledge.{has_height, has_numbers, are_met, is_kept, AreKnown}
use Rattle.sym_calc.specs.Kept.{HaveNumbers, number_at_world, numbers_there}
use Rattle.sym_calc.specs.Laws.{origin_of, KeptAreThoseOfThePath, OpenAreOnThePath, SoundIsKnown}
use Rattle.sym_calc.proofs.Knowing.{met_all, all_met, are_met-append, Declared, declared_append, declared_row, known_floor, values_by-push}

-- ---- the values along a path

pub variables_of : (steps : Steps) → variables steps ≡ length (floors_of steps) + axis_count (form_of steps)
variables_of (root form) = omega arith
variables_of (def row d ▸ outer) =
    let above = variables_of outer in
    omega (arith, above, length-append (floors_of outer) (record { row = row; by = d } ∷ []))
variables_of (first row ▸ outer) = variables_of outer
variables_of (second row ▸ outer) = variables_of outer
variables_of (lemma row ▸ outer) = variables_of outer

pub values_by_along : (steps : Steps) (world : World) → values_by (form_of steps) (floors_of steps) world ≡ values_along world steps
values_by_along (root form) world = refl
values_by_along (def row d ▸ outer) world =
    let above = values_by_along outer world in
    let x = variables_of outer in
    values_by-push (form_of outer) (floors_of outer) (record { row = row; by = d }) world ∙ (λ i. with_floor row d (above i) (sym x i))
values_by_along (first row ▸ outer) world = values_by_along outer world
values_by_along (second row ▸ outer) world = values_by_along outer world
values_by_along (lemma row ▸ outer) world = values_by_along outer world

-- ---- the worlds of a path

-- in form 1 the worlds of a range have its one height
tall_in : (form : ℕ) (range : Rect) (world : World) → IsFormed form range → IsInRange range world → has_height (record { form = form; height = range.hl }) world ≡ true
tall_in form range world formed i = by_test (form == 2) refl
  where
    by_test : (b : Bool) → (form == 2) ≡ b → (b || world.h == range.hl) ≡ true
    by_test true e = refl
    by_test false e =
        let least = formed.least in
        let most = formed.most in
        let one : range.hl ≡ range.hh = formed.one_height (grind (arith, nat_tests)) in
        let low = i.height_least in
        let high = i.height_most in
        grind (arith, nat_tests)

number : (m n : ℕ) → pos m ≡ pos n → m ≡ n
number m n e = cc

-- a world of a range that has the numbers of another on the axes is that one
same_world : (form : ℕ) (range : Rect) (world a : World) → IsFormed form range → has_height (record { form = form; height = range.hl }) world ≡ true → IsInRange range a
    → ((axis : Axis) → variable_of axis < axis_count form → pos (along axis a) ≡ pos (along axis world)) → a ≡ world
same_world form range world a formed tall i same = by_test (form == 2) refl same tall
  where
    by_test : (b : Bool) → (form == 2) ≡ b → ((axis : Axis) → variable_of axis < length (cond b three two) → pos (along axis a) ≡ pos (along axis world))
        → (b || world.h == range.hl) ≡ true → a ≡ world
    by_test true e same tall =
        let w = number a.w world.w (same Width (omega arith)) in
        let s = number a.s world.s (same Size (omega arith)) in
        let h = number a.h world.h (same Height (omega arith)) in
        λ i. record { w = w i; s = s i; h = h i }
    by_test false e same tall =
        let w = number a.w world.w (same Width (omega arith)) in
        let s = number a.s world.s (same Size (omega arith)) in
        let least = formed.least in
        let most = formed.most in
        let one : range.hl ≡ range.hh = formed.one_height (grind (arith, nat_tests)) in
        let low = i.height_least in
        let high = i.height_most in
        let h : a.h ≡ world.h = grind (arith, nat_tests, tall) in
        λ i. record { w = w i; s = s i; h = h i }

-- the world of values that meet the facts is the one whose numbers they have
world_is : (range : Rect) (steps : Steps) → IsFormed (form_of steps) range → (world : World) → has_height (origin_of range steps) world ≡ true
    → (v : ℕ → ℤ) → HaveNumbers (axis_count (form_of steps)) world v → (a : AreAlong range steps v) → a.world ≡ world
world_is range steps formed world tall v numbers a = same_world (form_of steps) range world a.world formed tall a.in_range same
  where
    same : (axis : Axis) → variable_of axis < axis_count (form_of steps) → pos (along axis a.world) ≡ pos (along axis world)
    same axis less =
        let n = variables_of steps in
        sym (number_at_world (form_of steps) a.world axis less)
        ∙ sym (axes_along a.world steps (variable_of axis) less)
        ∙ sym (a.values (variable_of axis) (omega (arith, n, less)))
        ∙ numbers axis less

pub kept_are_those : KeptAreThoseOfThePath
kept_are_those range steps formed sound entailed world = (forth, back)
  where
    v : ℕ → ℤ
    v = values_by (form_of steps) (floors_of steps) world

    is : v ≡ values_along world steps
    is = values_by_along steps world

    numbers : HaveNumbers (axis_count (form_of steps)) world v
    numbers axis less = ap (λ g. g (variable_of axis)) is ∙ axes_along world steps (variable_of axis) less ∙ number_at_world (form_of steps) world axis less

    forth : IsTrue (is_kept (origin_of range steps) (facts range steps) (floors_of steps) world) → IsInRange range world × IsOn steps world
    forth kept =
        let both = and_parts (has_height (origin_of range steps) world) (are_met (facts range steps) v) kept in
        let a = facts_say_all range steps formed sound v (to_meets v (facts range steps) (met_all v (facts range steps) both.1)) in
        subst (λ w. IsInRange range w × IsOn steps w) (world_is range steps formed world both.0 v numbers a) (a.in_range, a.on_path)

    back : IsInRange range world × IsOn steps world → IsTrue (is_kept (origin_of range steps) (facts range steps) (floors_of steps) world)
    back h =
        let hold = facts_hold range steps sound entailed world h.0 h.1 in
        let met = ap (are_met (facts range steps)) is ∙ all_met (values_along world steps) (facts range steps) (from_meets (values_along world steps) (facts range steps) hold) in
        let tall = tall_in (form_of steps) range world formed h.0 in
        λ i. tall i && met i

-- a reading that is open over a path is of a world on it
pub open_are_on : OpenAreOnThePath
open_are_on range steps formed sound e o =
    let form = form_of steps in
    let v = e.terms in
    let both = and_parts (has_height (origin_of range steps) e.world && has_numbers form e.world v) (are_met (facts range steps) v) o in
    let at = and_parts (has_height (origin_of range steps) e.world) (has_numbers form e.world v) both.0 in
    let a = facts_say_all range steps formed sound v (to_meets v (facts range steps) (met_all v (facts range steps) both.1)) in
    subst (λ w. IsInRange range w × IsOn steps w) (world_is range steps formed e.world at.0 v (numbers_there form e.world v at.1) a) (a.in_range, a.on_path)

-- ---- what is known along a path

known_row : (form : ℕ) (fs : List Form) (named : List Floor) (f : Form) → AreKnown form fs named → Declared (length named + axis_count form) (f ∷ []) → AreKnown form (fs ++ f ∷ []) named
known_row form fs named f known local = record {
  few = known.few;
  declared = declared_append (length named + axis_count form) fs (f ∷ []) known.declared local;
  floors = λ v met n g at. known.floors v (both v met) n g at;
}
  where
    both : (v : ℕ → ℤ) → are_met (fs ++ f ∷ []) v ≡ true → are_met fs v ≡ true
    both v met = (and_parts (are_met fs v) (are_met (f ∷ []) v) (sym (are_met-append fs (f ∷ []) v) ∙ met)).0

known_side : (n : ℕ) (axis : Axis) (side : Span) → variable_of axis < n → Declared n (side_facts axis side)
known_side n axis side less =
    let low = row_of (neg_ℤ (pos side.least)) (pos 1) (variable_of axis) in
    let high = row_of (pos side.most) (negsuc 0) (variable_of axis) in
    declared_append n (low ∷ []) (high ∷ [])
    (declared_row n low (row_local n low.k (pos 1) (variable_of axis) less))
    (declared_row n high (row_local n high.k (negsuc 0) (variable_of axis) less))

known_sides : (range : Rect) (n : ℕ) (some : List Axis) → AllByRecursion (λ axis. variable_of axis < n) some
    → Declared n (flat_map (λ axis. side_facts axis (side_of axis range)) some)
known_sides range n [] h = λ v w same. refl
known_sides range n (axis ∷ some) h =
    declared_append n (side_facts axis (side_of axis range)) (flat_map (λ other. side_facts other (side_of other range)) some)
    (known_side n axis (side_of axis range) h.0) (known_sides range n some h.1)

axes_below : (form : ℕ) → AllByRecursion (λ axis. variable_of axis < axis_count form) (axes form)
axes_below = by_form (λ some. AllByRecursion (λ axis. variable_of axis < length some) some) (omega arith, (omega arith, tt)) (omega arith, (omega arith, (omega arith, tt)))

few_axes : (form : ℕ) → axis_count form < 2 ^ 32
few_axes = by_form (λ some. length some < 2 ^ 32) (lit< tt) (lit< tt)

pub known_range : (form : ℕ) (range : Rect) → AreKnown form (range_facts form range) []
known_range form range = record {
  few = let few = few_axes form in omega arith;
  declared = λ v w same. known_sides range (axis_count form) (axes form) (axes_below form) v w (λ x less. same x (omega arith));
  floors = λ v met n f at. absurd (cc);
}

pub sound_is_known : SoundIsKnown
sound_is_known range (root form) sound few = known_range form range
sound_is_known range (def row d ▸ outer) sound few =
    let x = variables_of outer in
    let above = sound_is_known range outer sound.1 (omega arith) in
    let floor : Floor = record { row = row; by = d } in
    let room : length (floors_of outer) + axis_count (form_of outer) + 1 < 2 ^ 32 = omega (arith, x, few) in
    let fits = subst (λ n. IsTrue (are_declared n row.terms)) x sound.0.0 in
    subst (λ n. AreKnown (form_of outer) (facts range outer ++ step_facts n (def row d)) (floors_of outer ++ floor ∷ [])) (sym x)
    (known_floor (form_of outer) (facts range outer) (floors_of outer) floor above (fits, sound.0.1) room)
sound_is_known range (first row ▸ outer) sound few =
    let x = variables_of outer in
    let above = sound_is_known range outer sound.1 few in
    let fits = subst (λ n. IsTrue (are_declared n row.terms)) x sound.0 in
    known_row (form_of outer) (facts range outer) (floors_of outer) row above (declared_row (length (floors_of outer) + axis_count (form_of outer)) row (declared_local (length (floors_of outer) + axis_count (form_of outer)) row fits))
sound_is_known range (second row ▸ outer) sound few =
    let x = variables_of outer in
    let above = sound_is_known range outer sound.1 few in
    let fits = subst (λ n. IsTrue (are_declared n row.terms)) x sound.0 in
    let n = length (floors_of outer) + axis_count (form_of outer) in
    known_row (form_of outer) (facts range outer) (floors_of outer) (denied row) above (declared_row n (denied row) (denied_local n row (declared_local n row fits)))
sound_is_known range (lemma row ▸ outer) sound few =
    let x = variables_of outer in
    let above = sound_is_known range outer sound.1 few in
    let fits = subst (λ n. IsTrue (are_declared n row.terms)) x sound.0 in
    let n = length (floors_of outer) + axis_count (form_of outer) in
    known_row (form_of outer) (facts range outer) (floors_of outer) row above (declared_row n row (declared_local n row fits))
