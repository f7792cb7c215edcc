-- What is known stays known where a floor is named, and no world is lost.
use Rattle.std.proofs.Common.{◌≡◌, ℕ, zero, suc, ◌+◌, ◌<◌, ◌≤◌, ◌^◌, ℤ, pos, negsuc, ◌-ℤ◌, ◌≤ℤ◌, ◌<ℤ◌, Bool, true, false, ◌&&◌, List, [], ◌∷◌, ◌++◌, length, Some, inl, inr, refl, sym, ◌∙◌, ap, subst, arith, length-append, IsTrue}
use Rattle.std.specs.Prelude.{◌⊎◌, slice_get}
use Rattle.std.specs.Int.{int_div_euclid}
use Rattle.std.specs.List.{list_all}
use Rattle.std.specs.Ordering.{int_eq}
use Rattle.std.specs.Int.RustNames.{int_le}
use Rattle.std.proofs.Math.Bool.{and-true}
use Rattle.std.proofs.lemmas.Int.{ints}
use Rattle.std.proofs.lemmas.Bool.{and_parts}
use Rattle.std.proofs.lemmas.List.Folds.{list_all-append}
use Rattle.std.proofs.lemmas.Option.{same_Some}
use Rattle.viz_base.specs.declared.worlds.World.{World}
use Rattle.viz_base.specs.Worlds.{along}
use Rattle.viz_calc.specs.World.{Reading}
use Rattle.lin_proof.specs.Form.{Form, value, plus}
use Rattle.lin_proof.specs.Derivations.{are_declared}
use Rattle.cert_semantics.specs.Axes.{axis_count, variable_of}
use Rattle.cert_semantics.specs.Paths.{def, with_value, with_floor, values_at}
use Rattle.cert_semantics.specs.Facts.{row_of, step_facts}
use Rattle.cert_semantics.proofs.Values.{Agree, Local, declared_local, plus_local, row_local, more_local, with_old, with_new}
use Rattle.cert_semantics.proofs.PathFacts.{AllMeet, floor_holds, floor_said}
use Rattle.cert_semantics.proofs.Variables.{by_form}
use Rattle.sym_calc.specs.declared.floors.Floor.{Floor}
use Rattle.sym_calc.specs.declared.paths.Origin.{Origin}
use Rattle.sym_calc.specs.Floors.{with_floors, values_by}
use Rattle.sym_calc.specs.Knowledge.{has_height, has_numbers, are_met, is_open, AreKnown}

-- ---- facts that are met

pub to_le : (z : ℤ) → int_le (pos 0) z ≡ true → pos 0 ≤ℤ z
to_le z e = omega (arith, ints, e)

from_le : (z : ℤ) → pos 0 ≤ℤ z → int_le (pos 0) z ≡ true
from_le z h = by_test (int_le (pos 0) z) refl
  where
    by_test : (b : Bool) → int_le (pos 0) z ≡ b → b ≡ true
    by_test true e = refl
    by_test false e = absurd (omega (arith, ints, e, h))

pub met_all : (v : ℕ → ℤ) (fs : List Form) → are_met fs v ≡ true → AllMeet v fs
met_all v [] e = tt
met_all v (f ∷ fs) e =
    let both = and_parts (int_le (pos 0) (value f v)) (are_met fs v) e in
    (to_le (value f v) both.0, met_all v fs both.1)

pub all_met : (v : ℕ → ℤ) (fs : List Form) → AllMeet v fs → are_met fs v ≡ true
all_met v [] h = refl
all_met v (f ∷ fs) h = let first = from_le (value f v) h.0 in let rest = all_met v fs h.1 in λ i. first i && rest i

pub are_met-append : (fs gs : List Form) (v : ℕ → ℤ) → are_met (fs ++ gs) v ≡ (are_met fs v && are_met gs v)
are_met-append fs gs v = list_all-append (λ f. int_le (pos 0) (value f v)) fs gs

-- ---- facts that name no variable from n on

abbrev pub Declared : ℕ → List Form → Type 0
Declared n fs = (v w : ℕ → ℤ) → Agree n v w → are_met fs v ≡ are_met fs w

declared_more : (n m : ℕ) → n ≤ m → (fs : List Form) → Declared n fs → Declared m fs
declared_more n m le fs h v w same = h v w (λ x less. same x (omega arith))

pub declared_append : (n : ℕ) (fs gs : List Form) → Declared n fs → Declared n gs → Declared n (fs ++ gs)
declared_append n fs gs h k v w same =
    let first = h v w same in
    let rest = k v w same in
    are_met-append fs gs v ∙ (λ i. first i && rest i) ∙ sym (are_met-append fs gs w)

pub declared_row : (n : ℕ) (f : Form) → Local n f → Declared n (f ∷ [])
declared_row n f h v w same = let is = h v w same in λ i. int_le (pos 0) (is i) && true

declared_floor : (n : ℕ) (f : Form) (d : ℤ) → Local n f → Declared (n + 1) (step_facts n (def f d))
declared_floor n f d h =
    let of_row = more_local n (n + 1) (omega arith) f h in
    let lower = plus f (negsuc 0) (row_of (pos 0) d n) in
    let upper = plus (row_of (d -ℤ pos 1) d n) (negsuc 0) f in
    declared_append (n + 1) (lower ∷ []) (upper ∷ [])
    (declared_row (n + 1) lower (plus_local (n + 1) f (negsuc 0) (row_of (pos 0) d n) of_row (row_local (n + 1) (pos 0) d n (omega arith))))
    (declared_row (n + 1) upper (plus_local (n + 1) (row_of (d -ℤ pos 1) d n) (negsuc 0) f (row_local (n + 1) (d -ℤ pos 1) d n (omega arith)) of_row))

-- ---- a floor more

abbrev pub FitsAt : ℕ → Floor → Type 0
FitsAt n f = IsTrue (are_declared n f.row.terms) × (pos 0 <ℤ f.by)

local_row : (n : ℕ) (f : Floor) → FitsAt n f → Local n f.row
local_row n f h = declared_local n f.row h.0

get_push : {A : Type 0} (xs : List A) (y z : A) (n : ℕ) → slice_get (xs ++ y ∷ []) n ≡ Some z → (slice_get xs n ≡ Some z) ⊎ ((n ≡ length xs) × (y ≡ z))
get_push [] y z zero e = inr (refl, same_Some y z e)
get_push [] y z (suc n) e = absurd (cc)
get_push (x ∷ xs) y z zero e = inl e
get_push (x ∷ xs) y z (suc n) e = more (get_push xs y z n e)
  where
    more : (slice_get xs n ≡ Some z) ⊎ ((n ≡ length xs) × (y ≡ z)) → (slice_get (x ∷ xs) (suc n) ≡ Some z) ⊎ ((suc n ≡ length (x ∷ xs)) × (y ≡ z))
    more (inl found) = inl found
    more (inr last) = inr (ap suc last.0, last.1)

pub known_floor : (form : ℕ) (facts : List Form) (named : List Floor) (f : Floor) → AreKnown form facts named → FitsAt (length named + axis_count form) f → length named + axis_count form + 1 < 2 ^ 32
    → AreKnown form (facts ++ step_facts (length named + axis_count form) (def f.row f.by)) (named ++ f ∷ [])
known_floor form facts named f known fits few = record {
  few = omega (arith, length-append named (f ∷ []), few);
  declared = declared;
  floors = floors;
}
  where
    x : ℕ
    x = length named + axis_count form

    more : List Form
    more = step_facts (length named + axis_count form) (def f.row f.by)

    declared : Declared (length (named ++ f ∷ []) + axis_count form) (facts ++ step_facts (length named + axis_count form) (def f.row f.by))
    declared =
        let here : length named + axis_count form + 1 ≡ length (named ++ f ∷ []) + axis_count form = omega (arith, length-append named (f ∷ [])) in
        subst (λ n. Declared n (facts ++ step_facts (length named + axis_count form) (def f.row f.by))) here
        (declared_append (length named + axis_count form + 1) facts (step_facts (length named + axis_count form) (def f.row f.by))
        (declared_more (length named + axis_count form) (length named + axis_count form + 1) (omega arith) facts known.declared)
        (declared_floor (length named + axis_count form) f.row f.by (local_row (length named + axis_count form) f fits)))

    by_place : (v : ℕ → ℤ) (n : ℕ) (g : Floor) → are_met facts v ≡ true → are_met (step_facts (length named + axis_count form) (def f.row f.by)) v ≡ true
        → (slice_get named n ≡ Some g) ⊎ ((n ≡ length named) × (f ≡ g)) → v (n + axis_count form) ≡ int_div_euclid (value g.row v) g.by
    by_place v n g old new (inl found) = known.floors v old n g found
    by_place v n g old new (inr last) =
        let said = floor_said f.row f.by (length named + axis_count form) v v fits.1 refl (met_all v (step_facts (length named + axis_count form) (def f.row f.by)) new) in
        subst (λ (h : Floor). v (n + axis_count form) ≡ int_div_euclid (value h.row v) h.by) last.1 (ap (λ m. v (m + axis_count form)) last.0 ∙ said)

    floors : (v : ℕ → ℤ) → IsTrue (are_met (facts ++ step_facts (length named + axis_count form) (def f.row f.by)) v) → (n : ℕ) (g : Floor) → slice_get (named ++ f ∷ []) n ≡ Some g
        → v (n + axis_count form) ≡ int_div_euclid (value g.row v) g.by
    floors v met n g is =
        let both = and_parts (are_met facts v) (are_met (step_facts (length named + axis_count form) (def f.row f.by)) v) (sym (are_met-append facts (step_facts (length named + axis_count form) (def f.row f.by)) v) ∙ met) in
        by_place v n g both.0 both.1 (get_push named f g n is)

-- ---- no world is lost

with_floors-push : (fs : List Floor) (f : Floor) (x : ℕ) (v : ℕ → ℤ) → with_floors (fs ++ f ∷ []) x v ≡ with_floor f.row f.by (with_floors fs x v) (length fs + x)
with_floors-push [] f x v = let here : x ≡ 0 + x = omega arith in λ i. with_floor f.row f.by v (here i)
with_floors-push (g ∷ fs) f x v =
    let next = with_floor g.row g.by v x in
    let here : length fs + (x + 1) ≡ length (g ∷ fs) + x = omega arith in
    with_floors-push fs f (x + 1) next ∙ (λ i. with_floor f.row f.by (with_floors fs (x + 1) next) (here i))

pub values_by-push : (form : ℕ) (fs : List Floor) (f : Floor) (world : World) → values_by form (fs ++ f ∷ []) world ≡ with_floor f.row f.by (values_by form fs world) (length fs + axis_count form)
values_by-push form fs f world = with_floors-push fs f (axis_count form) (values_at form world)

-- the facts of a floor are met where its variable is the floor, and the old facts where they were
met_floor : (form : ℕ) (facts : List Form) (named : List Floor) (f : Floor) → AreKnown form facts named → FitsAt (length named + axis_count form) f → (v w : ℕ → ℤ)
    → Agree (length named + axis_count form) w v → w (length named + axis_count form) ≡ int_div_euclid (value f.row v) f.by
    → are_met (facts ++ step_facts (length named + axis_count form) (def f.row f.by)) w ≡ are_met facts v
met_floor form facts named f known fits v w same is =
    let x = length named + axis_count form in
    let more = step_facts x (def f.row f.by) in
    let old = known.declared w v same in
    let row = local_row x f fits w v same in
    let new = all_met w more (floor_holds f.row f.by x v w fits.1 row is) in
    are_met-append facts more w ∙ (λ i. old i && new i) ∙ and-true (are_met facts v)

pub kept_floor : (form : ℕ) (facts : List Form) (named : List Floor) (f : Floor) → AreKnown form facts named → FitsAt (length named + axis_count form) f → (world : World)
    → are_met (facts ++ step_facts (length named + axis_count form) (def f.row f.by)) (values_by form (named ++ f ∷ []) world) ≡ are_met facts (values_by form named world)
kept_floor form facts named f known fits world =
    let x = length named + axis_count form in
    let v = values_by form named world in
    let q = int_div_euclid (value f.row v) f.by in
    ap (are_met (facts ++ step_facts x (def f.row f.by))) (values_by-push form named f world)
    ∙ met_floor form facts named f known fits v (with_value v x q) (λ y less. with_old v x q y less) (with_new v x q)

-- ---- readings

-- the reading with another term for a variable
abbrev pub with_term : Reading → ℕ → ℤ → Reading
with_term e x q = record { world = e.world; terms = with_value e.terms x q }

-- the variables of the axes have the numbers that they had
numbers_kept : (x : ℕ) (v : ℕ → ℤ) (q : ℤ) (world : World) (form : ℕ) → axis_count form ≤ x → has_numbers form world (with_value v x q) ≡ has_numbers form world v
numbers_kept x v q world = by_form
    (λ some. length some ≤ x → list_all (λ axis. int_eq (with_value v x q (variable_of axis)) (pos (along axis world))) some ≡ list_all (λ axis. int_eq (v (variable_of axis)) (pos (along axis world))) some)
    (λ less. let w = with_old v x q 0 (omega arith) in let s = with_old v x q 1 (omega arith) in
    λ i. int_eq (w i) (pos world.w) && (int_eq (s i) (pos world.s) && true))
    (λ less. let w = with_old v x q 0 (omega arith) in let s = with_old v x q 1 (omega arith) in let h = with_old v x q 2 (omega arith) in
    λ i. int_eq (w i) (pos world.w) && (int_eq (s i) (pos world.s) && (int_eq (h i) (pos world.h) && true)))

-- an open reading meets the facts
pub open_meets : (origin : Origin) (facts : List Form) (e : Reading) → is_open origin facts e ≡ true → are_met facts e.terms ≡ true
open_meets origin facts e o = (and_parts (has_height origin e.world && has_numbers origin.form e.world e.terms) (are_met facts e.terms) o).1

pub open_floor : (origin : Origin) (facts : List Form) (named : List Floor) (f : Floor) → AreKnown origin.form facts named → FitsAt (length named + axis_count origin.form) f → (e : Reading)
    → is_open origin (facts ++ step_facts (length named + axis_count origin.form) (def f.row f.by)) (with_term e (length named + axis_count origin.form) (int_div_euclid (value f.row e.terms) f.by)) ≡ is_open origin facts e
open_floor origin facts named f known fits e =
    let x = length named + axis_count origin.form in
    let q = int_div_euclid (value f.row e.terms) f.by in
    let numbers = numbers_kept x e.terms q e.world origin.form (omega arith) in
    let met = met_floor origin.form facts named f known fits e.terms (with_value e.terms x q) (λ y less. with_old e.terms x q y less) (with_new e.terms x q) in
    λ i. (has_height origin e.world && numbers i) && met i

-- facts more close readings alone
pub opened_before : (origin : Origin) (facts more : List Form) (e : Reading) → is_open origin (facts ++ more) e ≡ true → is_open origin facts e ≡ true
opened_before origin facts more e o =
    let both = and_parts (has_height origin e.world && has_numbers origin.form e.world e.terms) (are_met (facts ++ more) e.terms) o in
    let at = both.0 in
    let met = (and_parts (are_met facts e.terms) (are_met more e.terms) (sym (are_met-append facts more e.terms) ∙ both.1)).0 in
    λ i. at i && met i
