-- What the facts of a path say of whole numbers.
use Rattle.std.proofs.Common.{◌≡◌, ℕ, zero, suc, ◌+◌, ◌<◌, ◌≤◌, ◌==◌, ℤ, pos, negsuc, neg_ℤ, ◌+ℤ◌, ◌-ℤ◌, ◌*ℤ◌, ◌≤ℤ◌, ◌<ℤ◌, Bool, true, false, cond, List, [], ◌∷◌, length, refl, sym, ◌∙◌, ap, subst, arith}
use Rattle.std.specs.Prelude.{slice_get}
use Rattle.std.specs.List.{AllByRecursion, flat_map}
use Rattle.std.specs.Int.{int_div_euclid}
use Rattle.std.proofs.lemmas.Int.{ints, by_lt_z}
use Rattle.std.proofs.lemmas.Bool.Decides.{nat_tests}
use Rattle.std.proofs.lemmas.Option.{same_Some}
use Rattle.viz_base.specs.declared.worlds.World.{World}
use Rattle.viz_base.specs.declared.worlds.Rect.{Rect}
use Rattle.viz_base.specs.declared.worlds.Axis.{Axis}
use Rattle.viz_base.specs.Worlds.{side_of, IsInRange}
use Rattle.viz_base.specs.Jobs.{IsFormed}
use Rattle.viz_base.proofs.ListLemmas.{all_append, all_parts}
use Rattle.lin_proof.specs.Form.{Form, value, plus, denied}
use Rattle.lin_proof.proofs.Values.{value-plus, value-denied}
use Rattle.lin_proof.proofs.Whole.{div_below}
use Rattle.lin_proof.specs.declared.derivation.Derivation.{Derivation}
use Rattle.lin_proof.specs.declared.derivation.Answer.{Answer}
use Rattle.lin_proof.specs.Derivations.{Refutes}
use Rattle.lin_proof.specs.Law.{Meets}
use Rattle.lin_proof.specs.Entailments.{Entails}
use Rattle.lin_proof.proofs.Sound.{law, entailment_law}
use Rattle.cert_semantics.specs.Axes.{axes, axis_count, number_on}
use Rattle.cert_semantics.specs.Paths.{def, first, second, lemma, Path, root, ◌▸◌, form_of, variables, with_value, values_along, IsOn, AreSound, IsSound}
use Rattle.cert_semantics.specs.Facts.{row_of, side_facts, range_facts, step_facts, facts}
use Rattle.cert_semantics.specs.Derived.{AreEntailed, below_floors, AreFloors, IsAnswer, denial, IsRefuted}
use Rattle.cert_semantics.specs.Laws.{AreAlong}
use Rattle.cert_semantics.proofs.Sound.{def_sound}
use Rattle.cert_semantics.proofs.Variables.{two, three, by_form}
use Rattle.cert_semantics.proofs.Values.{Agree, Local, declared_local, denied_local, plus_local, row_local, more_local, with_old, with_new, one_floor}

-- ---- lists of rows

abbrev pub AllMeet : (ℕ → ℤ) → List Form → Type 0
AllMeet v = AllByRecursion (λ f. pos 0 ≤ℤ value f v)

pub to_meets : (v : ℕ → ℤ) (fs : List Form) → AllMeet v fs → Meets v fs
to_meets v [] h n f is = absurd (cc)
to_meets v (g ∷ fs) h zero f is = subst (λ x. pos 0 ≤ℤ value x v) (same_Some g f is) h.0
to_meets v (g ∷ fs) h (suc n) f is = to_meets v fs h.1 n f is

pub from_meets : (v : ℕ → ℤ) (fs : List Form) → Meets v fs → AllMeet v fs
from_meets v [] h = tt
from_meets v (f ∷ fs) h = (h zero f refl, from_meets v fs (λ n g is. h (suc n) g is))

moved : (n : ℕ) (v w : ℕ → ℤ) → Agree n v w → (fs : List Form) → AllByRecursion (Local n) fs → AllMeet v fs → AllMeet w fs
moved n v w same [] l h = tt
moved n v w same (f ∷ fs) l h = (subst (λ z. pos 0 ≤ℤ z) (l.0 v w same) h.0, moved n v w same fs l.1 h.1)

all_more : (n : ℕ) (fs : List Form) → AllByRecursion (Local n) fs → AllByRecursion (Local (n + 1)) fs
all_more n [] h = tt
all_more n (f ∷ fs) h = (more_local n (n + 1) (omega arith) f h.0, all_more n fs h.1)

-- the facts of some axes
abbrev FactsOf : Rect → List Axis → List Form
FactsOf range some = flat_map (λ axis. side_facts axis (side_of axis range)) some

range_local : (range : Rect) (form : ℕ) → AllByRecursion (Local (axis_count form)) (range_facts form range)
range_local range = by_form (λ some. AllByRecursion (Local (length some)) (FactsOf range some)) (
  row_local 2 (neg_ℤ (pos range.wl)) (pos 1) 0 (omega arith),
  (
    row_local 2 (pos range.wh) (negsuc 0) 0 (omega arith),
    (row_local 2 (neg_ℤ (pos range.sl)) (pos 1) 1 (omega arith), (row_local 2 (pos range.sh) (negsuc 0) 1 (omega arith), tt)),
  ),
) (
  row_local 3 (neg_ℤ (pos range.wl)) (pos 1) 0 (omega arith),
  (
    row_local 3 (pos range.wh) (negsuc 0) 0 (omega arith),
    (
      row_local 3 (neg_ℤ (pos range.sl)) (pos 1) 1 (omega arith),
      (
        row_local 3 (pos range.sh) (negsuc 0) 1 (omega arith),
        (row_local 3 (neg_ℤ (pos range.hl)) (pos 1) 2 (omega arith), (row_local 3 (pos range.hh) (negsuc 0) 2 (omega arith), tt)),
      ),
    ),
  ),
)

-- the facts of a sound path name its variables alone
facts_local : (range : Rect) (path : Path) → AreSound path → AllByRecursion (Local (variables path)) (facts range path)
facts_local range (root form) sound = range_local range form
facts_local range (def f d ▸ outer) sound =
    let n = variables outer in
    let of_row = more_local n (n + 1) (omega arith) f (declared_local n f sound.0.0) in
    all_append (Local (n + 1)) (facts range outer) (step_facts n (def f d)) (all_more n (facts range outer) (facts_local range outer sound.1)) (
      plus_local (n + 1) f (negsuc 0) (row_of (pos 0) d n) of_row (row_local (n + 1) (pos 0) d n (omega arith)),
      (plus_local (n + 1) (row_of (d -ℤ pos 1) d n) (negsuc 0) f (row_local (n + 1) (d -ℤ pos 1) d n (omega arith)) of_row, tt),
    )
facts_local range (first f ▸ outer) sound =
    let n = variables outer in
    all_append (Local n) (facts range outer) (step_facts n (first f)) (facts_local range outer sound.1) (declared_local n f sound.0, tt)
facts_local range (second f ▸ outer) sound =
    let n = variables outer in
    all_append (Local n) (facts range outer) (step_facts n (second f)) (facts_local range outer sound.1) (denied_local n f (declared_local n f sound.0), tt)
facts_local range (lemma f ▸ outer) sound =
    let n = variables outer in
    all_append (Local n) (facts range outer) (step_facts n (lemma f)) (facts_local range outer sound.1) (declared_local n f sound.0, tt)

-- ---- the two facts of a floor

lower_is : (f : Form) (d : ℤ) (x : ℕ) (v : ℕ → ℤ) → value (plus f (negsuc 0) (row_of (pos 0) d x)) v ≡ value f v -ℤ d *ℤ v x
lower_is f d x v = value-plus f (negsuc 0) (row_of (pos 0) d x) v ∙ omega (arith, ints)

upper_is : (f : Form) (d : ℤ) (x : ℕ) (v : ℕ → ℤ) → value (plus (row_of (d -ℤ pos 1) d x) (negsuc 0) f) v ≡ d *ℤ v x +ℤ d -ℤ pos 1 -ℤ value f v
upper_is f d x v = value-plus (row_of (d -ℤ pos 1) d x) (negsuc 0) f v ∙ omega (arith, ints)

pub floor_holds : (f : Form) (d : ℤ) (x : ℕ) (v w : ℕ → ℤ) → pos 0 <ℤ d → value f w ≡ value f v → w x ≡ int_div_euclid (value f v) d → AllMeet w (step_facts x (def f d))
floor_holds f d x v w above same is =
    let floor = div_below (value f v) d above in
    let q = int_div_euclid (value f v) d in
    let low : value f w -ℤ d *ℤ w x ≡ value f v -ℤ d *ℤ q = λ i. same i -ℤ d *ℤ is i in
    let high : d *ℤ w x +ℤ d -ℤ pos 1 -ℤ value f w ≡ d *ℤ q +ℤ d -ℤ pos 1 -ℤ value f v = λ i. d *ℤ is i +ℤ d -ℤ pos 1 -ℤ same i in (
      omega (arith, ints, lower_is f d x w, low, floor.0),
      (omega (arith, ints, upper_is f d x w, high, floor.1), tt),
    )

pub floor_said : (f : Form) (d : ℤ) (x : ℕ) (v w : ℕ → ℤ) → pos 0 <ℤ d → value f w ≡ value f v → AllMeet w (step_facts x (def f d)) → w x ≡ int_div_euclid (value f v) d
floor_said f d x v w above same h =
    let floor = div_below (value f v) d above in
    one_floor d (value f v) (w x) (int_div_euclid (value f v) d) above
    (omega (arith, ints, lower_is f d x w, h.0, same)) (omega (arith, ints, upper_is f d x w, h.1.0, same)) floor.0 floor.1

-- ---- at a world on the path the facts hold

range_holds : (range : Rect) (world : World) → IsInRange range world → (form : ℕ) → AllMeet (λ x. number_on (slice_get (axes form) x) world) (range_facts form range)
range_holds range world i =
    let a = i.width_least in
    let b = i.width_most in
    let c = i.size_least in
    let d = i.size_most in
    let e = i.height_least in
    let f = i.height_most in
    by_form (λ some. AllMeet (λ x. number_on (slice_get some x) world) (FactsOf range some))
    (omega (arith, ints), (omega (arith, ints), (omega (arith, ints), (omega (arith, ints), tt))))
    (omega (arith, ints), (omega (arith, ints), (omega (arith, ints), (omega (arith, ints), (omega (arith, ints), (omega (arith, ints), tt))))))

hold : (range : Rect) (path : Path) → AreSound path → AreEntailed range path → (world : World) → IsInRange range world → IsOn path world → AllMeet (values_along world path) (facts range path)
hold range (root form) sound entailed world i on = range_holds range world i form
hold range (def f d ▸ outer) sound entailed world i on =
    let n = variables outer in
    let v = values_along world outer in
    let q = int_div_euclid (value f v) d in
    let w = with_value v n q in
    let same : Agree n v w = λ x less. sym (with_old v n q x less) in
    all_append (λ g. pos 0 ≤ℤ value g w) (facts range outer) (step_facts n (def f d))
    (moved n v w same (facts range outer) (facts_local range outer sound.1) (hold range outer sound.1 entailed world i on.1))
    (floor_holds f d n v w sound.0.1 (sym (declared_local n f sound.0.0 v w same)) (with_new v n q))
hold range (first f ▸ outer) sound entailed world i on =
    all_append (λ g. pos 0 ≤ℤ value g (values_along world outer)) (facts range outer) (f ∷ []) (hold range outer sound.1 entailed world i on.1) (on.0, tt)
hold range (second f ▸ outer) sound entailed world i on =
    all_append (λ g. pos 0 ≤ℤ value g (values_along world outer)) (facts range outer) (denied f ∷ []) (hold range outer sound.1 entailed world i on.1)
    (omega (arith, ints, value-denied f (values_along world outer), on.0), tt)
hold range (lemma f ▸ outer) sound entailed world i on =
    let above = hold range outer sound.1 entailed.1 world i on.1 in
    let v = values_along world outer in
    all_append (λ g. pos 0 ≤ℤ value g v) (facts range outer) (f ∷ []) above
    (entailed.0 v (to_meets v (facts range outer) above), tt)

pub facts_hold : (range : Rect) (path : Path) → AreSound path → AreEntailed range path → (world : World) → IsInRange range world → IsOn path world → Meets (values_along world path) (facts range path)
facts_hold range path sound entailed world i on = to_meets (values_along world path) (facts range path) (hold range path sound entailed world i on)

pub entailed_holds : (range : Rect) (path : Path) → AreSound path → AreEntailed range path → (row : Form) (why : Derivation) → Entails (facts range path) (variables path) row why
    → (world : World) → IsInRange range world → IsOn path world → pos 0 ≤ℤ value row (values_along world path)
entailed_holds range path sound entailed row why entails world i on =
    entailment_law (facts range path) (variables path) row why entails (values_along world path) (facts_hold range path sound entailed world i on)

pub refuted_is_empty : (range : Rect) (path : Path) → AreSound path → AreEntailed range path → (vars : ℕ) (why : Derivation) → Refutes (facts range path) vars why
    → (world : World) → IsInRange range world → IsOn path world → ⊥
refuted_is_empty range path sound entailed vars why refutes world i on = law (facts range path) vars why refutes (values_along world path) (facts_hold range path sound entailed world i on)

-- ---- where the facts hold, the values are those along the path

natural : (z : ℤ) → pos 0 ≤ℤ z → (n : ℕ) × (z ≡ pos n)
natural (pos n) h = (n, refl)
natural (negsuc n) h = absurd (omega (arith, ints))

-- some axes have the values at a world of the range
record AreOf (range : Rect) (some : List Axis) (v : ℕ → ℤ) : Type 0 where
  pub world : World
  pub in_range : IsInRange range world
  pub values : (x : ℕ) → x < length some → v x ≡ number_on (slice_get some x) world

-- the height being another, which no variable stands for
of_two : (range : Rect) (v : ℕ → ℤ) → range.hl ≤ range.hh → AllMeet v (FactsOf range two) → AreOf range two v
of_two range v some h =
    let w = natural (v 0) (omega (arith, ints, h.0)) in
    let s = natural (v 1) (omega (arith, ints, h.1.1.0)) in
    record {
      world = record { w = w.0; s = s.0; h = range.hl };
      in_range = record {
        width_least = omega (arith, ints, h.0, w.1);
        width_most = omega (arith, ints, h.1.0, w.1);
        size_least = omega (arith, ints, h.1.1.0, s.1);
        size_most = omega (arith, ints, h.1.1.1.0, s.1);
        height_least = omega arith;
        height_most = some;
      };
      values = values w.0 s.0 w.1 s.1;
    }
  where
    values : (w s : ℕ) → v 0 ≡ pos w → v 1 ≡ pos s → (x : ℕ) → x < 2 → v x ≡ number_on (slice_get two x) (record { w = w; s = s; h = range.hl })
    values w s e f zero less = e
    values w s e f (suc zero) less = f
    values w s e f (suc (suc x)) less = absurd (omega arith)

of_three : (range : Rect) (v : ℕ → ℤ) → AllMeet v (FactsOf range three) → AreOf range three v
of_three range v h =
    let w = natural (v 0) (omega (arith, ints, h.0)) in
    let s = natural (v 1) (omega (arith, ints, h.1.1.0)) in
    let t = natural (v 2) (omega (arith, ints, h.1.1.1.1.0)) in
    record {
      world = record { w = w.0; s = s.0; h = t.0 };
      in_range = record {
        width_least = omega (arith, ints, h.0, w.1);
        width_most = omega (arith, ints, h.1.0, w.1);
        size_least = omega (arith, ints, h.1.1.0, s.1);
        size_most = omega (arith, ints, h.1.1.1.0, s.1);
        height_least = omega (arith, ints, h.1.1.1.1.0, t.1);
        height_most = omega (arith, ints, h.1.1.1.1.1.0, t.1);
      };
      values = values w.0 s.0 t.0 w.1 s.1 t.1;
    }
  where
    values : (w s t : ℕ) → v 0 ≡ pos w → v 1 ≡ pos s → v 2 ≡ pos t → (x : ℕ) → x < 3 → v x ≡ number_on (slice_get three x) (record { w = w; s = s; h = t })
    values w s t e f g zero less = e
    values w s t e f g (suc zero) less = f
    values w s t e f g (suc (suc zero)) less = g
    values w s t e f g (suc (suc (suc x))) less = absurd (omega arith)

at_root : (form : ℕ) (range : Rect) → IsFormed form range → (v : ℕ → ℤ) → AllMeet v (range_facts form range) → AreAlong range (root form) v
at_root form range formed v h = let of = by_test (form == 2) refl h in record { world = of.world; in_range = of.in_range; on_path = tt; values = of.values }
  where
    by_test : (b : Bool) → (form == 2) ≡ b → AllMeet v (FactsOf range (cond b three two)) → AreOf range (cond b three two) v
    by_test true e h = of_three range v h
    by_test false e h =
        let least = formed.least in
        let most = formed.most in
        let one : range.hl ≡ range.hh = formed.one_height (grind (arith, nat_tests)) in
        of_two range v (omega arith) h

below_def : (range : Rect) (f : Form) (d : ℤ) (outer : Path) → IsSound outer (def f d) → (v : ℕ → ℤ) → AllMeet v (step_facts (variables outer) (def f d))
    → AreAlong range outer v → AreAlong range (def f d ▸ outer) v
below_def range f d outer sound v h above = record { world = above.world; in_range = above.in_range; on_path = (tt, above.on_path); values = values }
  where
    along : ℕ → ℤ
    along = values_along above.world outer

    named : v (variables outer) ≡ int_div_euclid (value f (values_along above.world outer)) d
    named = floor_said f d (variables outer) (values_along above.world outer) v sound.1 (declared_local (variables outer) f sound.0 v (values_along above.world outer) above.values) h

    by_test : (x : ℕ) → x < variables outer + 1 → (b : Bool) → (x == variables outer) ≡ b
        → v x ≡ cond b (int_div_euclid (value f (values_along above.world outer)) d) (values_along above.world outer x)
    by_test x less true e = let same : x ≡ variables outer = grind (arith, nat_tests) in ap v same ∙ named
    by_test x less false e = above.values x (grind (arith, nat_tests))

    values : (x : ℕ) → x < variables outer + 1 → v x ≡ values_along above.world (def f d ▸ outer) x
    values x less = by_test x less (x == variables outer) refl

said : (range : Rect) (path : Path) → IsFormed (form_of path) range → AreSound path → (v : ℕ → ℤ) → AllMeet v (facts range path) → AreAlong range path v
said range (root form) formed sound v h = at_root form range formed v h
said range (def f d ▸ outer) formed sound v h =
    let parts = all_parts (λ g. pos 0 ≤ℤ value g v) (facts range outer) (step_facts (variables outer) (def f d)) h in
    below_def range f d outer sound.0 v parts.1 (said range outer formed sound.1 v parts.0)
said range (first f ▸ outer) formed sound v h =
    let parts = all_parts (λ g. pos 0 ≤ℤ value g v) (facts range outer) (f ∷ []) h in
    let above = said range outer formed sound.1 v parts.0 in
    let same = declared_local (variables outer) f sound.0 v (values_along above.world outer) above.values in
    record { world = above.world; in_range = above.in_range; on_path = (omega (arith, ints, same, parts.1.0), above.on_path); values = above.values }
said range (second f ▸ outer) formed sound v h =
    let parts = all_parts (λ g. pos 0 ≤ℤ value g v) (facts range outer) (denied f ∷ []) h in
    let above = said range outer formed sound.1 v parts.0 in
    let same = declared_local (variables outer) f sound.0 v (values_along above.world outer) above.values in
    record { world = above.world; in_range = above.in_range; on_path = (omega (arith, ints, same, value-denied f v, parts.1.0), above.on_path); values = above.values }
said range (lemma f ▸ outer) formed sound v h =
    let parts = all_parts (λ g. pos 0 ≤ℤ value g v) (facts range outer) (f ∷ []) h in
    let above = said range outer formed sound.1 v parts.0 in
    record { world = above.world; in_range = above.in_range; on_path = (tt, above.on_path); values = above.values }

pub facts_say_all : (range : Rect) (path : Path) → IsFormed (form_of path) range → AreSound path → (v : ℕ → ℤ) → Meets v (facts range path) → AreAlong range path v
facts_say_all range path formed sound v h = said range path formed sound v (from_meets v (facts range path) h)

-- ---- answers

sound_below : (range : Rect) (path : Path) (floors : List (Form × ℤ)) → AreSound path → AreFloors range path floors → AreSound (below_floors path floors)
sound_below range path [] sound h = sound
sound_below range path (t ∷ ts) sound h = sound_below range (def t.0 t.1 ▸ path) ts (def_sound range path t.0 t.1 h.0, sound) h.1

on_below : (path : Path) (floors : List (Form × ℤ)) (world : World) → IsOn path world → IsOn (below_floors path floors) world
on_below path [] world on = on
on_below path (t ∷ ts) world on = on_below (def t.0 t.1 ▸ path) ts world (tt, on)

entailed_below : (range : Rect) (path : Path) (floors : List (Form × ℤ)) → AreEntailed range path → AreEntailed range (below_floors path floors)
entailed_below range path [] entailed = entailed
entailed_below range path (t ∷ ts) entailed = entailed_below range (def t.0 t.1 ▸ path) ts entailed

-- what is on the side where an answer is wrong
wrong_side : (yes : Bool) (row : Form) (v : ℕ → ℤ) → (AllMeet v (step_facts 0 (denial yes row)) → ⊥) → IsAnswer yes (value row v)
wrong_side true row v h = by_lt_z (value row v) (pos 0) (λ below. absurd (h (omega (arith, ints, value-denied row v), tt))) (λ above. above)
wrong_side false row v h = by_lt_z (value row v) (pos 0) (λ below. below) (λ above. absurd (h (above, tt)))

-- the rows of a split do not depend on the next variable
split_facts : (yes : Bool) (row : Form) (x : ℕ) → step_facts x (denial yes row) ≡ step_facts 0 (denial yes row)
split_facts true row x = refl
split_facts false row x = refl

refuted_answer : (range : Rect) (path : Path) (answer : Answer) → AreSound path → AreEntailed range path → IsRefuted range path answer
    → (world : World) → IsInRange range world → IsOn path world → IsAnswer answer.yes (value answer.row (values_along world path))
refuted_answer range path answer sound entailed refuted world i on =
    let v = values_along world path in
    let last = denial answer.yes answer.row in
    wrong_side answer.yes answer.row v (λ h. law (facts range (last ▸ path)) (variables path) answer.why refuted v
    (to_meets v (facts range (last ▸ path)) (all_append (λ g. pos 0 ≤ℤ value g v) (facts range path) (step_facts (variables path) last) (hold range path sound entailed world i on)
    (subst (λ fs. AllMeet v fs) (sym (split_facts answer.yes answer.row (variables path))) h))))

pub answers_are_right : (range : Rect) (path : Path) (floors : List (Form × ℤ)) (answer : Answer) → AreSound path → AreEntailed range path → AreFloors range path floors
    → IsRefuted range (below_floors path floors) answer → (world : World) → IsInRange range world → IsOn path world
    → IsAnswer answer.yes (value answer.row (values_along world (below_floors path floors)))
answers_are_right range path floors answer sound entailed are refuted world i on =
    refuted_answer range (below_floors path floors) answer (sound_below range path floors sound are) (entailed_below range path floors entailed) refuted world i (on_below path floors world on)
