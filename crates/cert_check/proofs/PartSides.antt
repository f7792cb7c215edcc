-- The part of the range that unit splits leave, and the sides that the rectangle of a path has.
use Rattle.std.proofs.Common.{◌≡◌, ℕ, ◌+◌, ◌*◌, ◌==◌, ◌<◌, ◌≤◌, ℤ, pos, negsuc, neg_ℤ, ◌+ℤ◌, ◌-ℤ◌, ◌≤ℤ◌, ◌<ℤ◌, Bool, true, false, cond, nat_lt, nat_le, ◌&&◌, [], ◌∷◌, min, max, Option, Some, None, refl, sym, ◌∙◌, ap, subst, arith}
use Rattle.std.specs.Prelude.{IfSome}
use Rattle.std.specs.Ordering.{int_eq}
use Rattle.std.specs.Option.{option_map, option_and_then}
use Rattle.std.specs.Int.{int_gap, int_max, int_min}
use Rattle.std.proofs.lemmas.Int.{ints, int_max_is, int_min_is}
use Rattle.std.proofs.lemmas.Bool.Decides.{nat_tests, Decides-int_eq}
use Rattle.viz_base.specs.declared.worlds.World.{World}
use Rattle.viz_base.specs.declared.worlds.Axis.{Axis}
use Rattle.viz_base.specs.declared.worlds.Axis.TheVariants.{Width, Size, Height}
use Rattle.viz_base.specs.declared.worlds.Span.{Span}
use Rattle.viz_base.specs.declared.worlds.Rect.{Rect}
use Rattle.viz_base.specs.Worlds.{side_of, with_side, world_count as count_of, IsInRange}
use Rattle.viz_base.specs.declared.jobs.Job.{Job}
use Rattle.lin_proof.specs.Form.{Form, Terms, denied}
use Rattle.cert_semantics.specs.Axes.{variable_of, axis_of, stands_for}
use Rattle.cert_semantics.specs.Rectangles.{Side, Sides, cut_sides, cut_side as cut_a_side, left_by, left_by_terms, side_from, whole, rectangle, count, world_count}
use Rattle.cert_semantics.specs.Paths.{Step, first, second, Path, ◌▸◌, form_of, variables}
use Rattle.cert_semantics.specs.Laws.{IsInside}
use Rattle.cert_semantics.proofs.Variables.{axis_has, stands}
use Rattle.cert_semantics.proofs.Sides.{whole_is}
use Rattle.viz_base.specs.declared.rectangles.Child.{Child}
use Rattle.viz_base.specs.declared.rectangles.Child.TheVariants.{First, Second}
use Rattle.viz_base.specs.declared.rectangles.Cut.{Cut}
use Rattle.viz_base.specs.declared.rectangles.Opens.TheVariants.{Above, UpTo}
use Rattle.viz_base.specs.Rectangles.{IsWithin, at_most, above, cut_side, toward, IsProper}
use Rattle.cert_semantics.specs.Units.{coefficient_cut, terms_cut, cut_of, cut_at}
use Rattle.cert_check.specs.steps.Grids.{IsPart}
use Rattle.cert_check.proofs.Parts.{int_test, of_some_axis, of_no_axis, child_within}

-- ---- one side

-- the numbers that are left are those of a span, or none
abbrev IsSide : Option Span → Side → Type 0
IsSide None s = s.most <ℤ s.least
IsSide (Some t) s = (t.least ≤ t.most) × (s ≡ side_from t)

rises : (k : ℤ) (s : Span) → s.least ≤ s.most → (b : ℤ) → b ≡ neg_ℤ k -ℤ pos 1 → IsSide (above b s) (record { least = int_max (neg_ℤ k) (pos s.least); most = pos s.most })
rises k s proper (pos b) is = by_test (nat_lt b s.most) refl
  where
    by_test : (t : Bool) → nat_lt b s.most ≡ t → IsSide (cond t (Some (record { least = max (b + 1) s.least; most = s.most })) None) (record { least = int_max (neg_ℤ k) (pos s.least); most = pos s.most })
    by_test true e =
        let less : b < s.most = grind (arith, nat_tests) in
        let least : int_max (neg_ℤ k) (pos s.least) ≡ pos (max (b + 1) s.least) = omega (arith, ints, int_max_is (neg_ℤ k) (pos s.least), is) in
        (omega arith, λ i. record { least = least i; most = pos s.most })
    by_test false e = let most : s.most ≤ b = grind (arith, nat_tests) in omega (arith, ints, int_max_is (neg_ℤ k) (pos s.least), is, most)
rises k s proper (negsuc b) is =
    let least : int_max (neg_ℤ k) (pos s.least) ≡ pos s.least = omega (arith, ints, int_max_is (neg_ℤ k) (pos s.least), is) in
    (proper, λ i. record { least = least i; most = pos s.most })

falls : (k : ℤ) (s : Span) → s.least ≤ s.most → IsSide (at_most k s) (record { least = pos s.least; most = int_min k (pos s.most) })
falls (pos b) s proper = by_test (nat_le s.least b) refl
  where
    by_test : (t : Bool) → nat_le s.least b ≡ t → IsSide (cond t (Some (record { least = s.least; most = min b s.most })) None) (record { least = pos s.least; most = int_min (pos b) (pos s.most) })
    by_test true e =
        let less : s.least ≤ b = grind (arith, nat_tests) in
        let most : int_min (pos b) (pos s.most) ≡ pos (min b s.most) = omega (arith, ints, int_min_is (pos b) (pos s.most)) in
        (omega arith, λ i. record { least = pos s.least; most = most i })
    by_test false e = let less : b < s.least = grind (arith, nat_tests) in omega (arith, ints, int_min_is (pos b) (pos s.most), less)
falls (negsuc b) s proper = omega (arith, ints, int_min_is (negsuc b) (pos s.most))

-- none stays none
none_stays : (k c : ℤ) (s : Side) → s.most <ℤ s.least → (cut_a_side k c s).most <ℤ (cut_a_side k c s).least
none_stays k c s none = by_tests (int_eq c (pos 1)) (int_eq c (negsuc 0))
  where
    by_tests : (a b : Bool) → (cond a (record { least = int_max (neg_ℤ k) s.least; most = s.most }) (cond b (record { least = s.least; most = int_min k s.most }) s)).most
        <ℤ (cond a (record { least = int_max (neg_ℤ k) s.least; most = s.most }) (cond b (record { least = s.least; most = int_min k s.most }) s)).least
    by_tests true b = omega (arith, ints, int_max_is (neg_ℤ k) s.least, none)
    by_tests false true = omega (arith, ints, int_min_is k s.most, none)
    by_tests false false = none

-- ---- a unit row on one side, at either child

abbrev side_after : ℤ → ℤ → Child → Side → Side
side_after k c First s = cut_a_side k c s
side_after k c Second s = cut_a_side (neg_ℤ k -ℤ pos 1) (neg_ℤ c) s

abbrev span_after : Option Cut → Child → Span → Option Span
span_after (Some cut) child s = cut_side (toward child cut.opens) cut.bound s
span_after None child s = Some s

abbrev cut_by : Bool → Bool → ℤ → Axis → Option Cut
cut_by p q k axis = cond p (Some (record { axis = axis; opens = Above; bound = neg_ℤ k -ℤ pos 1 })) (cond q (Some (record { axis = axis; opens = UpTo; bound = k })) None)

abbrev side_by : Bool → Bool → ℤ → Side → Side
side_by p q k s = cond p (record { least = int_max (neg_ℤ k) s.least; most = s.most }) (cond q (record { least = s.least; most = int_min k s.most }) s)

coefficient_after : (k c : ℤ) (axis : Axis) (child : Child) (s : Span) → s.least ≤ s.most → IsSide (span_after (coefficient_cut k axis c) child s) (side_after k c child (side_from s))
coefficient_after k c axis First s proper = by_tests (int_eq c (pos 1)) refl (int_eq c (negsuc 0)) refl
  where
    by_tests : (p : Bool) → int_eq c (pos 1) ≡ p → (q : Bool) → int_eq c (negsuc 0) ≡ q → IsSide (span_after (cut_by p q k axis) First s) (side_by p q k (side_from s))
    by_tests true e q f = rises k s proper (neg_ℤ k -ℤ pos 1) refl
    by_tests false e true f = falls k s proper
    by_tests false e false f = (proper, refl)
coefficient_after k c axis Second s proper = by_tests (int_eq c (pos 1)) refl (int_eq c (negsuc 0)) refl (int_eq (neg_ℤ c) (pos 1)) refl (int_eq (neg_ℤ c) (negsuc 0)) refl
  where
    turned : neg_ℤ (neg_ℤ k -ℤ pos 1) -ℤ pos 1 ≡ k
    turned = omega (arith, ints)

    is_one : (d : ℤ) → int_eq d (pos 1) ≡ true → d ≡ pos 1
    is_one d e = int_test d (pos 1) e

    minus_one : (d : ℤ) → int_eq d (negsuc 0) ≡ true → d ≡ negsuc 0
    minus_one d e = int_test d (negsuc 0) e

    apart : (b : Bool) → b ≡ true → b ≡ false → ⊥
    apart true e f = absurd (cc)
    apart false e f = absurd (cc)

    by_tests : (p : Bool) → int_eq c (pos 1) ≡ p → (q : Bool) → int_eq c (negsuc 0) ≡ q → (t : Bool) → int_eq (neg_ℤ c) (pos 1) ≡ t → (u : Bool) → int_eq (neg_ℤ c) (negsuc 0) ≡ u
        → IsSide (span_after (cut_by p q k axis) Second s) (side_by t u (neg_ℤ k -ℤ pos 1) (side_from s))
    by_tests true e q f true g u h = absurd (let a = is_one c e in let b = is_one (neg_ℤ c) g in omega (arith, ints, a, b))
    by_tests true e q f false g true h = falls (neg_ℤ k -ℤ pos 1) s proper
    by_tests true e q f false g false h = absurd (apart (int_eq (neg_ℤ c) (negsuc 0)) ((Decides-int_eq (neg_ℤ c) (negsuc 0)).1 (ap neg_ℤ (is_one c e))) h)
    by_tests false e true f true g u h = rises (neg_ℤ k -ℤ pos 1) s proper k (sym turned)
    by_tests false e true f false g u h = absurd (apart (int_eq (neg_ℤ c) (pos 1)) ((Decides-int_eq (neg_ℤ c) (pos 1)).1 (ap neg_ℤ (minus_one c f))) g)
    by_tests false e false f true g u h = absurd (apart (int_eq c (negsuc 0)) ((Decides-int_eq c (negsuc 0)).1 (let a = is_one (neg_ℤ c) g in omega (arith, ints, a))) f)
    by_tests false e false f false g true h = absurd (apart (int_eq c (pos 1)) ((Decides-int_eq c (pos 1)).1 (let a = minus_one (neg_ℤ c) h in omega (arith, ints, a))) e)
    by_tests false e false f false g false h = (proper, refl)

-- ---- rectangles

abbrev pub left_child : ℕ → Form → Child → Sides → Sides
left_child form row First sides = left_by form row sides
left_child form row Second sides = left_by form (denied row) sides

-- where another side is left on one axis, the others being a rectangle's
part_by : (axis : Axis) (r : Rect) (o : Option Span) (sides : Sides) → IsProper r → IsSide o (sides axis) → ((other : Axis) → (variable_of axis == variable_of other) ≡ false → sides other ≡ whole r other)
    → IsPart (option_map (with_side axis r) o) sides
part_by axis r None sides proper h rest = (axis, h)
part_by Width r (Some t) sides proper h rest = (record { widths = h.0; sizes = proper.sizes; heights = proper.heights }, λ i other. at other i)
  where
    at : (other : Axis) → sides other ≡ whole (with_side Width r t) other
    at Width = h.1
    at Size = rest Size refl
    at Height = rest Height refl
part_by Size r (Some t) sides proper h rest = (record { widths = proper.widths; sizes = h.0; heights = proper.heights }, λ i other. at other i)
  where
    at : (other : Axis) → sides other ≡ whole (with_side Size r t) other
    at Width = rest Width refl
    at Size = h.1
    at Height = rest Height refl
part_by Height r (Some t) sides proper h rest = (record { widths = proper.widths; sizes = proper.sizes; heights = h.0 }, λ i other. at other i)
  where
    at : (other : Axis) → sides other ≡ whole (with_side Height r t) other
    at Width = rest Width refl
    at Size = rest Size refl
    at Height = h.1

-- a cut of an axis leaves what it leaves of the axis's side
axis_cut : (k c : ℤ) (axis : Axis) (child : Child) (r : Rect) → cut_at (coefficient_cut k axis c) child r ≡ option_map (with_side axis r) (span_after (coefficient_cut k axis c) child (side_of axis r))
axis_cut k c axis child r = by_tests (int_eq c (pos 1)) (int_eq c (negsuc 0)) axis
  where
    by_tests : (p q : Bool) (axis : Axis) → cut_at (cut_by p q k axis) child r ≡ option_map (with_side axis r) (span_after (cut_by p q k axis) child (side_of axis r))
    by_tests true q axis = refl
    by_tests false true axis = refl
    by_tests false false Width = refl
    by_tests false false Size = refl
    by_tests false false Height = refl

-- the sides that a row of one term leaves, at either child
abbrev sides_of_term : ℕ → ℤ → ℕ × ℤ → Child → Sides → Sides
sides_of_term form k t First sides = cut_sides form k t sides
sides_of_term form k t Second sides = cut_sides form (neg_ℤ k -ℤ pos 1) (t.0, neg_ℤ t.1) sides

cut_at_axis : (form : ℕ) (k : ℤ) (t : ℕ × ℤ) (sides : Sides) (axis : Axis) → stands_for form t.0 axis ≡ true → cut_sides form k t sides axis ≡ cut_a_side k t.1 (sides axis)
cut_at_axis form k t sides axis at = ap (λ b. cond b (cut_a_side k t.1 (sides axis)) (sides axis)) at

cut_besides : (form : ℕ) (k : ℤ) (t : ℕ × ℤ) (sides : Sides) (axis : Axis) → stands_for form t.0 axis ≡ false → cut_sides form k t sides axis ≡ sides axis
cut_besides form k t sides axis other = ap (λ b. cond b (cut_a_side k t.1 (sides axis)) (sides axis)) other

sides_at : (form : ℕ) (k : ℤ) (t : ℕ × ℤ) (child : Child) (sides : Sides) (axis : Axis) → stands_for form t.0 axis ≡ true → sides_of_term form k t child sides axis ≡ side_after k t.1 child (sides axis)
sides_at form k t First sides axis at = cut_at_axis form k t sides axis at
sides_at form k t Second sides axis at = cut_at_axis form (neg_ℤ k -ℤ pos 1) (t.0, neg_ℤ t.1) sides axis at

sides_besides : (form : ℕ) (k : ℤ) (t : ℕ × ℤ) (child : Child) (sides : Sides) (axis : Axis) → stands_for form t.0 axis ≡ false → sides_of_term form k t child sides axis ≡ sides axis
sides_besides form k t First sides axis other = cut_besides form k t sides axis other
sides_besides form k t Second sides axis other = cut_besides form (neg_ℤ k -ℤ pos 1) (t.0, neg_ℤ t.1) sides axis other

proper_side : (axis : Axis) (r : Rect) → IsProper r → (side_of axis r).least ≤ (side_of axis r).most
proper_side Width r proper = proper.widths
proper_side Size r proper = proper.sizes
proper_side Height r proper = proper.heights

-- a variable stands for no other axis than its own
apart_from : (form x : ℕ) (axis other : Axis) → axis_of form x ≡ Some axis → (variable_of axis == variable_of other) ≡ false → stands_for form x other ≡ false
apart_from form x axis other e apart =
    let less = of_some_axis form x axis e in
    let not_it : (x == variable_of other) ≡ false = subst (λ y. (y == variable_of other) ≡ false) (sym (axis_has form x axis e)) apart in
    λ i. less i && not_it i

term_part : (form : ℕ) (k : ℤ) (t : ℕ × ℤ) (child : Child) (r : Rect) → IsProper r → IsPart (cut_at (terms_cut form k (t ∷ [])) child r) (sides_of_term form k t child (whole r))
term_part form k t child r proper = by_axis (axis_of form t.0) refl
  where
    by_axis : (o : Option Axis) → axis_of form t.0 ≡ o → IsPart (cut_at (option_and_then (λ axis. coefficient_cut k axis t.1) o) child r) (sides_of_term form k t child (whole r))
    by_axis None e = (proper, λ i axis. sides_besides form k t child (whole r) axis (of_no_axis form t.0 e axis) i)
    by_axis (Some axis) e =
        let at = stands form t.0 axis e in
        let left = span_after (coefficient_cut k axis t.1) child (side_of axis r) in
        let is = coefficient_after k t.1 axis child (side_of axis r) (proper_side axis r proper) in
        subst (λ o. IsPart o (sides_of_term form k t child (whole r))) (sym (axis_cut k t.1 axis child r))
        (part_by axis r left (sides_of_term form k t child (whole r)) proper (subst (IsSide left) (sym (sides_at form k t child (whole r) axis at)) is)
        (λ other apart. sides_besides form k t child (whole r) other (apart_from form t.0 axis other e apart)))

terms_part : (form : ℕ) (k : ℤ) (ts : Terms) (child : Child) (r : Rect) → IsProper r → IsPart (cut_at (terms_cut form k ts) child r) (left_child form (record { k = k; terms = ts }) child (whole r))
terms_part form k [] First r proper = (proper, refl)
terms_part form k [] Second r proper = (proper, refl)
terms_part form k (t ∷ []) First r proper = term_part form k t First r proper
terms_part form k (t ∷ []) Second r proper = term_part form k t Second r proper
terms_part form k (t ∷ u ∷ ts) First r proper = (proper, refl)
terms_part form k (t ∷ u ∷ ts) Second r proper = (proper, refl)

-- where nothing is left, nothing is
abbrev IsEmpty : Sides → Type 0
IsEmpty sides = (axis : Axis) × ((sides axis).most <ℤ (sides axis).least)

term_empty : (form : ℕ) (k : ℤ) (t : ℕ × ℤ) (sides : Sides) → IsEmpty sides → IsEmpty (cut_sides form k t sides)
term_empty form k t sides h = (h.0, by_test (stands_for form t.0 h.0))
  where
    by_test : (b : Bool) → (cond b (cut_a_side k t.1 (sides h.0)) (sides h.0)).most <ℤ (cond b (cut_a_side k t.1 (sides h.0)) (sides h.0)).least
    by_test true = none_stays k t.1 (sides h.0) h.1
    by_test false = h.1

terms_empty : (form : ℕ) (k : ℤ) (ts : Terms) (sides : Sides) → IsEmpty sides → IsEmpty (left_by_terms form k ts sides)
terms_empty form k [] sides h = h
terms_empty form k (t ∷ []) sides h = term_empty form k t sides h
terms_empty form k (t ∷ u ∷ ts) sides h = h

child_empty : (form : ℕ) (row : Form) (child : Child) (sides : Sides) → IsEmpty sides → IsEmpty (left_child form row child sides)
child_empty form row First sides h = terms_empty form row.k row.terms sides h
child_empty form row Second sides h = terms_empty form (denied row).k (denied row).terms sides h

pub child_sides : (form : ℕ) (row : Form) (child : Child) (part : Option Rect) (sides : Sides) → IsPart part sides → IsPart (option_and_then (cut_at (cut_of form row) child) part) (left_child form row child sides)
child_sides form row child None sides h = child_empty form row child sides h
child_sides form row child (Some r) sides h = subst (λ s. IsPart (cut_at (cut_of form row) child r) (left_child form row child s)) (sym h.1) (terms_part form row.k row.terms child r h.0)

-- ---- how many worlds, and which

gap_none : (l n : ℤ) → n ≤ℤ l → int_gap l n ≡ 0
gap_none (pos a) (pos b) h = let le : b ≤ a = omega (arith, ints, h) in omega arith
gap_none (pos a) (negsuc b) h = refl
gap_none (negsuc a) (pos b) h = absurd (omega (arith, ints, h))
gap_none (negsuc a) (negsuc b) h = let le : a ≤ b = omega (arith, ints, h) in omega arith

none_counted : (s : Side) → s.most <ℤ s.least → count s ≡ 0
none_counted s h = gap_none s.least (s.most +ℤ pos 1) (omega (arith, ints, h))

pub none_small : (sides : Sides) → IsPart None sides → nat_le (world_count sides) 64 ≡ true
none_small sides h = by_axis h.0 (none_counted (sides h.0) h.1)
  where
    zero_first : (m n : ℕ) → nat_le (0 * m * n) 64 ≡ true
    zero_first m n = let none : 0 * m * n ≡ 0 = omega arith in ap (λ k. nat_le k 64) none

    zero_middle : (m n : ℕ) → nat_le (m * 0 * n) 64 ≡ true
    zero_middle m n = let none : m * 0 * n ≡ 0 = omega arith in ap (λ k. nat_le k 64) none

    zero_last : (n : ℕ) → nat_le (n * 0) 64 ≡ true
    zero_last n = let none : n * 0 ≡ 0 = omega arith in ap (λ k. nat_le k 64) none

    by_axis : (axis : Axis) → count (sides axis) ≡ 0 → nat_le (world_count sides) 64 ≡ true
    by_axis Width e = ap (λ n. nat_le (n * count (sides Size) * count (sides Height)) 64) e ∙ zero_first (count (sides Size)) (count (sides Height))
    by_axis Size e = ap (λ n. nat_le (count (sides Width) * n * count (sides Height)) 64) e ∙ zero_middle (count (sides Width)) (count (sides Height))
    by_axis Height e = ap (λ n. nat_le (count (sides Width) * count (sides Size) * n) 64) e ∙ zero_last (count (sides Width) * count (sides Size))

pub some_count : (r : Rect) (sides : Sides) → IsPart (Some r) sides → world_count sides ≡ count_of r
some_count r sides h = ap world_count h.1

pub none_inside : (sides : Sides) → IsPart None sides → (world : World) → IsInside sides world → ⊥
none_inside sides h world i =
    let at = i h.0 in
    let a = at.0 in
    let b = at.1 in
    let none = h.1 in
    absurd (omega (arith, ints, none, a, b))

pub inside_part : (r : Rect) (sides : Sides) → IsPart (Some r) sides → (world : World) → IsInside sides world → IsInRange r world
inside_part r sides h world i = (whole_is r world).0 (subst (λ s. IsInside s world) h.1 i)

pub part_inside : (r : Rect) (sides : Sides) → IsPart (Some r) sides → (world : World) → IsInRange r world → IsInside sides world
part_inside r sides h world i = subst (λ s. IsInside s world) (sym h.1) ((whole_is r world).1 i)

-- ---- the part under a child

pub cut_within : (o : Option Cut) (child : Child) (outer : Rect) (part : Option Rect) → IfSome part (IsWithin outer) → IfSome (option_and_then (cut_at o child) part) (IsWithin outer)
cut_within (Some cut) child outer None h = tt
cut_within (Some cut) child outer (Some r) h = child_within cut child outer (Some r) h
cut_within None child outer None h = tt
cut_within None child outer (Some r) h = h

abbrev pub step_at : Child → Form → Step
step_at First row = first row
step_at Second row = second row

module _ (row : Form) (child : Child) (old new : Job) (path below : Path) (part under : Option Rect) (same : new ≡ old) (down : below ≡ step_at child row ▸ path) (is : under ≡ option_and_then (cut_at (cut_of (form_of path) row) child) part) where
  pub variables_under : (n : ℕ) → variables path ≤ n → variables below ≤ n
  variables_under n le = by_child child down
    where
      by_child : (c : Child) → below ≡ step_at c row ▸ path → variables below ≤ n
      by_child First d = subst (λ p. variables p ≤ n) (sym d) le
      by_child Second d = subst (λ p. variables p ≤ n) (sym d) le

  pub part_under : IsPart part (rectangle old.range path) → IsPart under (rectangle new.range below)
  part_under h =
      subst (λ (j : Job). IsPart under (rectangle j.range below)) (sym same) (subst (λ o. IsPart o (rectangle old.range below)) (sym is) (by_child child down))
    where
      by_child : (c : Child) → below ≡ step_at c row ▸ path → IsPart (option_and_then (cut_at (cut_of (form_of path) row) c) part) (rectangle old.range below)
      by_child First d = subst (λ p. IsPart (option_and_then (cut_at (cut_of (form_of path) row) First) part) (rectangle old.range p)) (sym d) (child_sides (form_of path) row First part (rectangle old.range path) h)
      by_child Second d = subst (λ p. IsPart (option_and_then (cut_at (cut_of (form_of path) row) Second) part) (rectangle old.range p)) (sym d) (child_sides (form_of path) row Second part (rectangle old.range path) h)

  pub within_under : IfSome part (IsWithin old.range) → IfSome under (IsWithin new.range)
  within_under h = subst (λ (j : Job). IfSome under (IsWithin j.range)) (sym same) (subst (λ o. IfSome o (IsWithin old.range)) (sym is) (cut_within (cut_of (form_of path) row) child old.range part h))
