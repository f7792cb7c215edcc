-- The rectangle of a path has the worlds at which its unit splits are taken.
use Rattle.std.proofs.Common.{◌≡◌, ℕ, ◌<◌, ◌==◌, ℤ, pos, negsuc, neg_ℤ, ◌+ℤ◌, ◌*ℤ◌, ◌≤ℤ◌, Bool, true, false, cond, nat_lt, Some, [], ◌∷◌, refl, sym, ◌∙◌, ap, subst, arith, inl, inr, IsTrue}
use Rattle.std.specs.Prelude.{◌⊎◌, ◌↔◌}
use Rattle.std.specs.Ordering.{int_eq}
use Rattle.std.specs.Int.{int_max, int_min}
use Rattle.std.proofs.lemmas.Int.{ints, int_max_is, int_min_is}
use Rattle.std.proofs.lemmas.Bool.{and_parts}
use Rattle.std.proofs.lemmas.Bool.Decides.{nat_tests, Decides-int_eq}
use Rattle.viz_base.specs.declared.worlds.World.{World}
use Rattle.viz_base.specs.declared.worlds.Axis.{Axis}
use Rattle.viz_base.specs.declared.worlds.Axis.TheVariants.{Width, Size, Height}
use Rattle.viz_base.specs.declared.worlds.Rect.{Rect}
use Rattle.viz_base.specs.Worlds.{along, IsInRange}
use Rattle.lin_proof.specs.Form.{Form, Terms, value, denied, opposites}
use Rattle.lin_proof.proofs.Values.{value-denied}
use Rattle.lin_proof.specs.Derivations.{are_declared}
use Rattle.cert_semantics.specs.Axes.{variable_of, axis_of, axis_count, stands_for, number_on}
use Rattle.cert_semantics.specs.Paths.{def, first, second, lemma, Path, root, ◌▸◌, form_of, values_at, values_along}
use Rattle.cert_semantics.specs.Rectangles.{Side, Sides, cut_side, cut_sides, left_by_terms, left_by, whole, rectangle}
use Rattle.cert_semantics.specs.Laws.{IsOnSide, IsInside, IsUnit, UnitsAreTaken}
use Rattle.cert_semantics.proofs.Values.{declared_local, axes_along}
use Rattle.cert_semantics.proofs.Variables.{own_axis, some_axis, stands}

-- ---- unit rows

abbrev IsOne : ℤ → Type 0
IsOne c = (c ≡ pos 1) ⊎ (c ≡ negsuc 0)

head_of : ℕ × ℤ → Terms → ℕ × ℤ
head_of none [] = none
head_of none (t ∷ ts) = t

-- the row's variable is that of the unit row
unit_at : (form : ℕ) (k : ℤ) (t : ℕ × ℤ) (u : IsUnit form (record { k = k; terms = t ∷ [] })) → t.0 < axis_count form
unfolding head_of
unit_at form k t u = let is : t.0 ≡ u.variable = ap (λ ts. (head_of t ts).0) u.terms in let less = u.of_axis in omega arith

unit_one : (form : ℕ) (k : ℤ) (t : ℕ × ℤ) → IsUnit form (record { k = k; terms = t ∷ [] }) → IsOne t.1
unfolding head_of
unit_one form k t u = subst IsOne (sym (ap (λ ts. (head_of t ts).1) u.terms)) u.unit

make_unit : (form : ℕ) (k : ℤ) (t : ℕ × ℤ) → t.0 < axis_count form → IsOne t.1 → IsUnit form (record { k = k; terms = t ∷ [] })
make_unit form k t less one = record { variable = t.0; of_axis = less; coefficient = t.1; terms = refl; unit = one }

opposite_one : (c : ℤ) → IsOne c → IsOne (neg_ℤ c)
opposite_one c (inl e) = inr (ap neg_ℤ e)
opposite_one c (inr e) = inl (ap neg_ℤ e)

one_opposite : (c : ℤ) → IsOne (neg_ℤ c) → IsOne c
one_opposite c (inl e) = inr (omega (arith, ints, e))
one_opposite c (inr e) = inl (omega (arith, ints, e))

-- a row is a unit row exactly where its denial is one
unit_denied : (form : ℕ) (row : Form) → IsUnit form row → IsUnit form (denied row)
unit_denied form row u = record {
  variable = u.variable;
  of_axis = u.of_axis;
  coefficient = neg_ℤ u.coefficient;
  terms = ap opposites u.terms;
  unit = opposite_one u.coefficient u.unit;
}

denied_unit_terms : (form : ℕ) (k m : ℤ) (ts : Terms) → IsUnit form (record { k = m; terms = opposites ts }) → IsUnit form (record { k = k; terms = ts })
denied_unit_terms form k m [] u = absurd (cc (u.terms))
denied_unit_terms form k m (t ∷ []) u = make_unit form k t (unit_at form m (t.0, neg_ℤ t.1) u) (one_opposite t.1 (unit_one form m (t.0, neg_ℤ t.1) u))
denied_unit_terms form k m (t ∷ s ∷ ts) u = absurd (cc (u.terms))

denied_unit : (form : ℕ) (row : Form) → IsUnit form (denied row) → IsUnit form row
denied_unit form row u = denied_unit_terms form row.k (denied row).k row.terms u

unit_declared : (n x : ℕ) (c : ℤ) → x < n → IsTrue (are_declared n ((x, c) ∷ []))
unit_declared n x c less = let is : nat_lt x n ≡ true = grind (arith, nat_tests) in rw is refl

-- its value is that at the world, all along a path
unit_value : (row : Form) (world : World) (path : Path) → IsUnit (form_of path) row → value row (values_along world path) ≡ value row (values_at (form_of path) world)
unit_value row world path u =
    declared_local (axis_count (form_of path)) row
    (subst (λ ts. IsTrue (are_declared (axis_count (form_of path)) ts)) (sym u.terms) (unit_declared (axis_count (form_of path)) u.variable u.coefficient u.of_axis))
    (values_along world path) (values_at (form_of path) world) (axes_along world path)

-- ---- sides

rises : (k : ℤ) (side : Side) (n : ℕ) → IsOnSide (record { least = int_max (neg_ℤ k) side.least; most = side.most }) n ↔ (IsOnSide side n × (pos 0 ≤ℤ (k +ℤ (pos 1 *ℤ pos n +ℤ pos 0))))
rises k side n =
    let greatest = int_max_is (neg_ℤ k) side.least in (
      λ h. ((omega (arith, ints, greatest, h.0), h.1), omega (arith, ints, greatest, h.0)),
      λ h. (omega (arith, ints, greatest, h.0.0, h.1), h.0.1),
    )

falls : (k : ℤ) (side : Side) (n : ℕ) → IsOnSide (record { least = side.least; most = int_min k side.most }) n ↔ (IsOnSide side n × (pos 0 ≤ℤ (k +ℤ (negsuc 0 *ℤ pos n +ℤ pos 0))))
falls k side n =
    let least = int_min_is k side.most in (
      λ h. ((h.0, omega (arith, ints, least, h.1)), omega (arith, ints, least, h.1)),
      λ h. (h.0.0, omega (arith, ints, least, h.0.1, h.1)),
    )

-- what cutting a side keeps: the numbers at which the row is at least 0, where its coefficient is 1 or -1
abbrev Kept : ℤ → ℤ → Side → ℕ → Type 0
Kept k c side n = IsOnSide side n × (IsOne c → pos 0 ≤ℤ (k +ℤ (c *ℤ pos n +ℤ pos 0)))

cut_side_is : (k c : ℤ) (side : Side) (n : ℕ) → IsOnSide (cut_side k c side) n ↔ Kept k c side n
cut_side_is k c side n = by_test (int_eq c (pos 1)) refl (int_eq c (negsuc 0)) refl
  where
    by_test : (a : Bool) → int_eq c (pos 1) ≡ a → (b : Bool) → int_eq c (negsuc 0) ≡ b
        → IsOnSide (cond a (record { least = int_max (neg_ℤ k) side.least; most = side.most }) (cond b (record { least = side.least; most = int_min k side.most }) side)) n ↔ Kept k c side n
    by_test true e b f =
        let one = (Decides-int_eq c (pos 1)).0 e in (
          λ h. let all = (rises k side n).0 h in (all.0, λ u. subst (λ d. pos 0 ≤ℤ (k +ℤ (d *ℤ pos n +ℤ pos 0))) (sym one) all.1),
          λ h. (rises k side n).1 (h.0, subst (λ d. pos 0 ≤ℤ (k +ℤ (d *ℤ pos n +ℤ pos 0))) one (h.1 (inl one))),
        )
    by_test false e true f =
        let one = (Decides-int_eq c (negsuc 0)).0 f in (
          λ h. let all = (falls k side n).0 h in (all.0, λ u. subst (λ d. pos 0 ≤ℤ (k +ℤ (d *ℤ pos n +ℤ pos 0))) (sym one) all.1),
          λ h. (falls k side n).1 (h.0, subst (λ d. pos 0 ≤ℤ (k +ℤ (d *ℤ pos n +ℤ pos 0))) one (h.1 (inr one))),
        )
    by_test false e false f = (λ h. (h, none), λ h. h.0)
      where
        none : IsOne c → pos 0 ≤ℤ (k +ℤ (c *ℤ pos n +ℤ pos 0))
        none (inl one) = absurd (cc (e, (Decides-int_eq c (pos 1)).1 one))
        none (inr one) = absurd (cc (f, (Decides-int_eq c (negsuc 0)).1 one))

-- ---- rectangles

-- where the row is a unit row, it is at least 0 at the world
abbrev Keeps : ℕ → Form → World → Type 0
Keeps form row world = IsUnit form row → pos 0 ≤ℤ value row (values_at form world)

-- the same of a row of one term, by the axes that its variable stands for
abbrev KeepsOn : ℕ → ℤ → ℕ × ℤ → World → Axis → Type 0
KeepsOn form k t world axis = IsTrue (stands_for form t.0 axis) → IsOne t.1 → pos 0 ≤ℤ (k +ℤ (t.1 *ℤ pos (along axis world) +ℤ pos 0))

-- the axis for which a variable stands, and the value of that variable
stands_below : (form x : ℕ) (axis : Axis) → IsTrue (stands_for form x axis) → (x < axis_count form) × (x ≡ variable_of axis)
stands_below form x axis stands =
    let both = and_parts (nat_lt x (axis_count form)) (x == variable_of axis) stands in
    (grind (arith, nat_tests, both.0), grind (arith, nat_tests, both.1))

valued : (form x : ℕ) (world : World) (axis : Axis) → axis_of form x ≡ Some axis → values_at form world x ≡ pos (along axis world)
valued form x world axis is = ap (λ o. number_on o world) is

keeps_by : (form : ℕ) (k : ℤ) (t : ℕ × ℤ) (world : World) → ((axis : Axis) → KeepsOn form k t world axis) ↔ Keeps form (record { k = k; terms = t ∷ [] }) world
keeps_by form k t world = (
  λ h u.
      let at = some_axis form t.0 (unit_at form k t u) in
      subst (λ z. pos 0 ≤ℤ (k +ℤ (t.1 *ℤ z +ℤ pos 0))) (sym (valued form t.0 world at.0 at.1)) (h at.0 (stands form t.0 at.0 at.1) (unit_one form k t u)),
  λ h axis stands one.
      let below = stands_below form t.0 axis stands in
      let is : axis_of form t.0 ≡ Some axis = ap (axis_of form) below.1 ∙ own_axis axis form (subst (λ x. x < axis_count form) below.1 below.0) in
      subst (λ z. pos 0 ≤ℤ (k +ℤ (t.1 *ℤ z +ℤ pos 0))) (valued form t.0 world axis is) (h (make_unit form k t below.0 one)),
)

side_is : (form : ℕ) (k : ℤ) (t : ℕ × ℤ) (sides : Sides) (world : World) (axis : Axis)
    → IsOnSide (cut_sides form k t sides axis) (along axis world) ↔ (IsOnSide (sides axis) (along axis world) × KeepsOn form k t world axis)
side_is form k t sides world axis = by_test (stands_for form t.0 axis)
  where
    by_test : (b : Bool)
        → IsOnSide (cond b (cut_side k t.1 (sides axis)) (sides axis)) (along axis world)
        ↔ (IsOnSide (sides axis) (along axis world) × (IsTrue b → IsOne t.1 → pos 0 ≤ℤ (k +ℤ (t.1 *ℤ pos (along axis world) +ℤ pos 0))))
    by_test true =
        let cut = cut_side_is k t.1 (sides axis) (along axis world) in
        (λ h. let all = cut.0 h in (all.0, λ same. all.1), λ h. cut.1 (h.0, h.1 refl))
    by_test false = (λ h. (h, λ stands. absurd (cc)), λ h. h.0)

term_is : (form : ℕ) (k : ℤ) (t : ℕ × ℤ) (sides : Sides) (world : World)
    → IsInside (cut_sides form k t sides) world ↔ (IsInside sides world × Keeps form (record { k = k; terms = t ∷ [] }) world)
term_is form k t sides world = (
  λ h. (λ axis. ((side_is form k t sides world axis).0 (h axis)).0, (keeps_by form k t world).0 (λ axis. ((side_is form k t sides world axis).0 (h axis)).1)),
  λ h axis. (side_is form k t sides world axis).1 (h.0 axis, (keeps_by form k t world).1 h.1 axis),
)

terms_is : (form : ℕ) (k : ℤ) (ts : Terms) (sides : Sides) (world : World)
    → IsInside (left_by_terms form k ts sides) world ↔ (IsInside sides world × Keeps form (record { k = k; terms = ts }) world)
terms_is form k [] sides world = (λ h. (h, λ u. absurd (cc (u.terms))), λ h. h.0)
terms_is form k (t ∷ []) sides world = term_is form k t sides world
terms_is form k (t ∷ u ∷ ts) sides world = (λ h. (h, λ v. absurd (cc (v.terms))), λ h. h.0)

left_by_is : (form : ℕ) (row : Form) (sides : Sides) (world : World) → IsInside (left_by form row sides) world ↔ (IsInside sides world × Keeps form row world)
left_by_is form row sides world = terms_is form row.k row.terms sides world

-- the worlds of a whole rectangle
pub whole_is : (r : Rect) (world : World) → IsInside (whole r) world ↔ IsInRange r world
whole_is r world = (forth, back)
  where
    forth : IsInside (whole r) world → IsInRange r world
    forth h =
        let widths = h Width in
        let sizes = h Size in
        let heights = h Height in
        record {
          width_least = omega (arith, ints, widths.0);
          width_most = omega (arith, ints, widths.1);
          size_least = omega (arith, ints, sizes.0);
          size_most = omega (arith, ints, sizes.1);
          height_least = omega (arith, ints, heights.0);
          height_most = omega (arith, ints, heights.1);
        }

    back : IsInRange r world → IsInside (whole r) world
    back i Width = let a = i.width_least in let b = i.width_most in (omega (arith, ints), omega (arith, ints))
    back i Size = let a = i.size_least in let b = i.size_most in (omega (arith, ints), omega (arith, ints))
    back i Height = let a = i.height_least in let b = i.height_most in (omega (arith, ints), omega (arith, ints))

-- ---- paths

pub rectangle_is_units : (range : Rect) (path : Path) (world : World) → IsInside (rectangle range path) world ↔ (IsInRange range world × UnitsAreTaken path world)
rectangle_is_units range (root form) world = let whole = whole_is range world in (λ h. (whole.0 h, tt), λ h. whole.1 h.0)
rectangle_is_units range (def row d ▸ outer) world =
    let above = rectangle_is_units range outer world in (
      λ h. ((above.0 h).0, (tt, (above.0 h).1)),
      λ h. above.1 (h.0, h.1.1),
    )
rectangle_is_units range (first row ▸ outer) world =
    let above = rectangle_is_units range outer world in
    let cut = left_by_is (form_of outer) row (rectangle range outer) world in (
      λ h. let parts = cut.0 h in
          ((above.0 parts.0).0, (λ u. subst (λ z. pos 0 ≤ℤ z) (sym (unit_value row world outer u)) (parts.1 u), (above.0 parts.0).1)),
      λ h. cut.1 (above.1 (h.0, h.1.1), λ u. subst (λ z. pos 0 ≤ℤ z) (unit_value row world outer u) (h.1.0 u)),
    )
rectangle_is_units range (second row ▸ outer) world =
    let above = rectangle_is_units range outer world in
    let cut = left_by_is (form_of outer) (denied row) (rectangle range outer) world in (
      λ h. let parts = cut.0 h in (
        (above.0 parts.0).0,
        (
          λ u. omega (arith, ints, unit_value row world outer u, value-denied row (values_at (form_of outer) world), parts.1 (unit_denied (form_of outer) row u)),
          (above.0 parts.0).1,
        ),
      ),
      λ h. cut.1 (
        above.1 (h.0, h.1.1),
        λ u. let unit = denied_unit (form_of outer) row u in omega (arith, ints, unit_value row world outer unit, value-denied row (values_at (form_of outer) world), h.1.0 unit),
      ),
    )
rectangle_is_units range (lemma row ▸ outer) world =
    let above = rectangle_is_units range outer world in (
      λ h. ((above.0 h).0, (tt, (above.0 h).1)),
      λ h. above.1 (h.0, h.1.1),
    )
