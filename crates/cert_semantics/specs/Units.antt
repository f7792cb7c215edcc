-- Unit rows, where they are at least 0, and what a split by one leaves of a rectangle.
use Rattle.std.specs.Prelude.{ℕ, ℤ, pos, negsuc, neg_ℤ, ◌-ℤ◌, Bool, IsTrue, [], ◌∷◌, Option, Some, None, is_some, ⊤, if◌then◌else◌}
use Rattle.std.specs.Ordering.{int_eq}
use Rattle.std.specs.Option.{option_and_then}
use Rattle.viz_base.specs.declared.worlds.Rect.{Rect}
use Rattle.viz_base.specs.declared.worlds.Axis.{Axis}
use Rattle.viz_base.specs.declared.rectangles.Child.{Child}
use Rattle.viz_base.specs.declared.rectangles.Opens.TheVariants.{Above, UpTo}
use Rattle.viz_base.specs.declared.rectangles.Cut.{Cut}
use Rattle.viz_base.specs.Rectangles.{part_of}
use Rattle.lin_proof.specs.Form.{Form, Terms}
use Rattle.cert_semantics.specs.Axes.{axis_of, variable_of}
use Rattle.cert_semantics.specs.Paths.{def, first, second, lemma, Path, root, ◌▸◌, form_of}

-- ---- unit rows: those with one variable, which stands for an axis of the job's form, and the coefficient 1 or -1

-- `k + x` is at least 0 exactly where x is above `-k - 1`, and `k - x` where x is at most k
abbrev pub coefficient_cut : ℤ → Axis → ℤ → Option Cut
coefficient_cut k axis c =
    if int_eq c (pos 1) then Some (record { axis = axis; opens = Above; bound = neg_ℤ k -ℤ pos 1 })
    else if int_eq c (negsuc 0) then Some (record { axis = axis; opens = UpTo; bound = k })
    else None

abbrev pub terms_cut : ℕ → ℤ → Terms → Option Cut
terms_cut form k [] = None
terms_cut form k (t ∷ []) = option_and_then (λ axis. coefficient_cut k axis t.1) (axis_of form t.0)
terms_cut form k (t ∷ u ∷ ts) = None

-- where a unit row is at least 0; None of another row
abbrev pub cut_of : ℕ → Form → Option Cut
cut_of form row = terms_cut form row.k row.terms

abbrev pub is_unit : ℕ → Form → Bool
is_unit form row = is_some (cut_of form row)

-- each step of the path is to a child of a split by a unit row
abbrev pub AreUnits : Path → Type 0
AreUnits (root form) = ⊤
AreUnits (def row d ▸ outer) = ⊥
AreUnits (first row ▸ outer) = IsTrue (is_unit (form_of outer) row) × AreUnits outer
AreUnits (second row ▸ outer) = IsTrue (is_unit (form_of outer) row) × AreUnits outer
AreUnits (lemma row ▸ outer) = ⊥

-- the row that is at least 0 where a world is at most a number on an axis
abbrev pub row_up_to : Axis → ℕ → Form
row_up_to axis m = record { k = pos m; terms = (variable_of axis, negsuc 0) ∷ [] }

-- a split by another row leaves the whole rectangle
abbrev pub cut_at : Option Cut → Child → Rect → Option Rect
cut_at (Some cut) child r = part_of cut child r
cut_at None child r = Some r
