-- Facts: the rows that a path gives to derivations. Each is at least 0 on the path.
use Rattle.std.specs.Prelude.{ℕ, ℤ, pos, negsuc, neg_ℤ, ◌-ℤ◌, List, [], ◌∷◌, ◌++◌}
use Rattle.std.specs.List.{flat_map}
use Rattle.viz_base.specs.declared.worlds.Axis.{Axis}
use Rattle.viz_base.specs.declared.worlds.Span.{Span}
use Rattle.viz_base.specs.declared.worlds.Rect.{Rect}
use Rattle.viz_base.specs.Worlds.{side_of}
use Rattle.lin_proof.specs.Form.{Form, plus, denied}
use Rattle.cert_semantics.specs.Axes.{variable_of, axes}
use Rattle.cert_semantics.specs.Paths.{Step, def, first, second, lemma, Path, root, ◌▸◌, variables}

-- the row k + c*x
abbrev pub row_of : ℤ → ℤ → ℕ → Form
row_of k c x = record { k = k; terms = (x, c) ∷ [] }

-- x - least and most - x, x being the variable of an axis and these its numbers
abbrev pub side_facts : Axis → Span → List Form
side_facts axis side =
    row_of (neg_ℤ (pos side.least)) (pos 1) (variable_of axis)
    ∷ row_of (pos side.most) (negsuc 0) (variable_of axis)
    ∷ []

-- those of each axis of the form, in the order of their variables
abbrev pub range_facts : ℕ → Rect → List Form
range_facts form r = flat_map (λ axis. side_facts axis (side_of axis r)) (axes form)

-- what a step adds, x being the next variable: a def the rows f - d*x and d*x + d - 1 - f, a split its row on the first
-- side, and its denial -f - 1 on the second, a lemma its row
abbrev pub step_facts : ℕ → Step → List Form
step_facts x (def f d) = plus f (negsuc 0) (row_of (pos 0) d x) ∷ plus (row_of (d -ℤ pos 1) d x) (negsuc 0) f ∷ []
step_facts x (first f) = f ∷ []
step_facts x (second f) = denied f ∷ []
step_facts x (lemma f) = f ∷ []

-- the facts of a path, numbered from 0 in this order: those of the range, then those of the steps from the root down
abbrev pub facts : Rect → Path → List Form
facts range (root form) = range_facts form range
facts range (step ▸ outer) = facts range outer ++ step_facts (variables outer) step
