-- Which variable stands for which axis of the worlds.
use Rattle.std.specs.Prelude.{ℕ, ◌==◌, nat_lt, ℤ, pos, Bool, ◌&&◌, List, [], ◌∷◌, length, Option, Some, None, slice_get, if◌then◌else◌}
use Rattle.viz_base.specs.declared.worlds.World.{World}
use Rattle.viz_base.specs.declared.worlds.Axis.{Axis}
use Rattle.viz_base.specs.declared.worlds.Axis.TheVariants.{Width, Size, Height}
use Rattle.viz_base.specs.Worlds.{along}

-- the axes that a job of this form has variables for, in their order: the viewport's width, the default font size, and
-- in form 2 the viewport's height, all in whole pixels
abbrev pub axes : ℕ → List Axis
axes form = if form == 2 then Width ∷ Size ∷ Height ∷ [] else Width ∷ Size ∷ []

-- how many there are; the variables from this one on stand for floors
abbrev pub axis_count : ℕ → ℕ
axis_count form = length (axes form)

-- the axis that a variable stands for
abbrev pub axis_of : ℕ → ℕ → Option Axis
axis_of form x = slice_get (axes form) x

-- the variable that stands for an axis, where the form has it
abbrev pub variable_of : Axis → ℕ
variable_of Width = 0
variable_of Size = 1
variable_of Height = 2

-- whether a variable stands for an axis
abbrev pub stands_for : ℕ → ℕ → Axis → Bool
stands_for form x axis = nat_lt x (axis_count form) && x == variable_of axis

-- the number that a world has on an axis; 0 on none
abbrev pub number_on : Option Axis → World → ℤ
number_on None world = pos 0
number_on (Some axis) world = pos (along axis world)
