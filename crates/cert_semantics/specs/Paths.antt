-- Paths: the steps from the root of a certificate down to a node, what the variables are along them, and the worlds
-- that lie on them.
use Rattle.std.specs.Prelude.{◌≡◌, ◌⊎◌, ℕ, ◌+◌, ◌==◌, ℤ, pos, ◌≤ℤ◌, ◌<ℤ◌, Bool, if◌then◌else◌, IsTrue, ⊤}
use Rattle.std.specs.Int.{int_div_euclid}
use Rattle.viz_base.specs.declared.worlds.World.{World}
use Rattle.lin_proof.specs.Form.{Form, value}
use Rattle.lin_proof.specs.Derivations.{are_declared}
use Rattle.cert_semantics.specs.Axes.{axis_count, axis_of, number_on}

-- a step from a node down to a child of it
pub data Step : Type 0 where
  -- below a def: the next variable is the row's value divided by the number and rounded down
  def : Form → ℤ → Step
  -- to the first child of a split: the row is at least 0
  first : Form → Step
  -- to the second child of a split: the row is below 0
  second : Form → Step
  -- below a lemma: the row is at least 0, as was derived
  lemma : Form → Step

infixr 5 ◌▸◌
-- the steps from the root of a certificate, for a job of a form, down to a node, the last of them in front
pub data Path : Type 0 where
  root : ℕ → Path
  ◌▸◌ : Step → Path → Path

-- the step is one of the path's
abbrev pub HasStep : Step → Path → Type 0
HasStep step (root form) = ⊥
HasStep step (other ▸ outer) = (other ≡ step) ⊎ HasStep step outer

-- the form of the job
abbrev pub form_of : Path → ℕ
form_of (root form) = form
form_of (step ▸ outer) = form_of outer

-- ---- variables: the first stand for the axes of the form; each def takes the next one

-- how many variables are declared along a path
abbrev pub variables : Path → ℕ
variables (root form) = axis_count form
variables (def row d ▸ outer) = variables outer + 1
variables (first row ▸ outer) = variables outer
variables (second row ▸ outer) = variables outer
variables (lemma row ▸ outer) = variables outer

-- the values v, but n for the variable x
abbrev pub with_value : (ℕ → ℤ) → ℕ → ℤ → ℕ → ℤ
with_value v x n y = if y == x then n else v y

-- what the variables are where no floor is named; those that are not declared count 0
abbrev pub values_at : ℕ → World → ℕ → ℤ
values_at form world x = number_on (axis_of form x) world

-- the values v, but for the variable x the row's value divided by d and rounded down
abbrev pub with_floor : Form → ℤ → (ℕ → ℤ) → ℕ → ℕ → ℤ
with_floor row d v x = with_value v x (int_div_euclid (value row v) d)

-- what the variables are along a path at a world
abbrev pub values_along : World → Path → ℕ → ℤ
values_along world (root form) = values_at form world
values_along world (def row d ▸ outer) = with_floor row d (values_along world outer) (variables outer)
values_along world (first row ▸ outer) = values_along world outer
values_along world (second row ▸ outer) = values_along world outer
values_along world (lemma row ▸ outer) = values_along world outer

-- ---- worlds

-- the step is taken where the variables have these values
abbrev pub IsTaken : (ℕ → ℤ) → Step → Type 0
IsTaken v (def row d) = ⊤
IsTaken v (first row) = pos 0 ≤ℤ value row v
IsTaken v (second row) = value row v <ℤ pos 0
IsTaken v (lemma row) = ⊤

-- the world lies on the path: each step is taken there, by what the variables are along the steps above it
abbrev pub IsOn : Path → World → Type 0
IsOn (root form) world = ⊤
IsOn (step ▸ outer) world = IsTaken (values_along world outer) step × IsOn outer world

-- ---- declared rows

-- the row has no other variables than those that are declared along the path
abbrev pub is_declared : Path → Form → Bool
is_declared path row = are_declared (variables path) row.terms

-- below these steps it stands so: the step's row has no other variables, and a def's number is above 0
abbrev pub IsSound : Path → Step → Type 0
IsSound outer (def row d) = IsTrue (is_declared outer row) × (pos 0 <ℤ d)
IsSound outer (first row) = IsTrue (is_declared outer row)
IsSound outer (second row) = IsTrue (is_declared outer row)
IsSound outer (lemma row) = IsTrue (is_declared outer row)

-- each step of the path stands so below those above it
abbrev pub AreSound : Path → Type 0
AreSound (root form) = ⊤
AreSound (step ▸ outer) = IsSound outer step × AreSound outer
