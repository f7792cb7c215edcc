-- What a list of floats keeps beside them, and what that says. Tops only go down (CSS 2.1, 9.5.1, rules 5 and 6),
-- so a float that ends at the last top or above it stands beside none that comes.
use Rattle.std.specs.Prelude.{◌≡◌, ◌-◌, ◌≤◌, ℕ, ℤ, ◌≤ℤ◌, Bool, IsTrue, List, length, take, slice_get, Contains, Option, Some}
use Rattle.viz_calc.specs.World.{Reading}
use Rattle.layout_semantics.specs.Floats.{FloatBox}
use Rattle.lay_float.specs.Readings.{floats_at}
use Rattle.lay_float.specs.declared.floats.Floats.{Floats}

pub record IsLevel (floats : List FloatBox) (ended : ℕ) (level : ℤ) : Type 0 where
  -- no float begins below this level
  pub tops : (f : FloatBox) → Contains floats f → f.box.top ≤ℤ level
  -- and so many of the first ones end at it or above
  pub bottoms : (f : FloatBox) → Contains (take ended floats) f → f.box.bottom ≤ℤ level

-- the last one's top is such a level, if anything is kept
pub record IsKept (floats : List FloatBox) (kept : Option ℕ) : Type 0 where
  pub within : (ended : ℕ) → kept ≡ Some ended → ended ≤ length floats
  pub level : (ended : ℕ) (last : FloatBox) → kept ≡ Some ended → slice_get floats (length floats - 1) ≡ Some last
      → IsLevel floats ended last.box.top

-- what is kept is true of the floats at each reading that is open
abbrev pub Agree : {N : Type 0} → (N → Reading → ℤ) → (Reading → Bool) → Floats N → Type 0
Agree at is_open floats = (e : Reading) → IsTrue (is_open e) → IsKept (floats_at at floats e) floats.ended
