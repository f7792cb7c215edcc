-- Floats that are tried one after another (CSS 2.1, 9.5.1). None that comes may stand above the top of the last one, so a
-- float that ends above that top stands beside none of them, and need not be looked at again.
use Rattle.std.specs.Prelude.{ℤ, int_lt, List, [], ◌∷◌, filter, Option}
use Rattle.viz_base.specs.declared.layouts.Extent.{Extent}
use Rattle.viz_base.specs.declared.layouts.Spot.{Spot}
use Rattle.viz_base.specs.declared.layouts.Waiting.{Waiting}
use Rattle.viz_base.specs.declared.trees.BoxTree.{BoxTree}
use Rattle.layout_semantics.specs.Floats.{FloatBox, Floating, floating, float_spot, with_float_at}

pub record Tried : Type 0 where
  -- the floats of the context, in order
  pub all : List FloatBox
  -- those beside which the next one may stand
  pub near : List FloatBox
  -- the top of the last one
  pub level : ℤ

-- the floats that end below a level
abbrev pub reaching : ℤ → List FloatBox → List FloatBox
reaching level floats = filter (λ (f : FloatBox). int_lt level f.box.bottom) floats

-- with a float more, which has this place
abbrev pub standing : Floating → List FloatBox → List FloatBox → Spot ℤ → Tried
standing f all near spot = record { all = with_float_at f all spot; near = with_float_at f near spot; level = spot.y }

-- a float finds its place among those that are near
abbrev pub tried : Floating → List FloatBox → List FloatBox → Option ℤ → ℤ → Tried
tried f all near least y = standing f all near (float_spot f near least y)

-- the first one, which comes at y
abbrev pub first_tried : Floating → List FloatBox → Option ℤ → ℤ → Tried
first_tried f floats least y = tried f floats floats least y

-- the next one
abbrev pub next_tried : Floating → Option ℤ → Tried → Tried
next_tried f least t = tried f t.all (reaching t.level t.near) least t.level

-- and those that follow
abbrev pub all_tried : BoxTree → (Waiting ℤ → Extent ℤ) → Option ℤ → List (Waiting ℤ) → Tried → Tried
all_tried tree size least [] t = t
all_tried tree size least (f ∷ fs) t =
    all_tried tree size least fs (next_tried (floating tree f.at (size f) f.cb) least t)
