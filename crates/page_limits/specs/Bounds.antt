-- How far coordinates can go from an origin; y grows downwards.
use Rattle.std.specs.Prelude.{ℕ, ◌+◌, ◌≤◌, ℤ, pos, ◌+ℤ◌, ◌-ℤ◌, ◌≤ℤ◌, unsigned_abs, List, [], ◌∷◌, Option}
use Rattle.std.specs.Option.{option_to_list}
use Rattle.viz_base.specs.declared.layouts.Band.{Band}
use Rattle.viz_base.specs.declared.layouts.Extent.{Extent}
use Rattle.viz_base.specs.declared.layouts.Spot.{Spot}
use Rattle.viz_base.specs.declared.renderings.Placed.{Placed}
use Rattle.viz_base.specs.declared.renderings.Quad.{Quad}
use Rattle.layout_semantics.specs.Floats.{FloatBox}

-- so far up, so far down, and so far to either side
pub record Bounds : Type 0 where
  pub up : ℕ
  pub down : ℕ
  pub aside : ℕ

-- by as much more
abbrev pub grown : Bounds → Bounds → Bounds
grown b more = record { up = b.up + more.up; down = b.down + more.down; aside = b.aside + more.aside }

-- as much and more
pub record AreInside (b around : Bounds) : Type 0 where
  pub up : b.up ≤ around.up
  pub down : b.down ≤ around.down
  pub aside : b.aside ≤ around.aside

abbrev pub no_bounds : Bounds
no_bounds = record { up = 0; down = 0; aside = 0 }

-- so much to each side
abbrev pub all_around : ℕ → Bounds
all_around n = record { up = n; down = n; aside = n }

-- those of each element together
abbrev pub together : {A : Type 0} → (A → Bounds) → List A → Bounds
together f [] = no_bounds
together f (x ∷ xs) = grown (f x) (together f xs)

-- a height
pub record IsLevelIn (b : Bounds) (y : ℤ) : Type 0 where
  pub top : (pos 0 -ℤ pos b.up) ≤ℤ y
  pub bottom : y ≤ℤ pos b.down

abbrev pub IsAsideIn : Bounds → ℤ → Type 0
IsAsideIn b x = unsigned_abs x ≤ b.aside

pub record IsBandIn (b : Bounds) (cb : Band ℤ) : Type 0 where
  pub left : IsAsideIn b cb.left
  pub right : IsAsideIn b cb.right

pub record IsExtentIn (b : Bounds) (size : Extent ℤ) : Type 0 where
  pub width : IsAsideIn b size.width
  pub height : IsLevelIn b size.height

pub record IsQuadIn (b : Bounds) (q : Quad ℤ) : Type 0 where
  pub left : IsAsideIn b q.left
  pub top : IsLevelIn b q.top
  pub right : IsAsideIn b q.right
  pub bottom : IsLevelIn b q.bottom

abbrev pub IsFloatIn : Bounds → FloatBox → Type 0
IsFloatIn b f = IsQuadIn b f.box

pub record IsPlacedIn (b : Bounds) (p : Placed ℤ) : Type 0 where
  pub margin : IsQuadIn b p.margin
  pub border : IsQuadIn b p.border
  pub padding : IsQuadIn b p.padding
  pub content : IsQuadIn b p.content

-- boxes in coordinates of their own, which stay within these bounds, where they are put down there
pub record IsPutIn (b own : Bounds) (at : Spot ℤ) : Type 0 where
  pub top : (pos 0 -ℤ pos b.up) ≤ℤ (at.y -ℤ pos own.up)
  pub bottom : (at.y +ℤ pos own.down) ≤ℤ pos b.down
  pub aside : unsigned_abs at.x + own.aside ≤ b.aside

-- where a float comes, and the highest top that it may have, if there is one
abbrev pub levels_of : Option ℤ → ℤ → List ℤ
levels_of least y = y ∷ option_to_list least
