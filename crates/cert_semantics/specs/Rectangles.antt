-- The rectangle that the unit splits of a path leave of a range: those by a row k + x or k - x, x standing for an axis
-- of the job's form.
use Rattle.std.specs.Prelude.{ℕ, ◌*◌, ℤ, pos, negsuc, neg_ℤ, ◌+ℤ◌, [], ◌∷◌, if◌then◌else◌}
use Rattle.std.specs.Ordering.{int_eq}
use Rattle.std.specs.Int.{int_gap, int_max, int_min}
use Rattle.viz_base.specs.declared.worlds.Axis.{Axis}
use Rattle.viz_base.specs.declared.worlds.Axis.TheVariants.{Width, Size, Height}
use Rattle.viz_base.specs.declared.worlds.Span.{Span}
use Rattle.viz_base.specs.declared.worlds.Rect.{Rect}
use Rattle.viz_base.specs.Worlds.{side_of}
use Rattle.lin_proof.specs.Form.{Form, Terms, denied}
use Rattle.cert_semantics.specs.Axes.{stands_for}
use Rattle.cert_semantics.specs.Paths.{def, first, second, lemma, Path, root, ◌▸◌, form_of}

-- the whole numbers from one to another, both included; none where the least is above the most
pub record Side : Type 0 where
  pub least : ℤ
  pub most : ℤ

-- a side for each axis, that of the worlds' numbers on it
abbrev pub Sides : Type 0
Sides = Axis → Side

-- what is left of a side where k + c*x is to be at least 0, c being 1 or -1
abbrev pub cut_side : ℤ → ℤ → Side → Side
cut_side k c side =
    if int_eq c (pos 1) then record { least = int_max (neg_ℤ k) side.least; most = side.most }
    else if int_eq c (negsuc 0) then record { least = side.least; most = int_min k side.most }
    else side

-- of the sides that of the axis that x stands for is cut
abbrev pub cut_sides : ℕ → ℤ → ℕ × ℤ → Sides → Sides
cut_sides form k t sides axis = if stands_for form t.0 axis then cut_side k t.1 (sides axis) else sides axis

-- what a row of one term leaves; another leaves all
abbrev pub left_by_terms : ℕ → ℤ → Terms → Sides → Sides
left_by_terms form k [] sides = sides
left_by_terms form k (t ∷ []) sides = cut_sides form k t sides
left_by_terms form k (t ∷ u ∷ ts) sides = sides

abbrev pub left_by : ℕ → Form → Sides → Sides
left_by form row = left_by_terms form row.k row.terms

-- the whole numbers of a span
abbrev pub side_from : Span → Side
side_from span = record { least = pos span.least; most = pos span.most }

abbrev pub whole : Rect → Sides
whole range axis = side_from (side_of axis range)

-- the range cut by the unit splits of a path; on a second side it is the row's denial that is to be at least 0
abbrev pub rectangle : Rect → Path → Sides
rectangle range (root form) = whole range
rectangle range (def row d ▸ outer) = rectangle range outer
rectangle range (first row ▸ outer) = left_by (form_of outer) row (rectangle range outer)
rectangle range (second row ▸ outer) = left_by (form_of outer) (denied row) (rectangle range outer)
rectangle range (lemma row ▸ outer) = rectangle range outer

-- how many numbers a side has
abbrev pub count : Side → ℕ
count side = int_gap side.least (side.most +ℤ pos 1)

-- how many worlds have a number of each
abbrev pub world_count : Sides → ℕ
world_count sides = count (sides Width) * count (sides Size) * count (sides Height)
