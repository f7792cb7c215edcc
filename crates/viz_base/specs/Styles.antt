use Rattle.std.specs.Prelude.{ℤ, pos, negsuc, ◌^◌, Bool, true, false, nat_le, ◌&&◌, unsigned_abs, List, [], ◌∷◌, ◌++◌, Option, IsTrue}
use Rattle.std.specs.List.{list_all}
use Rattle.std.specs.Option.{option_to_list}
use Rattle.viz_base.specs.declared.lengths.Length.{Length}
use Rattle.viz_base.specs.declared.lengths.Length.TheVariants as of_length
use Rattle.viz_base.specs.declared.lengths.Sides.{Sides}
use Rattle.viz_base.specs.declared.lengths.Size.{Size}
use Rattle.viz_base.specs.declared.lengths.Size.TheVariants as of_size
use Rattle.viz_base.specs.declared.lengths.LineHeight.{LineHeight}
use Rattle.viz_base.specs.declared.lengths.LineHeight.TheVariants as of_line
use Rattle.viz_base.specs.declared.lengths.Valign.{Valign}
use Rattle.viz_base.specs.declared.lengths.Valign.TheVariants as of_valign

-- a percentage is at most 2^40 millionths of a hundredth in size
abbrev pub is_bounded : Length → Bool
is_bounded of_length.Auto = true
is_bounded (of_length.Px c) = true
is_bounded (of_length.Em k node) = true
is_bounded (of_length.Pct p) = nat_le (unsigned_abs p) (2 ^ 40)

-- the length of nothing, 0
abbrev pub nothing : Length
nothing = of_length.Px (pos 0)

-- a length other than `auto`
abbrev pub is_fixed : Length → Bool
is_fixed of_length.Auto = false
is_fixed (of_length.Px c) = true
is_fixed (of_length.Em k node) = true
is_fixed (of_length.Pct p) = true

abbrev pub is_no_percentage : Length → Bool
is_no_percentage (of_length.Pct p) = false
is_no_percentage _ = true

abbrev pub is_nonnegative : ℤ → Bool
is_nonnegative (pos n) = true
is_nonnegative (negsuc n) = false

abbrev pub sides_of : Sides Length → List Length
sides_of s = s.top ∷ s.right ∷ s.bottom ∷ s.left ∷ []

-- a raise is a length other than `auto`
abbrev pub is_good_valign : Valign → Bool
is_good_valign of_valign.Baseline = true
is_good_valign of_valign.Sub = true
is_good_valign of_valign.Super = true
is_good_valign of_valign.Middle = true
is_good_valign (of_valign.Raise raise) = is_fixed raise && is_bounded raise

-- a fraction has a denominator, and no number of a font size is negative
abbrev pub is_good_size : Size → Bool
is_good_size of_size.Same = true
is_good_size (of_size.Default num den) = is_nonnegative num && nat_le 1 den
is_good_size (of_size.Px c) = is_nonnegative c
is_good_size (of_size.Parent num den) = is_nonnegative num && nat_le 1 den

-- the same of a line height
abbrev pub is_good_line : LineHeight → Bool
is_good_line (of_line.Own num den) = is_nonnegative num && nat_le 1 den
is_good_line (of_line.Px c) = is_nonnegative c
is_good_line (of_line.OfNode node num den) = is_nonnegative num && nat_le 1 den

-- the facts that a style keeps
pub record IsStyle (width min_width : Length) (max_width : Option Length) (height min_height : Length)
    (max_height : Option Length)
    (margin padding border : Sides Length) (size : Size) (line : LineHeight) (valign : Valign) : Type 0 where
  pub percentages : IsTrue (list_all is_bounded (width ∷ min_width ∷ height ∷ min_height ∷ [])
      && (list_all is_bounded (option_to_list max_width ++ option_to_list max_height)
      && list_all is_bounded (sides_of margin ++ (sides_of padding ++ sides_of border))))
  pub fixed : IsTrue (list_all is_fixed (min_width ∷ min_height ∷ [])
      && (list_all is_fixed (option_to_list max_width ++ option_to_list max_height)
      && list_all is_fixed (sides_of padding ++ sides_of border)))
  -- no border is a percentage: CSS knows none (8.5.1)
  pub plain_borders : IsTrue (list_all is_no_percentage (sides_of border))
  pub size_good : IsTrue (is_good_size size)
  pub line_good : IsTrue (is_good_line line)
  pub valign_good : IsTrue (is_good_valign valign)
