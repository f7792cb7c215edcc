-- Formulas that say nothing of worlds with other signs.
use Rattle.std.specs.Prelude.{◌^◌, ℤ, pos, neg_ℤ, Bool, true, false, List, [], ◌∷◌, if◌then◌else◌}
use Rattle.std.specs.Int.{int_max, int_min}
use Rattle.viz_base.specs.declared.formulas.Edge.{Edge}
use Rattle.viz_base.specs.declared.formulas.Edge.TheVariants.{One, ViewWidth, ViewSize}
use Rattle.viz_base.specs.declared.formulas.Formula.{Formula}
use Rattle.viz_base.specs.declared.formulas.Formula.TheVariants.{Cmp, Implies}
use Rattle.viz_base.specs.declared.formulas.Sign.{Sign}
use Rattle.viz_base.specs.declared.formulas.Sign.TheVariants.{Lt, Le, Ge, Gt}
use Rattle.viz_base.specs.declared.formulas.Summand.{Summand}
use Rattle.viz_base.specs.declared.formulas.Term.{Term}
use Rattle.viz_base.specs.declared.sheets.Bound.{Bound}
use Rattle.viz_base.specs.declared.sheets.Bound.TheVariants.{Px, Em}
use Rattle.viz_base.specs.declared.sheets.Feature.{Feature}

-- A bound of so many units, or of so many millionths of a pixel, is wider than any viewport: all that are wider say the
-- same.
abbrev pub widest : ℤ
widest = pos (2 ^ 60)

abbrev pub held : ℤ → ℤ
held n = int_max (neg_ℤ widest) (int_min n widest)

abbrev pub times : ℤ → Edge → Summand
times n edge = record { times = n; edge = edge }

-- the two sides of a comparison of the width with a bound: a bound in `em` is compared in millionths
abbrev pub width_side : Bound → Term
width_side (Px c) = record { parts = times (pos 1) ViewWidth ∷ [] }
width_side (Em k) = record { parts = times (pos 1000000) ViewWidth ∷ [] }

-- A width is at least the floor of a number where it is above the number less one.
abbrev pub bound_side : Bool → Bound → Term
bound_side most (Px c) = record { parts = times (held c) One ∷ [] }
bound_side most (Em k) =
    record { parts = times (held k) ViewSize ∷ (if most then [] else times (neg_ℤ (pos 999999)) One ∷ []) }

-- how the width stands to a bound that it is to be at most, or at least, where the feature is met and where it isn't
abbrev pub standing : Bool → Bool → Sign
standing true true = Le
standing true false = Gt
standing false true = Ge
standing false false = Lt

-- the feature has this sign
abbrev pub says : Feature → Bool → Formula
says f sign = Cmp (width_side f.bound) (standing f.most sign) (bound_side f.most f.bound)

-- the formula, where the features have these signs
abbrev pub guarded : List Feature → List Bool → Formula → Formula
guarded (f ∷ fs) (sign ∷ signs) formula = guarded fs signs (Implies (says f sign) formula)
guarded _ _ formula = formula
