-- Children of a block container, one after another.
use Rattle.std.specs.Prelude.{ℕ, ℤ, pos, ◌+ℤ◌, Bool, cond, List, [], ◌∷◌, Option, Some, None}
use Rattle.std.specs.Int.{int_max}
use Rattle.viz_base.specs.declared.layouts.Preferred.{Preferred}
use Rattle.lay_preferred.specs.declared.columns.Column.{Column}
use Rattle.lay_preferred.specs.steps.Extremes.{larger, or_zero}

abbrev pub no_children : Column ℤ
no_children = record { least = None; most = None; floats = None }

-- the greatest width of floats that follow one another up to one more
abbrev pub beside : Option ℤ → ℤ → ℤ
beside None x = x
beside (Some floats) x = int_max (pos 0) floats +ℤ x

unfoldable pub with_in_flow : Column ℤ → Preferred ℤ → Column ℤ
with_in_flow c p = record { least = Some (larger c.least p.least); most = Some (larger c.most p.most); floats = None }

unfoldable pub with_float : Column ℤ → Preferred ℤ → Column ℤ
with_float c p = record {
  least = Some (larger c.least p.least);
  most = Some (larger c.most (beside c.floats p.most));
  floats = Some (beside c.floats p.most);
}

abbrev pub with_child : Column ℤ → Bool → Preferred ℤ → Column ℤ
with_child c floats p = cond floats (with_float c p) (with_in_flow c p)

-- child by child, by what each is and takes
abbrev pub with_children : (ℕ → Bool) → (ℕ → Preferred ℤ) → Column ℤ → List ℕ → Column ℤ
with_children floats outer c [] = c
with_children floats outer c (k ∷ ks) = with_children floats outer (with_child c (floats k) (outer k)) ks

abbrev pub whole : Column ℤ → Preferred ℤ
whole c = record { least = or_zero c.least; most = or_zero c.most }
