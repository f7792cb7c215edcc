-- What the numbers of preferred widths mean at a reading.
use Rattle.std.specs.Prelude.{◌≡◌, ℕ, ℤ, Bool, IsTrue, List, map, Option, Some, slice_get}
use Rattle.viz_base.specs.declared.layouts.Preferred.{Preferred}
use Rattle.viz_base.specs.declared.trees.BoxTree.{BoxTree}
use Rattle.viz_calc.specs.World.{Reading}
use Rattle.viz_calc.specs.Run.{Run}
use Rattle.layout_semantics.specs.Preferred.{preferred}
use Rattle.lay_line.specs.Items.{item_of}
use Rattle.lay_line.specs.declared.held.Piece.{Piece}
use Rattle.lay_line.specs.steps.Loading.{parts_of}
use Rattle.lay_width.specs.Readings.{preferred_at, option_at}
use Rattle.lay_preferred.specs.declared.columns.Column.{Column}
use Rattle.lay_preferred.specs.steps.Parts.{Sized}

abbrev pub column_at : {N : Type 0} → (N → Reading → ℤ) → Column N → Reading → Column ℤ
column_at at c e =
    record { least = option_at at c.least e; most = option_at at c.most e; floats = option_at at c.floats e }

-- pieces with both widths
abbrev pub size_at : {N : Type 0} → (N → Reading → ℤ) → Piece (Preferred N) → Reading → Sized
size_at at p e = record { item = item_of p.item; widths = preferred_at at p.width e }

abbrev pub sizes_at : {N : Type 0} → (N → Reading → ℤ) → List (Piece (Preferred N)) → Reading → List Sized
sizes_at at ps e = map (λ p. size_at at p e) ps

-- in the parts that marks make
abbrev pub parts_at : {N : Type 0} → (N → Reading → ℤ) → List (Piece (Preferred N)) → List Bool → Reading
    → List (List Sized)
parts_at at ps marks e = map (λ part. sizes_at at part e) (parts_of ps marks)

-- what a table has of a box are its preferred widths
unfoldable pub AreFound : {N : Type 0} → (N → Reading → ℤ) → Run → BoxTree → List (Option (Preferred N)) → Type 0
AreFound {N} at run tree table = (e : Reading) → IsTrue (run.is_open e) → (i : ℕ) (p : Preferred N)
    → slice_get table i ≡ Some (Some p) → preferred_at at p e ≡ preferred tree e.world i
