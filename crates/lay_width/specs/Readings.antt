-- What the numbers of a box mean at a reading.
use Rattle.std.specs.Prelude.{◌≡◌, ℕ, ℤ, Option, option_map}
use Rattle.viz_base.specs.declared.layouts.Preferred.{Preferred}
use Rattle.viz_base.specs.declared.layouts.Widths.{Widths}
use Rattle.viz_base.specs.declared.trees.BoxTree.{BoxTree}
use Rattle.viz_base.specs.declared.worlds.World.{World}
use Rattle.viz_calc.specs.World.{Reading}
use Rattle.layout_semantics.specs.Horizontal.{placing_of, shrunk}
use Rattle.layout_semantics.specs.Preferred.{preferred}

-- the seven terms of a box
abbrev pub widths_at : {N : Type 0} → (N → Reading → ℤ) → Widths N → Reading → Widths ℤ
widths_at at t e = record {
  margin_left = at t.margin_left e;
  border_left = at t.border_left e;
  padding_left = at t.padding_left e;
  content = at t.content e;
  padding_right = at t.padding_right e;
  border_right = at t.border_right e;
  margin_right = at t.margin_right e;
}

abbrev pub preferred_at : {N : Type 0} → (N → Reading → ℤ) → Preferred N → Reading → Preferred ℤ
preferred_at at p e = record { least = at p.least e; most = at p.most e }

-- a number, where there is one
abbrev pub option_at : {N : Type 0} → (N → Reading → ℤ) → Option N → Reading → Option ℤ
option_at at o e = option_map (λ n. at n e) o

-- these are the preferred widths of a box, if its width may shrink to fit
abbrev pub AreItsOwn : BoxTree → World → ℕ → Preferred ℤ → Type 0
AreItsOwn tree w at p = placing_of tree at ≡ shrunk → p ≡ preferred tree w at
