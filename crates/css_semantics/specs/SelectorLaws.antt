-- Selectors that laws speak of.
use Rattle.std.specs.Prelude.{ℕ, List, [], ◌∷◌, ◌++◌, Option}
use Rattle.viz_base.specs.declared.selectors.Compound.{Compound}
use Rattle.viz_base.specs.declared.selectors.Join.{Join}
use Rattle.viz_base.specs.declared.selectors.Join.TheVariants.{First}
use Rattle.viz_base.specs.declared.selectors.Spec.{Spec}
use Rattle.viz_base.specs.declared.selectors.Test.{Test}

-- a selector of one simple selector
abbrev pub alone : Option (List ℕ) → List Test → List (Join × Compound)
alone tag tests = (First, record { tag = tag; tests = tests }) ∷ []

-- a selector with one more simple selector joined behind it
abbrev pub joined : List (Join × Compound) → Join → Compound → List (Join × Compound)
joined outer join inner = outer ++ (join, inner) ∷ []

-- so many ids, then attributes, classes and pseudo-classes, then tags
abbrev pub counts : ℕ → ℕ → ℕ → Spec
counts ids others tags = record { style = 0; ids = ids; attrs = others; types = tags }
