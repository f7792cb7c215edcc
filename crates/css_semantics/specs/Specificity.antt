-- How specific a selector is (CSS 2.1, 6.4.3).
use Rattle.std.specs.Prelude.{ℕ, ◌+◌, ◌<◌, ◌^◌, Bool, true, false, not, List, length, Option, Some, None}
use Rattle.std.specs.List.{count_by, sum_by}
use Rattle.viz_base.specs.declared.selectors.Compound.{Compound}
use Rattle.viz_base.specs.declared.selectors.Join.{Join}
use Rattle.viz_base.specs.declared.selectors.Pseudo.{Pseudo}
use Rattle.viz_base.specs.declared.selectors.Spec.{Spec}
use Rattle.viz_base.specs.declared.selectors.Test.{Test}
use Rattle.viz_base.specs.declared.selectors.Test.TheVariants as of_test
use Rattle.css_semantics.specs.Spelled.{Spelled}

abbrev pub is_id : Test → Bool
is_id (of_test.Id value) = true
is_id _ = false

abbrev pub is_other : Test → Bool
is_other test = not (is_id test)

abbrev pub has_tag : Option (List ℕ) → Bool
has_tag None = false
has_tag (Some tag) = true

-- the ids in a selector
abbrev pub ids : List (Join × Compound) → ℕ
ids parts = sum_by (λ p. count_by is_id p.1.tests) parts

-- its attributes, classes and pseudo-classes: all its other tests
abbrev pub others : List (Join × Compound) → ℕ
others parts = sum_by (λ p. count_by is_other p.1.tests) parts

-- its tags
abbrev pub tags : List (Join × Compound) → ℕ
tags parts = count_by (λ p. has_tag p.1.tag) parts

-- A pseudo-element counts as a tag does.
abbrev pub pseudos : Option Pseudo → ℕ
pseudos None = 0
pseudos (Some p) = 1

-- no selector is a style attribute
abbrev pub spec_of : Spelled → Spec
spec_of s = record { style = 0; ids = ids s.0; attrs = others s.0; types = tags s.0 + pseudos s.1 }

-- the simple selectors and the tests of a selector together
abbrev pub parts_size : List (Join × Compound) → ℕ
parts_size parts = length parts + sum_by (λ p. length p.1.tests) parts

-- and its pseudo-element
abbrev pub size_of : Spelled → ℕ
size_of s = parts_size s.0 + pseudos s.1

-- they are so few that a u32 counts them
abbrev pub IsCountable : Spelled → Type 0
IsCountable s = size_of s < 2 ^ 32
