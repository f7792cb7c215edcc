-- The cascading order (CSS 2.1, 6.4.1 and 6.4.3): of the settings of a property that
-- apply to a node the greatest by weight, then specificity, then place.
use Rattle.std.specs.Prelude.{◌≡◌, ℕ, ◌==◌, Bool, true, false, List, [], ◌∷◌, ◌++◌, filter, Option, Some, None, if◌then◌else◌}
use Rattle.std.specs.List.{AllByRecursion}
use Rattle.std.specs.Ordering.{nat_cmp, on, then_cmp, is_gt, is_lt}
use Rattle.std.specs.declared.cmp.Ordering.{Ordering}
use Rattle.viz_base.specs.declared.selectors.Spec.{Spec}
use Rattle.viz_base.specs.declared.settings.Prop.{Prop}
use Rattle.viz_base.specs.declared.settings.Prop.TheVariants as prop
use Rattle.css_semantics.specs.declared.claims.Claim.{Claim}
use Rattle.css_semantics.specs.declared.claims.Weight.{Weight}
use Rattle.css_semantics.specs.declared.claims.Weight.TheVariants as of_weight

-- ---- the greatest of a list

-- of two the later, unless the earlier is greater
abbrev pub later_of : {A : Type 0} → (A → A → Ordering) → A → A → A
later_of cmp x y = if is_gt (cmp x y) then x else y

abbrev pub greatest_from : {A : Type 0} → (A → A → Ordering) → A → List A → A
greatest_from cmp best [] = best
greatest_from cmp best (x ∷ xs) = greatest_from cmp (later_of cmp best x) xs

-- the last of the greatest of a list, if it has an item
abbrev pub greatest : {A : Type 0} → (A → A → Ordering) → List A → Option A
greatest cmp [] = None
greatest cmp (x ∷ xs) = Some (greatest_from cmp x xs)

-- An item of a list such that none before it is greater, and each behind it is less.
pub record IsGreatest {A : Type 0} (cmp : A → A → Ordering) (xs : List A) (x : A) : Type 0 where
  pub before : List A
  pub after : List A
  pub whole : xs ≡ before ++ x ∷ after
  pub none_greater : AllByRecursion (λ y. is_gt (cmp y x) ≡ false) before
  pub each_less : AllByRecursion (λ y. is_lt (cmp y x) ≡ true) after

-- ---- specificity

-- the style attribute first, then ids, then attributes, classes and pseudo-classes, then tags
abbrev pub spec_cmp : Spec → Spec → Ordering
spec_cmp = then_cmp (on (λ s. s.style) nat_cmp)
    (then_cmp (on (λ s. s.ids) nat_cmp) (then_cmp (on (λ s. s.attrs) nat_cmp) (on (λ s. s.types) nat_cmp)))

-- the specificity of what a style attribute says
abbrev pub style_spec : Spec
style_spec = record { style = 1; ids = 0; attrs = 0; types = 0 }

-- ---- settings that apply

abbrev pub weight_number : Weight → ℕ
weight_number of_weight.Default = 0
weight_number of_weight.Normal = 1
weight_number of_weight.Important = 2

-- what a declaration says of one property, with the specificity by which it applies to a node
pub record Applied : Type 0 where
  pub spec : Spec
  pub claim : Claim

abbrev pub applied : Spec → Claim → Applied
applied s c = record { spec = s; claim = c }

abbrev pub cascade_cmp : Applied → Applied → Ordering
cascade_cmp = then_cmp (on (λ a. weight_number a.claim.weight) nat_cmp) (on (λ a. a.spec) spec_cmp)

-- the place of a property in the table
abbrev pub place_of : Prop → ℕ
place_of prop.Display = 0
place_of prop.Position = 1
place_of prop.Float = 2
place_of prop.Clear = 3
place_of prop.Overflow = 4
place_of prop.Direction = 5
place_of prop.Width = 6
place_of prop.Height = 7
place_of prop.MinWidth = 8
place_of prop.MinHeight = 9
place_of prop.MaxWidth = 10
place_of prop.MaxHeight = 11
place_of prop.MarginTop = 12
place_of prop.MarginRight = 13
place_of prop.MarginBottom = 14
place_of prop.MarginLeft = 15
place_of prop.PaddingTop = 16
place_of prop.PaddingRight = 17
place_of prop.PaddingBottom = 18
place_of prop.PaddingLeft = 19
place_of prop.BorderTopWidth = 20
place_of prop.BorderRightWidth = 21
place_of prop.BorderBottomWidth = 22
place_of prop.BorderLeftWidth = 23
place_of prop.BorderTopStyle = 24
place_of prop.BorderRightStyle = 25
place_of prop.BorderBottomStyle = 26
place_of prop.BorderLeftStyle = 27
place_of prop.FontSize = 28
place_of prop.FontFamily = 29
place_of prop.LineHeight = 30
place_of prop.VerticalAlign = 31
place_of prop.TextAlign = 32
place_of prop.WhiteSpace = 33
place_of prop.TextIndent = 34
place_of prop.LetterSpacing = 35
place_of prop.WordSpacing = 36
place_of prop.TextTransform = 37
place_of prop.ListStylePosition = 38
place_of prop.Content = 39

abbrev pub is_prop : Prop → Prop → Bool
is_prop p q = place_of p == place_of q

-- the settings of a property, of all that apply to a node in order
abbrev pub of_prop : Prop → List Applied → List Applied
of_prop p all = filter (λ a. is_prop a.claim.prop p) all

-- the winner among them
abbrev pub winner_of : Prop → List Applied → Option Applied
winner_of p all = greatest cascade_cmp (of_prop p all)

-- One of them before which none is greater by weight and specificity, and behind which each is less. Greater by weight,
-- specificity and place is so none but itself.
abbrev pub IsWinner : Prop → List Applied → Applied → Type 0
IsWinner p all a = IsGreatest cascade_cmp (of_prop p all) a
