-- Laws of the cascade: what beats what (CSS 2.1, 6.4.1 and 6.4.2), and what is hidden (9.2.4).
use Rattle.std.specs.Prelude.{◌≡◌, Bool, true, false, List, [], ◌∷◌, Option, Some, Result, Ok, Err}
use Rattle.std.specs.List.{list_any}
use Rattle.viz_base.specs.declared.settings.Prop.{Prop}
use Rattle.viz_base.specs.declared.settings.Setting.{Setting}
use Rattle.viz_base.specs.declared.settings.Value.{Value}
use Rattle.viz_base.specs.declared.selectors.Spec.{Spec}
use Rattle.viz_base.specs.declared.sheets.Decl.{Decl}
use Rattle.css_semantics.specs.declared.claims.Claim.{Claim}
use Rattle.css_semantics.specs.declared.claims.Origin.{Origin}
use Rattle.css_semantics.specs.declared.claims.Origin.TheVariants as of_origin
use Rattle.css_semantics.specs.declared.claims.Standing.{Standing}
use Rattle.css_semantics.specs.CascadeOrder.{Applied, applied, winner_of}
use Rattle.css_semantics.specs.CascadeReading.{claim_of}
use Rattle.css_semantics.specs.CascadeNodes.{hides, judged}

-- ---- what beats what

-- a style sheet of the author, or a style attribute
abbrev pub is_author : Origin → Bool
is_author of_origin.Default = false
is_author (of_origin.Author sheet) = true
is_author (of_origin.Style node) = true

-- an author's declaration that is `!important`
abbrev pub IsImportant : Origin → Decl → Type 0
IsImportant o d = (is_author o ≡ true) × (d.important ≡ true)

-- Of two settings of a property the first wins, whichever comes later.
abbrev pub Beats : Prop → Applied → Applied → Type 0
Beats p a b = (winner_of p (a ∷ b ∷ []) ≡ Some a) × (winner_of p (b ∷ a ∷ []) ≡ Some a)

-- Whatever the specificities of two declarations of a property and their values, the first one's wins.
abbrev pub Overrides : Origin → Decl → Origin → Decl → Type 0
Overrides o d q e =
    (p : Prop) (s t : Spec) (v w : Option Value) → Beats p (applied s (claim_of o d p v)) (applied t (claim_of q e p w))

-- ---- what is hidden

-- a node that refuses nothing, and inside which all are hidden
abbrev pub IsHiddenOutcome : Result (List Setting × Standing) Claim → Type 0
IsHiddenOutcome (Ok come) = come.1.hidden ≡ true
IsHiddenOutcome (Err c) = ⊥

-- a node that refuses the page, or inside which nothing is hidden by it
abbrev pub IsShownOutcome : Result (List Setting × Standing) Claim → Type 0
IsShownOutcome (Ok come) = come.1.hidden ≡ false
IsShownOutcome (Err c) = Unit {0}

-- A node inside a hidden one is hidden, whatever wins at it; so is one at which `display: none` wins; no other is.
pub record Hides (replaced : Bool) (outer : Standing) (winners : List Claim) : Type 0 where
  pub inside : outer.hidden ≡ true → IsHiddenOutcome (judged replaced outer winners)
  pub itself : list_any hides winners ≡ true → IsHiddenOutcome (judged replaced outer winners)
  pub shown : outer.hidden ≡ false → list_any hides winners ≡ false → IsShownOutcome (judged replaced outer winners)
