-- What comes of winners by what is refused at nodes that are shown.
use Rattle.std.proofs.Common.{◌≡◌, ℕ, ◌==◌, Bool, true, false, List, [], ◌∷◌, length, slice_get, Option, Some, None, Result, Ok, Err, is_some, refl, sym, ◌∙◌, arith, inl, inr}
use Rattle.std.proofs.lemmas.Bool.{false≢true}
use Rattle.std.proofs.lemmas.Map.Keys.{any_passes_from_place}
use Rattle.std.proofs.lemmas.Option.{slice_get_within}
use Rattle.viz_base.specs.declared.nodes.Node.{Node}
use Rattle.viz_base.specs.declared.settings.Setting.{Setting}
use Rattle.viz_base.specs.declared.sheets.Sheet.{Sheet}
use Rattle.css_semantics.specs.declared.claims.Ruleset.{Ruleset}
use Rattle.viz_base.specs.declared.selectors.Pseudo.{Pseudo}
use Rattle.css_semantics.specs.Cascade.{Fault, value_at}
use Rattle.css_semantics.specs.CascadeReading.{AreRulesets}
use Rattle.css_semantics.specs.PseudoCascade.{GoesBeside, IsPseudoCascade}
use Rattle.css_cascade.proofs.OnePseudoCascade.{not_refused}
use Rattle.css_cascade.specs.declared.beside.Refused.{Refused}
use Rattle.css_cascade.specs.steps.Beside.{AreBesideTo, AreHidden, GoesOrRefuses, IsRefusedAt, NoneRefusedTo, has_refused}
use Rattle.css_cascade.proofs.Besides.{goes_on_all, goes_to, none_refused}

module _ (nodes : List Node) (texts : List (List ℕ)) (sheets : List Sheet) (rulesets : List Ruleset) (winners : List (List Setting)) (refused : List (Option Refused)) (h : AreBesideTo nodes rulesets (length nodes) winners refused) where
  pub none_has : has_refused refused ≡ false → GoesOrRefuses nodes texts sheets rulesets (Ok winners)
  none_has e = inl (goes_on_all nodes texts sheets rulesets winners refused h (λ m q at. absurd (false≢true (sym e ∙ any_passes_from_place is_some refused m (Some q) at refl))))

  pub none_shown : (hidden : List Bool) → AreHidden nodes texts sheets hidden → NoneRefusedTo refused hidden (length refused) → GoesOrRefuses nodes texts sheets rulesets (Ok winners)
  none_shown hidden k none = inl (goes_on_all nodes texts sheets rulesets winners refused h (λ m q at. none_refused nodes texts sheets rulesets winners refused h hidden k (length refused) m q none (slice_get_within refused m (Some q) at) at))

  pub one_shown : (hidden : List Bool) (at : ℕ) (r : Refused) → AreHidden nodes texts sheets hidden → IsRefusedAt refused hidden at r → NoneRefusedTo refused hidden at → GoesOrRefuses nodes texts sheets rulesets (Err (value_at at r.prop r.source))
  one_shown hidden at r k here none = inl (goes_to nodes texts sheets rulesets winners refused h at r hidden k here none)

-- without a number of items there is none
pub nothing_in : {A : Type 0} (xs : List A) → true ≡ (length xs == 0) → xs ≡ []
nothing_in [] e = refl
nothing_in (x ∷ xs) e = absurd (grind arith)

-- where the rulesets with the pseudo-element are read, no selector is refused
pub of_pseudo : (nodes : List Node) (texts : List (List ℕ)) (sheets : List Sheet) (which : Pseudo) (rulesets : List Ruleset) (answer : Result (List (List Setting)) Fault) → AreRulesets (Some which) texts sheets (Ok rulesets) → GoesOrRefuses nodes texts sheets rulesets answer → IsPseudoCascade nodes texts sheets which answer
of_pseudo nodes texts sheets which rulesets answer read (inl goes) = IsPseudoCascade.cascaded read goes
of_pseudo nodes texts sheets which rulesets answer read (inr h) = absurd (not_refused (Some which) None texts sheets rulesets (h.0, h.1) read h.3)
