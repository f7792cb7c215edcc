-- A property is known by its place in the table.
use Rattle.std.proofs.Common.{◌≡◌, true, Some, slice_get, refl, sym, ap, ◌∙◌}
use Rattle.std.proofs.lemmas.Bool.{eqb-true}
use Rattle.std.proofs.lemmas.Option.{same_Some}
use Rattle.viz_base.specs.declared.settings.Prop.{Prop}
use Rattle.viz_base.specs.declared.settings.Prop.TheVariants as of_prop
use Rattle.css_semantics.specs.CascadeOrder.{is_prop, place_of}
use Rattle.css_semantics.specs.InitialWords.{StandAtTheirPlaces}
use Rattle.css_semantics.specs.Properties.{properties}

at_place : (p : Prop) → slice_get properties (place_of p) ≡ Some p
at_place of_prop.Display = refl
at_place _ = refl

pub same_prop : (p q : Prop) → is_prop p q ≡ true → p ≡ q
same_prop p q e = same_Some p q (sym (at_place p) ∙ ap (slice_get properties) (eqb-true (place_of p) (place_of q) e) ∙ at_place q)

pub word_at_place : StandAtTheirPlaces
word_at_place of_prop.Display = refl
word_at_place _ = refl
