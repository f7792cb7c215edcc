-- The winner kept while going over the settings is the greatest of those of the property.
use Rattle.std.proofs.Common.{◌≡◌, Bool, true, false, List, [], ◌∷◌, filter, Option, Some, None, refl, ◌∙◌}
use Rattle.viz_base.specs.declared.settings.Prop.{Prop}
use Rattle.css_semantics.specs.CascadeOrder.{Applied, cascade_cmp, is_prop, winner_of}
use Rattle.css_cascade.specs.steps.Seen.{greatest_on, later_or, winner_on}

abbrev pub is_of : Prop → Applied → Bool
is_of p a = is_prop a.claim.prop p

grown : (best : Option Applied) (a : Applied) (all : List Applied) → greatest_on cascade_cmp (Some (later_or best a)) all ≡ greatest_on cascade_cmp best (a ∷ all)
grown None a all = refl
grown (Some best) a all = refl

pub nothing : (best : Option Applied) → best ≡ greatest_on cascade_cmp best []
nothing None = refl
nothing (Some best) = refl

kept_at : (p : Prop) (best : Option Applied) (a : Applied) (all : List Applied) (b : Bool) → is_prop a.claim.prop p ≡ b → winner_on p (Some (later_or best a)) all ≡ greatest_on cascade_cmp (Some (later_or best a)) (filter (is_of p) all) → winner_on p best all ≡ greatest_on cascade_cmp best (filter (is_of p) all) → winner_on p best (a ∷ all) ≡ greatest_on cascade_cmp best (filter (is_of p) (a ∷ all))
kept_at p best a all true e taken left = rw e (taken ∙ grown best a (filter (is_of p) all))
kept_at p best a all false e taken left = rw e left

pub kept : (p : Prop) (best : Option Applied) (all : List Applied) → winner_on p best all ≡ greatest_on cascade_cmp best (filter (is_of p) all)
kept p best [] = nothing best
kept p best (a ∷ all) = kept_at p best a all (is_prop a.claim.prop p) refl (kept p (Some (later_or best a)) all) (kept p best all)

pub winner_on_is : (p : Prop) (all : List Applied) → winner_on p None all ≡ winner_of p all
winner_on_is p all = kept p None all
