-- The winners kept by the places of their properties are the winners.
use Rattle.std.proofs.Common.{◌≡◌, List, [], ◌∷◌, ◌++◌, map, set, get_or, Option, Some, None, refl, ap, ◌∙◌}
use Rattle.std.specs.Prelude.{if◌then◌else◌, flat_map}
use Rattle.viz_base.specs.declared.settings.Prop.{Prop}
use Rattle.viz_base.specs.declared.settings.Prop.TheVariants as prop
use Rattle.css_semantics.specs.CascadeOrder.{Applied, is_prop, place_of, winner_of}
use Rattle.css_semantics.specs.CascadeNodes.{winners_for}
use Rattle.css_semantics.specs.Properties.{properties}
use Rattle.css_cascade.specs.steps.Seen.{claims_in, kept, kept_all, later_or, winner_on, winner_with}
use Rattle.css_cascade.proofs.Winners.{winner_on_is}

abbrev put : Prop → Applied → (Prop → Option Applied) → Prop → Option Applied
put q a f p = if is_prop q p then Some (later_or (f p) a) else f p

put_at : (q : Prop) (a : Applied) (f : Prop → Option Applied) → set (map f properties) (place_of q) (Some (later_or (get_or (map f properties) (place_of q) None) a)) ≡ map (put q a f) properties
put_at prop.Display a f = refl
put_at prop.Position a f = refl
put_at prop.Float a f = refl
put_at prop.Clear a f = refl
put_at prop.Overflow a f = refl
put_at prop.Direction a f = refl
put_at prop.Width a f = refl
put_at prop.Height a f = refl
put_at prop.MinWidth a f = refl
put_at prop.MinHeight a f = refl
put_at prop.MaxWidth a f = refl
put_at prop.MaxHeight a f = refl
put_at prop.MarginTop a f = refl
put_at prop.MarginRight a f = refl
put_at prop.MarginBottom a f = refl
put_at prop.MarginLeft a f = refl
put_at prop.PaddingTop a f = refl
put_at prop.PaddingRight a f = refl
put_at prop.PaddingBottom a f = refl
put_at prop.PaddingLeft a f = refl
put_at prop.BorderTopWidth a f = refl
put_at prop.BorderRightWidth a f = refl
put_at prop.BorderBottomWidth a f = refl
put_at prop.BorderLeftWidth a f = refl
put_at prop.BorderTopStyle a f = refl
put_at prop.BorderRightStyle a f = refl
put_at prop.BorderBottomStyle a f = refl
put_at prop.BorderLeftStyle a f = refl
put_at prop.FontSize a f = refl
put_at prop.FontFamily a f = refl
put_at prop.LineHeight a f = refl
put_at prop.VerticalAlign a f = refl
put_at prop.TextAlign a f = refl
put_at prop.WhiteSpace a f = refl
put_at prop.TextIndent a f = refl
put_at prop.LetterSpacing a f = refl
put_at prop.WordSpacing a f = refl
put_at prop.TextTransform a f = refl
put_at prop.ListStylePosition a f = refl
put_at prop.Content a f = refl

kept_map : (a : Applied) (f : Prop → Option Applied) → kept (map f properties) a ≡ map (λ p. winner_with p (f p) a) properties
kept_map a f = put_at a.claim.prop a f

pub all_kept : (all : List Applied) (f : Prop → Option Applied) → kept_all (map f properties) all ≡ map (λ p. winner_on p (f p) all) properties
all_kept [] f = refl
all_kept (a ∷ all) f = ap (λ best. kept_all best all) (kept_map a f) ∙ all_kept all (λ p. winner_with p (f p) a)

each_is : (all : List Applied) (ps : List Prop) → map (λ p. winner_on p None all) ps ≡ map (λ p. winner_of p all) ps
each_is all [] = refl
each_is all (p ∷ ps) = ap (λ o. o ∷ map (λ p. winner_on p None all) ps) (winner_on_is p all) ∙ ap (λ os. winner_of p all ∷ os) (each_is all ps)

pub slots_are : (all : List Applied) → kept_all (map (λ p. None) properties) all ≡ map (λ p. winner_of p all) properties
slots_are all = all_kept all (λ p. None) ∙ each_is all properties

pub claims_are : (all : List Applied) (ps : List Prop) → flat_map claims_in (map (λ p. winner_of p all) ps) ≡ flat_map (λ p. winners_for p all) ps
claims_are all [] = refl
claims_are all (p ∷ ps) = ap (λ cs. winners_for p all ++ cs) (claims_are all ps)
