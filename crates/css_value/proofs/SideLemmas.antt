-- The settings of four sides, one after another.
use Rattle.std.proofs.Common.{◌≡◌, [], ◌∷◌, ◌++◌, Result, Ok, Err, refl}
use Rattle.viz_base.specs.declared.settings.Prop.{Prop}
use Rattle.viz_base.specs.declared.settings.Value.{Value}
use Rattle.viz_base.specs.declared.lengths.Sides.{Sides}
use Rattle.css_semantics.specs.declared.parts.Part.{Part}
use Rattle.css_semantics.specs.declared.parts.Refusal.{Refusal}
use Rattle.css_semantics.specs.Values.{part_value, setting, then_on}
use Rattle.css_semantics.specs.Shorthands.{four}
use Rattle.css_value.specs.Sides.{with_four}

pub with_four_alone : (on : Sides Prop) (parts : Sides Part) → with_four [] on parts ≡ four on parts
with_four_alone on parts = by_values (part_value on.top parts.top) (part_value on.right parts.right) (part_value on.bottom parts.bottom) (part_value on.left parts.left)
  where
    by_values : (a b c d : Result Value Refusal)
        → then_on (then_on a (λ v. Ok ([] ++ setting on.top v ∷ []))) (λ tops.
        then_on (then_on b (λ v. Ok (tops ++ setting on.right v ∷ []))) (λ rights.
        then_on (then_on c (λ v. Ok (rights ++ setting on.bottom v ∷ []))) (λ bottoms.
        then_on d (λ v. Ok (bottoms ++ setting on.left v ∷ [])))))
        ≡ then_on a (λ top. then_on b (λ right. then_on c (λ bottom. then_on d (λ left.
        Ok (setting on.top top ∷ setting on.right right ∷ setting on.bottom bottom ∷ setting on.left left ∷ [])))))
    by_values (Err r) b c d = refl
    by_values (Ok v) (Err r) c d = refl
    by_values (Ok v) (Ok w) (Err r) d = refl
    by_values (Ok v) (Ok w) (Ok x) (Err r) = refl
    by_values (Ok v) (Ok w) (Ok x) (Ok y) = refl
