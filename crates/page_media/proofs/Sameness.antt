-- Features and sign lists that are the same are equal.
use Rattle.std.proofs.Common.{◌≡◌, ℤ, Bool, true, false, ◌&&◌, List, [], ◌∷◌, refl, ap, sym, ◌∙◌}
use Rattle.std.proofs.lemmas.Bool.{and_parts}
use Rattle.std.proofs.lemmas.Bool.Decides.{Decides-int_eq}
use Rattle.viz_base.specs.declared.sheets.Bound.{Bound}
use Rattle.viz_base.specs.declared.sheets.Bound.TheVariants.{Px, Em}
use Rattle.viz_base.specs.declared.sheets.Feature.{Feature}
use Rattle.page_media.specs.Features.{are_alike, same_bound, same_feature}
use Rattle.page_media.specs.Parts.{same_signs}

pub alike-equal : (a b : Bool) → are_alike a b ≡ true → a ≡ b
alike-equal true true h = refl
alike-equal true false h = sym h
alike-equal false true h = h
alike-equal false false h = refl

pub alike-itself : (a : Bool) → are_alike a a ≡ true
alike-itself true = refl
alike-itself false = refl

pub signs-equal : (a b : List Bool) → same_signs a b ≡ true → a ≡ b
signs-equal [] [] h = refl
signs-equal [] (y ∷ ys) h = absurd (cc)
signs-equal (x ∷ xs) [] h = absurd (cc)
signs-equal (x ∷ xs) (y ∷ ys) h =
    let parts = and_parts (are_alike x y) (same_signs xs ys) h in
    let first : x ≡ y = alike-equal x y parts.0 in
    let rest : xs ≡ ys = signs-equal xs ys parts.1 in
    cc

pub signs-itself : (a : List Bool) → same_signs a a ≡ true
signs-itself [] = refl
signs-itself (x ∷ xs) = ap (λ b. b && same_signs xs xs) (alike-itself x) ∙ signs-itself xs

bound-equal : (a b : Bound) → same_bound a b ≡ true → a ≡ b
bound-equal (Px a) (Px b) h = ap (λ (z : ℤ). Px z) ((Decides-int_eq a b).0 h)
bound-equal (Em a) (Em b) h = ap (λ (z : ℤ). Em z) ((Decides-int_eq a b).0 h)
bound-equal (Px a) (Em b) h = absurd (cc)
bound-equal (Em a) (Px b) h = absurd (cc)

bound-itself : (a : Bound) → same_bound a a ≡ true
bound-itself (Px a) = (Decides-int_eq a a).1 refl
bound-itself (Em a) = (Decides-int_eq a a).1 refl

pub feature-equal : (f g : Feature) → same_feature f g ≡ true → f ≡ g
feature-equal f g h =
    let parts = and_parts (are_alike f.most g.most) (same_bound f.bound g.bound) h in
    let first : f.most ≡ g.most = alike-equal f.most g.most parts.0 in
    let second : f.bound ≡ g.bound = bound-equal f.bound g.bound parts.1 in
    λ i. record { most = first i; bound = second i }

pub feature-itself : (f : Feature) → same_feature f f ≡ true
feature-itself f = ap (λ b. b && same_bound f.bound f.bound) (alike-itself f.most) ∙ bound-itself f.bound
