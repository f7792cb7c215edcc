-- Lists that are not empty have a first item.
use Rattle.std.proofs.Common.{◌≡◌, List, [], ◌∷◌, map, refl}

pub first_of : {A B : Type 0} (f : A → B) (xs : List A) → (xs ≡ [] → ⊥) → (first : B) × (more : List B) × (map f xs ≡ first ∷ more)
first_of f [] none = absurd (none refl)
first_of f (x ∷ xs) none = (f x, map f xs, refl)
