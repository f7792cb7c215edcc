-- The percentages of a style are bounded.
use Rattle.std.proofs.Common.{◌≡◌, Bool, true, false, ◌&&◌, List, [], ◌∷◌, ◌++◌, IsTrue, refl}
use Rattle.std.specs.List.{list_all}
use Rattle.std.specs.Option.{option_to_list}
use Rattle.viz_base.specs.Styles.{is_bounded, sides_of}
use Rattle.viz_base.specs.declared.styles.Style.{Style}
use Rattle.std.proofs.lemmas.Bool.{and_parts}

all_left : {A : Type 0} (t : A → Bool) (xs ys : List A) → list_all t (xs ++ ys) ≡ true → list_all t xs ≡ true
all_left t [] ys e = refl
all_left t (x ∷ xs) ys e = let p = and_parts (t x) (list_all t (xs ++ ys)) e in both (t x) (list_all t xs) p.0 (all_left t xs ys p.1)
  where
    both : (a b : Bool) → a ≡ true → b ≡ true → (a && b) ≡ true
    both true b e f = f
    both false b e f = absurd (cc)

all_right : {A : Type 0} (t : A → Bool) (xs ys : List A) → list_all t (xs ++ ys) ≡ true → list_all t ys ≡ true
all_right t [] ys e = e
all_right t (x ∷ xs) ys e = all_right t xs ys (and_parts (t x) (list_all t (xs ++ ys)) e).1

all_sides : (s : Style) → list_all is_bounded (sides_of s.margin ++ (sides_of s.padding ++ sides_of s.border)) ≡ true
all_sides s =
    let first = and_parts (list_all is_bounded (s.width ∷ s.min_width ∷ s.height ∷ s.min_height ∷ [])) (list_all is_bounded (option_to_list s.max_width ++ option_to_list s.max_height) && list_all is_bounded (sides_of s.margin ++ (sides_of s.padding ++ sides_of s.border))) s.ok.percentages in
    (and_parts (list_all is_bounded (option_to_list s.max_width ++ option_to_list s.max_height)) (list_all is_bounded (sides_of s.margin ++ (sides_of s.padding ++ sides_of s.border))) first.1).1

pub bounded_margins : (s : Style) → IsTrue (list_all is_bounded (sides_of s.margin))
bounded_margins s = all_left is_bounded (sides_of s.margin) (sides_of s.padding ++ sides_of s.border) (all_sides s)

pub bounded_paddings : (s : Style) → IsTrue (list_all is_bounded (sides_of s.padding))
bounded_paddings s = all_left is_bounded (sides_of s.padding) (sides_of s.border) (all_right is_bounded (sides_of s.margin) (sides_of s.padding ++ sides_of s.border) (all_sides s))
