-- Numbers within bounds.
use Rattle.std.proofs.Common.{◌≡◌, ℕ, ◌+◌, ℤ, ◌+ℤ◌, Bool, List, [], ◌∷◌, ◌++◌, map, filter, refl, ap, ◌∙◌, arith}
use Rattle.std.specs.Int.{int_max}
use Rattle.std.specs.List.{AllByRecursion}
use Rattle.std.proofs.lemmas.Int.{ints, clamps}
use Rattle.viz_base.specs.declared.layouts.Spot.{Spot}
use Rattle.viz_base.specs.declared.renderings.Quad.{Quad}
use Rattle.layout_laws.proofs.Greatest.{filter-implied}
use Rattle.page_limits.specs.Bounds.{Bounds, grown, no_bounds, together, IsPutIn, IsLevelIn, IsAsideIn, IsQuadIn, AreInside}

-- ---- lists

pub All-map : {A B : Type 0} (P : B → Type 0) (f : A → B) (xs : List A) → AllByRecursion (λ x. P (f x)) xs → AllByRecursion P (map f xs)
All-map P f [] a = tt
All-map P f (x ∷ xs) a = (a.0, All-map P f xs a.1)

pub All-filter : {A : Type 0} (P : A → Type 0) (test : A → Bool) (xs : List A) → AllByRecursion P xs → AllByRecursion P (filter test xs)
All-filter P test xs a = filter-implied P P test xs (λ x p t. p) a

-- ---- heights

pub level-sum : (b more : Bounds) (x y : ℤ) → IsLevelIn b x → IsLevelIn more y → IsLevelIn (grown b more) (x +ℤ y)
level-sum b more x y h k = let a = h.top in let c = h.bottom in let d = k.top in let e = k.bottom in record { top = omega (arith, ints); bottom = omega (arith, ints) }

pub level-wider : (b around : Bounds) (x : ℤ) → AreInside b around → IsLevelIn b x → IsLevelIn around x
level-wider b around x i h = let a = h.top in let c = h.bottom in let up = i.up in let down = i.down in record { top = omega (arith, ints); bottom = omega (arith, ints) }

-- ---- places at the sides

pub aside-wider : (b around : Bounds) (x : ℤ) → AreInside b around → IsAsideIn b x → IsAsideIn around x
aside-wider b around x i h = let aside = i.aside in omega (arith, h, aside)

-- ---- rectangles

pub quad-wider : (b around : Bounds) (q : Quad ℤ) → AreInside b around → IsQuadIn b q → IsQuadIn around q
quad-wider b around q i h = record {
  left = aside-wider b around q.left i h.left;
  top = level-wider b around q.top i h.top;
  right = aside-wider b around q.right i h.right;
  bottom = level-wider b around q.bottom i h.bottom;
}

-- ---- bounds

pub inside-grown : (b more : Bounds) → AreInside b (grown b more)
inside-grown b more = record { up = omega arith; down = omega arith; aside = omega arith }

pub inside-more : (b c around : Bounds) → AreInside b c → AreInside c around → AreInside b around
inside-more b c around i j =
    let u = i.up in let d = i.down in let a = i.aside in let v = j.up in let e = j.down in let f = j.aside in
    record { up = omega (arith, u, v); down = omega (arith, d, e); aside = omega (arith, a, f) }

-- bounds of several things together

pub grown-assoc : (a b c : Bounds) → grown a (grown b c) ≡ grown (grown a b) c
grown-assoc a b c = rw (sums a.up b.up c.up, sums a.down b.down c.down, sums a.aside b.aside c.aside) refl
  where
    sums : (x y z : ℕ) → x + (y + z) ≡ x + y + z
    sums x y z = omega arith

pub none-grown : (b : Bounds) → b ≡ grown no_bounds b
none-grown b = rw (none b.up, none b.down, none b.aside) refl
  where
    none : (n : ℕ) → 0 + n ≡ n
    none n = omega arith

pub together-append : {A : Type 0} (f : A → Bounds) (xs ys : List A) → together f (xs ++ ys) ≡ grown (together f xs) (together f ys)
together-append f [] ys = none-grown (together f ys)
together-append f (x ∷ xs) ys = ap (grown (f x)) (together-append f xs ys) ∙ grown-assoc (f x) (together f xs) (together f ys)

pub put-wider : (b around own : Bounds) (at : Spot ℤ) → AreInside b around → IsPutIn b own at → IsPutIn around own at
put-wider b around own at i h =
    let up = i.up in let down = i.down in let aside = i.aside in
    let a = h.top in let c = h.bottom in let d = h.aside in
    record { top = omega (arith, ints); bottom = omega (arith, ints); aside = omega (arith, aside, d) }

pub level-max : (b : Bounds) (x y : ℤ) → IsLevelIn b x → IsLevelIn b y → IsLevelIn b (int_max x y)
level-max b x y h k = let a = h.top in let c = h.bottom in let d = k.top in let e = k.bottom in record { top = omega (arith, ints, clamps); bottom = omega (arith, ints, clamps) }
