use Rattle.std.proofs.Common.{◌≡◌, ℤ, ◌+ℤ◌, ◌≤ℤ◌, ◌<ℤ◌, Bool, true, false, not, cond, int_lt, int_le, IsTrue, List, [], ◌∷◌, map, filter, Contains, refl, subst, arith}
use Rattle.std.specs.Prelude.{◌&&◌, ◌||◌}
use Rattle.std.specs.List.{AllByRecursion, list_any}
use Rattle.std.proofs.lemmas.Int.{ints}
use Rattle.viz_base.specs.declared.layouts.Band.{Band}
use Rattle.layout_semantics.specs.Extremes.{greatest_from, least_from}
use Rattle.layout_semantics.specs.Floats.{FloatBox, is_left, meets, band_at, candidate_tops}
use Rattle.layout_semantics.specs.LineHeights.{InlineContext}
use Rattle.layout_semantics.specs.LineFilling.{fits, band_width, meets_none, least_or, line_top}
use Rattle.layout_laws.specs.Standing.{may_stand}
use Rattle.layout_laws.proofs.Members.{from_filter, to_filter, to_map, from_map}
use Rattle.layout_laws.proofs.Extremes.{start_below_greatest, start_above_least}
use Rattle.layout_laws.proofs.Greatest.{All-at, filter-implied, filter-all, filter-passes, All-map, greatest-subset, least-subset, greatest_from-any, least_from-any, greatest_from-bound, least_from-bound, greatest_from-least}
use Rattle.layout_laws.proofs.Levels.{All-implied}
use Rattle.layout_laws.proofs.Truths.{left_of, right_of, both_of, is_lt}

-- ---- lists of fewer members

-- an image of one that passes two tests is an image of one that passes wider ones
kept_member : {A : Type 0} (f : A → ℤ) (p q side : A → Bool) (xs : List A) → AllByRecursion (λ x. IsTrue (p x) → IsTrue (q x)) xs
    → (y : ℤ) → Contains (map f (filter side (filter p xs))) y → Contains (map f (filter side (filter q xs))) y
kept_member f p q side xs i y j =
    let s = from_map f (filter side (filter p xs)) y j in
    let t = from_filter side (filter p xs) s.0 s.1 in
    let u = from_filter p xs s.0 t.0 in
    let stays = to_filter q xs s.0 u.0 (All-at (λ x. IsTrue (p x) → IsTrue (q x)) xs s.0 i u.0 u.1) in
    subst (Contains (map f (filter side (filter q xs)))) s.2 (to_map f (filter side (filter q xs)) s.0 (to_filter side (filter q xs) s.0 stays t.1))

greatest-fewer : {A : Type 0} (f : A → ℤ) (a : ℤ) (p q side : A → Bool) (xs : List A) → AllByRecursion (λ x. IsTrue (p x) → IsTrue (q x)) xs
    → greatest_from a (map f (filter side (filter p xs))) ≤ℤ greatest_from a (map f (filter side (filter q xs)))
greatest-fewer f a p q side xs i = greatest-subset a (map f (filter side (filter p xs))) (map f (filter side (filter q xs))) (kept_member f p q side xs i)

least-fewer : {A : Type 0} (f : A → ℤ) (a : ℤ) (p q side : A → Bool) (xs : List A) → AllByRecursion (λ x. IsTrue (p x) → IsTrue (q x)) xs
    → least_from a (map f (filter side (filter q xs))) ≤ℤ least_from a (map f (filter side (filter p xs)))
least-fewer f a p q side xs i = least-subset a (map f (filter side (filter p xs))) (map f (filter side (filter q xs))) (kept_member f p q side xs i)

any-fewer : {A : Type 0} (p q : A → Bool) (xs : List A) → AllByRecursion (λ x. IsTrue (p x) → IsTrue (q x)) xs → IsTrue (not (list_any q xs)) → IsTrue (not (list_any p xs))
any-fewer p q [] i none = refl
any-fewer p q (x ∷ xs) i none = by (p x) (q x) i.0 none (λ rest. any-fewer p q xs i.1 rest)
  where
    by : (b c : Bool) → (IsTrue b → IsTrue c) → IsTrue (not (c || list_any q xs)) → (IsTrue (not (list_any q xs)) → IsTrue (not (list_any p xs))) → IsTrue (not (b || list_any p xs))
    by true true i none again = absurd (cc)
    by true false i none again = absurd (let no = i refl in cc)
    by false true i none again = absurd (cc)
    by false false i none again = again none

-- ---- a line beside floats

abbrev MeetsMore : ℤ → ℤ → ℤ → FloatBox → Type 0
MeetsMore tall a b f = IsTrue (meets a tall f) → IsTrue (meets b tall f)

either_of : {Z : Type 0} (x y : Bool) → IsTrue (x || y) → (IsTrue x → Z) → (IsTrue y → Z) → Z
either_of true y t f g = f refl
either_of false y t f g = g t

or-left : (x y : Bool) → IsTrue x → IsTrue (x || y)
or-left true y t = refl
or-left false y t = absurd (cc)

or-right : (x y : Bool) → IsTrue y → IsTrue (x || y)
or-right true y t = refl
or-right false y t = t

fits-more : (width : ℤ) (narrow wide : Band ℤ) → IsTrue (fits width narrow) → band_width narrow ≤ℤ band_width wide → IsTrue (fits width wide)
fits-more width narrow wide t l = by (int_le width (band_width wide)) refl
  where
    by : (b : Bool) → int_le width (band_width wide) ≡ b → IsTrue b
    by true e = refl
    by false e = absurd (omega (arith, ints))

wider : (c : InlineContext) (floats : List FloatBox) (tall a b : ℤ) → AllByRecursion (MeetsMore tall a b) floats → band_width (band_at floats c.cb b tall) ≤ℤ band_width (band_at floats c.cb a tall)
wider c floats tall a b i =
    let left = greatest-fewer (λ (f : FloatBox). f.box.right) c.cb.left (meets a tall) (meets b tall) is_left floats i in
    let right = least-fewer (λ (f : FloatBox). f.box.left) c.cb.right (meets a tall) (meets b tall) (λ f. not (is_left f)) floats i in
    omega (arith, ints)

-- beside fewer floats there is more room
may_stand-fewer : (c : InlineContext) (floats : List FloatBox) (tall width a b : ℤ) → AllByRecursion (MeetsMore tall a b) floats → IsTrue (may_stand c floats tall width b) → IsTrue (may_stand c floats tall width a)
may_stand-fewer c floats tall width a b i t =
    either_of (fits width (band_at floats c.cb b tall)) (meets_none floats b tall) t
    (λ roomy. or-left (fits width (band_at floats c.cb a tall)) (meets_none floats a tall) (fits-more width (band_at floats c.cb b tall) (band_at floats c.cb a tall) roomy (wider c floats tall a b i)))
    (λ none. or-right (fits width (band_at floats c.cb a tall)) (meets_none floats a tall) (any-fewer (meets a tall) (meets b tall) floats i none))

-- ---- the top found

abbrev below : ℤ → List FloatBox → List ℤ
below y floats = filter (int_lt y) (map (λ (f : FloatBox). f.box.bottom) floats)

no-lt : (a b : ℤ) → b ≤ℤ a → int_lt a b ≡ false
no-lt a b l = by (int_lt a b) refl
  where
    by : (t : Bool) → int_lt a b ≡ t → t ≡ false
    by true e = absurd (omega (arith, ints))
    by false e = refl

and-false : (x z : Bool) → (x && z && false) ≡ false
and-false true true = refl
and-false true false = refl
and-false false z = refl

apart : (f : FloatBox) (tall t : ℤ) → f.box.bottom ≤ℤ t → meets t tall f ≡ false
apart f tall t l = rw (no-lt t f.box.bottom l) (and-false (int_lt f.box.top f.box.bottom) (int_lt f.box.top (t +ℤ tall)))

none-met : (floats : List FloatBox) (tall t : ℤ) → AllByRecursion (λ (f : FloatBox). f.box.bottom ≤ℤ t) floats → IsTrue (not (list_any (meets t tall) floats))
none-met [] tall t a = refl
none-met (f ∷ fs) tall t a = rw (apart f tall t a.0) (none-met fs tall t a.1)

-- below the bottoms of all floats none is met
last-free : (c : InlineContext) (floats : List FloatBox) (tall width t : ℤ) → AllByRecursion (λ (f : FloatBox). f.box.bottom ≤ℤ t) floats → IsTrue (may_stand c floats tall width t)
last-free c floats tall width t a = or-right (fits width (band_at floats c.cb t tall)) (meets_none floats t tall) (none-met floats tall t a)

least_or-any : (P : ℤ → Type 0) (y : ℤ) (xs : List ℤ) → (xs ≡ [] → P y) → AllByRecursion P xs → P (least_or y xs)
least_or-any P y [] f a = f refl
least_or-any P y (x ∷ xs) f a = least_from-any P x xs a.0 a.1

least_or-bound : (y : ℤ) (xs : List ℤ) → AllByRecursion (λ x. least_or y xs ≤ℤ x) xs
least_or-bound y [] = tt
least_or-bound y (x ∷ xs) = (start_above_least x xs, least_from-bound x xs)

filter-none : {A : Type 0} (p : A → Bool) (xs : List A) → filter p xs ≡ [] → AllByRecursion (λ x. p x ≡ false) xs
filter-none p [] e = tt
filter-none {A} p (x ∷ xs) e = by (p x) e (λ rest. filter-none p xs rest)
  where
    by : (b : Bool) → cond b (x ∷ filter p xs) (filter p xs) ≡ [] → (filter p xs ≡ [] → AllByRecursion (λ x. p x ≡ false) xs) → (b ≡ false) × AllByRecursion (λ x. p x ≡ false) xs
    by true e again = absurd (cc)
    by false e again = (refl, again e)

-- of the floats whose bottom is not above y, and at most t
bottoms-within : (floats : List FloatBox) (y : ℤ) (q : ℤ → Bool) (m : ℤ) → AllByRecursion (λ x. x ≤ℤ m) (filter q (below y floats))
    → AllByRecursion (λ (f : FloatBox). IsTrue (int_lt y f.box.bottom) → IsTrue (q f.box.bottom) → f.box.bottom ≤ℤ m) floats
bottoms-within floats y q m a =
    All-map (λ b. IsTrue (int_lt y b) → IsTrue (q b) → b ≤ℤ m) (λ (f : FloatBox). f.box.bottom) floats
    (filter-all (λ b. IsTrue (q b) → b ≤ℤ m) (int_lt y) (map (λ (f : FloatBox). f.box.bottom) floats) (filter-all (λ b. b ≤ℤ m) q (below y floats) a))

lowest : (floats : List FloatBox) (y : ℤ) → AllByRecursion (λ (f : FloatBox). f.box.bottom ≤ℤ greatest_from y (below y floats)) floats
lowest floats y =
    let m = greatest_from y (below y floats) in
    let start = start_below_greatest y (below y floats) in
    let each = All-map (λ b. IsTrue (int_lt y b) → b ≤ℤ m) (λ (f : FloatBox). f.box.bottom) floats (filter-all (λ b. b ≤ℤ m) (int_lt y) (map (λ (f : FloatBox). f.box.bottom) floats) (greatest_from-bound y (below y floats))) in
    All-implied (λ (f : FloatBox). IsTrue (int_lt y f.box.bottom) → f.box.bottom ≤ℤ m) (λ (f : FloatBox). f.box.bottom ≤ℤ m) floats (λ f h. by f.box.bottom m start h) each
  where
    by : (b m : ℤ) → y ≤ℤ m → (IsTrue (int_lt y b) → b ≤ℤ m) → b ≤ℤ m
    by b m start h = by_test (int_lt y b) refl h
      where
        by_test : (t : Bool) → int_lt y b ≡ t → (IsTrue t → b ≤ℤ m) → b ≤ℤ m
        by_test true e h = h refl
        by_test false e h = omega (arith, ints)

-- there is a top at which the line may stand
some-top : (c : InlineContext) (floats : List FloatBox) (y tall width : ℤ) → filter (may_stand c floats tall width) (candidate_tops floats y) ≡ [] → ⊥
some-top c floats y tall width e =
    let none = filter-none (may_stand c floats tall width) (candidate_tops floats y) e in
    let last = greatest_from y (below y floats) in
    let no = greatest_from-any (λ t. may_stand c floats tall width t ≡ false) y (below y floats) none.0 none.1 in
    let yes = last-free c floats tall width last (lowest floats y) in
    clash (may_stand c floats tall width last) yes no
  where
    clash : (b : Bool) → IsTrue b → b ≡ false → ⊥
    clash b t f = cc

-- the top isn't above y, and the line may stand there
pub line_top-stands : (c : InlineContext) (floats : List FloatBox) (y tall width : ℤ) → (y ≤ℤ line_top c floats y tall width) × IsTrue (may_stand c floats tall width (line_top c floats y tall width))
line_top-stands c floats y tall width =
    let ok = may_stand c floats tall width in
    let below_y = filter-implied (λ b. IsTrue (int_lt y b)) (λ b. (y ≤ℤ b) × IsTrue (ok b)) ok (below y floats) (λ b l t. (lower b l, t)) (filter-passes (int_lt y) (map (λ (f : FloatBox). f.box.bottom) floats)) in
    least_or-any (λ b. (y ≤ℤ b) × IsTrue (ok b)) y (filter ok (candidate_tops floats y)) (λ e. absurd (some-top c floats y tall width e)) (with_first (ok y) refl below_y)
  where
    lower : (b : ℤ) → IsTrue (int_lt y b) → y ≤ℤ b
    lower b t = omega (arith, ints)

    with_first : (b : Bool) → may_stand c floats tall width y ≡ b → AllByRecursion (λ b. (y ≤ℤ b) × IsTrue (may_stand c floats tall width b)) (filter (may_stand c floats tall width) (below y floats))
        → AllByRecursion (λ b. (y ≤ℤ b) × IsTrue (may_stand c floats tall width b)) (cond b (y ∷ filter (may_stand c floats tall width) (below y floats)) (filter (may_stand c floats tall width) (below y floats)))
    with_first true e rest = ((omega (arith, ints), e), rest)
    with_first false e rest = rest

-- ---- no higher top

-- a float met at a lower top that is not above its bottom is met at the higher one
met-later : (tall y a b : ℤ) (f : FloatBox) → y ≤ℤ a → a ≤ℤ b → (IsTrue (int_lt y f.box.bottom) → IsTrue (int_le f.box.bottom b) → f.box.bottom ≤ℤ a) → MeetsMore tall a b f
met-later tall y a b f low order h m =
    let front = left_of (int_lt f.box.top f.box.bottom && int_lt f.box.top (a +ℤ tall)) (int_lt a f.box.bottom) m in
    let ends = right_of (int_lt f.box.top f.box.bottom && int_lt f.box.top (a +ℤ tall)) (int_lt a f.box.bottom) m in
    let high = left_of (int_lt f.box.top f.box.bottom) (int_lt f.box.top (a +ℤ tall)) front in
    let starts = right_of (int_lt f.box.top f.box.bottom) (int_lt f.box.top (a +ℤ tall)) front in
    both_of (int_lt f.box.top f.box.bottom && int_lt f.box.top (b +ℤ tall)) (int_lt b f.box.bottom)
    (both_of (int_lt f.box.top f.box.bottom) (int_lt f.box.top (b +ℤ tall)) high (is_lt f.box.top (b +ℤ tall) (omega (arith, ints))))
    (past (int_lt b f.box.bottom) refl (is_lt y f.box.bottom (omega (arith, ints))) ends)
  where
    past : (t : Bool) → int_lt b f.box.bottom ≡ t → IsTrue (int_lt y f.box.bottom) → IsTrue (int_lt a f.box.bottom) → IsTrue t
    past true e l k = refl
    past false e l k = absurd (let under = h l (yes-le (omega (arith, ints))) in omega (arith, ints))
      where
        yes-le : f.box.bottom ≤ℤ b → IsTrue (int_le f.box.bottom b)
        yes-le l = by (int_le f.box.bottom b) refl
          where
            by : (s : Bool) → int_le f.box.bottom b ≡ s → IsTrue s
            by true e = refl
            by false e = absurd (omega (arith, ints))

pub line_top-highest : (c : InlineContext) (floats : List FloatBox) (y tall width t : ℤ) → y ≤ℤ t → t <ℤ line_top c floats y tall width → may_stand c floats tall width t ≡ false
line_top-highest c floats y tall width t low high = by (may_stand c floats tall width t) refl
  where
    not_above : IsTrue (may_stand c floats tall width t) → line_top c floats y tall width ≤ℤ t
    not_above stands =
        let ok = may_stand c floats tall width in
        let top = line_top c floats y tall width in
        let within = filter (λ b. int_le b t) (below y floats) in
        let near = greatest_from y within in
        let order = greatest_from-least y within t low (All-implied (λ b. IsTrue (int_le b t)) (λ b. b ≤ℤ t) within (λ b l. omega (arith, ints)) (filter-passes (λ b. int_le b t) (below y floats))) in
        let start = start_below_greatest y within in
        let more = All-implied (λ (f : FloatBox). IsTrue (int_lt y f.box.bottom) → IsTrue (int_le f.box.bottom t) → f.box.bottom ≤ℤ near) (MeetsMore tall near t) floats
        (λ f h. met-later tall y near t f start order h) (bottoms-within floats y (λ b. int_le b t) near (greatest_from-bound y within)) in
        let near_stands = may_stand-fewer c floats tall width near t more stands in
        let each = filter-all (λ b. top ≤ℤ b) ok (candidate_tops floats y) (least_or-bound y (filter ok (candidate_tops floats y))) in
        let no_higher = greatest_from-any (λ b. IsTrue (ok b) → top ≤ℤ b) y within each.0 (filter-implied (λ b. IsTrue (ok b) → top ≤ℤ b) (λ b. IsTrue (ok b) → top ≤ℤ b) (λ b. int_le b t) (below y floats) (λ b h l. h) each.1) near_stands in
        omega (arith, ints)

    by : (b : Bool) → may_stand c floats tall width t ≡ b → b ≡ false
    by true e = absurd (let l = not_above e in omega (arith, ints))
    by false e = refl
