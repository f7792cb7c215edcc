-- The greatest of a list is what the definition of the cascading order computes, and there is one alone.
use Rattle.std.proofs.Common.{◌≡◌, Bool, true, false, List, [], ◌∷◌, ◌++◌, Option, Some, None, refl, sym, ◌∙◌, ap, subst, append_assoc}
use Rattle.std.specs.Cmp.{IsTotalOrder}
use Rattle.std.specs.List.{AllByRecursion}
use Rattle.std.specs.Ordering.{is_gt, is_lt, ordering_reverse}
use Rattle.std.specs.declared.cmp.Ordering.{Ordering}
use Rattle.std.specs.declared.cmp.Ordering.TheVariants.{Less, Equal, Greater}
use Rattle.std.proofs.lemmas.List.{append-nil}
use Rattle.std.proofs.lemmas.Cmp.{upto, then_total, on_total, nat_cmp_total}
use Rattle.viz_base.proofs.ListLemmas.{all_append}
use Rattle.css_semantics.specs.CascadeOrder.{IsGreatest, cascade_cmp, greatest, greatest_from, later_of, spec_cmp, weight_number}

-- ---- the orders

pub spec_total : IsTotalOrder spec_cmp
spec_total = then_total (on_total (λ s. s.style) nat_cmp_total) (then_total (on_total (λ s. s.ids) nat_cmp_total) (then_total (on_total (λ s. s.attrs) nat_cmp_total) (on_total (λ s. s.types) nat_cmp_total)))

pub cascade_total : IsTotalOrder cascade_cmp
cascade_total = then_total (on_total (λ a. weight_number a.claim.weight) nat_cmp_total) (on_total (λ a. a.spec) spec_total)

less_back : (o p : Ordering) → o ≡ ordering_reverse p → is_gt o ≡ true → is_lt p ≡ true
less_back o Less e h = refl
less_back o Equal e h = let same : o ≡ Equal = e in let no : is_gt Equal ≡ true = subst (λ x. is_gt x ≡ true) same h in cc
less_back o Greater e h = let same : o ≡ Less = e in let no : is_gt Less ≡ true = subst (λ x. is_gt x ≡ true) same h in cc

greater_back : (o p : Ordering) → o ≡ ordering_reverse p → is_lt p ≡ true → is_gt o ≡ true
greater_back o Less e h = let same : o ≡ Greater = e in ap is_gt same
greater_back o Equal e h = cc
greater_back o Greater e h = cc

not_greater : (o : Ordering) → is_lt o ≡ true → is_gt o ≡ false
not_greater Less h = refl
not_greater Equal h = cc
not_greater Greater h = cc

-- ---- lists

all_on : {A : Type 0} {P Q : A → Type 0} → ((x : A) → P x → Q x) → (xs : List A) → AllByRecursion P xs → AllByRecursion Q xs
all_on f [] h = h
all_on f (x ∷ xs) h = (f x h.0, all_on f xs h.1)

all_middle : {A : Type 0} (P : A → Type 0) (xs : List A) (y : A) (ys : List A) → AllByRecursion P (xs ++ y ∷ ys) → P y
all_middle P [] y ys h = h.0
all_middle P (x ∷ xs) y ys h = all_middle P xs y ys h.1

-- ---- what is computed is greatest

kept_best : {A : Type 0} {R : A → A → Ordering} (o : IsTotalOrder R) (front : List A) (best x : A) → is_gt (R best x) ≡ true → IsGreatest R front best → IsGreatest R (front ++ x ∷ []) best
kept_best {R = R} o front best x e g = record {
  before = g.before;
  after = g.after ++ x ∷ [];
  whole = ap (λ l. l ++ x ∷ []) g.whole ∙ append_assoc g.before (best ∷ g.after) (x ∷ []);
  none_greater = g.none_greater;
  each_less = all_append (λ y. is_lt (R y best) ≡ true) g.after (x ∷ []) g.each_less (less_back (R best x) (R x best) (o.antisymm best x) e, tt);
}

new_best : {A : Type 0} {R : A → A → Ordering} (o : IsTotalOrder R) (front : List A) (best x : A) → is_gt (R best x) ≡ false → IsGreatest R front best → IsGreatest R (front ++ x ∷ []) x
new_best {R = R} o front best x e g = record {
  before = front;
  after = [];
  whole = refl;
  none_greater = subst (AllByRecursion (λ y. is_gt (R y x) ≡ false)) (sym g.whole)
      (all_append (λ y. is_gt (R y x) ≡ false) g.before (best ∷ g.after)
      (all_on (λ y h. upto o y best x h e) g.before g.none_greater)
      (e, all_on (λ y h. upto o y best x (not_greater (R y best) h) e) g.after g.each_less));
  each_less = tt;
}

one_further : {A : Type 0} {R : A → A → Ordering} (o : IsTotalOrder R) (front : List A) (best x : A) (b : Bool) → is_gt (R best x) ≡ b → IsGreatest R front best → IsGreatest R (front ++ x ∷ []) (later_of R best x)
one_further o front best x true e g = rw e (kept_best o front best x e g)
one_further o front best x false e g = rw e (new_best o front best x e g)

from_is : {A : Type 0} {R : A → A → Ordering} (o : IsTotalOrder R) (front : List A) (best : A) (xs : List A) → IsGreatest R front best → IsGreatest R (front ++ xs) (greatest_from R best xs)
from_is {R = R} o front best [] g = subst (λ l. IsGreatest R l best) (sym (append-nil front)) g
from_is {R = R} o front best (x ∷ xs) g =
    subst (λ l. IsGreatest R l (greatest_from R (later_of R best x) xs)) (append_assoc front (x ∷ []) xs)
    (from_is o (front ++ x ∷ []) (later_of R best x) xs (one_further o front best x (is_gt (R best x)) refl g))

pub greatest_is : {A : Type 0} {R : A → A → Ordering} (o : IsTotalOrder R) (xs : List A) (x : A) → greatest R xs ≡ Some x → IsGreatest R xs x
greatest_is o [] x e = cc
greatest_is {R = R} o (y ∷ ys) x e =
    let same : greatest_from R y ys ≡ x = cc in
    subst (IsGreatest R (y ∷ ys)) same (from_is o (y ∷ []) y ys (record { before = []; after = []; whole = refl; none_greater = tt; each_less = tt }))

-- ---- there is one alone

parted : {A : Type 0} {R : A → A → Ordering} (o : IsTotalOrder R) (b : List A) (x : A) (a : List A) (c : List A) (y : A) (d : List A) → b ++ x ∷ a ≡ c ++ y ∷ d
    → AllByRecursion (λ z. is_gt (R z x) ≡ false) b → AllByRecursion (λ z. is_lt (R z x) ≡ true) a
    → AllByRecursion (λ z. is_gt (R z y) ≡ false) c → AllByRecursion (λ z. is_lt (R z y) ≡ true) d → x ≡ y
parted o [] x a [] y d e p q r s = cc
parted {R = R} o [] x a (z ∷ c) y d e p q r s =
    let same : x ≡ z = cc in
    let rest : a ≡ c ++ y ∷ d = cc in
    let less : is_lt (R y x) ≡ true = all_middle (λ w. is_lt (R w x) ≡ true) c y d (subst (AllByRecursion (λ w. is_lt (R w x) ≡ true)) rest q) in
    let yes : is_gt (R x y) ≡ true = greater_back (R x y) (R y x) (o.antisymm x y) less in
    let no : is_gt (R x y) ≡ false = subst (λ w. is_gt (R w y) ≡ false) (sym same) r.0 in
    cc
parted {R = R} o (z ∷ b) x a [] y d e p q r s =
    let same : z ≡ y = cc in
    let rest : b ++ x ∷ a ≡ d = cc in
    let less : is_lt (R x y) ≡ true = all_middle (λ w. is_lt (R w y) ≡ true) b x a (subst (AllByRecursion (λ w. is_lt (R w y) ≡ true)) (sym rest) s) in
    let yes : is_gt (R y x) ≡ true = greater_back (R y x) (R x y) (o.antisymm y x) less in
    let no : is_gt (R y x) ≡ false = subst (λ w. is_gt (R w x) ≡ false) same p.0 in
    cc
parted o (z ∷ b) x a (w ∷ c) y d e p q r s = let rest : b ++ x ∷ a ≡ c ++ y ∷ d = cc in parted o b x a c y d rest p.1 q r.1 s

same_greatest : {A : Type 0} {R : A → A → Ordering} (o : IsTotalOrder R) (xs : List A) (x y : A) → IsGreatest R xs x → IsGreatest R xs y → x ≡ y
same_greatest o xs x y g h = parted o g.before x g.after h.before y h.after (sym g.whole ∙ h.whole) g.none_greater g.each_less h.none_greater h.each_less

pub nothing_greatest : {A : Type 0} (R : A → A → Ordering) (xs : List A) → greatest R xs ≡ None → xs ≡ []
nothing_greatest R [] e = refl
nothing_greatest R (x ∷ xs) e = cc

not_nothing : {A : Type 0} (b : List A) (x : A) (a : List A) → b ++ x ∷ a ≡ [] → ⊥
not_nothing [] x a e = cc
not_nothing (y ∷ b) x a e = cc

found_greatest : {A : Type 0} {R : A → A → Ordering} (o : IsTotalOrder R) (xs : List A) (x : A) (found : Option A) → greatest R xs ≡ found → IsGreatest R xs x → found ≡ Some x
found_greatest {R = R} o xs x None e g = absurd (not_nothing g.before x g.after (sym g.whole ∙ nothing_greatest R xs e))
found_greatest o xs x (Some y) e g = ap Some (same_greatest o xs y x (greatest_is o xs y e) g)

pub is_greatest : {A : Type 0} {R : A → A → Ordering} (o : IsTotalOrder R) (xs : List A) (x : A) → IsGreatest R xs x → greatest R xs ≡ Some x
is_greatest {R = R} o xs x g = found_greatest o xs x (greatest R xs) refl g
