-- Parents and siblings of a page's nodes.
use Rattle.std.proofs.Common.{◌≡◌, ℕ, ◌<◌, ◌≤◌, ◌⊎◌, inl, inr, Bool, true, false, ◌==◌, ◌≢◌, ◌-◌, List, Option, Some, None, refl, sym, subst, arith}
use Rattle.std.specs.Prelude.{MatchOption, slice_get, IsTrue, nat_lt}
use Rattle.viz_base.specs.declared.nodes.Node.{Node}
use Rattle.viz_base.specs.Pages.{IsPage, is_element_at, parent_fits}
use Rattle.viz_base.proofs.Truths.{and_first}
use Rattle.css_semantics.specs.Matching.{IsParent, IsAncestor, parent, further, IsChildElement, IsFirstChild, IsPrevious}
use Rattle.css_semantics.proofs.Parents.{one_parent}
use Rattle.css_select.specs.steps.Trees.{IsLastChildBefore, NoChildBefore}
use Rattle.std.specs.Bool.{Decides}
use Rattle.std.proofs.lemmas.Bool.Decides.{Decides-eqb, Decides-ltb}

before_by : (nodes : List Node) (n : ℕ) (o : Option ℕ) → IsTrue (parent_fits nodes n o) → MatchOption o (Unit {0}) (λ p. p < n)
before_by nodes n None h = tt
before_by nodes n (Some p) h = let e = and_first (nat_lt p n) (is_element_at nodes p) h in grind arith

-- a node's parent stands before it
pub parent_before : (nodes : List Node) → IsPage nodes → (n : ℕ) (node : Node) → slice_get nodes n ≡ Some node → MatchOption node.parent (Unit {0}) (λ p. p < n)
parent_before nodes page n node e = before_by nodes n node.parent (page.parents n node e)

-- ---- the last child before a node

pub not_here : {P : Type 0} {r : Bool} → (P → r ≡ true) → r ≡ false → P → ⊥
not_here f e p = let h = f p in cc

eq_by : {P : Type 0} {m n : ℕ} (r : Bool) → (m ≡ n → P) → (m ≢ n → P) → Decides r (m ≡ n) → P
eq_by true same other h = same (h.0 refl)
eq_by false same other h = other (λ e. absurd (cc (h.1 e)))

pub eq_or_not : {P : Type 0} (m n : ℕ) → (m ≡ n → P) → (m ≢ n → P) → P
eq_or_not m n same other = eq_by (m == n) same other (Decides-eqb m n)

pub none_step : (P : ℕ → Type 0) (k node : ℕ) → 0 < k → ((m : ℕ) → k ≤ m → m < node → P m → ⊥) → (P (k - 1) → ⊥) → (m : ℕ) → k - 1 ≤ m → m < node → P m → ⊥
none_step P k node some h here m l u p = eq_or_not m (k - 1) (λ e. here (subst P e p)) (λ e. h m (omega arith) u p)

-- ---- first children

pub first_child : (nodes : List Node) (p n : ℕ) → IsParent nodes p n → NoChildBefore nodes p n → IsFirstChild nodes n
first_child nodes p n h k = record { parent = p; of_node = h; first = k }

pub not_first : (nodes : List Node) (p n s : ℕ) → IsParent nodes p n → IsLastChildBefore nodes p n s → IsFirstChild nodes n → ⊥
not_first nodes p n s h k f = f.first s k.before (subst (λ q. IsChildElement nodes q s) (one_parent nodes p f.parent n h f.of_node) k.is_child)

-- ---- siblings

pub previous_by : (nodes : List Node) (p n : ℕ) → IsParent nodes p n → (r : Option ℕ) → MatchOption r (NoChildBefore nodes p n) (IsLastChildBefore nodes p n) → MatchOption r ((s : ℕ) → IsPrevious nodes s n → ⊥) (λ s. IsPrevious nodes s n)
previous_by nodes p n h None k = λ s f. k s f.before (subst (λ q. IsChildElement nodes q s) (one_parent nodes f.parent p n f.of_node h) f.sibling)
previous_by nodes p n h (Some s) k = record { parent = p; of_node = h; sibling = k.is_child; before = k.before; direct = k.last }

upper : {m n : ℕ} → (m < n → n ≤ m) → n ≤ m
upper h = grind arith

less_by : {P : Type 0} {m n : ℕ} (r : Bool) → (m < n → P) → (n ≤ m → P) → Decides r (m < n) → P
less_by true less other h = less (h.0 refl)
less_by false less other h = other (upper (λ l. absurd (cc (h.1 l))))

less_or : {P : Type 0} (m n : ℕ) → (m < n → P) → (n ≤ m → P) → P
less_or m n less other = less_by (nat_lt m n) less other (Decides-ltb m n)

order : {P : Type 0} (m n : ℕ) → (m ≡ n → P) → (m < n → P) → (n < m → P) → P
order m n same less more = eq_or_not m n same (λ e. less_or m n (λ l. less l) (λ l. more (omega (arith, e, l))))

pub one_previous : (nodes : List Node) (s t n : ℕ) → IsPrevious nodes s n → IsPrevious nodes t n → s ≡ t
one_previous nodes s t n h k =
    let same = one_parent nodes h.parent k.parent n h.of_node k.of_node in
    order s t (λ e. e)
    (λ l. absurd (h.direct t l k.before (subst (λ q. IsChildElement nodes q t) (sym same) k.sibling)))
    (λ l. absurd (k.direct s l h.before (subst (λ q. IsChildElement nodes q s) same h.sibling)))

-- ---- elements around a node

ancestor_by : (nodes : List Node) {top n : ℕ} → IsAncestor nodes top n → (p : ℕ) → IsParent nodes p n → (top ≡ p) ⊎ IsAncestor nodes top p
ancestor_by nodes {n = n} (parent {p = q} h) p k = inl (one_parent nodes q p n h k)
ancestor_by nodes {top = top} {n = n} (further {p = q} h a) p k = inr (subst (IsAncestor nodes top) (one_parent nodes q p n h k) a)

pub ancestor_cases : (nodes : List Node) (top p n : ℕ) → IsParent nodes p n → IsAncestor nodes top n → (top ≡ p) ⊎ IsAncestor nodes top p
ancestor_cases nodes top p n h a = ancestor_by nodes a p h

pub ancestor_trans : (nodes : List Node) {top m n : ℕ} → IsAncestor nodes top m → IsAncestor nodes m n → IsAncestor nodes top n
ancestor_trans nodes a (parent h) = further h a
ancestor_trans nodes a (further h b) = further h (ancestor_trans nodes a b)

same_around_by : (nodes : List Node) (p s n top : ℕ) → IsParent nodes p s → IsParent nodes p n → (top ≡ p) ⊎ IsAncestor nodes top p → IsAncestor nodes top n
same_around_by nodes p s n top h k (inl e) = subst (λ x. IsAncestor nodes x n) (sym e) (parent k)
same_around_by nodes p s n top h k (inr a) = further k a

-- children of one element have the same elements around them
pub same_around : (nodes : List Node) (p s n top : ℕ) → IsParent nodes p s → IsParent nodes p n → IsAncestor nodes top s → IsAncestor nodes top n
same_around nodes p s n top h k a = same_around_by nodes p s n top h k (ancestor_cases nodes top p s h a)

pub false_true : {P : Type 0} → false ≡ true → P
false_true e = absurd (cc)
