-- The children of a node among those before a number.
use Rattle.std.proofs.Common.{◌≡◌, ℕ, zero, suc, ◌+◌, ◌<◌, ◌≤◌, Bool, true, false, cond, List, [], ◌∷◌, ◌++◌, length, take, slice_get, Option, Some, None, IsTrue, refl, sym, ap, ◌∙◌, subst, arith, ◌-◌}
use Rattle.std.specs.Prelude.{nat_lt}
use Rattle.std.specs.Option.{option_map_or}
use Rattle.std.proofs.lemmas.Bool.{eqb-true, false≢true, ltb-true}
use Rattle.std.proofs.lemmas.Bool.Decides.{nat_tests}
use Rattle.std.proofs.lemmas.List.{append-nil, length-take-le, take_all}
use Rattle.std.proofs.lemmas.Option.{same_Some, slice_get_within}
use Rattle.viz_base.specs.Orders.{is_from}
use Rattle.viz_base.specs.Pages.{IsPage, is_element, is_element_at, parent_fits}
use Rattle.viz_base.specs.declared.nodes.Node.{Node}
use Rattle.viz_base.proofs.ListLemmas.{slice_some}
use Rattle.viz_base.proofs.Truths.{and_first, and_second}
use Rattle.page_pseudo.specs.Grown.{children, children_from, is_same_parent}
use Rattle.page_pseudo.specs.steps.Upto.{AreInside, children_to}

-- ---- one more node

pub take_more : {A : Type 0} (xs : List A) (n : ℕ) (x : A) → slice_get xs n ≡ Some x → take (suc n) xs ≡ take n xs ++ x ∷ []
take_more [] n x e = cc
take_more (y ∷ ys) zero x e = ap (λ z. z ∷ []) (same_Some y x e)
take_more (y ∷ ys) (suc n) x e = ap (λ zs. y ∷ zs) (take_more ys n x e)

cond_append : (b : Bool) (at : ℕ) (xs ys : List ℕ) → cond b (at ∷ (xs ++ ys)) (xs ++ ys) ≡ cond b (at ∷ xs) xs ++ ys
cond_append true at xs ys = refl
cond_append false at xs ys = refl

children_append : (at : ℕ) (parent : Option ℕ) (xs ys : List Node) → children_from at parent (xs ++ ys) ≡ children_from at parent xs ++ children_from (at + length xs) parent ys
children_append at parent [] ys = ap (λ n. children_from n parent ys) (let e : at ≡ at + 0 = omega arith in e)
children_append at parent (x ∷ xs) ys =
    let far : suc at + length xs ≡ at + suc (length xs) = omega arith in
    ap (λ cs. cond (is_same_parent x.parent parent) (at ∷ cs) cs) (children_append (suc at) parent xs ys ∙ ap (λ n. children_from (suc at) parent xs ++ children_from n parent ys) far)
    ∙ cond_append (is_same_parent x.parent parent) at (children_from (suc at) parent xs) (children_from (at + suc (length xs)) parent ys)

-- the node of a number is among them where it has this parent
pub child_step : (nodes : List Node) (n : ℕ) (node : Node) (parent : Option ℕ) → slice_get nodes n ≡ Some node → children_to nodes (suc n) parent ≡ children_to nodes n parent ++ cond (is_same_parent node.parent parent) (n ∷ []) []
child_step nodes n node parent e =
    let within = slice_get_within nodes n node e in
    let few = length-take-le n nodes (omega (arith, within)) in
    let size : 0 + length (take n nodes) ≡ n = omega (arith, few) in
    ap (children_from 0 parent) (take_more nodes n node e) ∙ children_append 0 parent (take n nodes) (node ∷ [])
    ∙ ap (λ m. children_to nodes n parent ++ cond (is_same_parent node.parent parent) (m ∷ []) []) size

pub is_child : (nodes : List Node) (n : ℕ) (node : Node) (parent : Option ℕ) → slice_get nodes n ≡ Some node → is_same_parent node.parent parent ≡ true → children_to nodes (suc n) parent ≡ children_to nodes n parent ++ n ∷ []
is_child nodes n node parent e t = child_step nodes n node parent e ∙ ap (λ b. children_to nodes n parent ++ cond b (n ∷ []) []) t

no_child : (nodes : List Node) (n : ℕ) (node : Node) (parent : Option ℕ) → slice_get nodes n ≡ Some node → is_same_parent node.parent parent ≡ false → children_to nodes (suc n) parent ≡ children_to nodes n parent
no_child nodes n node parent e f = child_step nodes n node parent e ∙ ap (λ b. children_to nodes n parent ++ cond b (n ∷ []) []) f ∙ append-nil (children_to nodes n parent)

pub all_before : (nodes : List Node) (n : ℕ) (parent : Option ℕ) → length nodes ≤ n → children_to nodes n parent ≡ children nodes parent
all_before nodes n parent le = ap (children_from 0 parent) (take_all n nodes le)

-- none from one number on up to another
abbrev pub NoneFrom : List Node → Option ℕ → ℕ → ℕ → Type 0
NoneFrom nodes parent n m = (k : ℕ) (node : Node) → slice_get nodes k ≡ Some node → n ≤ k → k < m → is_same_parent node.parent parent ≡ false

pub none_from : (nodes : List Node) (parent : Option ℕ) (n more : ℕ) → n + more ≤ length nodes → NoneFrom nodes parent n (n + more) → children_to nodes (n + more) parent ≡ children_to nodes n parent
none_from nodes parent n zero le h = ap (λ k. children_to nodes k parent) (let e : n + 0 ≡ n = omega arith in e)
none_from nodes parent n (suc more) le h =
    let far : n + suc more ≡ suc (n + more) = omega arith in
    let node = slice_some nodes (n + more) (omega arith) in
    ap (λ k. children_to nodes k parent) far
    ∙ no_child nodes (n + more) node.0 parent node.1 (h (n + more) node.0 node.1 (omega arith) (omega arith))
    ∙ none_from nodes parent n more (omega arith) (λ k m e l u. h k m e l (omega (arith, u)))

-- up to a number within the page
pub none_to : (nodes : List Node) (parent : Option ℕ) (n m : ℕ) → n ≤ m → m ≤ length nodes → NoneFrom nodes parent n m → children_to nodes m parent ≡ children_to nodes n parent
none_to nodes parent n m l u h =
    let e : n + (m - n) ≡ m = omega arith in
    ap (λ k. children_to nodes k parent) (sym e) ∙ none_from nodes parent n (m - n) (omega (arith, e)) (λ k x f g i. h k x f g (omega (arith, i, e)))

-- ---- parents

pub other_parent : (p q : ℕ) → (p ≡ q → ⊥) → is_same_parent (Some p) (Some q) ≡ false
other_parent p q h = grind (arith, nat_tests)

pub same_parent : (o p : Option ℕ) → is_same_parent o p ≡ true → o ≡ p
same_parent None None t = refl
same_parent (Some p) (Some q) t = ap Some (eqb-true p q t)
same_parent None (Some q) t = absurd (cc)
same_parent (Some p) None t = absurd (cc)

pub is_same_of : (o : Option ℕ) → is_same_parent o o ≡ true
is_same_of None = refl
is_same_of (Some p) = grind (arith, nat_tests)

pub from_is : (a : ℕ) (o : Option ℕ) → IsTrue (is_from a o) → (p : ℕ) × (o ≡ Some p) × (a ≤ p)
from_is a None t = absurd (cc)
from_is a (Some p) t = (p, refl, grind (arith, nat_tests))

-- what stands in an element has no parent before it
pub inside_not : (a : ℕ) (o parent : Option ℕ) → IsTrue (is_from a o) → ((q : ℕ) → parent ≡ Some q → q < a) → is_same_parent o parent ≡ false
inside_not a None parent t h = absurd (cc)
inside_not a (Some p) None t h = refl
inside_not a (Some p) (Some q) t h = let f = from_is a (Some p) t in let l = h q refl in let same = same_Some p f.0 f.1 in other_parent p q (λ e. absurd (omega (arith, e, f.2, l, same)))

-- ---- on a page

pub parent_before : (nodes : List Node) → IsPage nodes → (n : ℕ) (node : Node) (p : ℕ) → slice_get nodes n ≡ Some node → node.parent ≡ Some p → p < n
parent_before nodes page n node p e f = by_fit (subst (λ o. IsTrue (parent_fits nodes n o)) f (page.parents n node e))
  where
    by_fit : IsTrue (parent_fits nodes n (Some p)) → p < n
    by_fit t = ltb-true p n (and_first (nat_lt p n) (is_element_at nodes p) t)

pub parent_is_element : (nodes : List Node) → IsPage nodes → (n : ℕ) (node : Node) (p : ℕ) → slice_get nodes n ≡ Some node → node.parent ≡ Some p → is_element_at nodes p ≡ true
parent_is_element nodes page n node p e f = and_second (nat_lt p n) (is_element_at nodes p) (subst (λ o. IsTrue (parent_fits nodes n o)) f (page.parents n node e))

-- no node before the one behind an element is a child of it
pub no_child_before : (nodes : List Node) → IsPage nodes → (n a : ℕ) → n ≤ length nodes → n ≤ suc a → children_to nodes n (Some a) ≡ []
no_child_before nodes page n a u l =
    none_to nodes (Some a) 0 n (omega arith) u (λ k node e low high. by_parent k node e high node.parent refl) ∙ refl
  where
    by_parent : (k : ℕ) (node : Node) → slice_get nodes k ≡ Some node → k < n → (o : Option ℕ) → node.parent ≡ o → is_same_parent o (Some a) ≡ false
    by_parent k node e high None f = refl
    by_parent k node e high (Some p) f = let b = parent_before nodes page k node p e f in other_parent p a (λ s. absurd (omega (arith, b, s, high, l)))

-- a text has no children
pub text_childless : (nodes : List Node) → IsPage nodes → (n : ℕ) (node : Node) → slice_get nodes n ≡ Some node → is_element node.body ≡ false → children nodes (Some n) ≡ []
text_childless nodes page n node e f =
    sym (all_before nodes (length nodes) (Some n) (omega arith))
    ∙ none_to nodes (Some n) 0 (length nodes) (omega arith) (omega arith) (λ k m g low high. by_parent k m g m.parent refl) ∙ refl
  where
    text : is_element_at nodes n ≡ false
    text = ap (λ o. option_map_or (λ (m : Node). is_element m.body) o false) e ∙ f

    by_parent : (k : ℕ) (m : Node) → slice_get nodes k ≡ Some m → (o : Option ℕ) → m.parent ≡ o → is_same_parent o (Some n) ≡ false
    by_parent k m g None h = refl
    by_parent k m g (Some p) h = other_parent p n (λ s. false≢true (sym text ∙ ap (is_element_at nodes) (sym s) ∙ parent_is_element nodes page k m p g h))

-- the root alone has no parent
pub root_alone : (nodes : List Node) → IsPage nodes → children nodes None ≡ 0 ∷ []
root_alone nodes page = by_root (slice_get nodes 0) refl
  where
    rest : (k : ℕ) (m : Node) → slice_get nodes k ≡ Some m → 1 ≤ k → (o : Option ℕ) → m.parent ≡ o → is_same_parent o None ≡ false
    rest k m g low (Some p) h = refl
    rest k m g low None h = absurd (let fits : IsTrue (parent_fits nodes k None) = subst (λ o. IsTrue (parent_fits nodes k o)) h (page.parents k m g) in omega (arith, eqb-true k 0 fits, low))

    no_parent : (root : Node) → slice_get nodes 0 ≡ Some root → (o : Option ℕ) → root.parent ≡ o → root.parent ≡ None
    no_parent root e None f = f
    no_parent root e (Some p) f = absurd (let b = parent_before nodes page 0 root p e f in omega (arith, b))

    by_root : (o : Option Node) → slice_get nodes 0 ≡ o → children nodes None ≡ 0 ∷ []
    by_root None e = absurd (false≢true (sym (ap (λ o. option_map_or (λ (m : Node). is_element m.body) o false) e) ∙ page.root))
    by_root (Some root) e =
        let within = slice_get_within nodes 0 root e in
        sym (all_before nodes (length nodes) None (omega arith))
        ∙ none_to nodes None 1 (length nodes) (omega (arith, within)) (omega arith) (λ k m g low high. rest k m g low m.parent refl)
        ∙ is_child nodes 0 root None e (ap (λ o. is_same_parent o None) (no_parent root e root.parent refl)) ∙ refl

-- ---- an element whose content ends

-- the nodes between an element and a number are in it, and so no children of what is around it
pub none_inside : (nodes : List Node) (a n : ℕ) (parent : Option ℕ) → AreInside nodes a n → ((q : ℕ) → parent ≡ Some q → q < a) → NoneFrom nodes parent (suc a) n
none_inside nodes a n parent h b = λ k node e l u. inside_not a node.parent parent (h k node e (omega (arith, l)) u) b
