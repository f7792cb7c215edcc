-- A grown page is a page, and what wins at its nodes is as the table allows.
use Rattle.std.proofs.Common.{◌≡◌, ℕ, zero, suc, ◌+◌, ◌<◌, ◌≤◌, Bool, true, false, ◌&&◌, List, [], ◌∷◌, ◌++◌, length, map, get_or, slice_get, Option, Some, None, IsTrue, refl, sym, ap, ◌∙◌, subst, arith, append_assoc, length-append}
use Rattle.std.specs.Prelude.{nat_lt}
use Rattle.std.specs.List.{AllByRecursion}
use Rattle.std.specs.Option.{option_map_or}
use Rattle.std.specs.Str.{chars}
use Rattle.std.proofs.lemmas.Bool.{false≢true}
use Rattle.std.proofs.lemmas.Bool.Decides.{nat_tests}
use Rattle.std.proofs.lemmas.List.{append-nil, length-map, map-append}
use Rattle.std.proofs.lemmas.Option.{same_Some, slice_get_within}
use Rattle.viz_base.specs.Orders.{IsInOrder}
use Rattle.viz_base.specs.Pages.{IsPage, has_lower_names, is_element, is_element_at, parent_fits, text_of}
use Rattle.viz_base.specs.declared.nodes.Node.{Node}
use Rattle.viz_base.specs.declared.selectors.Pseudo.{Pseudo}
use Rattle.viz_base.specs.declared.selectors.Pseudo.TheVariants.{Before, After}
use Rattle.viz_base.specs.declared.settings.Setting.{Setting}
use Rattle.viz_base.proofs.ListLemmas.{get_before}
use Rattle.viz_base.proofs.Sameness.{no_cons}
use Rattle.viz_base.proofs.Truths.{by_bool}
use Rattle.css_semantics.specs.ValuesLaws.{none}
use Rattle.css_semantics.specs.Winners.{AreWinners, IsAllowed, IsInOrder as InOrder}
use Rattle.page_pseudo.specs.declared.nodes.GrownNode.{GrownNode}
use Rattle.page_pseudo.specs.Generated.{generated}
use Rattle.page_pseudo.specs.Grown.{Grow, Written, children, content, grown, node_of, nothing, own_node, pseudo_element, pseudo_nodes, winners_at}
use Rattle.page_pseudo.specs.Limits.{IsWithin, count}
use Rattle.page_pseudo.proofs.Children.{root_alone, text_childless}
use Rattle.page_pseudo.proofs.Counting.{made_within}
use Rattle.page_pseudo.proofs.Members.{HoldsOf, all_hold, beside}
use Rattle.page_pseudo.proofs.Nesting.{no_content}
use Rattle.page_pseudo.proofs.Order.{in-order, parents_of, root-order}

-- ---- each node is behind the element that it is in

abbrev element_in : List GrownNode → ℕ → Bool
element_in xs p = is_element_at (map node_of xs) p

abbrev Fits : List GrownNode → List GrownNode → Type 0
Fits front [] = Unit {0}
Fits front (x ∷ xs) = ((p : ℕ) × (x.parent ≡ Some p) × (element_in front p ≡ true)) × Fits (front ++ x ∷ []) xs

fits-append : (front xs ys : List GrownNode) → Fits front xs → Fits (front ++ xs) ys → Fits front (xs ++ ys)
fits-append front [] ys h k = subst (λ f. Fits f ys) (append-nil front) k
fits-append front (x ∷ xs) ys h k = (h.0, fits-append (front ++ x ∷ []) xs ys h.1 (subst (λ f. Fits f ys) (sym (append_assoc front (x ∷ []) xs)) k))

-- an element stands there also when more is behind it
element_within : (xs : List GrownNode) (p : ℕ) → element_in xs p ≡ true → p < length xs
element_within xs p t = by_node (slice_get (map node_of xs) p) refl
  where
    by_node : (o : Option Node) → slice_get (map node_of xs) p ≡ o → p < length xs
    by_node None e = absurd (false≢true (sym (ap (λ o. option_map_or (λ (n : Node). is_element n.body) o false) e) ∙ t))
    by_node (Some n) e = let l = slice_get_within (map node_of xs) p n e in let s = length-map xs node_of in omega (arith, l, s)

element_longer : (xs ys : List GrownNode) (p : ℕ) → element_in xs p ≡ true → element_in (xs ++ ys) p ≡ true
element_longer xs ys p t =
    let l = element_within xs p t in
    let s = length-map xs node_of in
    ap (λ o. option_map_or (λ (n : Node). is_element n.body) o false) (ap (λ zs. slice_get zs p) (map-append node_of xs ys) ∙ get_before (map node_of xs) (map node_of ys) p (omega (arith, l, s))) ∙ t

element_last : (xs : List GrownNode) (x : GrownNode) → is_element x.body ≡ true → element_in (xs ++ x ∷ []) (length xs) ≡ true
element_last xs x t = ap (λ o. option_map_or (λ (n : Node). is_element n.body) o false) (last xs) ∙ t
  where
    last : (zs : List GrownNode) → slice_get (map node_of (zs ++ x ∷ [])) (length zs) ≡ Some (node_of x)
    last [] = refl
    last (z ∷ zs) = last zs

pseudo-fits : (which : Pseudo) (front : List GrownNode) (at p : ℕ) (winners : List Setting) (o : Option (List ℕ)) → at ≡ length front → element_in front p ≡ true → Fits front (pseudo_nodes which at p winners o)
pseudo-fits which front at p winners None e t = tt
pseudo-fits which front at p winners (Some []) e t = ((p, refl, t), tt)
pseudo-fits which front at p winners (Some (c ∷ text)) e t =
    let x = pseudo_element which p winners in
    ((p, refl, t), ((at, refl, ap (element_in (front ++ x ∷ [])) e ∙ element_last front x refl), tt))

module _ (w : Written) (page : IsPage w.nodes) where
  no_kids : {ks : List ℕ} {at : ℕ} {parent : Option ℕ} {xs : List GrownNode} → Grow w ks at parent xs → ks ≡ [] → xs ≡ []
  no_kids nothing e = refl
  no_kids (grown a b c d f) e = absurd (no_cons (sym e))

  -- what is in a node stands behind it, where what its children become does
  inner-fits : (front : List GrownNode) (own : GrownNode) (n at : ℕ) (node : Node) (first items last : List GrownNode) → slice_get w.nodes n ≡ Some node → own.body ≡ node.body → at ≡ length front
      → first ≡ content Before (suc at) at node.body (winners_at w.before n) → Grow w (children w.nodes (Some n)) (suc at + length first) (Some at) items → last ≡ content After (suc at + length first + length items) at node.body (winners_at w.after n)
      → ((fr : List GrownNode) → suc at + length first ≡ length fr → element_in fr at ≡ true → Fits fr items) → Fits (front ++ own ∷ []) (first ++ (items ++ last))
  inner-fits front own n at node first items last h s e f g l again = by_bool (is_element node.body) element text
    where
      behind : List GrownNode
      behind = front ++ own ∷ []

      begin : suc at ≡ length behind
      begin = omega (arith, e, length-append front (own ∷ []))

      text : is_element node.body ≡ false → Fits behind (first ++ (items ++ last))
      text t =
          let no_first : first ≡ [] = f ∙ no_content Before (suc at) at node.body (winners_at w.before n) t in
          let no_items : items ≡ [] = no_kids g (text_childless w.nodes page n node h t) in
          let no_last : last ≡ [] = l ∙ no_content After (suc at + length first + length items) at node.body (winners_at w.after n) t in
          subst (Fits behind) (sym (ap (λ xs. xs ++ (items ++ last)) no_first ∙ ap (λ xs. xs ++ last) no_items ∙ no_last)) tt

      element : is_element node.body ≡ true → Fits behind (first ++ (items ++ last))
      element t =
          let is : element_in behind at ≡ true = ap (element_in behind) e ∙ element_last front own (ap is_element s ∙ t) in
          let within : element_in (behind ++ first) at ≡ true = element_longer behind first at is in
          let later : element_in ((behind ++ first) ++ items) at ≡ true = element_longer (behind ++ first) items at within in
          fits-append behind first (items ++ last)
          (subst (Fits behind) (sym f) (pseudo-fits Before behind (suc at) at (winners_at w.before n) (generated node.body (winners_at w.before n)) begin is))
          (fits-append (behind ++ first) items last
          (again (behind ++ first) (omega (arith, begin, length-append behind first)) within)
          (subst (Fits ((behind ++ first) ++ items)) (sym l)
          (pseudo-fits After ((behind ++ first) ++ items) (suc at + length first + length items) at (winners_at w.after n) (generated node.body (winners_at w.after n)) (omega (arith, begin, length-append (behind ++ first) items, length-append behind first)) later)))

  grow-fits : {ks : List ℕ} {at : ℕ} {parent : Option ℕ} {xs : List GrownNode} (q : ℕ) (front : List GrownNode) → Grow w ks at parent xs → parent ≡ Some q → at ≡ length front → element_in front q ≡ true → Fits front xs
  grow-fits q front nothing p e t = tt
  grow-fits q front (grown {n = n} {at = at} {parent = parent} {node = node} {first = first} {inside = items} {last = last} {others = others} h f g l more) p e t =
      let own = own_node w n parent node in
      let behind = front ++ own ∷ [] in
      let body = behind ++ (first ++ (items ++ last)) in
      let begin : suc at ≡ length behind = omega (arith, e, length-append front (own ∷ [])) in
      let far : suc at + length first + length items + length last ≡ length body =
      omega (arith, begin, length-append behind (first ++ (items ++ last)), length-append first (items ++ last), length-append items last) in
      let split : first ++ (items ++ (last ++ others)) ≡ (first ++ (items ++ last)) ++ others = simp append_assoc in (
        (q, p, t),
        subst (Fits behind) (sym split)
            (fits-append behind (first ++ (items ++ last)) others (inner-fits front own n at node first items last h refl e f g l (λ fr s u. grow-fits at fr g refl s u))
            (grow-fits q body more p far (element_longer behind (first ++ (items ++ last)) q (element_longer front (own ∷ []) q t)))),
      )

  -- ---- the facts of a page

  fits-at : (front xs : List GrownNode) (i : ℕ) (x : GrownNode) → Fits front xs → slice_get xs i ≡ Some x → (p : ℕ) × (x.parent ≡ Some p) × (element_in (front ++ xs) p ≡ true) × (p < length front + i)
  fits-at front [] i x h e = cc
  fits-at front (y ∷ ys) zero x h e =
      let same = same_Some y x e in
      let k = h.0 in
      (k.0, ap (λ (z : GrownNode). z.parent) (sym same) ∙ k.1, element_longer front (y ∷ ys) k.0 k.2, (let l = element_within front k.0 k.2 in omega (arith, l)))
  fits-at front (y ∷ ys) (suc i) x h e =
      let k = fits-at (front ++ y ∷ []) ys i x h.1 e in
      (k.0, k.1, subst (λ zs. element_in zs k.0 ≡ true) (append_assoc front (y ∷ []) ys) k.2, (let l = k.3 in omega (arith, l, length-append front (y ∷ []))))

  -- the root, and what is in it
  record IsRooted (all : List GrownNode) : Type 0 where
    root : GrownNode
    rest : List GrownNode
    whole : all ≡ root ∷ rest
    no_parent : root.parent ≡ None
    element : is_element root.body ≡ true
    fits : Fits (root ∷ []) rest

  rooted : (all : List GrownNode) → Grow w (0 ∷ []) 0 None all → IsRooted all
  rooted _ (grown {node = node} {first = first} {inside = items} {last = last} h f g l nothing) =
      let own = own_node w 0 None node in
      let split : first ++ (items ++ last) ≡ first ++ (items ++ (last ++ [])) = simp append-nil in
      record {
        root = own;
        rest = first ++ (items ++ (last ++ []));
        whole = refl;
        no_parent = refl;
        element = sym (ap (λ o. option_map_or (λ (n : Node). is_element n.body) o false) h) ∙ page.root;
        fits = subst (Fits (own ∷ [])) split (inner-fits [] own 0 0 node first items last h refl refl f g l (λ fr s u. grow-fits 0 fr g refl s u));
      }

  -- the bodies of its nodes
  abbrev HasFew : GrownNode → Type 0
  HasFew g = length (chars (text_of g.body)) ≤ 262144

  no_text : length (chars []) ≤ 262144
  unfolding chars
  no_text = omega arith

  few : IsWithin w → HoldsOf w HasFew
  few within = record {
    own = λ n parent node e. page.texts n node e;
    element = λ which n parent node e. no_text;
    text = λ which n parent node text e f. by_which which n node text e f;
  }
    where
      by_which : (which : Pseudo) (n : ℕ) (node : Node) (text : List ℕ) → slice_get w.nodes n ≡ Some node → generated node.body (beside w which n) ≡ Some text → length (chars text) ≤ 262144
      by_which Before n node text e f = let h = made_within w n node within e in let is = ap count f in omega (arith, h, is)
      by_which After n node text e f = let h = made_within w n node within e in let is = ap count f in omega (arith, h, is)

  abbrev IsLower : GrownNode → Type 0
  IsLower g = IsTrue (has_lower_names g.body)

  lower : HoldsOf w IsLower
  lower = record {
    own = λ n parent node e. page.names n node e;
    element = λ which n parent node e. by_which which parent (beside w which n);
    text = λ which n parent node text e f. refl;
  }
    where
      by_which : (which : Pseudo) (parent : ℕ) (winners : List Setting) → IsLower (pseudo_element which parent winners)
      by_which Before parent winners = refl
      by_which After parent winners = refl

  at_node : (P : GrownNode → Type 0) (xs : List GrownNode) (i : ℕ) (n : Node) → AllByRecursion P xs → slice_get (map node_of xs) i ≡ Some n → (g : GrownNode) × (slice_get xs i ≡ Some g) × (node_of g ≡ n) × P g
  at_node P [] i n h e = cc
  at_node P (x ∷ xs) zero n h e = (x, refl, same_Some (node_of x) n e, h.0)
  at_node P (x ∷ xs) (suc i) n h e = at_node P xs i n h.1 e

  module _ (all : List GrownNode) (grow : Grow w (children w.nodes None) 0 None all) (within : IsWithin w) where
    from_root : Grow w (0 ∷ []) 0 None all
    from_root = subst (λ ks. Grow w ks 0 None all) (root_alone w.nodes page) grow

    root_is : IsRooted all
    root_is = rooted all from_root

    parents_fit : (i : ℕ) (g : GrownNode) → slice_get all i ≡ Some g → IsTrue (parent_fits (map node_of all) i g.parent)
    parents_fit zero g e =
        let r = root_is in
        let same = same_Some r.root g (sym (ap (λ xs. slice_get xs 0) r.whole) ∙ e) in
        subst (λ o. IsTrue (parent_fits (map node_of all) 0 o)) (sym r.no_parent ∙ ap (λ (x : GrownNode). x.parent) same) refl
    parents_fit (suc i) g e =
        let r = root_is in
        let k = fits-at (r.root ∷ []) r.rest i g r.fits (sym (ap (λ xs. slice_get xs (suc i)) r.whole) ∙ e) in
        let is : element_in all k.0 ≡ true = subst (λ xs. element_in xs k.0 ≡ true) (sym r.whole) k.2 in
        subst (λ o. IsTrue (parent_fits (map node_of all) (suc i) o)) (sym k.1) (and_true (nat_lt k.0 (suc i)) (element_in all k.0) (let l = k.3 in before k.0 (suc i) (omega (arith, l))) is)
      where
        before : (a b : ℕ) → a < b → nat_lt a b ≡ true
        before a b l = grind (arith, nat_tests)

        and_true : (a b : Bool) → a ≡ true → b ≡ true → (a && b) ≡ true
        and_true true b e f = f
        and_true false b e f = e

    same_parents : (xs : List GrownNode) → map (λ (n : Node). n.parent) (map node_of xs) ≡ parents_of xs
    same_parents [] = refl
    same_parents (x ∷ xs) = ap (λ ps. x.parent ∷ ps) (same_parents xs)

    root_element : IsTrue (is_element_at (map node_of all) 0)
    root_element = let r = root_is in subst (λ xs. IsTrue (is_element_at (map node_of xs) 0)) (sym r.whole) r.element

    pub grown_page : IsPage (map node_of all)
    grown_page = record {
      root = root_element;
      parents = λ i n e. let k = at_node (λ g. Unit {0}) all i n (nothing_asked all) e in subst (λ (m : Node). IsTrue (parent_fits (map node_of all) i m.parent)) k.2 (parents_fit i k.0 k.1);
      in_order = subst IsInOrder (sym (same_parents all)) (in-order (parents_of all) (root-order w 0 all from_root));
      texts = λ i n e. let k = at_node HasFew all i n (all_hold w HasFew (few within) grow) e in subst (λ (m : Node). length (chars (text_of m.body)) ≤ 262144) k.2 k.3;
      names = λ i n e. let k = at_node IsLower all i n (all_hold w IsLower lower grow) e in subst (λ (m : Node). IsTrue (has_lower_names m.body)) k.2 k.3;
    }
      where
        nothing_asked : (xs : List GrownNode) → AllByRecursion (λ g. Unit {0}) xs
        nothing_asked [] = tt
        nothing_asked (x ∷ xs) = (tt, nothing_asked xs)

-- ---- what wins

all_get : {A : Type 0} (P : List A → Type 0) (all : List (List A)) (n : ℕ) → P [] → AllByRecursion P all → P (get_or all n [])
all_get P [] n empty h = empty
all_get P (x ∷ all) zero empty h = h.0
all_get P (x ∷ all) (suc n) empty h = all_get P all n empty h.1

-- what holds of the winners at each node, of no winners too, holds of those of the grown page
winners_hold : (w : Written) (P : List Setting → Type 0) → P [] → AllByRecursion P w.own → AllByRecursion P w.before → AllByRecursion P w.after → HoldsOf w (λ g. P g.winners)
winners_hold w P empty own before after = record {
  own = λ n parent node e. all_get P w.own n empty own;
  element = λ which n parent node e. by_which which n;
  text = λ which n parent node text e f. empty;
}
  where
    by_which : (which : Pseudo) (n : ℕ) → P (beside w which n)
    by_which Before n = all_get P w.before n empty before
    by_which After n = all_get P w.after n empty after

as_map : (P : List Setting → Type 0) (xs : List GrownNode) → AllByRecursion (λ (g : GrownNode). P g.winners) xs → AllByRecursion P (map (λ (g : GrownNode). g.winners) xs)
as_map P [] h = tt
as_map P (x ∷ xs) h = (h.0, as_map P xs h.1)

pub grown_winners : (w : Written) (ks : List ℕ) (all : List GrownNode) → Grow w ks 0 None all → AreWinners w.nodes w.own → AreWinners w.nodes w.before → AreWinners w.nodes w.after → AreWinners (map node_of all) (map (λ (g : GrownNode). g.winners) all)
grown_winners w ks all grow own before after = record {
  each = length-map all (λ (g : GrownNode). g.winners) ∙ sym (length-map all node_of);
  ordered = as_map InOrder all (all_hold w (λ g. InOrder g.winners) (winners_hold w InOrder none own.ordered before.ordered after.ordered) grow);
  allowed = as_map (AllByRecursion IsAllowed) all (all_hold w (λ g. AllByRecursion IsAllowed g.winners) (winners_hold w (AllByRecursion IsAllowed) tt own.allowed before.allowed after.allowed) grow);
}
