-- What the nodes before a number have become, with one more of them done.
use Rattle.std.proofs.Common.{◌≡◌, ℕ, zero, suc, ◌+◌, ◌<◌, ◌≤◌, true, false, cond, not, ◌&&◌, List, [], ◌∷◌, ◌++◌, length, get_or, slice_get, Option, Some, None, IsTrue, refl, sym, ap, ◌∙◌, subst, arith, inl, inr, ◌⊎◌, append_assoc, length-append}
use Rattle.std.proofs.lemmas.Bool.{cases_order}
use Rattle.std.proofs.lemmas.Bool.Decides.{nat_tests}
use Rattle.std.proofs.lemmas.List.{append-nil, get_or_append_left}
use Rattle.std.proofs.lemmas.Option.{same_Some, slice_get_read, slice_get_within}
use Rattle.viz_base.specs.Orders.{is_from}
use Rattle.viz_base.specs.Pages.{IsPage, is_break, is_element, is_replaced}
use Rattle.viz_base.specs.declared.nodes.Body.{Body}
use Rattle.viz_base.specs.declared.nodes.Node.{Node}
use Rattle.viz_base.specs.declared.selectors.Pseudo.{Pseudo}
use Rattle.viz_base.specs.declared.selectors.Pseudo.TheVariants.{Before, After}
use Rattle.viz_base.specs.declared.settings.Prop.TheVariants.{Content}
use Rattle.viz_base.specs.declared.settings.Setting.{Setting}
use Rattle.css_semantics.specs.ComputedValues.{winner}
use Rattle.page_pseudo.specs.declared.nodes.GrownNode.{GrownNode}
use Rattle.page_pseudo.specs.Generated.{text_of}
use Rattle.page_pseudo.specs.Grown.{Grow, Written, children, content, grown, is_same_parent, nothing, own_node, pseudo_nodes, winners_at}
use Rattle.page_pseudo.specs.steps.Upto.{AreInside, HasAllBefore, Upto, children_to, inside, new_number, outside}
use Rattle.page_pseudo.proofs.Children.{all_before, from_is, is_child, is_same_of, no_child_before, none_inside, none_to, text_childless}

-- ---- one more node grows

append_inside : (x : GrownNode) (first items last others ys : List GrownNode) → (x ∷ (first ++ (items ++ (last ++ others)))) ++ ys ≡ x ∷ (first ++ (items ++ (last ++ (others ++ ys))))
append_inside x first items last others ys = simp append_assoc

pub grow_more : {w : Written} {ks : List ℕ} {at : ℕ} {parent : Option ℕ} {xs : List GrownNode} (k : ℕ) (ys : List GrownNode) → Grow w ks at parent xs → Grow w (k ∷ []) (at + length xs) parent ys → Grow w (ks ++ k ∷ []) at parent (xs ++ ys)
grow_more {w} {at = at} {parent = parent} k ys nothing h = subst (λ n. Grow w (k ∷ []) n parent ys) (let e : at + 0 ≡ at = omega arith in e) h
grow_more {w} {parent = parent} k ys (grown {n = n} {at = at} {rest = rest} {node = node} {first = first} {inside = items} {last = last} {others = others} e f g l more) h =
    let far = suc at + length first + length items + length last in
    let size : at + length (own_node w n parent node ∷ (first ++ (items ++ (last ++ others)))) ≡ far + length others =
    omega (arith, length-append first (items ++ (last ++ others)), length-append items (last ++ others), length-append last others) in
    subst (Grow w (n ∷ (rest ++ k ∷ [])) at parent) (sym (append_inside (own_node w n parent node) first items last others ys))
    (grown e f g l (grow_more k ys more (subst (λ m. Grow w (k ∷ []) m parent ys) size h)))

-- ---- numbers grow

pub within_open : {w : Written} {numbers : List ℕ} {n : ℕ} {o : Option ℕ} {all : List GrownNode} (a : ℕ) → Upto w numbers n o all → o ≡ Some a → a < n
within_open a (outside g) e = absurd (cc)
within_open {n = n} a (inside {a = b} at l num ins f g up) e = subst (λ x. x < n) (same_Some b a e) l

new_same : {w : Written} {numbers : List ℕ} {n : ℕ} {o : Option ℕ} {all : List GrownNode} (x : ℕ) → Upto w numbers n o all → n ≤ length numbers → new_number (numbers ++ x ∷ []) o ≡ new_number numbers o
new_same x (outside g) le = refl
new_same {numbers = numbers} x (inside {a = a} at l num ins f g up) le = ap Some (get_or_append_left numbers (x ∷ []) 0 a (omega (arith, l, le)))

pub upto_longer : {w : Written} {numbers : List ℕ} {n : ℕ} {o : Option ℕ} {all : List GrownNode} (x : ℕ) → Upto w numbers n o all → n ≤ length numbers → Upto w (numbers ++ x ∷ []) n o all
upto_longer x (outside g) le = outside g
upto_longer {w} {numbers = numbers} {n = n} x (inside {a = a} {node = node} {outer = outer} {first = first} {items = items} at l num ins f g up) le =
    let few : a ≤ length numbers = omega (arith, l, le) in
    subst (λ o. Upto w (numbers ++ x ∷ []) n (Some a) (outer ++ own_node w a o node ∷ (first ++ items))) (new_same x up few)
    (inside at l (get_or_append_left numbers (x ∷ []) 0 a (omega (arith, l, le)) ∙ num) ins f g (upto_longer x up few))

-- ---- a node that is done, in what is around it

two_fronts : (outer : List GrownNode) (x : GrownNode) (first items xs : List GrownNode) → (outer ++ x ∷ (first ++ items)) ++ xs ≡ outer ++ x ∷ (first ++ (items ++ xs))
two_fronts outer x first items xs = simp append_assoc

around_length : (outer : List GrownNode) (x : GrownNode) (first items : List GrownNode) → length (outer ++ x ∷ (first ++ items)) ≡ suc (length outer) + length first + length items
around_length outer x first items = omega (arith, length-append outer (x ∷ (first ++ items)), length-append first items)

module _ (w : Written) (page : IsPage w.nodes) (numbers : List ℕ) (a n : ℕ) (node : Node) (here : slice_get w.nodes a ≡ Some node) (low : a < n) (high : n ≤ length w.nodes) (ins : AreInside w.nodes a n) (xs : List GrownNode) where
  -- the children of what is around it are those before it, and it
  one_child : (parent : Option ℕ) → node.parent ≡ parent → ((q : ℕ) → parent ≡ Some q → q < a) → children_to w.nodes n parent ≡ children_to w.nodes a parent ++ a ∷ []
  one_child parent e b = none_to w.nodes parent (suc a) n (omega (arith, low)) high (none_inside w.nodes a n parent ins b) ∙ is_child w.nodes a node parent here (subst (λ o. is_same_parent node.parent o ≡ true) e (is_same_of node.parent))

  all_inside : (b : ℕ) → node.parent ≡ Some b → b < a → AreInside w.nodes b a → AreInside w.nodes b n
  all_inside b e l i m x f after before = by_order (cases_order m a)
    where
      by_order : (m ≡ a) ⊎ ((m < a) ⊎ (a < m)) → IsTrue (is_from b x.parent)
      by_order (inl s) =
          let same = same_Some node x (sym here ∙ ap (slice_get w.nodes) (sym s) ∙ f) in
          subst (λ o. IsTrue (is_from b o)) (sym e ∙ ap (λ (y : Node). y.parent) same) (let own : IsTrue (is_from b (Some b)) = grind (arith, nat_tests) in own)
      by_order (inr (inl s)) = i m x f after s
      by_order (inr (inr s)) = farther x.parent (from_is a x.parent (ins m x f s before))
        where
          farther : (o : Option ℕ) → (p : ℕ) × (o ≡ Some p) × (a ≤ p) → IsTrue (is_from b o)
          farther o (p, is, le) = subst (λ z. IsTrue (is_from b z)) (sym is) (let far : IsTrue (is_from b (Some p)) = grind (arith, nat_tests) in far)

  done_by : {o : Option ℕ} {outer : List GrownNode} → Upto w numbers a o outer → node.parent ≡ o → Grow w (a ∷ []) (length outer) (new_number numbers o) xs → Upto w numbers n o (outer ++ xs)
  done_by {outer = outer} (outside g) e h = outside (subst (λ ks. Grow w ks 0 None (outer ++ xs)) (sym (one_child None e (λ q f. absurd (cc)))) (grow_more a xs g (subst (λ k. Grow w (a ∷ []) k None xs) (let e : length outer ≡ 0 + length outer = omega arith in e) h)))
  done_by (inside {a = b} {node = m} {outer = outer} {first = first} {items = items} at l num i f g up) e h =
      let own = own_node w b (new_number numbers m.parent) m in
      let begin : length (outer ++ own ∷ (first ++ items)) ≡ suc (length outer) + length first + length items = around_length outer own first items in
      let inner : Grow w (a ∷ []) (suc (length outer) + length first + length items) (Some (length outer)) xs =
      subst (λ k. Grow w (a ∷ []) k (Some (length outer)) xs) begin (subst (λ k. Grow w (a ∷ []) (length (outer ++ own ∷ (first ++ items))) (Some k) xs) num h) in
      subst (Upto w numbers n (Some b)) (sym (two_fronts outer own first items xs))
      (inside at (omega (arith, l, low)) num (all_inside b e l i) f
      (subst (λ ks. Grow w ks (suc (length outer) + length first) (Some (length outer)) (items ++ xs)) (sym (one_child (Some b) e (λ q s. subst (λ z. z < a) (same_Some b q s) l))) (grow_more a xs g inner)) up)

-- ---- an element ends

end_of : (outer : List GrownNode) (x : GrownNode) (first items last : List GrownNode) → outer ++ x ∷ (first ++ (items ++ (last ++ []))) ≡ (outer ++ x ∷ (first ++ items)) ++ last
end_of outer x first items last = simp (append_assoc, append-nil)

pub closed : (w : Written) (page : IsPage w.nodes) (numbers : List ℕ) {n : ℕ} {o : Option ℕ} {all : List GrownNode} (a : ℕ) (node : Node) (last : List GrownNode) → n ≤ length w.nodes → Upto w numbers n o all → o ≡ Some a → slice_get w.nodes a ≡ Some node → HasAllBefore w.nodes a n
    → last ≡ content After (length all) (get_or numbers a 0) node.body (winners_at w.after a) → Upto w numbers n node.parent (all ++ last)
closed w page numbers a node last high (outside g) e here whole k = absurd (cc)
closed w page numbers {n = n} a node last high (inside {a = b} {node = m} {outer = outer} {first = first} {items = items} at l num ins f g up) e here whole k =
    closes (same_Some b a e)
  where
    own : GrownNode
    own = own_node w b (new_number numbers m.parent) m

    closes : b ≡ a → Upto w numbers n node.parent ((outer ++ own ∷ (first ++ items)) ++ last)
    closes s =
        let same : m ≡ node = same_Some m node (sym at ∙ ap (slice_get w.nodes) s ∙ here) in
        let inner : Grow w (children w.nodes (Some b)) (suc (length outer) + length first) (Some (length outer)) items =
        subst (λ ks. Grow w ks (suc (length outer) + length first) (Some (length outer)) items) (ap (λ z. children_to w.nodes n (Some z)) s ∙ whole ∙ ap (λ z. children w.nodes (Some z)) (sym s)) g in
        let end : last ≡ content After (suc (length outer) + length first + length items) (length outer) m.body (winners_at w.after b) =
        k ∙ ap (λ z. content After z (get_or numbers a 0) node.body (winners_at w.after a)) (around_length outer own first items) ∙ ap (λ z. content After (suc (length outer) + length first + length items) (get_or numbers z 0) node.body (winners_at w.after z)) (sym s)
        ∙ ap (λ z. content After (suc (length outer) + length first + length items) z node.body (winners_at w.after b)) num ∙ ap (λ (z : Node). content After (suc (length outer) + length first + length items) (length outer) z.body (winners_at w.after b)) (sym same) in
        subst (λ (z : Node). Upto w numbers n z.parent ((outer ++ own ∷ (first ++ items)) ++ last)) same
        (subst (Upto w numbers n m.parent) (end_of outer own first items last)
        (done_by w page numbers b n m at l high ins (own ∷ (first ++ (items ++ (last ++ [])))) up refl (grown at f inner end nothing)))

-- ---- a node is added

-- a text has no generated content
pub no_content : (which : Pseudo) (at parent : ℕ) (body : Body) (winners : List Setting) → is_element body ≡ false → content which at parent body winners ≡ []
no_content which at parent body winners f = ap (λ b. pseudo_nodes which at parent winners (cond (b && (not (is_replaced body) && not (is_break body))) (text_of (winner Content winners)) None)) f

pub added_element : (w : Written) (page : IsPage w.nodes) (numbers : List ℕ) (n : ℕ) (node : Node) (all first : List GrownNode) → n ≡ length numbers → slice_get w.nodes n ≡ Some node → Upto w numbers n node.parent all → first ≡ content Before (suc (length all)) (length all) node.body (winners_at w.before n)
    → Upto w (numbers ++ length all ∷ []) (suc n) (Some n) (all ++ own_node w n (new_number numbers node.parent) node ∷ first)
added_element w page numbers n node all first e here up f =
    let longer = numbers ++ length all ∷ [] in
    let within = slice_get_within w.nodes n node here in
    let le : n ≤ length numbers = omega (arith, e) in
    subst (λ o. Upto w longer (suc n) (Some n) (all ++ own_node w n o node ∷ first)) (new_same (length all) up le)
    (subst (λ xs. Upto w longer (suc n) (Some n) (all ++ own_node w n (new_number longer node.parent) node ∷ xs)) (append-nil first)
    (inside here (omega arith) (last_number numbers (length all) n e) (λ m x g after before. absurd (omega (arith, after, before))) f
    (subst (λ ks. Grow w ks (suc (length all) + length first) (Some (length all)) []) (sym (no_child_before w.nodes page (suc n) n (omega (arith, within)) (omega arith))) nothing)
    (upto_longer (length all) up le)))
  where
    last_number : (ns : List ℕ) (x k : ℕ) → k ≡ length ns → get_or (ns ++ x ∷ []) k 0 ≡ x
    last_number [] x zero e = refl
    last_number [] x (suc k) e = absurd (omega (arith, e))
    last_number (y ∷ ns) x zero e = absurd (omega (arith, e))
    last_number (y ∷ ns) x (suc k) e = last_number ns x k (omega (arith, e))

pub added_text : (w : Written) (page : IsPage w.nodes) (numbers : List ℕ) (n : ℕ) (node : Node) (all : List GrownNode) → n ≡ length numbers → slice_get w.nodes n ≡ Some node → is_element node.body ≡ false → Upto w numbers n node.parent all
    → Upto w (numbers ++ length all ∷ []) (suc n) node.parent (all ++ own_node w n (new_number numbers node.parent) node ∷ [])
added_text w page numbers n node all e here text up =
    let longer = numbers ++ length all ∷ [] in
    let within = slice_get_within w.nodes n node here in
    let le : n ≤ length numbers = omega (arith, e) in
    subst (λ o. Upto w longer (suc n) node.parent (all ++ own_node w n o node ∷ [])) (new_same (length all) up le)
    (done_by w page longer n (suc n) node here (omega arith) (omega (arith, within)) (λ m x g after before. absurd (omega (arith, after, before))) (own_node w n (new_number longer node.parent) node ∷ [])
    (upto_longer (length all) up le) refl
    (grown here (sym (no_content Before (suc (length all)) (length all) node.body (winners_at w.before n) text))
    (subst (λ ks. Grow w ks (suc (length all) + 0) (Some (length all)) []) (sym (text_childless w.nodes page n node here text)) nothing)
    (sym (no_content After (suc (length all) + 0 + 0) (length all) node.body (winners_at w.after n) text)) nothing))

-- ---- as the code adds

more_length : (all : List GrownNode) (x : GrownNode) → length (all ++ x ∷ []) ≡ suc (length all)
more_length all x = omega (arith, length-append all (x ∷ []))

longer_numbers : (numbers : List ℕ) (x n : ℕ) → n ≡ length numbers → length (numbers ++ x ∷ []) ≡ suc n
longer_numbers numbers x n e = omega (arith, e, length-append numbers (x ∷ []))

-- a node with what is before its content
pub with_first : (w : Written) (numbers : List ℕ) (n : ℕ) (node : Node) (all middle whole : List GrownNode) (parent : Option ℕ) (new : ℕ) (winners : List Setting) → parent ≡ new_number numbers node.parent → new ≡ length all → winners ≡ winners_at w.before n
    → middle ≡ all ++ own_node w n parent node ∷ [] → whole ≡ middle ++ content Before (length middle) new node.body winners
    → whole ≡ all ++ own_node w n (new_number numbers node.parent) node ∷ content Before (suc (length all)) (length all) node.body (winners_at w.before n)
with_first w numbers n node all middle whole parent new winners p e f m h =
    let own = own_node w n (new_number numbers node.parent) node in
    let same : middle ≡ all ++ own ∷ [] = m ∙ ap (λ o. all ++ own_node w n o node ∷ []) p in
    h ∙ ap (λ xs. xs ++ content Before (length xs) new node.body winners) same
    ∙ ap (λ k. (all ++ own ∷ []) ++ content Before k new node.body winners) (more_length all own)
    ∙ ap (λ k. (all ++ own ∷ []) ++ content Before (suc (length all)) k node.body winners) e
    ∙ ap (λ ws. (all ++ own ∷ []) ++ content Before (suc (length all)) (length all) node.body ws) f
    ∙ append_assoc all (own ∷ []) (content Before (suc (length all)) (length all) node.body (winners_at w.before n))

pub element_added : (w : Written) (page : IsPage w.nodes) (numbers longer : List ℕ) (n : ℕ) (node : Node) (all whole : List GrownNode) (o : Option ℕ) (new : ℕ) → n ≡ length numbers → slice_get w.nodes n ≡ Some node → o ≡ node.parent → Upto w numbers (length numbers) o all
    → new ≡ length all → longer ≡ numbers ++ new ∷ [] → whole ≡ all ++ own_node w n (new_number numbers node.parent) node ∷ content Before (suc (length all)) (length all) node.body (winners_at w.before n)
    → Upto w longer (length longer) (Some n) whole
element_added w page numbers longer n node all whole o new e here f up k l h =
    let from : Upto w numbers n node.parent all = subst (λ m. Upto w numbers m node.parent all) (sym e) (subst (λ p. Upto w numbers (length numbers) p all) f up) in
    let is : longer ≡ numbers ++ length all ∷ [] = l ∙ ap (λ x. numbers ++ x ∷ []) k in
    subst (λ ns. Upto w ns (length ns) (Some n) whole) (sym is)
    (subst (λ m. Upto w (numbers ++ length all ∷ []) m (Some n) whole) (sym (longer_numbers numbers (length all) n e))
    (subst (Upto w (numbers ++ length all ∷ []) (suc n) (Some n)) (sym h) (added_element w page numbers n node all _ e here from refl)))

pub text_added : (w : Written) (page : IsPage w.nodes) (numbers longer : List ℕ) (n : ℕ) (node : Node) (all whole : List GrownNode) (o : Option ℕ) (new : ℕ) → n ≡ length numbers → slice_get w.nodes n ≡ Some node → is_element node.body ≡ false → o ≡ node.parent → Upto w numbers (length numbers) o all
    → new ≡ length all → longer ≡ numbers ++ new ∷ [] → whole ≡ all ++ own_node w n (new_number numbers node.parent) node ∷ content Before (suc (length all)) (length all) node.body (winners_at w.before n)
    → Upto w longer (length longer) o whole
text_added w page numbers longer n node all whole o new e here text f up k l h =
    let from : Upto w numbers n node.parent all = subst (λ m. Upto w numbers m node.parent all) (sym e) (subst (λ p. Upto w numbers (length numbers) p all) f up) in
    let is : longer ≡ numbers ++ length all ∷ [] = l ∙ ap (λ x. numbers ++ x ∷ []) k in
    let alone : whole ≡ all ++ own_node w n (new_number numbers node.parent) node ∷ [] = h ∙ ap (λ xs. all ++ own_node w n (new_number numbers node.parent) node ∷ xs) (no_content Before (suc (length all)) (length all) node.body (winners_at w.before n) text) in
    subst (λ ns. Upto w ns (length ns) o whole) (sym is)
    (subst (λ m. Upto w (numbers ++ length all ∷ []) m o whole) (sym (longer_numbers numbers (length all) n e))
    (subst (Upto w (numbers ++ length all ∷ []) (suc n) o) (sym alone)
    (subst (λ p. Upto w (numbers ++ length all ∷ []) (suc n) p (all ++ own_node w n (new_number numbers node.parent) node ∷ [])) (sym f) (added_text w page numbers n node all e here text from))))

-- ---- the first node, and the last

pub starts : (w : Written) (numbers : List ℕ) (o : Option ℕ) (all : List GrownNode) → numbers ≡ [] → o ≡ None → all ≡ [] → Upto w numbers (length numbers) o all
starts w numbers o all e f g =
    let begin : Upto w [] 0 None [] = outside nothing in
    subst (λ ns. Upto w ns (length ns) o all) (sym e) (subst (λ p. Upto w [] 0 p all) (sym f) (subst (Upto w [] 0 None) (sym g) begin))

ends_by : {w : Written} {numbers : List ℕ} {n : ℕ} {o : Option ℕ} {all : List GrownNode} → Upto w numbers n o all → o ≡ None → length w.nodes ≤ n → Grow w (children w.nodes None) 0 None all
ends_by {w} {n = n} {all = all} (outside g) e le = subst (λ ks. Grow w ks 0 None all) (all_before w.nodes n None le) g
ends_by (inside at l num ins f g up) e le = absurd (cc)

-- ---- the element that goes on

pub found_going : {w : Written} {numbers : List ℕ} {n : ℕ} {o : Option ℕ} {all : List GrownNode} (a : ℕ) (node : Node) (slice : List Node) → Upto w numbers n o all → o ≡ Some a → n ≤ length w.nodes → slice ≡ w.nodes → node ≡ get_or slice a node → slice_get w.nodes a ≡ Some node
found_going {w} a node slice up e few same is =
    let before = within_open a up e in
    slice_get_read w.nodes (length w.nodes) a node refl (omega (arith, before, few)) (subst (λ ns. node ≡ get_or ns a node) same is)
