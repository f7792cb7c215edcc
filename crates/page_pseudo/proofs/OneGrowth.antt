-- A page grows to at most one page, or is refused at one node.
use Rattle.std.proofs.Common.{◌≡◌, ℕ, suc, ◌+◌, ◌<◌, List, ◌∷◌, ◌++◌, length, map, slice_get, Option, Some, Result, Ok, Err, refl, sym, ap, ◌∙◌, arith, inl, inr, ◌⊎◌}
use Rattle.std.proofs.lemmas.Bool.{cases_order}
use Rattle.std.proofs.lemmas.Option.{same_Some}
use Rattle.viz_base.specs.declared.nodes.Node.{Node}
use Rattle.viz_base.specs.declared.selectors.Pseudo.TheVariants.{Before, After}
use Rattle.viz_base.proofs.Sameness.{no_cons, same_head, same_tail}
use Rattle.page_pseudo.specs.declared.nodes.GrownNode.{GrownNode}
use Rattle.page_pseudo.specs.Grown.{Grow, IsGrown, Written, children, content, grown, node_of, nothing, own_node, winners_at}
use Rattle.page_pseudo.specs.Growth.{Growth, IsGrowth}
use Rattle.page_pseudo.specs.Limits.{IsTooMuch, IsWithin}
use Rattle.page_pseudo.proofs.Counting.{made_to}

-- ---- one page

same_grow : {w : Written} {ks ls : List ℕ} {at bt : ℕ} {p q : Option ℕ} {xs ys : List GrownNode} → Grow w ks at p xs → Grow w ls bt q ys → ks ≡ ls → at ≡ bt → p ≡ q → xs ≡ ys
same_grow nothing nothing e f g = refl
same_grow nothing (grown a b c d h) e f g = absurd (no_cons e)
same_grow (grown a b c d h) nothing e f g = absurd (no_cons (sym e))
same_grow {w} (grown {n = n} {at = at} {parent = p} {node = x} {first = f1} {inside = i1} {last = l1} {others = o1} a b c d h) (grown {n = m} {at = bt} {parent = q} {node = y} {first = f2} {inside = i2} {last = l2} {others = o2} a2 b2 c2 d2 h2) e f g =
    let number : n ≡ m = same_head e in
    let node : x ≡ y = same_Some x y (sym a ∙ ap (slice_get w.nodes) number ∙ a2) in
    let first : f1 ≡ f2 = b ∙ ap (λ k. content Before (suc k) k x.body (winners_at w.before n)) f ∙ ap (λ k. content Before (suc bt) bt x.body (winners_at w.before k)) number ∙ ap (λ (z : Node). content Before (suc bt) bt z.body (winners_at w.before m)) node ∙ sym b2 in
    let begin : suc at + length f1 ≡ suc bt + length f2 = ap (λ k. suc k + length f1) f ∙ ap (λ xs. suc bt + length xs) first in
    let items : i1 ≡ i2 = same_grow c c2 (ap (λ k. children w.nodes (Some k)) number) begin (ap Some f) in
    let middle : suc at + length f1 + length i1 ≡ suc bt + length f2 + length i2 = ap (λ k. k + length i1) begin ∙ ap (λ xs. suc bt + length f2 + length xs) items in
    let last : l1 ≡ l2 = d ∙ ap (λ k. content After k at x.body (winners_at w.after n)) middle ∙ ap (λ k. content After (suc bt + length f2 + length i2) k x.body (winners_at w.after n)) f
    ∙ ap (λ k. content After (suc bt + length f2 + length i2) bt x.body (winners_at w.after k)) number ∙ ap (λ (z : Node). content After (suc bt + length f2 + length i2) bt z.body (winners_at w.after m)) node ∙ sym d2 in
    let far : suc at + length f1 + length i1 + length l1 ≡ suc bt + length f2 + length i2 + length l2 = ap (λ k. k + length l1) middle ∙ ap (λ xs. suc bt + length f2 + length i2 + length xs) last in
    let others : o1 ≡ o2 = same_grow h h2 (same_tail e) far g in
    ap (λ z. own_node w z p x ∷ (f1 ++ (i1 ++ (l1 ++ o1)))) number ∙ ap (λ z. own_node w m z x ∷ (f1 ++ (i1 ++ (l1 ++ o1)))) g ∙ ap (λ z. own_node w m q z ∷ (f1 ++ (i1 ++ (l1 ++ o1)))) node
    ∙ ap (λ xs. own_node w m q y ∷ xs) (ap (λ z. z ++ (i1 ++ (l1 ++ o1))) first ∙ ap (λ z. f2 ++ (z ++ (l1 ++ o1))) items ∙ ap (λ z. f2 ++ (i2 ++ (z ++ o1))) last ∙ ap (λ z. f2 ++ (i2 ++ (l2 ++ z))) others)

same_grown : (w : Written) (a b : Growth) → IsGrown w a.0 a.1 a.2 → IsGrown w b.0 b.1 b.2 → a ≡ b
same_grown w a b h k =
    let all : h.all ≡ k.all = same_grow h.grow k.grow refl refl refl in
    let nodes : a.0 ≡ b.0 = h.nodes_are ∙ ap (map node_of) all ∙ sym k.nodes_are in
    let winners : a.1 ≡ b.1 = h.winners_are ∙ ap (map (λ (g : GrownNode). g.winners)) all ∙ sym k.winners_are in
    let from : a.2 ≡ b.2 = h.from_is ∙ ap (map (λ (g : GrownNode). g.from)) all ∙ sym k.from_is in
    ap (λ x. (x, a.1, a.2)) nodes ∙ ap (λ x. (b.0, x, a.2)) winners ∙ ap (λ x. (b.0, b.1, x)) from

-- ---- one refusal

enough_to : (w : Written) (n m : ℕ) → n < m → IsTooMuch w n → IsTooMuch w m → ⊥
enough_to w n m l h k =
    let inside = k.is_node in
    let more = made_to w (suc n) m (omega (arith, l)) (omega (arith, inside)) in
    let over = h.too_much in
    let under = k.enough in
    omega (arith, more, over, under)

one_node : (w : Written) (n m : ℕ) → IsTooMuch w n → IsTooMuch w m → n ≡ m
one_node w n m h k = by_order (cases_order n m)
  where
    by_order : (n ≡ m) ⊎ ((n < m) ⊎ (m < n)) → n ≡ m
    by_order (inl e) = e
    by_order (inr (inl l)) = absurd (enough_to w n m l h k)
    by_order (inr (inr l)) = absurd (enough_to w m n l k h)

never_both : (w : Written) (n : ℕ) → IsWithin w → IsTooMuch w n → ⊥
never_both w n all h =
    let inside = h.is_node in
    let more = made_to w (suc n) (length w.nodes) (omega (arith, inside)) (omega arith) in
    let over = h.too_much in
    omega (arith, more, over, all)

pub one_growth : (w : Written) (a b : Result Growth ℕ) → IsGrowth w a → IsGrowth w b → a ≡ b
one_growth w (Ok a) (Ok b) h k = ap Ok (same_grown w a b h.0 k.0)
one_growth w (Ok a) (Err n) h k = absurd (never_both w n h.1 k)
one_growth w (Err n) (Ok b) h k = absurd (never_both w n k.1 h)
one_growth w (Err n) (Err m) h k = ap Err (one_node w n m h k)
