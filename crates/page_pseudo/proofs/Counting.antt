-- How many characters are generated up to a node.
use Rattle.std.proofs.Common.{◌≡◌, ℕ, zero, suc, ◌+◌, ◌≤◌, List, [], ◌∷◌, ◌++◌, length, take, slice_get, Some, ap, ◌∙◌, ◌-◌, arith}
use Rattle.std.proofs.lemmas.List.{length-take-le}
use Rattle.std.proofs.lemmas.Option.{slice_get_within}
use Rattle.viz_base.specs.declared.nodes.Node.{Node}
use Rattle.viz_base.proofs.ListLemmas.{slice_some}
use Rattle.page_pseudo.specs.Grown.{Written}
use Rattle.page_pseudo.specs.Limits.{IsWithin, made_at, made_before, made_from}
use Rattle.page_pseudo.proofs.Children.{take_more}

made_append : (w : Written) (n : ℕ) (xs ys : List Node) → made_from w n (xs ++ ys) ≡ made_from w n xs + made_from w (n + length xs) ys
made_append w n [] ys = let same = ap (λ k. made_from w k ys) (let e : n ≡ n + 0 = omega arith in e) in omega (arith, same)
made_append w n (x ∷ xs) ys =
    let far : suc n + length xs ≡ n + suc (length xs) = omega arith in
    let more = made_append w (suc n) xs ys in
    let same = ap (λ k. made_from w k ys) far in
    omega (arith, more, same)

pub made_more : (w : Written) (n : ℕ) (node : Node) → slice_get w.nodes n ≡ Some node → made_before w (suc n) ≡ made_before w n + made_at w n node.body
made_more w n node e =
    let within = slice_get_within w.nodes n node e in
    let few = length-take-le n w.nodes (omega (arith, within)) in
    let size : 0 + length (take n w.nodes) ≡ n = omega (arith, few) in
    let step = ap (made_from w 0) (take_more w.nodes n node e) ∙ made_append w 0 (take n w.nodes) (node ∷ []) in
    let last = ap (λ k. made_at w k node.body + 0) size in
    omega (arith, step, last)

pub made_later : (w : Written) (n more : ℕ) → n + more ≤ length w.nodes → made_before w n ≤ made_before w (n + more)
made_later w n zero le = let e = ap (made_before w) (let s : n ≡ n + 0 = omega arith in s) in omega (arith, e)
made_later w n (suc more) le =
    let node = slice_some w.nodes (n + more) (omega arith) in
    let step = made_more w (n + more) node.0 node.1 in
    let before = made_later w n more (omega arith) in
    let far = ap (made_before w) (let s : suc (n + more) ≡ n + suc more = omega arith in s) in
    omega (arith, step, before, far)

pub made_to : (w : Written) (n m : ℕ) → n ≤ m → m ≤ length w.nodes → made_before w n ≤ made_before w m
made_to w n m l u =
    let s : n + (m - n) ≡ m = omega arith in
    let h = made_later w n (m - n) (omega (arith, s)) in
    let e = ap (made_before w) s in
    omega (arith, h, e)

-- what one node makes is within what all make
pub made_within : (w : Written) (n : ℕ) (node : Node) → IsWithin w → slice_get w.nodes n ≡ Some node → made_at w n node.body ≤ 262144
made_within w n node all e =
    let within = slice_get_within w.nodes n node e in
    let step = made_more w n node e in
    let later = made_to w (suc n) (length w.nodes) (omega (arith, within)) (omega arith) in
    omega (arith, step, later, all)
