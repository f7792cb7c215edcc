use Rattle.std.proofs.Common.{◌≡◌, ℕ, zero, suc, ◌+◌, ◌<◌, ◌≤◌, List, [], ◌∷◌, length, refl, ap, arith}
use Rattle.std.specs.List.{flat_map, AllByRecursion}
use Rattle.viz_base.specs.declared.trees.BoxNode.{BoxNode}
use Rattle.layout_semantics.specs.Order.{kids_of, order_to, document_order}
use Rattle.layout_semantics.proofs.Forest.{IsForest, IsKid}

-- ---- enough levels

flat_map-same : (f g : ℕ → List ℕ) (P : ℕ → Type 0) (ks : List ℕ) → AllByRecursion P ks → ((k : ℕ) → P k → f k ≡ g k) → flat_map f ks ≡ flat_map g ks
flat_map-same f g P [] a e = refl
flat_map-same f g P (k ∷ ks) a e = let here = e k a.0 in let rest = flat_map-same f g P ks a.1 e in cc

-- two numbers of levels that both reach the last box
pub order_to-enough : (n m : ℕ) (boxes : List BoxNode) (at : ℕ) → IsForest boxes → at < length boxes → length boxes ≤ n + at → length boxes ≤ m + at → order_to n boxes at ≡ order_to m boxes at
unfolding order_to
order_to-enough zero m boxes at t h p q = absurd (omega arith)
order_to-enough (suc n) zero boxes at t h p q = absurd (omega arith)
order_to-enough (suc n) (suc m) boxes at t h p q =
    ap (λ (l : List ℕ). at ∷ l)
    (flat_map-same (order_to n boxes) (order_to m boxes) (IsKid boxes at) (kids_of boxes at) (t.kids at)
    (λ k i. let after = i.after in order_to-enough n m boxes k t i.within (omega arith) (omega arith)))

-- a box, and then the orders of those in it
pub document_order-is : (boxes : List BoxNode) (at : ℕ) → IsForest boxes → at < length boxes → document_order boxes at ≡ at ∷ flat_map (document_order boxes) (kids_of boxes at)
unfolding order_to
document_order-is boxes at t h = order_to-enough (length boxes) (suc (length boxes)) boxes at t h (omega arith) (omega arith)
