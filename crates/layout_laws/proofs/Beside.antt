-- What some of a context's floats leave of a containing block.
use Rattle.std.proofs.Common.{◌≡◌, ℤ, ◌≤ℤ◌, Bool, true, false, not, IsTrue, List, Contains, map, filter, refl, ap, inl, inr, ◌⊎◌}
use Rattle.viz_base.specs.declared.layouts.Band.{Band}
use Rattle.layout_semantics.specs.Floats.{FloatBox, is_left, left_ones, right_ones, beside}
use Rattle.layout_laws.proofs.Members.{from_filter, to_filter, to_map, from_map}
use Rattle.layout_laws.proofs.Extremes.{below_greatest, start_below_greatest, greatest_is_one, above_least, start_above_least, least_is_one}

denied : (b : Bool) → IsTrue (not b) → b ≡ false
denied true h = absurd (cc)
denied false h = refl

module _ (floats : List FloatBox) (cb : Band ℤ) (test : FloatBox → Bool) where
  abbrev pub some : List FloatBox
  some = filter test floats

  abbrev pub right_edges : List ℤ
  right_edges = map (λ (f : FloatBox). f.box.right) (left_ones some)

  abbrev pub left_edges : List ℤ
  left_edges = map (λ (f : FloatBox). f.box.left) (right_ones some)

  pub rights : (x : ℤ) → Contains right_edges x → (f : FloatBox) × Contains floats f × IsTrue (test f) × IsTrue (is_left f) × (f.box.right ≡ x)
  rights x i =
      let s = from_map (λ (f : FloatBox). f.box.right) (left_ones some) x i in
      let l = from_filter is_left some s.0 s.1 in
      let n = from_filter test floats s.0 l.0 in
      (s.0, n.0, n.1, l.1, s.2)

  pub lefts : (x : ℤ) → Contains left_edges x → (f : FloatBox) × Contains floats f × IsTrue (test f) × (is_left f ≡ false) × (f.box.left ≡ x)
  lefts x i =
      let s = from_map (λ (f : FloatBox). f.box.left) (right_ones some) x i in
      let l = from_filter (λ f. not (is_left f)) some s.0 s.1 in
      let n = from_filter test floats s.0 l.0 in
      (s.0, n.0, n.1, denied (is_left s.0) l.1, s.2)

  pub room_after : (f : FloatBox) → Contains floats f → IsTrue (test f) → IsTrue (is_left f) → f.box.right ≤ℤ (beside some cb).left
  room_after f i n l = below_greatest cb.left right_edges f.box.right (to_map (λ (f : FloatBox). f.box.right) (left_ones some) f (to_filter is_left some f (to_filter test floats f i n) l))

  pub room_before : (f : FloatBox) → Contains floats f → IsTrue (test f) → is_left f ≡ false → (beside some cb).right ≤ℤ f.box.left
  room_before f i n l = above_least cb.right left_edges f.box.left (to_map (λ (f : FloatBox). f.box.left) (right_ones some) f (to_filter (λ f. not (is_left f)) some f (to_filter test floats f i n) (ap not l)))

  pub room_from : cb.left ≤ℤ (beside some cb).left
  room_from = start_below_greatest cb.left right_edges

  pub room_to : (beside some cb).right ≤ℤ cb.right
  room_to = start_above_least cb.right left_edges

  pub left_edge : ((beside some cb).left ≡ cb.left) ⊎ ((f : FloatBox) × Contains floats f × IsTrue (test f) × IsTrue (is_left f) × (f.box.right ≡ (beside some cb).left))
  left_edge = by (greatest_is_one cb.left right_edges)
    where
      by : (((beside some cb).left ≡ cb.left) ⊎ Contains right_edges (beside some cb).left)
          → ((beside some cb).left ≡ cb.left) ⊎ ((f : FloatBox) × Contains floats f × IsTrue (test f) × IsTrue (is_left f) × (f.box.right ≡ (beside some cb).left))
      by (inl e) = inl e
      by (inr i) = inr (rights (beside some cb).left i)

  pub right_edge : ((beside some cb).right ≡ cb.right) ⊎ ((f : FloatBox) × Contains floats f × IsTrue (test f) × (is_left f ≡ false) × (f.box.left ≡ (beside some cb).right))
  right_edge = by (least_is_one cb.right left_edges)
    where
      by : (((beside some cb).right ≡ cb.right) ⊎ Contains left_edges (beside some cb).right)
          → ((beside some cb).right ≡ cb.right) ⊎ ((f : FloatBox) × Contains floats f × IsTrue (test f) × (is_left f ≡ false) × (f.box.left ≡ (beside some cb).right))
      by (inl e) = inl e
      by (inr i) = inr (lefts (beside some cb).right i)
