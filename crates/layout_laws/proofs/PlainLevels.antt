-- The levels of a page are enough: a block that collapses through, and the margins that adjoin its bottom, from its children's.
use Rattle.std.proofs.Common.{◌≡◌, ℕ, zero, suc, ◌+◌, ◌<◌, ◌≤◌, ℤ, Bool, true, false, ◌&&◌, List, [], ◌∷◌, ◌++◌, length, fold, refl, ap, ◌∙◌, arith}
use Rattle.std.specs.List.{list_all, AllByRecursion}
use Rattle.viz_base.specs.declared.layouts.Band.{Band}
use Rattle.viz_base.specs.declared.trees.BoxTree.{BoxTree}
use Rattle.viz_base.specs.declared.worlds.World.{World}
use Rattle.layout_semantics.specs.Order.{kids_of}
use Rattle.layout_semantics.specs.FlowBoxes.{may_collapse_through, joins_last_child, content_band}
use Rattle.layout_semantics.specs.Leads.{bottom_margin}
use Rattle.layout_semantics.proofs.Forest.{IsKid}
use Rattle.layout_semantics.proofs.Pages.{forest}
use Rattle.layout_laws.specs.PlainFlow.{all_margins, collapses_to, collapses, after_child, trailing_to, trailing}

list_all-same : (f g : ℕ → Bool) (P : ℕ → Type 0) (ks : List ℕ) → AllByRecursion P ks → ((k : ℕ) → P k → f k ≡ g k) → list_all f ks ≡ list_all g ks
list_all-same f g P [] a e = refl
list_all-same f g P (k ∷ ks) a e = let here = e k a.0 in let rest = list_all-same f g P ks a.1 e in ap (λ c. c && list_all f ks) here ∙ ap (λ c. g k && c) rest

module _ (tree : BoxTree) (w : World) where
  collapses_to-enough : (n m b : ℕ) → b < length tree.boxes → length tree.boxes ≤ n + b → length tree.boxes ≤ m + b → collapses_to tree w n b ≡ collapses_to tree w m b
  unfolding collapses_to
  collapses_to-enough zero m b h p q = absurd (omega arith)
  collapses_to-enough (suc n) zero b h p q = absurd (omega arith)
  collapses_to-enough (suc n) (suc m) b h p q =
      ap (λ c. may_collapse_through tree b && c)
      (list_all-same (collapses_to tree w n) (collapses_to tree w m) (IsKid tree.boxes b) (kids_of tree.boxes b) ((forest tree).kids b)
      (λ k i. let after = i.after in collapses_to-enough n m k i.within (omega arith) (omega arith)))

  pub collapses-is : (b : ℕ) → b < length tree.boxes → collapses tree w b ≡ (may_collapse_through tree b && list_all (collapses tree w) (kids_of tree.boxes b))
  unfolding collapses_to
  collapses-is b h = collapses_to-enough (length tree.boxes) (suc (length tree.boxes)) b h (omega arith) (omega arith)

  -- margins after a child from its own
  abbrev child_margins : Band ℤ → List ℤ → ℕ → List ℤ → Bool → List ℤ
  child_margins cb run k own true = run ++ all_margins tree w cb k
  child_margins cb run k own false = own

  fold-same : (f g : Band ℤ → ℕ → List ℤ) (cb : Band ℤ) (P : ℕ → Type 0) (ks : List ℕ) (run : List ℤ) → AllByRecursion P ks → ((k : ℕ) → P k → f cb k ≡ g cb k)
      → fold (after_child tree w f cb) run ks ≡ fold (after_child tree w g cb) run ks
  fold-same f g cb P [] run a e = refl
  fold-same f g cb P (k ∷ ks) run a e =
      ap (λ (own : List ℤ). fold (after_child tree w f cb) (child_margins cb run k own (collapses tree w k)) ks) (e k a.0)
      ∙ fold-same f g cb P ks (after_child tree w g cb run k) a.1 e

  -- from the margins after its children
  abbrev pub box_margins : Band ℤ → ℕ → List ℤ → Bool → List ℤ
  box_margins cb b run true = run ++ bottom_margin tree w cb b ∷ []
  box_margins cb b run false = bottom_margin tree w cb b ∷ []

  trailing_to-enough : (n m : ℕ) (cb : Band ℤ) (b : ℕ) → b < length tree.boxes → length tree.boxes ≤ n + b → length tree.boxes ≤ m + b → trailing_to tree w n cb b ≡ trailing_to tree w m cb b
  unfolding trailing_to
  trailing_to-enough zero m cb b h p q = absurd (omega arith)
  trailing_to-enough (suc n) zero cb b h p q = absurd (omega arith)
  trailing_to-enough (suc n) (suc m) cb b h p q =
      ap (λ (run : List ℤ). box_margins cb b run (joins_last_child tree b))
      (fold-same (trailing_to tree w n) (trailing_to tree w m) (content_band tree w cb b) (IsKid tree.boxes b) (kids_of tree.boxes b) [] ((forest tree).kids b)
      (λ k i. let after = i.after in trailing_to-enough n m (content_band tree w cb b) k i.within (omega arith) (omega arith)))

  pub trailing-is : (cb : Band ℤ) (b : ℕ) → b < length tree.boxes → trailing tree w cb b ≡ box_margins cb b (fold (after_child tree w (trailing tree w) (content_band tree w cb b)) [] (kids_of tree.boxes b)) (joins_last_child tree b)
  unfolding trailing_to
  trailing-is cb b h = trailing_to-enough (length tree.boxes) (suc (length tree.boxes)) cb b h (omega arith) (omega arith)
