-- Recursions up a tree have enough levels.
use Rattle.std.proofs.Common.{◌≡◌, ℕ, zero, suc, ◌<◌, ◌*◌, ℤ, pos, ◌+ℤ◌, Bool, true, false, List, [], ◌∷◌, Contains, Option, Some, None, slice_get, refl, sym, ◌∙◌, ap, subst, ◌⊎◌, inl, inr, arith}
use Rattle.std.specs.Prelude.{◌==◌, option_and_then}
use Rattle.std.specs.Option.{option_map_or}
use Rattle.viz_base.specs.declared.lengths.Valign.TheVariants as of_valign
use Rattle.viz_base.specs.declared.styles.Style.{Style}
use Rattle.viz_base.specs.declared.trees.BoxNode.{BoxNode}
use Rattle.viz_base.specs.declared.trees.BoxTree.{BoxTree}
use Rattle.viz_base.specs.declared.worlds.World.{World}
use Rattle.layout_semantics.specs.Order.{kids_of, IsOnPage, roots}
use Rattle.layout_semantics.specs.Blocks.{kind_of, node_of, parent_of}
use Rattle.layout_semantics.specs.Lengths.{own}
use Rattle.layout_semantics.specs.DefiniteHeights.{is_passed_over, container_to, percentage_container, own_height_around, definite_height_to, definite_height}
use Rattle.layout_semantics.specs.LineHeights.{InlineContext, LineExtent, inline_extent, raise, shift_to, shift}
use Rattle.layout_semantics.proofs.Forest.{IsKid, IsForest-from}
use Rattle.layout_laws.specs.Nested.{container_by_parent, definite_height_by_container, shift_by_parent}
use Rattle.layout_laws.proofs.Greatest.{All-at}

-- ---- parents on the page

pub record HasParent (boxes : List BoxNode) (at : ℕ) : Type 0 where
  pub parent : ℕ
  pub is : parent_of boxes at ≡ Some parent
  pub before : parent < at
  pub page : IsOnPage boxes parent

root-parent : (boxes : List BoxNode) (at : ℕ) → ((b : BoxNode) → slice_get boxes 0 ≡ Some b → b.parent ≡ None) → Contains (roots boxes) at → parent_of boxes at ≡ None
root-parent [] at root (k, l, e) = absurd (omega arith)
root-parent (b ∷ bs) at root (zero, l, e) = subst (λ n. parent_of (b ∷ bs) n ≡ None) e (root b refl)
root-parent (b ∷ bs) at root (suc k, l, e) = absurd (omega arith)

pub parent-of : (tree : BoxTree) (at : ℕ) → IsOnPage tree.boxes at → (parent_of tree.boxes at ≡ None) ⊎ HasParent tree.boxes at
parent-of tree at (IsOnPage.root _ first) = inl (root-parent tree.boxes at tree.ok.root first)
parent-of tree at (IsOnPage.inside above _ page among) =
    let forest = IsForest-from tree.boxes tree.styles tree.fonts tree.parents tree.ok in
    let kid = All-at (IsKid tree.boxes above) (kids_of tree.boxes above) at (forest.kids above) among in
    inr (record { parent = above; is = kid.parent; before = kid.after; page = page })

-- ---- containers

abbrev container_from : (ℕ → Option ℕ) → BoxTree → ℕ → Option ℕ
container_from above tree parent = elim (is_passed_over (kind_of tree parent)) [ true ↦ above parent | false ↦ Some parent ]

container-enough : (n m : ℕ) (tree : BoxTree) (at : ℕ) → IsOnPage tree.boxes at → at < n → at < m → container_to n tree at ≡ container_to m tree at
unfolding container_to
container-enough zero m tree at page ln lm = absurd (omega arith)
container-enough (suc n) zero tree at page ln lm = absurd (omega arith)
container-enough (suc n) (suc m) tree at page ln lm = by (parent-of tree at page) (λ p before on. container-enough n m tree p on (omega arith) (omega arith))
  where
    by : ((parent_of tree.boxes at ≡ None) ⊎ HasParent tree.boxes at) → ((p : ℕ) → p < at → IsOnPage tree.boxes p → container_to n tree p ≡ container_to m tree p)
        → option_and_then (container_from (container_to n tree) tree) (parent_of tree.boxes at) ≡ option_and_then (container_from (container_to m tree) tree) (parent_of tree.boxes at)
    by (inl e) again = ap (option_and_then (container_from (container_to n tree) tree)) e ∙ sym (ap (option_and_then (container_from (container_to m tree) tree)) e)
    by (inr h) again =
        ap (option_and_then (container_from (container_to n tree) tree)) h.is
        ∙ ap (λ o. container_from (λ p. o) tree h.parent) (again h.parent h.before h.page)
        ∙ sym (ap (option_and_then (container_from (container_to m tree) tree)) h.is)

pub container-by-parent : (tree : BoxTree) (at : ℕ) → IsOnPage tree.boxes at → percentage_container tree at ≡ container_by_parent tree at
unfolding container_to
container-by-parent tree at page = by (parent-of tree at page)
  where
    by : ((parent_of tree.boxes at ≡ None) ⊎ HasParent tree.boxes at)
        → option_and_then (container_from (container_to at tree) tree) (parent_of tree.boxes at) ≡ option_and_then (container_from (percentage_container tree) tree) (parent_of tree.boxes at)
    by (inl e) = ap (option_and_then (container_from (container_to at tree) tree)) e ∙ sym (ap (option_and_then (container_from (percentage_container tree) tree)) e)
    by (inr h) =
        let before = h.before in
        ap (option_and_then (container_from (container_to at tree) tree)) h.is
        ∙ ap (λ o. container_from (λ p. o) tree h.parent) (container-enough at (suc h.parent) tree h.parent h.page before (omega arith))
        ∙ sym (ap (option_and_then (container_from (percentage_container tree) tree)) h.is)

-- the container is before the box, and on the page
record IsBefore (boxes : List BoxNode) (at other : ℕ) : Type 0 where
  before : other < at
  page : IsOnPage boxes other

container-before : (n : ℕ) (tree : BoxTree) (at c : ℕ) → IsOnPage tree.boxes at → container_to n tree at ≡ Some c → IsBefore tree.boxes at c
unfolding container_to
container-before zero tree at c page e = absurd (cc)
container-before (suc n) tree at c page e = by (parent-of tree at page) (λ p on is. container-before n tree p c on is)
  where
    of_parent : (p : ℕ) (b : Bool) → p < at → IsOnPage tree.boxes p → elim b as (λ (x : Bool). Option ℕ) [ true ↦ container_to n tree p | false ↦ Some p ] ≡ Some c
        → (container_to n tree p ≡ Some c → IsBefore tree.boxes p c) → IsBefore tree.boxes at c
    of_parent p true l on is again = let b = again is in record { before = let l' = b.before in omega arith; page = b.page }
    of_parent p false l on is again = let same : p ≡ c = some-same p c is in record { before = subst (λ q. q < at) same l; page = subst (IsOnPage tree.boxes) same on }
      where
        some-same : (a b : ℕ) → Some a ≡ Some b → a ≡ b
        some-same a b e = cc

    by : ((parent_of tree.boxes at ≡ None) ⊎ HasParent tree.boxes at) → ((p : ℕ) → IsOnPage tree.boxes p → container_to n tree p ≡ Some c → IsBefore tree.boxes p c) → IsBefore tree.boxes at c
    by (inl none) again = absurd (no (sym (ap (option_and_then (container_from (container_to n tree) tree)) none) ∙ e))
      where
        no : None ≡ Some c → ⊥
        no e = cc
    by (inr h) again = of_parent h.parent (is_passed_over (kind_of tree h.parent)) h.before h.page (sym (ap (option_and_then (container_from (container_to n tree) tree)) h.is) ∙ e) (λ is. again h.parent h.page is)

-- ---- definite heights

abbrev height_from : (ℕ → Option ℤ) → BoxTree → World → Option ℕ → Option ℤ
height_from above tree w o = option_map_or (λ container. own_height_around tree w (above container) container) o (Some (pos (64 * w.h)))

height-same : (f g : ℕ → Option ℤ) (tree : BoxTree) (w : World) (at : ℕ) (o : Option ℕ) → ((c : ℕ) → o ≡ Some c → f c ≡ g c) → height_from f tree w o ≡ height_from g tree w o
height-same f g tree w at None e = refl
height-same f g tree w at (Some c) e = ap (λ around. own_height_around tree w around c) (e c refl)

definite-enough : (n m : ℕ) (tree : BoxTree) (w : World) (at : ℕ) → IsOnPage tree.boxes at → at < n → at < m → definite_height_to n tree w at ≡ definite_height_to m tree w at
unfolding definite_height_to
definite-enough zero m tree w at page ln lm = absurd (omega arith)
definite-enough (suc n) zero tree w at page ln lm = absurd (omega arith)
definite-enough (suc n) (suc m) tree w at page ln lm =
    height-same (definite_height_to n tree w) (definite_height_to m tree w) tree w at (percentage_container tree at)
    (λ c e. let b = container-before (suc at) tree at c page e in let l = b.before in definite-enough n m tree w c b.page (omega arith) (omega arith))

pub definite-by-container : (tree : BoxTree) (w : World) (at : ℕ) → IsOnPage tree.boxes at → definite_height tree w at ≡ definite_height_by_container tree w at
unfolding definite_height_to
definite-by-container tree w at page =
    height-same (definite_height_to at tree w) (definite_height tree w) tree w at (percentage_container tree at)
    (λ c e. let b = container-before (suc at) tree at c page e in let l = b.before in definite-enough at (suc c) tree w c b.page l (omega arith))

-- ---- shifts

abbrev shift_from : InlineContext → ℕ → LineExtent → (ℕ → ℤ) → Option ℕ → ℤ
shift_from c at e above o = option_map_or (λ parent. raise c (node_of c.tree at) (node_of c.tree parent) e (own c.tree at (λ (s : Style). s.valign) of_valign.Baseline) +ℤ above parent) o (pos 0)

shift-same : (c : InlineContext) (at : ℕ) (e : LineExtent) (f g : ℕ → ℤ) → ((parent_of c.tree.boxes at ≡ None) ⊎ HasParent c.tree.boxes at) → ((p : ℕ) → p < at → IsOnPage c.tree.boxes p → f p ≡ g p)
    → shift_from c at e f (parent_of c.tree.boxes at) ≡ shift_from c at e g (parent_of c.tree.boxes at)
shift-same c at e f g (inl none) again = ap (shift_from c at e f) none ∙ sym (ap (shift_from c at e g) none)
shift-same c at e f g (inr h) again =
    ap (shift_from c at e f) h.is
    ∙ ap (λ z. raise c (node_of c.tree at) (node_of c.tree h.parent) e (own c.tree at (λ (s : Style). s.valign) of_valign.Baseline) +ℤ z) (again h.parent h.before h.page)
    ∙ sym (ap (shift_from c at e g) h.is)

abbrev parent_extent : InlineContext → ℕ → LineExtent
parent_extent c p = inline_extent c.tree c.world (node_of c.tree p)

unless_container : InlineContext → ℕ → ℤ → ℤ
unless_container c at z = elim (at == c.container) [ true ↦ pos 0 | false ↦ z ]

shift-enough : (n m : ℕ) (c : InlineContext) (at : ℕ) (e : LineExtent) → IsOnPage c.tree.boxes at → at < n → at < m → shift_to n c at e ≡ shift_to m c at e
unfolding shift_to unless_container
shift-enough zero m c at e page ln lm = absurd (omega arith)
shift-enough (suc n) zero c at e page ln lm = absurd (omega arith)
shift-enough (suc n) (suc m) c at e page ln lm =
    ap (unless_container c at) (shift-same c at e (λ p. shift_to n c p (parent_extent c p)) (λ p. shift_to m c p (parent_extent c p)) (parent-of c.tree at page)
    (λ p l on. shift-enough n m c p (parent_extent c p) on (omega arith) (omega arith)))

pub shift-by-parent : (c : InlineContext) (at : ℕ) (e : LineExtent) → IsOnPage c.tree.boxes at → shift c at e ≡ shift_by_parent c at e
unfolding shift_to unless_container
shift-by-parent c at e page =
    ap (unless_container c at) (shift-same c at e (λ p. shift_to at c p (parent_extent c p)) (λ p. shift c p (parent_extent c p)) (parent-of c.tree at page)
    (λ p l on. shift-enough at (suc p) c p (parent_extent c p) on l (omega arith)))
