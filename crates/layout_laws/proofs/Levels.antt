-- Recursions down a tree have enough levels: more of them change nothing.
use Rattle.std.proofs.Common.{◌≡◌, ℕ, zero, suc, ◌+◌, ◌<◌, ◌≤◌, ℤ, Bool, true, false, List, [], ◌∷◌, ◌++◌, map, length, slice_index_or, sym, subst, refl, ◌∙◌, ap, arith}
use Rattle.std.specs.Prelude.{◌==◌}
use Rattle.std.specs.List.{flat_map, AllByRecursion}
use Rattle.viz_base.specs.declared.layouts.Preferred.{Preferred}
use Rattle.viz_base.specs.declared.trees.BoxNode.{BoxNode}
use Rattle.viz_base.specs.declared.trees.BoxTree.{BoxTree}
use Rattle.viz_base.specs.declared.trees.Kind.{Kind}
use Rattle.viz_base.specs.declared.trees.Kind.TheVariants as of_kind
use Rattle.viz_base.specs.declared.worlds.World.{World}
use Rattle.viz_base.proofs.ListLemmas.{all_append}
use Rattle.layout_semantics.specs.Order.{kids_of}
use Rattle.layout_semantics.specs.InlineContent.{Item, start, finish, word, space, atomic, forced, float, Sort, a_float, an_atomic, a_break, a_text, an_inline, sort_of, text_of, text_items, letter_before, character_before, items_to, content, box_of, inner_items, inner_boxes}
use Rattle.layout_semantics.specs.Preferred.{inside_of, outer_preferred, preferred_to, preferred}
use Rattle.layout_laws.specs.Nested.{items_of_sort, box_items, preferred_of_sort}
use Rattle.layout_semantics.proofs.Forest.{IsForest, IsKid}
use Rattle.layout_semantics.proofs.Pages.{forest}

-- ---- lists

pub flat_map-same : {A B : Type 0} (f g : A → List B) (xs : List A) → AllByRecursion (λ x. f x ≡ g x) xs → flat_map f xs ≡ flat_map g xs
flat_map-same f g [] e = refl
flat_map-same f g (x ∷ xs) e = ap (λ ys. ys ++ flat_map f xs) e.0 ∙ ap (λ ys. g x ++ ys) (flat_map-same f g xs e.1)

pub map-same : {A B : Type 0} (f g : A → B) (xs : List A) → AllByRecursion (λ x. f x ≡ g x) xs → map f xs ≡ map g xs
map-same f g [] e = refl
map-same f g (x ∷ xs) e = ap (λ y. y ∷ map f xs) e.0 ∙ ap (λ ys. g x ∷ ys) (map-same f g xs e.1)

pub All-implied : {A : Type 0} (P Q : A → Type 0) (xs : List A) → ((x : A) → P x → Q x) → AllByRecursion P xs → AllByRecursion Q xs
All-implied P Q [] f a = tt
All-implied P Q (x ∷ xs) f a = (f x a.0, All-implied P Q xs f a.1)

-- ---- sorts in inline content

-- what a box is in inline content, by whether it floats and by its kind
abbrev pub sort_by : Bool → Kind → Sort
sort_by true kind = a_float
sort_by false of_kind.Chars = a_text
sort_by false of_kind.Break = a_break
sort_by false of_kind.Inline = an_inline
sort_by false _ = an_atomic

-- ---- places of the boxes of inline content

-- at a box or in it
pub record IsFrom (boxes : List BoxNode) (at kid : ℕ) : Type 0 where
  pub from : at ≤ kid
  pub within : kid < length boxes

abbrev ItemsFrom : List BoxNode → ℕ → List Item → Type 0
ItemsFrom boxes at items = AllByRecursion (λ i. IsFrom boxes at (box_of i)) items

from-lower : (boxes : List BoxNode) (low at kid : ℕ) → low ≤ at → IsFrom boxes at kid → IsFrom boxes low kid
from-lower boxes low at kid l f = record { from = omega (arith, f.from); within = f.within }

text-from : (boxes : List BoxNode) (at : ℕ) (text : List ℕ) → at < length boxes → ItemsFrom boxes at (text_items at text)
text-from boxes at [] l = tt
text-from boxes at (c ∷ cs) l = by (c == 32) (text_items at cs) (text-from boxes at cs l)
  where
    before : (items : List Item) → ItemsFrom boxes at items → ItemsFrom boxes at (letter_before at c items)
    before [] a = (record { from = omega arith; within = l }, tt)
    before (word other text ∷ items) a = (a.0, a.1)
    before (start other ∷ items) a = (record { from = omega arith; within = l }, a)
    before (finish other ∷ items) a = (record { from = omega arith; within = l }, a)
    before (space other ∷ items) a = (record { from = omega arith; within = l }, a)
    before (atomic other ∷ items) a = (record { from = omega arith; within = l }, a)
    before (forced other ∷ items) a = (record { from = omega arith; within = l }, a)
    before (float other ∷ items) a = (record { from = omega arith; within = l }, a)

    by : (b : Bool) (items : List Item) → ItemsFrom boxes at items → ItemsFrom boxes at (character_before b at c items)
    by true items a = (record { from = omega arith; within = l }, a)
    by false items a = before items a

sort-from : (tree : BoxTree) (at : ℕ) (inside : List Item) (s : Sort) → at < length tree.boxes → ItemsFrom tree.boxes at inside → ItemsFrom tree.boxes at (items_of_sort tree at inside s)
sort-from tree at inside a_float l a = (record { from = omega arith; within = l }, tt)
sort-from tree at inside an_atomic l a = (record { from = omega arith; within = l }, tt)
sort-from tree at inside a_break l a = (record { from = omega arith; within = l }, tt)
sort-from tree at inside a_text l a = text-from tree.boxes at (text_of tree at) l
sort-from tree at inside an_inline l a = (record { from = omega arith; within = l }, all_append (λ i. IsFrom tree.boxes at (box_of i)) inside (finish at ∷ []) a (record { from = omega arith; within = l }, tt))

kids-from : (tree : BoxTree) (at : ℕ) (f : ℕ → List Item) (ks : List ℕ) → AllByRecursion (IsKid tree.boxes at) ks → ((k : ℕ) → k < length tree.boxes → ItemsFrom tree.boxes k (f k)) → ItemsFrom tree.boxes (suc at) (flat_map f ks)
kids-from tree at f [] is each = tt
kids-from tree at f (k ∷ ks) is each =
    let first = is.0 in
    all_append (λ i. IsFrom tree.boxes (suc at) (box_of i)) (f k) (flat_map f ks)
    (All-implied (λ i. IsFrom tree.boxes k (box_of i)) (λ i. IsFrom tree.boxes (suc at) (box_of i)) (f k) (λ i h. from-lower tree.boxes (suc at) k (box_of i) (omega (arith, first.after)) h) (each k first.within))
    (kids-from tree at f ks is.1 each)

items-from : (n : ℕ) (tree : BoxTree) (at : ℕ) → IsForest tree.boxes → at < length tree.boxes → ItemsFrom tree.boxes at (items_to n tree at)
unfolding items_to
items-from zero tree at t l = tt
items-from (suc n) tree at t l =
    let inside = kids-from tree at (items_to n tree) (kids_of tree.boxes at) (t.kids at) (λ k w. items-from n tree k t w) in
    sort-from tree at (flat_map (items_to n tree) (kids_of tree.boxes at)) (sort_of tree at) l
    (All-implied (λ i. IsFrom tree.boxes (suc at) (box_of i)) (λ i. IsFrom tree.boxes at (box_of i)) (flat_map (items_to n tree) (kids_of tree.boxes at)) (λ i h. from-lower tree.boxes at (suc at) (box_of i) (omega arith) h) inside)

pub content-from : (tree : BoxTree) (at : ℕ) → IsForest tree.boxes → ItemsFrom tree.boxes (suc at) (content tree at)
content-from tree at t = kids-from tree at (items_to (length tree.boxes) tree) (kids_of tree.boxes at) (t.kids at) (λ k w. items-from (length tree.boxes) tree k t w)

inner-from : (boxes : List BoxNode) (low : ℕ) (items : List Item) → ItemsFrom boxes low items → AllByRecursion (IsFrom boxes low) (inner_items items)
inner-from boxes low [] a = tt
inner-from boxes low (start at ∷ items) a = inner-from boxes low items a.1
inner-from boxes low (finish at ∷ items) a = inner-from boxes low items a.1
inner-from boxes low (word at text ∷ items) a = inner-from boxes low items a.1
inner-from boxes low (space at ∷ items) a = inner-from boxes low items a.1
inner-from boxes low (atomic at ∷ items) a = (a.0, inner-from boxes low items a.1)
inner-from boxes low (forced at ∷ items) a = inner-from boxes low items a.1
inner-from boxes low (float at ∷ items) a = (a.0, inner-from boxes low items a.1)

pub inner_boxes-from : (tree : BoxTree) (at : ℕ) → IsForest tree.boxes → AllByRecursion (IsFrom tree.boxes (suc at)) (inner_boxes tree at)
inner_boxes-from tree at t = inner-from tree.boxes (suc at) (content tree at) (content-from tree at t)

pub kids-within : (tree : BoxTree) (at : ℕ) → IsForest tree.boxes → AllByRecursion (IsFrom tree.boxes (suc at)) (kids_of tree.boxes at)
kids-within tree at t = All-implied (IsKid tree.boxes at) (IsFrom tree.boxes (suc at)) (kids_of tree.boxes at) (λ k is. record { from = let a = is.after in omega arith; within = is.within }) (t.kids at)

-- a box in a box is behind it
each-behind : (tree : BoxTree) (at : ℕ) (ks : List ℕ) (i : ℕ) → AllByRecursion (IsKid tree.boxes at) ks → i < length ks → (at < slice_index_or ks i 0) × (slice_index_or ks i 0 < length tree.boxes)
each-behind tree at [] i a l = absurd (omega arith)
each-behind tree at (k ∷ ks) zero a l = (a.0.after, a.0.within)
each-behind tree at (k ∷ ks) (suc i) a l = each-behind tree at ks i a.1 (omega arith)

pub kid-behind : (tree : BoxTree) (at i : ℕ) (kids : List ℕ) → kids ≡ kids_of tree.boxes at → i < length kids → (at < slice_index_or kids i 0) × (slice_index_or kids i 0 < length tree.boxes)
kid-behind tree at i kids e l = each-behind tree at kids i (subst (AllByRecursion (IsKid tree.boxes at)) (sym e) ((forest tree).kids at)) l

-- ---- enough levels

-- a level for each box from this one on
abbrev Reaches : List BoxNode → ℕ → ℕ → Type 0
Reaches boxes levels at = length boxes ≤ at + levels

pub items-enough : (n m : ℕ) (tree : BoxTree) (at : ℕ) → IsForest tree.boxes → at < length tree.boxes → Reaches tree.boxes n at → Reaches tree.boxes m at → items_to n tree at ≡ items_to m tree at
unfolding items_to
items-enough zero m tree at t l rn rm = absurd (omega arith)
items-enough (suc n) zero tree at t l rn rm = absurd (omega arith)
items-enough (suc n) (suc m) tree at t l rn rm =
    ap (λ inside. items_of_sort tree at inside (sort_of tree at))
    (flat_map-same (items_to n tree) (items_to m tree) (kids_of tree.boxes at)
    (All-implied (IsFrom tree.boxes (suc at)) (λ k. items_to n tree k ≡ items_to m tree k) (kids_of tree.boxes at)
    (λ k f. items-enough n m tree k t f.within (let up = f.from in omega arith) (let up = f.from in omega arith)) (kids-within tree at t)))

-- the outer preferred widths of boxes, where this gives what is in them
abbrev pub outer_by : BoxTree → World → (ℕ → Preferred ℤ) → ℕ → ℕ × Preferred ℤ
outer_by tree w inside k = (k, outer_preferred tree w k (inside k))

pub preferred-enough : (n m : ℕ) (tree : BoxTree) (w : World) (at : ℕ) → IsForest tree.boxes → at < length tree.boxes → Reaches tree.boxes n at → Reaches tree.boxes m at → preferred_to n tree w at ≡ preferred_to m tree w at
unfolding preferred_to
preferred-enough zero m tree w at t l rn rm = absurd (omega arith)
preferred-enough (suc n) zero tree w at t l rn rm = absurd (omega arith)
preferred-enough (suc n) (suc m) tree w at t l rn rm =
    let same : (k : ℕ) → IsFrom tree.boxes (suc at) k → outer_by tree w (preferred_to n tree w) k ≡ outer_by tree w (preferred_to m tree w) k =
    λ k f. ap (λ inside. (k, outer_preferred tree w k inside)) (preferred-enough n m tree w k t f.within (let up = f.from in omega arith) (let up = f.from in omega arith)) in
    let inner = map-same (outer_by tree w (preferred_to n tree w)) (outer_by tree w (preferred_to m tree w)) (inner_boxes tree at)
    (All-implied (IsFrom tree.boxes (suc at)) (λ k. outer_by tree w (preferred_to n tree w) k ≡ outer_by tree w (preferred_to m tree w) k) (inner_boxes tree at) same (inner_boxes-from tree at t)) in
    let kids = map-same (outer_by tree w (preferred_to n tree w)) (outer_by tree w (preferred_to m tree w)) (kids_of tree.boxes at)
    (All-implied (IsFrom tree.boxes (suc at)) (λ k. outer_by tree w (preferred_to n tree w) k ≡ outer_by tree w (preferred_to m tree w) k) (kids_of tree.boxes at) same (kids-within tree at t)) in
    ap (λ i. preferred_of_sort tree w at i (map (outer_by tree w (preferred_to n tree w)) (kids_of tree.boxes at)) (inside_of tree at)) inner
    ∙ ap (λ k. preferred_of_sort tree w at (map (outer_by tree w (preferred_to m tree w)) (inner_boxes tree at)) k (inside_of tree at)) kids

-- the preferred widths of a box by those of the boxes in it
pub preferred-by-inside : (tree : BoxTree) (w : World) (at : ℕ) → IsForest tree.boxes → at < length tree.boxes
    → preferred tree w at ≡ preferred_of_sort tree w at (map (outer_by tree w (preferred tree w)) (inner_boxes tree at)) (map (outer_by tree w (preferred tree w)) (kids_of tree.boxes at)) (inside_of tree at)
unfolding preferred_to
preferred-by-inside tree w at t l = preferred-enough (length tree.boxes) (suc (length tree.boxes)) tree w at t l (omega arith) (omega arith)

-- ---- one level further on

-- inline content, box by box
pub content-by-boxes : (tree : BoxTree) (at : ℕ) → IsForest tree.boxes → content tree at ≡ flat_map (box_items tree) (kids_of tree.boxes at)
unfolding items_to
content-by-boxes tree at t =
    flat_map-same (items_to (length tree.boxes) tree) (box_items tree) (kids_of tree.boxes at)
    (All-implied (IsFrom tree.boxes (suc at)) (λ k. items_to (length tree.boxes) tree k ≡ box_items tree k) (kids_of tree.boxes at)
    (λ k f. items-enough (length tree.boxes) (suc (length tree.boxes)) tree k t f.within (omega arith) (omega arith)) (kids-within tree at t))
