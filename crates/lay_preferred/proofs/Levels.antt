-- The preferred widths of a box by those of the boxes in it, as the code finds them.
use Rattle.std.proofs.Common.{◌≡◌, ℕ, ◌<◌, ◌+◌, zero, suc, List, [], ◌∷◌, map, drop, length, sym, subst, ◌∙◌, arith}
use Rattle.std.specs.List.{AllByRecursion}
use Rattle.viz_base.specs.declared.trees.BoxTree.{BoxTree}
use Rattle.viz_base.specs.declared.worlds.World.{World}
use Rattle.layout_semantics.specs.InlineContent.{box_of, content}
use Rattle.layout_semantics.specs.Order.{kids_of}
use Rattle.layout_semantics.specs.Preferred.{a_replaced, inline_content, blocks, inside_of, preferred}
use Rattle.layout_semantics.proofs.Pages.{forest}
use Rattle.layout_laws.proofs.Levels.{IsFrom, All-implied, content-from}
use Rattle.layout_laws.proofs.PreferredWidths.{with_sort}
use Rattle.lay_preferred.specs.steps.Outer.{replaced, outer}
use Rattle.lay_preferred.specs.steps.Parts.{IsInside, inline_in, blocks_in}
use Rattle.lay_preferred.proofs.ChildColumns.{blocks-same}
use Rattle.lay_preferred.proofs.Inline.{inline-same}

pub of-replaced : (tree : BoxTree) (w : World) (at : ℕ) → at < length tree.boxes → inside_of tree at ≡ a_replaced → replaced tree w at ≡ preferred tree w at
unfolding replaced
of-replaced tree w at l e = sym (with_sort tree w at a_replaced l e)

pub of-inline : (tree : BoxTree) (w : World) (at : ℕ) → at < length tree.boxes → inside_of tree at ≡ inline_content → inline_in tree w at ≡ preferred tree w at
of-inline tree w at l e = inline-same tree w at ∙ sym (with_sort tree w at inline_content l e)

pub of-blocks : (tree : BoxTree) (w : World) (at : ℕ) → at < length tree.boxes → inside_of tree at ≡ blocks → blocks_in tree w at ≡ preferred tree w at
unfolding blocks_in outer
of-blocks tree w at l e = blocks-same tree (outer tree w) (kids_of tree.boxes at) ∙ sym (with_sort tree w at blocks l e)

-- the boxes of inline content are inside
pub content-inside : (tree : BoxTree) (b : ℕ) → AllByRecursion (IsInside tree b) (content tree b)
content-inside tree b = All-implied (λ i. IsFrom tree.boxes (suc b) (box_of i)) (IsInside tree b) (content tree b) (λ i f. (f.from, f.within)) (content-from tree b (forest tree))

-- what holds of all behind a place holds of those behind the next
all-next : {A B : Type 0} (f : A → B) (P : B → Type 0) (xs : List A) (i : ℕ) → AllByRecursion P (map f (drop i xs)) → AllByRecursion P (map f (drop (suc i) xs))
all-next f P [] zero a = tt
all-next f P [] (suc i) a = tt
all-next f P (x ∷ xs) zero a = a.1
all-next f P (x ∷ xs) (suc i) a = all-next f P xs i a

pub all-later : {A B : Type 0} (f : A → B) (P : B → Type 0) (xs : List A) (i : ℕ) → AllByRecursion P (map f (drop i xs)) → AllByRecursion P (map f (drop (i + 1) xs))
all-later f P xs i a = let one : suc i ≡ i + 1 = omega arith in subst (λ j. AllByRecursion P (map f (drop j xs))) one (all-next f P xs i a)
