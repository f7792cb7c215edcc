-- The texts of all boxes of a page together have no more characters than its nodes.
use Rattle.std.proofs.Common.{◌≡◌, ℕ, ◌+◌, ◌≤◌, Bool, true, false, not, List, [], ◌∷◌, map, flat_map, length, Option, Some, None, option_map, slice_get, sum_by, refl, arith, filter, Contains}
use Rattle.std.specs.Prelude.{if◌then◌else◌, filter_map}
use Rattle.std.specs.List.{enumerate_from, cons_option}
use Rattle.std.specs.Str.{chars}
use Rattle.std.proofs.lemmas.List.Sums.{sum_by-append, sum_by-cons}
use Rattle.viz_base.specs.Pages.{IsPage, text_of}
use Rattle.viz_base.specs.declared.nodes.Node.{Node}
use Rattle.viz_base.specs.declared.styles.Style.{Style}
use Rattle.viz_base.specs.declared.trees.BoxNode.{BoxNode}
use Rattle.viz_base.proofs.ListLemmas.{later_member}
use Rattle.layout_semantics.specs.Elements.{is_shown}
use Rattle.layout_semantics.specs.Parts.{Part, part_of, shown_part, shown_parts}
use Rattle.layout_semantics.specs.WhiteSpace.{is_bare, collapsed_part}
use Rattle.layout_semantics.specs.BoxTrees.{Item, run_around, items_of, begins_run, with_anonymous, boxes_at, own_box, page_parts, page_boxes, tree_styles}
use Rattle.layout_laws.proofs.Members.{first_member}
use Rattle.layout_laws.proofs.TextLengths.{length_encoded, collapsed_within}

-- ---- sums

sum-flat : {A B : Type 0} (f : B → ℕ) (g : A → ℕ) (h : A → List B) → ((x : A) → sum_by f (h x) ≤ g x) → (xs : List A) → sum_by f (flat_map h xs) ≤ sum_by g xs
sum-flat f g h each [] = omega arith
sum-flat f g h each (x ∷ xs) =
    let join = sum_by-append f (h x) (flat_map h xs) in
    let all = sum_by-cons g x xs in
    let first = each x in
    let rest = sum-flat f g h each xs in
    omega (arith, join, all, first, rest)

sum-within : {A : Type 0} (f g : A → ℕ) (xs : List A) → ((x : A) → Contains xs x → f x ≤ g x) → sum_by f xs ≤ sum_by g xs
sum-within f g [] each = omega arith
sum-within f g (x ∷ xs) each =
    let front = sum_by-cons f x xs in
    let all = sum_by-cons g x xs in
    let first = each x (first_member _ refl) in
    let rest = sum-within f g xs (λ y i. each y (later_member _ i)) in
    omega (arith, front, all, first, rest)

pub sum-map : {A B : Type 0} (f : B → ℕ) (h : A → B) (xs : List A) → sum_by f (map h xs) ≡ sum_by (λ x. f (h x)) xs
sum-map f h [] = refl
sum-map f h (x ∷ xs) =
    let front = sum_by-cons f (h x) (map h xs) in
    let all = sum_by-cons (λ x. f (h x)) x xs in
    let rest = sum-map f h xs in
    omega (arith, front, all, rest)

-- ---- from boxes to parts

abbrev pub letters : BoxNode → ℕ
letters b = length (chars b.chars)

abbrev part_letters : Part → ℕ
part_letters p = length p.text

abbrev item_letters : Item → ℕ
item_letters x = part_letters x.part

own-letters : (items : List Item) (x : Item) → letters (own_box items x) ≡ item_letters x
own-letters items x = length_encoded x.part.text

item-boxes : (items : List Item) (x : Item) → sum_by letters (boxes_at items x) ≤ item_letters x
unfolding chars
item-boxes items x = by_run (begins_run x) x.run
  where
    independent : sum_by letters (own_box items x ∷ []) ≤ item_letters x
    independent =
        let one = sum_by-cons letters (own_box items x) [] in
        let own = own-letters items x in
        omega (arith, one, own)

    by_run : (b : Bool) (run : Option (List ℕ)) → sum_by letters (with_anonymous items x b run) ≤ item_letters x
    by_run true (Some run) = independent
    by_run true None = independent
    by_run false run = independent

-- ---- from parts to nodes

abbrev node_letters : Node → ℕ
node_letters n = length (chars (text_of n.body))

filter-letters : (test : Part → Bool) (ps : List Part) → sum_by part_letters (filter test ps) ≤ sum_by part_letters ps
filter-letters test [] = omega arith
filter-letters test (p ∷ ps) = by_test (test p) (filter-letters test ps)
  where
    by_test : (b : Bool) → sum_by part_letters (filter test ps) ≤ sum_by part_letters ps
        → sum_by part_letters (if b then p ∷ filter test ps else filter test ps) ≤ sum_by part_letters (p ∷ ps)
    by_test true l =
        let one = sum_by-cons part_letters p (filter test ps) in
        let all = sum_by-cons part_letters p ps in
        omega (arith, one, all, l)
    by_test false l = let all = sum_by-cons part_letters p ps in omega (arith, all, l)

shown-letters : (nodes : List Node) (styles : List Style) (k : ℕ) (ns : List Node) → sum_by part_letters (filter_map (shown_part nodes styles) (enumerate_from k ns)) ≤ sum_by node_letters ns
shown-letters nodes styles k [] = omega arith
shown-letters nodes styles k (n ∷ ns) = by_part (is_shown nodes styles k) (slice_get styles k) (shown-letters nodes styles (k + 1) ns)
  where
    rest : List Part
    rest = filter_map (shown_part nodes styles) (enumerate_from (k + 1) ns)

    none : sum_by part_letters rest ≤ sum_by node_letters ns → sum_by part_letters rest ≤ sum_by node_letters (n ∷ ns)
    none l = let all = sum_by-cons node_letters n ns in omega (arith, all, l)

    by_part : (b : Bool) (o : Option Style) → sum_by part_letters rest ≤ sum_by node_letters ns
        → sum_by part_letters (cons_option (if b then option_map (part_of nodes styles k n) o else None) rest) ≤ sum_by node_letters (n ∷ ns)
    by_part true (Some s) l =
        let one = sum_by-cons part_letters (part_of nodes styles k n s) rest in
        let all = sum_by-cons node_letters n ns in
        omega (arith, one, all, l)
    by_part true None l = none l
    by_part false o l = none l

-- ---- the boxes of a page

pub letters_within : (nodes : List Node) (styles : List Style) → IsPage nodes → sum_by letters (page_boxes nodes styles) ≤ sum_by node_letters nodes
letters_within nodes styles page =
    let given = tree_styles nodes styles in
    let all = shown_parts nodes given in
    let items = items_of (page_parts nodes styles) in
    let boxes = sum-flat letters item_letters (boxes_at items) (item-boxes items) items in
    let parts = sum-map item_letters (λ p. let x : Item = record { part = p; run = run_around (page_parts nodes styles) p } in x) (page_parts nodes styles) in
    let kept = filter-letters (λ p. not (is_bare p)) (map (collapsed_part all) all) in
    let texts = sum-map part_letters (collapsed_part all) all in
    let fewer = sum-within (λ p. part_letters (collapsed_part all p)) part_letters all (λ p i. collapsed_within nodes given page p p.container i) in
    let shown = shown-letters nodes given 0 nodes in
    omega (arith, boxes, parts, kept, texts, fewer, shown)
