-- The walks over boxes find the refusals that the definition does.
use Rattle.std.proofs.Common.{◌≡◌, ◌≢◌, ℕ, ◌==◌, ◌<◌, suc, Bool, true, false, ◌&&◌, ◌||◌, List, [], ◌∷◌, ◌++◌, map, length, get_or, set, Option, Some, None, option_map, slice_get, refl, sym, ◌∙◌, ap, arith, if◌then◌else◌, eq-eqb, length-set, get_or-set_same, get_or-set_other, inl, inr, ◌⊎◌, filter, Contains}
use Rattle.std.proofs.lemmas.Bool.{cases_eq}
use Rattle.std.specs.Option.{option_map_or}
use Rattle.std.proofs.Math.Bool.{or-false}
use Rattle.viz_base.specs.Trees.{is_inline}
use Rattle.viz_base.proofs.Truths.{other_number}
use Rattle.viz_base.proofs.ListLemmas.{rises_from, later_member}
use Rattle.viz_base.specs.Orders.{Rises}
use Rattle.layout_semantics.specs.Directions.{is_right_to_left}
use Rattle.layout_semantics.specs.Parts.{Part}
use Rattle.layout_semantics.specs.BoxTrees.{is_block_part}
use Rattle.layout_semantics.specs.Refusals.{is_inline_box, blocks_in_inlines, right_to_left_letters}
use Rattle.layout_laws.proofs.Members.{first_member, to_map}
use Rattle.page_boxes.specs.steps.Refusing.{inline_nodes, block_in, first_turned, turned, turned_by, turned_in}
use Rattle.page_boxes.specs.steps.Tables.{held}

abbrev node_of : Part → ℕ
node_of p = p.node

-- ---- inline boxes by their nodes

untouched : (table : List Bool) (ps : List Part) (q : ℕ) → ((p : Part) → Contains ps p → p.node ≢ q) → get_or (inline_nodes table ps) q false ≡ get_or table q false
untouched table [] q h = refl
untouched table (p ∷ ps) q h =
    untouched (set table p.node (is_inline p.kind)) ps q (λ r i. h r (later_member _ i))
    ∙ get_or-set_other table p.node q (is_inline p.kind) false (λ e. h p (first_member _ refl) (sym e))

none_inline : (ps : List Part) (q : ℕ) → ((p : Part) → Contains ps p → p.node ≢ q) → is_inline_box ps q ≡ false
none_inline [] q h = refl
none_inline (p ∷ ps) q h =
    ap (λ t. (t && is_inline p.kind) || is_inline_box ps q) (other_number p.node q (h p (first_member _ refl)))
    ∙ none_inline ps q (λ r i. h r (later_member _ i))

marked : (low : ℕ) (table : List Bool) (ps : List Part) (q : ℕ) → Rises low (map node_of ps) → q < length table → get_or table q false ≡ false → get_or (inline_nodes table ps) q false ≡ is_inline_box ps q
marked low table [] q r l none = none
marked low table (p ∷ ps) q r l none = by_place (cases_eq q p.node) (λ next size same. marked (suc p.node) next ps q r.1 size same)
  where
    apart : q ≡ p.node → (x : Part) → Contains ps x → x.node ≢ q
    apart e x i s = let above = rises_from (suc p.node) (map node_of ps) x.node r.1 (to_map node_of ps x i) in absurd (omega (arith, above, e, s))

    by_place : (q ≡ p.node) ⊎ (q ≢ p.node) → ((next : List Bool) → q < length next → get_or next q false ≡ false → get_or (inline_nodes next ps) q false ≡ is_inline_box ps q)
        → get_or (inline_nodes (set table p.node (is_inline p.kind)) ps) q false ≡ ((p.node == q && is_inline p.kind) || is_inline_box ps q)
    by_place (inl e) again =
        let here : p.node < length table = omega (arith, l, e) in
        untouched (set table p.node (is_inline p.kind)) ps q (apart e)
        ∙ (ap (λ k. get_or (set table p.node (is_inline p.kind)) k false) e
        ∙ (get_or-set_same table p.node (is_inline p.kind) false here
        ∙ (sym (or-false (is_inline p.kind))
        ∙ (ap (λ b. is_inline p.kind || b) (sym (none_inline ps q (apart e)))
        ∙ ap (λ t. (t && is_inline p.kind) || is_inline_box ps q) (sym (eq-eqb p.node q (sym e)))))))
    by_place (inr ne) again =
        let size = length-set table p.node (is_inline p.kind) in
        again (set table p.node (is_inline p.kind)) (omega (arith, l, size)) (get_or-set_other table p.node q (is_inline p.kind) false ne ∙ none)
        ∙ ap (λ t. (t && is_inline p.kind) || is_inline_box ps q) (sym (other_number p.node q (λ e. ne (sym e))))

-- ---- the first block in an inline box

block_is : (parts : List Part) (table : List Bool) (ps : List Part) → ((p : Part) (q : ℕ) → Contains ps p → p.parent ≡ Some q → get_or table q false ≡ is_inline_box parts q)
    → block_in table ps ≡ option_map node_of (slice_get (filter (λ (p : Part). is_block_part p && option_map_or (is_inline_box parts) p.parent false) ps) 0)
block_is parts table [] h = refl
block_is parts table (p ∷ ps) h =
    let rest = block_is parts table ps (λ r q i. h r q (later_member _ i)) in
    ap (λ b. if is_block_part p && b then Some p.node else block_in table ps) (by_parent p.parent refl) ∙ by_test (is_block_part p && option_map_or (is_inline_box parts) p.parent false) rest
  where
    by_parent : (o : Option ℕ) → p.parent ≡ o → held table o false ≡ option_map_or (is_inline_box parts) o false
    by_parent None e = refl
    by_parent (Some q) e = h p q (first_member _ refl) e

    others : List Part
    others = filter (λ (r : Part). is_block_part r && option_map_or (is_inline_box parts) r.parent false) ps

    by_test : (t : Bool) → block_in table ps ≡ option_map node_of (slice_get others 0) → (if t then Some p.node else block_in table ps) ≡ option_map node_of (slice_get (if t then p ∷ others else others) 0)
    by_test true e = refl
    by_test false e = e

pub first_block : (low n : ℕ) (table : List Bool) (parts : List Part) → Rises low (map (λ (p : Part). p.node) parts) → length table ≡ n → ((q : ℕ) → q < n → get_or table q false ≡ false) → ((p : Part) (q : ℕ) → Contains parts p → p.parent ≡ Some q → q < n)
    → block_in (inline_nodes table parts) parts ≡ option_map (λ (p : Part). p.node) (slice_get (blocks_in_inlines parts) 0)
first_block low n table parts r size none within =
    block_is parts (inline_nodes table parts) parts (λ p q i e. let l = within p q i e in marked low table parts q r (omega (arith, l, size)) (none q l))

-- ---- the first character that is written from right to left

letter_is : (node : ℕ) (cs : List ℕ) (rest : List (ℕ × ℕ)) → slice_get (map (λ c. (node, c)) (filter is_right_to_left cs) ++ rest) 0 ≡ turned_by node (first_turned cs) (slice_get rest 0)
letter_is node [] rest = refl
letter_is node (c ∷ cs) rest = by_test (is_right_to_left c) (letter_is node cs rest)
  where
    by_test : (t : Bool) → slice_get (map (λ c. (node, c)) (filter is_right_to_left cs) ++ rest) 0 ≡ turned_by node (first_turned cs) (slice_get rest 0)
        → slice_get (map (λ c. (node, c)) (if t then c ∷ filter is_right_to_left cs else filter is_right_to_left cs) ++ rest) 0 ≡ turned_by node (if t then Some c else first_turned cs) (slice_get rest 0)
    by_test true e = refl
    by_test false e = e

pub first_letter : (parts : List Part) → turned parts ≡ slice_get (right_to_left_letters parts) 0
first_letter [] = refl
first_letter (p ∷ ps) = ap (turned_in p) (first_letter ps) ∙ sym (letter_is p.node p.text (right_to_left_letters ps))
