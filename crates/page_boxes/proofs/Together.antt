-- What the parts of the code come to together.
use Rattle.std.proofs.lemmas.List.{length-replicate, get_or-replicate, length-map}
use Rattle.std.proofs.Common.{◌≡◌, ℕ, suc, ◌+◌, ◌<◌, ◌≤◌, nat_lt, Bool, true, false, List, [], ◌∷◌, map, length, replicate, get_or, Option, Some, None, Result, Ok, Err, option_map, slice_get, refl, sym, ◌∙◌, ap, subst, arith, Contains}
use Rattle.std.proofs.lemmas.Option.{slice_get_within, slice_get-map, get_or_from_slice_get}
use Rattle.viz_base.specs.Answers.{FailsWith}
use Rattle.viz_base.specs.Pages.{IsPage}
use Rattle.viz_base.specs.Trees.{IsBoxTree}
use Rattle.viz_base.specs.declared.fonts.Font.{Font}
use Rattle.viz_base.specs.declared.nodes.Node.{Node}
use Rattle.viz_base.specs.declared.styles.Style.{Style}
use Rattle.viz_base.specs.declared.trees.BoxNode.{BoxNode}
use Rattle.layout_semantics.specs.BoxTrees.{Item, first_of, items_of, page_boxes, page_parts, run_around, tree_parents, tree_styles}
use Rattle.layout_semantics.specs.Parts.{Part, shown_parts}
use Rattle.viz_base.specs.Reaches.{beyond_reach}
use Rattle.viz_base.proofs.ListLemmas.{later_member}
use Rattle.viz_base.specs.Orders.{Rises}
use Rattle.layout_semantics.specs.Refusals.{BoxRefusal, blocks_in_inlines, first_refusal, page_refusal, right_to_left_letters}
use Rattle.layout_semantics.specs.WhiteSpace.{collapsed}
use Rattle.layout_laws.specs.Styled.{AreStylesOf}
use Rattle.layout_laws.proofs.Members.{from_map, first_member}
use Rattle.layout_laws.proofs.Places.{node_of}
use Rattle.layout_laws.proofs.PageParts.{from_page, page_rises}
use Rattle.layout_laws.proofs.BoxFacts.{item_known}
use Rattle.layout_laws.proofs.BoxLaws.{page_arranged}
use Rattle.page_boxes.specs.Trees.{AreAllowed, HasFewBoxes, IfNamed, page_tree, refusal_named, unless_refused}
use Rattle.page_boxes.specs.declared.faults.BoxFault.{BoxFault}
use Rattle.page_boxes.specs.steps.Leads.{ahead_of, leads_walk, with_blocks}
use Rattle.page_boxes.specs.steps.Places.{count_walk, places_walk, with_all}
use Rattle.page_boxes.specs.steps.Refusing.{block_in, inline_nodes}
use Rattle.page_boxes.specs.steps.Extents.{far_of, sizes_walk}
use Rattle.page_boxes.proofs.DocumentOrder.{in_run, tree_of_page}
use Rattle.page_boxes.proofs.PageReach.{page_known}
use Rattle.page_boxes.proofs.ReachSteps.{far_is}
use Rattle.page_boxes.proofs.KidSteps.{built}
use Rattle.page_boxes.proofs.LeadSteps.{leads_are}
use Rattle.page_boxes.proofs.PageSteps.{parent_within, root_level}
use Rattle.page_boxes.proofs.PlaceSteps.{count_is, lead_of_run, page_nested, part_of_item, table_start, walk_is}
use Rattle.page_boxes.proofs.RefusalSteps.{first_block}

-- ---- how many boxes of nodes there are

few_numbers : (low most : ℕ) (ns : List ℕ) → Rises low ns → ((n : ℕ) → Contains ns n → n < most) → low ≤ most → low + length ns ≤ most
few_numbers low most [] r f l = omega (arith, l)
few_numbers low most (n ∷ ns) r f l =
    let here = f n (first_member _ refl) in
    let rest = few_numbers (suc n) most ns r.1 (λ k i. f k (later_member _ i)) (omega (arith, here)) in
    let first = r.0 in
    omega (arith, rest, first)

pub few_parts : (nodes : List Node) (styles : List Style) → length (collapsed (shown_parts nodes styles)) ≤ length nodes
few_parts nodes styles =
    let parts = collapsed (shown_parts nodes styles) in
    let few = few_numbers 0 (length nodes) (map (λ (p : Part). p.node) parts) (page_rises nodes styles) (λ n i. within n (from_map (λ (p : Part). p.node) parts n i)) (omega arith) in
    let size = length-map parts (λ (p : Part). p.node) in
    omega (arith, few, size)
  where
    within : (n : ℕ) → (p : Part) × Contains (collapsed (shown_parts nodes styles)) p × (p.node ≡ n) → n < length nodes
    within n (p, i, e) = let k = from_page nodes styles p i in let l = slice_get_within nodes p.node k.entry k.node_is in omega (arith, l, e)

-- ---- refusals of boxes of nodes

pub block_first : (nodes : List Node) (styles : List Style) → IsPage nodes → (parts : List Part) → parts ≡ collapsed (shown_parts nodes styles)
    → block_in (inline_nodes (replicate (length nodes) false) parts) parts ≡ option_map (λ (p : Part). p.node) (slice_get (blocks_in_inlines parts) 0)
block_first nodes styles page parts e =
    first_block 0 (length nodes) (replicate (length nodes) false) parts (subst (λ ps. Rises 0 (map (λ (p : Part). p.node) ps)) (sym e) (page_rises nodes styles)) (length-replicate (length nodes) false) (λ q l. get_or-replicate (length nodes) q false false l)
    (λ p q i f. parent_within nodes styles page p q (subst (λ l. Contains l p) e i) f)

pub none_at_front : {A : Type 0} (xs : List A) → slice_get xs 0 ≡ None → xs ≡ []
none_at_front [] e = refl
none_at_front (x ∷ xs) e = absurd (cc)

pub none_mapped : (blocks : List Part) → option_map (λ (p : Part). p.node) (slice_get blocks 0) ≡ None → blocks ≡ []
none_mapped [] e = refl
none_mapped (p ∷ ps) e = absurd (cc)

pub judged_block : (blocks : List Part) (letters : List (ℕ × ℕ)) (node : ℕ) → option_map (λ (p : Part). p.node) (slice_get blocks 0) ≡ Some node
    → (too_many : Bool) (far : Option ℕ) → first_refusal blocks letters too_many far ≡ Some (BoxRefusal.block_in_inline node)
judged_block [] letters node e too_many far = absurd (cc)
judged_block (p ∷ ps) letters node e too_many far = let same : p.node ≡ node = cc in ap (λ n. Some (BoxRefusal.block_in_inline n)) same

pub judged_letter : (blocks : List Part) (letters : List (ℕ × ℕ)) (node c : ℕ) → blocks ≡ [] → slice_get letters 0 ≡ Some (node, c)
    → (too_many : Bool) (far : Option ℕ) → first_refusal blocks letters too_many far ≡ Some (BoxRefusal.right_to_left node c)
judged_letter blocks [] node c b e too_many far = absurd (cc)
judged_letter blocks (l ∷ ls) node c b e too_many far =
    let same : l ≡ (node, c) = cc in
    ap (λ bs. first_refusal bs (l ∷ ls) too_many far) b ∙ ap (λ (p : ℕ × ℕ). Some (BoxRefusal.right_to_left p.0 p.1)) same

-- ---- boxes at their places

items_parts : (parts ps : List Part) → map part_of_item (map (λ p. record { part = p; run = run_around parts p }) ps) ≡ ps
items_parts parts [] = refl
items_parts parts (p ∷ ps) = ap (λ l. p ∷ l) (items_parts parts ps)

module _ (nodes : List Node) (styles : List Style) (page : IsPage nodes) where
  abbrev parts : List Part
  parts = page_parts nodes styles

  abbrev leads : List (Option ℕ)
  leads = map (λ p. option_map first_of (run_around (page_parts nodes styles) p)) (page_parts nodes styles)

  pub page_leads : leads_walk (replicate (length nodes) None) (with_blocks (replicate (length nodes) false) parts) (ahead_of (replicate (length nodes) false) parts) 0 parts ≡ leads
  page_leads = leads_are (length nodes) 0 parts (page_rises nodes (tree_styles nodes styles)) (λ p q i e. parent_within nodes (tree_styles nodes styles) page p q i e) (λ p i e. root_level nodes (tree_styles nodes styles) page p i e)

  item_within : (x : Item) → Contains (items_of parts) x → node_of x < length nodes
  item_within x i = let k = item_known nodes styles page x i in slice_get_within nodes (node_of x) k.entry k.node_is

  lead_known : (j : ℕ) (x : Item) → slice_get (items_of parts) j ≡ Some x → get_or leads (0 + j) None ≡ lead_of_run x.run
  lead_known j x e =
      let none : 0 + j ≡ j = omega arith in
      let item = slice_get-map (λ p. record { part = p; run = run_around parts p }) parts j in
      let lead = slice_get-map (λ p. option_map first_of (run_around parts p)) parts j in
      ap (λ k. get_or leads k None) none ∙ get_or_from_slice_get leads j (lead_of_run x.run) None (lead ∙ by_part (slice_get parts j) (sym item ∙ e))
    where
      by_part : (o : Option Part) → option_map (λ p. record { part = p; run = run_around parts p }) o ≡ Some x → option_map (λ p. option_map first_of (run_around parts p)) o ≡ Some (lead_of_run x.run)
      by_part None f = absurd (cc)
      by_part (Some p) f = let same : record { part = p; run = run_around parts p } ≡ x = some_same f in ap (λ (y : Item). Some (lead_of_run y.run)) same
        where
          some_same : {y z : Item} → Some y ≡ Some z → y ≡ z
          some_same e = cc

  pub boxes_are : with_all [] (places_walk (replicate (length nodes) 0) 0 leads 0 parts) ≡ page_boxes nodes styles
  boxes_are =
      ap (λ ps. with_all [] (places_walk (replicate (length nodes) 0) 0 leads 0 ps)) (sym (items_parts parts parts))
      ∙ (ap (with_all []) (walk_is (items_of parts) (page_arranged nodes styles page) (in_run nodes styles page) (length nodes) item_within (replicate (length nodes) 0) leads 0 [] (items_of parts) refl
      (table_start (items_of parts) (page_arranged nodes styles page) (length nodes) (replicate (length nodes) 0) (length-replicate (length nodes) 0)) lead_known)
      ∙ built (page_boxes nodes styles) (page_nested nodes styles page))

  pub boxes_counted : count_walk leads 0 parts ≡ length (page_boxes nodes styles)
  boxes_counted =
      ap (count_walk leads 0) (sym (items_parts parts parts))
      ∙ count_is (items_of parts) (page_arranged nodes styles page) leads 0 (items_of parts) lead_known

  pub leads_eq : (n : ℕ) (ps : List Part) → n ≡ length nodes → ps ≡ parts → leads_walk (replicate n None) (with_blocks (replicate n false) ps) (ahead_of (replicate n false) ps) 0 ps ≡ leads
  leads_eq n ps e f =
      ap (λ m. leads_walk (replicate m None) (with_blocks (replicate m false) ps) (ahead_of (replicate m false) ps) 0 ps) e
      ∙ (ap (λ qs. leads_walk (replicate (length nodes) None) (with_blocks (replicate (length nodes) false) qs) (ahead_of (replicate (length nodes) false) qs) 0 qs) f ∙ page_leads)

  pub count_eq : (ls : List (Option ℕ)) (ps : List Part) → ls ≡ leads → ps ≡ parts → count_walk ls 0 ps ≡ length (page_boxes nodes styles)
  count_eq ls ps e f = ap (λ l. count_walk l 0 ps) e ∙ (ap (count_walk leads 0) f ∙ boxes_counted)

  pub boxes_eq : (n : ℕ) (ls : List (Option ℕ)) (ps : List Part) → n ≡ length nodes → ls ≡ leads → ps ≡ parts → with_all [] (places_walk (replicate n 0) 0 ls 0 ps) ≡ page_boxes nodes styles
  boxes_eq n ls ps d e f =
      ap (λ m. with_all [] (places_walk (replicate m 0) 0 ls 0 ps)) d
      ∙ (ap (λ l. with_all [] (places_walk (replicate (length nodes) 0) 0 l 0 ps)) e
      ∙ (ap (λ qs. with_all [] (places_walk (replicate (length nodes) 0) 0 leads 0 qs)) f ∙ boxes_are))

-- ---- the answer

module _ (nodes : List Node) (styles : List Style) (fonts : List Font) where
  pub refused : (refusal : BoxRefusal) → page_refusal nodes styles fonts ≡ Some refusal → page_tree nodes styles fonts ≡ Err refusal
  refused refusal e = ap (unless_refused nodes styles fonts) e

  pub fails_judged : (o : Option BoxRefusal) (blocks : List Part) (letters : List (ℕ × ℕ)) → blocks ≡ blocks_in_inlines (page_parts nodes styles) → letters ≡ right_to_left_letters (page_parts nodes styles)
      → IfNamed o (λ refusal. (too_many : Bool) (far : Option ℕ) → first_refusal blocks letters too_many far ≡ Some refusal) → FailsWith o (λ given. page_tree nodes styles fonts ≡ given)
  fails_judged None blocks letters b l h = tt
  fails_judged (Some refusal) blocks letters b l h =
      let too_many = nat_lt 16384 (length (page_boxes nodes styles)) in
      let far = beyond_reach (tree_styles nodes styles) (tree_parents nodes) fonts (page_boxes nodes styles) in
      refused refusal (sym (ap (λ bs. first_refusal bs letters too_many far) b ∙ ap (λ ls. first_refusal (blocks_in_inlines (page_parts nodes styles)) ls too_many far) l) ∙ h too_many far)

  pub fails_many : (o : Option BoxRefusal) → blocks_in_inlines (page_parts nodes styles) ≡ [] → right_to_left_letters (page_parts nodes styles) ≡ []
      → IfNamed o (λ refusal. (refusal ≡ BoxRefusal.too_many_boxes) × (nat_lt 16384 (length (page_boxes nodes styles)) ≡ true)) → FailsWith o (λ given. page_tree nodes styles fonts ≡ given)
  fails_many None b l h = tt
  fails_many (Some refusal) b l h =
      let far = beyond_reach (tree_styles nodes styles) (tree_parents nodes) fonts (page_boxes nodes styles) in
      refused refusal
      (ap (λ bs. first_refusal bs (right_to_left_letters (page_parts nodes styles)) (nat_lt 16384 (length (page_boxes nodes styles))) far) b
      ∙ (ap (λ ls. first_refusal [] ls (nat_lt 16384 (length (page_boxes nodes styles))) far) l
      ∙ (ap (λ t. first_refusal [] [] t far) h.1 ∙ ap Some (sym h.0))))

  judged_all : blocks_in_inlines (page_parts nodes styles) ≡ [] → right_to_left_letters (page_parts nodes styles) ≡ [] → nat_lt 16384 (length (page_boxes nodes styles)) ≡ false
      → (far : Option ℕ) → far ≡ beyond_reach (tree_styles nodes styles) (tree_parents nodes) fonts (page_boxes nodes styles) → page_refusal nodes styles fonts ≡ option_map BoxRefusal.reach far
  judged_all b l few far e =
      let given = beyond_reach (tree_styles nodes styles) (tree_parents nodes) fonts (page_boxes nodes styles) in
      ap (λ bs. first_refusal bs (right_to_left_letters (page_parts nodes styles)) (nat_lt 16384 (length (page_boxes nodes styles))) given) b
      ∙ (ap (λ ls. first_refusal [] ls (nat_lt 16384 (length (page_boxes nodes styles))) given) l
      ∙ (ap (λ t. first_refusal [] [] t given) few ∙ ap (option_map BoxRefusal.reach) (sym e)))

  pub fails_far : (node : ℕ) → blocks_in_inlines (page_parts nodes styles) ≡ [] → right_to_left_letters (page_parts nodes styles) ≡ [] → nat_lt 16384 (length (page_boxes nodes styles)) ≡ false
      → Some node ≡ beyond_reach (tree_styles nodes styles) (tree_parents nodes) fonts (page_boxes nodes styles) → page_tree nodes styles fonts ≡ Err (BoxRefusal.reach node)
  fails_far node b l few e = refused (BoxRefusal.reach node) (judged_all b l few (Some node) e)

  pub passes : blocks_in_inlines (page_parts nodes styles) ≡ [] → right_to_left_letters (page_parts nodes styles) ≡ [] → nat_lt 16384 (length (page_boxes nodes styles)) ≡ false
      → None ≡ beyond_reach (tree_styles nodes styles) (tree_parents nodes) fonts (page_boxes nodes styles)
      → (boxes : List BoxNode) (used : List Style) (copies : List Font) (parents : List (Option ℕ)) → boxes ≡ page_boxes nodes styles → used ≡ tree_styles nodes styles → copies ≡ fonts → parents ≡ tree_parents nodes
      → page_tree nodes styles fonts ≡ Ok (record { boxes = boxes; styles = used; fonts = copies; parents = parents })
  passes b l few e boxes used copies parents p q r s =
      ap (unless_refused nodes styles fonts) (judged_all b l few None e)
      ∙ sym (ap (λ bs. Ok (record { boxes = bs; styles = used; fonts = copies; parents = parents })) p
      ∙ (ap (λ us. Ok (record { boxes = page_boxes nodes styles; styles = us; fonts = copies; parents = parents })) q
      ∙ (ap (λ fs. Ok (record { boxes = page_boxes nodes styles; styles = tree_styles nodes styles; fonts = fs; parents = parents })) r
      ∙ ap (λ ps. Ok (record { boxes = page_boxes nodes styles; styles = tree_styles nodes styles; fonts = fonts; parents = ps })) s)))

  pub keeps_facts : IsPage nodes → AreStylesOf nodes styles fonts → blocks_in_inlines (page_parts nodes styles) ≡ []
      → (boxes : List BoxNode) (used : List Style) (copies : List Font) (parents : List (Option ℕ)) → boxes ≡ page_boxes nodes styles → used ≡ tree_styles nodes styles → copies ≡ fonts → parents ≡ tree_parents nodes
      → IsBoxTree boxes used copies parents
  keeps_facts page styled b boxes used copies parents p q r s =
      subst (λ bs. IsBoxTree bs used copies parents) (sym p)
      (subst (λ us. IsBoxTree (page_boxes nodes styles) us copies parents) (sym q)
      (subst (λ fs. IsBoxTree (page_boxes nodes styles) (tree_styles nodes styles) fs parents) (sym r)
      (subst (λ ps. IsBoxTree (page_boxes nodes styles) (tree_styles nodes styles) fonts ps) (sym s) (tree_of_page nodes styles fonts page styled b))))

  pub far_eq : IsPage nodes → AreStylesOf nodes styles fonts → blocks_in_inlines (page_parts nodes styles) ≡ []
      → (boxes : List BoxNode) (used : List Style) (parents : List (Option ℕ)) → boxes ≡ page_boxes nodes styles → used ≡ tree_styles nodes styles → parents ≡ tree_parents nodes
      → far_of (sizes_walk [] parents 0 used) used fonts boxes ≡ beyond_reach (tree_styles nodes styles) (tree_parents nodes) fonts (page_boxes nodes styles)
  far_eq page styled b boxes used parents p q s =
      ap (λ bs. far_of (sizes_walk [] parents 0 used) used fonts bs) p
      ∙ (ap (λ us. far_of (sizes_walk [] parents 0 us) us fonts (page_boxes nodes styles)) q
      ∙ (ap (λ ps. far_of (sizes_walk [] ps 0 (tree_styles nodes styles)) (tree_styles nodes styles) fonts (page_boxes nodes styles)) s
      ∙ far_is (tree_styles nodes styles) (tree_parents nodes) fonts (page_boxes nodes styles) (page_known nodes styles fonts page styled b)))

-- boxes that are few are allowed where nothing else refuses the page
pub placed_allowed : (nodes : List Node) (styles : List Style) (result : Result (List BoxNode) BoxFault) → blocks_in_inlines (page_parts nodes styles) ≡ [] → right_to_left_letters (page_parts nodes styles) ≡ []
    → HasFewBoxes (page_boxes nodes styles) result → AreAllowed nodes styles result
placed_allowed nodes styles (Ok found) b l h = record { boxes = h.0; few = h.1; no_blocks = b; no_letters = l }
placed_allowed nodes styles (Err fault) b l h = λ fonts. fails_many nodes styles fonts (refusal_named fault) b l h
