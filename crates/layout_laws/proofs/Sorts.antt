-- What the boxes in a box are: inline content alone, or blocks and floats alone.
use Rattle.std.proofs.Common.{◌≡◌, ℕ, Bool, true, false, not, ◌==◌, ◌&&◌, ◌||◌, List, [], ◌∷◌, map, find, Option, Some, None, is_some, option_and_then, slice_get, refl, sym, ◌∙◌, ap, subst, if◌then◌else◌, eq-eqb, eqb-true, filter, Contains, ⊎_elim}
use Rattle.std.specs.List.{list_any, list_all}
use Rattle.std.specs.Option.{option_map_or}
use Rattle.std.proofs.lemmas.Bool.{or_left, or_right, false_from_ne_true}
use Rattle.viz_base.specs.Pages.{IsPage, is_break, is_replaced}
use Rattle.viz_base.specs.Trees.{box_passes, floats, is_anon, is_block_content, is_block_or_anon, is_floated, is_inline, is_inline_content, is_inline_level, holds_one_sort}
use Rattle.viz_base.specs.declared.nodes.Body.{Body}
use Rattle.viz_base.specs.declared.nodes.Body.TheVariants as of_body
use Rattle.viz_base.specs.declared.nodes.Node.{Node}
use Rattle.viz_base.specs.declared.styles.Display.{Display}
use Rattle.viz_base.specs.declared.styles.Display.TheVariants as of_display
use Rattle.viz_base.specs.declared.styles.Side.{Side}
use Rattle.viz_base.specs.declared.styles.Style.{Style}
use Rattle.viz_base.specs.declared.trees.BoxNode.{BoxNode}
use Rattle.viz_base.specs.declared.trees.Kind.{Kind}
use Rattle.viz_base.specs.declared.trees.Kind.TheVariants as of_kind
use Rattle.viz_base.proofs.ListLemmas.{later_member}
use Rattle.layout_semantics.specs.Parts.{Part, Level, kind_of_node, level_kind, inline_kind, level_of, style_level, display_level}
use Rattle.layout_semantics.specs.WhiteSpace.{is_in}
use Rattle.layout_semantics.specs.BoxTrees.{Item, boxes_before, own_place, first_of, has_node, nodes_of, kid_place, kid_places, items_in, items_of, own_box, anonymous_box, boxes_of, run_around, parts_in, runs_of, wrapped_in, with_part, needs_box, is_block_part, is_block_level, is_floated_level, page_parts, page_boxes, tree_styles}
use Rattle.layout_semantics.specs.Refusals.{blocks_in_inlines, is_inline_box}
use Rattle.layout_laws.proofs.Members.{from_map, to_map, from_filter, to_filter, from_flat_map, from_one_if, rises_filter, any_in, any_from, any_none, all_from, unique_in, no_member, first_member, first_or_later, only_member, by_member}
use Rattle.layout_laws.proofs.Places.{node_of}
use Rattle.layout_laws.proofs.Kids.{IsArranged, own_box_at, anonymous_box_at}
use Rattle.layout_laws.proofs.Nesting.{IsBoxOf}
use Rattle.layout_laws.proofs.Runs.{find_run, found_in, from_runs, is_in_some, rises_wrapped, run_parent, past_empty, from_with}
use Rattle.layout_laws.proofs.PageParts.{page_rises}
use Rattle.layout_laws.proofs.BoxLaws.{page_arranged}
use Rattle.layout_laws.proofs.BoxFacts.{item_known, item_part, page_box_is}

-- ---- levels and sorts

-- an inline-level box
inline_sort : (c : BoxNode) (body : Body) (d : Display) → c.block_level ≡ false → is_inline_level (record c { kind = if is_replaced body then of_kind.Replaced else inline_kind body d }) ≡ true
inline_sort c body d e = by_replaced (is_replaced body)
  where
    by_break : (b : Bool) (k : Kind) → is_inline_level (record c { kind = k }) ≡ true → is_inline_level (record c { kind = if b then of_kind.Break else k }) ≡ true
    by_break true k h = refl
    by_break false k h = h

    by_body : (body : Body) (d : Display) → is_inline_level (record c { kind = inline_kind body d }) ≡ true
    by_body (of_body.Chars text) d = refl
    by_body (of_body.Element element) of_display.Hidden = by_break (is_break (of_body.Element element)) of_kind.Inline refl
    by_body (of_body.Element element) of_display.Block = by_break (is_break (of_body.Element element)) of_kind.Inline refl
    by_body (of_body.Element element) of_display.Inline = by_break (is_break (of_body.Element element)) of_kind.Inline refl
    by_body (of_body.Element element) of_display.InlineBlock = by_break (is_break (of_body.Element element)) of_kind.Atomic refl

    by_replaced : (b : Bool) → is_inline_level (record c { kind = if b then of_kind.Replaced else inline_kind body d }) ≡ true
    by_replaced true = ap not e
    by_replaced false = by_body body d

display_not_floated : (d : Display) → is_floated_level (display_level d) ≡ false
display_not_floated of_display.Hidden = refl
display_not_floated of_display.Block = refl
display_not_floated of_display.Inline = refl
display_not_floated of_display.InlineBlock = refl

style_floats : (s : Style) → is_floated_level (style_level s) ≡ true → floats s ≡ true
style_floats s e = by_float s.float e
  where
    by_float : (o : Option Side) → is_floated_level (option_map_or (λ side. Level.floated) o (display_level s.display)) ≡ true → is_some o ≡ true
    by_float None e = absurd (let n = display_not_floated s.display in cc)
    by_float (Some side) e = refl

-- a floated box's style floats
level_floats : (is_root : Bool) (body : Body) (s : Style) → is_floated_level (level_of is_root body s) ≡ true → floats s ≡ true
level_floats true body s e = absurd (cc)
level_floats false (of_body.Chars text) s e = absurd (cc)
level_floats false (of_body.Element element) s e = by_break (is_break (of_body.Element element)) e
  where
    by_break : (b : Bool) → is_floated_level (if b then Level.inline else style_level s) ≡ true → floats s ≡ true
    by_break true e = absurd (cc)
    by_break false e = style_floats s e

-- a box whose level is floated or inline is inline content
floated_sort : (styles : List Style) (c : BoxNode) (s : Style) (body : Body) (d : Display) → slice_get styles c.node ≡ Some s → floats s ≡ true → is_floated styles (record c { kind = if is_replaced body then of_kind.Replaced else of_kind.Float }) ≡ true
floated_sort styles c s body d e f = by_replaced (is_replaced body)
  where
    by_replaced : (b : Bool) → is_floated styles (record c { kind = if b then of_kind.Replaced else of_kind.Float }) ≡ true
    by_replaced true = ap (λ (o : Option Style). option_map_or floats o false) e ∙ f
    by_replaced false = refl

inline_content : (styles : List Style) (c : BoxNode) (l : Level) (is_root : Bool) (body : Body) (s : Style) → slice_get styles c.node ≡ Some s → l ≡ level_of is_root body s
    → c.kind ≡ (if is_replaced body then of_kind.Replaced else level_kind l body s.display) → c.block_level ≡ (is_block_level l || is_floated_level l) → is_block_level l ≡ false → is_inline_content styles c ≡ true
inline_content styles c Level.block is_root body s e v k b n = absurd (cc)
inline_content styles c Level.floated is_root body s e v k b n =
    let f = level_floats is_root body s (ap is_floated_level (sym v)) in
    or_left (is_floated styles c) (is_inline_level c) (subst (λ (kind : Kind). is_floated styles (record c { kind = kind }) ≡ true) (sym k) (floated_sort styles c s body s.display e f))
inline_content styles c Level.inline is_root body s e v k b n =
    or_right (is_floated styles c) (is_inline_level c) (subst (λ (kind : Kind). is_inline_level (record c { kind = kind }) ≡ true) (sym k) (inline_sort c body s.display b))

inline_level : (c : BoxNode) (l : Level) (body : Body) (d : Display) → is_block_level l ≡ false → is_floated_level l ≡ false
    → c.kind ≡ (if is_replaced body then of_kind.Replaced else level_kind l body d) → c.block_level ≡ (is_block_level l || is_floated_level l) → is_inline_level c ≡ true
inline_level c Level.block body d n f k b = absurd (cc)
inline_level c Level.floated body d n f k b = absurd (cc)
inline_level c Level.inline body d n f k b = subst (λ (kind : Kind). is_inline_level (record c { kind = kind }) ≡ true) (sym k) (inline_sort c body d b)

-- ---- runs

-- a box that is no block is in one of the runs
to_runs : (kids : List Part) (y : Part) → Contains kids y → is_block_level y.level ≡ false → (run : List Part) × Contains (runs_of kids) run × Contains run y
to_runs [] y i n = no_member i
to_runs (p ∷ ps) y i n =
    by_member (λ (z : Part). is_block_level z.level ≡ false → (run : List Part) × Contains (runs_of (p ∷ ps)) run × Contains run z) p ps y i
    (λ m. of_first p.level m (runs_of ps))
    (λ j m. let f = to_runs ps y j m in of_later p.level (runs_of ps) f.0 f.1 f.2) n
  where
    of_first : (l : Level) → is_block_level l ≡ false → (runs : List (List Part)) → (run : List Part) × Contains (with_part l p runs) run × Contains run p
    of_first Level.block n runs = absurd (cc)
    of_first Level.floated n [] = (p ∷ [], first_member [] refl, first_member [] refl)
    of_first Level.floated n (r ∷ runs) = (p ∷ r, first_member runs refl, first_member r refl)
    of_first Level.inline n [] = (p ∷ [], first_member [] refl, first_member [] refl)
    of_first Level.inline n (r ∷ runs) = (p ∷ r, first_member runs refl, first_member r refl)

    longer : (r : List Part) (runs : List (List Part)) (run : List Part) → Contains (r ∷ runs) run → Contains run y → (s : List Part) × Contains ((p ∷ r) ∷ runs) s × Contains s y
    longer r runs run j k =
        ⊎_elim
        (λ e. (p ∷ r, first_member runs refl, later_member r (subst (λ s. Contains s y) (sym e) k)))
        (λ h. (run, later_member runs h, k))
        (first_or_later r runs run j)

    of_later : (l : Level) (runs : List (List Part)) (run : List Part) → Contains runs run → Contains run y → (r : List Part) × Contains (with_part l p runs) r × Contains r y
    of_later Level.block runs run j k = (run, later_member _ j, k)
    of_later Level.floated [] run j k = no_member j
    of_later Level.floated (r ∷ runs) run j k = longer r runs run j k
    of_later Level.inline [] run j k = no_member j
    of_later Level.inline (r ∷ runs) run j k = longer r runs run j k

-- no block is in a run
no_block_in_runs : (kids : List Part) (run : List Part) (y : Part) → Contains (runs_of kids) run → Contains run y → is_block_level y.level ≡ false
no_block_in_runs [] run y i j = no_member (past_empty [] run y i j)
no_block_in_runs (p ∷ ps) run y i j = by_level p.level refl i (λ r k h. no_block_in_runs ps r y k h)
  where
    by_level : (l : Level) → p.level ≡ l → Contains (with_part l p (runs_of ps)) run → ((r : List Part) → Contains (runs_of ps) r → Contains r y → is_block_level y.level ≡ false) → is_block_level y.level ≡ false
    by_level Level.block e k again = again run (past_empty (runs_of ps) run y k j) j
    by_level Level.floated e k again =
        ⊎_elim (λ s. ap (λ (z : Part). is_block_level z.level) s ∙ ap is_block_level e) (λ f. again f.0 f.1 f.2) (from_with Level.floated p (runs_of ps) run y k j)
    by_level Level.inline e k again =
        ⊎_elim (λ s. ap (λ (z : Part). is_block_level z.level) s ∙ ap is_block_level e) (λ f. again f.0 f.1 f.2) (from_with Level.inline p (runs_of ps) run y k j)

-- ---- the boxes in a box

-- a kid of a node's own box is an own box of a part in no run, or an anonymous block box
data IsKidBox (items : List Item) (n k : ℕ) : Type 0 where
  own : (y : Item) → Contains items y → y.part.parent ≡ Some n → y.run ≡ None → slice_get (boxes_of items) k ≡ Some (own_box items y) → IsKidBox items n k
  anonymous : (y : Item) (run : List ℕ) → slice_get (boxes_of items) k ≡ Some (anonymous_box items y.part run) → IsKidBox items n k

kid_box_by : (items : List Item) (arranged : IsArranged items) (n : ℕ) (p : Part) (run : Option (List ℕ)) (k : ℕ) → Contains items (record { part = p; run = run }) → p.parent ≡ Some n → Contains (kid_place items (record { part = p; run = run })) k → IsKidBox items n k
kid_box_by items arranged n p None k i e j =
    IsKidBox.own (record { part = p; run = None }) i e refl
    (ap (slice_get (boxes_of items)) (sym (only_member (own_place items p.node) k j)) ∙ own_box_at items arranged (record { part = p; run = None }) i)
kid_box_by items arranged n p (Some run) k i e j =
    let here = from_one_if (first_of run == p.node) (boxes_before items p.node) k j in
    IsKidBox.anonymous (record { part = p; run = Some run }) run (ap (slice_get (boxes_of items)) here.0 ∙ anonymous_box_at items arranged (record { part = p; run = Some run }) run i refl here.1)

kid_box : (items : List Item) (arranged : IsArranged items) (n k : ℕ) → Contains (kid_places items n) k → IsKidBox items n k
kid_box items arranged n k j =
    let from = from_flat_map (kid_place items) (items_in items n) k j in
    let y = from.0 in
    let chosen_y = from_filter (λ (item : Item). is_in n item.part.parent) items y from.1 in
    kid_box_by items arranged n y.part y.run k chosen_y.0 (is_in_some n y.part.parent chosen_y.1) from.2

passes_at : (test : BoxNode → Bool) (boxes : List BoxNode) (k : ℕ) (c : BoxNode) → slice_get boxes k ≡ Some c → test c ≡ true → box_passes test boxes k ≡ true
passes_at test boxes k c e t = ap (λ (o : Option BoxNode). option_map_or test o false) e ∙ t

module _ (nodes : List Node) (styles : List Style) (page : IsPage nodes) where
  -- the run of an item is that around its part
  item_run : (x : Item) → Contains (items_of (page_parts nodes styles)) x → x.run ≡ run_around (page_parts nodes styles) x.part
  item_run x i =
      let from = from_map (λ p. record { part = p; run = run_around (page_parts nodes styles) p }) (page_parts nodes styles) x i in
      sym (ap (λ (y : Item). y.run) from.2) ∙ ap (λ (y : Item). run_around (page_parts nodes styles) y.part) from.2

  pub run_in : (x : Item) (n : ℕ) → Contains (items_of (page_parts nodes styles)) x → x.part.parent ≡ Some n → x.run ≡ find (has_node (node_of x)) (map nodes_of (wrapped_in (parts_in (page_parts nodes styles) n)))
  run_in x n i e = item_run x i ∙ ap (option_and_then (λ parent. find (has_node (node_of x)) (map nodes_of (wrapped_in (parts_in (page_parts nodes styles) parent))))) e

  kid_part : (y : Item) (n : ℕ) → Contains (items_of (page_parts nodes styles)) y → y.part.parent ≡ Some n → Contains (parts_in (page_parts nodes styles) n) y.part
  kid_part y n i e = to_filter (λ (p : Part). is_in n p.parent) (page_parts nodes styles) y.part (item_part (page_parts nodes styles) y i) (ap (is_in n) e ∙ eq-eqb n n refl)

  -- a box that is no block is inline content
  own_inline_content : (y : Item) → Contains (items_of (page_parts nodes styles)) y → is_block_level y.part.level ≡ false → is_inline_content (tree_styles nodes styles) (own_box (items_of (page_parts nodes styles)) y) ≡ true
  own_inline_content y i n =
      let k = item_known nodes styles page y i in
      let level : y.part.level ≡ level_of (y.part.node == 0) k.entry.body k.style = ap (λ (p : Part). p.level) k.is in
      let kind : y.part.kind ≡ kind_of_node (y.part.node == 0) k.entry.body k.style = ap (λ (p : Part). p.kind) k.is in
      inline_content (tree_styles nodes styles) (own_box (items_of (page_parts nodes styles)) y) y.part.level (y.part.node == 0) k.entry.body k.style k.style_is level
      (kind ∙ ap (λ (l : Level). if is_replaced k.entry.body then of_kind.Replaced else level_kind l k.entry.body k.style.display) (sym level)) refl n

  -- one that does not float either is inline-level
  pub own_inline_level : (y : Item) → Contains (items_of (page_parts nodes styles)) y → is_block_level y.part.level ≡ false → is_floated_level y.part.level ≡ false → is_inline_level (own_box (items_of (page_parts nodes styles)) y) ≡ true
  own_inline_level y i n f =
      let k = item_known nodes styles page y i in
      let level : y.part.level ≡ level_of (y.part.node == 0) k.entry.body k.style = ap (λ (p : Part). p.level) k.is in
      let kind : y.part.kind ≡ kind_of_node (y.part.node == 0) k.entry.body k.style = ap (λ (p : Part). p.kind) k.is in
      inline_level (own_box (items_of (page_parts nodes styles)) y) y.part.level k.entry.body k.style.display n f
      (kind ∙ ap (λ (l : Level). if is_replaced k.entry.body then of_kind.Replaced else level_kind l k.entry.body k.style.display) (sym level)) refl

  -- with a block among its siblings, a part in no run is a block or a float
  block_beside : (y : Item) (n : ℕ) → Contains (items_of (page_parts nodes styles)) y → y.part.parent ≡ Some n → y.run ≡ None → list_any is_block_part (parts_in (page_parts nodes styles) n) ≡ true
      → (is_block_level y.part.level || is_floated_level y.part.level) ≡ true
  block_beside y n i e none some = by_level (is_block_level y.part.level) refl (is_floated_level y.part.level) refl
    where
      by_level : (b : Bool) → is_block_level y.part.level ≡ b → (f : Bool) → is_floated_level y.part.level ≡ f → (b || f) ≡ true
      by_level true p f q = refl
      by_level false p true q = refl
      by_level false p false q =
          let there = to_runs (parts_in (page_parts nodes styles) n) y.part (kid_part y n i e) p in
          let needs : needs_box there.0 ≡ true = any_from (λ (p : Part). not (is_floated_level p.level)) there.0 y.part there.2 (ap not q) in
          let wrapped_run : Contains (wrapped_in (parts_in (page_parts nodes styles) n)) there.0 = subst (λ b. Contains (if b then filter needs_box (runs_of (parts_in (page_parts nodes styles) n)) else []) there.0) (sym some) (to_filter needs_box (runs_of (parts_in (page_parts nodes styles) n)) there.0 there.1 needs) in
          let rising = rises_wrapped 0 (parts_in (page_parts nodes styles) n) (rises_filter (λ (p : Part). p.node) (λ (p : Part). is_in n p.parent) 0 (page_parts nodes styles) (page_rises nodes (tree_styles nodes styles))) in
          let found_run = find_run 0 (map nodes_of (wrapped_in (parts_in (page_parts nodes styles) n))) (nodes_of there.0) (node_of y) rising (to_map nodes_of (wrapped_in (parts_in (page_parts nodes styles) n)) there.0 wrapped_run) (to_map (λ (p : Part). p.node) there.0 y.part there.2) in
          let has : y.run ≡ Some (nodes_of there.0) = run_in y n i e ∙ found_run in
          absurd (cc)

  -- the parts in a run are no blocks
  pub run_no_block : (x : Item) (run : List ℕ) → Contains (items_of (page_parts nodes styles)) x → x.run ≡ Some run → is_block_level x.part.level ≡ false
  run_no_block x run i e =
      let parent = run_parent (page_parts nodes styles) x run i e in
      let kids = parts_in (page_parts nodes styles) parent.0 in
      let f = found_in (has_node (node_of x)) (map nodes_of (wrapped_in kids)) run (sym (run_in x parent.0 i parent.1) ∙ e) in
      let r = from_map nodes_of (wrapped_in kids) run f.0 in
      let runs : Contains (runs_of kids) r.0 = from_wrapped_in kids (list_any is_block_part kids) r.0 r.1 in
      let has = any_in (λ k. k == node_of x) run f.1 in
      let z = from_map (λ (p : Part). p.node) r.0 has.0 (subst (λ l. Contains l has.0) (sym r.2) has.1) in
      let kid = from_filter (λ (p : Part). is_in parent.0 p.parent) (page_parts nodes styles) z.0 (from_runs kids r.0 z.0 runs z.1) in
      let node : z.0.node ≡ node_of x = z.2 ∙ eqb-true has.0 (node_of x) has.2 in
      let same : z.0 ≡ x.part = unique_in (λ (p : Part). p.node) 0 (page_parts nodes styles) z.0 x.part (page_rises nodes (tree_styles nodes styles)) kid.0 (item_part (page_parts nodes styles) x i) node in
      ap (λ (p : Part). is_block_level p.level) (sym same) ∙ no_block_in_runs kids r.0 z.0 runs z.1
    where
      from_wrapped_in : (kids : List Part) (b : Bool) (run : List Part) → Contains (if b then filter needs_box (runs_of kids) else []) run → Contains (runs_of kids) run
      from_wrapped_in kids true run i = (from_filter needs_box (runs_of kids) run i).0
      from_wrapped_in kids false run i = no_member i

  -- ---- the sort of a box's content

  anonymous_sort : (x : Item) (run : List ℕ) → Contains (items_of (page_parts nodes styles)) x → x.run ≡ Some run
      → list_all (box_passes (is_inline_content (tree_styles nodes styles)) (page_boxes nodes styles)) (map (own_place (items_of (page_parts nodes styles))) run) ≡ true
  anonymous_sort x run i e =
      all_from (box_passes (is_inline_content (tree_styles nodes styles)) (page_boxes nodes styles)) (map (own_place (items_of (page_parts nodes styles))) run)
      (λ place j.
      let from = from_map (own_place (items_of (page_parts nodes styles))) run place j in
      let arranged = page_arranged nodes styles page in
      let m = (arranged.runs x run i e).members from.0 from.1 in
      let place_is : own_place (items_of (page_parts nodes styles)) (node_of m.item) ≡ place = ap (own_place (items_of (page_parts nodes styles))) m.node ∙ from.2 in
      passes_at (is_inline_content (tree_styles nodes styles)) (page_boxes nodes styles) place (own_box (items_of (page_parts nodes styles)) m.item)
      (ap (slice_get (page_boxes nodes styles)) (sym place_is) ∙ own_box_at (items_of (page_parts nodes styles)) arranged m.item m.inside)
      (own_inline_content m.item m.inside (run_no_block m.item run m.inside m.run_is)))

  -- without a block among its parts, a node's box holds inline content
  inline_kids : (n : ℕ) → list_any is_block_part (parts_in (page_parts nodes styles) n) ≡ false
      → list_all (box_passes (is_inline_content (tree_styles nodes styles)) (page_boxes nodes styles)) (kid_places (items_of (page_parts nodes styles)) n) ≡ true
  inline_kids n none =
      all_from (box_passes (is_inline_content (tree_styles nodes styles)) (page_boxes nodes styles)) (kid_places (items_of (page_parts nodes styles)) n)
      (λ k j. by_kid k (kid_box (items_of (page_parts nodes styles)) (page_arranged nodes styles page) n k j) (from_flat_map (kid_place (items_of (page_parts nodes styles))) (items_in (items_of (page_parts nodes styles)) n) k j))
    where
      no_run : (y : Item) → Contains (items_in (items_of (page_parts nodes styles)) n) y → y.run ≡ None
      no_run y j =
          let c = from_filter (λ (item : Item). is_in n item.part.parent) (items_of (page_parts nodes styles)) y j in
          run_in y n c.0 (is_in_some n y.part.parent c.1) ∙ ap (λ (b : Bool). find (has_node (node_of y)) (map nodes_of (if b then filter needs_box (runs_of (parts_in (page_parts nodes styles) n)) else []))) none

      by_item : (p : Part) (run : Option (List ℕ)) (k : ℕ) → run ≡ None → Contains (items_of (page_parts nodes styles)) (record { part = p; run = run }) → p.parent ≡ Some n → Contains (kid_place (items_of (page_parts nodes styles)) (record { part = p; run = run })) k
          → box_passes (is_inline_content (tree_styles nodes styles)) (page_boxes nodes styles) k ≡ true
      by_item p (Some run) k e i up j = absurd (cc)
      by_item p None k e i up j =
          subst (λ m. box_passes (is_inline_content (tree_styles nodes styles)) (page_boxes nodes styles) m ≡ true) (only_member (own_place (items_of (page_parts nodes styles)) p.node) k j)
          (passes_at (is_inline_content (tree_styles nodes styles)) (page_boxes nodes styles) (own_place (items_of (page_parts nodes styles)) p.node) (own_box (items_of (page_parts nodes styles)) (record { part = p; run = None }))
          (own_box_at (items_of (page_parts nodes styles)) (page_arranged nodes styles page) (record { part = p; run = None }) i)
          (own_inline_content (record { part = p; run = None }) i (any_none is_block_part (parts_in (page_parts nodes styles) n) p none (kid_part (record { part = p; run = None }) n i up))))

      by_kid : (k : ℕ) → IsKidBox (items_of (page_parts nodes styles)) n k → (y : Item) × Contains (items_in (items_of (page_parts nodes styles)) n) y × Contains (kid_place (items_of (page_parts nodes styles)) y) k
          → box_passes (is_inline_content (tree_styles nodes styles)) (page_boxes nodes styles) k ≡ true
      by_kid k box f =
          let c = from_filter (λ (item : Item). is_in n item.part.parent) (items_of (page_parts nodes styles)) f.0 f.1 in
          by_item f.0.part f.0.run k (no_run f.0 f.1) c.0 (is_in_some n f.0.part.parent c.1) f.2

  -- with one, it holds blocks and floats
  block_kids : (n : ℕ) → list_any is_block_part (parts_in (page_parts nodes styles) n) ≡ true
      → list_all (box_passes (is_block_content (tree_styles nodes styles)) (page_boxes nodes styles)) (kid_places (items_of (page_parts nodes styles)) n) ≡ true
  block_kids n some =
      all_from (box_passes (is_block_content (tree_styles nodes styles)) (page_boxes nodes styles)) (kid_places (items_of (page_parts nodes styles)) n)
      (λ k j. by_kid k (kid_box (items_of (page_parts nodes styles)) (page_arranged nodes styles page) n k j))
    where
      block_level : (c : BoxNode) → c.block_level ≡ true → is_block_content (tree_styles nodes styles) c ≡ true
      block_level c e = or_right (is_floated (tree_styles nodes styles) c) (is_block_or_anon c) (or_left c.block_level (is_anon c.kind) e)

      by_kid : (k : ℕ) → IsKidBox (items_of (page_parts nodes styles)) n k → box_passes (is_block_content (tree_styles nodes styles)) (page_boxes nodes styles) k ≡ true
      by_kid k (IsKidBox.own y i up none at) = passes_at (is_block_content (tree_styles nodes styles)) (page_boxes nodes styles) k (own_box (items_of (page_parts nodes styles)) y) at (block_level (own_box (items_of (page_parts nodes styles)) y) (block_beside y n i up none some))
      by_kid k (IsKidBox.anonymous y run at) = passes_at (is_block_content (tree_styles nodes styles)) (page_boxes nodes styles) k (anonymous_box (items_of (page_parts nodes styles)) y.part run) at (block_level (anonymous_box (items_of (page_parts nodes styles)) y.part run) refl)

  -- an inline box holds no block, where the page is not refused
  inline_has_no_block : blocks_in_inlines (page_parts nodes styles) ≡ [] → (x : Item) → Contains (items_of (page_parts nodes styles)) x → list_any is_block_part (parts_in (page_parts nodes styles) (node_of x)) ≡ true → is_inline x.part.kind ≡ false
  inline_has_no_block none x i some = false_from_ne_true (is_inline x.part.kind) (λ inline.
      let z = any_in is_block_part (parts_in (page_parts nodes styles) (node_of x)) some in
      let kid = from_filter (λ (p : Part). is_in (node_of x) p.parent) (page_parts nodes styles) z.0 z.1 in
      let box : is_inline_box (page_parts nodes styles) (node_of x) ≡ true = any_from (λ (p : Part). p.node == node_of x && is_inline p.kind) (page_parts nodes styles) x.part (item_part (page_parts nodes styles) x i) (ap (λ b. b && is_inline x.part.kind) (eq-eqb (node_of x) (node_of x) refl) ∙ inline) in
      let within : option_map_or (is_inline_box (page_parts nodes styles)) z.0.parent false ≡ true = ap (λ (o : Option ℕ). option_map_or (is_inline_box (page_parts nodes styles)) o false) (is_in_some (node_of x) z.0.parent kid.1) ∙ box in
      let refused = to_filter (λ (p : Part). is_block_part p && option_map_or (is_inline_box (page_parts nodes styles)) p.parent false) (page_parts nodes styles) z.0 kid.0 (ap (λ b. b && option_map_or (is_inline_box (page_parts nodes styles)) z.0.parent false) z.2 ∙ within) in
      none_there (subst (λ (l : List Part). Contains l z.0) none refused))
    where
      none_there : {p : Part} → Contains [] p → ⊥
      none_there i = no_member i

  pub one_sort : blocks_in_inlines (page_parts nodes styles) ≡ [] → (at : ℕ) (b : BoxNode) → slice_get (page_boxes nodes styles) at ≡ Some b → holds_one_sort (tree_styles nodes styles) (page_boxes nodes styles) b ≡ true
  one_sort none at b e = by_box (page_box_is nodes styles page at b e)
    where
      by_any : (x : Item) → Contains (items_of (page_parts nodes styles)) x → (t : Bool) → list_any is_block_part (parts_in (page_parts nodes styles) (node_of x)) ≡ t → holds_one_sort (tree_styles nodes styles) (page_boxes nodes styles) (own_box (items_of (page_parts nodes styles)) x) ≡ true
      by_any x i false s = or_left (list_all (box_passes (is_inline_content (tree_styles nodes styles)) (page_boxes nodes styles)) (kid_places (items_of (page_parts nodes styles)) (node_of x))) (not (is_inline x.part.kind) && list_all (box_passes (is_block_content (tree_styles nodes styles)) (page_boxes nodes styles)) (kid_places (items_of (page_parts nodes styles)) (node_of x))) (inline_kids (node_of x) s)
      by_any x i true s = or_right (list_all (box_passes (is_inline_content (tree_styles nodes styles)) (page_boxes nodes styles)) (kid_places (items_of (page_parts nodes styles)) (node_of x))) (not (is_inline x.part.kind) && list_all (box_passes (is_block_content (tree_styles nodes styles)) (page_boxes nodes styles)) (kid_places (items_of (page_parts nodes styles)) (node_of x)))
          (ap (λ b. not b && list_all (box_passes (is_block_content (tree_styles nodes styles)) (page_boxes nodes styles)) (kid_places (items_of (page_parts nodes styles)) (node_of x))) (inline_has_no_block none x i s) ∙ block_kids (node_of x) s)

      by_box : IsBoxOf (items_of (page_parts nodes styles)) at b → holds_one_sort (tree_styles nodes styles) (page_boxes nodes styles) b ≡ true
      by_box (IsBoxOf.own x i p s) = subst (λ (c : BoxNode). holds_one_sort (tree_styles nodes styles) (page_boxes nodes styles) c ≡ true) (sym s) (by_any x i (list_any is_block_part (parts_in (page_parts nodes styles) (node_of x))) refl)
      by_box (IsBoxOf.anonymous x run i r t p s) = subst (λ (c : BoxNode). holds_one_sort (tree_styles nodes styles) (page_boxes nodes styles) c ≡ true) (sym s)
          (or_left (list_all (box_passes (is_inline_content (tree_styles nodes styles)) (page_boxes nodes styles)) (map (own_place (items_of (page_parts nodes styles))) run)) (not (is_inline of_kind.Anon) && list_all (box_passes (is_block_content (tree_styles nodes styles)) (page_boxes nodes styles)) (map (own_place (items_of (page_parts nodes styles))) run)) (anonymous_sort x run i r))
