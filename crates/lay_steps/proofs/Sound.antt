-- The flow gives each box the width that the tree says of its containing block.
use Rattle.std.proofs.Common.{◌≡◌, ℕ, zero, suc, ℤ, Bool, true, false, not, ◌&&◌, ◌||◌, cond, List, [], ◌∷◌, length, Contains, slice_get, Option, None, Some, refl, sym, ap, ◌∙◌, subst, arith}
use Rattle.std.specs.Prelude.{◌==◌}
use Rattle.std.specs.List.{flat_map, list_any, AllByRecursion}
use Rattle.std.specs.Option.{option_map_or}
use Rattle.std.proofs.lemmas.Int.{ints}
use Rattle.viz_base.specs.Trees.{is_inline, is_replaced, is_floated, is_inline_level, floats}
use Rattle.viz_base.specs.declared.layouts.Band.{Band}
use Rattle.viz_base.specs.declared.layouts.Widths.{Widths}
use Rattle.viz_base.specs.declared.styles.Style.{Style}
use Rattle.viz_base.specs.declared.trees.BoxNode.{BoxNode}
use Rattle.viz_base.specs.declared.trees.BoxTree.{BoxTree}
use Rattle.viz_base.specs.declared.trees.Kind.{Kind}
use Rattle.viz_base.specs.declared.trees.Kind.TheVariants as of_kind
use Rattle.viz_base.specs.declared.worlds.World.{World}
use Rattle.viz_base.proofs.ListLemmas.{all_append}
use Rattle.layout_semantics.specs.Blocks.{kind_of}
use Rattle.layout_semantics.specs.Order.{kids_of, IsOnPage}
use Rattle.layout_semantics.specs.Horizontal.{Placing, block_flow, shrunk, replaced_block, replaced_shrunk, placing_of, widths}
use Rattle.layout_semantics.specs.FlowBoxes.{is_replaced_at, is_context_root, is_open_above, inline_size, content_from, flow_children, room}
use Rattle.layout_semantics.specs.InlineContent.{Item, start, finish, word, space, atomic, forced, float, Sort, a_float, an_atomic, a_break, a_text, an_inline, sort_of, text_of, text_items, letter_before, character_before, items_to, content, float_boxes, inner_items, inner_boxes, holds_inline, is_floated_at, is_inline_level_at, is_zero, has_line}
use Rattle.layout_semantics.specs.Lengths.{borders, paddings}
use Rattle.layout_laws.specs.Nested.{items_of_sort}
use Rattle.layout_laws.proofs.HorizontalTerms.{widths-placed}
use Rattle.layout_laws.proofs.Levels.{All-implied, sort_by}
use Rattle.layout_laws.proofs.Rooms.{room-by-parent}
use Rattle.lay_margin.specs.steps.Leads.{enters, inner_band}
use Rattle.lay_steps.proofs.LeadEnds.{sort-float, content-floats}

-- ---- kinds of boxes

-- what the landed tests ask of a box, by its kind
abbrev floats_by : List Style → ℕ → Kind → Bool
floats_by styles node of_kind.Float = true
floats_by styles node of_kind.Replaced = option_map_or floats (slice_get styles node) false
floats_by styles node _ = false

abbrev level_by : Bool → Kind → Bool
level_by block_level of_kind.Inline = true
level_by block_level of_kind.Chars = true
level_by block_level of_kind.Break = true
level_by block_level of_kind.Atomic = true
level_by block_level of_kind.Replaced = not block_level
level_by block_level _ = false

abbrev kind_in : Option BoxNode → Kind
kind_in o = option_map_or (λ (b : BoxNode). b.kind) o of_kind.Block

floated-kind : (tree : BoxTree) (k : ℕ) → is_floated_at tree k ≡ true → is_inline (kind_of tree k) ≡ false
unfolding is_floated_at
floated-kind tree k e = by (slice_get tree.boxes k) e
  where
    of_box : (node : ℕ) (kind : Kind) → floats_by tree.styles node kind ≡ true → is_inline kind ≡ false
    of_box node of_kind.Inline f = absurd (cc)
    of_box node _ f = refl

    by : (o : Option BoxNode) → option_map_or (is_floated tree.styles) o false ≡ true → is_inline (kind_in o) ≡ false
    by None f = refl
    by (Some x) f = of_box x.node x.kind f

level-kind : (tree : BoxTree) (k : ℕ) → is_inline_level_at tree k ≡ false → is_inline (kind_of tree k) ≡ false
unfolding is_floated_at is_inline_level_at
level-kind tree k e = by (slice_get tree.boxes k) e
  where
    of_box : (node : ℕ) (block_level : Bool) (kind : Kind) → (level_by block_level kind && not (floats_by tree.styles node kind)) ≡ false → is_inline kind ≡ false
    of_box node block_level of_kind.Inline f = absurd (cc)
    of_box node block_level _ f = refl

    by : (o : Option BoxNode) → (option_map_or is_inline_level o false && not (option_map_or (is_floated tree.styles) o false)) ≡ false → is_inline (kind_in o) ≡ false
    by None f = refl
    by (Some x) f = of_box x.node x.block_level x.kind f

abbrev placing_by : Kind → Bool → Bool → Placing
placing_by of_kind.Replaced false false = replaced_block
placing_by of_kind.Replaced _ _ = replaced_shrunk
placing_by of_kind.Float _ _ = shrunk
placing_by of_kind.Atomic _ _ = shrunk
placing_by _ _ _ = block_flow

-- a box in a block container's flow, in no line and not replaced
flow-placing : (tree : BoxTree) (k : ℕ) → is_floated_at tree k ≡ false → is_inline_level_at tree k ≡ false → is_replaced_at tree k ≡ false → placing_of tree k ≡ block_flow
unfolding is_floated_at is_inline_level_at is_replaced_at
flow-placing tree k e l r = by (slice_get tree.boxes k) e l r
  where
    of_box : (node : ℕ) (block_level : Bool) (kind : Kind) → floats_by tree.styles node kind ≡ false → (level_by block_level kind && not (floats_by tree.styles node kind)) ≡ false → is_replaced kind ≡ false
        → placing_by kind (floats_by tree.styles node kind) (level_by block_level kind && not (floats_by tree.styles node kind)) ≡ block_flow
    of_box node block_level of_kind.Float e l r = absurd (cc)
    of_box node block_level of_kind.Atomic e l r = absurd (cc)
    of_box node block_level of_kind.Replaced e l r = absurd (cc)
    of_box node block_level _ e l r = refl

    by : (o : Option BoxNode) → option_map_or (is_floated tree.styles) o false ≡ false
        → (option_map_or is_inline_level o false && not (option_map_or (is_floated tree.styles) o false)) ≡ false → is_replaced (kind_in o) ≡ false
        → placing_by (kind_in o) (option_map_or (is_floated tree.styles) o false) (option_map_or is_inline_level o false && not (option_map_or (is_floated tree.styles) o false)) ≡ block_flow
    by None e l r = refl
    by (Some x) e l r = of_box x.node x.block_level x.kind e l r

sort-kind : (f : Bool) (kind : Kind) → sort_by f kind ≡ an_atomic → is_inline kind ≡ false
sort-kind true kind e = absurd (cc)
sort-kind false of_kind.Inline e = absurd (cc)
sort-kind false _ e = refl

sort-inline : (f : Bool) (kind : Kind) → sort_by f kind ≡ an_inline → is_inline kind ≡ true
sort-inline true kind e = absurd (cc)
sort-inline false of_kind.Inline e = refl
sort-inline false of_kind.Chars e = absurd (cc)
sort-inline false of_kind.Break e = absurd (cc)
sort-inline false _ e = absurd (cc)

none-level : (test : ℕ → Bool) (ks : List ℕ) → list_any test ks ≡ false → AllByRecursion (λ k. test k ≡ false) ks
none-level test [] e = tt
none-level test (k ∷ ks) e = (first (test k) (list_any test ks) e, none-level test ks (rest (test k) (list_any test ks) e))
  where
    first : (a b : Bool) → (a || b) ≡ false → a ≡ false
    first true b e = e
    first false b e = refl

    rest : (a b : Bool) → (a || b) ≡ false → b ≡ false
    rest true b e = absurd (cc)
    rest false b e = e

members : (P : ℕ → Type 0) (all ks : List ℕ) → ((x : ℕ) → Contains ks x → Contains all x) → ((x : ℕ) → Contains all x → P x) → AllByRecursion P ks
members P all [] f own = tt
members P all (k ∷ ks) f own = (own k (f k (0, omega arith, refl)), members P all ks (λ x (i, l, e). f x (suc i, omega arith, e)) own)

open-whole : (tree : BoxTree) (k : ℕ) → enters tree k ≡ true → is_replaced_at tree k ≡ false
unfolding enters is_open_above
open-whole tree k e = by (is_context_root tree k) (is_replaced_at tree k) (is_zero (borders tree k).top) (is_zero (paddings tree k).top) (not (has_line tree k)) e
  where
    by : (c r x y z : Bool) → ((not c && not r && x && y) && z) ≡ true → r ≡ false
    by c false x y z e = refl
    by true true x y z e = absurd (cc)
    by false true x y z e = absurd (cc)

pub enters-no-line : (tree : BoxTree) (k : ℕ) → enters tree k ≡ true → has_line tree k ≡ false
unfolding enters
enters-no-line tree k e = by (is_open_above tree k) (has_line tree k) e
  where
    by : (o l : Bool) → (o && not l) ≡ true → l ≡ false
    by o false e = refl
    by true true e = absurd (cc)
    by false true e = absurd (cc)

module _ (tree : BoxTree) (w : World) where
  -- a box on the page that is a containing block, in one that is as wide as the tree says
  pub record IsSound (k : ℕ) (wide : ℤ) : Type 0 where
    pub page : IsOnPage tree.boxes k
    pub room : wide ≡ room tree w k
    pub block : is_inline (kind_of tree k) ≡ false

  -- the width of what is in it
  abbrev pub inner_width : ℕ → ℤ → ℤ
  inner_width b wide = (widths tree w b wide).content

  band-wide : (left : ℤ) (x : Widths ℤ) → inline_size (content_from left x) ≡ x.content
  band-wide left x = omega (arith, ints)

  room-in : (b k : ℕ) (wide : ℤ) → IsSound b wide → Contains (kids_of tree.boxes b) k → room tree w k ≡ inner_width b wide
  room-in b k wide s c =
      room-by-parent tree w b k s.page c
      ∙ ap (λ (i : Bool). cond i (room tree w b) (inner_width b (room tree w b))) s.block
      ∙ ap (inner_width b) (sym s.room)

  -- ---- boxes of inline content

  abbrev ItemSound : ℤ → Item → Type 0
  ItemSound wide (float at) = IsSound at wide
  ItemSound wide (atomic at) = IsSound at wide
  ItemSound wide _ = Unit {0}

  text-sound : (wide : ℤ) (at : ℕ) (text : List ℕ) → AllByRecursion (ItemSound wide) (text_items at text)
  text-sound wide at [] = tt
  text-sound wide at (c ∷ cs) = by (c == 32) (text_items at cs) (text-sound wide at cs)
    where
      before : (items : List Item) → AllByRecursion (ItemSound wide) items → AllByRecursion (ItemSound wide) (letter_before at c items)
      before [] a = (tt, tt)
      before (word other text ∷ items) a = (tt, a.1)
      before (start other ∷ items) a = (tt, a)
      before (finish other ∷ items) a = (tt, a)
      before (space other ∷ items) a = (tt, a)
      before (atomic other ∷ items) a = (tt, a)
      before (forced other ∷ items) a = (tt, a)
      before (float other ∷ items) a = (tt, a)

      by : (b : Bool) (items : List Item) → AllByRecursion (ItemSound wide) items → AllByRecursion (ItemSound wide) (character_before b at c items)
      by true items a = (tt, a)
      by false items a = before items a

  each-sound : (wide : ℤ) (f : ℕ → List Item) (ks : List ℕ) → AllByRecursion (λ k. AllByRecursion (ItemSound wide) (f k)) ks → AllByRecursion (ItemSound wide) (flat_map f ks)
  each-sound wide f [] own = tt
  each-sound wide f (k ∷ ks) own = all_append (ItemSound wide) (f k) (flat_map f ks) own.0 (each-sound wide f ks own.1)

  sort-sound : (at : ℕ) (wide : ℤ) (inside : List Item) (s : Sort) → sort_of tree at ≡ s → IsOnPage tree.boxes at → room tree w at ≡ wide
      → (s ≡ an_inline → AllByRecursion (ItemSound wide) inside) → AllByRecursion (ItemSound wide) (items_of_sort tree at inside s)
  sort-sound at wide inside a_float e p r a = (record { page = p; room = sym r; block = floated-kind tree at (sort-float (is_floated_at tree at) (kind_of tree at) e) }, tt)
  sort-sound at wide inside an_atomic e p r a = (record { page = p; room = sym r; block = sort-kind (is_floated_at tree at) (kind_of tree at) e }, tt)
  sort-sound at wide inside a_break e p r a = (tt, tt)
  sort-sound at wide inside a_text e p r a = text-sound wide at (text_of tree at)
  sort-sound at wide inside an_inline e p r a = (tt, all_append (ItemSound wide) inside (finish at ∷ []) (a refl) (tt, tt))

  items-sound : (n at : ℕ) (wide : ℤ) → IsOnPage tree.boxes at → room tree w at ≡ wide → AllByRecursion (ItemSound wide) (items_to n tree at)
  unfolding items_to
  items-sound zero at wide p r = tt
  items-sound (suc n) at wide p r = sort-sound at wide (flat_map (items_to n tree) (kids_of tree.boxes at)) (sort_of tree at) refl p r (λ e.
      each-sound wide (items_to n tree) (kids_of tree.boxes at) (members (λ k. AllByRecursion (ItemSound wide) (items_to n tree k)) (kids_of tree.boxes at) (kids_of tree.boxes at) (λ x c. c) (λ k c.
      items-sound n k wide (IsOnPage.inside at k p c)
      (room-by-parent tree w at k p c
      ∙ ap (λ (i : Bool). cond i (room tree w at) (inner_width at (room tree w at))) (sort-inline (is_floated_at tree at) (kind_of tree at) e) ∙ r))))

  content-sound : (b : ℕ) (wide : ℤ) → IsSound b wide → AllByRecursion (ItemSound (inner_width b wide)) (content tree b)
  content-sound b wide s = each-sound (inner_width b wide) (items_to (length tree.boxes) tree) (kids_of tree.boxes b)
      (members (λ k. AllByRecursion (ItemSound (inner_width b wide)) (items_to (length tree.boxes) tree k)) (kids_of tree.boxes b) (kids_of tree.boxes b) (λ x c. c)
      (λ k c. items-sound (length tree.boxes) k (inner_width b wide) (IsOnPage.inside b k s.page c) (room-in b k wide s c)))

  floats-sound : (wide : ℤ) (items : List Item) → AllByRecursion (ItemSound wide) items → AllByRecursion (λ k. IsSound k wide) (float_boxes items)
  floats-sound wide [] a = tt
  floats-sound wide (start at ∷ items) a = floats-sound wide items a.1
  floats-sound wide (finish at ∷ items) a = floats-sound wide items a.1
  floats-sound wide (word at text ∷ items) a = floats-sound wide items a.1
  floats-sound wide (space at ∷ items) a = floats-sound wide items a.1
  floats-sound wide (atomic at ∷ items) a = floats-sound wide items a.1
  floats-sound wide (forced at ∷ items) a = floats-sound wide items a.1
  floats-sound wide (float at ∷ items) a = (a.0, floats-sound wide items a.1)

  inners-sound : (wide : ℤ) (items : List Item) → AllByRecursion (ItemSound wide) items → AllByRecursion (λ k. IsSound k wide) (inner_items items)
  inners-sound wide [] a = tt
  inners-sound wide (start at ∷ items) a = inners-sound wide items a.1
  inners-sound wide (finish at ∷ items) a = inners-sound wide items a.1
  inners-sound wide (word at text ∷ items) a = inners-sound wide items a.1
  inners-sound wide (space at ∷ items) a = inners-sound wide items a.1
  inners-sound wide (atomic at ∷ items) a = (a.0, inners-sound wide items a.1)
  inners-sound wide (forced at ∷ items) a = inners-sound wide items a.1
  inners-sound wide (float at ∷ items) a = (a.0, inners-sound wide items a.1)

  pub inner_boxes-sound : (b : ℕ) (left wide : ℤ) → IsSound b wide → AllByRecursion (λ k. IsSound k (inline_size (content_from left (widths tree w b wide)))) (inner_boxes tree b)
  inner_boxes-sound b left wide s =
      All-implied (λ k. IsSound k (inner_width b wide)) (λ k. IsSound k (inline_size (content_from left (widths tree w b wide)))) (inner_boxes tree b)
      (λ k h. subst (IsSound k) (sym (band-wide left (widths tree w b wide))) h) (inners-sound (inner_width b wide) (content tree b) (content-sound b wide s))

  -- ---- the children in the flow of a box

  -- one of them: in no line where it doesn't float
  pub record IsFlowKid (k : ℕ) (wide : ℤ) : Type 0 where
    pub sound : IsSound k wide
    pub flow : is_floated_at tree k ≡ false → is_inline_level_at tree k ≡ false

  floats-flow : (b : ℕ) (wide : ℤ) (ks : List ℕ) → AllByRecursion (λ k. is_floated_at tree k ≡ true) ks → AllByRecursion (λ k. IsSound k wide) ks → AllByRecursion (λ k. IsFlowKid k wide) ks
  floats-flow b wide [] f a = tt
  floats-flow b wide (k ∷ ks) f a = (record { sound = a.0; flow = λ e. absurd (let t = f.0 in cc) }, floats-flow b wide ks f.1 a.1)

  kids-flow : (b : ℕ) (wide : ℤ) → IsSound b wide → (ks : List ℕ) → AllByRecursion (λ k. is_inline_level_at tree k ≡ false) ks → AllByRecursion (Contains (kids_of tree.boxes b)) ks → AllByRecursion (λ k. IsFlowKid k (inner_width b wide)) ks
  kids-flow b wide s [] l a = tt
  kids-flow b wide s (k ∷ ks) l a = (
    record { sound = record { page = IsOnPage.inside b k s.page a.0; room = sym (room-in b k wide s a.0); block = level-kind tree k l.0 }; flow = λ e. l.0 },
    kids-flow b wide s ks l.1 a.1,
  )

  children-sound : (b : ℕ) (wide : ℤ) → IsSound b wide → AllByRecursion (λ k. IsFlowKid k (inner_width b wide)) (flow_children tree b)
  unfolding holds_inline
  children-sound b wide s = by (holds_inline tree b) refl
    where
      by : (h : Bool) → holds_inline tree b ≡ h → AllByRecursion (λ k. IsFlowKid k (inner_width b wide)) (flow_children tree b)
      by true e = rw e (floats-flow b (inner_width b wide) (float_boxes (content tree b)) (content-floats tree b) (floats-sound (inner_width b wide) (content tree b) (content-sound b wide s)))
      by false e = rw e (kids-flow b wide s (kids_of tree.boxes b) (none-level (is_inline_level_at tree) (kids_of tree.boxes b) e)
          (members (Contains (kids_of tree.boxes b)) (kids_of tree.boxes b) (kids_of tree.boxes b) (λ x c. c) (λ x c. c)))

  pub flow-sound : (b : ℕ) (left wide : ℤ) → IsSound b wide → AllByRecursion (λ k. IsFlowKid k (inline_size (content_from left (widths tree w b wide)))) (flow_children tree b)
  flow-sound b left wide s =
      All-implied (λ k. IsFlowKid k (inner_width b wide)) (λ k. IsFlowKid k (inline_size (content_from left (widths tree w b wide)))) (flow_children tree b)
      (λ k h. subst (IsFlowKid k) (sym (band-wide left (widths tree w b wide))) h) (children-sound b wide s)

  -- ---- the containing block that a lead gives

  pub lead-sound : (cb : Band ℤ) (k : ℕ) → IsFlowKid k (inline_size cb) → is_floated_at tree k ≡ false → enters tree k ≡ true → AllByRecursion (λ j. IsFlowKid j (inline_size (inner_band tree w cb k))) (flow_children tree k)
  unfolding inner_band
  lead-sound cb k s f i =
      let placed = flow-placing tree k f (s.flow f) (open-whole tree k i) in
      subst (λ (band : Band ℤ). AllByRecursion (λ j. IsFlowKid j (inline_size band)) (flow_children tree k))
      (ap (content_from cb.left) (widths-placed tree w k (inline_size cb) block_flow placed))
      (flow-sound k cb.left (inline_size cb) s.sound)
