-- The boxes of a container's inline content: where they are, and what sorts of boxes.
use Rattle.std.proofs.Common.{◌≡◌, ℕ, zero, suc, ℤ, Bool, true, false, not, ◌&&◌, slice_get, List, [], ◌∷◌, ◌++◌, length, Contains, Option, Some, None, refl, sym, ◌∙◌, ap, subst, arith}
use Rattle.std.specs.Prelude.{◌==◌, cond}
use Rattle.std.specs.List.{AllByRecursion, flat_map}
use Rattle.std.specs.Option.{option_map_or}
use Rattle.std.proofs.lemmas.Bool.Decides.{nat_tests}
use Rattle.viz_base.specs.Trees.{floats, is_floated, is_fragmented, is_inline, is_inline_level}
use Rattle.viz_base.specs.declared.trees.BoxNode.{BoxNode}
use Rattle.viz_base.specs.declared.trees.BoxTree.{BoxTree}
use Rattle.viz_base.specs.declared.trees.Kind.{Kind}
use Rattle.viz_base.specs.declared.trees.Kind.TheVariants as of_kind
use Rattle.viz_base.specs.declared.worlds.World.{World}
use Rattle.viz_base.proofs.ListLemmas.{all_append, later_member}
use Rattle.layout_semantics.specs.Blocks.{kind_of}
use Rattle.layout_semantics.specs.FlowBoxes.{room}
use Rattle.layout_semantics.specs.Horizontal.{widths}
use Rattle.layout_semantics.specs.InlineContent.{Item, start, finish, word, space, atomic, forced, float, Sort, a_float, an_atomic, a_break, a_text, an_inline, sort_of, text_of, text_items, letter_before, character_before, items_to, content, inner_items, is_floated_at, is_inline_level_at}
use Rattle.layout_semantics.specs.Order.{kids_of, IsOnPage}
use Rattle.layout_laws.specs.Nested.{items_of_sort}
use Rattle.layout_laws.proofs.Greatest.{All-from}
use Rattle.layout_laws.proofs.Levels.{All-implied, sort_by}
use Rattle.layout_laws.proofs.Members.{first_member}
use Rattle.layout_laws.proofs.Rooms.{room-by-parent}
use Rattle.lay_steps.proofs.LeadEnds.{sort-float}
use Rattle.lay_steps.proofs.Sound.{IsSound}
use Rattle.page_limits.specs.Boxes.{IsPartOf, IsWhole}

-- ---- the words of a text are parts of it

part-more : (c : ℕ) (part whole : List ℕ) → IsPartOf part whole → IsPartOf part (c ∷ whole)
part-more c part whole p = record { before = c ∷ p.before; after = p.after; same = ap (λ l. c ∷ l) p.same }

abbrev IsPiece : List ℕ → Item → Type 0
IsPiece text (word at part) = IsPartOf part text
IsPiece text (space at) = IsPartOf (32 ∷ []) text
IsPiece text _ = Unit {0}

pieces-more : (c : ℕ) (text : List ℕ) (i : Item) → IsPiece text i → IsPiece (c ∷ text) i
pieces-more c text (word at part) p = part-more c part text p
pieces-more c text (space at) p = part-more c (32 ∷ []) text p
pieces-more c text (start at) p = tt
pieces-more c text (finish at) p = tt
pieces-more c text (atomic at) p = tt
pieces-more c text (forced at) p = tt
pieces-more c text (float at) p = tt

-- the first of them begins it, where it is a word
abbrev BeginsWith : List ℕ → List Item → Type 0
BeginsWith text [] = Unit {0}
BeginsWith text (word at part ∷ items) = (after : List ℕ) × (part ++ after ≡ text)
BeginsWith text (_ ∷ items) = Unit {0}

record ArePieces (at : ℕ) (text : List ℕ) (items : List Item) : Type 0 where
  first : BeginsWith text items
  each : AllByRecursion (IsPiece text) items

all-more : (c : ℕ) (text : List ℕ) (items : List Item) → AllByRecursion (IsPiece text) items → AllByRecursion (IsPiece (c ∷ text)) items
all-more c text items a = All-implied (IsPiece text) (IsPiece (c ∷ text)) items (λ i p. pieces-more c text i p) a

letter-piece : (at c : ℕ) (text : List ℕ) (items : List Item) → ArePieces at text items → ArePieces at (c ∷ text) (letter_before at c items)
letter-piece at c text [] p = record { first = (text, refl); each = (record { before = []; after = text; same = refl }, tt) }
letter-piece at c text (word other part ∷ items) p =
    let f = p.first in
    let e = ap (λ l. c ∷ l) f.1 in
    record { first = (f.0, e); each = (record { before = []; after = f.0; same = e }, all-more c text items p.each.1) }
letter-piece at c text (start other ∷ items) p = record { first = (text, refl); each = (record { before = []; after = text; same = refl }, all-more c text (start other ∷ items) p.each) }
letter-piece at c text (finish other ∷ items) p = record { first = (text, refl); each = (record { before = []; after = text; same = refl }, all-more c text (finish other ∷ items) p.each) }
letter-piece at c text (space other ∷ items) p = record { first = (text, refl); each = (record { before = []; after = text; same = refl }, all-more c text (space other ∷ items) p.each) }
letter-piece at c text (atomic other ∷ items) p = record { first = (text, refl); each = (record { before = []; after = text; same = refl }, all-more c text (atomic other ∷ items) p.each) }
letter-piece at c text (forced other ∷ items) p = record { first = (text, refl); each = (record { before = []; after = text; same = refl }, all-more c text (forced other ∷ items) p.each) }
letter-piece at c text (float other ∷ items) p = record { first = (text, refl); each = (record { before = []; after = text; same = refl }, all-more c text (float other ∷ items) p.each) }

text-pieces : (at : ℕ) (text : List ℕ) → ArePieces at text (text_items at text)
text-pieces at [] = record { first = tt; each = tt }
text-pieces at (c ∷ cs) = by (c == 32) refl (text-pieces at cs)
  where
    by : (b : Bool) → (c == 32) ≡ b → ArePieces at cs (text_items at cs) → ArePieces at (c ∷ cs) (character_before b at c (text_items at cs))
    by false e rest = letter-piece at c cs (text_items at cs) rest
    by true e rest =
        let same : 32 ≡ c = grind (arith, nat_tests) in
        record { first = tt; each = (record { before = []; after = cs; same = ap (λ (x : ℕ). x ∷ cs) same }, all-more c cs (text_items at cs) rest.each) }

-- words and spaces of one box
abbrev IsTextOf : ℕ → Item → Type 0
IsTextOf k (word at part) = at ≡ k
IsTextOf k (space at) = at ≡ k
IsTextOf k _ = ⊥

own-letter : (k c : ℕ) (items : List Item) → AllByRecursion (IsTextOf k) items
    → AllByRecursion (IsTextOf k) (letter_before k c items)
own-letter k c [] a = (refl, tt)
own-letter k c (word other part ∷ items) a = (a.0, a.1)
own-letter k c (space other ∷ items) a = (refl, a)
own-letter k c (start other ∷ items) a = (refl, a)
own-letter k c (finish other ∷ items) a = (refl, a)
own-letter k c (atomic other ∷ items) a = (refl, a)
own-letter k c (forced other ∷ items) a = (refl, a)
own-letter k c (float other ∷ items) a = (refl, a)

own-text : (k : ℕ) (text : List ℕ) → AllByRecursion (IsTextOf k) (text_items k text)
own-text k [] = tt
own-text k (c ∷ cs) = by (c == 32) (own-text k cs)
  where
    by : (b : Bool) → AllByRecursion (IsTextOf k) (text_items k cs)
        → AllByRecursion (IsTextOf k) (character_before b k c (text_items k cs))
    by true rest = (refl, rest)
    by false rest = own-letter k c (text_items k cs) rest

-- ---- where the boxes of a content are

module _ (tree : BoxTree) (w : World) where
  pub record IsIn (wide : ℤ) (k : ℕ) : Type 0 where
    pub page : IsOnPage tree.boxes k
    pub room : room tree w k ≡ wide

  unfoldable pub ItemIn : ℤ → Item → Type 0
  ItemIn wide (start at) = IsIn wide at × (sort_of tree at ≡ an_inline)
  ItemIn wide (finish at) = IsIn wide at × (sort_of tree at ≡ an_inline)
  ItemIn wide (word at part) = IsIn wide at × IsPartOf part (text_of tree at)
  ItemIn wide (space at) = IsIn wide at × IsPartOf (32 ∷ []) (text_of tree at)
  ItemIn wide (atomic at) = IsIn wide at × (sort_of tree at ≡ an_atomic)
  ItemIn wide (forced at) = Unit {0}
  ItemIn wide (float at) = IsIn wide at × (sort_of tree at ≡ a_float)

  text-in : (wide : ℤ) (k : ℕ) → IsIn wide k → AllByRecursion (ItemIn wide) (text_items k (text_of tree k))
  unfolding ItemIn
  text-in wide k i = join (text_items k (text_of tree k)) (own-text k (text_of tree k)) (text-pieces k (text_of tree k)).each
    where
      one : (j : ℕ) → j ≡ k → (part : List ℕ) → IsPartOf part (text_of tree k) → IsIn wide j × IsPartOf part (text_of tree j)
      one j e part p = subst (λ (x : ℕ). IsIn wide x × IsPartOf part (text_of tree x)) (sym e) (i, p)

      join : (items : List Item) → AllByRecursion (IsTextOf k) items → AllByRecursion (IsPiece (text_of tree k)) items → AllByRecursion (ItemIn wide) items
      join [] a b = tt
      join (word at part ∷ items) a b = (one at a.0 part b.0, join items a.1 b.1)
      join (space at ∷ items) a b = (one at a.0 (32 ∷ []) b.0, join items a.1 b.1)
      join (start at ∷ items) a b = absurd a.0
      join (finish at ∷ items) a b = absurd a.0
      join (atomic at ∷ items) a b = absurd a.0
      join (forced at ∷ items) a b = absurd a.0
      join (float at ∷ items) a b = absurd a.0

  sort-in : (wide : ℤ) (k : ℕ) (inside : List Item) (s : Sort) → sort_of tree k ≡ s → IsIn wide k → (s ≡ an_inline → AllByRecursion (ItemIn wide) inside) → AllByRecursion (ItemIn wide) (items_of_sort tree k inside s)
  unfolding ItemIn
  sort-in wide k inside a_float e i a = ((i, e), tt)
  sort-in wide k inside an_atomic e i a = ((i, e), tt)
  sort-in wide k inside a_break e i a = (tt, tt)
  sort-in wide k inside a_text e i a = text-in wide k i
  sort-in wide k inside an_inline e i a = ((i, e), all_append (ItemIn wide) inside (finish k ∷ []) (a refl) ((i, e), tt))

  each-in : (wide : ℤ) (f : ℕ → List Item) (ks : List ℕ) → AllByRecursion (λ k. AllByRecursion (ItemIn wide) (f k)) ks → AllByRecursion (ItemIn wide) (flat_map f ks)
  each-in wide f [] a = tt
  each-in wide f (k ∷ ks) a = all_append (ItemIn wide) (f k) (flat_map f ks) a.0 (each-in wide f ks a.1)

  pub is-inline : (f : Bool) (kind : Kind) → sort_by f kind ≡ an_inline → is_inline kind ≡ true
  is-inline true kind e = absurd (cc)
  is-inline false of_kind.Inline e = refl
  is-inline false of_kind.Chars e = absurd (cc)
  is-inline false of_kind.Break e = absurd (cc)
  is-inline false _ e = absurd (cc)

  items-in : (n k : ℕ) (wide : ℤ) → IsIn wide k → AllByRecursion (ItemIn wide) (items_to n tree k)
  unfolding items_to
  items-in zero k wide i = tt
  items-in (suc n) k wide i = sort-in wide k (flat_map (items_to n tree) (kids_of tree.boxes k)) (sort_of tree k) refl i (λ e.
      each-in wide (items_to n tree) (kids_of tree.boxes k) (All-from (λ j. AllByRecursion (ItemIn wide) (items_to n tree j)) (kids_of tree.boxes k) (λ j c.
      items-in n j wide (record {
        page = IsOnPage.inside k j i.page c;
        room = room-by-parent tree w k j i.page c
            ∙ ap (λ (b : Bool). cond b (room tree w k) (widths tree w k (room tree w k)).content) (is-inline (is_floated_at tree k) (kind_of tree k) e)
            ∙ i.room;
      }))))

  pub content-items : (k : ℕ) (wide : ℤ) → IsSound tree w k wide → AllByRecursion (ItemIn (widths tree w k wide).content) (content tree k)
  content-items k wide s =
      let inner = (widths tree w k wide).content in
      each-in inner (items_to (length tree.boxes) tree) (kids_of tree.boxes k) (All-from (λ j. AllByRecursion (ItemIn inner) (items_to (length tree.boxes) tree j)) (kids_of tree.boxes k) (λ j c.
      items-in (length tree.boxes) j inner (record {
        page = IsOnPage.inside k j s.page c;
        room = room-by-parent tree w k j s.page c
            ∙ ap (λ (b : Bool). cond b (room tree w k) (widths tree w k (room tree w k)).content) s.block
            ∙ ap (λ (z : ℤ). (widths tree w k z).content) (sym s.room);
      })))

  -- which of them the table has
  abbrev pub IsClampedIn : List ℕ → Item → Type 0
  IsClampedIn all (atomic at) = Contains all at
  IsClampedIn all (float at) = Contains all at
  IsClampedIn all _ = Unit {0}

  pub clamped-in : (all : List ℕ) (items : List Item) → ((x : ℕ) → Contains (inner_items items) x → Contains all x) → AllByRecursion (IsClampedIn all) items
  clamped-in all [] f = tt
  clamped-in all (atomic at ∷ items) f = (f at (first_member _ refl), clamped-in all items (λ x a. f x (later_member _ a)))
  clamped-in all (float at ∷ items) f = (f at (first_member _ refl), clamped-in all items (λ x a. f x (later_member _ a)))
  clamped-in all (start at ∷ items) f = (tt, clamped-in all items f)
  clamped-in all (finish at ∷ items) f = (tt, clamped-in all items f)
  clamped-in all (word at text ∷ items) f = (tt, clamped-in all items f)
  clamped-in all (space at ∷ items) f = (tt, clamped-in all items f)
  clamped-in all (forced at ∷ items) f = (tt, clamped-in all items f)

  unfoldable pub IsNoInline : ℕ → Type 0
  IsNoInline k = sort_of tree k ≡ an_inline → ⊥

  pub no-inlines : (wide : ℤ) (items : List Item) → AllByRecursion (ItemIn wide) items → AllByRecursion IsNoInline (inner_items items)
  unfolding ItemIn IsNoInline
  no-inlines wide [] a = tt
  no-inlines wide (atomic at ∷ items) a = ((λ e. (let f = (a.0).1 in cc)), no-inlines wide items a.1)
  no-inlines wide (float at ∷ items) a = ((λ e. (let f = (a.0).1 in cc)), no-inlines wide items a.1)
  no-inlines wide (start at ∷ items) a = no-inlines wide items a.1
  no-inlines wide (finish at ∷ items) a = no-inlines wide items a.1
  no-inlines wide (word at text ∷ items) a = no-inlines wide items a.1
  no-inlines wide (space at ∷ items) a = no-inlines wide items a.1
  no-inlines wide (forced at ∷ items) a = no-inlines wide items a.1

  -- ---- boxes that are laid out whole

  abbrev floats_by : ℕ → Kind → Bool
  floats_by node of_kind.Float = true
  floats_by node of_kind.Replaced = option_map_or floats (slice_get tree.styles node) false
  floats_by node _ = false

  abbrev level_by : Bool → Kind → Bool
  level_by block_level of_kind.Inline = true
  level_by block_level of_kind.Chars = true
  level_by block_level of_kind.Break = true
  level_by block_level of_kind.Atomic = true
  level_by block_level of_kind.Replaced = not block_level
  level_by block_level _ = false

  abbrev kind_in : Option BoxNode → Kind
  kind_in o = option_map_or (λ (b : BoxNode). b.kind) o of_kind.Block

  -- a float, an atomic box, and any other box that is in no line
  pub float-whole : (k : ℕ) → is_floated_at tree k ≡ true → IsWhole tree k
  unfolding is_floated_at
  float-whole k e = by (slice_get tree.boxes k) e
    where
      of_box : (node : ℕ) (kind : Kind) → floats_by node kind ≡ true → is_fragmented kind ≡ false
      of_box node of_kind.Inline f = absurd (cc)
      of_box node of_kind.Chars f = absurd (cc)
      of_box node of_kind.Break f = absurd (cc)
      of_box node _ f = refl

      by : (o : Option BoxNode) → option_map_or (is_floated tree.styles) o false ≡ true → is_fragmented (kind_in o) ≡ false
      by None f = refl
      by (Some x) f = of_box x.node x.kind f

  pub flow-whole : (k : ℕ) → is_inline_level_at tree k ≡ false → IsWhole tree k
  unfolding is_floated_at is_inline_level_at
  flow-whole k e = by (slice_get tree.boxes k) e
    where
      of_box : (node : ℕ) (block_level : Bool) (kind : Kind) → (level_by block_level kind && not (floats_by node kind)) ≡ false → is_fragmented kind ≡ false
      of_box node block_level of_kind.Inline f = absurd (cc)
      of_box node block_level of_kind.Chars f = absurd (cc)
      of_box node block_level of_kind.Break f = absurd (cc)
      of_box node block_level _ f = refl

      by : (o : Option BoxNode) → (option_map_or is_inline_level o false && not (option_map_or (is_floated tree.styles) o false)) ≡ false → is_fragmented (kind_in o) ≡ false
      by None f = refl
      by (Some x) f = of_box x.node x.block_level x.kind f

  sort-whole : (f : Bool) (kind : Kind) → sort_by f kind ≡ an_atomic → is_fragmented kind ≡ false
  sort-whole true kind e = absurd (cc)
  sort-whole false of_kind.Inline e = absurd (cc)
  sort-whole false of_kind.Chars e = absurd (cc)
  sort-whole false of_kind.Break e = absurd (cc)
  sort-whole false _ e = refl

  pub inner-whole : (wide : ℤ) (items : List Item) → AllByRecursion (ItemIn wide) items → AllByRecursion (IsWhole tree) (inner_items items)
  unfolding ItemIn
  inner-whole wide [] a = tt
  inner-whole wide (atomic at ∷ items) a = (sort-whole (is_floated_at tree at) (kind_of tree at) (a.0).1, inner-whole wide items a.1)
  inner-whole wide (float at ∷ items) a = (float-whole at (sort-float (is_floated_at tree at) (kind_of tree at) (a.0).1), inner-whole wide items a.1)
  inner-whole wide (start at ∷ items) a = inner-whole wide items a.1
  inner-whole wide (finish at ∷ items) a = inner-whole wide items a.1
  inner-whole wide (word at text ∷ items) a = inner-whole wide items a.1
  inner-whole wide (space at ∷ items) a = inner-whole wide items a.1
  inner-whole wide (forced at ∷ items) a = inner-whole wide items a.1
