-- Anonymous block boxes: each holds an inline-level box, and between two of them in one box stands a block.
use Rattle.std.proofs.Common.{◌≡◌, ℕ, suc, ◌<◌, Bool, true, false, not, ◌==◌, ◌||◌, List, [], ◌∷◌, map, Contains, Option, Some, None, is_some, slice_get, refl, sym, ◌∙◌, ap, subst, arith, ◌⊎◌, inl, inr, if◌then◌else◌, eqb-true, eq-eqb, ne_eqb, nat_lt, ltb-true, ltb-false, eq-or-lt_of_le, filter}
use Rattle.std.proofs.lemmas.Bool.{not-true}
use Rattle.std.specs.List.{list_any}
use Rattle.std.specs.Option.{option_map_or}
use Rattle.viz_base.specs.Pages.{IsPage, is_break, is_replaced}
use Rattle.viz_base.specs.Trees.{floats, is_anon, is_floated, is_inline_level}
use Rattle.viz_base.specs.declared.nodes.Body.{Body}
use Rattle.viz_base.specs.declared.nodes.Body.TheVariants as of_body
use Rattle.viz_base.specs.declared.nodes.Node.{Node}
use Rattle.viz_base.specs.declared.styles.Side.{Side}
use Rattle.viz_base.specs.declared.styles.Style.{Style}
use Rattle.viz_base.specs.declared.trees.BoxNode.{BoxNode}
use Rattle.viz_base.specs.declared.trees.Kind.{Kind}
use Rattle.viz_base.specs.declared.trees.Kind.TheVariants as of_kind
use Rattle.viz_base.proofs.ListLemmas.{in_flat_map, rises_from, later_member}
use Rattle.viz_base.specs.Orders.{Rises}
use Rattle.layout_semantics.specs.Parts.{Part, Level, kind_of_node, level_kind, level_of, style_level, display_level}
use Rattle.layout_semantics.specs.WhiteSpace.{is_in}
use Rattle.layout_semantics.specs.BoxTrees.{Item, boxes_before, begins_run, own_place, first_of, has_node, nodes_of, kid_place, kid_places, items_in, items_of, own_box, run_around, parts_in, runs_of, wrapped_in, with_part, needs_box, is_block_part, is_block_level, is_floated_level, page_parts, page_boxes, tree_styles}
use Rattle.layout_laws.specs.Apart.{IsBlockBetween}
use Rattle.layout_laws.proofs.Members.{from_map, to_map, from_filter, to_filter, from_flat_map, from_one_if, rises_filter, any_in, unique_in, no_member, first_member, first_or_later, only_member, by_member}
use Rattle.layout_laws.proofs.Places.{node_of}
use Rattle.layout_laws.proofs.Kids.{IsMember, order, own_box_at, own_place_from, own_place_within}
use Rattle.layout_laws.proofs.Nesting.{IsBoxOf, count_least}
use Rattle.layout_laws.proofs.Runs.{found_in, from_runs, is_in_some, run_parent}
use Rattle.layout_laws.proofs.PageParts.{page_rises}
use Rattle.layout_laws.proofs.BoxLaws.{page_arranged}
use Rattle.layout_laws.proofs.BoxFacts.{item_known, item_part, no_anon, page_box_is}
use Rattle.layout_laws.proofs.Sorts.{own_inline_level, run_in, run_no_block}

-- ---- runs in order

-- one list stands before another in a list of lists
data Before {A : Type 0} (r s : List A) : List (List A) → Type 0 where
  first : {rest : List (List A)} → Contains rest s → Before r s (r ∷ rest)
  later : {q : List A} {rest : List (List A)} → Before r s rest → Before r s (q ∷ rest)

before_or : {A : Type 0} (runs : List (List A)) (r s : List A) → Contains runs r → Contains runs s → (r ≡ s) ⊎ (Before r s runs ⊎ Before s r runs)
before_or [] r s i j = no_member i
before_or (q ∷ runs) r s i j = by_places (first_or_later q runs r i) (first_or_later q runs s j) (λ h k. before_or runs r s h k)
  where
    by_rest : (r ≡ s) ⊎ (Before r s runs ⊎ Before s r runs) → (r ≡ s) ⊎ (Before r s (q ∷ runs) ⊎ Before s r (q ∷ runs))
    by_rest (inl e) = inl e
    by_rest (inr (inl b)) = inr (inl (Before.later b))
    by_rest (inr (inr b)) = inr (inr (Before.later b))

    by_places : (q ≡ r) ⊎ Contains runs r → (q ≡ s) ⊎ Contains runs s → (Contains runs r → Contains runs s → (r ≡ s) ⊎ (Before r s runs ⊎ Before s r runs)) → (r ≡ s) ⊎ (Before r s (q ∷ runs) ⊎ Before s r (q ∷ runs))
    by_places (inl e) (inl f) again = inl (sym e ∙ f)
    by_places (inl e) (inr k) again = inr (inl (subst (λ t. Before t s (q ∷ runs)) e (Before.first k)))
    by_places (inr h) (inl f) again = inr (inr (subst (λ t. Before t r (q ∷ runs)) f (Before.first h)))
    by_places (inr h) (inr k) again = by_rest (again h k)

-- a block between two parts
record IsBetween (kids : List Part) (low high : ℕ) : Type 0 where
  part : Part
  inside : Contains kids part
  block : is_block_level part.level ≡ true
  above : low < part.node
  below : part.node < high

between_later : (p : Part) (ps : List Part) (low high : ℕ) → IsBetween ps low high → IsBetween (p ∷ ps) low high
between_later p ps low high b = record { part = b.part; inside = later_member _ b.inside; block = b.block; above = b.above; below = b.below }

-- between the parts of the first run and those of any later one
abbrev FirstApart : List Part → List (List Part) → Type 0
FirstApart kids [] = Unit {0}
FirstApart kids (r ∷ rest) = (s : List Part) (b : Part) → Contains rest s → Contains s b → (z : Part) × Contains kids z × (is_block_level z.level ≡ true) × (z.node < b.node) × ((a : Part) → Contains r a → a.node < z.node)

first_apart : (kids : List Part) (low : ℕ) → Rises low (map (λ (p : Part). p.node) kids) → FirstApart kids (runs_of kids)
first_apart [] low rise = λ s b i j. absurd (none s i)
  where
    none : (s : List Part) → Contains [] s → ⊥
    none s i = no_member i
first_apart (p ∷ ps) low rise = by_level p.level refl (runs_of ps) (first_apart ps (suc p.node) rise.1) (λ s b i j. from_runs ps s b i j)
  where
    after : (z : Part) → Contains ps z → p.node < z.node
    after z i = rises_from (suc p.node) (map (λ (p : Part). p.node) ps) z.node rise.1 (to_map (λ (p : Part). p.node) ps z i)

    none_in : (a : Part) (z : Part) → Contains [] a → a.node < z.node
    none_in a z i = no_member i

    no_run : (s : List Part) → Contains [] s → ⊥
    no_run s i = no_member i

    longer : (q : List Part) (z : Part) → Contains ps z → ((a : Part) → Contains q a → a.node < z.node) → (a : Part) → Contains (p ∷ q) a → a.node < z.node
    longer q z i below a k = by_member (λ (b : Part). b.node < z.node) p q a k (after z i) (λ j. below a j)

    by_level : (l : Level) → p.level ≡ l → (runs : List (List Part)) → FirstApart ps runs → ((s : List Part) (b : Part) → Contains runs s → Contains s b → Contains ps b) → FirstApart (p ∷ ps) (with_part l p runs)
    by_level Level.block e runs again within = λ s b i j. (p, first_member _ refl, ap is_block_level e, after b (within s b i j), λ a k. none_in a p k)
    by_level Level.floated e [] again within = λ s b i j. absurd (no_run s i)
    by_level Level.floated e (q ∷ runs) again within = λ s b i j. let f = again s b i j in (f.0, later_member _ f.1, f.2, f.3, longer q f.0 f.1 f.4)
    by_level Level.inline e [] again within = λ s b i j. absurd (no_run s i)
    by_level Level.inline e (q ∷ runs) again within = λ s b i j. let f = again s b i j in (f.0, later_member _ f.1, f.2, f.3, longer q f.0 f.1 f.4)

-- between the parts of a run and those of a later one
apart : (kids : List Part) (low : ℕ) → Rises low (map (λ (p : Part). p.node) kids) → (r s : List Part) → Before r s (runs_of kids) → (a b : Part) → Contains r a → Contains s b → IsBetween kids a.node b.node
apart [] low rise _ s (Before.first i) a b j k = no_member i
apart [] low rise r s (Before.later h) a b j k = elim h [ ]
apart (p ∷ ps) low rise r s h a b j k = by_level p.level (runs_of ps) (first_apart (p ∷ ps) low rise) r s h (λ h. apart ps (suc p.node) rise.1 r s h a b j k) j k
  where
    none_in : {A : Type 0} {a : Part} → Contains [] a → A
    none_in i = no_member i

    no_run : {A : Type 0} {s : List Part} → Contains [] s → A
    no_run i = no_member i

    no_before : {A : Type 0} {r s : List Part} → Before r s [] → A
    no_before h = elim h [ ]

    from_first : (q : List Part) (runs : List (List Part)) → FirstApart (p ∷ ps) (q ∷ runs) → (s : List Part) (a b : Part) → Contains runs s → Contains q a → Contains s b → IsBetween (p ∷ ps) a.node b.node
    from_first q runs f s a b i j k = let z = f s b i k in record { part = z.0; inside = z.1; block = z.2; above = z.4 a j; below = z.3 }

    by_level : (l : Level) (runs : List (List Part)) → FirstApart (p ∷ ps) (with_part l p runs) → (r s : List Part) → Before r s (with_part l p runs) → (Before r s runs → IsBetween ps a.node b.node) → Contains r a → Contains s b → IsBetween (p ∷ ps) a.node b.node
    by_level Level.block runs f _ s (Before.first i) again j k = none_in j
    by_level Level.block runs f r s (Before.later h) again j k = between_later p ps a.node b.node (again h)
    by_level Level.floated [] f _ s (Before.first i) again j k = no_run i
    by_level Level.floated [] f r s (Before.later h) again j k = no_before h
    by_level Level.floated (q ∷ runs) f _ s (Before.first i) again j k = from_first (p ∷ q) runs f s a b i j k
    by_level Level.floated (q ∷ runs) f r s (Before.later h) again j k = between_later p ps a.node b.node (again (Before.later h))
    by_level Level.inline [] f _ s (Before.first i) again j k = no_run i
    by_level Level.inline [] f r s (Before.later h) again j k = no_before h
    by_level Level.inline (q ∷ runs) f _ s (Before.first i) again j k = from_first (p ∷ q) runs f s a b i j k
    by_level Level.inline (q ∷ runs) f r s (Before.later h) again j k = between_later p ps a.node b.node (again (Before.later h))

-- ---- blocks do not float

style_blocks : (s : Style) → is_block_level (style_level s) ≡ true → floats s ≡ false
style_blocks s e = by_float s.float e
  where
    by_float : (o : Option Side) → is_block_level (option_map_or (λ side. Level.floated) o (display_level s.display)) ≡ true → is_some o ≡ false
    by_float None e = refl
    by_float (Some side) e = absurd (cc)

level_blocks : (body : Body) (s : Style) → is_block_level (level_of false body s) ≡ true → floats s ≡ false
level_blocks (of_body.Chars text) s e = absurd (cc)
level_blocks (of_body.Element element) s e = by_break (is_break (of_body.Element element)) e
  where
    by_break : (b : Bool) → is_block_level (if b then Level.inline else style_level s) ≡ true → floats s ≡ false
    by_break true e = absurd (cc)
    by_break false e = style_blocks s e

block_stays : (styles : List Style) (c : BoxNode) (l : Level) (body : Body) (s : Style) → slice_get styles c.node ≡ Some s → is_block_level l ≡ true → floats s ≡ false
    → c.kind ≡ (if is_replaced body then of_kind.Replaced else level_kind l body s.display) → is_floated styles c ≡ false
block_stays styles c Level.floated body s e b f k = absurd (cc)
block_stays styles c Level.inline body s e b f k = absurd (cc)
block_stays styles c Level.block body s e b f k = subst (λ (kind : Kind). is_floated styles (record c { kind = kind }) ≡ false) (sym k) (by_replaced (is_replaced body))
  where
    by_replaced : (r : Bool) → is_floated styles (record c { kind = if r then of_kind.Replaced else of_kind.Block }) ≡ false
    by_replaced true = ap (λ (o : Option Style). option_map_or floats o false) e ∙ f
    by_replaced false = refl

-- ---- anonymous blocks of a page

-- a kid that is an anonymous block box
record IsAnonymousKid (items : List Item) (n k : ℕ) : Type 0 where
  item : Item
  inside : Contains items item
  parent : item.part.parent ≡ Some n
  run : List ℕ
  run_is : item.run ≡ Some run
  begins : (first_of run == node_of item) ≡ true
  place : k ≡ boxes_before items (node_of item)

module _ (nodes : List Node) (styles : List Style) (page : IsPage nodes) where
  own_not_anonymous : (x : Item) → Contains (items_of (page_parts nodes styles)) x → is_anon x.part.kind ≡ false
  own_not_anonymous x i = let k = item_known nodes styles page x i in ap (λ (p : Part). is_anon p.kind) k.is ∙ no_anon k.entry.body (x.part.node == 0) k.style

  anonymous_by_run : (n : ℕ) (p : Part) (run : Option (List ℕ)) (k : ℕ) (c : BoxNode) → Contains (items_of (page_parts nodes styles)) (record { part = p; run = run }) → p.parent ≡ Some n → Contains (kid_place (items_of (page_parts nodes styles)) (record { part = p; run = run })) k
      → slice_get (page_boxes nodes styles) k ≡ Some c → is_anon c.kind ≡ true → IsAnonymousKid (items_of (page_parts nodes styles)) n k
  anonymous_by_run n p None k c i e j f a =
      let there = only_member (own_place (items_of (page_parts nodes styles)) p.node) k j in
      let own = ap (slice_get (page_boxes nodes styles)) (sym there) ∙ own_box_at (items_of (page_parts nodes styles)) (page_arranged nodes styles page) (record { part = p; run = None }) i in
      let same : own_box (items_of (page_parts nodes styles)) (record { part = p; run = None }) ≡ c = some_same (sym own ∙ f) in
      let kind : is_anon p.kind ≡ is_anon c.kind = ap (λ (b : BoxNode). is_anon b.kind) same in
      let not_anon = own_not_anonymous (record { part = p; run = None }) i in
      absurd (cc)
    where
      some_same : {x y : BoxNode} → Some x ≡ Some y → x ≡ y
      some_same e = cc
  anonymous_by_run n p (Some run) k c i e j f a =
      let here = from_one_if (first_of run == p.node) (boxes_before (items_of (page_parts nodes styles)) p.node) k j in
      record { item = record { part = p; run = Some run }; inside = i; parent = e; run = run; run_is = refl; begins = here.1; place = here.0 }

  anonymous_kid : (n k : ℕ) (c : BoxNode) → Contains (kid_places (items_of (page_parts nodes styles)) n) k → slice_get (page_boxes nodes styles) k ≡ Some c → is_anon c.kind ≡ true → IsAnonymousKid (items_of (page_parts nodes styles)) n k
  anonymous_kid n k c j f a =
      let from = from_flat_map (kid_place (items_of (page_parts nodes styles))) (items_in (items_of (page_parts nodes styles)) n) k j in
      let y = from_filter (λ (item : Item). is_in n item.part.parent) (items_of (page_parts nodes styles)) from.0 from.1 in
      anonymous_by_run n from.0.part from.0.run k c y.0 (is_in_some n from.0.part.parent y.1) from.2 f a

  -- the list of parts that a run is
  parts_run : (x : Item) (n : ℕ) (run : List ℕ) → Contains (items_of (page_parts nodes styles)) x → x.part.parent ≡ Some n → x.run ≡ Some run
      → (r : List Part) × Contains (wrapped_in (parts_in (page_parts nodes styles) n)) r × (nodes_of r ≡ run)
  parts_run x n run i up e =
      let f = found_in (has_node (node_of x)) (map nodes_of (wrapped_in (parts_in (page_parts nodes styles) n))) run (sym (run_in nodes styles page x n i up) ∙ e) in
      from_map nodes_of (wrapped_in (parts_in (page_parts nodes styles) n)) run f.0

  of_runs : (kids : List Part) (r : List Part) → Contains (wrapped_in kids) r → Contains (runs_of kids) r × (needs_box r ≡ true)
  of_runs kids r i = by_test (list_any is_block_part kids) i
    where
      by_test : (b : Bool) → Contains (if b then filter needs_box (runs_of kids) else []) r → Contains (runs_of kids) r × (needs_box r ≡ true)
      by_test true i = from_filter needs_box (runs_of kids) r i
      by_test false i = no_member i

  -- the part with which a run begins
  first_part : (n k : ℕ) (kid : IsAnonymousKid (items_of (page_parts nodes styles)) n k) (r : List Part) → nodes_of r ≡ kid.run → (a : Part) × Contains r a × (a.node ≡ node_of kid.item)
  first_part n k kid r e =
      let known = (page_arranged nodes styles page).runs kid.item kid.run kid.inside kid.run_is in
      let from = from_map (λ (p : Part). p.node) r (first_of kid.run) (subst (λ l. Contains l (first_of kid.run)) (sym e) known.first_in) in
      (from.0, from.1, from.2 ∙ eqb-true (first_of kid.run) (node_of kid.item) kid.begins)

  kids_order : (n k l : ℕ) (a : IsAnonymousKid (items_of (page_parts nodes styles)) n k) (b : IsAnonymousKid (items_of (page_parts nodes styles)) n l) → k < l → node_of a.item < node_of b.item
  kids_order n k l a b less = by_order (nat_lt (node_of a.item) (node_of b.item)) refl
    where
      by_order : (t : Bool) → nat_lt (node_of a.item) (node_of b.item) ≡ t → node_of a.item < node_of b.item
      by_order true e = ltb-true (node_of a.item) (node_of b.item) e
      by_order false e = by_place (eq-or-lt_of_le (ltb-false (node_of a.item) (node_of b.item) e))
        where
          by_place : (node_of b.item ≡ node_of a.item) ⊎ (node_of b.item < node_of a.item) → node_of a.item < node_of b.item
          by_place (inl same) = absurd (let places = ap (boxes_before (items_of (page_parts nodes styles))) same in let p = a.place in let q = b.place in omega (arith, places, p, q, less))
          by_place (inr below) = absurd (let o = order (items_of (page_parts nodes styles)) (page_arranged nodes styles page) b.item a.item b.inside a.inside below in let p = a.place in let q = b.place in omega (arith, o, p, q, less))

  block_between : (n k l : ℕ) (a : IsAnonymousKid (items_of (page_parts nodes styles)) n k) (b : IsAnonymousKid (items_of (page_parts nodes styles)) n l) → k < l → IsBetween (parts_in (page_parts nodes styles) n) (node_of a.item) (node_of b.item)
  block_between n k l a b less =
      let kids = parts_in (page_parts nodes styles) n in
      let rising = rises_filter (λ (p : Part). p.node) (λ (p : Part). is_in n p.parent) 0 (page_parts nodes styles) (page_rises nodes (tree_styles nodes styles)) in
      let r = parts_run a.item n a.run a.inside a.parent a.run_is in
      let s = parts_run b.item n b.run b.inside b.parent b.run_is in
      let p = first_part n k a r.0 r.2 in
      let q = first_part n l b s.0 s.2 in
      by_place r.0 s.0 r.2 s.2 p q rising (before_or (runs_of kids) r.0 s.0 (of_runs kids r.0 r.1).0 (of_runs kids s.0 s.1).0)
    where
      by_place : (r s : List Part) → nodes_of r ≡ a.run → nodes_of s ≡ b.run → (p : (z : Part) × Contains r z × (z.node ≡ node_of a.item)) → (q : (z : Part) × Contains s z × (z.node ≡ node_of b.item))
          → Rises 0 (map (λ (p : Part). p.node) (parts_in (page_parts nodes styles) n))
          → (r ≡ s) ⊎ (Before r s (runs_of (parts_in (page_parts nodes styles) n)) ⊎ Before s r (runs_of (parts_in (page_parts nodes styles) n))) → IsBetween (parts_in (page_parts nodes styles) n) (node_of a.item) (node_of b.item)
      by_place r s e f p q rising (inl same) =
          let runs : a.run ≡ b.run = sym e ∙ (ap nodes_of same ∙ f) in
          let firsts = ap first_of runs in
          let node_a = eqb-true (first_of a.run) (node_of a.item) a.begins in
          let node_b = eqb-true (first_of b.run) (node_of b.item) b.begins in
          let o = kids_order n k l a b less in
          absurd (omega (arith, firsts, node_a, node_b, o))
      by_place r s e f p q rising (inr (inl before)) =
          let z = apart (parts_in (page_parts nodes styles) n) 0 rising r s before p.0 q.0 p.1 q.1 in
          record { part = z.part; inside = z.inside; block = z.block; above = subst (λ m. m < z.part.node) p.2 z.above; below = subst (λ m. z.part.node < m) q.2 z.below }
      by_place r s e f p q rising (inr (inr before)) =
          let z = apart (parts_in (page_parts nodes styles) n) 0 rising s r before q.0 p.0 q.1 p.1 in
          let above = z.above in
          let below = z.below in
          let node_a = p.2 in
          let node_b = q.2 in
          let o = kids_order n k l a b less in
          absurd (omega (arith, above, below, node_a, node_b, o))

module _ (nodes : List Node) (styles : List Style) (page : IsPage nodes) where
  own_kid : (p : Part) (o : Option (List ℕ)) → o ≡ None → Contains (kid_place (items_of (page_parts nodes styles)) (record { part = p; run = o })) (own_place (items_of (page_parts nodes styles)) p.node)
  own_kid p None e = first_member [] refl
  own_kid p (Some run) e = absurd (cc)

  no_run : (x : Item) → Contains (items_of (page_parts nodes styles)) x → is_block_level x.part.level ≡ true → x.run ≡ None
  no_run x i block = by_run x.run refl
    where
      by_run : (o : Option (List ℕ)) → x.run ≡ o → o ≡ None
      by_run None e = refl
      by_run (Some run) e = absurd (let n = run_no_block nodes styles page x run i e in cc)

  -- the box of a block in normal flow in an element does not float
  block_box : (n : ℕ) (x : Item) → Contains (items_of (page_parts nodes styles)) x → x.part.parent ≡ Some n → is_block_level x.part.level ≡ true → is_floated (tree_styles nodes styles) (own_box (items_of (page_parts nodes styles)) x) ≡ false
  block_box n x i up block =
      let known = item_known nodes styles page x i in
      let parent = (page_arranged nodes styles page).parents x n i up in
      let below = parent.before in
      let not_root : (x.part.node == 0) ≡ false = ne_eqb x.part.node 0 (λ e. omega (arith, below, e)) in
      let level : x.part.level ≡ level_of false known.entry.body known.style = ap (λ (p : Part). p.level) known.is ∙ ap (λ (t : Bool). level_of t known.entry.body known.style) not_root in
      let kind : x.part.kind ≡ kind_of_node false known.entry.body known.style = ap (λ (p : Part). p.kind) known.is ∙ ap (λ (t : Bool). kind_of_node t known.entry.body known.style) not_root in
      let stands : floats known.style ≡ false = level_blocks known.entry.body known.style (ap is_block_level (sym level) ∙ block) in
      block_stays (tree_styles nodes styles) (own_box (items_of (page_parts nodes styles)) x) x.part.level known.entry.body known.style known.style_is block stands
      (kind ∙ ap (λ (l : Level). if is_replaced known.entry.body then of_kind.Replaced else level_kind l known.entry.body known.style.display) (sym level))

  block_at : (n k l : ℕ) (a : IsAnonymousKid (items_of (page_parts nodes styles)) n k) (b : IsAnonymousKid (items_of (page_parts nodes styles)) n l) (x : Item)
      → Contains (items_of (page_parts nodes styles)) x → x.part.parent ≡ Some n → is_block_level x.part.level ≡ true → node_of a.item < node_of x → node_of x < node_of b.item
      → IsBlockBetween (tree_styles nodes styles) (page_boxes nodes styles) (kid_places (items_of (page_parts nodes styles)) n) k l
  block_at n k l a b x i up block low high =
      let first = order (items_of (page_parts nodes styles)) (page_arranged nodes styles page) a.item x a.inside i low in
      let second = order (items_of (page_parts nodes styles)) (page_arranged nodes styles page) x b.item i b.inside high in
      let from = own_place_from (items_of (page_parts nodes styles)) (page_arranged nodes styles page) x i in
      let within = own_place_within (items_of (page_parts nodes styles)) (page_arranged nodes styles page) x i in
      let least = count_least (begins_run a.item) in
      let here = a.place in
      let there = b.place in
      record {
        place = own_place (items_of (page_parts nodes styles)) (node_of x);
        box = own_box (items_of (page_parts nodes styles)) x;
        inside = in_flat_map (kid_place (items_of (page_parts nodes styles))) (items_in (items_of (page_parts nodes styles)) n) x (own_place (items_of (page_parts nodes styles)) (node_of x))
            (to_filter (λ (item : Item). is_in n item.part.parent) (items_of (page_parts nodes styles)) x i (ap (is_in n) up ∙ eq-eqb n n refl)) (own_kid x.part x.run (no_run x i block));
        is = own_box_at (items_of (page_parts nodes styles)) (page_arranged nodes styles page) x i;
        above = omega (arith, first, from, least, here);
        below = omega (arith, second, within, there);
        block = ap (λ b. b || is_floated_level x.part.level) block;
        not_anonymous = own_not_anonymous nodes styles page x i;
        not_floated = block_box n x i up block;
      }

  block_kid : (n k l : ℕ) (a : IsAnonymousKid (items_of (page_parts nodes styles)) n k) (b : IsAnonymousKid (items_of (page_parts nodes styles)) n l)
      → IsBetween (parts_in (page_parts nodes styles) n) (node_of a.item) (node_of b.item)
      → IsBlockBetween (tree_styles nodes styles) (page_boxes nodes styles) (kid_places (items_of (page_parts nodes styles)) n) k l
  block_kid n k l a b z =
      let part = from_filter (λ (p : Part). is_in n p.parent) (page_parts nodes styles) z.part z.inside in
      let i = to_map (λ p. record { part = p; run = run_around (page_parts nodes styles) p }) (page_parts nodes styles) z.part part.0 in
      block_at n k l a b (record { part = z.part; run = run_around (page_parts nodes styles) z.part }) i (is_in_some n z.part.parent part.1) z.block z.above z.below

  pub between : (at k l : ℕ) (b c d : BoxNode) → slice_get (page_boxes nodes styles) at ≡ Some b → k < l → Contains b.kids k → Contains b.kids l → slice_get (page_boxes nodes styles) k ≡ Some c → slice_get (page_boxes nodes styles) l ≡ Some d
      → is_anon c.kind ≡ true → is_anon d.kind ≡ true → IsBlockBetween (tree_styles nodes styles) (page_boxes nodes styles) b.kids k l
  between at k l b c d e less h g f q anon_c anon_d = by_box (page_box_is nodes styles page at b e)
    where
      by_box : IsBoxOf (items_of (page_parts nodes styles)) at b → IsBlockBetween (tree_styles nodes styles) (page_boxes nodes styles) b.kids k l
      by_box (IsBoxOf.own x i p s) =
          let kids = ap (λ (c : BoxNode). c.kids) s in
          let first = anonymous_kid nodes styles page (node_of x) k c (subst (λ ks. Contains ks k) kids h) f anon_c in
          let second = anonymous_kid nodes styles page (node_of x) l d (subst (λ ks. Contains ks l) kids g) q anon_d in
          subst (λ ks. IsBlockBetween (tree_styles nodes styles) (page_boxes nodes styles) ks k l) (sym kids)
          (block_kid (node_of x) k l first second (block_between nodes styles page (node_of x) k l first second less))
      by_box (IsBoxOf.anonymous x run i r t p s) =
          let arranged = page_arranged nodes styles page in
          let from = from_map (own_place (items_of (page_parts nodes styles))) run k (subst (λ ks. Contains ks k) (ap (λ (c : BoxNode). c.kids) s) h) in
          let m = (arranged.runs x run i r).members from.0 from.1 in
          let place : own_place (items_of (page_parts nodes styles)) (node_of m.item) ≡ k = ap (own_place (items_of (page_parts nodes styles))) m.node ∙ from.2 in
          let own = ap (slice_get (page_boxes nodes styles)) (sym place) ∙ own_box_at (items_of (page_parts nodes styles)) arranged m.item m.inside in
          let same : own_box (items_of (page_parts nodes styles)) m.item ≡ c = some_same (sym own ∙ f) in
          let kind : is_anon m.item.part.kind ≡ is_anon c.kind = ap (λ (b : BoxNode). is_anon b.kind) same in
          let not_anon = own_not_anonymous nodes styles page m.item m.inside in
          absurd (cc)
        where
          some_same : {x y : BoxNode} → Some x ≡ Some y → x ≡ y
          some_same e = cc

  -- a part of a run that does not float is the part of an item of that run
  member_part : (m : Item) (q : ℕ) (r : List Part) (z : Part) → Contains (items_of (page_parts nodes styles)) m → Contains (runs_of (parts_in (page_parts nodes styles) q)) r → Contains r z → node_of m ≡ z.node → m.part ≡ z
  member_part m q r z i runs j e =
      let kid = from_filter (λ (p : Part). is_in q p.parent) (page_parts nodes styles) z (from_runs (parts_in (page_parts nodes styles) q) r z runs j) in
      unique_in (λ (p : Part). p.node) 0 (page_parts nodes styles) m.part z (page_rises nodes (tree_styles nodes styles)) (item_part (page_parts nodes styles) m i) kid.0 e

  inline_member : (run : List ℕ) (q : ℕ) (r : List Part) (z : Part) (m : IsMember (items_of (page_parts nodes styles)) run z.node) → Contains (runs_of (parts_in (page_parts nodes styles) q)) r → Contains r z → is_floated_level z.level ≡ false
      → (slice_get (page_boxes nodes styles) (own_place (items_of (page_parts nodes styles)) z.node) ≡ Some (own_box (items_of (page_parts nodes styles)) m.item)) × (is_inline_level (own_box (items_of (page_parts nodes styles)) m.item) ≡ true)
  inline_member run q r z m runs j f =
      let same = member_part m.item q r z m.inside runs j m.node in (
        ap (λ n. slice_get (page_boxes nodes styles) (own_place (items_of (page_parts nodes styles)) n)) (sym m.node) ∙ own_box_at (items_of (page_parts nodes styles)) (page_arranged nodes styles page) m.item m.inside,
        own_inline_level nodes styles page m.item m.inside (run_no_block nodes styles page m.item run m.inside m.run_is) (ap (λ (p : Part). is_floated_level p.level) same ∙ f),
      )

  inline_in_run : (x : Item) (run : List ℕ) (q : ℕ) → Contains (items_of (page_parts nodes styles)) x → x.run ≡ Some run → x.part.parent ≡ Some q
      → (k : ℕ) × (c : BoxNode) × Contains (map (own_place (items_of (page_parts nodes styles))) run) k × (slice_get (page_boxes nodes styles) k ≡ Some c) × (is_inline_level c ≡ true)
  inline_in_run x run q i r up =
      let list = parts_run nodes styles page x q run i up r in
      let needs = of_runs nodes styles page (parts_in (page_parts nodes styles) q) list.0 list.1 in
      let z = any_in (λ (p : Part). not (is_floated_level p.level)) list.0 needs.1 in
      let in_run : Contains run z.0.node = subst (λ l. Contains l z.0.node) list.2 (to_map (λ (p : Part). p.node) list.0 z.0 z.1) in
      let m = ((page_arranged nodes styles page).runs x run i r).members z.0.node in_run in
      let here = inline_member run q list.0 z.0 m needs.0 z.1 (not-true (is_floated_level z.0.level) z.2) in
      (own_place (items_of (page_parts nodes styles)) z.0.node, own_box (items_of (page_parts nodes styles)) m.item, to_map (own_place (items_of (page_parts nodes styles))) run z.0.node in_run, here.0, here.1)

  -- an anonymous block box holds an inline-level box
  pub holds_inline_level : (at : ℕ) (b : BoxNode) → slice_get (page_boxes nodes styles) at ≡ Some b → is_anon b.kind ≡ true → (k : ℕ) × (c : BoxNode) × Contains b.kids k × (slice_get (page_boxes nodes styles) k ≡ Some c) × (is_inline_level c ≡ true)
  holds_inline_level at b e a = by_box (page_box_is nodes styles page at b e)
    where
      by_box : IsBoxOf (items_of (page_parts nodes styles)) at b → (k : ℕ) × (c : BoxNode) × Contains b.kids k × (slice_get (page_boxes nodes styles) k ≡ Some c) × (is_inline_level c ≡ true)
      by_box (IsBoxOf.own x i p s) =
          let kind : is_anon x.part.kind ≡ is_anon b.kind = ap (λ (c : BoxNode). is_anon c.kind) (sym s) in
          let not_anon = own_not_anonymous nodes styles page x i in
          absurd (cc)
      by_box (IsBoxOf.anonymous x run i r t p s) =
          let up = run_parent (page_parts nodes styles) x run i r in
          let f = inline_in_run x run up.0 i r up.1 in
          (f.0, f.1, subst (λ (c : BoxNode). Contains c.kids f.0) (sym s) f.2, f.3, f.4)
