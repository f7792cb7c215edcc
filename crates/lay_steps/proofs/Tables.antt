-- The table of boxes outside the flow holds each of them as it is laid out; with it the steps of a page are its rendering.
use Rattle.std.proofs.Common.{◌≡◌, ◌≢◌, ℕ, zero, suc, ◌+◌, ◌-◌, ◌<◌, ◌≤◌, inl, inr, ◌*◌, ℤ, pos, Bool, true, false, Contains, List, [], ◌∷◌, filter, fold, length, replicate, set, Option, None, Some, refl, sym, ap, ◌∙◌, subst, arith}
use Rattle.std.specs.Prelude.{unwrap_or}
use Rattle.std.specs.List.{AllByRecursion}
use Rattle.std.specs.Option.{option_map_or}
use Rattle.std.proofs.lemmas.Bool.{cases_eq}
use Rattle.std.proofs.lemmas.List.{get_or-set_same, get_or-set_other, length-set, length-replicate}
use Rattle.viz_base.specs.Trees.{is_inline}
use Rattle.viz_base.specs.declared.renderings.Placed.{Placed}
use Rattle.viz_base.specs.declared.renderings.Rendering.{Rendering}
use Rattle.viz_base.specs.declared.trees.BoxNode.{BoxNode}
use Rattle.viz_base.specs.declared.trees.BoxTree.{BoxTree}
use Rattle.viz_base.specs.declared.worlds.World.{World}
use Rattle.layout_semantics.specs.Blocks.{kind_of}
use Rattle.layout_semantics.specs.Order.{roots, IsOnPage}
use Rattle.layout_semantics.specs.FlowBoxes.{flow_children, room, room_inside, room_to}
use Rattle.layout_semantics.specs.InlineContent.{is_floated_at, has_line, inner_boxes}
use Rattle.layout_semantics.specs.Flow as landed
use Rattle.layout_semantics.specs.Flow.{Independent, Progress}
use Rattle.layout_semantics.specs.Page.{page_rendering}
use Rattle.layout_semantics.proofs.Pages.{forest, root-alone, within-page}
use Rattle.layout_laws.proofs.Greatest.{filter-implied}
use Rattle.layout_laws.proofs.Levels.{IsFrom, All-implied, inner_boxes-from}
use Rattle.layout_laws.proofs.LeadLevels.{children-from}
use Rattle.layout_laws.proofs.FlowLevels.{flow-is}
use Rattle.lay_steps.specs.Flow.{content_to, independent_of}
use Rattle.lay_steps.specs.Progress.{context_of}
use Rattle.lay_steps.specs.Tables.{outside_of, nothing_independent, laid_at, with_box, with_container, table_to, page_boxes}
use Rattle.lay_steps.proofs.InOrder.{root_no_inline, box_before}
use Rattle.lay_steps.proofs.Sound.{IsSound, inner_boxes-sound, flow-sound}
use Rattle.lay_steps.proofs.TopStays.{top-free}
use Rattle.lay_steps.proofs.FlowSteps.{Follows, band_in, independent-same, step-agrees}

-- ---- boxes of the page, and outside a flow

-- of the boxes outside the flow of a box, by its lines or by its blocks
outside-by : (tree : BoxTree) (b : ℕ) (P : ℕ → Type 0) → AllByRecursion P (inner_boxes tree b) → AllByRecursion P (flow_children tree b) → AllByRecursion P (outside_of tree b)
outside-by tree b P inner flow = by (has_line tree b)
  where
    by : (l : Bool) → AllByRecursion P (elim l as (λ _. List ℕ) [ true ↦ inner_boxes tree b | false ↦ filter (is_floated_at tree) (flow_children tree b) ])
    by true = inner
    by false = filter-implied P P (is_floated_at tree) (flow_children tree b) (λ k h t. h) flow

outside-later : (tree : BoxTree) (b : ℕ) → AllByRecursion (IsFrom tree.boxes (suc b)) (outside_of tree b)
outside-later tree b = outside-by tree b (IsFrom tree.boxes (suc b)) (inner_boxes-from tree b (forest tree)) (children-from tree b)

pub outside-within : (tree : BoxTree) (b : ℕ) → AllByRecursion (λ k. k < length tree.boxes) (outside_of tree b)
outside-within tree b = All-implied (IsFrom tree.boxes (suc b)) (λ k. k < length tree.boxes) (outside_of tree b) (λ k f. f.within) (outside-later tree b)

-- ---- one place of a table

laid-same : (table : List (Option Independent)) (k : ℕ) (a : Independent) → k < length table → laid_at (set table k (Some a)) k ≡ a
laid-same table k a l = ap (λ (o : Option Independent). unwrap_or o nothing_independent) (get_or-set_same table k (Some a) None l)

laid-other : (table : List (Option Independent)) (k j : ℕ) (a : Independent) → j ≢ k → laid_at (set table k (Some a)) j ≡ laid_at table j
laid-other table k j a n = ap (λ (o : Option Independent). unwrap_or o nothing_independent) (get_or-set_other table k j (Some a) None n)

module _ (tree : BoxTree) (w : World) where
  -- a box as it is laid out
  abbrev right : ℕ → Independent
  right k = landed.independent tree w (landed.flow tree w) k (room tree w k)

  abbrev Sound : ℕ → Type 0
  Sound k = IsSound tree w k (room tree w k)

  abbrev Served : List (Option Independent) → ℕ → Type 0
  Served table k = right k ≡ laid_at table k

  -- what stands outside the flow of each block container from this one on
  abbrev AllServed : List (Option Independent) → ℕ → Type 0
  AllServed table low = (c : ℕ) → low ≤ c → IsOnPage tree.boxes c → is_inline (kind_of tree c) ≡ false → AllByRecursion (Served table) (outside_of tree c)

  own-sound : (c : ℕ) → IsOnPage tree.boxes c → is_inline (kind_of tree c) ≡ false → Sound c
  own-sound c p i = record { page = p; room = refl; block = i }

  outside-sound : (c : ℕ) → Sound c → AllByRecursion Sound (outside_of tree c)
  outside-sound c s = outside-by tree c Sound
      (All-implied _ Sound (inner_boxes tree c) (λ k h. own-sound k h.page h.block) (inner_boxes-sound tree w c (pos 0) (room tree w c) s))
      (All-implied _ Sound (flow_children tree c) (λ k h. own-sound k h.sound.page h.sound.block) (flow-sound tree w c (pos 0) (room tree w c) s))

  abbrev IsLater : ℕ → ℕ → Type 0
  IsLater b k = IsFrom tree.boxes (suc b) k

  -- ---- the flow by a table

  pub flow-agrees : (table : List (Option Independent)) (low : ℕ) → AllServed table low → (n b : ℕ) (left wide top : ℤ) (p : Progress) → low ≤ b → IsSound tree w b wide → length tree.boxes ≤ n + b
      → Follows p (landed.flow tree w b (band_in tree w left b wide) top p) (content_to tree w (laid_at table) n b (band_in tree w left b wide) top (context_of p))
  unfolding content_to
  flow-agrees table low served zero b left wide top p l s m = absurd (let within = within-page tree b s.page in omega arith)
  flow-agrees table low served (suc n) b left wide top p l s m =
      subst (λ (end : Progress). Follows p end (content_to tree w (laid_at table) (suc n) b (band_in tree w left b wide) top (context_of p)))
      (sym (flow-is tree w b (band_in tree w left b wide) top p (within-page tree b s.page)))
      (step-agrees tree w (landed.flow tree w) (content_to tree w (laid_at table) n) (laid_at table) b
      (λ k left wide top p above sound. flow-agrees table low served n k left wide top p (omega arith) sound (omega arith))
      (λ c above page block. served c (omega arith) page block)
      (λ k above within. top-free tree w (laid_at table) n k within (omega arith)) (box_before tree) left wide top p s)

  pub box-same : (table : List (Option Independent)) (low : ℕ) → AllServed table low → (k : ℕ) (wide : ℤ) → low ≤ k → IsSound tree w k wide
      → landed.independent tree w (landed.flow tree w) k wide ≡ independent_of tree w (laid_at table) k wide
  box-same table low served k wide l s = independent-same tree w (landed.flow tree w) (content_to tree w (laid_at table) (length tree.boxes)) k wide
      (λ top. flow-agrees table low served (length tree.boxes) k (pos 0) wide top (landed.fresh top) l s (omega arith))

  -- ---- the table is filled

  -- what it holds already stays
  pub record IsMore (before after : List (Option Independent)) : Type 0 where
    pub long : length after ≡ length tree.boxes
    pub keeps : (j : ℕ) → Sound j → Served before j → Served after j

  -- one box more
  one-more : (table : List (Option Independent)) (b k : ℕ) → length table ≡ length tree.boxes → AllServed table (suc b) → IsLater b k → IsMore table (with_box tree w table k)
  unfolding with_box
  one-more table b k long served later = record { long = length-set table k (Some a) ∙ long; keeps = keeps }
    where
      a : Independent
      a = independent_of tree w (laid_at table) k (room tree w k)

      put : Sound k → right k ≡ laid_at (set table k (Some a)) k
      put s = box-same table (suc b) served k (room tree w k) later.from s ∙ sym (laid-same table k a (let within = later.within in omega (arith, long)))

      keeps : (j : ℕ) → Sound j → Served table j → Served (set table k (Some a)) j
      keeps j s e = elim (cases_eq j k) [
        | inl same ↦ subst (Served (set table k (Some a))) (sym same) (put (subst Sound same s))
        | inr other ↦ let n : j ≢ k = other in e ∙ sym (laid-other table k j a n)
      ]

  put-right : (table : List (Option Independent)) (b k : ℕ) → length table ≡ length tree.boxes → AllServed table (suc b) → IsLater b k → Sound k → Served (with_box tree w table k) k
  unfolding with_box
  put-right table b k long served later s =
      let a = independent_of tree w (laid_at table) k (room tree w k) in
      box-same table (suc b) served k (room tree w k) later.from s ∙ sym (laid-same table k a (let within = later.within in omega (arith, long)))

  all-kept : (before after : List (Option Independent)) → IsMore before after → (ks : List ℕ) → AllByRecursion Sound ks → AllByRecursion (Served before) ks → AllByRecursion (Served after) ks
  all-kept before after m [] s a = tt
  all-kept before after m (k ∷ ks) s a = (m.keeps k s.0 a.0, all-kept before after m ks s.1 a.1)

  still-served : (before after : List (Option Independent)) (low : ℕ) → IsMore before after → AllServed before low → AllServed after low
  still-served before after low m served c l p i = all-kept before after m (outside_of tree c) (outside-sound c (own-sound c p i)) (served c l p i)

  -- boxes one after another
  all-more : (b : ℕ) (ks : List ℕ) (table : List (Option Independent)) → length table ≡ length tree.boxes → AllServed table (suc b) → AllByRecursion (IsLater b) ks → IsMore table (fold (with_box tree w) table ks)
  all-more b [] table long served later = record { long = long; keeps = λ j s e. e }
  all-more b (k ∷ ks) table long served later =
      let next = with_box tree w table k in
      let one = one-more table b k long served later.0 in
      let rest = all-more b ks next one.long (still-served table next (suc b) one served) later.1 in
      record { long = rest.long; keeps = λ j s e. rest.keeps j s (one.keeps j s e) }

  all-right : (b : ℕ) (ks : List ℕ) (table : List (Option Independent)) → length table ≡ length tree.boxes → AllServed table (suc b) → AllByRecursion (IsLater b) ks → AllByRecursion Sound ks
      → AllByRecursion (Served (fold (with_box tree w) table ks)) ks
  all-right b [] table long served later s = tt
  all-right b (k ∷ ks) table long served later s =
      let next = with_box tree w table k in
      let one = one-more table b k long served later.0 in
      let kept = still-served table next (suc b) one served in
      let rest = all-more b ks next one.long kept later.1 in
      (rest.keeps k s.0 (put-right table b k long served later.0 s.0), all-right b ks next one.long kept later.1 s.1)

  -- the boxes outside the flow of one container more
  pub record IsFilled (table : List (Option Independent)) (low : ℕ) : Type 0 where
    pub long : length table ≡ length tree.boxes
    pub served : AllServed table low

  one-container : (b : ℕ) (table : List (Option Independent)) → IsFilled table (suc b) → IsFilled (with_container tree w table b) b
  unfolding with_container
  one-container b table f = by (is_inline (kind_of tree b)) refl
    where
      full : List (Option Independent)
      full = fold (with_box tree w) table (outside_of tree b)

      more : IsMore table full
      more = all-more b (outside_of tree b) table f.long f.served (outside-later tree b)

      skipped : is_inline (kind_of tree b) ≡ true → AllServed table b
      skipped e c l p i = elim (cases_eq c b) [
        | inl same ↦ absurd (let inline : is_inline (kind_of tree c) ≡ true = subst (λ (x : ℕ). is_inline (kind_of tree x) ≡ true) (sym same) e in cc)
        | inr other ↦ let n : c ≢ b = other in f.served c (omega arith) p i
      ]

      whole : AllServed full b
      whole c l p i = elim (cases_eq c b) [
        | inl same ↦ subst (λ (x : ℕ). AllByRecursion (Served full) (outside_of tree x)) (sym same)
            (all-right b (outside_of tree b) table f.long f.served (outside-later tree b) (outside-sound b (subst Sound same (own-sound c p i))))
        | inr other ↦ let n : c ≢ b = other in still-served table full (suc b) more f.served c (omega arith) p i
      ]

      by : (i : Bool) → is_inline (kind_of tree b) ≡ i → IsFilled (elim i as (λ _. List (Option Independent)) [ true ↦ table | false ↦ full ]) b
      by true e = record { long = f.long; served = skipped e }
      by false e = record { long = more.long; served = whole }

  filled : (count low : ℕ) → count + low ≡ length tree.boxes → IsFilled (table_to tree w count) low
  unfolding table_to
  filled zero low e = record { long = length-replicate (length tree.boxes) None; served = λ c l p i. absurd (let within = within-page tree c p in omega arith) }
  filled (suc count) low e =
      let b : length tree.boxes - suc count ≡ low = omega arith in
      subst (λ (x : ℕ). IsFilled (with_container tree w (table_to tree w count) x) low) (sym b)
      (one-container low (table_to tree w count) (filled count (suc low) (omega arith)))

  abbrev whole_table : List (Option Independent)
  whole_table = table_to tree w (length tree.boxes)

  pub table-served : AllServed whole_table 0
  table-served = (filled (length tree.boxes) 0 (omega arith)).served

  -- ---- the page

  root-room : room tree w 0 ≡ pos (64 * w.w)
  unfolding room_to
  root-room = ap (λ (o : Option ℕ). option_map_or (λ parent. room_inside tree w parent (room_to 0 tree w parent)) o (pos (64 * w.w))) (root-alone tree)

  abbrev rendered : List BoxNode → List (Placed ℤ)
  rendered l = (elim l as (λ _. Rendering ℤ) [ [] ↦ record { boxes = [] } | root ∷ rest ↦ record { boxes = (landed.whole_independent tree w 0 (pos (64 * w.w))).boxes } ]).boxes

  abbrev stepped : List BoxNode → List (Placed ℤ)
  stepped l = elim l as (λ _. List (Placed ℤ)) [ [] ↦ [] | root ∷ rest ↦ (independent_of tree w (laid_at whole_table) 0 (pos (64 * w.w))).boxes ]

  -- the root of a page that has boxes
  pub root-boxes : 0 < length tree.boxes → (independent_of tree w (laid_at whole_table) 0 (pos (64 * w.w))).boxes ≡ page_boxes tree w
  root-boxes some = by tree.boxes refl
    where
      by : (l : List BoxNode) → tree.boxes ≡ l → (independent_of tree w (laid_at whole_table) 0 (pos (64 * w.w))).boxes ≡ page_boxes tree w
      by [] e = absurd (let none = ap (λ (l : List BoxNode). length l) e in omega arith)
      by (x ∷ xs) e = sym (ap stepped e)

  -- of one that has none
  pub no-boxes : tree.boxes ≡ [] → [] ≡ page_boxes tree w
  no-boxes e = sym (ap stepped e)

  pub page-same : (page_rendering tree w).boxes ≡ page_boxes tree w
  page-same = by tree.boxes refl
    where
      by : (boxes : List BoxNode) → tree.boxes ≡ boxes → (page_rendering tree w).boxes ≡ page_boxes tree w
      by [] e = ap rendered e ∙ sym (ap stepped e)
      by (b ∷ bs) e =
          let page : IsOnPage tree.boxes 0 = IsOnPage.root 0 (subst (λ (l : List BoxNode). Contains (roots l) 0) (sym e) (0, omega arith, refl)) in
          ap rendered e
          ∙ ap (λ (a : Independent). a.boxes) (box-same whole_table 0 table-served 0 (pos (64 * w.w)) (omega arith) (record { page = page; room = sym root-room; block = root_no_inline tree }))
          ∙ sym (ap stepped e)

-- ---- the table of more boxes

-- after the box before the last so many
pub next-table : (tree : BoxTree) (w : World) (before after : List (Option Independent)) (n b : ℕ) → b ≡ length tree.boxes - suc n → before ≡ table_to tree w n
    → after ≡ with_container tree w before b → after ≡ table_to tree w (n + 1)
unfolding table_to
next-table tree w before after n b last is added =
    let next : suc n ≡ n + 1 = omega arith in
    added
    ∙ ap (λ (t : List (Option Independent)). with_container tree w t b) is
    ∙ ap (with_container tree w (table_to tree w n)) last
    ∙ ap (table_to tree w) next

pub first-table : (tree : BoxTree) (w : World) → replicate (length tree.boxes) None ≡ table_to tree w 0
unfolding table_to
first-table tree w = refl
