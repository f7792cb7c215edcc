-- Where a lead ends: at a box that is not passed, and before the box that comes next.
use Rattle.std.proofs.Common.{◌≡◌, ℕ, zero, suc, ◌<◌, ◌≤◌, ℤ, Bool, true, false, not, ◌&&◌, nat_lt, IsTrue, List, [], ◌∷◌, length, refl, sym, subst, arith}
use Rattle.std.specs.Prelude.{◌==◌}
use Rattle.std.specs.List.{flat_map, AllByRecursion}
use Rattle.std.proofs.lemmas.Bool.Decides.{nat_tests}
use Rattle.viz_base.specs.Trees.{ascends}
use Rattle.viz_base.specs.declared.layouts.Band.{Band}
use Rattle.viz_base.specs.declared.layouts.LeadEnd.{LeadEnd}
use Rattle.viz_base.specs.declared.layouts.LeadEnd.TheVariants as of_end
use Rattle.viz_base.specs.declared.layouts.Waiting.{Waiting}
use Rattle.viz_base.specs.declared.trees.BoxNode.{BoxNode}
use Rattle.viz_base.specs.declared.trees.BoxTree.{BoxTree}
use Rattle.viz_base.specs.declared.trees.Kind.{Kind}
use Rattle.viz_base.specs.declared.trees.Kind.TheVariants as of_kind
use Rattle.viz_base.specs.declared.worlds.World.{World}
use Rattle.viz_base.proofs.ListLemmas.{all_append}
use Rattle.layout_semantics.specs.Order.{kids_of}
use Rattle.layout_semantics.specs.FlowBoxes.{clear_of, may_collapse_through, flow_children}
use Rattle.layout_semantics.specs.Blocks.{kind_of}
use Rattle.layout_semantics.specs.InlineContent.{Item, start, finish, word, space, atomic, forced, float, Sort, a_float, an_atomic, a_break, a_text, an_inline, sort_of, text_of, text_items, letter_before, character_before, items_to, content, float_boxes, holds_inline, is_floated_at}
use Rattle.layout_semantics.specs.Leads.{clears_something}
use Rattle.layout_semantics.proofs.Forest.{both, ascends-each}
use Rattle.layout_semantics.proofs.Pages.{forest}
use Rattle.layout_laws.specs.Nested.{items_of_sort}
use Rattle.layout_laws.proofs.Levels.{All-implied, sort_by}
use Rattle.lay_margin.specs.declared.runs.Run.{Run}
use Rattle.lay_margin.specs.Runs.{with_margin}
use Rattle.lay_margin.specs.steps.Leads.{Going, through, going_on, kid_of, kids_going, ended_by, enters, stops, inner_band, margin_above, margin_below, lead_to}
use Rattle.lay_steps.specs.Order.{next_of, each_before_next, is_before_to}
use Rattle.lay_steps.proofs.LeadCases.{on-through, on-solid, on-cleared, kid-float, kid-flow, ended-through, ended-stops, ended-solid, ended-cleared, kids_lead, inner_lead, lead-stops, lead-solid, lead-inside}

-- ---- boxes one after another

-- a box in flow before those that come next
pub record IsFirst (n : ℕ) (boxes : List BoxNode) (k : ℕ) (ks : List ℕ) (end : ℕ) : Type 0 where
  pub before : IsTrue (is_before_to n boxes k (next_of ks end))
  pub later : AllByRecursion (λ j. next_of ks end ≤ j) ks
  pub bound : next_of ks end ≤ end

abbrev pub InOrder : ℕ → BoxTree → List ℕ → ℕ → Type 0
InOrder n tree [] end = Unit {0}
InOrder n tree (k ∷ ks) end = (is_floated_at tree k ≡ false → IsFirst n tree.boxes k ks end) × InOrder n tree ks end

before-end : (n : ℕ) (boxes : List BoxNode) (at end : ℕ) → IsTrue (is_before_to n boxes at end) → at < end
unfolding is_before_to
before-end zero boxes at end t = grind (arith, nat_tests, t)
before-end (suc n) boxes at end t = let first = (both (nat_lt at end) (each_before_next (is_before_to n boxes) (kids_of boxes at) end) t).0 in grind (arith, nat_tests, first)

kids-before : (n : ℕ) (boxes : List BoxNode) (at end : ℕ) → IsTrue (is_before_to (suc n) boxes at end) → IsTrue (each_before_next (is_before_to n boxes) (kids_of boxes at) end)
unfolding is_before_to
kids-before n boxes at end t = (both (nat_lt at end) (each_before_next (is_before_to n boxes) (kids_of boxes at) end) t).1

next-below : (n : ℕ) (boxes : List BoxNode) (ks : List ℕ) (end : ℕ) → IsTrue (each_before_next (is_before_to n boxes) ks end) → next_of ks end ≤ end
next-below n boxes [] end t = omega arith
next-below n boxes (k ∷ ks) end t =
    let parts = both (is_before_to n boxes k (next_of ks end)) (each_before_next (is_before_to n boxes) ks end) t in
    let here = before-end n boxes k (next_of ks end) parts.0 in
    let rest = next-below n boxes ks end parts.1 in
    omega arith

next-least : (low : ℕ) (ks : List ℕ) (end : ℕ) → IsTrue (ascends low ks) → AllByRecursion (λ j. next_of ks end ≤ j) ks
next-least low [] end t = tt
next-least low (k ∷ ks) end t =
    (omega arith, All-implied (λ j. k < j) (λ j. k ≤ j) ks (λ j l. omega arith) (ascends-each k ks (both (nat_lt low k) (ascends k ks) t).1))

kids-order : (n : ℕ) (tree : BoxTree) (low : ℕ) (ks : List ℕ) (end : ℕ) → IsTrue (ascends low ks) → IsTrue (each_before_next (is_before_to n tree.boxes) ks end) → InOrder n tree ks end
kids-order n tree low [] end a t = tt
kids-order n tree low (k ∷ ks) end a t =
    let rising = (both (nat_lt low k) (ascends k ks) a).1 in
    let parts = both (is_before_to n tree.boxes k (next_of ks end)) (each_before_next (is_before_to n tree.boxes) ks end) t in
    (λ f. record { before = parts.0; later = next-least k ks end rising; bound = next-below n tree.boxes ks end parts.1 }, kids-order n tree k ks end rising parts.1)

-- ---- the floats of inline content float

abbrev pub FloatsFloat : BoxTree → List Item → Type 0
FloatsFloat tree items = AllByRecursion (λ k. is_floated_at tree k ≡ true) (float_boxes items)

inline-order : (n : ℕ) (tree : BoxTree) (ks : List ℕ) (end : ℕ) → AllByRecursion (λ k. is_floated_at tree k ≡ true) ks → InOrder n tree ks end
inline-order n tree [] end a = tt
inline-order n tree (k ∷ ks) end a = (λ f. absurd (let e = a.0 in cc), inline-order n tree ks end a.1)

abbrev IsOwnFloat : BoxTree → Item → Type 0
IsOwnFloat tree (float at) = is_floated_at tree at ≡ true
IsOwnFloat tree _ = Unit {0}

floats-of : (tree : BoxTree) (items : List Item) → AllByRecursion (IsOwnFloat tree) items → FloatsFloat tree items
floats-of tree [] a = tt
floats-of tree (start at ∷ items) a = floats-of tree items a.1
floats-of tree (finish at ∷ items) a = floats-of tree items a.1
floats-of tree (word at text ∷ items) a = floats-of tree items a.1
floats-of tree (space at ∷ items) a = floats-of tree items a.1
floats-of tree (atomic at ∷ items) a = floats-of tree items a.1
floats-of tree (forced at ∷ items) a = floats-of tree items a.1
floats-of tree (float at ∷ items) a = (a.0, floats-of tree items a.1)

text-floats : (tree : BoxTree) (at : ℕ) (text : List ℕ) → AllByRecursion (IsOwnFloat tree) (text_items at text)
text-floats tree at [] = tt
text-floats tree at (c ∷ cs) = by (c == 32) (text_items at cs) (text-floats tree at cs)
  where
    before : (items : List Item) → AllByRecursion (IsOwnFloat tree) items → AllByRecursion (IsOwnFloat tree) (letter_before at c items)
    before [] a = (tt, tt)
    before (word other text ∷ items) a = (tt, a.1)
    before (start other ∷ items) a = (tt, a)
    before (finish other ∷ items) a = (tt, a)
    before (space other ∷ items) a = (tt, a)
    before (atomic other ∷ items) a = (tt, a)
    before (forced other ∷ items) a = (tt, a)
    before (float other ∷ items) a = (tt, a)

    by : (b : Bool) (items : List Item) → AllByRecursion (IsOwnFloat tree) items → AllByRecursion (IsOwnFloat tree) (character_before b at c items)
    by true items a = (tt, a)
    by false items a = before items a

each-floats : (tree : BoxTree) (f : ℕ → List Item) (ks : List ℕ) → ((k : ℕ) → AllByRecursion (IsOwnFloat tree) (f k)) → AllByRecursion (IsOwnFloat tree) (flat_map f ks)
each-floats tree f [] own = tt
each-floats tree f (k ∷ ks) own = all_append (IsOwnFloat tree) (f k) (flat_map f ks) (own k) (each-floats tree f ks own)

pub sort-float : (f : Bool) (kind : Kind) → sort_by f kind ≡ a_float → f ≡ true
sort-float true kind e = refl
sort-float false of_kind.Chars e = absurd (cc)
sort-float false of_kind.Break e = absurd (cc)
sort-float false of_kind.Inline e = absurd (cc)
sort-float false _ e = absurd (cc)

sort-floats : (tree : BoxTree) (at : ℕ) (inside : List Item) (s : Sort) → (s ≡ a_float → is_floated_at tree at ≡ true) → AllByRecursion (IsOwnFloat tree) inside
    → AllByRecursion (IsOwnFloat tree) (items_of_sort tree at inside s)
sort-floats tree at inside a_float f a = (f refl, tt)
sort-floats tree at inside an_atomic f a = (tt, tt)
sort-floats tree at inside a_break f a = (tt, tt)
sort-floats tree at inside a_text f a = text-floats tree at (text_of tree at)
sort-floats tree at inside an_inline f a = (tt, all_append (IsOwnFloat tree) inside (finish at ∷ []) a (tt, tt))

items-floats : (n : ℕ) (tree : BoxTree) (at : ℕ) → AllByRecursion (IsOwnFloat tree) (items_to n tree at)
unfolding items_to
items-floats zero tree at = tt
items-floats (suc n) tree at = sort-floats tree at (flat_map (items_to n tree) (kids_of tree.boxes at)) (sort_of tree at)
    (λ e. sort-float (is_floated_at tree at) (kind_of tree at) e) (each-floats tree (items_to n tree) (kids_of tree.boxes at) (λ k. items-floats n tree k))

pub content-floats : (tree : BoxTree) (b : ℕ) → FloatsFloat tree (content tree b)
content-floats tree b = floats-of tree (content tree b) (each-floats tree (items_to (length tree.boxes) tree) (kids_of tree.boxes b) (λ k. items-floats (length tree.boxes) tree k))

-- ---- the children in the flow of a box stand one after another

pub children-order : (n : ℕ) (tree : BoxTree) (b end : ℕ) → IsTrue (is_before_to (suc n) tree.boxes b end) → InOrder n tree (flow_children tree b) end
children-order n tree b end t = by (holds_inline tree b) refl
  where
    by : (h : Bool) → holds_inline tree b ≡ h → InOrder n tree (flow_children tree b) end
    by true e = rw e (inline-order n tree (float_boxes (content tree b)) end (content-floats tree b))
    by false e = rw e (kids-order n tree b (kids_of tree.boxes b) end ((forest tree).rising b) (kids-before n tree.boxes b end t))

-- ---- where a lead ends

-- at this box, it is not passed and stands before the place where all end
pub record IsOpen (p : ℕ → Bool) (end d : ℕ) : Type 0 where
  pub below : d < end
  pub is_open : p d ≡ false

abbrev pub EndsBefore : (ℕ → Bool) → ℕ → LeadEnd → Type 0
EndsBefore p end (of_end.Cleared d) = IsOpen p end d
EndsBefore p end _ = Unit {0}

pub stops-open : (tree : BoxTree) (p : ℕ → Bool) (b : ℕ) → stops tree p b ≡ true → p b ≡ false
unfolding stops
stops-open tree p b e = by (clears_something (clear_of tree b)) (p b) e
  where
    by : (c o : Bool) → (c && not o) ≡ true → o ≡ false
    by true true e = absurd (cc)
    by true false e = refl
    by false o e = absurd (cc)

module _ (tree : BoxTree) (w : World) (p : ℕ → Bool) where
  ends-lower : (low end : ℕ) (e : LeadEnd) → low ≤ end → EndsBefore p low e → EndsBefore p end e
  ends-lower low end of_end.Through l a = tt
  ends-lower low end (of_end.Solid d) l a = tt
  ends-lower low end (of_end.Cleared d) l a = let b = a.below in record { below = omega arith; is_open = a.is_open }

  abbrev Ends : ℕ → Going → Type 0
  Ends end g = EndsBefore p end g.end

  ends-on : (end : ℕ) (g rest : Going) → Ends end g → Ends end rest → Ends end (going_on g rest)
  ends-on end g rest a b = by g.end refl
    where
      by : (e : LeadEnd) → g.end ≡ e → Ends end (going_on g rest)
      by of_end.Through e = subst (Ends end) (sym (on-through g rest e)) b
      by (of_end.Solid d) e = subst (Ends end) (sym (on-solid g rest d e)) a
      by (of_end.Cleared d) e = subst (Ends end) (sym (on-cleared g rest d e)) a

  kids-end : (kid : Run ℤ → List (Waiting ℤ) → ℕ → Going) (cb : Band ℤ) (end : ℕ) (ks : List ℕ) (run : Run ℤ) (ws : List (Waiting ℤ))
      → AllByRecursion (λ k. (r : Run ℤ) (v : List (Waiting ℤ)) → Ends end (kid r v k)) ks → Ends end (kids_going tree w p kid cb ks run ws)
  kids-end kid cb end [] run ws a = tt
  kids-end kid cb end (k ∷ ks) run ws a =
      ends-on end (kid run ws k) (kids_going tree w p kid cb ks (kid run ws k).run (kid run ws k).waiting) (a.0 run ws) (kids-end kid cb end ks (kid run ws k).run (kid run ws k).waiting a.1)

  pub ended-ends : (cb : Band ℤ) (b end : ℕ) (g : Going) → Ends end g → Ends end (ended_by tree w p cb b g)
  ended-ends cb b end g a = by g.end (may_collapse_through tree b) refl refl
    where
      by : (e : LeadEnd) (m : Bool) → g.end ≡ e → may_collapse_through tree b ≡ m → Ends end (ended_by tree w p cb b g)
      by of_end.Through true e m = subst (Ends end) (sym (ended-through tree w p cb b g e m)) tt
      by of_end.Through false e m = subst (Ends end) (sym (ended-stops tree w p cb b g e m)) tt
      by (of_end.Solid d) m e o = subst (Ends end) (sym (ended-solid tree w p cb b g d e)) tt
      by (of_end.Cleared d) m e o = subst (Ends end) (sym (ended-cleared tree w p cb b g d e)) (subst (EndsBefore p end) e a)

  -- of a child, and of children one after another
  pub kid-ends : (n : ℕ) (band : Band ℤ) (k low : ℕ) (run : Run ℤ) (ws : List (Waiting ℤ)) → (is_floated_at tree k ≡ false → Ends low (lead_to tree w p n band k run ws))
      → Ends low (kid_of tree w p (lead_to tree w p n band) band run ws k)
  kid-ends n band k low run ws own = by (is_floated_at tree k) refl
    where
      g : Going
      g = lead_to tree w p n band k run ws

      by : (f : Bool) → is_floated_at tree k ≡ f → Ends low (kid_of tree w p (lead_to tree w p n band) band run ws k)
      by true f = subst (Ends low) (sym (kid-float tree w p (lead_to tree w p n band) band k run ws f)) tt
      by false f = subst (Ends low) (sym (kid-flow tree w p (lead_to tree w p n band) band k run ws f))
          (ends-on low g (through band (with_margin g.run (margin_below tree w band k)) g.waiting) (own f) tt)

  pub kids-ends : (n : ℕ) (band : Band ℤ) → ((k low : ℕ) (run : Run ℤ) (ws : List (Waiting ℤ)) → IsTrue (is_before_to n tree.boxes k low) → Ends low (lead_to tree w p n band k run ws))
      → (ks : List ℕ) (end : ℕ) (run : Run ℤ) (ws : List (Waiting ℤ)) → InOrder n tree ks end → Ends end (kids_lead tree w p n band ks run ws)
  kids-ends n band again ks end run ws a = kids-end (kid_of tree w p (lead_to tree w p n band) band) band end ks run ws (all ks a)
    where
      all : (ks : List ℕ) → InOrder n tree ks end → AllByRecursion (λ k. (r : Run ℤ) (v : List (Waiting ℤ)) → Ends end (kid_of tree w p (lead_to tree w p n band) band r v k)) ks
      all [] a = tt
      all (k ∷ ks) a = (
        λ r v. kid-ends n band k end r v (λ f. let first = a.0 f in ends-lower (next_of ks end) end (lead_to tree w p n band k r v).end first.bound (again k (next_of ks end) r v first.before)),
        all ks a.1,
      )

  pub lead-ends : (n : ℕ) (cb : Band ℤ) (b end : ℕ) (run : Run ℤ) (ws : List (Waiting ℤ)) → IsTrue (is_before_to n tree.boxes b end) → Ends end (lead_to tree w p n cb b run ws)
  unfolding lead_to
  lead-ends zero cb b end run ws t = tt
  lead-ends (suc n) cb b end run ws t = by (stops tree p b) (enters tree b) refl refl (λ band k low r v u. lead-ends n band k low r v u)
    where
      by : (s i : Bool) → stops tree p b ≡ s → enters tree b ≡ i
          → ((band : Band ℤ) (k low : ℕ) (run : Run ℤ) (ws : List (Waiting ℤ)) → IsTrue (is_before_to n tree.boxes k low) → Ends low (lead_to tree w p n band k run ws))
          → Ends end (lead_to tree w p (suc n) cb b run ws)
      by true i e f again = subst (Ends end) (sym (lead-stops tree w p n cb b run ws e)) (record { below = before-end (suc n) tree.boxes b end t; is_open = stops-open tree p b e })
      by false false e f again = subst (Ends end) (sym (lead-solid tree w p n cb b run ws e f)) tt
      by false true e f again = subst (Ends end) (sym (lead-inside tree w p n cb b run ws e f))
          (ended-ends cb b end (inner_lead tree w p n cb b run ws)
          (kids-ends n (inner_band tree w cb b) (λ k low r v u. again (inner_band tree w cb b) k low r v u) (flow_children tree b) end (with_margin run (margin_above tree w cb b)) ws (children-order n tree b end t)))
