-- Where the blocks of a whole page stand in normal flow without floats and clearance.
use Rattle.std.proofs.Common.{◌≡◌, ℕ, zero, suc, ◌<◌, ◌*◌, ℤ, pos, ◌+ℤ◌, Bool, true, false, ◌⊎◌, inl, inr, IsTrue, List, [], ◌∷◌, ◌++◌, map, flat_map, length, slice_get, refl, sym, ap, ◌∙◌, subst, arith, append-nil, Option, Some, Contains}
use Rattle.std.specs.List.{list_all}
use Rattle.std.specs.Option.{option_map_or}
use Rattle.std.proofs.lemmas.Bool.{cases_order}
use Rattle.std.proofs.lemmas.List.{length-map}
use Rattle.std.proofs.lemmas.Int.{ints}
use Rattle.viz_base.specs.declared.layouts.Band.{Band}
use Rattle.viz_base.specs.declared.trees.BoxNode.{BoxNode}
use Rattle.viz_base.specs.declared.trees.BoxTree.{BoxTree}
use Rattle.viz_base.specs.declared.worlds.World.{World}
use Rattle.viz_base.specs.declared.renderings.Placed.{Placed}
use Rattle.viz_base.specs.declared.renderings.Rendering.{Rendering}
use Rattle.viz_base.proofs.ListLemmas.{later_member}
use Rattle.layout_semantics.specs.Order.{kids_of, document_order, page_order, roots}
use Rattle.layout_semantics.specs.Margins.{collapsed}
use Rattle.layout_semantics.specs.Rectangles.{Frame, content_top, placed_box}
use Rattle.layout_semantics.specs.Horizontal.{widths}
use Rattle.layout_semantics.specs.Verticals.{verticals}
use Rattle.layout_semantics.specs.Replaced.{replaced_size}
use Rattle.layout_semantics.specs.FlowBoxes.{is_replaced_at, is_open_above, content_from}
use Rattle.layout_semantics.specs.Flow.{Progress, fresh, flow_to, content_height, context_height, whole_independent}
use Rattle.layout_semantics.specs.Page.{page_rendering}
use Rattle.layout_semantics.proofs.Pages.{forest, page-distinct}
use Rattle.layout_semantics.proofs.Orders.{document_order-is}
use Rattle.layout_laws.specs.PlainFlow.{HasPlainBlocks, IsEntryOf, content_of, leading, all_margins, collapses, trailing}
use Rattle.layout_laws.proofs.Members.{first_member, first_or_later, member_place}
use Rattle.layout_laws.proofs.Flowing.{replaced_holds_none}
use Rattle.layout_laws.proofs.PlainSteps.{edge_after, passed_by, started}
use Rattle.layout_laws.proofs.PlainTraces.{boxes_in, entries_in, trace_to, IsTrace, map_none}
use Rattle.layout_laws.proofs.PlainLaws.{KidsStand, EachStands, stand-more, flow-traced, flow-stands}

-- ---- places in lists

map_place : {A B : Type 0} (f : A → B) (xs : List A) (i : ℕ) (x : A) → slice_get xs i ≡ Some x → slice_get (map f xs) i ≡ Some (f x)
map_place f [] i x e = absurd (cc)
map_place {A} f (y ∷ ys) zero x e = ap Some (ap f (some_same y x e))
  where
    some_same : (y x : A) → Some y ≡ Some x → y ≡ x
    some_same y x e = cc
map_place f (y ∷ ys) (suc i) x e = map_place f ys i x e

from_places : (trace : List (ℕ × Placed ℤ)) (i b : ℕ) (p : Placed ℤ) → slice_get (boxes_in trace) i ≡ Some b → slice_get (entries_in trace) i ≡ Some p → Contains trace (b, p)
from_places [] i b p e f = absurd (cc)
from_places (t ∷ ts) zero b p e f = by_same t (box_same t.0 b e) (entry_same t.1 p f)
  where
    box_same : (y x : ℕ) → Some y ≡ Some x → y ≡ x
    box_same y x e = cc

    entry_same : (y x : Placed ℤ) → Some y ≡ Some x → y ≡ x
    entry_same y x e = cc

    by_same : (t : ℕ × Placed ℤ) → t.0 ≡ b → t.1 ≡ p → Contains (t ∷ ts) (b, p)
    by_same t e f = subst (λ (x : ℕ). Contains (t ∷ ts) (x, p)) e (subst (λ (q : Placed ℤ). Contains (t ∷ ts) (t.0, q)) f (first_member _ refl))
from_places (t ∷ ts) (suc i) b p e f = later_member _ (from_places ts i b p e f)

module _ (tree : BoxTree) (w : World) (plain : HasPlainBlocks tree) where
  -- ---- the root

  room : ℤ
  room = pos (64 * w.w)

  abbrev root_frame : Frame
  root_frame = record { x = widths tree w 0 room; v = verticals tree w 0 room; corner = record { x = (widths tree w 0 room).margin_left; y = (verticals tree w 0 room).margin_top } }

  abbrev root_end : Progress
  root_end = flow_to tree w (length tree.boxes) 0 (content_from (pos 0) root_frame.x) (content_top root_frame) (fresh (content_top root_frame))

  abbrev root_height : Bool → ℤ
  root_height true = (replaced_size tree w 0 room).height
  root_height false = content_height tree w 0 (context_height tree w (content_top root_frame) root_end)

  abbrev root_entry : Placed ℤ
  root_entry = placed_box tree 0 root_frame (root_height (is_replaced_at tree 0))

  abbrev root_content : List (ℕ × Placed ℤ)
  root_content = trace_to tree w (length tree.boxes) 0 (content_from (pos 0) root_frame.x) (content_top root_frame) (fresh (content_top root_frame))

  abbrev page_trace : List BoxNode → List (ℕ × Placed ℤ)
  page_trace [] = []
  page_trace (root ∷ rest) = (0, root_entry) ∷ root_content

  abbrev rendered : List BoxNode → Rendering ℤ
  rendered [] = record { boxes = [] }
  rendered (root ∷ rest) = record { boxes = (whole_independent tree w 0 (pos (64 * w.w))).boxes }

  root-traced : 0 < length tree.boxes → IsTrace tree w (flow_to tree w (length tree.boxes)) (trace_to tree w (length tree.boxes)) 0 (content_from (pos 0) root_frame.x) (content_top root_frame) (fresh (content_top root_frame))
  root-traced l = flow-traced tree w plain (length tree.boxes) 0 (content_from (pos 0) root_frame.x) (content_top root_frame) root_frame.corner.y (fresh (content_top root_frame)) false l (omega arith) refl refl

  root-boxes : 0 < length tree.boxes → (whole_independent tree w 0 (pos (64 * w.w))).boxes ≡ root_entry ∷ entries_in root_content
  unfolding room
  root-boxes l = by_sort (is_replaced_at tree 0) refl (root-traced l)
    where
      by_sort : (r : Bool) → is_replaced_at tree 0 ≡ r → IsTrace tree w (flow_to tree w (length tree.boxes)) (trace_to tree w (length tree.boxes)) 0 (content_from (pos 0) root_frame.x) (content_top root_frame) (fresh (content_top root_frame))
          → (whole_independent tree w 0 (pos (64 * w.w))).boxes ≡ root_entry ∷ entries_in root_content
      by_sort true e t =
          let none = map_none tree w root_content (t.order ∙ ap (flat_map (document_order tree.boxes)) (replaced_holds_none tree 0 e)) in
          rw (none, e)
      by_sort false e t = rw e (ap (λ (l : List (Placed ℤ)). placed_box tree 0 root_frame (root_height false) ∷ l) t.boxes)

  page-rendered : (bs : List BoxNode) → bs ≡ tree.boxes → (rendered bs).boxes ≡ entries_in (page_trace bs)
  page-rendered [] e = refl
  page-rendered (root ∷ rest) e = let some : length (root ∷ rest) ≡ length tree.boxes = ap length e in root-boxes (omega arith)

  page-ordered : (bs : List BoxNode) → bs ≡ tree.boxes → flat_map (document_order tree.boxes) (roots bs) ≡ boxes_in (page_trace bs)
  page-ordered [] e = refl
  page-ordered (root ∷ rest) e =
      let some : length (root ∷ rest) ≡ length tree.boxes = ap length e in
      append-nil (document_order tree.boxes 0) ∙ (document_order-is tree.boxes 0 (forest tree) (omega arith) ∙ ap (λ (l : List ℕ). 0 ∷ l) (sym (root-traced (omega arith)).order))

  abbrev trace : List (ℕ × Placed ℤ)
  trace = page_trace tree.boxes

  rendering-is : (page_rendering tree w).boxes ≡ entries_in trace
  rendering-is = page-rendered tree.boxes refl

  order-is : page_order tree.boxes ≡ boxes_in trace
  order-is = page-ordered tree.boxes refl

  -- ---- entries

  is_in : (b : ℕ) (p : Placed ℤ) → IsEntryOf tree w b p → Contains trace (b, p)
  is_in b p i = from_places trace i.place b p (ap (λ (l : List ℕ). slice_get l i.place) (sym order-is) ∙ i.box) (ap (λ (l : List (Placed ℤ)). slice_get l i.place) (sym rendering-is) ∙ i.entry)

  -- a box has one entry
  only_one : (b : ℕ) (p q : Placed ℤ) → Contains trace (b, p) → Contains trace (b, q) → p ≡ q
  only_one b p q i j = by_order (cases_order m n)
    where
      m : ℕ
      m = i.0

      n : ℕ
      n = j.0

      box_at : (x : Placed ℤ) (i : Contains trace (b, x)) → slice_get (page_order tree.boxes) i.0 ≡ Some b
      box_at x i = ap (λ (l : List ℕ). slice_get l i.0) order-is ∙ map_place (λ (e : ℕ × Placed ℤ). e.0) trace i.0 (b, x) (member_place trace (b, x) i)

      within : (x : Placed ℤ) (i : Contains trace (b, x)) → i.0 < length (page_order tree.boxes)
      within x i = let l = i.1 in let same = ap (λ (l : List ℕ). length l) order-is in let map_same = length-map trace (λ (e : ℕ × Placed ℤ). e.0) in omega (arith, l, same, map_same)

      by_order : (m ≡ n) ⊎ ((m < n) ⊎ (n < m)) → p ≡ q
      by_order (inl e) =
          ap (λ (o : Option (ℕ × Placed ℤ)). option_map_or (λ (e : ℕ × Placed ℤ). e.1) o p)
          (sym (member_place trace (b, p) i) ∙ (ap (slice_get trace) e ∙ member_place trace (b, q) j))
      by_order (inr (inl l)) = absurd (page-distinct tree.boxes m n (forest tree) l (within q j) (box_at p i ∙ sym (box_at q j)))
      by_order (inr (inr l)) = absurd (page-distinct tree.boxes n m (forest tree) l (within p i) (box_at q j ∙ sym (box_at p i)))

  -- ---- the laws

  Stands : List (ℕ × Placed ℤ) → ℕ → Placed ℤ → Bool → Type 0
  Stands t a p opens = KidsStand tree w t a (content_of p) p.content.top p.border.top opens

  record PageStands (t : List (ℕ × Placed ℤ)) : Type 0 where
    root : Placed ℤ
    root_in : Contains t (0, root)
    root_stands : KidsStand tree w t 0 (content_of root) root.content.top root.border.top false
    others : (a : ℕ) (p : Placed ℤ) → Contains t (a, p) → (◌≡◌ {A = ℕ × Placed ℤ} (a, p) (0, root)) ⊎ KidsStand tree w t a (content_of p) p.content.top p.border.top (is_open_above tree a)

  root-band : content_from (pos 0) root_frame.x ≡ content_of root_entry
  root-band = same_band _ _ _ _ (omega (arith, ints)) (omega (arith, ints))
    where
      same_band : (a b c d : ℤ) → a ≡ c → b ≡ d → ◌≡◌ {A = Band ℤ} (record { left = a; right = b }) (record { left = c; right = d })
      same_band a b c d e f = cc

  root-edge : content_top root_frame ≡ root_entry.content.top
  root-edge = omega (arith, ints)

  root-content : 0 < length tree.boxes → KidsStand tree w root_content 0 (content_of root_entry) root_entry.content.top root_entry.border.top false × EachStands tree w root_content
  root-content l =
      let own = flow-stands tree w plain (length tree.boxes) 0 (content_from (pos 0) root_frame.x) (content_top root_frame) root_frame.corner.y (fresh (content_top root_frame)) false l (omega arith) refl refl in (
        subst (λ (t : ℤ). KidsStand tree w root_content 0 (content_of root_entry) t root_frame.corner.y false) root-edge
            (subst (λ (band : Band ℤ). KidsStand tree w root_content 0 band (content_top root_frame) root_frame.corner.y false) root-band own.0),
        own.1,
      )

  page-stands : (bs : List BoxNode) → bs ≡ tree.boxes → 0 < length bs → PageStands (page_trace bs)
  page-stands [] e l = absurd (omega arith)
  page-stands (root ∷ rest) e l =
      let some : length (root ∷ rest) ≡ length tree.boxes = ap length e in
      let own = root-content (omega arith) in
      record {
        root = root_entry;
        root_in = first_member _ refl;
        root_stands = stand-more tree w root_content ((0, root_entry) ∷ root_content) 0 (content_of root_entry) root_entry.content.top root_entry.border.top false (λ x i. later_member _ i) own.0;
        others = λ a p i. by_part a p own.1 (first_or_later (0, root_entry) root_content (a, p) i);
      }
    where
      by_part : (a : ℕ) (p : Placed ℤ) → EachStands tree w root_content → (◌≡◌ {A = ℕ × Placed ℤ} (0, root_entry) (a, p)) ⊎ Contains root_content (a, p)
          → (◌≡◌ {A = ℕ × Placed ℤ} (a, p) (0, root_entry)) ⊎ KidsStand tree w ((0, root_entry) ∷ root_content) a (content_of p) p.content.top p.border.top (is_open_above tree a)
      by_part a p each (inl e) = inl (sym e)
      by_part a p each (inr i) = inr (stand-more tree w root_content ((0, root_entry) ∷ root_content) a (content_of p) p.content.top p.border.top (is_open_above tree a) (λ x i. later_member _ i) (each a p i))

  stands : (a : ℕ) (outer : Placed ℤ) → IsEntryOf tree w a outer → PageStands trace
  stands a outer i = page-stands tree.boxes refl (not_empty tree.boxes i.place a i.box)
    where
      not_empty : (bs : List BoxNode) (i a : ℕ) → slice_get (flat_map (document_order tree.boxes) (roots bs)) i ≡ Some a → 0 < length bs
      not_empty [] i a e = absurd (cc)
      not_empty (b ∷ bs) i a e = omega arith

  -- of one entry
  first-at : (opens : Bool) (a : ℕ) (outer : Placed ℤ) → Stands trace a outer opens → (passed : List ℕ) (c : ℕ) (after : List ℕ) (lower : Placed ℤ) → IsEntryOf tree w c lower
      → kids_of tree.boxes a ≡ passed ++ c ∷ after → IsTrue (list_all (collapses tree w) passed)
      → lower.border.top ≡ edge_after (passed_by (started outer.border.top outer.content.top opens) (flat_map (all_margins tree w (content_of outer)) passed)) (leading tree w (content_of outer) c)
  unfolding Stands
  first-at opens a outer k passed c after lower i e t =
      let r = k.first passed c after e t in
      ap (λ (p : Placed ℤ). p.border.top) (only_one c lower r.0 (is_in c lower i) r.1) ∙ r.2

  next-at : (opens : Bool) (a : ℕ) (outer : Placed ℤ) → Stands trace a outer opens
      → (before : List ℕ) (b : ℕ) (passed : List ℕ) (c : ℕ) (after : List ℕ) (upper lower : Placed ℤ) → IsEntryOf tree w b upper → IsEntryOf tree w c lower
      → kids_of tree.boxes a ≡ before ++ b ∷ (passed ++ c ∷ after) → collapses tree w b ≡ false → IsTrue (list_all (collapses tree w) passed)
      → lower.border.top ≡ upper.border.bottom +ℤ collapsed (trailing tree w (content_of outer) b ++ (flat_map (all_margins tree w (content_of outer)) passed ++ leading tree w (content_of outer) c))
  unfolding Stands
  next-at opens a outer k before b passed c after upper lower i j e n t =
      let r = k.next before b passed c after e n t in
      ap (λ (p : Placed ℤ). p.border.top) (only_one c lower r.1 (is_in c lower j) r.3)
      ∙ (r.4 ∙ ap (λ (p : Placed ℤ). p.border.bottom +ℤ collapsed (trailing tree w (content_of outer) b ++ (flat_map (all_margins tree w (content_of outer)) passed ++ leading tree w (content_of outer) c)))
      (only_one b r.0 upper r.2 (is_in b upper i)))

  -- the root's own, or another box's
  root-or-other : (a : ℕ) (outer : Placed ℤ) → IsEntryOf tree w a outer → ((a ≡ 0) × Stands trace a outer false) ⊎ Stands trace a outer (is_open_above tree a)
  unfolding Stands
  root-or-other a outer i = by_part (page.others a outer (is_in a outer i))
    where
      page : PageStands trace
      page = stands a outer i

      stands_as : ℕ × Placed ℤ → Type 0
      stands_as e = KidsStand tree w trace e.0 (content_of e.1) e.1.content.top e.1.border.top false

      by_part : (◌≡◌ {A = ℕ × Placed ℤ} (a, outer) (0, page.root)) ⊎ KidsStand tree w trace a (content_of outer) outer.content.top outer.border.top (is_open_above tree a)
          → ((a ≡ 0) × stands_as (a, outer)) ⊎ KidsStand tree w trace a (content_of outer) outer.content.top outer.border.top (is_open_above tree a)
      by_part (inl e) = inl (ap (λ (x : ℕ × Placed ℤ). x.0) e, subst stands_as (sym e) page.root_stands)
      by_part (inr k) = inr k

  pub next-law : (a b c : ℕ) (before passed after : List ℕ) (outer upper lower : Placed ℤ) → IsEntryOf tree w a outer → IsEntryOf tree w b upper → IsEntryOf tree w c lower
      → kids_of tree.boxes a ≡ before ++ b ∷ (passed ++ c ∷ after) → collapses tree w b ≡ false → IsTrue (list_all (collapses tree w) passed)
      → lower.border.top ≡ upper.border.bottom +ℤ collapsed (trailing tree w (content_of outer) b ++ (flat_map (all_margins tree w (content_of outer)) passed ++ leading tree w (content_of outer) c))
  next-law a b c before passed after outer upper lower i j k e n t = by_part (root-or-other a outer i)
    where
      by_part : ((a ≡ 0) × Stands trace a outer false) ⊎ Stands trace a outer (is_open_above tree a)
          → lower.border.top ≡ upper.border.bottom +ℤ collapsed (trailing tree w (content_of outer) b ++ (flat_map (all_margins tree w (content_of outer)) passed ++ leading tree w (content_of outer) c))
      by_part (inl s) = next-at false a outer s.1 before b passed c after upper lower j k e n t
      by_part (inr s) = next-at (is_open_above tree a) a outer s before b passed c after upper lower j k e n t

  root-stands-independent : (outer : Placed ℤ) (i : IsEntryOf tree w 0 outer) → Stands trace 0 outer false
  unfolding Stands
  root-stands-independent outer i =
      let page = stands 0 outer i in
      subst (λ (p : Placed ℤ). KidsStand tree w trace 0 (content_of p) p.content.top p.border.top false) (only_one 0 page.root outer page.root_in (is_in 0 outer i)) page.root_stands

  pub joined-law : (a c : ℕ) (passed after : List ℕ) (outer lower : Placed ℤ) → IsEntryOf tree w a outer → IsEntryOf tree w c lower
      → kids_of tree.boxes a ≡ passed ++ c ∷ after → IsTrue (list_all (collapses tree w) passed) → 0 < a → is_open_above tree a ≡ true
      → lower.border.top ≡ outer.border.top
  joined-law a c passed after outer lower i j e t l o = by_part (root-or-other a outer i)
    where
      at : ℤ → ℤ → Bool → ℤ
      at y top opens = edge_after (passed_by (started y top opens) (flat_map (all_margins tree w (content_of outer)) passed)) (leading tree w (content_of outer) c)

      by_part : ((a ≡ 0) × Stands trace a outer false) ⊎ Stands trace a outer (is_open_above tree a) → lower.border.top ≡ outer.border.top
      by_part (inl s) = let none = s.0 in absurd (omega arith)
      by_part (inr s) = first-at (is_open_above tree a) a outer s passed c after lower j e t ∙ ap (at outer.border.top outer.content.top) o

  pub parted-law : (a c : ℕ) (passed after : List ℕ) (outer lower : Placed ℤ) → IsEntryOf tree w a outer → IsEntryOf tree w c lower
      → kids_of tree.boxes a ≡ passed ++ c ∷ after → IsTrue (list_all (collapses tree w) passed) → (a ≡ 0) ⊎ (is_open_above tree a ≡ false)
      → lower.border.top ≡ outer.content.top +ℤ collapsed (flat_map (all_margins tree w (content_of outer)) passed ++ leading tree w (content_of outer) c)
  parted-law a c passed after outer lower i j e t (inl root) =
      first-at false a outer (subst (λ (x : ℕ). IsEntryOf tree w x outer → Stands trace x outer false) (sym root) (root-stands-independent outer) i) passed c after lower j e t
  parted-law a c passed after outer lower i j e t (inr o) = by_part (root-or-other a outer i)
    where
      at : ℤ → ℤ → Bool → ℤ
      at y top opens = edge_after (passed_by (started y top opens) (flat_map (all_margins tree w (content_of outer)) passed)) (leading tree w (content_of outer) c)

      by_part : ((a ≡ 0) × Stands trace a outer false) ⊎ Stands trace a outer (is_open_above tree a)
          → lower.border.top ≡ outer.content.top +ℤ collapsed (flat_map (all_margins tree w (content_of outer)) passed ++ leading tree w (content_of outer) c)
      by_part (inl s) = first-at false a outer s.1 passed c after lower j e t
      by_part (inr s) = first-at (is_open_above tree a) a outer s passed c after lower j e t ∙ ap (at outer.border.top outer.content.top) o
