-- The boxes of a page with their entries, as normal flow without floats and clearance reaches them.
use Rattle.std.proofs.Common.{◌≡◌, ℕ, zero, suc, ◌+◌, ◌<◌, ◌≤◌, ℤ, Bool, true, false, List, [], ◌∷◌, ◌++◌, map, flat_map, length, fold, refl, sym, ap, ◌∙◌, subst, append-nil, append_assoc}
use Rattle.std.specs.List.{AllByRecursion}
use Rattle.std.proofs.lemmas.List.{map-append}
use Rattle.viz_base.specs.declared.layouts.Band.{Band}
use Rattle.viz_base.specs.declared.trees.BoxTree.{BoxTree}
use Rattle.viz_base.specs.declared.worlds.World.{World}
use Rattle.viz_base.specs.declared.renderings.Placed.{Placed}
use Rattle.layout_semantics.specs.Order.{kids_of, document_order}
use Rattle.layout_semantics.specs.Rectangles.{Frame, content_top, placed_box}
use Rattle.layout_semantics.specs.FlowBoxes.{is_replaced_at, is_context_root, is_open_above, content_from}
use Rattle.layout_semantics.specs.Flow.{Progress, reached, laid, child, flow_to}
use Rattle.layout_semantics.proofs.Pages.{forest}
use Rattle.layout_semantics.proofs.Orders.{document_order-is}
use Rattle.layout_laws.specs.PlainFlow.{HasPlainBlocks, leading}
use Rattle.layout_laws.proofs.Flowing.{frame_of, replaced_holds_none}
use Rattle.layout_laws.proofs.PlainSteps.{IsPlain, edge_after, plainly_reached, started, inner_start, inner, inner_height, entry_in, entry_of, reached-plain, Behaves, step, plain-after, context-above}

-- a way to trace the content of a box
abbrev pub Tracing : Type 0
Tracing = ℕ → Band ℤ → ℤ → Progress → List (ℕ × Placed ℤ)

abbrev pub boxes_in : List (ℕ × Placed ℤ) → List ℕ
boxes_in trace = map (λ (e : ℕ × Placed ℤ). e.0) trace

abbrev pub entries_in : List (ℕ × Placed ℤ) → List (Placed ℤ)
entries_in trace = map (λ (e : ℕ × Placed ℤ). e.1) trace

module _ (tree : BoxTree) (w : World) where
  module _ (inside : ℕ → Band ℤ → ℤ → Progress → Progress) (traced : Tracing) where
    abbrev pub content_trace : Band ℤ → Progress → ℕ → Frame → List (ℕ × Placed ℤ)
    content_trace cb p k f = traced k (content_from cb.left f.x) (content_top f) (inner_start tree w inside p k f (is_context_root tree k))

    abbrev pub child_trace : Band ℤ → Progress → ℕ → List (ℕ × Placed ℤ)
    child_trace cb p k = (k, entry_of tree w inside cb p k) ∷ content_trace cb p k (frame_of tree w cb k (reached tree w inside cb p k))

    abbrev pub children_trace : Band ℤ → ℤ → Progress → List ℕ → List (ℕ × Placed ℤ)
    children_trace cb top p [] = []
    children_trace cb top p (k ∷ ks) = child_trace cb p k ++ children_trace cb top (child tree w inside cb top p k) ks

    pub children_trace-append : (cb : Band ℤ) (top : ℤ) (p : Progress) (xs ys : List ℕ) → children_trace cb top p (xs ++ ys) ≡ children_trace cb top p xs ++ children_trace cb top (fold (child tree w inside cb top) p xs) ys
    children_trace-append cb top p [] ys = refl
    children_trace-append cb top p (x ∷ xs) ys =
        ap (λ (l : List (ℕ × Placed ℤ)). child_trace cb p x ++ l) (children_trace-append cb top (child tree w inside cb top p x) xs ys)
        ∙ sym (append_assoc (child_trace cb p x) (children_trace cb top (child tree w inside cb top p x) xs) (children_trace cb top (fold (child tree w inside cb top) (child tree w inside cb top p x) xs) ys))

  unfoldable pub trace_to : ℕ → Tracing
  trace_to zero b cb top p = []
  trace_to (suc levels) b cb top p = children_trace (flow_to tree w levels) (trace_to levels) cb top p (kids_of tree.boxes b)

  -- what a trace has
  pub record IsTrace (inside : ℕ → Band ℤ → ℤ → Progress → Progress) (traced : Tracing) (b : ℕ) (cb : Band ℤ) (top : ℤ) (p : Progress) : Type 0 where
    pub boxes : (inside b cb top p).boxes ≡ p.boxes ++ entries_in (traced b cb top p)
    pub order : boxes_in (traced b cb top p) ≡ flat_map (document_order tree.boxes) (kids_of tree.boxes b)

  abbrev pub AreTraced : (ℕ → Band ℤ → ℤ → Progress → Progress) → Tracing → ℕ → Type 0
  AreTraced inside traced levels = (b : ℕ) (cb : Band ℤ) (top y : ℤ) (p : Progress) (opens : Bool) → b < length tree.boxes → length tree.boxes ≤ levels + b
      → p.floats ≡ [] → p.standing ≡ started y top opens → IsTrace inside traced b cb top p

  -- how the content of a box begins
  pub inner-floats : (inside : ℕ → Band ℤ → ℤ → Progress → Progress) (p : Progress) (k : ℕ) (f : Frame) (context : Bool) → p.floats ≡ [] → (inner_start tree w inside p k f context).floats ≡ []
  inner-floats inside p k f true e = refl
  inner-floats inside p k f false e = e

  pub inner-standing : (inside : ℕ → Band ℤ → ℤ → Progress → Progress) (p : Progress) (k : ℕ) (f : Frame) → (inner_start tree w inside p k f (is_context_root tree k)).standing ≡ started f.corner.y (content_top f) (is_open_above tree k)
  inner-standing inside p k f = by_sort (is_context_root tree k) refl
    where
      by_sort : (c : Bool) → is_context_root tree k ≡ c → (inner_start tree w inside p k f c).standing ≡ started f.corner.y (content_top f) (is_open_above tree k)
      by_sort true e = ap (started f.corner.y (content_top f)) (sym (context-above tree w k e))
      by_sort false e = refl

  inner-boxes : (inside : ℕ → Band ℤ → ℤ → Progress → Progress) (p : Progress) (k : ℕ) (f : Frame) (context : Bool) → (inner_start tree w inside p k f context).boxes ≡ []
  inner-boxes inside p k f true = refl
  inner-boxes inside p k f false = refl

  pub map_none : (trace : List (ℕ × Placed ℤ)) → boxes_in trace ≡ [] → trace ≡ []
  map_none [] e = refl
  map_none (e ∷ es) g = absurd (cc)

  module _ (plain : HasPlainBlocks tree) (inside : ℕ → Band ℤ → ℤ → Progress → Progress) (traced : Tracing) (levels : ℕ) (behaves : Behaves tree w plain inside levels) (are : AreTraced inside traced levels) where
    content-is : (cb : Band ℤ) (p : Progress) (k : ℕ) (f : Frame) → k < length tree.boxes → length tree.boxes ≤ levels + k → p.floats ≡ []
        → IsTrace inside traced k (content_from cb.left f.x) (content_top f) (inner_start tree w inside p k f (is_context_root tree k))
    content-is cb p k f l m none = are k (content_from cb.left f.x) (content_top f) f.corner.y (inner_start tree w inside p k f (is_context_root tree k)) (is_open_above tree k) l m (inner-floats inside p k f (is_context_root tree k) none) (inner-standing inside p k f)

    laid-traced : (cb : Band ℤ) (p : Progress) (k : ℕ) (y : ℤ) → k < length tree.boxes → length tree.boxes ≤ levels + k → p.floats ≡ []
        → (laid tree w inside cb p k (plainly_reached y)).after.boxes ≡ p.boxes ++ (entry_in tree w inside cb p k (frame_of tree w cb k (plainly_reached y)) ∷ entries_in (content_trace inside traced cb p k (frame_of tree w cb k (plainly_reached y))))
    laid-traced cb p k y l m none = by_sort (is_replaced_at tree k) (is_context_root tree k) refl refl
      where
        frame : Frame
        frame = frame_of tree w cb k (plainly_reached y)

        own : IsTrace inside traced k (content_from cb.left frame.x) (content_top frame) (inner_start tree w inside p k frame (is_context_root tree k))
        own = content-is cb p k frame l m none

        content : (c : Bool) → is_context_root tree k ≡ c → (inner tree w inside cb p k frame c).boxes ≡ entries_in (traced k (content_from cb.left frame.x) (content_top frame) (inner_start tree w inside p k frame c))
        content c e = subst (λ (c : Bool). (inner tree w inside cb p k frame c).boxes ≡ entries_in (traced k (content_from cb.left frame.x) (content_top frame) (inner_start tree w inside p k frame c))) e
            (own.boxes ∙ ap (λ (l : List (Placed ℤ)). l ++ entries_in (content_trace inside traced cb p k frame)) (inner-boxes inside p k frame (is_context_root tree k)))

        after : (replaced context : Bool) → List (Placed ℤ) → List (Placed ℤ)
        after replaced context l = p.boxes ++ placed_box tree k frame (inner_height tree w inside cb p k frame replaced context) ∷ l

        by_sort : (replaced context : Bool) → is_replaced_at tree k ≡ replaced → is_context_root tree k ≡ context
            → (laid tree w inside cb p k (plainly_reached y)).after.boxes ≡ p.boxes ++ (entry_in tree w inside cb p k frame ∷ entries_in (content_trace inside traced cb p k frame))
        by_sort true context e f =
            let none_in = map_none (content_trace inside traced cb p k frame) (own.order ∙ ap (flat_map (document_order tree.boxes)) (replaced_holds_none tree k e)) in
            rw (none_in, e)
        by_sort false true e f = rw (e, f) (ap (after false true) (content true f))
        by_sort false false e f = rw (e, f) (ap (after false false) (content false f))

    -- ---- a child

    child-traced : (cb : Band ℤ) (top : ℤ) (p : Progress) (k : ℕ) → k < length tree.boxes → length tree.boxes ≤ levels + k → p.floats ≡ [] → IsPlain p.standing
        → (child tree w inside cb top p k).boxes ≡ p.boxes ++ entries_in (child_trace inside traced cb p k)
    child-traced cb top p k l m none i = rw (plain.no_float k, reached-plain tree w plain inside cb p k i) (laid-traced cb p k (edge_after p.standing (leading tree w cb k)) l m none)

    child-ordered : (cb : Band ℤ) (p : Progress) (k : ℕ) → k < length tree.boxes → length tree.boxes ≤ levels + k → p.floats ≡ [] → boxes_in (child_trace inside traced cb p k) ≡ document_order tree.boxes k
    child-ordered cb p k l m none =
        ap (λ (ks : List ℕ). k ∷ ks) (content-is cb p k (frame_of tree w cb k (reached tree w inside cb p k)) l m none).order
        ∙ sym (document_order-is tree.boxes k (forest tree) l)

    -- ---- all children

    abbrev pub Reached-kids : List ℕ → Type 0
    Reached-kids ks = AllByRecursion (λ k. (k < length tree.boxes) × (length tree.boxes ≤ levels + k)) ks

    pub children-traced : (cb : Band ℤ) (top : ℤ) (ks : List ℕ) (p : Progress) → Reached-kids ks → p.floats ≡ [] → IsPlain p.standing
        → (fold (child tree w inside cb top) p ks).boxes ≡ p.boxes ++ entries_in (children_trace inside traced cb top p ks)
    children-traced cb top [] p a none i = sym (append-nil p.boxes)
    children-traced cb top (k ∷ ks) p a none i =
        let s = step tree w plain inside levels behaves cb top p k a.0.0 a.0.1 none i in
        let next = child tree w inside cb top p k in
        children-traced cb top ks next a.1 s.floats (plain-after tree w plain inside levels behaves cb top p k i s)
        ∙ (ap (λ (l : List (Placed ℤ)). l ++ entries_in (children_trace inside traced cb top next ks)) (child-traced cb top p k a.0.0 a.0.1 none i)
        ∙ (append_assoc p.boxes (entries_in (child_trace inside traced cb p k)) (entries_in (children_trace inside traced cb top next ks))
        ∙ ap (λ (l : List (Placed ℤ)). p.boxes ++ l) (sym (map-append (λ (e : ℕ × Placed ℤ). e.1) (child_trace inside traced cb p k) (children_trace inside traced cb top next ks)))))

    pub children-ordered : (cb : Band ℤ) (top : ℤ) (ks : List ℕ) (p : Progress) → Reached-kids ks → p.floats ≡ [] → IsPlain p.standing
        → boxes_in (children_trace inside traced cb top p ks) ≡ flat_map (document_order tree.boxes) ks
    children-ordered cb top [] p a none i = refl
    children-ordered cb top (k ∷ ks) p a none i =
        let s = step tree w plain inside levels behaves cb top p k a.0.0 a.0.1 none i in
        let next = child tree w inside cb top p k in
        map-append (λ (e : ℕ × Placed ℤ). e.0) (child_trace inside traced cb p k) (children_trace inside traced cb top next ks)
        ∙ (ap (λ (l : List ℕ). l ++ boxes_in (children_trace inside traced cb top next ks)) (child-ordered cb p k a.0.0 a.0.1 none)
        ∙ ap (λ (l : List ℕ). document_order tree.boxes k ++ l) (children-ordered cb top ks next a.1 s.floats (plain-after tree w plain inside levels behaves cb top p k i s)))
