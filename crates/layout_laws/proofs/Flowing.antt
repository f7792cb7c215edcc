-- What normal flow adds to a rendering: of each box that it reaches, the box and what is in it, in document order.
use Rattle.std.proofs.Common.{◌≡◌, ℕ, IsTrue, ◌||◌, not, ◌==◌, ◌+◌, ◌<◌, ◌≤◌, ℤ, ◌+ℤ◌, Bool, true, false, List, [], ◌∷◌, ◌++◌, length, flat_map, fold, refl, sym, ap, ◌∙◌, arith, append_assoc, append-nil, eqb-true, Option, None, Some, slice_get}
use Rattle.std.specs.Option.{option_map_or}
use Rattle.std.specs.List.{AllByRecursion}
use Rattle.std.proofs.lemmas.Grind.{flat_map-append}
use Rattle.viz_base.specs.declared.layouts.Band.{Band}
use Rattle.viz_base.specs.declared.layouts.Spot.{Spot}
use Rattle.viz_base.specs.declared.renderings.Placed.{Placed}
use Rattle.viz_base.specs.declared.trees.BoxNode.{BoxNode}
use Rattle.viz_base.specs.declared.trees.BoxTree.{BoxTree}
use Rattle.viz_base.specs.declared.trees.Kind.{Kind}
use Rattle.viz_base.specs.declared.trees.Kind.TheVariants as of_kind
use Rattle.viz_base.specs.Trees.{is_replaced, is_leaf}
use Rattle.viz_base.specs.declared.worlds.World.{World}
use Rattle.layout_semantics.specs.Lists.{one_if}
use Rattle.layout_semantics.specs.Order.{kids_of, document_order}
use Rattle.layout_semantics.specs.Blocks.{kind_of}
use Rattle.layout_semantics.specs.Rectangles.{Frame, content_top, shifted}
use Rattle.layout_semantics.specs.Verticals.{verticals}
use Rattle.layout_semantics.specs.Horizontal.{widths}
use Rattle.layout_semantics.specs.FlowBoxes.{inline_size, is_replaced_at, is_context_root, is_open_above, content_from}
use Rattle.layout_semantics.specs.InlineContent.{is_floated_at}
use Rattle.layout_semantics.specs.Flow.{Standing, at_top, below, Progress, Reached, Cleared, independent, float_child, laid_block, laid, fresh, opened, flow_child, child, reached}
use Rattle.layout_semantics.proofs.Pages.{forest}
use Rattle.layout_semantics.proofs.Orders.{document_order-is}
use Rattle.layout_laws.specs.Entries.{named_by, name_of}

-- a replaced box has none in it
pub replaced_holds_none : (tree : BoxTree) (b : ℕ) → is_replaced_at tree b ≡ true → kids_of tree.boxes b ≡ []
unfolding is_replaced_at
replaced_holds_none tree b e = by_box (slice_get tree.boxes b) refl e
  where
    by_kind : (kind : Kind) (ks : List ℕ) → is_replaced kind ≡ true → IsTrue (not (is_leaf kind) || (length ks == 0)) → ks ≡ []
    by_kind of_kind.Replaced [] e t = refl
    by_kind of_kind.Replaced (k ∷ ks) e t = absurd (let none = eqb-true (length (k ∷ ks)) 0 t in omega arith)
    by_kind _ ks e t = absurd (cc)

    by_box : (o : Option BoxNode) → slice_get tree.boxes b ≡ o → is_replaced (option_map_or (λ (x : BoxNode). x.kind) o of_kind.Block) ≡ true → option_map_or (λ (x : BoxNode). x.kids) o [] ≡ []
    by_box None e t = refl
    by_box (Some x) e t = by_kind x.kind x.kids t (tree.ok.each b x e).leaf

-- lists of lists of lists
pub flat_map-twice : {A B C : Type 0} (f : A → List B) (g : B → List C) (xs : List A) → flat_map g (flat_map f xs) ≡ flat_map (λ x. flat_map g (f x)) xs
flat_map-twice f g [] = refl
flat_map-twice {A} {B} {C} f g (x ∷ xs) = flat_map-append g (f x) (flat_map f xs) ∙ ap (λ (l : List C). flat_map g (f x) ++ l) (flat_map-twice f g xs)

-- the frame of a box in flow that is reached
abbrev pub frame_of : BoxTree → World → Band ℤ → ℕ → Reached → Frame
frame_of tree w cb k r = record {
  x = widths tree w k (inline_size cb);
  v = verticals tree w k (inline_size cb);
  corner = record { x = cb.left +ℤ (widths tree w k (inline_size cb)).margin_left; y = r.top };
}

module _ (tree : BoxTree) (w : World) (counts : Kind → Bool) where
  -- an entry, and a box, that counts
  abbrev pub of_entry : Placed ℤ → List (Kind × ℕ)
  of_entry p = one_if (counts p.kind) (named_by p)

  abbrev pub of_box : ℕ → List (Kind × ℕ)
  of_box k = one_if (counts (kind_of tree k)) (name_of tree k)

  abbrev pub entries : List (Placed ℤ) → List (Kind × ℕ)
  entries boxes = flat_map of_entry boxes

  -- a box and those in it
  abbrev pub all_of : ℕ → List (Kind × ℕ)
  all_of k = flat_map of_box (document_order tree.boxes k)

  pub entries-shifted : (by : Spot ℤ) (boxes : List (Placed ℤ)) → entries (shifted by boxes) ≡ entries boxes
  entries-shifted by [] = refl
  entries-shifted by (p ∷ ps) = ap (λ (l : List (Kind × ℕ)). of_entry p ++ l) (entries-shifted by ps)

  pub all_of-is : (k : ℕ) → k < length tree.boxes → all_of k ≡ of_box k ++ flat_map all_of (kids_of tree.boxes k)
  all_of-is k l = ap (flat_map of_box) (document_order-is tree.boxes k (forest tree) l) ∙ ap (λ (l : List (Kind × ℕ)). of_box k ++ l) (flat_map-twice (document_order tree.boxes) of_box (kids_of tree.boxes k))

  -- laying out the content of a box adds what is in the box
  abbrev pub Fills : (ℕ → Band ℤ → ℤ → Progress → Progress) → ℕ → Type 0
  Fills inside levels = (b : ℕ) (cb : Band ℤ) (top : ℤ) (p : Progress) → b < length tree.boxes → length tree.boxes ≤ levels + b → entries (inside b cb top p).boxes ≡ entries p.boxes ++ flat_map all_of (kids_of tree.boxes b)

  module _ (inside : ℕ → Band ℤ → ℤ → Progress → Progress) (levels : ℕ) (fills : Fills inside levels) where
    nothing_in : (b : ℕ) → is_replaced_at tree b ≡ true → [] ≡ flat_map all_of (kids_of tree.boxes b)
    nothing_in b e = ap (flat_map all_of) (sym (replaced_holds_none tree b e))

    pub independent-entries : (b : ℕ) (room : ℤ) → b < length tree.boxes → length tree.boxes ≤ levels + b → entries (independent tree w inside b room).boxes ≡ all_of b
    independent-entries b room l m = by_sort (is_replaced_at tree b) refl ∙ sym (all_of-is b l)
      where
        by_sort : (r : Bool) → is_replaced_at tree b ≡ r → entries (independent tree w inside b room).boxes ≡ of_box b ++ flat_map all_of (kids_of tree.boxes b)
        by_sort true e = rw e (ap (λ (l : List (Kind × ℕ)). of_box b ++ l) (nothing_in b e))
        by_sort false e = rw e (ap (λ (l : List (Kind × ℕ)). of_box b ++ l) (fills b _ _ (fresh _) l m))

    pub float-entries : (cb : Band ℤ) (top : ℤ) (p : Progress) (k : ℕ) → k < length tree.boxes → length tree.boxes ≤ levels + k → entries (float_child tree w inside cb top p k).boxes ≡ entries p.boxes ++ all_of k
    float-entries cb top p k l m = flat_map-append of_entry p.boxes _ ∙ ap (λ (l : List (Kind × ℕ)). entries p.boxes ++ l) (entries-shifted _ _ ∙ independent-entries k _ l m)

    -- a box and its content after what was there
    after : (before content : List (Placed ℤ)) (box : Placed ℤ) (k : ℕ) → k < length tree.boxes → of_entry box ≡ of_box k → entries content ≡ flat_map all_of (kids_of tree.boxes k) → entries (before ++ box ∷ content) ≡ entries before ++ all_of k
    after before content box k l e f =
        flat_map-append of_entry before (box ∷ content)
        ∙ ap (λ (l : List (Kind × ℕ)). entries before ++ l) (ap (λ (l : List (Kind × ℕ)). l ++ entries content) e ∙ (ap (λ (l : List (Kind × ℕ)). of_box k ++ l) f ∙ sym (all_of-is k l)))

    block-entries : (cb : Band ℤ) (p : Progress) (k : ℕ) (cleared : Cleared) (f : Frame) → k < length tree.boxes → length tree.boxes ≤ levels + k → entries (laid_block tree w inside cb p k cleared f).after.boxes ≡ entries p.boxes ++ all_of k
    block-entries cb p k cleared f l m =
        after p.boxes _ _ k l refl (fills k (content_from cb.left f.x) (content_top f) (opened tree w inside p f (start (is_open_above tree k))) l m)
      where
        start : Bool → Standing
        start true = at_top f.corner.y cleared
        start false = below (content_top f) [] false

    laid-entries : (cb : Band ℤ) (p : Progress) (k : ℕ) (r : Reached) → k < length tree.boxes → length tree.boxes ≤ levels + k → entries (laid tree w inside cb p k r).after.boxes ≡ entries p.boxes ++ all_of k
    laid-entries cb p k r l m = by_sort (is_replaced_at tree k) (is_context_root tree k) refl refl
      where
        by_sort : (replaced context : Bool) → is_replaced_at tree k ≡ replaced → is_context_root tree k ≡ context → entries (laid tree w inside cb p k r).after.boxes ≡ entries p.boxes ++ all_of k
        by_sort true context e f = rw e (after p.boxes [] _ k l refl (nothing_in k e))
        by_sort false true e f = rw (e, f) (after p.boxes _ _ k l refl (fills k _ _ (fresh _) l m))
        by_sort false false e f = rw (e, f) (block-entries cb p k r.cleared (frame_of tree w cb k r) l m)

    abbrev sorted : Band ℤ → ℤ → Progress → ℕ → Bool → Progress
    sorted cb top p k true = float_child tree w inside cb top p k
    sorted cb top p k false = flow_child tree w inside cb p k

    child-entries : (cb : Band ℤ) (top : ℤ) (p : Progress) (k : ℕ) → k < length tree.boxes → length tree.boxes ≤ levels + k → entries (child tree w inside cb top p k).boxes ≡ entries p.boxes ++ all_of k
    child-entries cb top p k l m = by_sort (is_floated_at tree k)
      where
        by_sort : (floats : Bool) → entries (sorted cb top p k floats).boxes ≡ entries p.boxes ++ all_of k
        by_sort true = float-entries cb top p k l m
        by_sort false = laid-entries cb p k (reached tree w inside cb p k) l m

    pub children-entries : (cb : Band ℤ) (top : ℤ) (p : Progress) (ks : List ℕ) → AllByRecursion (λ k. (k < length tree.boxes) × (length tree.boxes ≤ levels + k)) ks → entries (fold (child tree w inside cb top) p ks).boxes ≡ entries p.boxes ++ flat_map all_of ks
    children-entries cb top p [] a = sym (append-nil (entries p.boxes))
    children-entries cb top p (k ∷ ks) a =
        children-entries cb top (child tree w inside cb top p k) ks a.1
        ∙ (ap (λ (l : List (Kind × ℕ)). l ++ flat_map all_of ks) (child-entries cb top p k a.0.0 a.0.1) ∙ append_assoc (entries p.boxes) (all_of k) (flat_map all_of ks))
