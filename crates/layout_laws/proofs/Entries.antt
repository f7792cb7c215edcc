-- The entries of a page are those of its boxes in document order.
use Rattle.std.proofs.Common.{◌≡◌, ℕ, zero, suc, ◌+◌, ◌<◌, ◌≤◌, ℤ, pos, ◌*◌, Bool, true, false, not, ◌||◌, ◌&&◌, IsTrue, List, [], ◌∷◌, ◌++◌, length, flat_map, map, refl, sym, ap, ◌∙◌, subst, arith, append-nil, Option, None, Some, slice_get}
use Rattle.std.specs.Option.{option_map_or}
use Rattle.std.specs.List.{AllByRecursion}
use Rattle.std.proofs.lemmas.List.Concat.{flat_map_single}
use Rattle.viz_base.specs.Trees.{is_floated, is_inline_level}
use Rattle.viz_base.specs.declared.layouts.Band.{Band}
use Rattle.viz_base.specs.declared.renderings.Rendering.{Rendering}
use Rattle.viz_base.specs.declared.trees.BoxNode.{BoxNode}
use Rattle.viz_base.specs.declared.trees.BoxTree.{BoxTree}
use Rattle.viz_base.specs.declared.trees.Kind.{Kind}
use Rattle.viz_base.specs.declared.worlds.World.{World}
use Rattle.layout_semantics.specs.Order.{kids_of, document_order, roots, page_order}
use Rattle.layout_semantics.specs.FlowBoxes.{flow_children}
use Rattle.layout_semantics.specs.InlineContent.{has_line, is_floated_at, is_inline_level_at}
use Rattle.layout_semantics.specs.Flow.{Progress, flow_to, flow_step, whole_independent, line_content}
use Rattle.layout_semantics.specs.Page.{page_rendering}
use Rattle.layout_semantics.proofs.BlocksAlone.{no_lines, all_flow, passes}
use Rattle.layout_semantics.proofs.Forest.{IsKid}
use Rattle.layout_semantics.proofs.Pages.{forest}
use Rattle.layout_laws.specs.Entries.{named_by, name_of, holds_blocks_alone}
use Rattle.layout_laws.proofs.Flowing.{Fills, entries, of_box, all_of, independent-entries, children-entries}

-- what laying out the lines of a box adds, where it has one
abbrev pub LinesFill : BoxTree → World → (Kind → Bool) → Type 0
LinesFill tree w counts =
    (inside : ℕ → Band ℤ → ℤ → Progress → Progress) (levels : ℕ) → Fills tree w counts inside levels
    → (b : ℕ) (cb : Band ℤ) (top : ℤ) (p : Progress) → b < length tree.boxes → length tree.boxes ≤ suc levels + b → has_line tree b ≡ true
    → entries tree w counts (line_content tree w inside b cb top p).boxes ≡ entries tree w counts p.boxes ++ flat_map (all_of tree w counts) (kids_of tree.boxes b)

-- the children in the flow of a box without lines are all that counts in it
pub record IsFlow (tree : BoxTree) (w : World) (counts : Kind → Bool) (b : ℕ) : Type 0 where
  pub same : flat_map (all_of tree w counts) (flow_children tree b) ≡ flat_map (all_of tree w counts) (kids_of tree.boxes b)
  pub inside : AllByRecursion (λ k. (b < k) × (k < length tree.boxes)) (flow_children tree b)

reached_all : (n levels b : ℕ) (ks : List ℕ) → n ≤ suc levels + b → AllByRecursion (λ k. (b < k) × (k < n)) ks → AllByRecursion (λ k. (k < n) × (n ≤ levels + k)) ks
reached_all n levels b [] l a = tt
reached_all n levels b (k ∷ ks) l a = let after = a.0.0 in ((a.0.1, omega arith), reached_all n levels b ks l a.1)

module _ (tree : BoxTree) (w : World) (counts : Kind → Bool) (lines : LinesFill tree w counts) (flows : (b : ℕ) → b < length tree.boxes → has_line tree b ≡ false → IsFlow tree w counts b) where
  pub flow-fills : (levels : ℕ) → Fills tree w counts (flow_to tree w levels) levels
  unfolding flow_to
  flow-fills zero b cb top p l m = absurd (omega arith)
  flow-fills (suc levels) b cb top p l m = by_sort (has_line tree b) refl (flow-fills levels)
    where
      by_sort : (has : Bool) → has_line tree b ≡ has → Fills tree w counts (flow_to tree w levels) levels
          → entries tree w counts (flow_step tree w (flow_to tree w levels) b cb top p).boxes ≡ entries tree w counts p.boxes ++ flat_map (all_of tree w counts) (kids_of tree.boxes b)
      by_sort true e again = rw e (lines (flow_to tree w levels) levels again b cb top p l m e)
      by_sort false e again =
          let own = flows b l e in
          rw e (children-entries tree w counts (flow_to tree w levels) levels again cb top p (flow_children tree b) (reached_all (length tree.boxes) levels b (flow_children tree b) m own.inside)
          ∙ ap (λ (l : List (Kind × ℕ)). entries tree w counts p.boxes ++ l) own.same)

  abbrev rendered : List BoxNode → Rendering ℤ
  rendered [] = record { boxes = [] }
  rendered (root ∷ rest) = record { boxes = (whole_independent tree w 0 (pos (64 * w.w))).boxes }

  rendered-entries : (bs : List BoxNode) → bs ≡ tree.boxes → entries tree w counts (rendered bs).boxes ≡ flat_map (of_box tree w counts) (flat_map (document_order tree.boxes) (roots bs))
  rendered-entries [] e = refl
  rendered-entries (root ∷ rest) e =
      let some : length (root ∷ rest) ≡ length tree.boxes = ap length e in
      independent-entries tree w counts (flow_to tree w (length tree.boxes)) (length tree.boxes) (flow-fills (length tree.boxes)) 0 (pos (64 * w.w)) (omega arith) (omega arith)
      ∙ ap (flat_map (of_box tree w counts)) (sym (append-nil (document_order tree.boxes 0)))

  pub page-entries : entries tree w counts (page_rendering tree w).boxes ≡ flat_map (of_box tree w counts) (page_order tree.boxes)
  page-entries = rendered-entries tree.boxes refl

-- ---- a page of blocks and floats alone

module _ (tree : BoxTree) (no_inline : (k : ℕ) → is_inline_level_at tree k ≡ false) where
  within : (b : ℕ) (ks : List ℕ) → AllByRecursion (IsKid tree.boxes b) ks → AllByRecursion (λ k. (b < k) × (k < length tree.boxes)) ks
  within b [] a = tt
  within b (k ∷ ks) a = ((a.0.after, a.0.within), within b ks a.1)

  flows : (w : World) (counts : Kind → Bool) (b : ℕ) → IsFlow tree w counts b
  flows w counts b = record {
    same = ap (flat_map (all_of tree w counts)) (all_flow tree no_inline b);
    inside = subst (AllByRecursion (λ k. (b < k) × (k < length tree.boxes))) (sym (all_flow tree no_inline b)) (within b (kids_of tree.boxes b) ((forest tree).kids b));
  }

  lines_none : (w : World) (counts : Kind → Bool) → LinesFill tree w counts
  lines_none w counts inside levels fills b cb top p l m e = absurd (let none = no_lines tree no_inline b in let no : true ≡ false = cc in different no)
    where
      different : true ≡ false → ⊥
      different e = grind arith

  pub no_inline-entries : (w : World) → map named_by (page_rendering tree w).boxes ≡ map (name_of tree) (page_order tree.boxes)
  no_inline-entries w =
      sym (flat_map_single named_by (page_rendering tree w).boxes)
      ∙ (page-entries tree w (λ kind. true) (lines_none w (λ kind. true)) (λ b l e. flows w (λ kind. true) b)
      ∙ flat_map_single (name_of tree) (page_order tree.boxes))

-- ---- blocks and floats alone

module _ (tree : BoxTree) (independent : IsTrue (holds_blocks_alone tree)) where
  no_inline : (k : ℕ) → is_inline_level_at tree k ≡ false
  unfolding is_floated_at is_inline_level_at
  no_inline k = by_box (slice_get tree.boxes k) refl
    where
      by_test : (floated inline : Bool) → IsTrue (floated || not inline) → (inline && not floated) ≡ false
      by_test true true t = refl
      by_test true false t = refl
      by_test false true t = absurd (cc)
      by_test false false t = refl

      by_box : (o : Option BoxNode) → slice_get tree.boxes k ≡ o → (option_map_or is_inline_level o false && not (option_map_or (is_floated tree.styles) o false)) ≡ false
      by_box None e = refl
      by_box (Some b) e = by_test (is_floated tree.styles b) (is_inline_level b) (passes (λ (b : BoxNode). is_floated tree.styles b || not (is_inline_level b)) tree.boxes k b independent e)

  pub blocks-entries : (w : World) → map named_by (page_rendering tree w).boxes ≡ map (name_of tree) (page_order tree.boxes)
  blocks-entries w = no_inline-entries tree no_inline w
