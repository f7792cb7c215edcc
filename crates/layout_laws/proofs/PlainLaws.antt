-- Where the blocks of a page stand in normal flow without floats and clearance.
use Rattle.std.proofs.Common.{◌≡◌, ℕ, zero, suc, ◌+◌, ◌<◌, ◌≤◌, ℤ, ◌+ℤ◌, Bool, true, false, ◌⊎◌, inl, inr, IsTrue, List, [], ◌∷◌, ◌++◌, flat_map, length, fold, refl, sym, ap, ◌∙◌, subst, arith, append-nil, append_assoc, Contains}
use Rattle.std.proofs.lemmas.List.Elements.{Contains-append_left, Contains-append_right, Contains-append_cases}
use Rattle.std.specs.List.{list_all, AllByRecursion}
use Rattle.std.proofs.lemmas.Grind.{fold-append}
use Rattle.std.proofs.lemmas.Int.{ints}
use Rattle.viz_base.specs.declared.layouts.Band.{Band}
use Rattle.viz_base.specs.declared.trees.BoxTree.{BoxTree}
use Rattle.viz_base.specs.declared.worlds.World.{World}
use Rattle.viz_base.specs.declared.renderings.Placed.{Placed}
use Rattle.viz_base.proofs.ListLemmas.{all_parts, later_member}
use Rattle.layout_semantics.specs.Order.{kids_of}
use Rattle.layout_semantics.specs.Margins.{collapsed}
use Rattle.layout_semantics.specs.Rectangles.{Frame, content_top, placed_box}
use Rattle.layout_semantics.specs.FlowBoxes.{is_replaced_at, is_context_root, is_open_above, content_from}
use Rattle.layout_semantics.specs.Flow.{Standing, at_top, below, Progress, Reached, reached, child, flow_to}
use Rattle.layout_semantics.proofs.Forest.{both}
use Rattle.layout_laws.specs.PlainFlow.{HasPlainBlocks, content_of, leading, all_margins, collapses, trailing}
use Rattle.layout_laws.proofs.Members.{no_member, first_member, first_or_later}
use Rattle.layout_laws.proofs.Flowing.{frame_of}
use Rattle.layout_laws.proofs.PlainSteps.{IsPlain, edge_after, passed_by, started, inner_start, inner_height, entry_of, reached-plain, Behaves, step, plain-after, kids_reached, flow-is, flow-behaves}
use Rattle.layout_laws.proofs.PlainTraces.{Tracing, content_trace, child_trace, children_trace, children_trace-append, trace_to, AreTraced, inner-floats, inner-standing, children-traced, children-ordered}

-- ---- passing boxes that collapse through

passed-none : (s : Standing) → passed_by s [] ≡ s
passed-none (at_top y cleared) = refl
passed-none (below edge run stuck) = ap (λ (l : List ℤ). below edge l stuck) (append-nil run)

passed-twice : (s : Standing) (m n : List ℤ) → passed_by (passed_by s m) n ≡ passed_by s (m ++ n)
passed-twice (at_top y cleared) m n = refl
passed-twice (below edge run stuck) m n = ap (λ (l : List ℤ). below edge l stuck) (append_assoc run m n)

-- ---- the laws of one box's children

module _ (tree : BoxTree) (w : World) where
  pub record KidsStand (trace : List (ℕ × Placed ℤ)) (b : ℕ) (cb : Band ℤ) (top y : ℤ) (opens : Bool) : Type 0 where
    pub first : (passed : List ℕ) (c : ℕ) (after : List ℕ) → kids_of tree.boxes b ≡ passed ++ c ∷ after → IsTrue (list_all (collapses tree w) passed)
        → (p : Placed ℤ) × Contains trace (c, p) × (p.border.top ≡ edge_after (passed_by (started y top opens) (flat_map (all_margins tree w cb) passed)) (leading tree w cb c))
    pub next : (before : List ℕ) (u : ℕ) (passed : List ℕ) (c : ℕ) (after : List ℕ) → kids_of tree.boxes b ≡ before ++ u ∷ (passed ++ c ∷ after)
        → collapses tree w u ≡ false → IsTrue (list_all (collapses tree w) passed)
        → (q : Placed ℤ) × (p : Placed ℤ) × Contains trace (u, q) × Contains trace (c, p)
        × (p.border.top ≡ q.border.bottom +ℤ collapsed (trailing tree w cb u ++ (flat_map (all_margins tree w cb) passed ++ leading tree w cb c)))

  -- in a longer trace
  pub stand-more : (trace more : List (ℕ × Placed ℤ)) (b : ℕ) (cb : Band ℤ) (top y : ℤ) (opens : Bool) → ((e : ℕ × Placed ℤ) → Contains trace e → Contains more e) → KidsStand trace b cb top y opens → KidsStand more b cb top y opens
  stand-more trace more b cb top y opens f k = record {
    first = λ passed c after e t. let r = k.first passed c after e t in (r.0, f (c, r.0) r.1, r.2);
    next = λ before u passed c after e n t. let r = k.next before u passed c after e n t in (r.0, r.1, f (u, r.0) r.2, f (c, r.1) r.3, r.4);
  }

  abbrev pub EachStands : List (ℕ × Placed ℤ) → Type 0
  EachStands trace = (a : ℕ) (p : Placed ℤ) → Contains trace (a, p) → KidsStand trace a (content_of p) p.content.top p.border.top (is_open_above tree a)

  abbrev pub AllStand : (ℕ → Band ℤ → ℤ → Progress → Progress) → Tracing → ℕ → Type 0
  AllStand inside traced levels = (b : ℕ) (cb : Band ℤ) (top y : ℤ) (p : Progress) (opens : Bool) → b < length tree.boxes → length tree.boxes ≤ levels + b
      → p.floats ≡ [] → p.standing ≡ started y top opens → KidsStand (traced b cb top p) b cb top y opens × EachStands (traced b cb top p)

  module _ (plain : HasPlainBlocks tree) (inside : ℕ → Band ℤ → ℤ → Progress → Progress) (traced : Tracing) (levels : ℕ) (behaves : Behaves tree w plain inside levels) (stand : AllStand inside traced levels) where
    abbrev Reach : ℕ → Type 0
    Reach k = (k < length tree.boxes) × (length tree.boxes ≤ levels + k)

    kept : (cb : Band ℤ) (top : ℤ) (ks : List ℕ) (p : Progress) → AllByRecursion Reach ks → p.floats ≡ [] → IsPlain p.standing
        → ((fold (child tree w inside cb top) p ks).floats ≡ []) × IsPlain (fold (child tree w inside cb top) p ks).standing
    kept cb top [] p a none i = (none, i)
    kept cb top (k ∷ ks) p a none i =
        let s = step tree w plain inside levels behaves cb top p k a.0.0 a.0.1 none i in
        kept cb top ks (child tree w inside cb top p k) a.1 s.floats (plain-after tree w plain inside levels behaves cb top p k i s)

    passed-all : (cb : Band ℤ) (top : ℤ) (ks : List ℕ) (p : Progress) → AllByRecursion Reach ks → p.floats ≡ [] → IsPlain p.standing → IsTrue (list_all (collapses tree w) ks)
        → (fold (child tree w inside cb top) p ks).standing ≡ passed_by p.standing (flat_map (all_margins tree w cb) ks)
    passed-all cb top [] p a none i t = sym (passed-none p.standing)
    passed-all cb top (k ∷ ks) p a none i t =
        let s = step tree w plain inside levels behaves cb top p k a.0.0 a.0.1 none i in
        let tests = both (collapses tree w k) (list_all (collapses tree w) ks) t in
        let next = child tree w inside cb top p k in
        passed-all cb top ks next a.1 s.floats (plain-after tree w plain inside levels behaves cb top p k i s) tests.1
        ∙ (ap (λ (s : Standing). passed_by s (flat_map (all_margins tree w cb) ks)) (s.passed tests.0)
        ∙ passed-twice p.standing (all_margins tree w cb k) (flat_map (all_margins tree w cb) ks))

    in-trace : (cb : Band ℤ) (top : ℤ) (p : Progress) (pre : List ℕ) (c : ℕ) (post : List ℕ)
        → Contains (children_trace tree w inside traced cb top p (pre ++ c ∷ post)) (c, entry_of tree w inside cb (fold (child tree w inside cb top) p pre) c)
    in-trace cb top p pre c post =
        subst (λ (l : List (ℕ × Placed ℤ)). Contains l (c, entry_of tree w inside cb (fold (child tree w inside cb top) p pre) c)) (sym (children_trace-append tree w inside traced cb top p pre (c ∷ post)))
        (Contains-append_right (children_trace tree w inside traced cb top p pre) _ _ (first_member _ refl))

    entry-top : (cb : Band ℤ) (p : Progress) (c : ℕ) → IsPlain p.standing → (entry_of tree w inside cb p c).border.top ≡ edge_after p.standing (leading tree w cb c)
    entry-top cb p c i = ap (λ (r : Reached). r.top) (reached-plain tree w plain inside cb p c i)

    -- ---- the children of one box

    module _ (b : ℕ) (cb : Band ℤ) (top y : ℤ) (p : Progress) (opens : Bool) (reach : AllByRecursion Reach (kids_of tree.boxes b)) (none : p.floats ≡ []) (start : p.standing ≡ started y top opens) where
      start-plain : IsPlain p.standing
      start-plain = subst IsPlain (sym start) (by_sort opens)
        where
          by_sort : (o : Bool) → IsPlain (started y top o)
          by_sort true = refl
          by_sort false = refl

      abbrev all : List (ℕ × Placed ℤ)
      all = children_trace tree w inside traced cb top p (kids_of tree.boxes b)

      after : List ℕ → Progress
      after ks = fold (child tree w inside cb top) p ks

      in-all : (pre : List ℕ) (c : ℕ) (post : List ℕ) → kids_of tree.boxes b ≡ pre ++ c ∷ post → Contains all (c, entry_of tree w inside cb (after pre) c)
      unfolding after
      in-all pre c post e = subst (λ (ks : List ℕ). Contains (children_trace tree w inside traced cb top p ks) (c, entry_of tree w inside cb (after pre) c)) (sym e) (in-trace cb top p pre c post)

      reach-left : (pre post : List ℕ) → kids_of tree.boxes b ≡ pre ++ post → AllByRecursion Reach pre
      reach-left pre post e = (all_parts Reach pre post (subst (AllByRecursion Reach) e reach)).0

      reach-right : (pre post : List ℕ) → kids_of tree.boxes b ≡ pre ++ post → AllByRecursion Reach post
      reach-right pre post e = (all_parts Reach pre post (subst (AllByRecursion Reach) e reach)).1

      first-stands : (passed : List ℕ) (c : ℕ) (post : List ℕ) → kids_of tree.boxes b ≡ passed ++ c ∷ post → IsTrue (list_all (collapses tree w) passed)
          → (entry_of tree w inside cb (after passed) c).border.top ≡ edge_after (passed_by (started y top opens) (flat_map (all_margins tree w cb) passed)) (leading tree w cb c)
      unfolding after
      first-stands passed c post e t =
          let r = reach-left passed (c ∷ post) e in
          entry-top cb (after passed) c (kept cb top passed p r none start-plain).1
          ∙ ap (λ (s : Standing). edge_after s (leading tree w cb c)) (passed-all cb top passed p r none start-plain t ∙ ap (λ (s : Standing). passed_by s (flat_map (all_margins tree w cb) passed)) start)

      next-stands : (before : List ℕ) (u : ℕ) (passed : List ℕ) (c : ℕ) (post : List ℕ) → kids_of tree.boxes b ≡ before ++ u ∷ (passed ++ c ∷ post)
          → collapses tree w u ≡ false → IsTrue (list_all (collapses tree w) passed)
          → (entry_of tree w inside cb (after (before ++ u ∷ passed)) c).border.top
          ≡ (entry_of tree w inside cb (after before) u).border.bottom +ℤ collapsed (trailing tree w cb u ++ (flat_map (all_margins tree w cb) passed ++ leading tree w cb c))
      unfolding after
      next-stands before u passed c post e n t =
          let ra = reach-left before (u ∷ (passed ++ c ∷ post)) e in
          let rb = reach-right before (u ∷ (passed ++ c ∷ post)) e in
          let rc = (all_parts Reach passed (c ∷ post) rb.1).0 in
          let k = kept cb top before p ra none start-plain in
          let s = step tree w plain inside levels behaves cb top (after before) u rb.0.0 rb.0.1 k.0 k.1 in
          let i = plain-after tree w plain inside levels behaves cb top (after before) u k.1 s in
          let mid = child tree w inside cb top (after before) u in
          let split = fold-append (child tree w inside cb top) p before (u ∷ passed) in
          let here = kept cb top passed mid rc s.floats i in
          let stands = passed-all cb top passed mid rc s.floats i t ∙ ap (λ (s : Standing). passed_by s (flat_map (all_margins tree w cb) passed)) (s.stands n) in
          ap (λ (q : Progress). (entry_of tree w inside cb q c).border.top) split
          ∙ (entry-top cb (fold (child tree w inside cb top) mid passed) c here.1
          ∙ (ap (λ (s : Standing). edge_after s (leading tree w cb c)) stands
          ∙ ap (λ (l : List ℤ). (entry_of tree w inside cb (after before) u).border.bottom +ℤ collapsed l) (append_assoc (trailing tree w cb u) (flat_map (all_margins tree w cb) passed) (leading tree w cb c))))

      pub kids-stand : KidsStand all b cb top y opens
      kids-stand = record {
        first = λ passed c post e t. (entry_of tree w inside cb (after passed) c, in-all passed c post e, first-stands passed c post e t);
        next = λ before u passed c post e n t. (
          entry_of tree w inside cb (after before) u,
          entry_of tree w inside cb (after (before ++ u ∷ passed)) c,
          in-all before u (passed ++ c ∷ post) e,
          in-all (before ++ u ∷ passed) c post (e ∙ sym (append_assoc before (u ∷ passed) (c ∷ post))),
          next-stands before u passed c post e n t,
        );
      }

    -- ---- the boxes in them

    -- a box's rectangles and its frame
    content-band : (k : ℕ) (cb : Band ℤ) (r : Reached) (h : ℤ) → content_from cb.left (frame_of tree w cb k r).x ≡ content_of (placed_box tree k (frame_of tree w cb k r) h)
    content-band k cb r h = same_band _ _ _ _ (omega (arith, ints)) (omega (arith, ints))
      where
        same_band : (a b c d : ℤ) → a ≡ c → b ≡ d → ◌≡◌ {A = Band ℤ} (record { left = a; right = b }) (record { left = c; right = d })
        same_band a b c d e f = cc

    content-edge : (k : ℕ) (cb : Band ℤ) (r : Reached) (h : ℤ) → content_top (frame_of tree w cb k r) ≡ (placed_box tree k (frame_of tree w cb k r) h).content.top
    content-edge k cb r h = omega (arith, ints)

    abbrev framed : Band ℤ → Progress → ℕ → Frame
    framed cb p k = frame_of tree w cb k (reached tree w inside cb p k)

    content-stands : (cb : Band ℤ) (p : Progress) (k : ℕ) → Reach k → p.floats ≡ []
        → KidsStand (content_trace tree w inside traced cb p k (framed cb p k)) k (content_of (entry_of tree w inside cb p k)) (entry_of tree w inside cb p k).content.top (entry_of tree w inside cb p k).border.top (is_open_above tree k)
        × EachStands (content_trace tree w inside traced cb p k (framed cb p k))
    content-stands cb p k r none =
        let f = framed cb p k in
        let own = stand k (content_from cb.left f.x) (content_top f) f.corner.y (inner_start tree w inside p k f (is_context_root tree k)) (is_open_above tree k) r.0 r.1 (inner-floats tree w inside p k f (is_context_root tree k) none) (inner-standing tree w inside p k f) in (
          subst (λ (t : ℤ). KidsStand (content_trace tree w inside traced cb p k f) k (content_of (entry_of tree w inside cb p k)) t f.corner.y (is_open_above tree k)) (content-edge k cb (reached tree w inside cb p k) (inner_height tree w inside cb p k f (is_replaced_at tree k) (is_context_root tree k)))
              (subst (λ (band : Band ℤ). KidsStand (content_trace tree w inside traced cb p k f) k band (content_top f) f.corner.y (is_open_above tree k)) (content-band k cb (reached tree w inside cb p k) (inner_height tree w inside cb p k f (is_replaced_at tree k) (is_context_root tree k))) own.0),
          own.1,
        )

    child-each : (cb : Band ℤ) (p : Progress) (k : ℕ) → Reach k → p.floats ≡ [] → EachStands (child_trace tree w inside traced cb p k)
    child-each cb p k r none a q i = by_part (first_or_later (k, entry_of tree w inside cb p k) content (a, q) i)
      where
        content : List (ℕ × Placed ℤ)
        content = content_trace tree w inside traced cb p k (framed cb p k)

        own : KidsStand content k (content_of (entry_of tree w inside cb p k)) (entry_of tree w inside cb p k).content.top (entry_of tree w inside cb p k).border.top (is_open_above tree k) × EachStands content
        own = content-stands cb p k r none

        stands_as : ℕ × Placed ℤ → Type 0
        stands_as e = KidsStand (child_trace tree w inside traced cb p k) e.0 (content_of e.1) e.1.content.top e.1.border.top (is_open_above tree e.0)

        by_part : (◌≡◌ {A = ℕ × Placed ℤ} (k, entry_of tree w inside cb p k) (a, q)) ⊎ Contains content (a, q) → stands_as (a, q)
        by_part (inl same) = subst stands_as same (stand-more content (child_trace tree w inside traced cb p k) k _ _ _ (is_open_above tree k) (λ e j. later_member _ j) own.0)
        by_part (inr j) = stand-more content (child_trace tree w inside traced cb p k) a _ _ _ (is_open_above tree a) (λ e h. later_member _ h) (own.1 a q j)

    children-each : (cb : Band ℤ) (top : ℤ) (ks : List ℕ) (p : Progress) → AllByRecursion Reach ks → p.floats ≡ [] → IsPlain p.standing → EachStands (children_trace tree w inside traced cb top p ks)
    children-each cb top [] p r none i a q j = no_member j
    children-each cb top (k ∷ ks) p r none i a q j =
        let s = step tree w plain inside levels behaves cb top p k r.0.0 r.0.1 none i in
        let next = child tree w inside cb top p k in
        by_part (Contains-append_cases (child_trace tree w inside traced cb p k) (children_trace tree w inside traced cb top next ks) (a, q) j)
        (children-each cb top ks next r.1 s.floats (plain-after tree w plain inside levels behaves cb top p k i s))
      where
        first : List (ℕ × Placed ℤ)
        first = child_trace tree w inside traced cb p k

        rest : List (ℕ × Placed ℤ)
        rest = children_trace tree w inside traced cb top (child tree w inside cb top p k) ks

        by_part : Contains first (a, q) ⊎ Contains rest (a, q) → EachStands rest → KidsStand (first ++ rest) a (content_of q) q.content.top q.border.top (is_open_above tree a)
        by_part (inl h) again = stand-more first (first ++ rest) a _ _ _ (is_open_above tree a) (λ e g. Contains-append_left first rest e g) (child-each cb p k r.0 none a q h)
        by_part (inr h) again = stand-more rest (first ++ rest) a _ _ _ (is_open_above tree a) (λ e g. Contains-append_right first rest e g) (again a q h)

  -- ---- all levels

  module _ (plain : HasPlainBlocks tree) where
    started-plain : (y top : ℤ) (o : Bool) → IsPlain (started y top o)
    started-plain y top true = refl
    started-plain y top false = refl

    pub flow-traced : (levels : ℕ) → AreTraced tree w (flow_to tree w levels) (trace_to tree w levels) levels
    unfolding trace_to
    flow-traced zero b cb top y p opens l m none start = absurd (omega arith)
    flow-traced (suc levels) b cb top y p opens l m none start =
        let i = subst IsPlain (sym start) (started-plain y top opens) in
        let inside = flow_to tree w levels in
        let traced = trace_to tree w levels in
        let kids = kids_of tree.boxes b in
        let reach = kids_reached tree w plain levels b m in
        record {
          boxes = ap (λ (q : Progress). q.boxes) (flow-is tree w plain levels b cb top p) ∙ children-traced tree w plain inside traced levels (flow-behaves tree w plain levels) (flow-traced levels) cb top kids p reach none i;
          order = children-ordered tree w plain inside traced levels (flow-behaves tree w plain levels) (flow-traced levels) cb top kids p reach none i;
        }

    pub flow-stands : (levels : ℕ) → AllStand (flow_to tree w levels) (trace_to tree w levels) levels
    unfolding trace_to
    flow-stands zero b cb top y p opens l m none start = absurd (omega arith)
    flow-stands (suc levels) b cb top y p opens l m none start =
        let i = subst IsPlain (sym start) (started-plain y top opens) in
        let inside = flow_to tree w levels in
        let traced = trace_to tree w levels in
        let reach = kids_reached tree w plain levels b m in (
          kids-stand plain inside traced levels (flow-behaves tree w plain levels) (flow-stands levels) b cb top y p opens reach none start,
          children-each plain inside traced levels (flow-behaves tree w plain levels) (flow-stands levels) cb top (kids_of tree.boxes b) p reach none i,
        )
