-- What fits wherever a walk comes to, place by place.
use Rattle.std.proofs.Common.{◌≡◌, ℕ, zero, suc, ◌<◌, ◌+◌, ℤ, List, [], ◌∷◌, drop, length, slice_index_or, ap, sym, subst, arith, drop-cons, ◌∙◌}
use Rattle.viz_base.specs.declared.layouts.Band.{Band}
use Rattle.viz_base.specs.declared.trees.BoxTree.{BoxTree}
use Rattle.viz_base.specs.declared.worlds.World.{World}
use Rattle.layout_semantics.specs.Flow.{Independent, Cleared}
use Rattle.layout_semantics.specs.Rectangles.{Frame}
use Rattle.lay_steps.specs.Flow.{Context}
use Rattle.lay_flow.specs.WalkFits.{Place, before_content, before_children, before_child, before_flow, when_reached, when_starting, when_going_on, ContentFits, ChildrenFit, ChildFits, FlowFits, LaidFits, AroundFits, StartFits, GoOnFits, PlaceFits, FitsTo, WalkFits, inner_end}

module _ (tree : BoxTree) (w : World) (apart : ℕ → Independent) where
  abbrev Walk : Place → Type 0
  Walk p = WalkFits tree w apart p

  -- ---- from a place to the next ones

  pub content-walk : (b : ℕ) (cb : Band ℤ) (top : ℤ) (s : Context) → Walk (before_content b cb top s) → ContentFits tree w apart Walk b cb top s
  unfolding FitsTo
  content-walk b cb top s f = record { in_lines = λ t. (f.each 1).in_lines t; in_boxes = λ t. record { each = λ n. (f.each (suc n)).in_boxes t } }

  pub children-walk : (cb : Band ℤ) (top : ℤ) (s : Context) (k : ℕ) (ks : List ℕ) → Walk (before_children cb top s (k ∷ ks)) → ChildrenFit tree w apart Walk cb top s k ks
  unfolding FitsTo
  children-walk cb top s k ks f = record { first = record { each = λ n. (f.each (suc n)).first }; others = record { each = λ n. (f.each (suc n)).others } }

  -- to one of several, and to those behind it
  pub kid-walk : (cb : Band ℤ) (top : ℤ) (s : Context) (ks : List ℕ) (i : ℕ) → i < length ks → Walk (before_children cb top s (drop i ks))
      → let k = slice_index_or ks i 0 in ChildrenFit tree w apart Walk cb top s k (drop (i + 1) ks)
  kid-walk cb top s ks i l f =
      let next : suc i ≡ i + 1 = omega arith in
      let k = slice_index_or ks i 0 in
      subst (λ n. ChildrenFit tree w apart Walk cb top s k (drop n ks)) next
      (children-walk cb top s k (drop (suc i) ks) (subst (λ l. Walk (before_children cb top s l)) (drop-cons ks i 0 l) f))

  pub child-walk : (cb : Band ℤ) (top : ℤ) (s : Context) (k : ℕ) → Walk (before_child cb top s k) → ChildFits tree w apart Walk cb top s k
  unfolding FitsTo
  child-walk cb top s k f = record { floats = λ t. (f.each 1).floats t; flows = λ t. record { each = λ n. (f.each (suc n)).flows t } }

  pub flow-walk : (cb : Band ℤ) (s : Context) (b : ℕ) → Walk (before_flow cb s b) → FlowFits tree w apart Walk cb s b
  unfolding FitsTo
  flow-walk cb s b f =
      let x = f.each 1 in
      record { reach = x.reach; standing = x.standing; inside = record { each = λ n. (f.each (suc n)).inside }; band = x.band; down = x.down; top_low = x.top_low; run = x.run }

  pub laid-walk : (cb : Band ℤ) (s : Context) (b : ℕ) (top : ℤ) (cleared : Cleared) → Walk (when_reached cb s b top cleared) → LaidFits tree w apart Walk cb s b top cleared
  unfolding FitsTo
  laid-walk cb s b top cleared f =
      let x = f.each 1 in
      record {
        band = x.band;
        top_low = x.top_low;
        shape = x.shape;
        frame = x.frame;
        least = x.least;
        replaced = x.replaced;
        root = λ t u. record { each = λ n. (f.each (suc n)).root t u };
        block = λ t u. record { each = λ n. (f.each (suc n)).block t u };
      }

  pub start-walk : (cb : Band ℤ) (s : Context) (b : ℕ) (f : Frame) → Walk (when_starting cb s b f) → StartFits tree w apart Walk cb s b f
  unfolding FitsTo
  start-walk cb s b frame f =
      let x = (f.each 1).around in
      record {
        least = (f.each 1).least;
        around = record { left = x.left; frame = x.frame; own_height = x.own_height; inside = record { each = λ n. (f.each (suc n)).around.inside }; end = x.end; bottom_low = x.bottom_low };
      }

  pub go-on-walk : (cb : Band ℤ) (s : Context) (b : ℕ) (cleared : Cleared) (f : Frame) → Walk (when_going_on cb s b cleared f) → GoOnFits tree w apart Walk cb s b cleared f
  unfolding FitsTo
  go-on-walk cb s b cleared frame f =
      let x = (f.each 1).around in
      record {
        least = (f.each 1).least;
        around = record { left = x.left; frame = x.frame; own_height = x.own_height; inside = record { each = λ n. (f.each (suc n)).around.inside }; end = x.end; bottom_low = x.bottom_low };
      }

  -- ---- what is kept from place to place, and is enough at each

  around-implied : (F G : Place → Type 0) → ((p : Place) → F p → G p) → (cb : Band ℤ) (b : ℕ) (f : Frame) (s : Context) (bottom : ℤ) → AroundFits tree w apart F cb b f s bottom → AroundFits tree w apart G cb b f s bottom
  around-implied F G implies cb b f s bottom x = record { left = x.left; frame = x.frame; own_height = x.own_height; inside = implies _ x.inside; end = x.end; bottom_low = x.bottom_low }

  place-implied : (F G : Place → Type 0) → ((p : Place) → F p → G p) → (p : Place) → PlaceFits tree w apart F p → PlaceFits tree w apart G p
  place-implied F G implies (before_content b cb top s) x = record { in_lines = x.in_lines; in_boxes = λ t. implies _ (x.in_boxes t) }
  place-implied F G implies (before_children cb top s []) x = tt
  place-implied F G implies (before_children cb top s (k ∷ ks)) x = record { first = implies _ x.first; others = implies _ x.others }
  place-implied F G implies (before_child cb top s k) x = record { floats = x.floats; flows = λ t. implies _ (x.flows t) }
  place-implied F G implies (before_flow cb s b) x = record { reach = x.reach; standing = x.standing; inside = implies _ x.inside; band = x.band; down = x.down; top_low = x.top_low; run = x.run }
  place-implied F G implies (when_reached cb s b top cleared) x = record {
    band = x.band;
    top_low = x.top_low;
    shape = x.shape;
    frame = x.frame;
    least = x.least;
    replaced = x.replaced;
    root = λ t u. implies _ (x.root t u);
    block = λ t u. implies _ (x.block t u);
  }
  place-implied F G implies (when_starting cb s b f) x = record { least = x.least; around = around-implied F G implies cb b f _ _ x.around }
  place-implied F G implies (when_going_on cb s b cleared f) x = record { least = x.least; around = around-implied F G implies cb b f _ _ x.around }

  fits-to : (F : Place → Type 0) → ((p : Place) → F p → PlaceFits tree w apart F p) → (n : ℕ) (p : Place) → F p → FitsTo tree w apart n p
  unfolding FitsTo
  fits-to F kept zero p x = tt
  fits-to F kept (suc n) p x = place-implied F (FitsTo tree w apart n) (fits-to F kept n) p (kept p x)

  pub walk-fits : (F : Place → Type 0) → ((p : Place) → F p → PlaceFits tree w apart F p) → (p : Place) → F p → Walk p
  walk-fits F kept p x = record { each = λ n. fits-to F kept n p x }

  -- ---- the same place by other names

  pub content-moved : (b : ℕ) (cb band : Band ℤ) (top y : ℤ) (s t : Context) → cb ≡ band → top ≡ y → s ≡ t → Walk (before_content b band y t) → Walk (before_content b cb top s)
  content-moved b cb band top y s t is at same f =
      subst (λ (x : Band ℤ). Walk (before_content b x top s)) (sym is)
      (subst (λ (x : ℤ). Walk (before_content b band x s)) (sym at)
      (subst (λ (x : Context). Walk (before_content b band y x)) (sym same) f))

  pub end-moved : (b : ℕ) (cb band : Band ℤ) (top y : ℤ) (s t : Context) → cb ≡ band → top ≡ y → s ≡ t → inner_end tree w apart b cb top s ≡ inner_end tree w apart b band y t
  end-moved b cb band top y s t is at same =
      ap (λ (x : Band ℤ). inner_end tree w apart b x top s) is
      ∙ ap (λ (x : ℤ). inner_end tree w apart b band x s) at
      ∙ ap (λ (x : Context). inner_end tree w apart b band y x) same
