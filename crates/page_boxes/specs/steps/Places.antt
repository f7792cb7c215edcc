-- The walk over boxes that gives each its place. It carries for each node the place of its box.
use Rattle.std.specs.Prelude.{ℕ, zero, suc, ◌||◌, ◌+◌, ◌-◌, ◌==◌, Bool, true, false, List, [], ◌∷◌, ◌++◌, length, slice_index_or, slice_set, Option, Some, None, option_map, unwrap_or, encode_utf8_all, if◌then◌else◌}
use Rattle.std.specs.Option.{option_map_or}
use Rattle.viz_base.specs.declared.trees.BoxNode.{BoxNode}
use Rattle.viz_base.specs.declared.trees.Kind.TheVariants as of_kind
use Rattle.layout_semantics.specs.BoxTrees.{is_block_level, is_floated_level}
use Rattle.layout_semantics.specs.Parts.{Part}

abbrev pub with_kid : ℕ → BoxNode → BoxNode
with_kid kid b = record b { kids = b.kids ++ kid ∷ [] }

abbrev pub with_kid_at : ℕ → ℕ → List BoxNode → List BoxNode
with_kid_at place kid [] = []
with_kid_at zero kid (b ∷ bs) = with_kid kid b ∷ bs
with_kid_at (suc place) kid (b ∷ bs) = b ∷ with_kid_at place kid bs

abbrev pub with_kid_in : Option ℕ → ℕ → List BoxNode → List BoxNode
with_kid_in None kid boxes = boxes
with_kid_in (Some place) kid boxes = with_kid_at place kid boxes

-- one more box, named in the one that it is in
abbrev pub with_box : List BoxNode → BoxNode → List BoxNode
with_box boxes b = with_kid_in b.parent (length boxes) boxes ++ b ∷ []

abbrev pub with_all : List BoxNode → List BoxNode → List BoxNode
with_all boxes [] = boxes
with_all boxes (b ∷ bs) = with_all (with_box boxes b) bs

-- boxes without the places of those in them
abbrev pub bare_anonymous : Part → Option ℕ → BoxNode
bare_anonymous p outer = record {
  kind = of_kind.Anon;
  node = unwrap_or p.parent 0;
  parent = outer;
  kids = [];
  chars = [];
  size = None;
  context = false;
  block_level = true;
}

abbrev pub bare_own : Part → Option ℕ → BoxNode
bare_own p outer = record {
  kind = p.kind;
  node = p.node;
  parent = outer;
  kids = [];
  chars = encode_utf8_all p.text;
  size = p.size;
  context = p.context;
  block_level = is_block_level p.level || is_floated_level p.level;
}

abbrev pub place_around : List ℕ → Option ℕ → Option ℕ
place_around places parent = option_map (λ node. slice_index_or places node 0) parent

abbrev pub begins : Part → Option ℕ → Bool
begins p lead = option_map_or (λ first. first == p.node) lead false

abbrev pub own_place_at : ℕ → Part → Option ℕ → ℕ
own_place_at count p lead = count + (if begins p lead then 1 else 0)

-- the place of the box that a part's is in: the anonymous block box before the first part's, or the parent's
abbrev pub outer_in : List ℕ → Option ℕ → Option ℕ → Option ℕ
outer_in places around None = around
outer_in places around (Some first) = Some (slice_index_or places first 0 - 1)

-- the anonymous block box that begins with a part, if one does
abbrev pub bare_begun : Part → Option ℕ → Option ℕ → List BoxNode
bare_begun p lead around = if begins p lead then bare_anonymous p around ∷ [] else []

abbrev pub bare_boxes : List ℕ → ℕ → Part → Option ℕ → List BoxNode
bare_boxes places count p lead =
    let around = place_around places p.parent in
    bare_begun p lead around
    ++ bare_own p (outer_in (slice_set places p.node (own_place_at count p lead)) around lead) ∷ []

abbrev pub places_walk : List ℕ → ℕ → List (Option ℕ) → ℕ → List Part → List BoxNode
places_walk places count leads at [] = []
places_walk places count leads at (p ∷ ps) =
    let lead = slice_index_or leads at None in
    bare_boxes places count p lead
    ++ places_walk (slice_set places p.node (own_place_at count p lead)) (own_place_at count p lead + 1) leads
    (at + 1) ps

-- how many boxes there are
abbrev pub count_walk : List (Option ℕ) → ℕ → List Part → ℕ
count_walk leads at [] = 0
count_walk leads at (p ∷ ps) = (if begins p (slice_index_or leads at None) then 2 else 1) + count_walk leads (at + 1) ps
