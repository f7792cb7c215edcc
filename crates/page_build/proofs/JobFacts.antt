-- What a job keeps of the boxes of its page.
use Rattle.std.proofs.Common.{◌≡◌, ℕ, ◌+◌, ◌≤◌, Bool, true, false, nat_lt, List, [], ◌∷◌, length, Option, Some, None, Ok, refl, sym, ap, subst, arith, ltb-false}
use Rattle.std.specs.Prelude.{sum_by}
use Rattle.std.specs.Str.{chars}
use Rattle.viz_base.specs.Pages.{IsPage}
use Rattle.viz_base.specs.Reaches.{beyond_reach}
use Rattle.viz_base.specs.declared.fonts.Font.{Font}
use Rattle.viz_base.specs.declared.nodes.Node.{Node}
use Rattle.viz_base.specs.declared.styles.Style.{Style}
use Rattle.viz_base.specs.declared.trees.BoxNode.{BoxNode}
use Rattle.layout_semantics.specs.BoxTrees.{page_boxes, page_parts, tree_parents, tree_styles}
use Rattle.layout_semantics.specs.Parts.{Part}
use Rattle.layout_semantics.specs.Refusals.{BoxRefusal, blocks_in_inlines, first_refusal, page_refusal, right_to_left_letters}
use Rattle.layout_laws.proofs.TextTotals.{letters_within}
use Rattle.page_json.specs.Jobs.{characters, raw_of}
use Rattle.viz_base.specs.declared.sheets.Sheet.{Sheet}
use Rattle.page_pseudo.specs.Growth.{Growth}
use Rattle.page_build.specs.Jobs.{HasGrowth}
use Rattle.page_build.proofs.GrownOrder.{grown-characters}
use Rattle.page_boxes.specs.Trees.{TreeLists, lists_of, page_tree, unless_refused}
use Rattle.page_pseudo.proofs.GrownPages.{grown_page}
use Rattle.page_build.specs.Seen.{IsLaid}
use Rattle.page_build.specs.declared.building.Laid.{Laid}
use Rattle.page_build.specs.declared.files.JobFile.{JobFile}

-- ---- trees within their limits

pub record IsWithin (most : ℕ) (tree : TreeLists) : Type 0 where
  pub few_boxes : length tree.boxes ≤ 16384
  pub few_characters : sum_by (λ (b : BoxNode). length (chars b.chars)) tree.boxes ≤ most
  pub reach : beyond_reach tree.styles tree.parents tree.fonts tree.boxes ≡ None

unrefused : (parts : List Part) (letters : List (ℕ × ℕ)) (too_many : Bool) (far : Option ℕ) → first_refusal parts letters too_many far ≡ None → (too_many ≡ false) × (far ≡ None)
unrefused (p ∷ ps) letters too_many far e = absurd (cc)
unrefused [] (l ∷ ls) too_many far e = absurd (cc)
unrefused [] [] true far e = absurd (cc)
unrefused [] [] false None e = (refl, refl)
unrefused [] [] false (Some node) e = absurd (cc)

pub tree_within : (nodes : List Node) (styles : List Style) (fonts : List Font) (tree : TreeLists) → IsPage nodes → page_tree nodes styles fonts ≡ Ok tree → IsWithin (characters nodes) tree
tree_within nodes styles fonts tree page e = by_refusal (page_refusal nodes styles fonts) refl e
  where
    far : Option ℕ
    far = beyond_reach (tree_styles nodes styles) (tree_parents nodes) fonts (page_boxes nodes styles)

    by_refusal : (o : Option BoxRefusal) → page_refusal nodes styles fonts ≡ o → unless_refused nodes styles fonts o ≡ Ok tree → IsWithin (characters nodes) tree
    by_refusal (Some why) r f = absurd (cc)
    by_refusal None r f =
        let limits = unrefused (blocks_in_inlines (page_parts nodes styles)) (right_to_left_letters (page_parts nodes styles)) (nat_lt 16384 (length (page_boxes nodes styles))) far r in
        let given : TreeLists = record { boxes = page_boxes nodes styles; styles = tree_styles nodes styles; fonts = fonts; parents = tree_parents nodes } in
        let same : given ≡ tree = cc in
        subst (IsWithin (characters nodes)) same (record {
          few_boxes = ltb-false 16384 (length (page_boxes nodes styles)) limits.0;
          few_characters = letters_within nodes styles page;
          reach = limits.1;
        })

-- ---- generated content

pub grown_within : {nodes : List Node} {texts : List (List ℕ)} {sheets : List Sheet} {g : Growth} → IsPage nodes → HasGrowth nodes texts sheets (Ok g) → characters g.0 ≤ characters nodes + 262144
grown_within {g = g} page h =
    let more = grown-characters h.page g.0 g.1 g.2 (subst IsPage (sym h.written) page) h.growth.0 h.growth.1 in
    let same = ap characters h.written in
    omega (arith, more, same)

-- a page with its generated content is a page
pub grown_page_of : {nodes : List Node} {texts : List (List ℕ)} {sheets : List Sheet} {g : Growth} → IsPage nodes → HasGrowth nodes texts sheets (Ok g) → IsPage g.0
grown_page_of page h =
    let grown = h.growth.0 in
    subst IsPage (sym grown.nodes_are) (grown_page h.page (subst IsPage (sym h.written) page) grown.all grown.grow h.growth.1)

-- the tree of a page that is within its limits, with its generated content
pub job_within : (file : JobFile) (laid : Laid) → (sheets : List Sheet) × IsLaid (raw_of file.raw) sheets laid → IsWithin 524288 (lists_of laid.tree)
job_within file laid h =
    let tree = h.1.boxes.tree in
    let page = grown_page_of file.raw.page.ok h.1.boxes.growth in
    let within = tree_within h.1.grown.0 tree.styles h.1.boxes.fonts (lists_of laid.tree) page tree.boxes in
    let more = grown_within file.raw.page.ok h.1.boxes.growth in
    let few = file.within.few_characters in
    record {
      few_boxes = within.few_boxes;
      few_characters = omega (arith, within.few_characters, more, few);
      reach = within.reach;
    }
