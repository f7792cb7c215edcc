-- Sheets make one tree and one formula of a page, or are refused in one way.
use Rattle.std.proofs.Common.{◌≡◌, ℕ, List, length, Result, Ok, Err, sym, ◌∙◌, ap, subst}
use Rattle.std.proofs.lemmas.List.{length-map}
use Rattle.viz_base.specs.declared.fonts.Font.{Font}
use Rattle.viz_base.specs.declared.formulas.Formula.{Formula}
use Rattle.viz_base.specs.declared.nodes.Node.{Node}
use Rattle.viz_base.specs.declared.sheets.Sheet.{Sheet}
use Rattle.viz_base.specs.Pages.{IsPage}
use Rattle.viz_base.proofs.Sameness.{same_Ok, same_Err, no_Ok}
use Rattle.layout_semantics.specs.Refusals.{BoxRefusal}
use Rattle.vis_read.specs.declared.faults.FormulaFault.{FormulaFault}
use Rattle.vis_read.specs.Texts.{IsAnswerOf, IsFormulaText}
use Rattle.page_json.specs.Jobs.{Raw}
use Rattle.page_json.specs.Pages.{IsDocument}
use Rattle.page_pseudo.specs.declared.nodes.GrownNode.{GrownNode}
use Rattle.page_pseudo.specs.Grown.{node_of}
use Rattle.page_pseudo.specs.Growth.{Growth}
use Rattle.page_boxes.specs.Trees.{TreeLists, page_tree}
use Rattle.page_build.specs.declared.faults.JobRefusal.{JobRefusal}
use Rattle.page_build.specs.Jobs.{HasAssertion, HasATree, HasBoxes, HasGrowth, HasTree, IsMade, IsRefusedTree, texts_of}
use Rattle.page_build.specs.Refusals.{of_boxes, of_formula}
use Rattle.page_build.specs.Renumbering.{number_in, renumbered}
use Rattle.page_build.proofs.JobFacts.{grown_page_of}
use Rattle.page_build.proofs.OnePage.{Laws, grown_or_refused, one_growing, one_page}
use Rattle.page_build.proofs.OneStyle.{one_styles}
use Rattle.page_build.proofs.SameFields.{same_fonts}

-- a page with its generated content is a document
grown_document : {nodes : List Node} {texts : List (List ℕ)} {sheets : List Sheet} {g : Growth} → IsPage nodes → HasGrowth nodes texts sheets (Ok g) → IsDocument g.0
grown_document page h =
    let whole = grown_page_of page h in
    record { root = whole.root; parents = whole.parents; in_order = whole.in_order; names = whole.names }

-- as many lists of winners as nodes
grown_each : {nodes : List Node} {texts : List (List ℕ)} {sheets : List Sheet} {g : Growth} → HasGrowth nodes texts sheets (Ok g) → length g.1 ≡ length g.0
grown_each h =
    let grown = h.growth.0 in
    (ap length grown.winners_are ∙ length-map grown.all (λ (n : GrownNode). n.winners)) ∙ sym (ap length grown.nodes_are ∙ length-map grown.all node_of)

one_tree_of : {g : Growth} {fonts : List Font} {a b : Result TreeLists BoxRefusal} → IsDocument g.0 → length g.1 ≡ length g.0 → HasTree g fonts a → HasTree g fonts b → a ≡ b
one_tree_of {g = g} {fonts = fonts} page each h k =
    sym h.boxes ∙ (ap (λ styles. page_tree g.0 styles fonts) (one_styles page each h.computed k.computed) ∙ k.boxes)

module _ (laws : Laws) (raw : Raw) (page : IsPage raw.nodes) (sheets : List Sheet) where
  same_growth : {f g : Growth} → HasGrowth raw.nodes (texts_of raw) sheets (Ok f) → HasGrowth raw.nodes (texts_of raw) sheets (Ok g) → f ≡ g
  same_growth h k = same_Ok (one_growing laws raw.nodes (texts_of raw) sheets _ _ h k)

  one_tree : {f g : Growth} {a b : Result TreeLists BoxRefusal} → HasBoxes raw sheets f a → HasBoxes raw sheets g b → a ≡ b
  one_tree {f = f} {g = g} {b = b} h k =
      let grown = same_growth h.growth k.growth in
      let fonts = same_fonts h.fonts k.fonts (h.measures ∙ sym k.measures) in
      one_tree_of (grown_document page h.growth) (grown_each h.growth) h.tree
      (subst (λ fs. HasTree f fs b) (sym fonts) (subst (λ x. HasTree x k.fonts b) (sym grown) k.tree))

  one_formula : {f g : Growth} {a b : Formula} → f ≡ g → HasAssertion raw.nodes raw.formula f.2 a → HasAssertion raw.nodes raw.formula g.2 b → a ≡ b
  one_formula {f = f} {g = g} grown h k =
      h.over_grown ∙ (ap (renumbered (number_in f.2)) (same_Ok (laws.formula raw.nodes raw.formula (Ok h.written) (Ok k.written) h.spelled k.spelled))
      ∙ (ap (λ (x : Growth). renumbered (number_in x.2) k.written) grown ∙ sym k.over_grown))

  pub one_made : {t u : TreeLists} {a b : Formula} → IsMade raw sheets t a → IsMade raw sheets u b → (t ≡ u) × (a ≡ b)
  one_made h k = (same_Ok (one_tree h.boxes k.boxes), one_formula (same_growth h.boxes.growth k.boxes.growth) h.assertion k.assertion)

  pub tree_or_refused : {refusal : JobRefusal} → HasATree raw sheets → IsRefusedTree raw sheets refusal → ⊥
  tree_or_refused h (IsRefusedTree.page k) = grown_or_refused laws raw.nodes (texts_of raw) sheets h.2.growth k
  tree_or_refused h (IsRefusedTree.boxes k) = no_Ok (one_tree h.2 k)

  pub one_refused_tree : {a b : JobRefusal} → IsRefusedTree raw sheets a → IsRefusedTree raw sheets b → a ≡ b
  one_refused_tree (IsRefusedTree.page h) (IsRefusedTree.page k) = one_page laws raw.nodes (texts_of raw) sheets h k
  one_refused_tree (IsRefusedTree.page h) (IsRefusedTree.boxes k) = absurd (grown_or_refused laws raw.nodes (texts_of raw) sheets k.growth h)
  one_refused_tree (IsRefusedTree.boxes h) (IsRefusedTree.page k) = absurd (grown_or_refused laws raw.nodes (texts_of raw) sheets h.growth k)
  one_refused_tree (IsRefusedTree.boxes h) (IsRefusedTree.boxes k) = ap of_boxes (same_Err (one_tree h k))

  pub made_tree : {t : TreeLists} {a : Formula} → IsMade raw sheets t a → HasATree raw sheets
  made_tree {t = t} h = (h.grown, t, h.boxes)

-- an assertion spells a formula or is refused, and this in one way
pub spelled_or_refused : (nodes : List Node) (text : List ℕ) (formula : Formula) (fault : FormulaFault) → Laws → IsFormulaText nodes text formula
    → IsAnswerOf nodes text (Err fault) → ⊥
spelled_or_refused nodes text formula fault laws h k = no_Ok (laws.formula nodes text (Ok formula) (Err fault) h k)

pub one_fault : (nodes : List Node) (text : List ℕ) (fault other : FormulaFault) → Laws → IsAnswerOf nodes text (Err fault) → IsAnswerOf nodes text (Err other)
    → of_formula fault ≡ of_formula other
one_fault nodes text fault other laws h k = ap of_formula (same_Err (laws.formula nodes text (Err fault) (Err other) h k))
