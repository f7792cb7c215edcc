-- What `build_boxes` gives, and which refusal a fault names.
use Rattle.std.specs.Prelude.{◌≡◌, ℕ, nat_lt, length, Bool, true, false, List, [], Option, Some, None, Result, Ok, Err}
use Rattle.viz_base.specs.declared.limits.TheConstants.{MOST_BOXES}
use Rattle.viz_base.specs.Answers.{FailsWith}
use Rattle.viz_base.specs.declared.fonts.Font.{Font}
use Rattle.viz_base.specs.declared.nodes.Node.{Node}
use Rattle.viz_base.specs.declared.styles.Style.{Style}
use Rattle.viz_base.specs.declared.trees.BoxNode.{BoxNode}
use Rattle.viz_base.specs.declared.trees.BoxTree.{BoxTree}
use Rattle.layout_semantics.specs.BoxTrees.{page_boxes, page_parts, tree_parents, tree_styles}
use Rattle.layout_semantics.specs.Parts.{Part}
use Rattle.layout_semantics.specs.Refusals.{BoxRefusal, blocks_in_inlines, first_refusal, page_refusal, right_to_left_letters}
use Rattle.page_boxes.specs.declared.faults.BoxFault.{BoxFault}
use Rattle.page_boxes.specs.declared.faults.BoxFault.TheVariants as of_fault

-- the lists of a box tree
pub record TreeLists : Type 0 where
  pub boxes : List BoxNode
  pub styles : List Style
  pub fonts : List Font
  pub parents : List (Option ℕ)

abbrev pub lists_of : BoxTree → TreeLists
lists_of tree = record { boxes = tree.boxes; styles = tree.styles; fonts = tree.fonts; parents = tree.parents }

abbrev pub unless_refused : List Node → List Style → List Font → Option BoxRefusal → Result TreeLists BoxRefusal
unless_refused nodes styles fonts (Some refusal) = Err refusal
unless_refused nodes styles fonts None =
    Ok (record {
      boxes = page_boxes nodes styles;
      styles = tree_styles nodes styles;
      fonts = fonts;
      parents = tree_parents nodes;
    })

-- the box tree of a page with these styles and fonts, or why it gets none
abbrev pub page_tree : List Node → List Style → List Font → Result TreeLists BoxRefusal
page_tree nodes styles fonts = unless_refused nodes styles fonts (page_refusal nodes styles fonts)

-- the refusal that a fault names; want of memory names none
abbrev pub refusal_named : BoxFault → Option BoxRefusal
refusal_named of_fault.Mem = None
refusal_named (of_fault.BlockInInline node) = Some (BoxRefusal.block_in_inline node)
refusal_named (of_fault.RightToLeft node letter) = Some (BoxRefusal.right_to_left node letter)
refusal_named of_fault.TooManyBoxes = Some BoxRefusal.too_many_boxes
refusal_named (of_fault.Reach node) = Some (BoxRefusal.reach node)

-- what holds of the refusal that a fault names, if it names one
abbrev pub IfNamed : Option BoxRefusal → (BoxRefusal → Type 0) → Type 0
IfNamed None Holds = Unit {0}
IfNamed (Some refusal) Holds = Holds refusal

-- there is neither a block in an inline box nor a character from right to left, or this is what the page is refused for
abbrev pub IsJudged : List Part → List (ℕ × ℕ) → Result (Unit {0}) BoxFault → Type 0
IsJudged blocks letters (Ok done) = (blocks ≡ []) × (letters ≡ [])
IsJudged blocks letters (Err fault) =
    IfNamed (refusal_named fault)
    (λ refusal. (too_many : Bool) (far : Option ℕ) → first_refusal blocks letters too_many far ≡ Some refusal)

-- these are the boxes, and there are not too many, or there are
abbrev pub HasFewBoxes : List BoxNode → Result (List BoxNode) BoxFault → Type 0
HasFewBoxes boxes (Ok found) = (found ≡ boxes) × (nat_lt MOST_BOXES (length boxes) ≡ false)
HasFewBoxes boxes (Err fault) =
    IfNamed (refusal_named fault)
    (λ refusal. (refusal ≡ BoxRefusal.too_many_boxes) × (nat_lt MOST_BOXES (length boxes) ≡ true))

-- these are the boxes, and nothing but its reach can refuse the page
pub record IsAllowed (nodes : List Node) (styles : List Style) (found : List BoxNode) : Type 0 where
  pub boxes : found ≡ page_boxes nodes styles
  pub few : nat_lt MOST_BOXES (length (page_boxes nodes styles)) ≡ false
  pub no_blocks : blocks_in_inlines (page_parts nodes styles) ≡ []
  pub no_letters : right_to_left_letters (page_parts nodes styles) ≡ []

-- the boxes, or what the page is refused for whatever its fonts are
abbrev pub AreAllowed : List Node → List Style → Result (List BoxNode) BoxFault → Type 0
AreAllowed nodes styles (Ok found) = IsAllowed nodes styles found
AreAllowed nodes styles (Err fault) =
    (fonts : List Font) → FailsWith (refusal_named fault) (λ given. page_tree nodes styles fonts ≡ given)
