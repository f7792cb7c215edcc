-- What a box adds to inline content: whether it makes a line exist, and which floats stand in it.
use Rattle.std.specs.Prelude.{ℕ, ◌==◌, Bool, true, false, not, ◌||◌, List, [], ◌∷◌}
use Rattle.std.specs.List.{list_any}
use Rattle.viz_base.specs.declared.trees.BoxTree.{BoxTree}
use Rattle.viz_base.specs.declared.trees.Kind.{Kind}
use Rattle.viz_base.specs.declared.trees.Kind.TheVariants as of_kind
use Rattle.layout_semantics.specs.Blocks.{kind_of}
use Rattle.layout_semantics.specs.InlineContent.{is_floated_at, start, finish, content, float_boxes, makes_line, text_of}

-- a text by its letters, an inline box by its edges and its content
abbrev pub in_line_by : BoxTree → ℕ → (floats : Bool) → Kind → Bool
in_line_by tree b true kind = false
in_line_by tree b false of_kind.Chars = list_any (λ c. not (c == 32)) (text_of tree b)
in_line_by tree b false of_kind.Inline = makes_line tree (start b)
    || (list_any (makes_line tree) (content tree b) || makes_line tree (finish b))
in_line_by tree b false kind = true

unfoldable pub in_line : BoxTree → ℕ → Bool
in_line tree b = in_line_by tree b (is_floated_at tree b) (kind_of tree b)

abbrev pub own_floats_by : BoxTree → ℕ → (floats : Bool) → Kind → List ℕ
own_floats_by tree b true kind = b ∷ []
own_floats_by tree b false of_kind.Inline = float_boxes (content tree b)
own_floats_by tree b false kind = []

unfoldable pub own_floats : BoxTree → ℕ → List ℕ
own_floats tree b = own_floats_by tree b (is_floated_at tree b) (kind_of tree b)
