-- The walk over boxes that takes white space out of texts. It carries for each block container whether white space that
-- came next would stay.
use Rattle.std.specs.Prelude.{ℕ, Bool, true, false, not, List, [], ◌∷◌, ◌++◌, if◌then◌else◌}
use Rattle.viz_base.specs.declared.trees.Kind.{Kind}
use Rattle.viz_base.specs.declared.trees.Kind.TheVariants as of_kind
use Rattle.layout_semantics.specs.Lists.{one_if}
use Rattle.layout_semantics.specs.Parts.{Part, Level}
use Rattle.layout_semantics.specs.WhiteSpace.{is_white, is_bare}
use Rattle.page_boxes.specs.steps.Tables.{held, put}

-- the characters that stay of a text
abbrev pub squeezed : Bool → List ℕ → List ℕ
squeezed keeps [] = []
squeezed keeps (c ∷ cs) = (if not (is_white c) then c ∷ [] else one_if keeps 32) ++ squeezed (not (is_white c)) cs

abbrev pub keeps_behind : Bool → List ℕ → Bool
keeps_behind keeps [] = keeps
keeps_behind keeps (c ∷ cs) = keeps_behind (not (is_white c)) cs

abbrev pub keeps_behind_inline : Bool → Kind → List ℕ → Bool
keeps_behind_inline keeps of_kind.Chars text = keeps_behind keeps text
keeps_behind_inline keeps of_kind.Break text = false
keeps_behind_inline keeps of_kind.Inline text = keeps
keeps_behind_inline keeps _ text = true

abbrev pub keeps_behind_level : Bool → Level → Kind → List ℕ → Bool
keeps_behind_level keeps Level.block kind text = false
keeps_behind_level keeps Level.floated kind text = keeps
keeps_behind_level keeps Level.inline kind text = keeps_behind_inline keeps kind text

abbrev pub keeps_behind_part : Bool → Part → Bool
keeps_behind_part keeps p = keeps_behind_level keeps p.level p.kind p.text

abbrev pub with_text : Part → List ℕ → Part
with_text p text = record p { text = text }

abbrev pub squeezed_part : Bool → Part → Part
squeezed_part keeps p = with_text p (squeezed keeps p.text)

abbrev pub spaces_walk : List Bool → List Part → List Part
spaces_walk table [] = []
spaces_walk table (p ∷ ps) =
    let keeps = held table p.container false in
    one_if (not (is_bare (squeezed_part keeps p))) (squeezed_part keeps p)
    ++ spaces_walk (put table p.container (keeps_behind_part keeps p)) ps
