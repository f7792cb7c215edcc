-- The walks over boxes that find which stand in anonymous block boxes. They carry for each
-- element what is known of the run that the next box directly in it would stand in.
use Rattle.std.specs.Prelude.{ℕ, ◌+◌, slice_index_or, Bool, true, false, ◌&&◌, List, [], ◌∷◌, Option, Some, None, if◌then◌else◌}
use Rattle.layout_semantics.specs.BoxTrees.{is_block_part}
use Rattle.layout_semantics.specs.Parts.{Part, Level}
use Rattle.page_boxes.specs.steps.Tables.{held, put}

abbrev pub is_ahead : Bool → Level → Bool
is_ahead behind Level.block = false
is_ahead behind Level.floated = behind
is_ahead behind Level.inline = true

-- the table in front of boxes: whether the run with which those begin has a box other than a float
abbrev pub ahead_table : List Bool → List Part → List Bool
ahead_table table [] = table
ahead_table table (p ∷ ps) =
    put (ahead_table table ps) p.parent (is_ahead (held (ahead_table table ps) p.parent false) p.level)

abbrev pub ahead_of : List Bool → List Part → List Bool
ahead_of table [] = []
ahead_of table (p ∷ ps) = is_ahead (held (ahead_table table ps) p.parent false) p.level ∷ ahead_of table ps

abbrev pub with_blocks : List Bool → List Part → List Bool
with_blocks table [] = table
with_blocks table (p ∷ ps) = with_blocks (if is_block_part p then put table p.parent true else table) ps

abbrev pub lead_of : Option ℕ → Bool → Bool → Level → ℕ → Option ℕ
lead_of led has_blocks ahead Level.block node = None
lead_of (Some first) has_blocks ahead _ node = Some first
lead_of None has_blocks ahead _ node = if has_blocks && ahead then Some node else None

abbrev pub leads_walk : List (Option ℕ) → List Bool → List Bool → ℕ → List Part → List (Option ℕ)
leads_walk led blocks ahead at [] = []
leads_walk led blocks ahead at (p ∷ ps) =
    let is_before = slice_index_or ahead at false in
    let lead = lead_of (held led p.parent None) (held blocks p.parent false) is_before p.level p.node in
    lead ∷ leads_walk (put led p.parent lead) blocks ahead (at + 1) ps
