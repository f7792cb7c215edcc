-- Texts that are not too long.
use Rattle.std.specs.Prelude.{◌≡◌, ℕ, ◌≤◌, List, Some, chars, length, slice_get}
use Rattle.viz_base.specs.declared.limits.TheConstants.{MOST_CHARACTERS}
use Rattle.viz_base.specs.declared.trees.BoxNode.{BoxNode}

abbrev pub AreShort : List BoxNode → Type 0
AreShort boxes = (at : ℕ) (b : BoxNode) → slice_get boxes at ≡ Some b → length (chars b.chars) ≤ MOST_CHARACTERS
