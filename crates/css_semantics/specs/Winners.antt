-- What the lists of the winners of a page's nodes are (CSS 2.1, 6.1 and 6.4), as computed values are made of them.
use Rattle.std.specs.Prelude.{◌≡◌, ◌≤◌, ◌<◌, ◌^◌, unsigned_abs, List, length, IsTrue}
use Rattle.std.specs.List.{AllByRecursion}
use Rattle.viz_base.specs.declared.nodes.Node.{Node}
use Rattle.viz_base.specs.declared.settings.Setting.{Setting}
use Rattle.viz_base.specs.declared.settings.Value.{Value}
use Rattle.viz_base.specs.declared.settings.Value.TheVariants.{Inherit, Word, Px, Em, Pct, Number, Names, Chars}
use Rattle.css_semantics.specs.Properties.{Row, row, properties}
use Rattle.css_semantics.specs.ValuesLaws.{Admits, IsAmong, props}

-- whether a row of the table has this value: `inherit`, a keyword of the
-- row, an amount that it takes, names of families, or a text
abbrev pub MayWin : Row → Value → Type 0
MayWin r Inherit = Unit {0}
MayWin r (Word place) = place < length r.words
MayWin r (Px n) = Admits r.lengths n
MayWin r (Em n) = Admits r.lengths n
-- a percentage is at most 2^40 millionths in size
MayWin r (Pct n) = Admits r.percentages n × (unsigned_abs n ≤ 2 ^ 40)
MayWin r (Number n) = Admits r.numbers n
MayWin r (Names names) = IsTrue r.families
MayWin r (Chars text) = IsTrue r.strings

abbrev pub IsAllowed : Setting → Type 0
IsAllowed s = MayWin (row s.prop) s.value

abbrev pub AreAllowed : List Setting → Type 0
AreAllowed settings = AllByRecursion IsAllowed settings

-- each property at most once, in the order of the table
abbrev pub IsInOrder : List Setting → Type 0
IsInOrder settings = IsAmong (props settings) properties

-- one list for each node, with values that the table allows
pub record AreWinners (nodes : List Node) (winners : List (List Setting)) : Type 0 where
  pub each : length winners ≡ length nodes
  pub ordered : AllByRecursion IsInOrder winners
  pub allowed : AllByRecursion (AllByRecursion IsAllowed) winners
