-- What the code's enums of tests stand for.
use Rattle.std.specs.Prelude.{Bool}
use Rattle.css_semantics.specs.Pieces.{Token}
use Rattle.viz_base.specs.declared.tokens.TokenKind.{TokenKind}
use Rattle.css_semantics.specs.SheetsMarks.{is_space, is_gap, ends_prelude, ends_selector, ends_block, ends_declaration, ends_entry}
use Rattle.css_syntax.specs.declared.stretches.Stop.{Stop}
use Rattle.css_syntax.specs.declared.stretches.Stop.TheVariants.{Prelude, Selector, Block, Declaration, Entry}
use Rattle.css_syntax.specs.declared.slices.Class.{Class}
use Rattle.css_syntax.specs.declared.slices.Class.TheVariants.{Space, Gap}

abbrev pub stops : Stop → Token → Bool
stops Prelude t = ends_prelude t
stops Selector t = ends_selector t
stops Block t = ends_block t
stops Declaration t = ends_declaration t
stops Entry t = ends_entry t

abbrev pub class_has : Class → TokenKind → Bool
class_has Space kind = is_space kind
class_has Gap kind = is_gap kind
