-- What a text says of a page: a formula, or why it says none. Places are in bytes of the text.
use Rattle.std.specs.Prelude.{ℕ, List, Result, Ok, Err, length}
use Rattle.viz_base.specs.declared.nodes.Node.{Node}
use Rattle.viz_base.specs.declared.formulas.Formula.{Formula}
use Rattle.vis_read.specs.declared.faults.FormulaFault.{FormulaFault}
use Rattle.vis_read.specs.declared.faults.FormulaFault.TheVariants as of_fault
use Rattle.vis_read.specs.declared.lexemes.Token.{Token}
use Rattle.vis_read.specs.Grammar.{IsBad, IsFirst, IsFormula, too_deep, unbound}
use Rattle.vis_read.specs.Tokens.{AreTokens}

-- the text spells the formula
abbrev pub IsFormulaText : List Node → List ℕ → Formula → Type 0
IsFormulaText nodes text f = (tokens : List Token) × AreTokens nodes 0 text tokens × IsFormula tokens f

-- why a text is refused; want of memory says nothing
abbrev pub IsFault : List Node → List ℕ → FormulaFault → Type 0
IsFault nodes text of_fault.Mem = Unit {0}
IsFault nodes text (of_fault.Bad at) = (tokens : List Token) × AreTokens nodes 0 text tokens
    × IsBad tokens (length text) at
IsFault nodes text (of_fault.Unbound at) = (tokens : List Token) × AreTokens nodes 0 text tokens
    × IsFirst unbound tokens at
IsFault nodes text (of_fault.TooDeep at) = (tokens : List Token) × AreTokens nodes 0 text tokens
    × IsFirst too_deep tokens at

-- what a text is, apart from want of memory: a formula, or refused
abbrev pub IsAnswerOf : List Node → List ℕ → Result Formula FormulaFault → Type 0
IsAnswerOf nodes text (Ok f) = IsFormulaText nodes text f
IsAnswerOf nodes text (Err of_fault.Mem) = ⊥
IsAnswerOf nodes text (Err (of_fault.Bad at)) = IsFault nodes text (of_fault.Bad at)
IsAnswerOf nodes text (Err (of_fault.Unbound at)) = IsFault nodes text (of_fault.Unbound at)
IsAnswerOf nodes text (Err (of_fault.TooDeep at)) = IsFault nodes text (of_fault.TooDeep at)
