use Rattle.std.specs.Prelude.{◌≡◌, ℕ, List, Result, true}
use Rattle.viz_base.specs.declared.formulas.Formula.{Formula}
use Rattle.viz_base.specs.Formulas.{is_bound_in}
use Rattle.viz_base.specs.declared.nodes.Node.{Node}
use Rattle.vis_read.specs.declared.faults.FormulaFault.{FormulaFault}
use Rattle.vis_read.specs.declared.lexemes.Token.{Token}
use Rattle.vis_read.specs.Grammar.{AreFine, AreFormula, Judged, Outcome, tokens_of}
use Rattle.vis_read.specs.Texts.{IsAnswerOf}
use Rattle.vis_read.specs.Tokens.{AreTokens}

-- tokens are at most one formula
abbrev pub OneFormula : Type 0
OneFormula = (ts us : List Judged) (f g : Formula) → tokens_of ts ≡ tokens_of us → AreFormula ts f → AreFormula us g
    → f ≡ g

-- tokens are a formula, or bad, or one of them is the first that may not stand where it stands
abbrev pub EveryOutcome : Type 0
EveryOutcome = (tokens : List Token) (end : ℕ) → Outcome tokens end

-- where each token may stand where it stands, the names of the formula are bound
abbrev pub NamesAreBound : Type 0
NamesAreBound = (ts : List Judged) (f : Formula) → AreFormula ts f → AreFine ts → is_bound_in f 0 ≡ true

-- of a page, a text has at most one list of tokens
abbrev pub OneTokens : Type 0
OneTokens = (nodes : List Node) (text : List ℕ) (ts us : List Token) → AreTokens nodes 0 text ts
    → AreTokens nodes 0 text us → ts ≡ us

-- of a page, a text is at most one formula, or refused in one way
abbrev pub OneAnswer : Type 0
OneAnswer = (nodes : List Node) (text : List ℕ) (a b : Result Formula FormulaFault) → IsAnswerOf nodes text a
    → IsAnswerOf nodes text b → a ≡ b
