-- From the tokens of a text to the text.
use Rattle.std.proofs.Common.{◌≡◌, ℕ, List, [], true, Option, Some, None, Result, Ok, Err, subst, ap, sym, ◌∙◌}
use Rattle.css_semantics.specs.Pieces.{Token}
use Rattle.viz_base.specs.declared.sheets.Sheet.{Sheet}
use Rattle.viz_base.specs.declared.sheets.Decl.{Decl}
use Rattle.css_semantics.specs.Tokens.{AreTokens}
use Rattle.css_semantics.specs.SheetsReading.{Refusal, closed_by_end}
use Rattle.css_semantics.specs.steps.Sheets.{read_on, statements, sheet_of, declarations}
use Rattle.css_semantics.specs.SheetsGrammar.{IsSheet, IsSheetOf, AreDeclarations, AreDeclarationsOf}
use Rattle.css_semantics.proofs.Answers.{is_sheet}
use Rattle.css_semantics.proofs.Declarations.{are_declarations}
use Rattle.css_syntax.specs.declared.sheets.SheetFault.{SheetFault}
use Rattle.viz_base.specs.Answers.{FailsWith, Gives, GivesOneOf}
use Rattle.css_syntax.specs.Faults.{refusal_of, rules_in}

refused_of : (refusal : Option Refusal) (text : List ℕ) (ts : List Token) → AreTokens text ts → FailsWith refusal (λ given. sheet_of ts ≡ given) → FailsWith refusal (IsSheetOf text)
refused_of None text ts h e = tt
refused_of (Some refusal) text ts h e = (ts, h, subst (IsSheet ts) e (is_sheet ts))

-- what reading the tokens of a text gives is what the text spells
pub gives_of : (result : Result Sheet SheetFault) (text : List ℕ) (ts closed : List Token) → AreTokens text ts → closed ≡ closed_by_end ts → Gives rules_in refusal_of result (read_on true [] (statements closed)) → GivesOneOf rules_in refusal_of result (IsSheetOf text)
gives_of (Ok sheet) text ts closed h c e = (ts, h, subst (IsSheet ts) (ap (λ x. read_on true [] (statements x)) (sym c) ∙ e) (is_sheet ts))
gives_of (Err fault) text ts closed h c e = refused_of (refusal_of fault) text ts h (subst (λ x. FailsWith (refusal_of fault) (λ given. read_on true [] (statements x) ≡ given)) c e)

pub declarations_of : (text : List ℕ) (ts closed : List Token) (ds : List Decl) → AreTokens text ts → closed ≡ closed_by_end ts → ds ≡ declarations closed → AreDeclarationsOf text ds
declarations_of text ts closed ds h c e = (ts, h, subst (AreDeclarations (closed_by_end ts)) (sym (e ∙ ap declarations c)) (are_declarations (closed_by_end ts)))
