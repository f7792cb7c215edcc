use Rattle.std.proofs.Common.{◌≡◌, Result, subst, sym}
use Rattle.viz_base.specs.Answers.{Gives}
use Rattle.css_semantics.specs.Pieces.{Token}
use Rattle.css_semantics.specs.SelectorTerminals.{terminal}
use Rattle.css_semantics.specs.declared.terminals.Terminal.{Terminal}
use Rattle.css_select.specs.declared.faults.SelFault.{SelFault}
use Rattle.css_select.specs.declared.reading.Place.{Place}
use Rattle.css_select.specs.declared.reading.Place.TheVariants as of_place
use Rattle.css_select.specs.declared.reading.Reading.{Reading}
use Rattle.css_select.specs.Refusals.{refusal_of}
use Rattle.css_select.specs.steps.Machine.{State, at, state_of, step_at}
use Rattle.css_select.proofs.steps.step.Goals as goal

-- what the next token does at a place, by what is known of both
stepped : (place known : Place) (s : State) (t : Token) (sign : Terminal) (r : Result Reading SelFault) → place ≡ known → sign ≡ terminal t
    → Gives state_of refusal_of r (step_at known s t sign) → Gives state_of refusal_of r (step_at place s t (terminal t))
stepped place known s t sign r place_is sign_is given =
    subst (λ p. Gives state_of refusal_of r (step_at p s t (terminal t))) (sym place_is) (subst (λ sign. Gives state_of refusal_of r (step_at known s t sign)) sign_is given)

pub returns-in-Fresh : goal.returns-in-Fresh
returns-in-Fresh c = stepped c.args.reading.place of_place.Fresh (at (state_of c.args.reading) of_place.Fresh) c.args.token.now c.terminal-sign.result c.step_fresh.result c.in-Fresh.is c.terminal-sign.ensures c.step_fresh.ensures

pub returns-in-Compound : goal.returns-in-Compound
returns-in-Compound c = stepped c.args.reading.place of_place.Compound (at (state_of c.args.reading) of_place.Fresh) c.args.token.now c.terminal-sign.result c.step_compound.result c.in-Compound.is c.terminal-sign.ensures c.step_compound.ensures

pub returns-in-Gap : goal.returns-in-Gap
returns-in-Gap c = stepped c.args.reading.place of_place.Gap (at (state_of c.args.reading) of_place.Fresh) c.args.token.now c.terminal-sign.result c.step_gap.result c.in-Gap.is c.terminal-sign.ensures c.step_gap.ensures

pub returns-in-Dot : goal.returns-in-Dot
returns-in-Dot c = stepped c.args.reading.place of_place.Dot (at (state_of c.args.reading) of_place.Fresh) c.args.token.now c.terminal-sign.result c.step_dot.result c.in-Dot.is c.terminal-sign.ensures c.step_dot.ensures

pub returns-in-Colon : goal.returns-in-Colon
returns-in-Colon c = stepped c.args.reading.place (of_place.Colon c.in-Colon.colon) (at (state_of c.args.reading) of_place.Fresh) c.args.token.now c.terminal-sign.result c.step_colon.result c.in-Colon.is c.terminal-sign.ensures c.step_colon.ensures

pub returns-in-Colons : goal.returns-in-Colons
returns-in-Colons c = stepped c.args.reading.place of_place.Colons (at (state_of c.args.reading) of_place.Fresh) c.args.token.now c.terminal-sign.result c.step_colons.result c.in-Colons.is c.terminal-sign.ensures c.step_colons.ensures

pub returns-in-Language : goal.returns-in-Language
returns-in-Language c = stepped c.args.reading.place (of_place.Language c.in-Language.colon) (at (state_of c.args.reading) of_place.Fresh) c.args.token.now c.terminal-sign.result c.step_language.result c.in-Language.is c.terminal-sign.ensures c.step_language.ensures

pub returns-in-LanguageEnd : goal.returns-in-LanguageEnd
returns-in-LanguageEnd c = stepped c.args.reading.place (of_place.LanguageEnd c.in-LanguageEnd.colon) (at (state_of c.args.reading) of_place.Fresh) c.args.token.now c.terminal-sign.result c.step_language_end.result c.in-LanguageEnd.is c.terminal-sign.ensures c.step_language_end.ensures

pub returns-in-Element : goal.returns-in-Element
returns-in-Element c = stepped c.args.reading.place (of_place.Element c.in-Element.pseudo) (at (state_of c.args.reading) of_place.Fresh) c.args.token.now c.terminal-sign.result c.step_element.result c.in-Element.is c.terminal-sign.ensures c.step_element.ensures

pub returns-in-Bracket : goal.returns-in-Bracket
returns-in-Bracket c = stepped c.args.reading.place of_place.Bracket (at (state_of c.args.reading) of_place.Fresh) c.args.token.now c.terminal-sign.result c.step_bracket.result c.in-Bracket.is c.terminal-sign.ensures c.step_bracket.ensures

pub returns-in-Name : goal.returns-in-Name
returns-in-Name c = stepped c.args.reading.place (of_place.Name c.in-Name.name) (at (state_of c.args.reading) of_place.Fresh) c.args.token.now c.terminal-sign.result c.step_name.result c.in-Name.is c.terminal-sign.ensures c.step_name.ensures

pub returns-in-Sign : goal.returns-in-Sign
returns-in-Sign c = stepped c.args.reading.place (of_place.Sign c.in-Sign.name c.in-Sign.how) (at (state_of c.args.reading) of_place.Fresh) c.args.token.now c.terminal-sign.result c.step_value.result c.in-Sign.is c.terminal-sign.ensures c.step_value.ensures

pub returns-in-Value : goal.returns-in-Value
returns-in-Value c = stepped c.args.reading.place (of_place.Value c.in-Value.test) (at (state_of c.args.reading) of_place.Fresh) c.args.token.now c.terminal-sign.result c.step_closing.result c.in-Value.is c.terminal-sign.ensures c.step_closing.ensures
