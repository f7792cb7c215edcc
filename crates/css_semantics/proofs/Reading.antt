-- Steps of the reading of statements.
use Rattle.std.proofs.Common.{◌≡◌, ◌++◌, Bool, List, Option, Some, None, Ok, ap}
use Rattle.std.specs.Option.{option_to_list}
use Rattle.viz_base.specs.declared.sheets.Rule.{Rule}
use Rattle.css_semantics.specs.declared.statements.Statement.{Statement}
use Rattle.css_semantics.specs.steps.Sheets.{if_ok, with_statement, read_on}

pub read_none : (early : Bool) (rules : List Rule) (o : Option Statement) (ss : List Statement) → o ≡ None → read_on early rules (option_to_list o ++ ss) ≡ read_on early rules ss
read_none early rules o ss e = ap (λ p. read_on early rules (option_to_list p ++ ss)) e

pub read_some : (early : Bool) (rules : List Rule) (o : Option Statement) (s : Statement) (ss : List Statement) → o ≡ Some s → read_on early rules (option_to_list o ++ ss) ≡ if_ok (with_statement early rules s) (λ e rs. read_on e rs ss)
read_some early rules o s ss e = ap (λ p. read_on early rules (option_to_list p ++ ss)) e

pub read_goes : (early : Bool) (rules : List Rule) (s : Statement) (ss : List Statement) (next : Bool) (more : List Rule) → with_statement early rules s ≡ Ok (next, more) → if_ok (with_statement early rules s) (λ e rs. read_on e rs ss) ≡ read_on next more ss
read_goes early rules s ss next more e = ap (λ x. if_ok x (λ e rs. read_on e rs ss)) e
