-- What a name is where it stands.
use Rattle.std.proofs.Common.{◌≡◌, ℕ, List, None, Err, bytes_eq, sym, ◌∙◌, ap}
use Rattle.std.specs.List.{position}
use Rattle.vis_read.specs.declared.faults.Stop.TheVariants as of_stop
use Rattle.vis_read.specs.declared.lexemes.Lexeme.{Lexeme}
use Rattle.vis_read.specs.declared.lexemes.Lexeme.TheVariants as a
use Rattle.vis_read.specs.declared.lexemes.Pair.{Pair}
use Rattle.vis_read.specs.declared.reading.Reading.{Reading}
use Rattle.vis_read.specs.declared.reading.Sum.{Sum}
use Rattle.vis_read.specs.Grammar.{quantifiers_between}
use Rattle.vis_read.specs.steps.Machine.{at_first, at_named, at_second, step_edge, step_first, step_second, taken}

none_between : (names : List (List ℕ)) (name given : List ℕ) → given ≡ name → None ≡ position (λ other. bytes_eq other given) names → quantifiers_between names name ≡ None
none_between names name given same e = ap (quantifiers_between names) (sym same) ∙ sym e

pub unbound_edge : (s : Reading) (sum : Sum) (n : ℕ) (name given : List ℕ) (lexeme : Lexeme) → lexeme ≡ a.Name name → given ≡ name → None ≡ position (λ other. bytes_eq other given) s.names
    → taken (step_edge s sum n lexeme) ≡ Err of_stop.Unbound
unbound_edge s sum n name given lexeme l same e = ap (λ x. taken (step_edge s sum n x)) l ∙ ap (λ x. taken (at_named s sum n x)) (none_between s.names name given same e)

pub unbound_first : (s : Reading) (p : Pair) (name given : List ℕ) (lexeme : Lexeme) → lexeme ≡ a.Name name → given ≡ name → None ≡ position (λ other. bytes_eq other given) s.names
    → taken (step_first s p lexeme) ≡ Err of_stop.Unbound
unbound_first s p name given lexeme l same e = ap (λ x. taken (step_first s p x)) l ∙ ap (λ x. taken (at_first s p x)) (none_between s.names name given same e)

pub unbound_second : (s : Reading) (p : Pair) (x : ℕ) (name given : List ℕ) (lexeme : Lexeme) → lexeme ≡ a.Name name → given ≡ name → None ≡ position (λ other. bytes_eq other given) s.names
    → taken (step_second s p x lexeme) ≡ Err of_stop.Unbound
unbound_second s p x name given lexeme l same e = ap (λ y. taken (step_second s p x y)) l ∙ ap (λ y. taken (at_second s p x y)) (none_between s.names name given same e)
