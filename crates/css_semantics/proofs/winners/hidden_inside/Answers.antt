use Rattle.css_semantics.proofs.Overriding.{hidden_below, hidden_self, shown_else}
use Rattle.css_semantics.proofs.winners.hidden_inside.Goals as goal

pub returns : goal.returns
returns c = λ replaced outer winners. record {
  inside = hidden_below replaced outer winners;
  itself = hidden_self replaced outer winners;
  shown = shown_else replaced outer winners;
}
