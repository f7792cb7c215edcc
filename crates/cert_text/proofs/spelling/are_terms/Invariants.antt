use Rattle.std.proofs.Common.{◌≡◌, ◌≤◌, ◌^◌, drop}
use Rattle.cert_text.specs.Texts.{terms_have_text}
use Rattle.cert_text.proofs.spelling.are_terms.Given as goal

abbrev pub invariant-loop-term : goal.invariant-loop-term
invariant-loop-term l = record {
  bound : l.least ≤ 2 ^ 32;
  rest : terms_have_text l.least (drop l.term-index l.terms) ≡ terms_have_text 0 l.terms;
}
