use Rattle.std.proofs.Common.{◌≡◌, rules, sym, ◌∙◌, ap, w64, FitsSigned, to_z, of_z, to_z-of_z}
use Rattle.std.specs.Str.{chars}
use Rattle.css_semantics.specs.Pieces.{Token}
use Rattle.css_semantics.specs.ValuesParts.{amount_in, unit_of, numeral_of}
use Rattle.viz_base.specs.Decimals.{decimal_of}
use Rattle.css_value.proofs.PartLemmas.{counted_some}
use Rattle.css_value.proofs.amounts.amount_of.Goals as goal

pub returns : goal.returns
returns c =
    let n = c.in-Some.n in
    let kind = c.args.token.now.kind in
    let unit = unit_of (chars c.args.token.now.text) in
    let fits : FitsSigned w64 n = search rules in
    let said : c.as_str.result.now ≡ unit = c.as_str.ensures ∙ c.in_ok-unit.ensures in
    let passed : amount_in kind (to_z w64 (of_z w64 n)) c.as_str.result.now ≡ amount_in kind n unit = ap (λ m. amount_in kind m c.as_str.result.now) (to_z-of_z fits) ∙ ap (amount_in kind n) said in
    let seen : c.token.inside.kind ≡ kind = ap (λ (t : Token). t.kind) c.token.view_is in
    c.amount_in.ensures ∙ (ap (λ k. amount_in k (to_z w64 (of_z w64 n)) c.as_str.result.now) seen ∙ passed) ∙ sym (counted_some c.args.negative c.args.token.now (decimal_of (numeral_of c.args.token.now.text)) n (sym c.in-Some.ensures.value))
