use Rattle.std.proofs.Common.{◌≡◌, ◌-◌, refl, sym, ◌∙◌, ap, subst, arith, length, length-append}
use Rattle.std.specs.Str.{IsUtf8, chars}
use Rattle.std.proofs.lemmas.Grind.{common_steps}
use Rattle.std.proofs.lemmas.Str.{IsCharBoundary-at_seam}
use Rattle.css_token.proofs.TextLemmas.{front_and_rest, no_chars, token_by, scanned}
use Rattle.css_token.proofs.scan.next.Goals as goal
use lib.Utf8.{encodes}

pub overflow_sub-len : goal.overflow_sub-len
overflow_sub-len c =
    let m = scanned (chars c.range_from-front.result.now) c.in-Some.kind (chars c.in-Some.rest.now) c.in-Some.ensures.1 c.in-Some.ensures.0 in
    let whole = front_and_rest c.range_from-front.result.now c.as_bytes.result.now m.piece c.range_from-front.utf8 c.as_bytes.ensures.utf8 (rw c.as_bytes.ensures.value m.is.whole) in
    omega (arith, ap length whole, length-append (encodes m.piece) c.as_bytes.result.now)

pub range-text-requires-clause-end_boundary : goal.range-text-requires-clause-end_boundary
range-text-requires-clause-end_boundary c =
    let m = scanned (chars c.range_from-front.result.now) c.in-Some.kind (chars c.in-Some.rest.now) c.in-Some.ensures.1 c.in-Some.ensures.0 in
    let whole = front_and_rest c.range_from-front.result.now c.as_bytes.result.now m.piece c.range_from-front.utf8 c.as_bytes.ensures.utf8 (rw c.as_bytes.ensures.value m.is.whole) in
    let len : length c.range_from-front.result.now - length c.as_bytes.result.now ≡ length (encodes m.piece) =
    omega (arith, ap length whole, length-append (encodes m.piece) c.as_bytes.result.now) in
    rw len (IsCharBoundary-at_seam c.range_from-front.result.now (encodes m.piece) c.as_bytes.result.now whole c.as_bytes.ensures.utf8)

pub returns-in-Some : goal.returns-in-Some
returns-in-Some c =
    let m = scanned (chars c.range_from-front.result.now) c.in-Some.kind (chars c.in-Some.rest.now) c.in-Some.ensures.1 c.in-Some.ensures.0 in
    token_by c.args.text.now c.range_from-front.result.now c.in-Some.rest.now c.args.at _ m c.range_from-front.ensures.value c.requires.0 c.range_from-front.utf8
    (subst IsUtf8 c.as_bytes.ensures.value c.as_bytes.ensures.utf8) c.range-text.utf8 refl (c.range-text.ensures.value ∙ rw c.as_bytes.ensures.value (grind (arith, common_steps)))

pub returns-in-None : goal.returns-in-None
returns-in-None c = sym c.range_from-front.ensures.value ∙ no_chars c.range_from-front.result.now c.range_from-front.utf8 c.in-None.ensures
