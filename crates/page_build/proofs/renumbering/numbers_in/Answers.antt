use Rattle.std.proofs.Common.{◌+◌, ◌++◌, ◌∷◌, [], take, length, get_or, None, subst, sym, ◌∙◌, arith}
use Rattle.std.proofs.lemmas.List.{length-take-le, take_more}
use Rattle.page_build.specs.Seen.{AreNumbers}
use Rattle.page_build.proofs.Numbers.{numbers-push}
use Rattle.page_build.proofs.renumbering.numbers_in.Goals as goal

pub loop-at-preserved : goal.loop-at-preserved
loop-at-preserved c =
    let from = c.args.from.now in
    let at = c.loop-at.at in
    let o = get_or from at None in
    subst (λ ns. AreNumbers ns c.note.new.numbers.items) (sym (take_more from at None (omega arith)))
    (numbers-push (take at from) o c.in_ok-number.field-0 c.loop-at.numbers.items c.note.new.numbers.items (length-take-le at from (omega arith) ∙ sym c.in_ok-number.ensures) c.loop-at.invariant c.in_ok-note.ensures)
