use Rattle.std.proofs.Common.{◌≡◌, ◌<◌, length, Some, None, subst, sym, refl, ◌∙◌, arith}
use Rattle.std.proofs.lemmas.Bool.Decides.{nat_tests}
use Rattle.lay_line.specs.steps.Loading.{mark_from}
use Rattle.lay_line.proofs.Parts.{IsPast, first-cut, first-whole, first-moved}
use Rattle.lay_line.proofs.segments.cut_first.Goals.{in_default-via-in-Some+else-n-segments, in_default-via-in_default}
use Rattle.lay_line.proofs.segments.cut_first.Goals as goal

pub returns-in-Some : goal.returns-in-Some
returns-in-Some g c =
    let xs = c.args.segments.now.pieces.now in
    let marks = c.args.segments.now.marks.now in
    let n = c.in-Some.n in
    let found : mark_from 0 marks ≡ Some n = sym c.first_mark.ensures.value ∙ c.in-Some.is in
    let is = first-cut xs marks n found (omega arith) in
    (first-moved xs marks is c.split_at.ensures.front c.split_at.ensures.back c.split_at-in-Some.ensures.back, refl)

pub returns-in_default : goal.returns-in_default
returns-in_default g c =
    let xs = c.args.segments.now.pieces.now in
    let marks = c.args.segments.now.marks.now in
    let some : 0 < length xs = grind (arith, nat_tests) in
    let whole : IsPast (mark_from 0 marks) (length xs) = elim c.in_default.branch [
      | in_default-via-in-Some+else-n-segments w ↦
          let found : mark_from 0 marks ≡ Some w.in-Some.n = sym c.first_mark.ensures.value ∙ w.in-Some.is in
          subst (λ o. IsPast o (length xs)) (sym found) (omega arith)
      | in_default-via-in_default w ↦
          let found : mark_from 0 marks ≡ None = sym c.first_mark.ensures.value ∙ grind arith in
          subst (λ o. IsPast o (length xs)) (sym found) tt
    ] in
    let is = first-whole xs marks (length xs) (length marks) some whole refl refl in
    (first-moved xs marks is c.split_at-in_default.ensures.front c.split_at-in_default.ensures.back c.split_at-in_default-2.ensures.back, refl)
