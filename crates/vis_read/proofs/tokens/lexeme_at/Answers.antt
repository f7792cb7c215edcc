use Rattle.std.proofs.Common.{◌+◌, ◌≤◌, ◌∙◌, drop, length, subst, arith}
use Rattle.std.proofs.lemmas.List.{length-drop}
use Rattle.vis_read.specs.Pieces.{BeginsWithNone}
use Rattle.vis_read.specs.Tokens.{Means}
use Rattle.vis_read.specs.steps.Next.{IsCut, IsNext}
use Rattle.vis_read.proofs.Sequence.{cuts, cut_next, read_at, slice_at}
use Rattle.vis_read.proofs.tokens.lexeme_at.Goals as goal

pub range-requires-clause-start_boundary : goal.range-requires-clause-start_boundary
range-requires-clause-start_boundary c = λ some.
    let whole = read_at c.as_bytes-bytes.result.now c.args.text.now c.args.at c.as_bytes-bytes.ensures.value c.requires in
    let cut = subst (λ xs. IsCut xs (c.in-Some.kind, c.in-Some.len)) whole c.in-Some.ensures in
    (cuts c.args.text.now c.args.at c.in-Some.len c.utf8.text cut.0 cut.1.is).0

pub range-requires-clause-end_boundary : goal.range-requires-clause-end_boundary
range-requires-clause-end_boundary c =
    let whole = read_at c.as_bytes-bytes.result.now c.args.text.now c.args.at c.as_bytes-bytes.ensures.value c.requires in
    let cut = subst (λ xs. IsCut xs (c.in-Some.kind, c.in-Some.len)) whole c.in-Some.ensures in
    (cuts c.args.text.now c.args.at c.in-Some.len c.utf8.text cut.0 cut.1.is).1

pub returns-in_ok-lexeme_of-in-Some : goal.returns-in_ok-lexeme_of-in-Some
returns-in_ok-lexeme_of-in-Some c =
    let text = c.args.text.now in
    let at = c.args.at in
    let whole = read_at c.as_bytes-bytes.result.now text at c.as_bytes-bytes.ensures.value c.requires in
    let cut = subst (λ xs. IsCut xs (c.in-Some.kind, c.in-Some.len)) whole c.in-Some.ensures in
    let fits = cut.0 in
    let within : at + c.in-Some.len ≤ length text = omega (arith, fits, length-drop at text) in
    record {
      next = cut_next c.args.page.now.nodes (drop at text) c.in-Some.kind c.in_ok-lexeme_of-in-Some.field-0 c.in-Some.len cut
          (subst (λ piece. Means c.args.page.now.nodes c.in-Some.kind piece c.in_ok-lexeme_of-in-Some.field-0) (c.range.ensures.value ∙ slice_at text at c.in-Some.len) c.in_ok-lexeme_of-in-Some.ensures);
      within = within;
    }

pub returns-in-None : goal.returns-in-None
returns-in-None c =
    let text = c.args.text.now in
    let at = c.args.at in
    let whole = read_at c.as_bytes-bytes.result.now text at c.as_bytes-bytes.ensures.value c.requires in
    let within : at + 0 ≤ length text = omega arith in
    record { next = IsNext.nothing (subst BeginsWithNone whole c.in-None.ensures); within = within }
