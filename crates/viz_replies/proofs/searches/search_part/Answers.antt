use Rattle.std.proofs.Common.{◌∙◌, ◌++◌, ap}
use Rattle.viz_replies.proofs.searches.search_part.Goals as goal

pub returns-in_ok-extend_from_slice-in-Proved : goal.returns-in_ok-extend_from_slice-in-Proved
returns-in_ok-extend_from_slice-in-Proved c =
    let found = rw c.in-Proved.is at c.in_ok-text.ensures.outcome in
    record {
      cert = found.cert;
      proof = found.proof;
      text = c.in-Proved.text.items;
      spelled = found.spelled;
      behind = c.in_ok-extend_from_slice-in-Proved.ensures.items ∙ ap (λ x. c.args.texts.now.items ++ x) c.as_slice.ensures.value;
    }
