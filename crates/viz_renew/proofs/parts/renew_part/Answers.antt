use Rattle.std.proofs.Common.{◌∙◌, ◌++◌, ◌≤◌, ap, arith}
use Rattle.std.proofs.lemmas.Result.{IfOk-weaker}
use Rattle.viz_renew.specs.Renewals.{unbounded}
use Rattle.viz_renew.proofs.RenewLemmas.{searched_step}
use Rattle.viz_renew.proofs.parts.renew_part.Goals as goal

pub write_cert-requires : goal.write_cert-requires
write_cert-requires c =
    let proof = c.in_ok-still.ensures c.if-not-still.false in
    (proof.text, proof.spelled)

pub returns-then-not-still : goal.returns-then-not-still
returns-then-not-still c =
    let bound : c.args.turns ≤ unbounded = let range = c.ranges.turns in omega arith in
    IfOk-weaker c.search_part.result _ _ (λ end h. searched_step c.args.turns c.args.most bound c.args.job.now _ _ end h) c.search_part.ensures

pub returns : goal.returns
returns c =
    let proof = c.in_ok-still.ensures c.if-not-still.false in
    record {
      cert = c.args.cert.now;
      proof = proof;
      text = c.in_ok-text.text.items;
      spelled = c.in_ok-text.ensures;
      behind = c.in_ok-extend_from_slice.ensures.items ∙ ap (λ x. c.args.texts.now.items ++ x) c.as_slice.ensures.value;
    }
