use Rattle.viz_renew.proofs.parts.stands.Goals as goal

pub returns-then-cert-ne1 : goal.returns-then-cert-ne1
returns-then-cert-ne1 c = λ plain. absurd (c.if-cert-ne1.true plain.form)

pub returns-in-Rejected : goal.returns-in-Rejected
returns-in-Rejected c = λ plain.
    let text = c.requires.text in
    let accepted = (c.in_ok-check.ensures.units text.0 text.1 plain.plain).1 plain.right in
    let rejected = c.in-Rejected.is in
    absurd (cc)

pub returns : goal.returns
returns c = (rw c.in-Accepted.is at c.in_ok-check.ensures.verdict, c.if-cert-ne1.false)
