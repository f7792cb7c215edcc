use Rattle.css_cascade.proofs.buckets.last_of.Goals as goal

pub returns-in-Some : goal.returns-in-Some
returns-in-Some c = (c.in-Some.field-0-1.now, c.in-Some.field-0-0.now.0, c.in-Some.ensures.cases.0)
