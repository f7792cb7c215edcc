use Rattle.css_cascade.proofs.Rulesets.{ruleset_is, unread_is}
use Rattle.css_cascade.proofs.reading.ruleset_with.Goals as goal

pub returns-in_ok-ruleset_of-in-Ok : goal.returns-in_ok-ruleset_of-in-Ok
returns-in_ok-ruleset_of-in-Ok c =
    let those = c.in-Ok.ensures.those in
    ruleset_is _ _ _ _ _ those.0 _ _ c.requires those.1 those.2 c.in_ok-ruleset_of-in-Ok.ensures

pub returns-in-Err : goal.returns-in-Err
returns-in-Err c = unread_is _ _ _ _ _ _ c.requires c.in-Err.ensures.unread c.unread.result c.unread.ensures.is
