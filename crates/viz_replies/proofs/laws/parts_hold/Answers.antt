use Rattle.viz_replies.proofs.PartLemmas.{PartLaws, one_there, true_everywhere, true_there}
use Rattle.viz_replies.proofs.laws.parts_hold.Goals as goal

pub returns : goal.returns
returns c =
    let laws : PartLaws = record { answer = c.one_answer.ensures; tell = c.parts_tell.ensures.tell; ranges = c.parts_tell.ensures.ranges } in
    record { everywhere = true_everywhere laws; there = true_there laws; one = one_there laws }
