use Rattle.lin_search.proofs.at_hand.refuted_at_hand.Goals as goal

pub returns-in-None : goal.returns-in-None
returns-in-None c =
    let none = rw c.in-None.is at c.in_ok-pair.ensures in
    record {
      alone = c.in_default.ensures;
      together = λ i j f g at_f at_g. none i f at_f j g at_g;
    }
