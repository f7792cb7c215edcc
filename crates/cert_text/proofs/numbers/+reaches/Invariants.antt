use Rattle.cert_text.proofs.numbers.+reaches.Given as goal

abbrev pub decreases-reaches : goal.decreases-reaches
decreases-reaches l = l.digits
