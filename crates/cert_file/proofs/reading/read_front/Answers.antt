use Rattle.cert_file.proofs.reading.read_front.Goals as goal

pub unreachable-requires : goal.unreachable-requires
unreachable-requires c =
    let none = rw c.in-Err-Grammar.field-0-is at c.in-Err-Grammar.ensures in
    let has = c.in_ok-length.ensures.text in
    absurd (none.no_text has.1.0 has.1.1)
