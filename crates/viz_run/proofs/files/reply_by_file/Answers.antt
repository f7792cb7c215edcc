use Rattle.std.proofs.Common.{◌≡◌, inl, Err, subst}
use Rattle.viz_outside.specs.declared.shelf.ShelfFault.TheVariants.{Failed}
use Rattle.viz_run.proofs.RunLemmas.{given_whole, given_longer}
use Rattle.viz_run.proofs.files.reply_by_file.Goals as goal

pub returns-in_ok-checked-in-Ok-Whole-clause-reply : goal.returns-in_ok-checked-in-Ok-Whole-clause-reply
returns-in_ok-checked-in-Ok-Whole-clause-reply g c =
    let told = rw c.in-Ok-Whole.field-0-is at c.in-Ok-Whole.ensures.told in
    let few = rw c.in-Ok-Whole.field-0-is at c.in-Ok-Whole.ensures.capped in
    let loaded = rw c.in-Ok-Whole.field-0-is at c.in-Ok-Whole.ensures.loaded in
    let given = given_whole (g.F.Shelf.files c.args.shelf.now) g.F.Shelf.loads c.args.name.now 67108864 _ _ c.in-Ok-Whole.bytes told few loaded in
    (c.in-Ok-Whole.bytes, given, rw c.as_slice.ensures at c.in_ok-checked-in-Ok-Whole.ensures)

pub returns-in_ok-long_certificate-in-Ok-Longer-clause-reply : goal.returns-in_ok-long_certificate-in-Ok-Longer-clause-reply
returns-in_ok-long_certificate-in-Ok-Longer-clause-reply g c =
    let told = rw c.in-Ok-Longer.field-0-is at c.in-Ok-Longer.ensures.told in
    let loaded = rw c.in-Ok-Longer.field-0-is at c.in-Ok-Longer.ensures.loaded in
    let found = given_longer (g.F.Shelf.files c.args.shelf.now) g.F.Shelf.loads c.args.name.now 67108864 _ _ told loaded in
    let reply = c.in_ok-long_certificate-in-Ok-Longer.ensures in
    (found.0, found.1, rw reply.0 (inl (inl (record { long = found.2; line = reply.1 }))))

pub returns-in-Err-clause-unread : goal.returns-in-Err-clause-unread
returns-in-Err-clause-unread g c = λ is.
    let same : c.in-Err.fault ≡ Failed = cc in
    subst (λ fault. g.F.Shelf.loads c.args.shelf.now c.args.name.now 67108864 (Err fault) c.load.new.self) same c.in-Err.ensures.loaded

pub returns-in_err-checked-in-Ok-Whole-clause-wanting : goal.returns-in_err-checked-in-Ok-Whole-clause-wanting
returns-in_err-checked-in-Ok-Whole-clause-wanting g c = λ _. (_, c.in-Ok-Whole.ensures.loaded)

pub returns-in_err-long_certificate-in-Ok-Longer-clause-wanting : goal.returns-in_err-long_certificate-in-Ok-Longer-clause-wanting
returns-in_err-long_certificate-in-Ok-Longer-clause-wanting g c = λ _. (_, c.in-Ok-Longer.ensures.loaded)

pub returns-in-Err-clause-wanting : goal.returns-in-Err-clause-wanting
returns-in-Err-clause-wanting g c = λ _. (_, c.in-Err.ensures.loaded)
