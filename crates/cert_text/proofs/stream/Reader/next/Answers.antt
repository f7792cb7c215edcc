use Rattle.std.proofs.Common.{◌≡◌, ◌-◌, Some, Ok, Err, length, refl, sym, subst}
use Rattle.cert_text.specs.Pieces.{IsWhole, IsNext, HasNoText, HasNoMore, bytes_of}
use Rattle.cert_text.specs.steps.Stream.{Stands, read_due}
use Rattle.cert_text.proofs.Readings.{reading, whole_by, stands_more, taken_more, rest_more, begins_more, within, no_text, no_more, bytes_same}
use Rattle.cert_text.proofs.stream.Reader.next.Goals as goal

pub returns-in_default : goal.returns-in_default
returns-in_default c = (refl, subst IsWhole c.self.view_is (whole_by c.self.inside.bytes.now c.self.inside.rest.now c.self.inside.next c.self.inside.later.items c.self.invariant c.in_default.is))

pub invariant_of-self : goal.invariant_of-self
invariant_of-self c =
    let r = c.self.inside in
    let here = subst (λ n. Stands r.bytes.now r.rest.now n r.later.items) c.in-Some.is c.self.invariant in
    stands_more r.bytes.now r.rest.now c.in-Some.due r.later.items here c.in-Ok.piece c.read_due.new.cursor.rest.now c.in-Ok.ensures c.in-Ok-due_after.next c.due_after.new.later.items c.in-Ok-due_after.ensures.due

pub overflow_sub-result : goal.overflow_sub-result
overflow_sub-result c =
    let r = c.self.inside in
    let here = subst (λ n. Stands r.bytes.now r.rest.now n r.later.items) c.in-Some.is c.self.invariant in
    let left = c.read_due.new.cursor.rest.now in
    let stuck : read_due c.in-Some.due r.rest.now ≡ Err left = rw c.in-Err-Refused.field-0-is at c.in-Err-Refused.ensures in
    within r.bytes.now r.rest.now c.in-Some.due r.later.items here left stuck

pub returns-in-Ok-due_after : goal.returns-in-Ok-due_after
returns-in-Ok-due_after c =
    let r = c.self.inside in
    let here = subst (λ n. Stands r.bytes.now r.rest.now n r.later.items) c.in-Some.is c.self.invariant in
    let due = c.in-Some.due in
    let piece = c.in-Ok.piece in
    let left = c.read_due.new.cursor.rest.now in
    subst (λ o. IsNext o (Ok (Some piece)) (reading r.bytes.now left)) c.self.view_is (
      taken_more r.bytes.now r.rest.now due r.later.items here piece left c.in-Ok.ensures,
      rest_more r.bytes.now r.rest.now due r.later.items here piece left c.in-Ok.ensures,
      begins_more r.bytes.now r.rest.now due r.later.items here piece left c.in-Ok.ensures,
    )

pub returns-in-Err-Refused : goal.returns-in-Err-Refused
returns-in-Err-Refused c =
    let r = c.self.inside in
    let here = subst (λ n. Stands r.bytes.now r.rest.now n r.later.items) c.in-Some.is c.self.invariant in
    let due = c.in-Some.due in
    let left = c.read_due.new.cursor.rest.now in
    let at = length r.bytes.now - length left in
    let stuck : read_due due r.rest.now ≡ Err left = rw c.in-Err-Refused.field-0-is at c.in-Err-Refused.ensures in
    let same = bytes_same r.bytes.now r.rest.now (Some due) r.later.items here in
    let both = subst (λ o. HasNoText (bytes_of o) at × HasNoMore o) c.self.view_is (
      subst (λ b. HasNoText b at) (sym same) (no_text r.bytes.now r.rest.now due r.later.items here left stuck),
      no_more r.bytes.now r.rest.now due r.later.items here left stuck,
    ) in
    (refl, both.0, both.1)
