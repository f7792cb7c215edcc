use Rattle.std.proofs.Common.{inl}
use Rattle.std.proofs.lemmas.Result.{IfOk-weaker}
use Rattle.viz_replies.proofs.ReplyLemmas.{can_tell, proves}
use Rattle.viz_replies.proofs.replies.searched.Goals as goal

pub search_reply-requires : goal.search_reply-requires
search_reply-requires c =
    let what = rw c.as_slice.ensures at c.in_ok-found.ensures in
    can_tell c.parts_hold.ensures.there c.parts_hold.ensures.one c.args.bytes.now c.args.jobs c.args.turns c.in_ok-found.field-0 c.requires.spelled what

pub returns : goal.returns
returns c =
    let what = rw c.as_slice.ensures at c.in_ok-found.ensures in
    IfOk-weaker c.search_reply.result _ _
    (λ r h. inl (proves c.args.bytes.now c.args.jobs c.args.turns c.in_ok-found.field-0 r.answer r.output.items c.requires.spelled what h)) c.search_reply.ensures
