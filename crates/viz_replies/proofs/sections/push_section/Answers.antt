use Rattle.std.proofs.Common.{◌∙◌}
use Rattle.viz_replies.proofs.Joins.{a_section}
use Rattle.viz_replies.proofs.sections.push_section.Goals as goal

pub returns : goal.returns
returns c =
    a_section c.args.number c.class_of.result c.word_count.result c.args.out.now.items c.as_bytes.result.now _ _ _ _ _ c.in_ok-extend_from_slice.ensures.items
    c.class_of.ensures (c.as_bytes.ensures.value ∙ c.format.ensures.text) c.in_ok-extend_from_slice-2.ensures.items c.in_ok-extend_from_slice-3.ensures.items
    c.word_count.ensures c.in_ok-push_words.ensures c.in_ok-extend_from_slice-4.ensures.items
