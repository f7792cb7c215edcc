use Rattle.std.proofs.Common.{◌≡◌, ◌+◌, ◌++◌, ◌∷◌, [], ◌∙◌, ap, append-nil, arith, drop, false, length, not, sym}
use Rattle.std.proofs.lemmas.List.{map-append, with_items_is}
use Rattle.viz_base.proofs.ListLemmas.{drop_at}
use Rattle.layout_semantics.specs.Lists.{one_if}
use Rattle.layout_semantics.specs.WhiteSpace.{is_bare}
use Rattle.page_boxes.specs.Seen.{all_seen, seen}
use Rattle.page_boxes.specs.steps.Spaces.{squeezed, with_text}
use Rattle.page_boxes.specs.steps.Tables.{held, put}
use Rattle.page_boxes.proofs.LeadSteps.{length_put}
use Rattle.page_boxes.proofs.Turns.{spaces_turn}
use Rattle.page_boxes.proofs.spaces.collapsed.Goals.{then-not-is_bare+in_ok-push, else-not-is_bare}
use Rattle.page_boxes.proofs.spaces.collapsed.Goals as goal

pub loop-part-preserved : goal.loop-part-preserved
loop-part-preserved c =
    let parts = c.args.parts.now in
    let at = c.loop-part.part-index in
    let table = c.loop-part.table.items in
    let kept = c.loop-part.kept.items in
    let part = seen c.part-item.result in
    let left = c.with_text-left.result in
    let next : all_seen (drop at parts) ≡ seen c.part-item.result ∷ all_seen (drop (at + 1) parts) = ap all_seen (drop_at parts at c.part-item.result c.loop-part-test.true c.part-item.is) in
    let same = ap length c.put.ensures ∙ length_put c.deref_mut.result.now part.container c.keeps_behind_part.result in
    let len = c.deref_mut.ensures.len in
    let grown : all_seen c.if-not-is_bare.kept.items ≡ all_seen c.loop-part.kept.items ++ one_if (not (is_bare (seen c.with_text-left.result))) (seen c.with_text-left.result) = elim c.if-not-is_bare.branch [
      | then-not-is_bare+in_ok-push w ↦ ap (λ v. all_seen v.items) w.kept-is ∙ (ap all_seen w.in_ok-push.ensures.items ∙ (map-append seen kept (left ∷ []) ∙ ap (λ t. all_seen kept ++ one_if (not t) (seen left)) (sym (sym c.is_bare.ensures ∙ w.if-not-is_bare.true))))
      | else-not-is_bare w ↦ ap (λ v. all_seen v.items) w.kept-is ∙ (sym (append-nil (all_seen kept)) ∙ ap (λ t. all_seen kept ++ one_if (not t) (seen left)) (sym (sym c.is_bare.ensures ∙ w.if-not-is_bare.false)))
    ] in
    spaces_turn table _ (all_seen kept) (all_seen c.if-not-is_bare.kept.items) part (seen left) _ _ c.held-before.result next
    (c.held-before.ensures ∙ ap (λ t. held t part.container false) c.deref.ensures.value)
    (c.with_text-left.ensures ∙ ap (with_text part) (c.in_ok-text.ensures ∙ ap (squeezed c.held-before.result) c.as_slice.ensures))
    (with_items_is c.loop-part.table c.put.new.table (omega (arith, same, len))
    ∙ (c.put.ensures ∙ (ap (λ t. put t part.container c.keeps_behind_part.result) c.deref_mut.ensures.value ∙ ap (put table part.container) c.keeps_behind_part.ensures)))
    grown
    ∙ c.loop-part.invariant
