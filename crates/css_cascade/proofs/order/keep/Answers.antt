use Rattle.std.proofs.Common.{◌≡◌, ◌<◌, map, set, get_or, length, Some, None, option_map, sym, ap, ◌∙◌, subst}
use Rattle.std.proofs.lemmas.List.{map-set, get_or-map}
use Rattle.css_cascade.specs.steps.Seen.{later_or, seen}
use Rattle.css_cascade.proofs.order.keep.Goals as goal

pub returns-clause-kept : goal.returns-clause-kept
returns-clause-kept c =
    let f = option_map seen in
    let items = c.args.best.now.items in
    let at = c.place_of-at.result in
    let below : at < length items = subst (λ n. at < n) (sym c.requires) c.place_of-at.ensures.within in
    let slot : option_map seen c.index.result.now ≡ get_or (map (option_map seen) items) at None = ap (option_map seen) c.index.ensures ∙ sym (get_or-map (option_map seen) items at c.index.result.now None below) in
    map-set (option_map seen) items at (Some c.later_or.result)
    ∙ ap (λ x. set (map (option_map seen) items) at (Some x)) (c.later_or.ensures ∙ ap (λ o. later_or o (seen c.args.next)) slot)
    ∙ ap (λ i. set (map (option_map seen) items) i (Some (later_or (get_or (map (option_map seen) items) i None) (seen c.args.next)))) c.place_of-at.ensures.place
