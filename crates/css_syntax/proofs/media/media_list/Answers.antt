use Rattle.std.proofs.Common.{◌≡◌, ◌∙◌, IfOk, List, sym, ap, subst, false, true}
use Rattle.std.specs.List.{list_all}
use Rattle.viz_base.specs.declared.sheets.MediaEntry.{MediaEntry}
use Rattle.css_semantics.specs.SheetsMarks.{is_gap, ends_entry}
use Rattle.css_semantics.specs.steps.MediaLists.{read_entry, later_entries}
use Rattle.css_semantics.specs.steps.Stretches.{front}
use Rattle.css_syntax.specs.Lists.{joined, with_entry}
use Rattle.css_syntax.specs.declared.media.MediaList.{MediaList}
use Rattle.css_syntax.proofs.MediaSteps.{listed_is}
use Rattle.css_syntax.proofs.media.media_list.Goals as goal

pub returns : goal.returns
returns c =
    let prelude = c.args.prelude.now in
    let start : MediaList = record { entries = c.new.result; is_known = true } in
    let blank : list_all (λ t. is_gap t.kind) prelude ≡ false = sym c.is_all_gap.ensures ∙ c.if-is_all_gap.false in
    let first : c.put.new.self ≡ with_entry start (read_entry (front ends_entry prelude)) = c.in_ok-put.ensures ∙ ap (with_entry start) (c.in_ok-entry.ensures).0 in
    let last = ap (λ x. joined c.put.new.self (later_entries x)) (c.in_ok-entry.ensures).1 ∙ listed_is prelude start c.put.new.self blank (ap (λ (x : List MediaEntry). record { entries = x; is_known = true }) c.new.ensures) first in
    subst (λ x. IfOk c.later_entries.result (λ list. list ≡ x)) last c.later_entries.ensures
