use Rattle.std.proofs.Common.{sym, ◌∙◌}
use Rattle.css_semantics.proofs.MediaLists.{is_media_list, media_list_is}
use Rattle.css_semantics.proofs.sheets.one_media_list.Goals as goal

pub returns-clause-exists : goal.returns-clause-exists
returns-clause-exists c = λ ts. (_, is_media_list ts)

pub returns-clause-unique : goal.returns-clause-unique
returns-clause-unique c = λ ts a b h k. media_list_is h ∙ sym (media_list_is k)
