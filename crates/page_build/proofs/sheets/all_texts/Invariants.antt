use Rattle.std.proofs.Common.{◌≡◌, ◌∷◌, take}
use Rattle.css_semantics.specs.DefaultSheet.{default_text}
use Rattle.page_build.proofs.sheets.all_texts.Given as goal

abbrev pub invariant-loop-text : goal.invariant-loop-text
invariant-loop-text l = l.texts.items ≡ default_text ∷ take l.text-index l.css
