-- The refusal that a fault of `read_sheet` names. Want of memory names none.
use Rattle.std.specs.Prelude.{◌≡◌, List, Option, Some, None, Result}
use Rattle.viz_base.specs.declared.sheets.Rule.{Rule}
use Rattle.viz_base.specs.declared.sheets.Sheet.{Sheet}
use Rattle.viz_base.specs.Answers.{FailsWith}
use Rattle.css_semantics.specs.SheetsReading.{Refusal, import_at, media_at, too_many}
use Rattle.css_syntax.specs.declared.sheets.SheetFault.{SheetFault}
use Rattle.css_syntax.specs.declared.sheets.SheetFault.TheVariants.{Mem, Import, MediaQuery, TooManyRules}

abbrev pub refusal_of : SheetFault → Option Refusal
refusal_of Mem = None
refusal_of (Import place) = Some (import_at place)
refusal_of (MediaQuery place) = Some (media_at place)
refusal_of TooManyRules = Some too_many

-- the answer is the refusal that a fault names, if it names one
abbrev pub Refuses : {A : Type 0} → SheetFault → Result A Refusal → Type 0
Refuses fault answer = FailsWith (refusal_of fault) (λ given. answer ≡ given)

abbrev pub rules_in : Sheet → List Rule
rules_in sheet = sheet.rules
