-- The style sheets of a job (CSS 2.1, chapter 4).
use Rattle.std.specs.Prelude.{◌≡◌, ℕ, List, [], ◌∷◌, ◌++◌, length, Ok, Err}
use Rattle.viz_base.specs.declared.sheets.Sheet.{Sheet}
use Rattle.css_semantics.specs.DefaultSheet.{default_text}
use Rattle.css_semantics.specs.SheetsGrammar.{IsSheetOf}
use Rattle.css_semantics.specs.SheetsReading.{Refusal}

-- each text is read as a sheet
pub data AreRead : List (List ℕ) → List Sheet → Type 0 where
  nothing : AreRead [] []
  first : {text : List ℕ} {sheet : Sheet} {texts : List (List ℕ)} {sheets : List Sheet}
      → IsSheetOf text (Ok sheet.rules) → AreRead texts sheets → AreRead (text ∷ texts) (sheet ∷ sheets)

-- the first text that is refused as a sheet, with its number, those before it being read
pub record IsFirstRefused (texts : List (List ℕ)) (number : ℕ) (why : Refusal) : Type 0 where
  pub before : List (List ℕ)
  pub text : List ℕ
  pub behind : List (List ℕ)
  pub sheets : List Sheet
  pub parts : texts ≡ before ++ text ∷ behind
  pub number_is : length before ≡ number
  pub read : AreRead before sheets
  pub refused : IsSheetOf text (Err why)

-- the sheets of a page: the default one, and the author's behind it
pub record AreSheets (css : List (List ℕ)) (sheets : List Sheet) : Type 0 where
  pub default : Sheet
  pub authors : List Sheet
  pub default_read : IsSheetOf default_text (Ok default.rules)
  pub authors_read : AreRead css authors
  pub all : sheets ≡ default ∷ authors
