-- Sheets that are read, one after another.
use Rattle.std.proofs.Common.{◌≡◌, ℕ, suc, ◌+◌, ◌<◌, Bool, List, [], ◌∷◌, ◌++◌, length, take, drop, get_or, Ok, Err, refl, sym, ap, ◌∙◌, subst, arith, drop-cons}
use Rattle.std.proofs.lemmas.List.{take_more, take-append-drop, length-take-le, length-map}
use Rattle.viz_base.specs.declared.sheets.Feature.{Feature}
use Rattle.viz_base.specs.declared.sheets.Sheet.{Sheet}
use Rattle.css_semantics.specs.SheetsGrammar.{IsSheetOf}
use Rattle.css_semantics.specs.SheetsReading.{Refusal}
use Rattle.page_media.specs.Queries.{met_sheet, met_sheets}
use Rattle.page_build.specs.Sheets.{AreRead, AreSheets, IsFirstRefused}

behind : {texts : List (List ℕ)} {sheets : List Sheet} (text : List ℕ) (sheet : Sheet) → AreRead texts sheets → IsSheetOf text (Ok sheet.rules) → AreRead (texts ++ text ∷ []) (sheets ++ sheet ∷ [])
behind text sheet AreRead.nothing is = AreRead.first is AreRead.nothing
behind text sheet (AreRead.first one rest) is = AreRead.first one (behind text sheet rest is)

pub read_more : (css : List (List ℕ)) (i : ℕ) (sheets : List Sheet) (text : List ℕ) (sheet : Sheet) → i < length css → text ≡ get_or css i text
    → AreRead (take i css) sheets → IsSheetOf text (Ok sheet.rules) → AreRead (take (i + 1) css) (sheets ++ sheet ∷ [])
read_more css i sheets text sheet l e read is =
    let front : take (i + 1) css ≡ take i css ++ text ∷ [] = take_more css i text l ∙ ap (λ t. take i css ++ t ∷ []) (sym e) in
    subst (λ texts. AreRead texts (sheets ++ sheet ∷ [])) (sym front) (behind text sheet read is)

pub first_refused : (css : List (List ℕ)) (i : ℕ) (sheets : List Sheet) (text : List ℕ) (why : Refusal) → i < length css → text ≡ get_or css i text
    → AreRead (take i css) sheets → IsSheetOf text (Err why) → IsFirstRefused css i why
first_refused css i sheets text why l e read is = record {
  before = take i css;
  text = text;
  behind = drop (suc i) css;
  sheets = sheets;
  parts = sym (take-append-drop i css) ∙ ap (λ rest. take i css ++ rest) (subst (λ t. drop i css ≡ t ∷ drop (suc i) css) (sym e) (drop-cons css i text l));
  number_is = length-take-le i css (omega (arith, l));
  read = read;
  refused = is;
}

counted : {css : List (List ℕ)} {sheets : List Sheet} → AreRead css sheets → length sheets ≡ length css
counted AreRead.nothing = refl
counted (AreRead.first one rest) = ap suc (counted rest)

met_count : (met : Feature → Bool) (sheets : List Sheet) → length (met_sheets met sheets) ≡ length sheets
met_count met [] = refl
met_count met (default ∷ authors) = ap suc (length-map authors (met_sheet met))

-- as many sheets as texts, and the default one
pub same_count : {css : List (List ℕ)} {sheets : List Sheet} (met : Feature → Bool) → AreSheets css sheets → length (met_sheets met sheets) ≡ length css + 1
same_count {sheets = sheets} met read =
    let all = ap length read.all ∙ ap suc (counted read.authors_read) in
    let left = met_count met sheets in
    omega (arith, all, left)
