-- Each text of a sheet is read in one way.
use Rattle.std.proofs.Common.{◌≡◌, ℕ, suc, List, [], ◌∷◌, ◌++◌, length, Result, Ok, Err, refl, sym, ◌∙◌, ap, subst}
use Rattle.std.specs.Str.{chars}
use Rattle.viz_base.specs.declared.sheets.Rule.{Rule}
use Rattle.viz_base.specs.declared.sheets.Sheet.{Sheet}
use Rattle.viz_base.proofs.Sameness.{same_Ok, same_Err, no_Ok, no_cons, same_head, same_tail}
use Rattle.css_semantics.specs.SheetsGrammar.{IsSheet, IsSheetOf}
use Rattle.css_semantics.specs.SheetsReading.{Refusal}
use Rattle.css_semantics.proofs.Answers.{sheet_is}
use Rattle.css_semantics.proofs.PieceLemmas.{pieces_same}
use Rattle.page_build.specs.Refusals.{of_sheet}
use Rattle.page_build.specs.Sheets.{AreRead, AreSheets, IsFirstRefused}

one_sheet : {text same : List ℕ} {a b : Result (List Rule) Refusal} → text ≡ same → IsSheetOf text a → IsSheetOf same b → a ≡ b
one_sheet {text = text} {same = same} {a = a} {b = b} e h k =
    let other = subst (λ t. IsSheetOf t b) (sym e) k in
    sheet_is h.0 a h.2 ∙ sym (sheet_is h.0 b (subst (λ ts. IsSheet ts b) (pieces_same other.0 h.0 0 (chars text) other.1 h.1) other.2))

same_sheet : {s t : Sheet} → s.rules ≡ t.rules → s ≡ t
same_sheet e = λ i. record { rules = e i }

one_reading : {texts others : List (List ℕ)} {s t : List Sheet} → AreRead texts s → AreRead others t → texts ≡ others → s ≡ t
one_reading AreRead.nothing AreRead.nothing e = refl
one_reading AreRead.nothing (AreRead.first k ks) e = absurd (no_cons e)
one_reading (AreRead.first h hs) AreRead.nothing e = absurd (no_cons (sym e))
one_reading (AreRead.first {sheet = s} {sheets = ss} h hs) (AreRead.first {sheet = t} {sheets = ts} k ks) e =
    ap (λ x. x ∷ ss) (same_sheet {s = s} {t = t} (same_Ok (one_sheet (same_head e) h k))) ∙ ap (λ xs. t ∷ xs) (one_reading hs ks (same_tail e))

pub one_default : {css : List (List ℕ)} {s t : List Sheet} → AreSheets css s → AreSheets css t → s ≡ t
one_default h k =
    let default = same_sheet {s = h.default} {t = k.default} (same_Ok (one_sheet refl h.default_read k.default_read)) in
    h.all ∙ (ap (λ x. x ∷ h.authors) default ∙ (ap (λ xs. k.default ∷ xs) (one_reading h.authors_read k.authors_read refl) ∙ sym k.all))

-- texts that are read have none that is refused
none_refused : {texts : List (List ℕ)} {s : List Sheet} {why : Refusal} (before : List (List ℕ)) (text : List ℕ) (behind : List (List ℕ))
    → AreRead texts s → texts ≡ before ++ text ∷ behind → IsSheetOf text (Err why) → ⊥
none_refused [] text behind AreRead.nothing e refused = no_cons e
none_refused (b ∷ bs) text behind AreRead.nothing e refused = no_cons e
none_refused [] text behind (AreRead.first h hs) e refused = no_Ok (one_sheet (same_head e) h refused)
none_refused (b ∷ bs) text behind (AreRead.first h hs) e refused = none_refused bs text behind hs (same_tail e) refused

pub read_or_refused : {css : List (List ℕ)} {s : List Sheet} {number : ℕ} {why : Refusal} → AreSheets css s → IsFirstRefused css number why → ⊥
read_or_refused h k = none_refused k.before k.text k.behind h.authors_read k.parts k.refused

-- a refused text behind some that are read: how many they are, and why it is refused
one_first : {before others : List (List ℕ)} {s t : List Sheet} {why reason : Refusal} (text : List ℕ) (behind : List (List ℕ)) (word : List ℕ) (rest : List (List ℕ)) → AreRead before s → AreRead others t
    → before ++ text ∷ behind ≡ others ++ word ∷ rest → IsSheetOf text (Err why) → IsSheetOf word (Err reason) → (length before ≡ length others) × (why ≡ reason)
one_first text behind word rest AreRead.nothing AreRead.nothing e h k = (refl, same_Err (one_sheet (same_head e) h k))
one_first text behind word rest AreRead.nothing (AreRead.first i is) e h k = absurd (no_Ok (sym (one_sheet (same_head e) h i)))
one_first text behind word rest (AreRead.first i is) AreRead.nothing e h k = absurd (no_Ok (one_sheet (same_head e) i k))
one_first text behind word rest (AreRead.first i is) (AreRead.first j js) e h k = let found = one_first text behind word rest is js (same_tail e) h k in (ap suc found.0, found.1)

pub one_sheet_refusal : {css : List (List ℕ)} {m n : ℕ} {why reason : Refusal} → IsFirstRefused css m why → IsFirstRefused css n reason → of_sheet m why ≡ of_sheet n reason
one_sheet_refusal {m = m} {reason = reason} h k =
    let found = one_first h.text h.behind k.text k.behind h.read k.read (sym h.parts ∙ k.parts) h.refused k.refused in
    ap (of_sheet m) found.1 ∙ ap (λ number. of_sheet number reason) (sym h.number_is ∙ (found.0 ∙ k.number_is))
