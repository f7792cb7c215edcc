-- From the tokens of a text to the text.
use Rattle.std.proofs.Common.{◌≡◌, ℕ, List, length, Result, Ok, Err, map, sym, ◌∙◌, ap, subst}
use Rattle.std.specs.Prelude.{IfOk, ◌<◌, ◌^◌}
use Rattle.std.specs.List.{All}
use Rattle.std.specs.Str.{IsUtf8, chars}
use Rattle.css_semantics.specs.Specificity.{IsCountable}
use Rattle.css_select.proofs.Lengths.{are_countable}
use Rattle.viz_base.specs.declared.groups.Selector.{Selector}
use Rattle.css_semantics.specs.Pieces.{Token}
use Rattle.css_semantics.specs.Tokens.{AreTokens}
use Rattle.css_semantics.proofs.PieceLemmas.{pieces_same}
use Rattle.css_token.proofs.SequenceLemmas.{pieces_exist}
use Rattle.css_semantics.specs.SelectorTerminals.{without_comments}
use Rattle.css_select.specs.declared.faults.SelFault.{SelFault}
use Rattle.css_select.specs.declared.faults.SelFault.TheVariants.{Mem, Bad, Unsupported}
use Rattle.css_semantics.specs.Spelled.{spelled}
use Rattle.css_select.specs.Refusals.{refusal_of, unsupported_at, bad_at}
use Rattle.css_select.specs.Verdicts.{Verdict, IsReading, IsReadingOf, verdict_of}
use Rattle.viz_base.specs.Answers.{Gives, GivesOneOf}
use Rattle.css_select.proofs.Exact.{one_reading, reads_all}

-- ---- a text has one reading

-- the tokens of the text, and what they are
abbrev Told : List ℕ → Verdict → Type 0
Told text v = (ts : List Token) × AreTokens text ts × IsReading (length text) (without_comments ts) v

told : (text : List ℕ) (v : Verdict) → IsReadingOf text v → Told text v
told text (Ok group) h = h
told text (Err (unsupported_at place)) h = (h.0, h.1, (h.2, h.3, h.4))
told text (Err (bad_at place)) h = h

of_told : (text : List ℕ) (v : Verdict) → Told text v → IsReadingOf text v
of_told text (Ok group) h = h
of_told text (Err (unsupported_at place)) h = let k = h.2 in (h.0, h.1, k.0, k.1, k.2)
of_told text (Err (bad_at place)) h = h

pub one_reading_of : (text : List ℕ) (v w : Verdict) → IsReadingOf text v → IsReadingOf text w → v ≡ w
one_reading_of text v w h k =
    let a = told text v h in
    let b = told text w k in
    one_reading (length text) (without_comments a.0) v w a.2 (subst (λ ts. IsReading (length text) (without_comments ts) w) (pieces_same b.0 a.0 0 (chars text) b.1 a.1) b.2)

pub some_reading_of : (text : List ℕ) → (v : Verdict) × IsReadingOf text v
some_reading_of text =
    let x = pieces_exist (chars text) in
    (verdict_of (length text) x.0, of_told text (verdict_of (length text) x.0) (x.0, x.1, reads_all (length text) x.0))

-- what reading its tokens says is what the text is
read_is : (text : List ℕ) (ts : List Token) (end : ℕ) (v : Verdict) → AreTokens text ts → end ≡ length text → verdict_of end ts ≡ v → IsReadingOf text v
read_is text ts end v h e is = of_told text v (ts, h, subst (λ n. IsReading n (without_comments ts) v) e (subst (IsReading end (without_comments ts)) is (reads_all end ts)))

-- the answer for the tokens is one for the text
pub answers : (text : List ℕ) (ts given : List Token) (end : ℕ) (result : Result (List Selector) SelFault) → AreTokens text ts → end ≡ length text → given ≡ ts → Gives (map spelled) refusal_of result (verdict_of end given)
    → GivesOneOf (map spelled) refusal_of result (IsReadingOf text)
answers text ts given end (Ok group) h e g s = read_is text ts end (Ok (map spelled group)) h e (ap (verdict_of end) (sym g) ∙ s)
answers text ts given end (Err Mem) h e g s = tt
answers text ts given end (Err (Bad place)) h e g s = read_is text ts end (Err (bad_at place)) h e (ap (verdict_of end) (sym g) ∙ s)
answers text ts given end (Err (Unsupported place)) h e g s = read_is text ts end (Err (unsupported_at place)) h e (ap (verdict_of end) (sym g) ∙ s)

-- the selectors of a group are countable
pub countable : (text : List ℕ) (result : Result (List Selector) SelFault) → IsUtf8 text → length text < 2 ^ 32 → GivesOneOf (map spelled) refusal_of result (IsReadingOf text) → IfOk result (All (λ (s : Selector). IsCountable (spelled s)))
countable text (Ok group) u small h = are_countable text group u small h
countable text (Err fault) u small h = tt
