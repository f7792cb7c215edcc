-- What follows an item is an end of the tokens behind the item's first.
use Rattle.std.proofs.Common.{◌≡◌, suc, ◌+◌, Bool, true, false, cond, ◌||◌, List, [], ◌∷◌, drop, refl, ◌∙◌, ap}
use Rattle.std.proofs.Math.Numerals.{add-one, one-add}
use Rattle.css_semantics.specs.Pieces.{Token}
use Rattle.css_semantics.specs.SheetsMarks.{is_left_brace, is_gap, is_semicolon, is_at_keyword, ends_prelude, ends_selector, ends_block, ends_declaration, ends_entry}
use Rattle.css_semantics.specs.SheetsReading.{stretch_len, awaited, is_blank, is_between}
use Rattle.css_semantics.specs.steps.Sheets.{after_block, after_prelude, after_at_rule, after_selector, after_ruleset, after_declaration, after_rule, after_statement}
use Rattle.css_semantics.specs.steps.MediaLists.{after_comma}
use Rattle.css_semantics.specs.MediaLists.{after_piece}
use Rattle.css_semantics.specs.ValuesParts.{after_sign, is_amount, is_sign}
use Rattle.css_semantics.specs.steps.Stretches.{behind}
use Rattle.css_semantics.proofs.Gathering.{IsTail, HasTails, drop-drop, tail_all, tail_nil, tail_drop, tail_tail, tail_cons}

pub tail_if : (b : Bool) (x y ts : List Token) → (b ≡ true → IsTail x ts) → (b ≡ false → IsTail y ts) → IsTail (cond b x y) ts
tail_if true x y ts h k = h refl
tail_if false x y ts h k = k refl

pub second_false : (a b : Bool) → (a || b) ≡ false → b ≡ false
second_false true b h = cc
second_false false b h = h

pub tail_less : (u : Token) (us : List Token) (t : Token) (ts : List Token) → IsTail (u ∷ us) (t ∷ ts) → IsTail us ts
tail_less u us t ts h = (h.0, ap (drop 1) h.1 ∙ drop-drop 1 h.0 (t ∷ ts) ∙ ap (λ k. drop k (t ∷ ts)) (add-one h.0))

-- a stretch that begins with a token takes it
pub stretch_later : (stop : Token → Bool) (t : Token) (ts : List Token) → stop t ≡ false → stretch_len stop [] (t ∷ ts) ≡ suc (stretch_len stop (awaited t.kind []) ts)
stretch_later stop t ts e = ap (λ b. cond b 0 (1 + stretch_len stop (awaited t.kind []) ts)) e ∙ one-add _

pub tail_behind : (stop : Token → Bool) (ts : List Token) → IsTail (behind stop ts) ts
tail_behind stop ts = (stretch_len stop [] ts, refl)

tail_later : (stop : Token → Bool) (t : Token) (ts : List Token) → stop t ≡ false → IsTail (behind stop (t ∷ ts)) ts
tail_later stop t ts e = (stretch_len stop (awaited t.kind []) ts, ap (λ k. drop k (t ∷ ts)) (stretch_later stop t ts e))

tail_block : (us ts : List Token) → IsTail us ts → IsTail (after_block us) ts
tail_block us ts h = tail_drop 1 _ ts (tail_drop (stretch_len ends_block [] us) us ts h)

tail_prelude : (us ts : List Token) → IsTail us ts → IsTail (after_prelude us) ts
tail_prelude [] ts h = tail_nil ts
tail_prelude (u ∷ us) ts h =
    let k = tail_tail u us ts h in
    tail_if (is_left_brace u.kind) (after_block us) us ts (λ _. tail_block us ts k) (λ _. k)

pub tail_at_rule : (ts : List Token) → IsTail (after_at_rule ts) ts
tail_at_rule ts = tail_prelude (behind ends_prelude ts) ts (tail_behind ends_prelude ts)

tail_selector : (us : List Token) (t : Token) (ts : List Token) → IsTail us (t ∷ ts) → IsTail (after_selector us) ts
tail_selector [] t ts h = tail_nil ts
tail_selector (u ∷ us) t ts h = tail_block us ts (tail_less u us t ts h)

tail_ruleset : (t : Token) (ts : List Token) → IsTail (after_ruleset (t ∷ ts)) ts
tail_ruleset t ts = tail_selector (behind ends_selector (t ∷ ts)) t ts (tail_behind ends_selector (t ∷ ts))

pub tail_sign : (ts : List Token) → IsTail (after_sign ts) ts
tail_sign [] = tail_all []
tail_sign (t ∷ ts) = tail_if (is_amount t.kind) ts (t ∷ ts) (t ∷ ts) (λ _. tail_cons t ts ts (tail_all ts)) (λ _. tail_all (t ∷ ts))

pub declaration_tails : HasTails after_declaration
declaration_tails t ts =
    tail_if (is_blank t.kind) _ _ ts (λ _. tail_all ts) (λ e. tail_if (is_at_keyword t.kind) _ _ ts (λ _. tail_at_rule ts) (λ _. tail_later ends_declaration t ts (second_false (is_gap t.kind) (is_semicolon t.kind) e)))

pub rule_tails : HasTails after_rule
rule_tails t ts =
    tail_if (is_gap t.kind) _ _ ts (λ _. tail_all ts) (λ _. tail_if (is_at_keyword t.kind) _ _ ts (λ _. tail_at_rule ts) (λ _. tail_ruleset t ts))

pub statement_tails : HasTails after_statement
statement_tails t ts =
    tail_if (is_between t.kind) _ _ ts (λ _. tail_all ts) (λ _. tail_if (is_at_keyword t.kind) _ _ ts (λ _. tail_at_rule ts) (λ _. tail_ruleset t ts))

pub comma_tails : HasTails after_comma
comma_tails t ts = tail_behind ends_entry ts

pub piece_tails : HasTails after_piece
piece_tails t ts = tail_if (is_sign t) (after_sign ts) ts ts (λ _. tail_sign ts) (λ _. tail_all ts)
