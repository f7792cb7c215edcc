-- Lists that are read one item after another have exactly one reading, where each item has.
use Rattle.std.proofs.Common.{◌≡◌, ℕ, zero, suc, ◌≤◌, true, false, cond, List, [], ◌∷◌, ◌++◌, length, drop, refl, sym, ◌∙◌, ap, subst, arith}
use Rattle.viz_base.proofs.Truths.{by_bool}
use Rattle.css_semantics.specs.Pieces.{Token}
use Rattle.css_semantics.specs.SheetsMarks.{is_left_brace, ends_prelude, ends_block}
use Rattle.css_semantics.specs.SheetsReading.{gathered}
use Rattle.css_semantics.specs.steps.Sheets.{after_block, after_prelude, after_at_rule, in_block}
use Rattle.css_semantics.specs.steps.Stretches.{front, behind}
use Rattle.css_semantics.specs.SheetsStretches.{IsBlock, IsBody, at_end, at_semicolon, at_block, IsAtRule, Listed, done, more}
use Rattle.css_semantics.proofs.Gathering.{HasTails, gathered_cons, length-tail}
use Rattle.css_semantics.proofs.Stretches.{is_stretch, stretch_front, stretch_behind}

-- each first token has this item, with this rest
abbrev pub Takes : {A : Type 0} → (List Token → List A → List Token → Type 0) → (Token → List Token → List A) → (Token → List Token → List Token) → Type 0
Takes One item after = (t : Token) (ts : List Token) → One (t ∷ ts) (item t ts) (after t ts)

-- and no other
abbrev pub TakesOnly : {A : Type 0} → (List Token → List A → List Token → Type 0) → (Token → List Token → List A) → (Token → List Token → List Token) → Type 0
TakesOnly {A} One item after = (t : Token) (ts : List Token) (xs : List A) (rest : List Token) → One (t ∷ ts) xs rest → (xs ≡ item t ts) × (rest ≡ after t ts)

module _ {A : Type 0} (One : List Token → List A → List Token → Type 0) (item : Token → List Token → List A) (after : Token → List Token → List Token) (tails : HasTails after) where
  listed_within : Takes One item after → (n : ℕ) (ts : List Token) → length ts ≤ n → Listed One ts (gathered item after 0 ts)
  listed_within takes n [] h = done
  listed_within takes zero (t ∷ ts) h = absurd (omega arith)
  listed_within takes (suc n) (t ∷ ts) h =
      let short : length (after t ts) ≤ n = omega (arith, length-tail (after t ts) ts (tails t ts)) in
      subst (Listed One (t ∷ ts)) (sym (gathered_cons item after tails t ts)) (more (takes t ts) (listed_within takes n (after t ts) short))

  pub listed : Takes One item after → (ts : List Token) → Listed One ts (gathered item after 0 ts)
  listed takes ts = listed_within takes (length ts) ts (omega arith)

  pub listed_only : TakesOnly One item after → {ts : List Token} {ys : List A} → Listed One ts ys → ys ≡ gathered item after 0 ts
  listed_only only done = refl
  listed_only only (more {t = t} {ts = ts} {rest = rest} {xs = xs} {ys = ys} one rest_listed) =
      let is = only t ts xs rest one in
      ap (λ x. x ++ ys) is.0 ∙ ap (λ x. item t ts ++ x) (listed_only only rest_listed ∙ ap (gathered item after 0) is.1) ∙ sym (gathered_cons item after tails t ts)

-- ---- blocks and at-rules

pub is_block : (ts : List Token) → IsBlock ts (front ends_block ts) (after_block ts)
is_block ts = record { closing = behind ends_block ts; stretch = is_stretch ends_block ts; past = refl }

pub block_front : (ts block rest : List Token) → IsBlock ts block rest → block ≡ front ends_block ts
block_front ts block rest h = stretch_front ends_block ts block h.closing h.stretch

pub block_after : (ts block rest : List Token) → IsBlock ts block rest → rest ≡ after_block ts
block_after ts block rest h = h.past ∙ ap (drop 1) (stretch_behind ends_block ts block h.closing h.stretch)

semicolon_body : (t : Token) (ts : List Token) → is_left_brace t.kind ≡ false → IsBody (t ∷ ts) (in_block (t ∷ ts)) (after_prelude (t ∷ ts))
semicolon_body t ts e =
    subst (λ b. IsBody (t ∷ ts) (cond b (front ends_block ts) []) (cond b (after_block ts) ts)) (sym e) (at_semicolon e)

block_body : (t : Token) (ts : List Token) → is_left_brace t.kind ≡ true → IsBody (t ∷ ts) (in_block (t ∷ ts)) (after_prelude (t ∷ ts))
block_body t ts e =
    subst (λ b. IsBody (t ∷ ts) (cond b (front ends_block ts) []) (cond b (after_block ts) ts)) (sym e) (at_block e (is_block ts))

is_body : (ts : List Token) → IsBody ts (in_block ts) (after_prelude ts)
is_body [] = at_end
is_body (t ∷ ts) = by_bool (is_left_brace t.kind) (block_body t ts) (semicolon_body t ts)

body_is : {ts block rest : List Token} → IsBody ts block rest → (block ≡ in_block ts) × (rest ≡ after_prelude ts)
body_is at_end = (refl, refl)
body_is (at_semicolon {t = t} {ts = ts} e) =
    (sym (ap (λ b. cond b (front ends_block ts) []) e), sym (ap (λ b. cond b (after_block ts) ts) e))
body_is (at_block {t = t} {ts = ts} {block = block} {rest = rest} e h) =
    (block_front ts block rest h ∙ sym (ap (λ b. cond b (front ends_block ts) []) e), block_after ts block rest h ∙ sym (ap (λ b. cond b (after_block ts) ts) e))

pub is_at_rule : (ts : List Token) → IsAtRule ts (front ends_prelude ts) (in_block (behind ends_prelude ts)) (after_at_rule ts)
is_at_rule ts = record { body = behind ends_prelude ts; stretch = is_stretch ends_prelude ts; rule = is_body (behind ends_prelude ts) }

module _ (ts prelude block rest : List Token) (h : IsAtRule ts prelude block rest) where
  pub at_rule_prelude : prelude ≡ front ends_prelude ts
  at_rule_prelude = stretch_front ends_prelude ts prelude h.body h.stretch

  pub at_rule_block : block ≡ in_block (behind ends_prelude ts)
  at_rule_block = (body_is h.rule).0 ∙ ap in_block (stretch_behind ends_prelude ts prelude h.body h.stretch)

  pub at_rule_after : rest ≡ after_at_rule ts
  at_rule_after = (body_is h.rule).1 ∙ ap after_prelude (stretch_behind ends_prelude ts prelude h.body h.stretch)
