use Rattle.std.proofs.Common.{◌≡◌, ◌<◌, ◌++◌, ◌∷◌, [], ℕ, zero, suc, List, length, get_or, take, ap, ◌∙◌, arith}
use Rattle.std.proofs.lemmas.Iterator.{YieldsList-from_chars}
use Rattle.std.proofs.lemmas.Iterator.Consumers.{YieldsList-turn, YieldsList-end}
use Rattle.std.proofs.lemmas.List.{length_push, take_all}
use Rattle.std.specs.Str.{chars}
use Rattle.page_boxes.proofs.letters.letters_of.Goals as goal

take_next : (xs : List ℕ) (n c : ℕ) → (n < length xs) × (c ≡ get_or xs n c) → take n xs ++ c ∷ [] ≡ take (suc n) xs
take_next [] n c h = absurd (omega (arith, h.0))
take_next (x ∷ xs) zero c h = ap (λ y. y ∷ []) h.1
take_next (x ∷ xs) (suc n) c h = ap (λ ys. x ∷ ys) (take_next xs n c (omega (arith, h.0), h.1))

pub loop-letter-preserved : goal.loop-letter-preserved
loop-letter-preserved c =
    let t = YieldsList-turn (YieldsList-from_chars c.args.text.now c.utf8.text cc) c.loop-letter.yielded _ c.loop-letter.yielded_by _ _ c.in-Some.letter c.in-Some.is c.next.ensures.steps in
    let n = length_push c.loop-letter.yielded c.in-Some.letter in
    let next : suc (length c.loop-letter.yielded) ≡ length (c.loop-letter.yielded ++ c.in-Some.letter ∷ []) = omega (arith, n) in
    c.in_ok-push.ensures.items
    ∙ (ap (λ l. l ++ c.in-Some.letter ∷ []) c.loop-letter.invariant
    ∙ (take_next (chars c.args.text.now) (length c.loop-letter.yielded) c.in-Some.letter t
    ∙ ap (λ k. take k (chars c.args.text.now)) next))

pub returns : goal.returns
returns c =
    let t = YieldsList-end (YieldsList-from_chars c.args.text.now c.utf8.text cc) c.loop-letter.yielded _ c.loop-letter.yielded_by _ _ c.in-None.is c.next.ensures.steps in
    c.loop-letter.invariant ∙ take_all (length c.loop-letter.yielded) (chars c.args.text.now) (omega (arith, t.1))
