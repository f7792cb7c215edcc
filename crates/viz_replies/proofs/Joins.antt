-- One more piece at the end of those that are joined.
use Rattle.std.proofs.Common.{◌≡◌, ℕ, ◌+◌, ◌==◌, ◌<◌, List, [], ◌∷◌, ◌++◌, length, map, replicate, codes, cond, false, refl, ap, sym, ◌∙◌, append_assoc, append-nil, add-one, decimal, arith, zero, suc}
use Rattle.std.specs.List.{join_with_byte, range_with_len}
use Rattle.std.proofs.lemmas.Bool.Decides.{nat_tests}
use Rattle.std.proofs.lemmas.List.{length-replicate}
use Rattle.std.proofs.lemmas.Grind.{replicate_next}
use Rattle.std.proofs.lemmas.List.FromFn.{length-map-range_with_len, map-range_with_len_more}
use Rattle.viz_replies.specs.Generated.{class_of, number_at, number_after, word_count, section, sections_text, words}

joined_more : (c : ℕ) (xs : List (List ℕ)) (y : List ℕ) → 0 < length xs → join_with_byte c (xs ++ y ∷ []) ≡ join_with_byte c xs ++ (c ∷ y)
joined_more c [] y some = absurd (omega arith)
joined_more c (x ∷ []) y some = refl
joined_more c (x ∷ z ∷ xs) y some =
    let more = joined_more c (z ∷ xs) y (omega arith) in
    ap (λ t. x ++ (c ∷ t)) more ∙ sym (append_assoc x (c ∷ join_with_byte c (z ∷ xs)) (c ∷ y))

-- ---- words

one_more_word : (count : ℕ) → 0 < count → words (count + 1) ≡ words count ++ codes " aaaa"
unfolding words
one_more_word count some =
    let there : 0 < length (replicate count (codes "aaaa")) = omega (arith, length-replicate {A = List ℕ} count (codes "aaaa")) in
    ap (join_with_byte 32) (replicate_next count (codes "aaaa")) ∙ joined_more 32 (replicate count (codes "aaaa")) (codes "aaaa") there

pub one_word : words 1 ≡ codes "aaaa"
unfolding words
one_word = refl

pub with_a_word : (start now next : List ℕ) (count : ℕ) → 0 < count → now ≡ start ++ words count → next ≡ now ++ codes " aaaa"
    → next ≡ start ++ words (count + 1)
with_a_word start now next count some is grown =
    grown ∙ ap (λ t. t ++ codes " aaaa") is ∙ append_assoc start (words count) (codes " aaaa") ∙ ap (λ t. start ++ t) (sym (one_more_word count some))

-- ---- sections

-- what is written in five parts
five_parts : (start p q r s t a b c d e : List ℕ) → a ≡ start ++ p → b ≡ a ++ q → c ≡ b ++ r → d ≡ c ++ s → e ≡ d ++ t
    → e ≡ start ++ (p ++ q ++ r ++ s ++ t)
five_parts start p q r s t a b c d e pa pb pc pd pe =
    let parts = simp append_assoc at (pe ∙ ap (λ x. x ++ t) (pd ∙ ap (λ x. x ++ s) (pc ∙ ap (λ x. x ++ r) (pb ∙ ap (λ x. x ++ q) pa)))) in
    simp append_assoc parts

pub a_section : (x class count : ℕ) (start digit a b c d e : List ℕ) → a ≡ start ++ codes "{\"tag\":\"div\",\"attrs\":{\"class\":\"c"
    → class ≡ class_of x → digit ≡ decimal class → b ≡ a ++ digit → c ≡ b ++ codes "\"},\"children\":[\"" → count ≡ word_count x
    → d ≡ c ++ words count → e ≡ d ++ codes "\"]}" → e ≡ start ++ section x
unfolding section
a_section x class count start digit a b c d e pa of_x shown pb pc counted pd pe =
    five_parts start (codes "{\"tag\":\"div\",\"attrs\":{\"class\":\"c") (decimal (class_of x)) (codes "\"},\"children\":[\"") (words (word_count x)) (codes "\"]}")
    a b c d e pa (pb ∙ ap (λ t. a ++ t) (shown ∙ ap decimal of_x)) pc (pd ∙ ap (λ n. c ++ words n) counted) pe

one_more_section : (seed count : ℕ)
    → sections_text seed (count + 1) ≡ sections_text seed count ++ (cond (count == 0) [] (codes ",") ++ section (number_at seed (count + 1)))
unfolding sections_text
one_more_section seed zero = refl
one_more_section seed (suc count) =
    let f : ℕ → List ℕ = λ k. section (number_at seed k) in
    let front : List (List ℕ) = map f (range_with_len 1 (suc count)) in
    let some : 0 < length front = omega (arith, length-map-range_with_len f 1 (suc count)) in
    let later : (suc count == 0) ≡ false = grind (arith, nat_tests) in
    rw later (ap (join_with_byte 44) (map-range_with_len_more f 1 (suc count) (suc count + 1) (omega arith)) ∙ joined_more 44 front (f (suc count + 1)) some)

pub with_a_section : (seed count number : ℕ) (start now between next : List ℕ) → number ≡ number_at seed (count + 1)
    → now ≡ start ++ sections_text seed count → between ≡ now ++ cond (count == 0) [] (codes ",") → next ≡ between ++ section number
    → next ≡ start ++ sections_text seed (count + 1)
with_a_section seed count number start now between next of_it is parted grown =
    let comma : List ℕ = cond (count == 0) [] (codes ",") in
    let text : List ℕ = section (number_at seed (count + 1)) in
    grown ∙ ap (λ n. between ++ section n) of_it ∙ ap (λ t. t ++ text) (parted ∙ ap (λ t. t ++ comma) is)
    ∙ append_assoc (start ++ sections_text seed count) comma text ∙ append_assoc start (sections_text seed count) (comma ++ text)
    ∙ ap (λ t. start ++ t) (sym (one_more_section seed count))

pub next_number : (seed count number next : ℕ) → number ≡ number_at seed count → next ≡ number_after number → next ≡ number_at seed (count + 1)
next_number seed count number next is after =
    let later : number_at seed (count + 1) ≡ number_after (number_at seed count) = rw add-one refl in
    after ∙ ap number_after is ∙ sym later

-- at the start there is no section
pub nothing_yet : (seed : ℕ) (start : List ℕ) → start ≡ start ++ sections_text seed 0
unfolding sections_text
nothing_yet seed start = sym (append-nil start)
