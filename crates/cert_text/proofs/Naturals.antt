-- Reading whole numbers and what stands behind them.
use Rattle.std.proofs.Common.{◌≡◌, ℕ, zero, suc, ◌+◌, ◌-◌, ◌*◌, ◌/◌, ◌%◌, ◌^◌, ◌<◌, ◌≤◌, ◌==◌, ◌&&◌, ◌||◌, nat_le, ℤ, pos, negsuc, Bool, true, false, cond, ◌⊎◌, inl, inr, List, [], ◌∷◌, ◌++◌, Ok, Err, refl, sym, ◌∙◌, ap, subst, arith, codes, lit<}
use Rattle.std.specs.Fmt.{decimal}
use Rattle.std.specs.List.{AllByRecursion}
use Rattle.std.proofs.lemmas.Bool.{false≢true, and_parts}
use Rattle.std.proofs.lemmas.Bool.Decides.{nat_tests}
use Rattle.std.proofs.lemmas.Fmt.{decimal_digit, decimal_step_wide}
use Rattle.std.proofs.lemmas.List.{append-nil}
use Rattle.cert_text.specs.steps.Read.{Answer, after_word, begins}
use Rattle.cert_text.specs.steps.Write.{int_bytes}
use Rattle.cert_text.specs.steps.Numbers.{reaches, goes_on, is_one_of, number_on, zero_end, first_digits, natural, negative, signed}
use Rattle.cert_text.specs.steps.Readers.{give, seq, either}
use Rattle.cert_text.proofs.Language.{Lang, Agree, Leaves, IsPlain, IsRefused, IsRead, Dep, Done, Word, agree_map}
use Rattle.cert_text.proofs.Numerals.{IsDigit, number_after, NumeralText, number_after-ge, numeral_spelled}
use Rattle.cert_text.proofs.Grammars.{Grammar, Either, Avoids, good_word, good_done, good_seq, good_same, good_either, begins_word}

-- ---- digits behind a number

abbrev Digits : List ℕ → Type 0
Digits = AllByRecursion IsDigit

digits_push : (ds : List ℕ) (c : ℕ) → Digits ds → IsDigit c → Digits (ds ++ c ∷ [])
digits_push [] c h is = (is, tt)
digits_push (d ∷ ds) c h is = (h.0, digits_push ds c h.1 is)

number_push : (n : ℕ) (ds : List ℕ) (c : ℕ) → number_after n (ds ++ c ∷ []) ≡ 10 * number_after n ds + (c - 48)
number_push n [] c = refl
number_push n (d ∷ ds) c = number_push (10 * n + (d - 48)) ds c

-- a number within bounds that begins with the digits of n
pub record Within (least most n : ℕ) : Type 0 where
  pub others : List ℕ
  pub digits : Digits others
  pub above : least ≤ number_after n others
  pub below : number_after n others ≤ most

-- each number from low to high begins with the digits of n
abbrev Spans : ℕ → ℕ → ℕ → Type 0
Spans n low high = (x : ℕ) → low ≤ x → x ≤ high → (ds : List ℕ) × Digits ds × (number_after n ds ≡ x)

spans_more : (n low high : ℕ) → Spans n low high → Spans n (10 * low) (10 * high + 9)
spans_more n low high spans x ge le =
    let s = spans (x / 10) (omega arith) (omega arith) in
    let code : IsDigit (48 + x % 10) = (omega arith, omega arith) in
    let same = s.2 in
    let value : number_after n (s.0 ++ (48 + x % 10) ∷ []) ≡ x = number_push n s.0 (48 + x % 10) ∙ omega arith in
    (s.0 ++ (48 + x % 10) ∷ [], digits_push s.0 (48 + x % 10) s.1 code, value)

within_at : (n least most low high x : ℕ) → Spans n low high → low ≤ x → x ≤ high → least ≤ x → x ≤ most → Within least most n
within_at n least most low high x spans a b c d =
    let s = spans x a b in
    let same = s.2 in
    record { others = s.0; digits = s.1; above = omega arith; below = omega arith }

within_by : (b : Bool) (n least most low high : ℕ) → nat_le least low ≡ b → Spans n low high → low ≤ high → low ≤ most → least ≤ high → least ≤ most → Within least most n
within_by true n least most low high is spans lh lm ah am = let le : least ≤ low = grind (arith, nat_tests) in within_at n least most low high low spans (omega arith) lh le lm
within_by false n least most low high is spans lh lm ah am = let lt : low < least = grind (arith, nat_tests) in within_at n least most low high least spans (omega arith) ah (omega arith) am

reached_by : (b r : Bool) (k n least most low high : ℕ) → nat_le least high ≡ b → (b || r) ≡ true → Spans n low high → low ≤ high → low ≤ most → least ≤ most → (r ≡ true → Within least most n) → Within least most n
reached_by true r k n least most low high is h spans lh lm am more = let ah : least ≤ high = grind (arith, nat_tests) in within_by (nat_le least low) n least most low high refl spans lh lm ah am
reached_by false r k n least most low high is h spans lh lm am more = more h

reached : (k n least most low high : ℕ) → reaches k least most low high ≡ true → Spans n low high → low ≤ high → least ≤ most → Within least most n
unfolding reaches
reached zero n least most low high h spans lh am = absurd (false≢true h)
reached (suc k) n least most low high h spans lh am =
    let parts = and_parts (nat_le low most) _ h in
    let first = parts.0 in
    let lm : low ≤ most = grind (arith, nat_tests) in
    reached_by (nat_le least high) (reaches k least most (10 * low) (10 * high + 9)) k n least most low high refl parts.1 spans lh lm am
    (λ r. reached k n least most (10 * low) (10 * high + 9) r (spans_more n low high spans) (omega arith) am)

spans_self : (n : ℕ) → Spans n n n
spans_self n x ge le = let same : n ≡ x = omega arith in ([], tt, same)

-- so many zeros behind a number
abbrev scaled : ℕ → ℕ → ℕ
scaled zero low = low
scaled (suc k) low = scaled k (10 * low)

unreached_by : (a b r : Bool) (least most low high x : ℕ) (ds : List ℕ) → nat_le low most ≡ a → nat_le least high ≡ b → (a && (b || r)) ≡ false → low ≤ x → x ≤ high → least ≤ number_after x ds → number_after x ds ≤ most
    → (r ≡ false → high < least → ⊥) → (b ≡ true → a ≡ true → ⊥) → ⊥
unreached_by true true r least most low high x ds ea eb h lx xh al am more both_true = both_true refl refl
unreached_by true false r least most low high x ds ea eb h lx xh al am more both_true = let lt : high < least = grind (arith, nat_tests) in more h lt
unreached_by false b r least most low high x ds ea eb h lx xh al am more both_true = let lt : most < low = grind (arith, nat_tests) in omega (arith, number_after-ge x ds)

unreached : (k least most low high x : ℕ) (ds : List ℕ) → reaches k least most low high ≡ false → most < scaled k low → low ≤ x → x ≤ high → Digits ds → least ≤ number_after x ds → number_after x ds ≤ most → ⊥
unfolding reaches
unreached zero least most low high x ds h small lx xh digits al am = omega (arith, number_after-ge x ds)
unreached (suc k) least most low high x ds h small lx xh digits al am =
    unreached_by (nat_le low most) (nat_le least high) (reaches k least most (10 * low) (10 * high + 9)) least most low high x ds refl refl h lx xh al am (λ r lt. by_digits ds digits al am (λ y ys some a b c d e. unreached k least most (10 * low) (10 * high + 9) y ys r some a b c d e) lt)
    (λ b a. false≢true (sym h ∙ all_true (nat_le low most) (nat_le least high) (reaches k least most (10 * low) (10 * high + 9)) a b))
  where
    all_true : (a b r : Bool) → a ≡ true → b ≡ true → (a && (b || r)) ≡ true
    all_true a b r ea eb = rw (ea, eb) refl

    by_digits : (ds : List ℕ) → Digits ds → least ≤ number_after x ds → number_after x ds ≤ most
        → ((y : ℕ) (ys : List ℕ) → most < scaled k (10 * low) → 10 * low ≤ y → y ≤ 10 * high + 9 → Digits ys → least ≤ number_after y ys → number_after y ys ≤ most → ⊥) → high < least → ⊥
    by_digits [] digits al am again lt = omega arith
    by_digits (d ∷ ds) digits al am again lt =
        let one = digits.0 in
        again (10 * x + (d - 48)) ds small (omega arith) (omega arith) digits.1 al am

-- at bounds like these, ten digits more are enough to pass the greatest number
abbrev pub Near : ℕ → ℕ → Type 0
Near least most = (least ≤ 1) ⊎ (most < 10 ^ 10)

at_once : (least most m : ℕ) → least ≤ 1 → 1 ≤ m → reaches 11 least most m m ≡ false → m ≤ most → ⊥
unfolding reaches
at_once least most m low one h le =
    let a : nat_le m most ≡ true = grind (arith, nat_tests) in
    let b : nat_le least m ≡ true = grind (arith, nat_tests) in
    false≢true (sym h ∙ rw (a, b) refl)

never : (least most m : ℕ) (ds : List ℕ) → Near least most → 1 ≤ m → reaches 11 least most m m ≡ false → Digits ds → least ≤ number_after m ds → number_after m ds ≤ most → ⊥
never least most m ds (inl low) one h digits al am = at_once least most m low one h (omega (arith, number_after-ge m ds))
never least most m ds (inr small) one h digits al am = unreached 11 least most m m m ds h (omega arith) (omega arith) (omega arith) digits al am

-- ---- the rest of a number, and an end

-- an end is no digit
abbrev pub NoDigits : ℕ × ℕ → Type 0
NoDigits ends = (c : ℕ) → is_one_of ends c ≡ true → IsDigit c → ⊥

pub record NumberOn (ends : ℕ × ℕ) (least most n : ℕ) (v : ℕ × ℕ) (t : List ℕ) : Type 0 where
  pub others : List ℕ
  pub whole : t ≡ others ++ v.1 ∷ []
  pub digits : Digits others
  pub value : number_after n others ≡ v.0
  pub above : least ≤ v.0
  pub below : v.0 ≤ most
  pub ends_in : is_one_of ends v.1 ≡ true

goes_parts : (c m most : ℕ) (r : Bool) → (nat_le 48 c && nat_le c 57 && nat_le m most && r) ≡ true → IsDigit c × (r ≡ true)
goes_parts c m most true h = (grind (arith, nat_tests), refl)
goes_parts c m most false h = grind (arith, nat_tests)

goes_not : (c m most : ℕ) (r : Bool) → (nat_le 48 c && nat_le c 57 && nat_le m most && r) ≡ false → IsDigit c → m ≤ most → r ≡ false
goes_not c m most true h digit le = let low = digit.0 in let high = digit.1 in grind (arith, nat_tests)
goes_not c m most false h digit le = refl

number_more : (ends : ℕ × ℕ) (least most n c : ℕ) (cs : List ℕ) (r : Answer (ℕ × ℕ)) → NoDigits ends → IsDigit c → IsRead (NumberOn ends least most (10 * n + (c - 48))) cs r → IsRead (NumberOn ends least most n) (c ∷ cs) r
number_more ends least most n c cs (Ok r) nod digit h = record {
  read = c ∷ h.read;
  whole = ap (λ t. c ∷ t) h.whole;
  is_text = record { others = c ∷ h.is_text.others; whole = ap (λ t. c ∷ t) h.is_text.whole; digits = (digit, h.is_text.digits); value = h.is_text.value; above = h.is_text.above; below = h.is_text.below; ends_in = h.is_text.ends_in };
}
number_more ends least most n c cs (Err rest) nod digit h = record {
  read = c ∷ h.read;
  whole = ap (λ t. c ∷ t) h.whole;
  value = h.value;
  more = h.more;
  begins = record { others = c ∷ h.begins.others; whole = ap (λ t. c ∷ t) h.begins.whole; digits = (digit, h.begins.digits); value = h.begins.value; above = h.begins.above; below = h.begins.below; ends_in = h.begins.ends_in };
  leaves = λ v t k. subst (λ x. Leaves x (c ∷ h.read) rest) (sym k.whole) (by_digits v k.others k.digits k.value k.above k.below k.ends_in);
}
  where
    by_digits : (v : ℕ × ℕ) (ds : List ℕ) → Digits ds → number_after n ds ≡ v.0 → least ≤ v.0 → v.0 ≤ most → is_one_of ends v.1 ≡ true → Leaves (ds ++ v.1 ∷ []) (c ∷ h.read) rest
    by_digits v [] digits value above below ends_in = λ same. absurd (nod v.1 ends_in (subst IsDigit (sym same) digit))
    by_digits v (d ∷ ds) digits value above below ends_in = λ same.
        h.leaves v (ds ++ v.1 ∷ []) (record { others = ds; whole = refl; digits = digits.1; value = subst (λ x. number_after (10 * n + (x - 48)) ds ≡ v.0) same value; above = above; below = below; ends_in = ends_in })

number_refused : (ends : ℕ × ℕ) (least most n : ℕ) (text : List ℕ) → is_one_of ends ends.0 ≡ true → Within least most n
    → ((v : ℕ × ℕ) (ds : List ℕ) → Digits ds → number_after n ds ≡ v.0 → least ≤ v.0 → v.0 ≤ most → is_one_of ends v.1 ≡ true → Leaves (ds ++ v.1 ∷ []) [] text) → IsRefused (NumberOn ends least most n) text text
number_refused ends least most n text one w h = record {
  read = [];
  whole = refl;
  value = (number_after n w.others, ends.0);
  more = w.others ++ ends.0 ∷ [];
  begins = record { others = w.others; whole = refl; digits = w.digits; value = refl; above = w.above; below = w.below; ends_in = one };
  leaves = λ v t k. subst (λ x. Leaves x [] text) (sym k.whole) (h v k.others k.digits k.value k.above k.below k.ends_in);
}

ends_early : (ds : List ℕ) (c : ℕ) → Leaves (ds ++ c ∷ []) [] []
ends_early [] c = tt
ends_early (d ∷ ds) c = tt

number_by : (b g : Bool) (ends : ℕ × ℕ) (least most n c : ℕ) (cs : List ℕ) → NoDigits ends → is_one_of ends ends.0 ≡ true → Near least most → 1 ≤ n → least ≤ most → Within least most n
    → (is_one_of ends c && nat_le least n) ≡ b → goes_on least most n c ≡ g
    → (IsDigit c → Within least most (10 * n + (c - 48)) → IsRead (NumberOn ends least most (10 * n + (c - 48))) cs (number_on ends least most (10 * n + (c - 48)) cs))
    → IsRead (NumberOn ends least most n) (c ∷ cs) (cond b (Ok ((n, c), cs)) (cond g (number_on ends least most (10 * n + (c - 48)) cs) (Err (c ∷ cs))))
number_by true g ends least most n c cs nod one near above am w eb eg below =
    let parts = and_parts (is_one_of ends c) (nat_le least n) eb in
    let enough = parts.1 in
    let al : least ≤ n = grind (arith, nat_tests) in
    record {
      read = c ∷ [];
      whole = refl;
      is_text = record { others = []; whole = refl; digits = tt; value = refl; above = al; below = omega (arith, number_after-ge n w.others, w.below); ends_in = parts.0 };
    }
number_by false true ends least most n c cs nod one near above am w eb eg below =
    let m = 10 * n + (c - 48) in
    let parts = goes_parts c m most (reaches 11 least most m m) eg in
    let within : Within least most m = reached 11 m least most m m parts.1 (spans_self m) (omega arith) am in
    number_more ends least most n c cs _ nod parts.0 (below parts.0 within)
number_by false false ends least most n c cs nod one near above am w eb eg below =
    number_refused ends least most n (c ∷ cs) one w by_digits
  where
    by_digits : (v : ℕ × ℕ) (ds : List ℕ) → Digits ds → number_after n ds ≡ v.0 → least ≤ v.0 → v.0 ≤ most → is_one_of ends v.1 ≡ true → Leaves (ds ++ v.1 ∷ []) [] (c ∷ cs)
    by_digits v [] digits value al bm ends_in = λ same.
        let enough : nat_le least n ≡ true = let le : least ≤ n = omega arith in grind (arith, nat_tests) in
        let met : is_one_of ends c ≡ true = ap (is_one_of ends) (sym same) ∙ ends_in in
        false≢true (sym eb ∙ rw (met, enough) refl)
    by_digits v (d ∷ ds) digits value al bm ends_in = λ same.
        let digit : IsDigit c = subst IsDigit same digits.0 in
        let m = 10 * n + (c - 48) in
        let rest : number_after m ds ≡ v.0 = subst (λ x. number_after (10 * n + (x - 48)) ds ≡ v.0) same value in
        let le : m ≤ most = omega (arith, number_after-ge m ds) in
        never least most m ds near (omega arith) (goes_not c m most (reaches 11 least most m m) eg digit le) digits.1 (omega arith) (omega arith)

number_right : (ends : ℕ × ℕ) (least most n : ℕ) (text : List ℕ) → NoDigits ends → is_one_of ends ends.0 ≡ true → Near least most → 1 ≤ n → least ≤ most → Within least most n → IsRead (NumberOn ends least most n) text (number_on ends least most n text)
number_right ends least most n [] nod one near above am w = number_refused ends least most n [] one w (λ v ds digits value al bm ends_in. ends_early ds v.1)
number_right ends least most n (c ∷ cs) nod one near above am w =
    number_by (is_one_of ends c && nat_le least n) (goes_on least most n c) ends least most n c cs nod one near above am w refl refl
    (λ digit within. number_right ends least most (10 * n + (c - 48)) cs nod one near (omega arith) am within)

numbers_agree : (n : ℕ) (ds es : List ℕ) (e f : ℕ) → Digits ds → Digits es → (IsDigit e → ⊥) → (IsDigit f → ⊥) → Agree ((number_after n ds ≡ number_after n es) × (e ≡ f)) (ds ++ e ∷ []) (es ++ f ∷ [])
numbers_agree n [] [] e f h k ne nf = λ same. (refl, same)
numbers_agree n [] (d ∷ es) e f h k ne nf = λ same. absurd (ne (subst IsDigit (sym same) k.0))
numbers_agree n (d ∷ ds) [] e f h k ne nf = λ same. absurd (nf (subst IsDigit same h.0))
numbers_agree n (d ∷ ds) (c ∷ es) e f h k ne nf = λ same.
    subst (λ x. Agree ((number_after (10 * n + (d - 48)) ds ≡ number_after (10 * n + (x - 48)) es) × (e ≡ f)) (ds ++ e ∷ []) (es ++ f ∷ [])) same (numbers_agree (10 * n + (d - 48)) ds es e f h.1 k.1 ne nf)

-- ---- a whole number and an end

pub record FirstDigits (ends : ℕ × ℕ) (least most : ℕ) (v : ℕ × ℕ) (t : List ℕ) : Type 0 where
  pub first : ℕ
  pub back : List ℕ
  pub whole : t ≡ first ∷ back
  pub low : 49 ≤ first
  pub high : first ≤ 57
  pub on : NumberOn ends least most (10 * 0 + (first - 48)) v back

plain_first : (ends : ℕ × ℕ) (least most : ℕ) → NoDigits ends → IsPlain (FirstDigits ends least most)
plain_first ends least most nod v w s t h k =
    let a = h.on in
    let b = k.on in
    subst (λ x. Agree (v ≡ w) x t) (sym (h.whole ∙ ap (λ x. h.first ∷ x) a.whole)) (subst (λ y. Agree (v ≡ w) (h.first ∷ (a.others ++ v.1 ∷ [])) y) (sym (k.whole ∙ ap (λ x. k.first ∷ x) b.whole)) (λ same.
    agree_map ((number_after (10 * 0 + (h.first - 48)) a.others ≡ number_after (10 * 0 + (h.first - 48)) b.others) × (v.1 ≡ w.1)) (v ≡ w) _ _
    (λ e. let number : v.0 ≡ w.0 = sym a.value ∙ e.0 ∙ ap (λ x. number_after (10 * 0 + (x - 48)) b.others) same ∙ b.value in rw (number, e.1) refl)
    (numbers_agree (10 * 0 + (h.first - 48)) a.others b.others v.1 w.1 a.digits b.digits (nod v.1 a.ends_in) (nod w.1 b.ends_in))))

numeral_push : (n d : ℕ) (t : List ℕ) → IsDigit d → NumeralText n t → NumeralText (10 * n + (d - 48)) (t ++ d ∷ [])
numeral_push n d t digit h = record {
  first = h.first;
  others = h.others ++ d ∷ [];
  whole = ap (λ x. x ++ d ∷ []) h.whole;
  above_zero = h.above_zero;
  digits = digits_push h.others d h.digits digit;
  value = number_push (h.first - 48) h.others d ∙ ap (λ x. 10 * x + (d - 48)) h.value;
}

-- a number above 0 is spelled by its decimal digits
numeral_at : (k n : ℕ) → n ≤ k → 1 ≤ n → n < 10 ^ 64 → NumeralText n (decimal n)
numeral_at zero n le above small = absurd (omega arith)
numeral_at (suc k) n le above small = by_size (nat_le n 9) refl (λ m a b c. numeral_at k m a b c)
  where
    by_size : (b : Bool) → nat_le n 9 ≡ b → ((m : ℕ) → m ≤ k → 1 ≤ m → m < 10 ^ 64 → NumeralText m (decimal m)) → NumeralText n (decimal n)
    by_size true is again =
        let one : n ≤ 9 = grind (arith, nat_tests) in
        let code : 48 + n - 48 ≡ n = omega arith in
        record { first = 48 + n; others = []; whole = decimal_digit n (omega arith); above_zero = (omega arith, omega arith); digits = tt; value = code }
    by_size false is again =
        let more : 10 ≤ n = grind (arith, nat_tests) in
        let parts : 10 * (n / 10) + (48 + n % 10 - 48) ≡ n = omega arith in
        let before = again (n / 10) (omega arith) (omega arith) (omega arith) in
        subst (λ m. NumeralText m (decimal n)) parts (subst (λ t. NumeralText (10 * (n / 10) + (48 + n % 10 - 48)) t) (sym (decimal_step_wide n more small)) (numeral_push (n / 10) (48 + n % 10) (decimal (n / 10)) (omega arith, omega arith) before))

-- a number above 0 within bounds, and an end
pub record AboveZero (ends : ℕ × ℕ) (least most : ℕ) (v : ℕ × ℕ) (t : List ℕ) : Type 0 where
  pub whole : t ≡ decimal v.0 ++ v.1 ∷ []
  pub positive : 1 ≤ v.0
  pub above : least ≤ v.0
  pub below : v.0 ≤ most
  pub ends_in : is_one_of ends v.1 ≡ true

from_first : (ends : ℕ × ℕ) (least most : ℕ) → most ≤ 2 ^ 127 → (v : ℕ × ℕ) (t : List ℕ) → FirstDigits ends least most v t → AboveZero ends least most v t
from_first ends least most bound v t h =
    let a = h.on in
    let big : 2 ^ 127 < 10 ^ 64 = lit< tt in
    let plus : 10 * 0 + (h.first - 48) ≡ h.first - 48 = omega arith in
    let numeral : NumeralText v.0 (h.first ∷ a.others) = record { first = h.first; others = a.others; whole = refl; above_zero = (h.low, h.high); digits = a.digits; value = ap (λ x. number_after x a.others) (sym plus) ∙ a.value } in
    let below = a.below in
    let value = a.value in
    let low = h.low in
    record {
      whole = h.whole ∙ ap (λ x. h.first ∷ x) a.whole ∙ ap (λ x. x ++ v.1 ∷ []) (sym (numeral_spelled v.0 (h.first ∷ a.others) numeral (omega arith)));
      positive = omega (arith, number_after-ge (10 * 0 + (h.first - 48)) a.others);
      above = a.above;
      below = a.below;
      ends_in = a.ends_in;
    }

to_first : (ends : ℕ × ℕ) (least most : ℕ) → most ≤ 2 ^ 127 → (v : ℕ × ℕ) (t : List ℕ) → AboveZero ends least most v t → FirstDigits ends least most v t
to_first ends least most bound v t h =
    let big : 2 ^ 127 < 10 ^ 64 = lit< tt in
    let below = h.below in
    let n = numeral_at v.0 v.0 (omega arith) h.positive (omega arith) in
    let plus : 10 * 0 + (n.first - 48) ≡ n.first - 48 = omega arith in
    record {
      first = n.first;
      back = n.others ++ v.1 ∷ [];
      whole = h.whole ∙ ap (λ x. x ++ v.1 ∷ []) n.whole;
      low = n.above_zero.0;
      high = n.above_zero.1;
      on = record { others = n.others; whole = refl; digits = n.digits; value = ap (λ x. number_after x n.others) plus ∙ n.value; above = h.above; below = h.below; ends_in = h.ends_in };
    }

first_refused : (ends : ℕ × ℕ) (least most : ℕ) (text : List ℕ) → is_one_of ends ends.0 ≡ true → most ≤ 2 ^ 127 → least ≤ most → 1 ≤ most
    → ((v : ℕ × ℕ) (t : List ℕ) → FirstDigits ends least most v t → Leaves t [] text) → IsRefused (FirstDigits ends least most) text text
first_refused ends least most text one bound am some h = record {
  read = [];
  whole = refl;
  value = (most, ends.0);
  more = decimal most ++ ends.0 ∷ [];
  begins = to_first ends least most bound (most, ends.0) (decimal most ++ ends.0 ∷ []) (record { whole = refl; positive = some; above = am; below = omega arith; ends_in = one });
  leaves = h;
}

first_by : (g : Bool) (ends : ℕ × ℕ) (least most c : ℕ) (cs : List ℕ) → NoDigits ends → is_one_of ends ends.0 ≡ true → Near least most → most ≤ 2 ^ 127 → least ≤ most → 1 ≤ most
    → (nat_le 49 c && goes_on least most 0 c) ≡ g → IsRead (FirstDigits ends least most) (c ∷ cs) (cond g (number_on ends least most (10 * 0 + (c - 48)) cs) (Err (c ∷ cs)))
first_by true ends least most c cs nod one near bound am some eg =
    let parts = and_parts (nat_le 49 c) (goes_on least most 0 c) eg in
    let head = parts.0 in
    let low : 49 ≤ c = grind (arith, nat_tests) in
    let m = 10 * 0 + (c - 48) in
    let tests = goes_parts c m most (reaches 11 least most m m) parts.1 in
    let within : Within least most m = reached 11 m least most m m tests.1 (spans_self m) (omega arith) am in
    first_on c cs low tests.0.1 (number_on ends least most m cs) (number_right ends least most m cs nod one near (omega arith) am within)
  where
    first_on : (c : ℕ) (cs : List ℕ) → 49 ≤ c → c ≤ 57 → (r : Answer (ℕ × ℕ)) → IsRead (NumberOn ends least most (10 * 0 + (c - 48))) cs r → IsRead (FirstDigits ends least most) (c ∷ cs) r
    first_on c cs low high (Ok r) h = record { read = c ∷ h.read; whole = ap (λ t. c ∷ t) h.whole; is_text = record { first = c; back = h.read; whole = refl; low = low; high = high; on = h.is_text } }
    first_on c cs low high (Err rest) h = record {
      read = c ∷ h.read;
      whole = ap (λ t. c ∷ t) h.whole;
      value = h.value;
      more = h.more;
      begins = record { first = c; back = h.read ++ h.more; whole = refl; low = low; high = high; on = h.begins };
      leaves = λ v t k. subst (λ x. Leaves x (c ∷ h.read) rest) (sym k.whole) (λ same. h.leaves v k.back (subst (λ x. NumberOn ends least most (10 * 0 + (x - 48)) v k.back) same k.on));
    }
first_by false ends least most c cs nod one near bound am some eg =
    first_refused ends least most (c ∷ cs) one bound am some (λ v t k. subst (λ x. Leaves x [] (c ∷ cs)) (sym k.whole) (λ same. by_first v k.first k.back same k.low k.high k.on))
  where
    by_first : (v : ℕ × ℕ) (first : ℕ) (back : List ℕ) → first ≡ c → 49 ≤ first → first ≤ 57 → NumberOn ends least most (10 * 0 + (first - 48)) v back → ⊥
    by_first v first back same low high on =
        let m = 10 * 0 + (c - 48) in
        let low_c : 49 ≤ c = omega arith in
        let digit : IsDigit c = (omega arith, omega arith) in
        let head : nat_le 49 c ≡ true = grind (arith, nat_tests) in
        let value : number_after m on.others ≡ v.0 = subst (λ x. number_after (10 * 0 + (x - 48)) on.others ≡ v.0) same on.value in
        let above = on.above in
        let below = on.below in
        let le : m ≤ most = omega (arith, number_after-ge m on.others) in
        let test : goes_on least most 0 c ≡ false = sym (rw head refl) ∙ eg in
        never least most m on.others near (omega arith) (goes_not c m most (reaches 11 least most m m) test digit le) on.digits (omega arith) (omega arith)

read_first_digits : (ends : ℕ × ℕ) (least most : ℕ) (text : List ℕ) → NoDigits ends → is_one_of ends ends.0 ≡ true → Near least most → most ≤ 2 ^ 127 → least ≤ most → 1 ≤ most → IsRead (FirstDigits ends least most) text (first_digits ends least most text)
read_first_digits ends least most [] nod one near bound am some = first_refused ends least most [] one bound am some (λ v t k. subst (λ x. Leaves x [] []) (sym k.whole) tt)
read_first_digits ends least most (c ∷ cs) nod one near bound am some = first_by (nat_le 49 c && goes_on least most 0 c) ends least most c cs nod one near bound am some refl

-- ends and bounds that a reader of numbers is called with
pub record AreFit (ends : ℕ × ℕ) (least most : ℕ) : Type 0 where
  pub no_digits : NoDigits ends
  pub one : is_one_of ends ends.0 ≡ true
  pub near : Near least most
  pub bound : most ≤ 2 ^ 127
  pub ordered : least ≤ most
  pub positive : 1 ≤ most

good_above : (ends : ℕ × ℕ) (least most : ℕ) → AreFit ends least most → Grammar (AboveZero ends least most) (first_digits ends least most)
good_above ends least most fit =
    good_same (FirstDigits ends least most) (AboveZero ends least most) (first_digits ends least most) (from_first ends least most fit.bound) (to_first ends least most fit.bound)
    (record {
      plain = plain_first ends least most fit.no_digits;
      some = record { value = (most, ends.0); text = decimal most ++ ends.0 ∷ []; is_text = to_first ends least most fit.bound (most, ends.0) (decimal most ++ ends.0 ∷ []) (record { whole = refl; positive = fit.positive; above = fit.ordered; below = omega arith; ends_in = fit.one }) };
      read = λ text. read_first_digits ends least most text fit.no_digits fit.one fit.near fit.bound fit.ordered fit.positive;
    })

-- ---- 0 and an end

abbrev ZeroEnd : ℕ × ℕ → Lang (ℕ × ℕ)
ZeroEnd ends v t = (v.0 ≡ 0) × (t ≡ v.1 ∷ []) × (is_one_of ends v.1 ≡ true)

zero_by : (b : Bool) (ends : ℕ × ℕ) (c : ℕ) (cs : List ℕ) → is_one_of ends ends.0 ≡ true → is_one_of ends c ≡ b → IsRead (ZeroEnd ends) (c ∷ cs) (cond b (Ok ((0, c), cs)) (Err (c ∷ cs)))
zero_by true ends c cs one is = record { read = c ∷ []; whole = refl; is_text = (refl, refl, is) }
zero_by false ends c cs one is = record {
  read = [];
  whole = refl;
  value = (0, ends.0);
  more = ends.0 ∷ [];
  begins = (refl, refl, one);
  leaves = λ v t k. subst (λ x. Leaves x [] (c ∷ cs)) (sym k.1) (λ same. false≢true (sym is ∙ ap (is_one_of ends) (sym same) ∙ k.2));
}

read_zero_end : (ends : ℕ × ℕ) (text : List ℕ) → is_one_of ends ends.0 ≡ true → IsRead (ZeroEnd ends) text (zero_end ends text)
read_zero_end ends [] one = record { read = []; whole = refl; value = (0, ends.0); more = ends.0 ∷ []; begins = (refl, refl, one); leaves = λ v t k. subst (λ x. Leaves x [] []) (sym k.1) tt }
read_zero_end ends (c ∷ cs) one = zero_by (is_one_of ends c) ends c cs one refl

good_zero_end : (ends : ℕ × ℕ) → is_one_of ends ends.0 ≡ true → Grammar (ZeroEnd ends) (zero_end ends)
good_zero_end ends one = record {
  plain = λ v w s t h k. subst (λ x. Agree (v ≡ w) x t) (sym h.1) (subst (λ y. Agree (v ≡ w) (v.1 ∷ []) y) (sym k.1) (λ same. let zero_is : v.0 ≡ w.0 = h.0 ∙ sym k.0 in rw (zero_is, same) refl));
  some = record { value = (0, ends.0); text = ends.0 ∷ []; is_text = (refl, refl, one) };
  read = λ text. read_zero_end ends text one;
}

-- ---- numbers within bounds

pub record NaturalEnd (ends : ℕ × ℕ) (least most : ℕ) (v : ℕ × ℕ) (t : List ℕ) : Type 0 where
  pub whole : t ≡ decimal v.0 ++ v.1 ∷ []
  pub above : least ≤ v.0
  pub below : v.0 ≤ most
  pub ends_in : is_one_of ends v.1 ≡ true

abbrev Zero : ℕ × ℕ → Lang (ℕ × ℕ)
Zero ends = Dep (Word (codes "0")) (λ _. ZeroEnd ends)

avoids_zero : (ends : ℕ × ℕ) (least most : ℕ) → most ≤ 2 ^ 127 → Avoids 48 (AboveZero ends least most)
avoids_zero ends least most bound v t h = let f = to_first ends least most bound v t h in let low = f.low in (f.first, f.back, f.whole, λ same. omega arith)

good_zero : (ends : ℕ × ℕ) (most : ℕ) → AreFit ends 0 most → Grammar (Either (Zero ends) (AboveZero ends 0 most)) (either 48 (seq (after_word (codes "0")) (λ _. zero_end ends)) (first_digits ends 0 most))
good_zero ends most fit =
    good_either 48 (Zero ends) (AboveZero ends 0 most) (seq (after_word (codes "0")) (λ _. zero_end ends)) (first_digits ends 0 most) (begins_word 48 [] (λ _. ZeroEnd ends)) (avoids_zero ends 0 most fit.bound)
    (good_seq (Word (codes "0")) (after_word (codes "0")) (λ _. ZeroEnd ends) (λ _. zero_end ends) (good_word (codes "0")) (λ _ _ _. good_zero_end ends fit.one)) (good_above ends 0 most fit)

to_natural : (ends : ℕ × ℕ) (most : ℕ) (v : ℕ × ℕ) (t : List ℕ) → Either (Zero ends) (AboveZero ends 0 most) v t → NaturalEnd ends 0 most v t
to_natural ends most v t (inl h) =
    let z = h.back_text in
    let zero_is = z.0 in
    record { whole = h.whole ∙ rw (h.first_text, z.1) (ap (λ x. x ++ v.1 ∷ []) (sym (ap decimal z.0 ∙ decimal_digit 0 (lit< tt)))); above = omega arith; below = omega arith; ends_in = z.2 }
to_natural ends most v t (inr h) = record { whole = h.whole; above = h.above; below = h.below; ends_in = h.ends_in }

from_natural : (ends : ℕ × ℕ) (most : ℕ) (v : ℕ × ℕ) (t : List ℕ) → NaturalEnd ends 0 most v t → Either (Zero ends) (AboveZero ends 0 most) v t
from_natural ends most (zero, e) t h = inl (record { first = tt; front = codes "0"; back = e ∷ []; whole = h.whole ∙ ap (λ x. x ++ e ∷ []) (decimal_digit 0 (lit< tt)); first_text = refl; back_text = (refl, refl, h.ends_in) })
from_natural ends most (suc n, e) t h = inr (record { whole = h.whole; positive = omega arith; above = h.above; below = h.below; ends_in = h.ends_in })

natural_by : (b : Bool) (ends : ℕ × ℕ) (least most : ℕ) → AreFit ends least most → (least == 0) ≡ b
    → Grammar (NaturalEnd ends least most) (λ text. cond (b && begins 48 text) (seq (after_word (codes "0")) (λ _. zero_end ends) text) (first_digits ends least most text))
natural_by true ends least most fit is =
    let none : 0 ≡ least = grind (arith, nat_tests) in
    subst (λ l. Grammar (NaturalEnd ends l most) (λ text. cond (begins 48 text) (seq (after_word (codes "0")) (λ _. zero_end ends) text) (first_digits ends l most text))) none
    (good_same (Either (Zero ends) (AboveZero ends 0 most)) (NaturalEnd ends 0 most) (either 48 (seq (after_word (codes "0")) (λ _. zero_end ends)) (first_digits ends 0 most)) (to_natural ends most) (from_natural ends most)
    (good_zero ends most (subst (λ l. AreFit ends l most) (sym none) fit)))
natural_by false ends least most fit is =
    let some : 1 ≤ least = grind (arith, nat_tests) in
    good_same (AboveZero ends least most) (NaturalEnd ends least most) (first_digits ends least most)
    (λ v t h. record { whole = h.whole; above = h.above; below = h.below; ends_in = h.ends_in })
    (λ v t h. let above = h.above in record { whole = h.whole; positive = omega arith; above = h.above; below = h.below; ends_in = h.ends_in })
    (good_above ends least most fit)

pub good_natural : (ends : ℕ × ℕ) (least most : ℕ) → AreFit ends least most → Grammar (NaturalEnd ends least most) (natural ends least most)
good_natural ends least most fit = natural_by (least == 0) ends least most fit refl

-- ---- numbers with signs

abbrev pub InRange : ℕ → ℤ → Type 0
InRange least (pos n) = (least ≤ n) × (n ≤ 2 ^ 127 - 1)
InRange least (negsuc n) = n < 2 ^ 127

pub record SignedEnd (ends : ℕ × ℕ) (least : ℕ) (v : ℤ × ℕ) (t : List ℕ) : Type 0 where
  pub whole : t ≡ int_bytes v.0 ++ v.1 ∷ []
  pub within : InRange least v.0
  pub ends_in : is_one_of ends v.1 ≡ true

abbrev Minus : ℕ × ℕ → Lang (ℤ × ℕ)
Minus ends = Dep (Word (codes "-")) (λ _. Dep (NaturalEnd ends 1 (2 ^ 127)) (λ n. Done (negative n.0, n.1)))

abbrev Plus : ℕ × ℕ → ℕ → Lang (ℤ × ℕ)
Plus ends least = Dep (NaturalEnd ends least (2 ^ 127 - 1)) (λ n. Done (pos n.0, n.1))

pub first_of_natural : (ends : ℕ × ℕ) (n e : ℕ) (t : List ℕ) → n ≤ 2 ^ 127 → t ≡ decimal n ++ e ∷ [] → (d : ℕ) × (more : List ℕ) × (t ≡ d ∷ more) × (48 ≤ d) × (d ≤ 57)
first_of_natural ends zero e t le is = (48, e ∷ [], is ∙ ap (λ x. x ++ e ∷ []) (decimal_digit 0 (lit< tt)), omega arith, omega arith)
first_of_natural ends (suc n) e t le is =
    let big : 2 ^ 127 < 10 ^ 64 = lit< tt in
    let m = numeral_at (suc n) (suc n) (omega arith) (omega arith) (omega arith) in
    let low = m.above_zero in
    (m.first, m.others ++ e ∷ [], is ∙ ap (λ x. x ++ e ∷ []) m.whole, omega arith, m.above_zero.1)

avoids_minus : (ends : ℕ × ℕ) (least : ℕ) → Avoids 45 (Plus ends least)
avoids_minus ends least v t h =
    let n = h.first_text in
    let below = n.below in
    let f = first_of_natural ends h.first.0 h.first.1 h.front (omega arith) n.whole in
    let low = f.3 in
    (f.0, f.1 ++ h.back, h.whole ∙ ap (λ x. x ++ h.back) f.2, λ same. omega arith)

below_zero : (n : ℕ) → 1 ≤ n → (m : ℕ) × (n ≡ suc m) × (negative n ≡ negsuc m)
below_zero zero le = absurd (omega arith)
below_zero (suc m) le = let same : suc m - 1 ≡ m = omega arith in (m, refl, ap negsuc same)

to_signed : (ends : ℕ × ℕ) (least : ℕ) (v : ℤ × ℕ) (t : List ℕ) → Either (Minus ends) (Plus ends least) v t → SignedEnd ends least v t
to_signed ends least v t (inl h) =
    let n = h.back_text in
    let s = below_zero n.first.0 n.first_text.above in
    let value : v ≡ (negsuc s.0, n.first.1) = n.back_text.0 ∙ ap (λ k. (k, n.first.1)) s.2 in
    let below = n.first_text.below in
    let same = s.1 in
    subst (λ (w : ℤ × ℕ). SignedEnd ends least w t) (sym value) (record {
      whole = h.whole ∙ rw (h.first_text, n.whole, n.back_text.1, n.first_text.whole) (ap (λ x. 45 ∷ x) (append-nil (decimal n.first.0 ++ n.first.1 ∷ [])) ∙ ap (λ k. 45 ∷ (decimal k ++ n.first.1 ∷ [])) s.1);
      within = omega arith;
      ends_in = n.first_text.ends_in;
    })
to_signed ends least v t (inr h) =
    let n = h.first_text in
    subst (λ (w : ℤ × ℕ). SignedEnd ends least w t) (sym h.back_text.0) (record {
      whole = h.whole ∙ rw (h.back_text.1) (append-nil h.front ∙ n.whole);
      within = (n.above, n.below);
      ends_in = n.ends_in;
    })

from_signed : (ends : ℕ × ℕ) (least : ℕ) (v : ℤ × ℕ) (t : List ℕ) → SignedEnd ends least v t → Either (Minus ends) (Plus ends least) v t
from_signed ends least (pos n, e) t h = inr (record { first = (n, e); front = t; back = []; whole = sym (append-nil t); first_text = record { whole = h.whole; above = h.within.0; below = h.within.1; ends_in = h.ends_in }; back_text = (refl, refl) })
from_signed ends least (negsuc n, e) t h =
    let lt = h.within in
    let same : n ≡ suc n - 1 = omega arith in
    inl (record {
      first = tt;
      front = codes "-";
      back = decimal (suc n) ++ e ∷ [];
      whole = h.whole;
      first_text = refl;
      back_text = record { first = (suc n, e); front = decimal (suc n) ++ e ∷ []; back = []; whole = sym (append-nil (decimal (suc n) ++ e ∷ [])); first_text = record { whole = refl; above = omega arith; below = omega arith; ends_in = h.ends_in }; back_text = (ap (λ k. (negsuc k, e)) same, refl) };
    })

pub good_signed : (ends : ℕ × ℕ) (least : ℕ) → AreFit ends 1 (2 ^ 127) → AreFit ends least (2 ^ 127 - 1) → Grammar (SignedEnd ends least) (signed ends least)
good_signed ends least below above =
    good_same (Either (Minus ends) (Plus ends least)) (SignedEnd ends least) (signed ends least) (to_signed ends least) (from_signed ends least)
    (good_either 45 (Minus ends) (Plus ends least) _ _ (begins_word 45 [] (λ _. Dep (NaturalEnd ends 1 (2 ^ 127)) (λ n. Done (negative n.0, n.1)))) (avoids_minus ends least)
    (good_seq (Word (codes "-")) (after_word (codes "-")) (λ _. Dep (NaturalEnd ends 1 (2 ^ 127)) (λ n. Done (negative n.0, n.1))) (λ _. seq (natural ends 1 (2 ^ 127)) (λ n. give (negative n.0, n.1))) (good_word (codes "-")) (λ _ _ _.
    good_seq (NaturalEnd ends 1 (2 ^ 127)) (natural ends 1 (2 ^ 127)) (λ n. Done (negative n.0, n.1)) (λ n. give (negative n.0, n.1)) (good_natural ends 1 (2 ^ 127) below) (λ n _ _. good_done (negative n.0, n.1))))
    (good_seq (NaturalEnd ends least (2 ^ 127 - 1)) (natural ends least (2 ^ 127 - 1)) (λ n. Done (pos n.0, n.1)) (λ n. give (pos n.0, n.1)) (good_natural ends least (2 ^ 127 - 1) above) (λ n _ _. good_done (pos n.0, n.1))))
