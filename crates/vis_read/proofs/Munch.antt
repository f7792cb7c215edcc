-- Scanning finds the longest piece.
use Rattle.std.proofs.Common.{◌≡◌, ℕ, suc, ◌+◌, ◌-◌, ◌*◌, ◌<◌, ◌≤◌, ◌==◌, nat_le, nat_lt, get_or, Bool, true, false, not, ◌&&◌, List, [], ◌∷◌, ◌++◌, length, take, drop, Option, Some, None, MatchOption, option_map, refl, sym, ◌∙◌, ap, subst, arith, codes, add-one, length-append}
use Rattle.std.specs.Char.{is_ascii_digit, is_ascii_lowercase, digit_value}
use Rattle.std.specs.List.{list_all, position, prefix_len, starts_with}
use Rattle.std.specs.Str.Parse.{digits_value, digits_value_after}
use Rattle.std.proofs.lemmas.Bool.{and_from, and_parts, false≢true, lt-ltb}
use Rattle.std.proofs.lemmas.Bool.Decides.{nat_tests}
use Rattle.std.proofs.lemmas.List.{append_assoc, append-nil, drop_at, length-drop, length-take-le, take-append-drop, take_at, take_more}
use Rattle.std.proofs.lemmas.List.Sums.{prefix_len-le-length, prefix_len_stops}
use Rattle.std.proofs.lemmas.Option.{none-some}
use Rattle.viz_base.specs.declared.formulas.Sign.{Sign as Comparison}
use Rattle.viz_base.specs.declared.formulas.Sign.TheVariants.{Lt, Le, Eq, Ne, Ge, Gt}
use Rattle.viz_base.proofs.Truths.{by_bool}
use Rattle.viz_base.proofs.DecimalLemmas.{digit_is}
use Rattle.vis_read.specs.declared.pieces.Piece.{Piece}
use Rattle.vis_read.specs.declared.pieces.Piece.TheVariants.{Word, Number, Pixels, Quoted, Sign, Mark}
use Rattle.vis_read.specs.Pieces.{is_mark, is_quote, is_word_byte, IsNumber, IsPiece, BeginsWithNone, sign_text}
use Rattle.vis_read.specs.Tokens.{is_white}
use Rattle.vis_read.specs.steps.Next.{IsCut}
use Rattle.vis_read.specs.steps.Scan.{begins_with_equal, digits_on, mark_at, number_at, number_behind, one_more, piece_at, quoted_at, sign_or, unequal_or_none, with_more, with_unit}

-- ---- digits

-- what one more digit makes of a number
record Goes (n c m : ℕ) : Type 0 where
  digit : is_ascii_digit c ≡ true
  value : m ≡ n * 10 + (c - 48)
  most : m ≤ 2147483647

some_same : {m k : ℕ} → Some m ≡ Some k → m ≡ k
some_same {m = m} {k = k} e = let f : Option ℕ → ℕ = λ x. elim x as (λ _. ℕ) [ None ↦ m | Some y ↦ y ] in ap f e

goes_some : (n c m : ℕ) → one_more n c ≡ Some m → Goes n c m
goes_some n c m e = by_bool (is_ascii_digit c)
    (λ d. by_bool (nat_le (n * 10 + (c - 48)) 2147483647)
    (λ l. let v : n * 10 + (c - 48) ≡ m = some_same (sym (rw (d, l) refl) ∙ e) in
    let most : n * 10 + (c - 48) ≤ 2147483647 = grind (arith, nat_tests) in
    record { digit = d; value = sym v; most = omega arith })
    (λ l. absurd (none-some _ (sym (rw (d, l) refl) ∙ e))))
    (λ d. absurd (none-some _ (sym (rw d refl) ∙ e)))

goes : (n c : ℕ) → is_ascii_digit c ≡ true → n * 10 + (c - 48) ≤ 2147483647 → one_more n c ≡ Some (n * 10 + (c - 48))
goes n c d le = let l : nat_le (n * 10 + (c - 48)) 2147483647 ≡ true = grind (arith, nat_tests) in rw (d, l) refl

value_grows : (n : ℕ) (ds : List ℕ) → n ≤ digits_value_after 10 n ds
value_grows n [] = omega arith
value_grows n (c ∷ ds) = let more = value_grows (n * 10 + digit_value c) ds in omega arith

-- the digits that were counted
record Counted (n : ℕ) (cs : List ℕ) (p : ℕ × ℕ) : Type 0 where
  within : p.1 ≤ length cs
  are : list_all is_ascii_digit (take p.1 cs) ≡ true
  value : digits_value_after 10 n (take p.1 cs) ≡ p.0
  most : p.0 ≤ 2147483647

counted_more : (n c : ℕ) (cs : List ℕ) (x : Option ℕ) → one_more n c ≡ x → n ≤ 2147483647 → ((m : ℕ) → m ≤ 2147483647 → Counted m cs (digits_on m cs)) → Counted n (c ∷ cs) (with_more n x (λ m. digits_on m cs))
counted_more n c cs None e le further = record { within = omega arith; are = refl; value = refl; most = le }
counted_more n c cs (Some m) e le further =
    let g = goes_some n c m e in
    let r = further m g.most in
    let k = (digits_on m cs).1 in
    let within = r.within in
    let same : n * 10 + digit_value c ≡ m = ap (λ d. n * 10 + d) (digit_is c g.digit) ∙ sym g.value in
    record {
      within = omega arith;
      are = rw add-one (and_from (is_ascii_digit c) (list_all is_ascii_digit (take k cs)) g.digit r.are);
      value = rw add-one (ap (λ v. digits_value_after 10 v (take k cs)) same ∙ r.value);
      most = r.most;
    }

counted : (n : ℕ) (cs : List ℕ) → n ≤ 2147483647 → Counted n cs (digits_on n cs)
counted n [] le = record { within = omega arith; are = refl; value = refl; most = le }
counted n (c ∷ cs) le = counted_more n c cs (one_more n c) refl le (λ m h. counted m cs h)

-- digits that go on with a number are all counted
counts : (n : ℕ) (ds r : List ℕ) → list_all is_ascii_digit ds ≡ true → digits_value_after 10 n ds ≤ 2147483647
    → (digits_on n (ds ++ r)).1 ≡ length ds + (digits_on (digits_value_after 10 n ds) r).1
counts n [] r h le = omega arith
counts n (c ∷ ds) r h le =
    let parts = and_parts (is_ascii_digit c) (list_all is_ascii_digit ds) h in
    let m = n * 10 + (c - 48) in
    let same : n * 10 + digit_value c ≡ m = ap (λ d. n * 10 + d) (digit_is c parts.0) in
    let below : digits_value_after 10 m ds ≤ 2147483647 = subst (λ v. digits_value_after 10 v ds ≤ 2147483647) same le in
    let grows : m ≤ digits_value_after 10 m ds = value_grows m ds in
    let step : one_more n c ≡ Some m = goes n c parts.0 (omega arith) in
    let more = counts m ds r parts.1 below in
    let now : (digits_on n (c ∷ (ds ++ r))).1 ≡ (digits_on m (ds ++ r)).1 + 1 = ap (λ x. (with_more n x (λ k. digits_on k (ds ++ r))).1) step in
    let end : (digits_on (digits_value_after 10 m ds) r).1 ≡ (digits_on (digits_value_after 10 (n * 10 + digit_value c) ds) r).1 = ap (λ v. (digits_on (digits_value_after 10 v ds) r).1) (sym same) in
    omega (arith, now, more, end)

-- ---- which way a byte goes

at_letter : (c : ℕ) (cs : List ℕ) → is_ascii_lowercase c ≡ true → piece_at c cs ≡ Some (Word, prefix_len is_word_byte cs + 1)
at_letter c cs l = rw l refl

no_letter : (c : ℕ) → is_ascii_digit c ≡ true → is_ascii_lowercase c ≡ false
no_letter c d = grind (arith, nat_tests)

at_digit : (c : ℕ) (cs : List ℕ) → is_ascii_lowercase c ≡ false → is_ascii_digit c ≡ true → piece_at c cs ≡ Some (number_at c cs)
at_digit c cs l d = rw (l, d) refl

at_mark : (c : ℕ) (cs : List ℕ) → is_ascii_lowercase c ≡ false → is_ascii_digit c ≡ false → is_quote c ≡ false → piece_at c cs ≡ mark_at c cs
at_mark c cs l d q = rw (l, d, q) refl

-- ---- what is found is a piece

record IsFound (c : ℕ) (cs : List ℕ) (x : Piece × ℕ) : Type 0 where
  within : x.1 ≤ length cs + 1
  is : IsPiece x.0 (take x.1 (c ∷ cs))

prefix_all : (p : ℕ → Bool) (cs : List ℕ) → list_all p (take (prefix_len p cs) cs) ≡ true
prefix_all p [] = refl
prefix_all p (c ∷ cs) = by_bool (p c)
    (λ h. let one : 1 + prefix_len p cs ≡ suc (prefix_len p cs) = omega arith in rw (h, one) (and_from (p c) (list_all p (take (prefix_len p cs) cs)) h (prefix_all p cs)))
    (λ h. rw h refl)

word_found : (c : ℕ) (cs : List ℕ) → is_ascii_lowercase c ≡ true → IsFound c cs (Word, prefix_len is_word_byte cs + 1)
word_found c cs l = record {
  within = omega (arith, prefix_len-le-length is_word_byte cs);
  is = rw add-one (IsPiece.word c (take (prefix_len is_word_byte cs) cs) l (prefix_all is_word_byte cs));
}

px_follows : (xs : List ℕ) → starts_with ◌==◌ xs (codes "px") ≡ true → xs ≡ 112 ∷ 120 ∷ drop 2 xs
px_follows [] e = cc
px_follows (a ∷ []) e = absurd (false≢true (sym (and_false (112 == a)) ∙ e))
  where
    and_false : (b : Bool) → (b && false) ≡ false
    and_false true = refl
    and_false false = refl
px_follows (a ∷ b ∷ xs) e =
    let parts = and_parts (112 == a) ((120 == b) && true) e in
    let more = and_parts (120 == b) true parts.1 in
    let first : a ≡ 112 = grind (arith, nat_tests, parts.0) in
    let second : b ≡ 120 = grind (arith, nat_tests, more.0) in
    rw (first, second) refl

-- the front of a list, and what follows it
take_front : (p r cs : List ℕ) (n : ℕ) → cs ≡ p ++ r → length p ≡ n → take n cs ≡ p
take_front p r cs n e len = ap (take n) e ∙ take_at p r n len

-- a number of so many bytes, with its unit if that follows
unit_found : (n k c : ℕ) (cs : List ℕ) (b : Bool) → starts_with ◌==◌ (drop k cs) (codes "px") ≡ b → k ≤ length cs → IsNumber n (c ∷ take k cs) → IsFound c cs (with_unit n (k + 1) (drop k cs))
unit_found n k c cs true e le is =
    let px : drop k cs ≡ 112 ∷ 120 ∷ drop 2 (drop k cs) = px_follows (drop k cs) e in
    let digits = c ∷ take k cs in
    let lens : length (drop k cs) ≡ suc (suc (length (drop 2 (drop k cs)))) = ap length px in
    let two : k + 2 ≤ length cs = omega (arith, lens, length-drop k cs) in
    let whole : c ∷ cs ≡ (digits ++ codes "px") ++ drop 2 (drop k cs) =
    ap (λ xs. c ∷ xs) (sym (take-append-drop k cs) ∙ ap (λ xs. take k cs ++ xs) px) ∙ sym (append_assoc digits (codes "px") (drop 2 (drop k cs))) in
    let len : length (digits ++ codes "px") ≡ k + 1 + 2 = omega (arith, length-append digits (codes "px"), length-take-le k cs le) in
    let piece : take (k + 1 + 2) (c ∷ cs) ≡ digits ++ codes "px" = take_front (digits ++ codes "px") (drop 2 (drop k cs)) (c ∷ cs) (k + 1 + 2) whole len in
    let answer : with_unit n (k + 1) (drop k cs) ≡ (Pixels n, k + 1 + 2) = rw e refl in
    subst (IsFound c cs) (sym answer) (record {
      within = omega arith;
      is = subst (IsPiece (Pixels n)) (sym piece) (IsPiece.pixels n digits is);
    })
unit_found n k c cs false e le is =
    let answer : with_unit n (k + 1) (drop k cs) ≡ (Number n, k + 1) = rw e refl in
    subst (IsFound c cs) (sym answer) (record { within = omega arith; is = rw add-one (IsPiece.number n (c ∷ take k cs) is) })

value_at : (c : ℕ) (ds : List ℕ) → is_ascii_digit c ≡ true → digits_value 10 (c ∷ ds) ≡ digits_value_after 10 (c - 48) ds
value_at c ds d =
    let same : 0 * 10 + digit_value c ≡ c - 48 = omega (arith, digit_is c d) in
    ap (λ v. digits_value_after 10 v ds) same

digit_below : (c : ℕ) → is_ascii_digit c ≡ true → c - 48 ≤ 2147483647
digit_below c d = let high : c ≤ 57 = grind (arith, nat_tests) in omega arith

digit_above : (c : ℕ) → is_ascii_digit c ≡ true → (c == 48) ≡ false → 49 ≤ c
digit_above c d z = let low : 48 ≤ c = grind (arith, nat_tests) in grind (arith, nat_tests)

digits_found : (c : ℕ) (cs : List ℕ) → is_ascii_digit c ≡ true → 49 ≤ c → IsFound c cs (number_behind (digits_on (c - 48) cs) cs)
digits_found c cs d above =
    let found = counted (c - 48) cs (digit_below c d) in
    let k = (digits_on (c - 48) cs).1 in
    let n = (digits_on (c - 48) cs).0 in
    let value : digits_value 10 (c ∷ take k cs) ≡ n = value_at c (take k cs) d ∙ found.value in
    let is : IsNumber n (c ∷ take k cs) = subst (λ m. IsNumber m (c ∷ take k cs)) value (IsNumber.digits c (take k cs) d above found.are (subst (λ m. m ≤ 2147483647) (sym value) found.most)) in
    unit_found n k c cs (starts_with ◌==◌ (drop k cs) (codes "px")) refl found.within is

number_found : (c : ℕ) (cs : List ℕ) → is_ascii_digit c ≡ true → IsFound c cs (number_at c cs)
number_found c cs d = by_bool (c == 48)
    (λ z. let same : 48 ≡ c = grind (arith, nat_tests) in
    subst (λ x. IsFound x cs (number_at x cs)) same (unit_found 0 0 48 cs (starts_with ◌==◌ cs (codes "px")) refl (omega arith) IsNumber.zero))
    (λ z. let e : number_at c cs ≡ number_behind (digits_on (c - 48) cs) cs = rw z refl in
    subst (IsFound c cs) (sym e) (digits_found c cs d (digit_above c d z)))

-- what stands before the first double quote, and that quote
quote_split : (cs : List ℕ) (n : ℕ) → position is_quote cs ≡ Some n → (n < length cs) × (list_all (λ c. not (is_quote c)) (take n cs) ≡ true) × (take (n + 1) cs ≡ take n cs ++ 34 ∷ [])
quote_split cs n e = by_bool (nat_lt (prefix_len (λ c. not (is_quote c)) cs) (length cs))
    (λ l. let same : prefix_len (λ c. not (is_quote c)) cs ≡ n = some_same (sym (rw l refl) ∙ e) in
    let some : n < length cs = grind (arith, nat_tests) in
    let stops : not (is_quote (get_or cs n 0)) ≡ false = subst (λ k. not (is_quote (get_or cs k 0)) ≡ false) same (prefix_len_stops (λ c. not (is_quote c)) cs 0 (subst (λ k. k < length cs) (sym same) some)) in
    let quote : get_or cs n 0 ≡ 34 = grind (arith, nat_tests, stops) in
    (some, subst (λ k. list_all (λ c. not (is_quote c)) (take k cs) ≡ true) same (prefix_all (λ c. not (is_quote c)) cs), take_more cs n 0 some ∙ ap (λ x. take n cs ++ x ∷ []) quote))
    (λ l. absurd (none-some _ (sym (rw l refl) ∙ e)))

quoted_found : (cs : List ℕ) (n : ℕ) → position is_quote cs ≡ Some n → IsFound 34 cs (Quoted, n + 2)
quoted_found cs n e =
    let q = quote_split cs n e in
    let two : n + 2 ≡ suc (n + 1) = omega arith in
    record {
      within = omega (arith, q.0);
      is = rw two (subst (λ xs. IsPiece Quoted (34 ∷ xs)) (sym q.2) (IsPiece.quoted (take n cs) q.1));
    }

equal_follows : (cs : List ℕ) → begins_with_equal cs ≡ true → cs ≡ 61 ∷ drop 1 cs
equal_follows [] e = cc
equal_follows (c ∷ cs) e = let same : c ≡ 61 = grind (arith, nat_tests, e) in ap (λ x. x ∷ cs) same

abbrev FoundIf : ℕ → List ℕ → Option (Piece × ℕ) → Type 0
FoundIf c cs None = Unit {0}
FoundIf c cs (Some x) = IsFound c cs x

-- a sign of one byte, or of two
sign_found : (c : ℕ) (cs : List ℕ) (both one : Comparison) (b : Bool) → begins_with_equal cs ≡ b → sign_text both ≡ c ∷ 61 ∷ [] → sign_text one ≡ c ∷ [] → FoundIf c cs (sign_or b both one)
sign_found c cs both one true e two single =
    let follows = equal_follows cs e in
    let len : length cs ≡ suc (length (drop 1 cs)) = ap length follows in
    let piece : take 2 (c ∷ cs) ≡ sign_text both = ap (λ xs. take 2 (c ∷ xs)) follows ∙ sym two in
    record { within = omega (arith, len); is = subst (IsPiece (Sign both)) (sym piece) (IsPiece.sign both) }
sign_found c cs both one false e two single = record { within = omega arith; is = subst (IsPiece (Sign one)) single (IsPiece.sign one) }

unequal_found : (cs : List ℕ) (b : Bool) → begins_with_equal cs ≡ b → FoundIf 33 cs (unequal_or_none b)
unequal_found cs true e =
    let follows = equal_follows cs e in
    let len : length cs ≡ suc (length (drop 1 cs)) = ap length follows in
    let piece : take 2 (33 ∷ cs) ≡ sign_text Ne = ap (λ xs. take 2 (33 ∷ xs)) follows in
    record { within = omega (arith, len); is = subst (IsPiece (Sign Ne)) (sym piece) (IsPiece.sign Ne) }
unequal_found cs false e = tt

-- a byte that is tested for is that one
same_byte : (c n : ℕ) → (c == n) ≡ true → n ≡ c
same_byte c n e = grind (arith, nat_tests)

mark_found : (c : ℕ) (cs : List ℕ) → FoundIf c cs (mark_at c cs)
mark_found c cs = by_bool (c == 60)
    (λ a. subst (λ x. FoundIf x cs (mark_at x cs)) (same_byte c 60 a) (sign_found 60 cs Le Lt (begins_with_equal cs) refl refl refl))
    (λ a. by_bool (c == 62)
    (λ b. subst (λ x. FoundIf x cs (mark_at x cs)) (same_byte c 62 b) (sign_found 62 cs Ge Gt (begins_with_equal cs) refl refl refl))
    (λ b. by_bool (c == 61)
    (λ d. subst (λ x. FoundIf x cs (mark_at x cs)) (same_byte c 61 d) (record { within = omega arith; is = IsPiece.sign Eq }))
    (λ d. by_bool (c == 33)
    (λ g. subst (λ x. FoundIf x cs (mark_at x cs)) (same_byte c 33 g) (unequal_found cs (begins_with_equal cs) refl))
    (λ g. by_bool (is_mark c)
    (λ m. rw (a, b, d, g, m) (record { within = omega arith; is = IsPiece.mark c m }))
    (λ m. rw (a, b, d, g, m) tt)))))

quote_found : (cs : List ℕ) (x : Option ℕ) → position is_quote cs ≡ x → FoundIf 34 cs (option_map (λ n. (Quoted, n + 2)) x)
quote_found cs None e = tt
quote_found cs (Some n) e = quoted_found cs n e

found : (c : ℕ) (cs : List ℕ) → FoundIf c cs (piece_at c cs)
found c cs = by_bool (is_ascii_lowercase c)
    (λ l. subst (FoundIf c cs) (sym (at_letter c cs l)) (word_found c cs l))
    (λ l. by_bool (is_ascii_digit c)
    (λ d. subst (FoundIf c cs) (sym (at_digit c cs l d)) (number_found c cs d))
    (λ d. by_bool (is_quote c)
    (λ q. subst (λ x. FoundIf x cs (piece_at x cs)) (same_byte c 34 q) (quote_found cs (position is_quote cs) refl))
    (λ q. subst (FoundIf c cs) (sym (at_mark c cs l d q)) (mark_found c cs))))

-- ---- no piece is longer than what is found

abbrev AtLeast : ℕ → Option (Piece × ℕ) → Type 0
AtLeast n None = ⊥
AtLeast n (Some x) = n ≤ x.1

-- what is found at the head of a text has so many bytes or more
abbrev Reaches : ℕ → List ℕ → Type 0
Reaches n [] = ⊥
Reaches n (c ∷ cs) = AtLeast n (piece_at c cs)

prefix_covers : (p : ℕ → Bool) (xs r : List ℕ) → list_all p xs ≡ true → prefix_len p (xs ++ r) ≡ length xs + prefix_len p r
prefix_covers p [] r h = omega arith
prefix_covers p (x ∷ xs) r h =
    let parts = and_parts (p x) (list_all p xs) h in
    let more = prefix_covers p xs r parts.1 in
    let now : prefix_len p (x ∷ (xs ++ r)) ≡ 1 + prefix_len p (xs ++ r) = rw parts.0 refl in
    omega (arith, now, more)

unit_covers : (n k : ℕ) (r : List ℕ) (b : Bool) → starts_with ◌==◌ r (codes "px") ≡ b → k ≤ (with_unit n k r).1
unit_covers n k r true e = let answer : with_unit n k r ≡ (Pixels n, k + 2) = rw e refl in omega (arith, ap (λ (x : Piece × ℕ). x.1) answer)
unit_covers n k r false e = let answer : with_unit n k r ≡ (Number n, k) = rw e refl in omega (arith, ap (λ (x : Piece × ℕ). x.1) answer)

digits_cover : (c : ℕ) (cs r : List ℕ) → is_ascii_digit c ≡ true → 49 ≤ c → list_all is_ascii_digit cs ≡ true → digits_value 10 (c ∷ cs) ≤ 2147483647
    → (digits_on (c - 48) (cs ++ r)).1 ≡ length cs + (digits_on (digits_value 10 (c ∷ cs)) r).1
digits_cover c cs r d above are most =
    let value = value_at c cs d in
    let all = counts (c - 48) cs r are (subst (λ m. m ≤ 2147483647) value most) in
    all ∙ ap (λ m. length cs + (digits_on m r).1) (sym value)

no_zero : (c : ℕ) → 49 ≤ c → (c == 48) ≡ false
no_zero c le = grind (arith, nat_tests)

number_way : (c : ℕ) (cs : List ℕ) → is_ascii_digit c ≡ true → 49 ≤ c → piece_at c cs ≡ Some (number_behind (digits_on (c - 48) cs) cs)
number_way c cs d above = at_digit c cs (no_letter c d) d ∙ (let z = no_zero c above in rw z refl)

number_covers : (n : ℕ) (ds r : List ℕ) → IsNumber n ds → Reaches (length ds) (ds ++ r)
number_covers n ds r (IsNumber.zero) = unit_covers 0 1 r (starts_with ◌==◌ r (codes "px")) refl
number_covers n ds r (IsNumber.digits c cs d above are most) =
    let k = (digits_on (c - 48) (cs ++ r)).1 in
    let all = digits_cover c cs r d above are most in
    let unit = unit_covers (digits_on (c - 48) (cs ++ r)).0 (k + 1) (drop k (cs ++ r)) (starts_with ◌==◌ (drop k (cs ++ r)) (codes "px")) refl in
    let le : suc (length cs) ≤ (number_behind (digits_on (c - 48) (cs ++ r)) (cs ++ r)).1 = omega (arith, all, unit) in
    subst (AtLeast (suc (length cs))) (sym (number_way c (cs ++ r) d above)) le

pixels_cover : (n : ℕ) (ds r : List ℕ) → IsNumber n ds → Reaches (length (ds ++ codes "px")) ((ds ++ codes "px") ++ r)
pixels_cover n ds r (IsNumber.zero) = omega arith
pixels_cover n ds r (IsNumber.digits c cs d above are most) =
    let rest = 112 ∷ 120 ∷ r in
    let k = (digits_on (c - 48) (cs ++ rest)).1 in
    let all : k ≡ length cs = digits_cover c cs rest d above are most ∙ omega arith in
    let behind : drop k (cs ++ rest) ≡ rest = ap (λ m. drop m (cs ++ rest)) all ∙ drop_at cs rest (length cs) refl in
    let m = (digits_on (c - 48) (cs ++ rest)).0 in
    let answer : number_behind (digits_on (c - 48) (cs ++ rest)) (cs ++ rest) ≡ (Pixels m, k + 1 + 2) = rw behind refl in
    let len = length-append (c ∷ cs) (codes "px") in
    let le : length ((c ∷ cs) ++ codes "px") ≤ (number_behind (digits_on (c - 48) (cs ++ rest)) (cs ++ rest)).1 = omega (arith, all, len, ap (λ (x : Piece × ℕ). x.1) answer) in
    let same : (cs ++ codes "px") ++ r ≡ cs ++ rest = append_assoc cs (codes "px") r in
    subst (λ xs. AtLeast (length ((c ∷ cs) ++ codes "px")) (piece_at c xs)) (sym same) (subst (AtLeast (length ((c ∷ cs) ++ codes "px"))) (sym (number_way c (cs ++ rest) d above)) le)

word_covers : (c : ℕ) (cs r : List ℕ) → is_ascii_lowercase c ≡ true → list_all is_word_byte cs ≡ true → AtLeast (suc (length cs)) (piece_at c (cs ++ r))
word_covers c cs r l h = subst (AtLeast (suc (length cs))) (sym (at_letter c (cs ++ r) l)) (omega (arith, prefix_covers is_word_byte cs r h))

quote_at : (inside r : List ℕ) → list_all (λ c. not (is_quote c)) inside ≡ true → position is_quote (inside ++ 34 ∷ r) ≡ Some (length inside)
quote_at inside r h =
    let len : prefix_len (λ c. not (is_quote c)) (inside ++ 34 ∷ r) ≡ length inside = prefix_covers (λ c. not (is_quote c)) inside (34 ∷ r) h ∙ omega arith in
    let short : nat_lt (length inside) (length (inside ++ 34 ∷ r)) ≡ true = let l = length-append inside (34 ∷ r) in lt-ltb (length inside) (length (inside ++ 34 ∷ r)) (omega (arith, l)) in
    rw (len, short) refl

quoted_covers : (inside r : List ℕ) → list_all (λ c. not (is_quote c)) inside ≡ true → Reaches (length (34 ∷ (inside ++ 34 ∷ []))) ((34 ∷ (inside ++ 34 ∷ [])) ++ r)
quoted_covers inside r h =
    let same : (inside ++ 34 ∷ []) ++ r ≡ inside ++ 34 ∷ r = append_assoc inside (34 ∷ []) r in
    let at : quoted_at ((inside ++ 34 ∷ []) ++ r) ≡ Some (Quoted, length inside + 2) = ap quoted_at same ∙ ap (option_map (λ n. (Quoted, n + 2))) (quote_at inside r h) in
    subst (AtLeast (length (34 ∷ (inside ++ 34 ∷ [])))) (sym at) (omega (arith, length-append inside (34 ∷ [])))

two_cover : (both one : Comparison) (n : ℕ) (b : Bool) → n ≤ 1 → AtLeast n (sign_or b both one)
two_cover both one n true le = omega arith
two_cover both one n false le = le

sign_covers : (s : Comparison) (r : List ℕ) → Reaches (length (sign_text s)) (sign_text s ++ r)
sign_covers Lt r = two_cover Le Lt 1 (begins_with_equal r) (omega arith)
sign_covers Le r = omega arith
sign_covers Eq r = omega arith
sign_covers Ne r = omega arith
sign_covers Ge r = omega arith
sign_covers Gt r = two_cover Ge Gt 1 (begins_with_equal r) (omega arith)

mark_is : (c : ℕ) (r : List ℕ) → is_mark c ≡ true → piece_at c r ≡ Some (Mark c, 1)
mark_is c r m =
    let l : is_ascii_lowercase c ≡ false = grind (arith, nat_tests) in
    let d : is_ascii_digit c ≡ false = grind (arith, nat_tests) in
    let q : is_quote c ≡ false = grind (arith, nat_tests) in
    let less : (c == 60) ≡ false = grind (arith, nat_tests) in
    let more : (c == 62) ≡ false = grind (arith, nat_tests) in
    let same : (c == 61) ≡ false = grind (arith, nat_tests) in
    let bang : (c == 33) ≡ false = grind (arith, nat_tests) in
    at_mark c r l d q ∙ rw (less, more, same, bang, m) refl

covers : (kind : Piece) (p r : List ℕ) → IsPiece kind p → Reaches (length p) (p ++ r)
covers kind p r (IsPiece.word c cs l h) = word_covers c cs r l h
covers kind p r (IsPiece.number n ds is) = number_covers n ds r is
covers kind p r (IsPiece.pixels n ds is) = pixels_cover n ds r is
covers kind p r (IsPiece.quoted inside h) = quoted_covers inside r h
covers kind p r (IsPiece.sign s) = sign_covers s r
covers kind p r (IsPiece.mark c m) = subst (AtLeast 1) (sym (mark_is c r m)) (omega arith)

-- ---- the longest

longest_at : (c : ℕ) (cs : List ℕ) (x : Option (Piece × ℕ)) → piece_at c cs ≡ x → FoundIf c cs x → MatchOption x (BeginsWithNone (c ∷ cs)) (IsCut (c ∷ cs))
longest_at c cs None e h = λ other p r is whole.
    let reach : Reaches (length p) (c ∷ cs) = subst (Reaches (length p)) (sym whole) (covers other p r is) in
    subst (AtLeast (length p)) e reach
longest_at c cs (Some x) e h =
    let within = h.within in
    let fits : x.1 ≤ length (c ∷ cs) = omega arith in (
      fits,
      record {
        whole = sym (take-append-drop x.1 (c ∷ cs));
        is = h.is;
        longest = λ other p r is whole.
            let reach : Reaches (length p) (c ∷ cs) = subst (Reaches (length p)) (sym whole) (covers other p r is) in
            let le : length p ≤ x.1 = subst (AtLeast (length p)) e reach in
            let len : length (take x.1 (c ∷ cs)) ≡ x.1 = length-take-le x.1 (c ∷ cs) fits in
            omega (arith, le, len);
      },
    )

pub munch : (c : ℕ) (cs : List ℕ) → MatchOption (piece_at c cs) (BeginsWithNone (c ∷ cs)) (IsCut (c ∷ cs))
munch c cs = longest_at c cs (piece_at c cs) refl (found c cs)

-- ---- a piece is of one kind

-- the kind of the piece that is found at the head of a text
abbrev pub kind_at : List ℕ → Option Piece
kind_at [] = None
kind_at (c ∷ cs) = option_map (λ (x : Piece × ℕ). x.0) (piece_at c cs)

-- digits, and what follows them
record AllCounted (c : ℕ) (cs r : List ℕ) : Type 0 where
  number : (digits_on (c - 48) (cs ++ r)).0 ≡ digits_value 10 (c ∷ cs)
  behind : drop (digits_on (c - 48) (cs ++ r)).1 (cs ++ r) ≡ r

all_counted : (c : ℕ) (cs r : List ℕ) → is_ascii_digit c ≡ true → 49 ≤ c → list_all is_ascii_digit cs ≡ true → digits_value 10 (c ∷ cs) ≤ 2147483647
    → (digits_on (digits_value 10 (c ∷ cs)) r).1 ≡ 0 → AllCounted c cs r
all_counted c cs r d above are most none =
    let all = digits_cover c cs r d above are most in
    let k : (digits_on (c - 48) (cs ++ r)).1 ≡ length cs = omega (arith, all, none) in
    let value = (counted (c - 48) (cs ++ r) (digit_below c d)).value in
    let taken : take (digits_on (c - 48) (cs ++ r)).1 (cs ++ r) ≡ cs = take_at cs r (digits_on (c - 48) (cs ++ r)).1 (sym k) in
    record {
      number = sym value ∙ (ap (digits_value_after 10 (c - 48)) taken ∙ sym (value_at c cs d));
      behind = ap (λ m. drop m (cs ++ r)) k ∙ drop_at cs r (length cs) refl;
    }

unit_kind : (n k m : ℕ) (rest : List ℕ) → n ≡ m → rest ≡ [] → (with_unit n k rest).0 ≡ Number m
unit_kind n k m rest e f = rw (f, e) refl

pixels_kind : (n k m : ℕ) (rest : List ℕ) → n ≡ m → rest ≡ codes "px" → (with_unit n k rest).0 ≡ Pixels m
pixels_kind n k m rest e f = rw (f, e) refl

number_kind : (n : ℕ) (ds : List ℕ) → IsNumber n ds → kind_at ds ≡ Some (Number n)
number_kind n ds (IsNumber.zero) = refl
number_kind n ds (IsNumber.digits c cs d above are most) =
    let g = all_counted c cs [] d above are most refl in
    let found = digits_on (c - 48) (cs ++ []) in
    let kind : kind_at (c ∷ (cs ++ [])) ≡ Some (Number (digits_value 10 (c ∷ cs))) =
    ap (option_map (λ (x : Piece × ℕ). x.0)) (number_way c (cs ++ []) d above) ∙ ap (λ k. Some k) (unit_kind found.0 (found.1 + 1) (digits_value 10 (c ∷ cs)) (drop found.1 (cs ++ [])) g.number g.behind) in
    subst (λ xs. kind_at (c ∷ xs) ≡ Some (Number (digits_value 10 (c ∷ cs)))) (append-nil cs) kind

px_kind : (n : ℕ) (ds : List ℕ) → IsNumber n ds → kind_at (ds ++ codes "px") ≡ Some (Pixels n)
px_kind n ds (IsNumber.zero) = refl
px_kind n ds (IsNumber.digits c cs d above are most) =
    let g = all_counted c cs (codes "px") d above are most refl in
    let found = digits_on (c - 48) (cs ++ codes "px") in
    ap (option_map (λ (x : Piece × ℕ). x.0)) (number_way c (cs ++ codes "px") d above) ∙ ap (λ k. Some k) (pixels_kind found.0 (found.1 + 1) (digits_value 10 (c ∷ cs)) (drop found.1 (cs ++ codes "px")) g.number g.behind)

sign_kind : (s : Comparison) → kind_at (sign_text s) ≡ Some (Sign s)
sign_kind Lt = refl
sign_kind Le = refl
sign_kind Eq = refl
sign_kind Ne = refl
sign_kind Ge = refl
sign_kind Gt = refl

pub of_kind : {kind : Piece} {p : List ℕ} → IsPiece kind p → kind_at p ≡ Some kind
of_kind (IsPiece.word c cs l h) = ap (option_map (λ (x : Piece × ℕ). x.0)) (at_letter c cs l)
of_kind (IsPiece.number n ds is) = number_kind n ds is
of_kind (IsPiece.pixels n ds is) = px_kind n ds is
of_kind (IsPiece.quoted inside h) = ap (λ x. option_map (λ (y : Piece × ℕ). y.0) (option_map (λ n. (Quoted, n + 2)) x)) (quote_at inside [] h)
of_kind (IsPiece.sign s) = sign_kind s
of_kind (IsPiece.mark c m) = ap (option_map (λ (x : Piece × ℕ). x.0)) (mark_is c [] m)

-- what is white begins no piece
pub white_none : (c : ℕ) (cs : List ℕ) → is_white c ≡ true → kind_at (c ∷ cs) ≡ None
white_none c cs w = by_bool (c == 32)
    (λ a. subst (λ x. kind_at (x ∷ cs) ≡ None) (same_byte c 32 a) refl)
    (λ a. by_bool (c == 9)
    (λ b. subst (λ x. kind_at (x ∷ cs) ≡ None) (same_byte c 9 b) refl)
    (λ b. by_bool (c == 10)
    (λ d. subst (λ x. kind_at (x ∷ cs) ≡ None) (same_byte c 10 d) refl)
    (λ d. absurd (false≢true (sym (rw (a, b, d) refl) ∙ w)))))
