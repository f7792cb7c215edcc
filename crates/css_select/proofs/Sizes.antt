-- A selector is no larger than its text.
use Rattle.std.proofs.Common.{◌≡◌, ℕ, ◌+◌, ◌<◌, ◌≤◌, List, [], ◌∷◌, ◌++◌, length, Option, refl, sym, subst, arith, length-append}
use Rattle.std.specs.List.{AllByRecursion}
use Rattle.std.proofs.lemmas.List.Sums.{sum_by_push}
use Rattle.viz_base.specs.declared.selectors.Compound.{Compound}
use Rattle.viz_base.specs.declared.selectors.Join.{Join}
use Rattle.viz_base.specs.declared.selectors.Test.{Test}
use Rattle.css_semantics.specs.Pieces.{Token}
use Rattle.css_semantics.specs.SelectorGrammar.{IsTest, id, class, has, compares, pseudo_class, language, AreTests, no_test, one_more, IsHead, nothing, star, tag, IsBody, IsCompound, IsFront, at_start, further, IsLast, plain, generated, two_colons, with_refused, IsSelectorText, selector, AreEarlier, none_earlier, one_later, IsGroup, selectors}
use Rattle.css_semantics.specs.SelectorTerminals.{terminal}
use Rattle.css_semantics.specs.declared.terminals.Terminal.TheVariants as a
use Rattle.css_semantics.specs.Specificity.{parts_size, pseudos, size_of}
use Rattle.css_semantics.specs.Spelled.{Spelled}
use Rattle.viz_base.specs.declared.selectors.Pseudo.{Pseudo}

-- the bytes of tokens
abbrev pub bytes : List Token → ℕ
bytes [] = 0
bytes (t ∷ ts) = length t.text + bytes ts

-- a token has a byte, and an id two
pub record IsFull (t : Token) : Type 0 where
  pub some : 0 < length t.text
  pub of_id : terminal t ≡ a.Id → 1 < length t.text

abbrev pub AreFull : List Token → Type 0
AreFull = AllByRecursion IsFull

bytes_append : (ts us : List Token) → bytes (ts ++ us) ≡ bytes ts + bytes us
bytes_append [] us = omega arith
bytes_append (t ∷ ts) us = omega (arith, bytes_append ts us)

full_front : (ts us : List Token) → AreFull (ts ++ us) → AreFull ts
full_front [] us h = tt
full_front (t ∷ ts) us h = (h.0, full_front ts us h.1)

full_back : (ts us : List Token) → AreFull (ts ++ us) → AreFull us
full_back [] us h = h
full_back (t ∷ ts) us h = full_back ts us h.1

-- tokens with others before them

two_tokens : (first : Token) (ts : List Token) (second : Token) (us : List Token) → AreFull (first ∷ (ts ++ second ∷ us)) → 2 ≤ bytes (first ∷ (ts ++ second ∷ us))
two_tokens first ts second us h =
    let one = h.0.some in
    let other = (full_back ts (second ∷ us) h.1).0.some in
    omega (arith, bytes_append ts (second ∷ us))

test_size : {piece : List Token} {tests : List Test} {others : List ℕ} → IsTest piece tests others → AreFull piece → length tests + 1 ≤ bytes piece
test_size (id {t = t} k) h = let two = h.0.of_id k in omega arith
test_size (class {dot = dot} {name = name} k m) h = two_tokens dot [] name [] h
test_size (has opening name closing before after k g m f l) h = two_tokens opening before name (after ++ closing ∷ []) h
test_size (compares opening name sign value closing before after between beyond how k g m f c d v e l) h =
    two_tokens opening before name (after ++ sign ∷ (between ++ value ∷ (beyond ++ closing ∷ []))) h
test_size (pseudo_class {colon = colon} {name = name} k m p) h = two_tokens colon [] name [] h
test_size (language colon function name closing before after k f l g m e r) h = let two = two_tokens colon [] function (before ++ name ∷ (after ++ closing ∷ [])) h in omega arith

-- tests take a byte each, and one more
record IsWithin (ts : List Token) (n : ℕ) : Type 0 where
  within : n ≤ bytes ts
  more : 0 < length ts → n + 1 ≤ bytes ts

tests_size : {ts : List Token} {tests : List Test} {others : List ℕ} → AreTests ts tests others → AreFull ts → IsWithin ts (length tests)
tests_size no_test h = record { within = omega arith; more = λ e. absurd (omega arith) }
tests_size (one_more ts piece {tests = tests} {more = more} k t) h =
    let front = (tests_size k (full_front ts piece h)).within in
    let back = test_size t (full_back ts piece h) in
    let all : length (tests ++ more) + 1 ≤ bytes (ts ++ piece) = omega (arith, bytes_append ts piece, length-append tests more) in
    record { within = omega arith; more = λ e. all }

head_size : {ts : List Token} {name : Option (List ℕ)} → IsHead ts name → AreFull ts → length ts ≤ bytes ts
head_size nothing h = omega arith
head_size (star {t = t} k) h = let one = h.0.some in omega arith
head_size (tag {t = t} k) h = let one = h.0.some in omega arith

some_of_two : (ts us : List Token) → 0 < length (ts ++ us) → length us ≡ 0 → 0 < length ts
some_of_two ts us h e = omega (arith, length-append ts us)

body_more : (head tail : List Token) (n : ℕ) → length head ≤ bytes head → IsWithin tail n → 0 < length (head ++ tail) → n + 1 ≤ bytes (head ++ tail)
body_more head [] n h k e = let some = some_of_two head [] e refl in let w = k.within in omega (arith, bytes_append head [])
body_more head (t ∷ tail) n h k e = let m = k.more (omega arith) in omega (arith, bytes_append head (t ∷ tail))

body_size : (ts : List Token) (c : Compound) (others : List ℕ) → IsBody ts c others → AreFull ts → IsWithin ts (length c.tests)
body_size ts c others h full =
    let parts = subst AreFull h.whole full in
    let head = head_size h.has_head (full_front h.head h.tail parts) in
    let tail = tests_size h.has_tests (full_back h.head h.tail parts) in
    let some = tail.within in
    subst (λ x. IsWithin x (length c.tests)) (sym h.whole) (record { within = omega (arith, bytes_append h.head h.tail); more = body_more h.head h.tail (length c.tests) head tail })

compound_size : (ts : List Token) (c : Compound) (others : List ℕ) → IsCompound ts c others → AreFull ts → length c.tests + 1 ≤ bytes ts
compound_size ts c others h full = (body_size ts c others h.body full).more h.some

push_size : (parts : List (Join × Compound)) (p : Join × Compound) → parts_size (parts ++ p ∷ []) ≡ parts_size parts + (length p.1.tests + 1)
push_size parts p = omega (arith, length-append parts (p ∷ []), sum_by_push (λ (q : Join × Compound). length q.1.tests) parts p)

front_size : {ts : List Token} {parts : List (Join × Compound)} {join : Join} {others : List ℕ} → IsFront ts parts join others → AreFull ts → parts_size parts ≤ bytes ts
front_size at_start h = omega arith
front_size (further ts piece gap {parts = parts} {join = join} {c = c} {others = others} f k j) h =
    let rest = full_back ts (piece ++ gap) h in
    let front = front_size f (full_front ts (piece ++ gap) h) in
    let last = compound_size piece c others k (full_front piece gap rest) in
    omega (arith, push_size parts (join, c), bytes_append ts (piece ++ gap), bytes_append piece gap)

last_size : {ts : List Token} {c : Compound} {pseudo : Option Pseudo} {others : List ℕ} → IsLast ts c pseudo others → AreFull ts → length c.tests + 1 + pseudos pseudo ≤ bytes ts
last_size (plain {ts = ts} {c = c} {refused = others} h) full = let size = compound_size ts c others h full in omega arith
last_size (generated ts {c = c} {refused = others} colon name h k m p) full =
    let front = (body_size ts c others h (full_front ts (colon ∷ name ∷ []) full)).within in
    let back = two_tokens colon [] name [] (full_back ts (colon ∷ name ∷ []) full) in
    omega (arith, bytes_append ts (colon ∷ name ∷ []))
last_size (two_colons ts {c = c} {refused = others} colon second name h k l m p) full =
    let front = (body_size ts c others h (full_front ts (colon ∷ second ∷ name ∷ []) full)).within in
    let back = two_tokens colon (second ∷ []) name [] (full_back ts (colon ∷ second ∷ name ∷ []) full) in
    omega (arith, bytes_append ts (colon ∷ second ∷ name ∷ []))
last_size (with_refused ts {c = c} {refused = others} colon name h k m p) full =
    let front = (body_size ts c others h (full_front ts (colon ∷ name ∷ []) full)).within in
    let back = two_tokens colon [] name [] (full_back ts (colon ∷ name ∷ []) full) in
    omega (arith, bytes_append ts (colon ∷ name ∷ []))

selector_size : {ts : List Token} {one : Spelled} {others : List ℕ} → IsSelectorText ts one others → AreFull ts → size_of one ≤ bytes ts
selector_size (selector before front last behind {parts = parts} {join = join} {c = c} b f l g) h =
    let some = full_back before (front ++ (last ++ behind)) h in
    let rest = full_back front (last ++ behind) some in
    let one = front_size f (full_front front (last ++ behind) some) in
    let other = last_size l (full_front last behind rest) in
    omega (arith, push_size parts (join, c), bytes_append before (front ++ (last ++ behind)), bytes_append front (last ++ behind), bytes_append last behind)

-- each selector of a group is within so many bytes
abbrev pub AreWithin : ℕ → List Spelled → Type 0
AreWithin n = AllByRecursion (λ one. size_of one ≤ n)

within_more : (m n : ℕ) (group : List Spelled) → m ≤ n → AreWithin m group → AreWithin n group
within_more m n [] le h = tt
within_more m n (one ∷ group) le h = (omega (arith, h.0), within_more m n group le h.1)

within_push : (n : ℕ) (group : List Spelled) (last : Spelled) → AreWithin n group → size_of last ≤ n → AreWithin n (group ++ last ∷ [])
within_push n [] last h e = (e, tt)
within_push n (one ∷ group) last h e = (h.0, within_push n group last h.1 e)

earlier_size : {ts : List Token} {group : List Spelled} {others : List ℕ} → AreEarlier ts group others → AreFull ts → AreWithin (bytes ts) group
earlier_size none_earlier h = tt
earlier_size (one_later ts piece comma {group = group} {one = last} e k c) h =
    let n = bytes (ts ++ (piece ++ comma ∷ [])) in
    let rest = full_back ts (piece ++ comma ∷ []) h in
    let one = selector_size k (full_front piece (comma ∷ []) rest) in
    within_push n group last (within_more (bytes ts) n group (omega (arith, bytes_append ts (piece ++ comma ∷ []))) (earlier_size e (full_front ts (piece ++ comma ∷ []) h)))
    (omega (arith, bytes_append ts (piece ++ comma ∷ []), bytes_append piece (comma ∷ [])))

pub group_size : {ts : List Token} {group : List Spelled} {others : List ℕ} → IsGroup ts group others → AreFull ts → AreWithin (bytes ts) group
group_size (selectors ts piece {group = group} {one = last} e k) h =
    let n = bytes (ts ++ piece) in
    let one = selector_size k (full_back ts piece h) in
    within_push n group last (within_more (bytes ts) n group (omega (arith, bytes_append ts piece)) (earlier_size e (full_front ts piece h))) (omega (arith, bytes_append ts piece))
