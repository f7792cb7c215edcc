-- A selector that asks for a word matches those elements alone among whose buckets the word's is.
use Rattle.std.proofs.Common.{◌≡◌, ℕ, suc, zero, ◌+◌, ◌*◌, ◌%◌, inl, inr, Bool, true, false, cond, List, [], ◌∷◌, ◌++◌, map, reverse, Option, Some, None, refl, sym, ◌∙◌, ap, subst, arith}
use Rattle.std.specs.Prelude.{codes, flat_map}
use Rattle.std.specs.List.{AllByRecursion, Contains}
use Rattle.std.specs.Char.{to_ascii_lowercase}
use Rattle.std.proofs.lemmas.List.{reverse-append}
use Rattle.std.proofs.lemmas.List.Elements.{Contains-append_left, Contains-append_right}
use Rattle.std.proofs.lemmas.Slice.Eq.{bytes_eq-Decides}
use Rattle.viz_base.specs.declared.nodes.Attr.{Attr}
use Rattle.viz_base.specs.declared.nodes.Body.{Body}
use Rattle.viz_base.specs.declared.nodes.Body.TheVariants as of_body
use Rattle.viz_base.specs.declared.nodes.Element.{Element}
use Rattle.viz_base.specs.declared.nodes.Node.{Node}
use Rattle.viz_base.specs.declared.selectors.Compound.{Compound}
use Rattle.viz_base.specs.declared.selectors.Join.{Join}
use Rattle.viz_base.specs.declared.selectors.Join.TheVariants.{First, Descendant, Child, Next}
use Rattle.viz_base.specs.declared.selectors.Test.{Test}
use Rattle.viz_base.specs.declared.selectors.Test.TheVariants.{Id, Class}
use Rattle.viz_base.proofs.ListLemmas.{later_member}
use Rattle.css_semantics.specs.Matching.{BeginsWhite, EndsWhite, HasAttribute, HasTag, IsElementAt, IsWordOf, Match, MatchesCompound, MatchesParts, Passes}
use Rattle.css_semantics.specs.Names.{same_name}
use Rattle.css_semantics.specs.TokensLetters.{is_space}
use Rattle.css_cascade.specs.steps.Buckets.{IsWordIn, IsWordOfLast, attribute_buckets, bucket_behind, bucket_from, bucket_of, buckets_from, class_buckets, element_buckets, id_buckets}
use Rattle.css_cascade.proofs.Keeping.{all_at}

pub first_in : {A : Type 0} (x : A) (xs : List A) → Contains (x ∷ xs) x
first_in x xs = (zero, omega arith, refl)

pub in_flat : {A B : Type 0} (f : A → List B) (before : List A) (x : A) (after : List A) (y : B) → Contains (f x) y → Contains (flat_map f (before ++ x ∷ after)) y
in_flat f [] x after y h = Contains-append_left (f x) (flat_map f after) y h
in_flat f (b ∷ before) x after y h = Contains-append_right (f b) (flat_map f (before ++ x ∷ after)) y (in_flat f before x after y h)

-- ---- words in any case

abbrev lowered_from : ℕ → List ℕ → ℕ
lowered_from at [] = at
lowered_from at (c ∷ cs) = lowered_from ((at * 131 + c) % 8191) cs

from_lowered : (at : ℕ) (word : List ℕ) → bucket_from at word ≡ lowered_from at (map to_ascii_lowercase word)
from_lowered at [] = refl
from_lowered at (c ∷ cs) = from_lowered (bucket_behind at c) cs

same_bucket : (a b : List ℕ) → same_name a b ≡ true → bucket_of a ≡ bucket_of b
same_bucket a b h = from_lowered 0 a ∙ ap (lowered_from 0) ((bytes_eq-Decides (map to_ascii_lowercase a) (map to_ascii_lowercase b)).0 h) ∙ sym (from_lowered 0 b)

-- ---- words between white space

taken : {A : Type 0} (b : Bool) (xs ys : List A) (y : A) → b ≡ true → Contains xs y → Contains (cond b xs ys) y
taken true xs ys y e h = h
taken false xs ys y e h = absurd (cc)

left : {A : Type 0} (b : Bool) (xs ys : List A) (y : A) → b ≡ false → Contains ys y → Contains (cond b xs ys) y
left true xs ys y e h = absurd (cc)
left false xs ys y e h = h

either : {A : Type 0} (b : Bool) (xs ys : List A) (y : A) → Contains xs y → Contains ys y → Contains (cond b xs ys) y
either true xs ys y h k = h
either false xs ys y h k = k

ends_piece : (at : ℕ) (after : List ℕ) → BeginsWhite after → Contains (buckets_from at after) at
ends_piece at after (inl e) = subst (λ text. Contains (buckets_from at text) at) (sym e) (first_in at [])
ends_piece at after (inr h) =
    subst (λ text. Contains (buckets_from at text) at) (sym h.2)
    (taken (is_space h.0) (at ∷ buckets_from 0 h.1) (buckets_from (bucket_behind at h.0) h.1) at h.3 (first_in at (buckets_from 0 h.1)))

at_front : (at : ℕ) (word after : List ℕ) → AllByRecursion (λ c. is_space c ≡ false) word → BeginsWhite after → Contains (buckets_from at (word ++ after)) (bucket_from at word)
at_front at [] after solid end = ends_piece at after end
at_front at (c ∷ cs) after solid end =
    left (is_space c) (at ∷ buckets_from 0 (cs ++ after)) (buckets_from (bucket_behind at c) (cs ++ after)) (bucket_from (bucket_behind at c) cs) solid.0
    (at_front (bucket_behind at c) cs after solid.1 end)

behind_white : (at : ℕ) (front : List ℕ) (c : ℕ) (rest : List ℕ) (x : ℕ) → is_space c ≡ true → Contains (buckets_from 0 rest) x → Contains (buckets_from at ((front ++ c ∷ []) ++ rest)) x
behind_white at [] c rest x white h = taken (is_space c) (at ∷ buckets_from 0 rest) (buckets_from (bucket_behind at c) rest) x white (later_member (buckets_from 0 rest) h)
behind_white at (d ∷ front) c rest x white h =
    let more = (front ++ c ∷ []) ++ rest in
    either (is_space d) (at ∷ buckets_from 0 more) (buckets_from (bucket_behind at d) more) x
    (later_member (buckets_from 0 more) (behind_white 0 front c rest x white h))
    (behind_white (bucket_behind at d) front c rest x white h)

behind_start : (before rest : List ℕ) (x : ℕ) → EndsWhite before → Contains (buckets_from 0 rest) x → Contains (buckets_from 0 (before ++ rest)) x
behind_start before rest x (inl e) h = subst (λ b. Contains (buckets_from 0 (b ++ rest)) x) (sym e) h
behind_start before rest x (inr k) h = subst (λ b. Contains (buckets_from 0 (b ++ rest)) x) (sym k.2) (behind_white 0 k.0 k.1 rest x k.3 h)

word_piece : (text word : List ℕ) → IsWordOf text word → Contains (buckets_from 0 text) (bucket_of word)
word_piece text word h =
    subst (λ t. Contains (buckets_from 0 t) (bucket_of word)) (sym h.whole)
    (behind_start h.before (word ++ h.after) (bucket_of word) h.start (at_front 0 word h.after h.solid h.end))

-- ---- words of an element

by_attribute : (e : Element) (name : List ℕ) (P : List ℕ → Type 0) (x : ℕ) → ((a : Attr) → same_name name a.name ≡ true → P a.value → Contains (attribute_buckets a) x) → HasAttribute e name P → Contains (element_buckets e) x
by_attribute e name P x each h =
    later_member (flat_map attribute_buckets e.attrs)
    (subst (λ attrs. Contains (flat_map attribute_buckets attrs) x) (sym h.among)
    (in_flat attribute_buckets h.before h.attribute h.after x (each h.attribute h.named h.passes)))

pub by_id : (e : Element) (id : List ℕ) → HasAttribute e (codes "id") (λ v. v ≡ id) → Contains (element_buckets e) (bucket_of id)
by_id e id h =
    by_attribute e (codes "id") (λ v. v ≡ id) (bucket_of id)
    (λ a named is. Contains-append_right (class_buckets a) (id_buckets a) (bucket_of id)
    (taken (same_name (codes "id") a.name) (bucket_of a.value ∷ []) [] (bucket_of id) named
    (subst (λ v. Contains (bucket_of v ∷ []) (bucket_of id)) (sym is) (first_in (bucket_of id) []))))
    h

pub by_class : (e : Element) (word : List ℕ) → HasAttribute e (codes "class") (λ v. IsWordOf v word) → Contains (element_buckets e) (bucket_of word)
by_class e word h =
    by_attribute e (codes "class") (λ v. IsWordOf v word) (bucket_of word)
    (λ a named is. Contains-append_left (class_buckets a) (id_buckets a) (bucket_of word)
    (taken (same_name (codes "class") a.name) (buckets_from 0 a.value) [] (bucket_of word) named (word_piece a.value word is)))
    h

pub by_tag : (e : Element) (tag : Option (List ℕ)) (word : List ℕ) → tag ≡ Some word → HasTag e tag → Contains (element_buckets e) (bucket_of word)
by_tag e tag word is h =
    let named : same_name word e.tag ≡ true = subst (HasTag e) is h in
    subst (λ x. Contains (element_buckets e) x) (sym (same_bucket word e.tag named)) (first_in (bucket_of e.tag) (flat_map attribute_buckets e.attrs))

passed : (nodes : List Node) (n : ℕ) (e : Element) (tests : List Test) (t : Test) → Contains tests t → AllByRecursion (Passes nodes n e) tests → Passes nodes n e t
passed nodes n e tests t h all = all_at (Passes nodes n e) tests h.0 t h.1 (sym h.2) all

by_word : (nodes : List Node) (n : ℕ) (e : Element) (c : Compound) (word : List ℕ) → IsWordIn c word → HasTag e c.tag → AllByRecursion (Passes nodes n e) c.tests → Contains (element_buckets e) (bucket_of word)
by_word nodes n e c word (inl h) tag tests = by_id e word (passed nodes n e c.tests (Id word) h tests)
by_word nodes n e c word (inr (inl h)) tag tests = by_class e word (passed nodes n e c.tests (Class word) h tests)
by_word nodes n e c word (inr (inr h)) tag tests = by_tag e c.tag word h tag

-- ---- the last simple selector

of_front : (nodes : List Node) (join : Join) (c : Compound) (ps : List (Join × Compound)) (n : ℕ) → MatchesParts nodes ((join, c) ∷ ps) n → MatchesCompound nodes c n
of_front nodes First c ps n h = h
of_front nodes Child c ps n h = h.0
of_front nodes Descendant c ps n h = h.0
of_front nodes Next c ps n h = h.0

abbrev body_or : Element → Body → Element
body_or e (of_body.Element f) = f
body_or e (of_body.Chars text) = e

abbrev element_or : Element → Option Node → Element
element_or e None = e
element_or e (Some node) = body_or e node.body

one_element : (nodes : List Node) (n : ℕ) (e f : Element) → IsElementAt nodes n e → IsElementAt nodes n f → e ≡ f
one_element nodes n e f h k = ap (element_or e) (sym h.1 ∙ k.1)

pub in_bucket : (nodes : List Node) (n : ℕ) (e : Element) (parts : List (Join × Compound)) (word : List ℕ) → IsElementAt nodes n e → IsWordOfLast parts word → Match parts nodes n → Contains (element_buckets e) (bucket_of word)
in_bucket nodes n e parts word is h m =
    let c = h.0 in
    let before = h.1.0 in
    let join = h.1.1 in
    let last : Join × Compound = (join, c) in
    let at = of_front nodes join c (reverse before) n (subst (λ ps. MatchesParts nodes ps n) (ap reverse h.1.2 ∙ reverse-append before (last ∷ [])) m) in
    subst (λ x. Contains (element_buckets x) (bucket_of word)) (one_element nodes n at.element e at.is_element is)
    (by_word nodes n at.element c word h.2 at.tag at.tests)
