-- A selector that asks for a tag, a class or an id that no element of a page has matches none of its nodes.
use Rattle.std.proofs.Common.{◌≡◌, ℕ, zero, suc, Bool, true, false, not, List, [], ◌∷◌, get_or, set, slice_get, replicate, reverse, Option, Some, None, refl, ◌∙◌, ap, subst, arith}
use Rattle.std.specs.List.{AllByRecursion, Contains, list_any}
use Rattle.std.proofs.lemmas.Bool.{or_from}
use Rattle.viz_base.specs.declared.nodes.Element.{Element}
use Rattle.viz_base.specs.declared.nodes.Body.TheVariants as of_body
use Rattle.viz_base.specs.declared.nodes.Node.{Node}
use Rattle.viz_base.specs.declared.selectors.Compound.{Compound}
use Rattle.viz_base.specs.declared.selectors.Join.{Join}
use Rattle.viz_base.specs.declared.selectors.Join.TheVariants.{First, Descendant, Child, Next}
use Rattle.viz_base.specs.declared.selectors.Test.{Test}
use Rattle.viz_base.specs.declared.selectors.Test.TheVariants.{Id, Class, Has, Equals, Word, Dash, FirstChild, Link, Never}
use Rattle.css_semantics.specs.Matching.{HasTag, IsElementAt, Match, MatchesCompound, MatchesParts, Passes}
use Rattle.css_cascade.specs.steps.Buckets.{bucket_of, element_buckets}
use Rattle.css_cascade.specs.steps.Present.{body_buckets, is_present, lacks_some, lacks_tag, lacks_test, lacks_word, marked, marked_nodes, present_in}
use Rattle.css_cascade.proofs.Words.{by_class, by_id, by_tag}

-- ---- what is marked

abbrev IsMarked : List Bool → ℕ → Type 0
IsMarked present at = get_or present at true ≡ true

set_keeps : (present : List Bool) (at other : ℕ) → IsMarked present other → IsMarked (set present at true) other
set_keeps [] at other h = h
set_keeps (b ∷ present) zero zero h = refl
set_keeps (b ∷ present) zero (suc other) h = h
set_keeps (b ∷ present) (suc at) zero h = h
set_keeps (b ∷ present) (suc at) (suc other) h = set_keeps present at other h

set_has : (present : List Bool) (at : ℕ) → IsMarked (set present at true) at
set_has [] at = refl
set_has (b ∷ present) zero = refl
set_has (b ∷ present) (suc at) = set_has present at

marked_keeps : (present : List Bool) (all : List ℕ) (at : ℕ) → IsMarked present at → IsMarked (marked present all) at
marked_keeps present [] at h = h
marked_keeps present (one ∷ all) at h = marked_keeps (set present one true) all at (set_keeps present one at h)

marked_has : (present : List Bool) (all : List ℕ) (at : ℕ) → Contains all at → IsMarked (marked present all) at
marked_has present [] at (k, l, e) = absurd (omega (arith, l))
marked_has present (one ∷ all) at (zero, l, e) = subst (IsMarked (marked (set present one true) all)) e (marked_keeps (set present one true) all one (set_has present one))
marked_has present (one ∷ all) at (suc k, l, e) = marked_has (set present one true) all at (k, omega (arith, l), e)

nodes_keep : (present : List Bool) (nodes : List Node) (at : ℕ) → IsMarked present at → IsMarked (marked_nodes present nodes) at
nodes_keep present [] at h = h
nodes_keep present (n ∷ nodes) at h = nodes_keep (marked present (body_buckets n.body)) nodes at (marked_keeps present (body_buckets n.body) at h)

nodes_have : (present : List Bool) (nodes : List Node) (i : ℕ) (n : Node) (at : ℕ) → slice_get nodes i ≡ Some n → Contains (body_buckets n.body) at → IsMarked (marked_nodes present nodes) at
nodes_have present [] zero n at is h = absurd (cc)
nodes_have present [] (suc i) n at is h = absurd (cc)
nodes_have present (m ∷ nodes) zero n at is h =
    let same : n ≡ m = cc in
    nodes_keep (marked present (body_buckets m.body)) nodes at (marked_has present (body_buckets m.body) at (subst (λ x. Contains (body_buckets x.body) at) same h))
nodes_have present (m ∷ nodes) (suc i) n at is h = nodes_have (marked present (body_buckets m.body)) nodes i n at is h

element_has : (nodes : List Node) (n : ℕ) (e : Element) (at : ℕ) → IsElementAt nodes n e → Contains (element_buckets e) at → IsMarked (present_in nodes) at
element_has nodes n e at is h = nodes_have (replicate 8191 false) nodes n (record { parent = is.0; body = of_body.Element e }) at is.1 h

-- ---- what matches has words of the page

present_word : (nodes : List Node) (n : ℕ) (e : Element) (word : List ℕ) → IsElementAt nodes n e → Contains (element_buckets e) (bucket_of word) → not (is_present (present_in nodes) word) ≡ false
present_word nodes n e word is h = ap not (element_has nodes n e (bucket_of word) is h)

tag_present : (nodes : List Node) (n : ℕ) (e : Element) (tag : Option (List ℕ)) → IsElementAt nodes n e → HasTag e tag → lacks_tag (present_in nodes) tag ≡ false
tag_present nodes n e None is h = refl
tag_present nodes n e (Some tag) is h = present_word nodes n e tag is (by_tag e (Some tag) tag refl h)

test_present : (nodes : List Node) (n : ℕ) (e : Element) (t : Test) → IsElementAt nodes n e → Passes nodes n e t → lacks_test (present_in nodes) t ≡ false
test_present nodes n e (Id word) is h = present_word nodes n e word is (by_id e word h)
test_present nodes n e (Class word) is h = present_word nodes n e word is (by_class e word h)
test_present nodes n e (Has name) is h = refl
test_present nodes n e (Equals name value) is h = refl
test_present nodes n e (Word name word) is h = refl
test_present nodes n e (Dash name value) is h = refl
test_present nodes n e FirstChild is h = refl
test_present nodes n e Link is h = refl
test_present nodes n e Never is h = refl

tests_present : (nodes : List Node) (n : ℕ) (e : Element) (tests : List Test) → IsElementAt nodes n e → AllByRecursion (Passes nodes n e) tests → list_any (lacks_test (present_in nodes)) tests ≡ false
tests_present nodes n e [] is h = refl
tests_present nodes n e (t ∷ tests) is h = or_from _ _ (test_present nodes n e t is h.0) (tests_present nodes n e tests is h.1)

compound_present : (nodes : List Node) (c : Compound) (n : ℕ) → MatchesCompound nodes c n → lacks_word (present_in nodes) c ≡ false
compound_present nodes c n m = or_from _ _ (tag_present nodes n m.element c.tag m.is_element m.tag) (tests_present nodes n m.element c.tests m.is_element m.tests)

parts_present : (nodes : List Node) (ps : List (Join × Compound)) (n : ℕ) → MatchesParts nodes ps n → lacks_some (present_in nodes) ps ≡ false
parts_present nodes [] n m = refl
parts_present nodes ((First, c) ∷ ps) n m = or_from _ _ (compound_present nodes c n m) refl
parts_present nodes ((Child, c) ∷ ps) n m = or_from _ _ (compound_present nodes c n m.0) (parts_present nodes ps m.1.0 m.1.2)
parts_present nodes ((Descendant, c) ∷ ps) n m = or_from _ _ (compound_present nodes c n m.0) (parts_present nodes ps m.1.0 m.1.2)
parts_present nodes ((Next, c) ∷ ps) n m = or_from _ _ (compound_present nodes c n m.0) (parts_present nodes ps m.1.0 m.1.2)

pub lacks_all : (nodes : List Node) (present : List Bool) (parts : List (Join × Compound)) → present ≡ present_in nodes → lacks_some present (reverse parts) ≡ true → (n : ℕ) → Match parts nodes n → ⊥
lacks_all nodes present parts is lacks n m =
    let no : lacks_some present (reverse parts) ≡ false = ap (λ p. lacks_some p (reverse parts)) is ∙ parts_present nodes (reverse parts) n m in
    cc
