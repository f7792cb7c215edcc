-- Tests of attributes, from what they compute to what they ask for.
use Rattle.std.proofs.Common.{◌≡◌, ℕ, Bool, true, false, ◌&&◌, ◌||◌, List, [], ◌∷◌, ◌++◌, Option, Some, refl, sym, ◌∙◌, ap, subst}
use Rattle.std.specs.Prelude.{codes}
use Rattle.std.specs.Bool.{Decides}
use Rattle.std.proofs.lemmas.Bool.Decides.{Decides-and, Decides-at}
use Rattle.std.proofs.lemmas.Slice.Eq.{bytes_eq-Decides}
use Rattle.std.specs.List.{list_any}
use Rattle.std.specs.Str.{bytes_eq}
use Rattle.std.proofs.Math.Bool.{or-true}
use Rattle.viz_base.specs.declared.nodes.Attr.{Attr}
use Rattle.viz_base.specs.declared.nodes.Element.{Element}
use Rattle.viz_base.specs.declared.nodes.Node.{Node}
use Rattle.viz_base.specs.declared.selectors.Test.{Test}
use Rattle.viz_base.specs.declared.selectors.Test.TheVariants.{Id, Class, Has, Equals, Word, Dash, FirstChild, Link, Never}
use Rattle.css_semantics.specs.Names.{same_name}
use Rattle.css_semantics.specs.Matching.{HasAttribute, HasTag, IsWordOf, IsDashed, Passes}
use Rattle.css_select.specs.steps.Attributes.{attribute_passes, has_word, is_dashed}
use Rattle.css_select.proofs.Words.{word_of, of_word, dashed_of, of_dashed}

pub same_names : (a b : List ℕ) → Decides (same_name a b) (same_name a b ≡ true)
same_names a b = ((λ h. h), (λ h. h))

-- ---- some attribute

record AnyPasses (p : Attr → Bool) (xs : List Attr) : Type 0 where
  before : List Attr
  one : Attr
  after : List Attr
  whole : xs ≡ before ++ one ∷ after
  passes : p one ≡ true

any_by : (p : Attr → Bool) (x : Attr) (xs : List Attr) (b : Bool) → p x ≡ b → (list_any p xs ≡ true → AnyPasses p xs) → (b || list_any p xs) ≡ true → AnyPasses p (x ∷ xs)
any_by p x xs true is h e = record { before = []; one = x; after = xs; whole = refl; passes = is }
any_by p x xs false is h e = let k = h e in record { before = x ∷ k.before; one = k.one; after = k.after; whole = ap (λ y. x ∷ y) k.whole; passes = k.passes }

any_passes : (p : Attr → Bool) (xs : List Attr) → list_any p xs ≡ true → AnyPasses p xs
any_passes p [] e = absurd (cc)
any_passes p (x ∷ xs) e = any_by p x xs (p x) refl (λ f. any_passes p xs f) e

passes_any : (p : Attr → Bool) (before : List Attr) (one : Attr) (after : List Attr) → p one ≡ true → list_any p (before ++ one ∷ after) ≡ true
passes_any p [] one after e = ap (λ b. b || list_any p after) e
passes_any p (x ∷ before) one after e = ap (λ b. p x || b) (passes_any p before one after e) ∙ or-true (p x)

attribute_is : (e : Element) (test : Test) (name : List ℕ) (P : List ℕ → Type 0) → ((a : Attr) → Decides (attribute_passes test a) ((same_name name a.name ≡ true) × P a.value)) → Decides (list_any (attribute_passes test) e.attrs) (HasAttribute e name P)
attribute_is e test name P each = (
  (λ h. let k = any_passes (attribute_passes test) e.attrs h in let m = (each k.one).0 k.passes in record { attribute = k.one; before = k.before; after = k.after; among = k.whole; named = m.0; passes = m.1 }),
  (λ h. ap (list_any (attribute_passes test)) h.among ∙ passes_any (attribute_passes test) h.before h.attribute h.after ((each h.attribute).1 (h.named, h.passes))),
)

words_are : (text word : List ℕ) → Decides (has_word text word) (IsWordOf text word)
words_are text word = (word_of text word, of_word text word)

dashes_are : (text value : List ℕ) → Decides (is_dashed text value) (IsDashed text value)
dashes_are text value = (dashed_of text value, of_dashed text value)

alone : (r : Bool) (P : Type 0) → Decides r P → Decides r (P × Unit {0})
alone r P h = ((λ e. (h.0 e, tt)), (λ p. h.1 p.0))

pub id_is : (e : Element) (value : List ℕ) → Decides (list_any (attribute_passes (Id value)) e.attrs) (HasAttribute e (codes "id") (λ v. v ≡ value))
id_is e value = attribute_is e (Id value) (codes "id") (λ v. v ≡ value) (λ a. Decides-and (same_name (codes "id") a.name) (bytes_eq a.value value) (same_names (codes "id") a.name) (bytes_eq-Decides a.value value))

pub class_is : (e : Element) (word : List ℕ) → Decides (list_any (attribute_passes (Class word)) e.attrs) (HasAttribute e (codes "class") (λ v. IsWordOf v word))
class_is e word = attribute_is e (Class word) (codes "class") (λ v. IsWordOf v word) (λ a. Decides-and (same_name (codes "class") a.name) (has_word a.value word) (same_names (codes "class") a.name) (words_are a.value word))

pub has_is : (e : Element) (name : List ℕ) → Decides (list_any (attribute_passes (Has name)) e.attrs) (HasAttribute e name (λ v. Unit {0}))
has_is e name = attribute_is e (Has name) name (λ v. Unit {0}) (λ a. alone (same_name name a.name) (same_name name a.name ≡ true) (same_names name a.name))

pub equals_is : (e : Element) (name value : List ℕ) → Decides (list_any (attribute_passes (Equals name value)) e.attrs) (HasAttribute e name (λ v. v ≡ value))
equals_is e name value = attribute_is e (Equals name value) name (λ v. v ≡ value) (λ a. Decides-and (same_name name a.name) (bytes_eq a.value value) (same_names name a.name) (bytes_eq-Decides a.value value))

pub word_is : (e : Element) (name word : List ℕ) → Decides (list_any (attribute_passes (Word name word)) e.attrs) (HasAttribute e name (λ v. IsWordOf v word))
word_is e name word = attribute_is e (Word name word) name (λ v. IsWordOf v word) (λ a. Decides-and (same_name name a.name) (has_word a.value word) (same_names name a.name) (words_are a.value word))

pub dash_is : (e : Element) (name value : List ℕ) → Decides (list_any (attribute_passes (Dash name value)) e.attrs) (HasAttribute e name (λ v. IsDashed v value))
dash_is e name value = attribute_is e (Dash name value) name (λ v. IsDashed v value) (λ a. Decides-and (same_name name a.name) (is_dashed a.value value) (same_names name a.name) (dashes_are a.value value))

link_is : (e : Element) → Decides (list_any (attribute_passes Link) e.attrs) (HasAttribute e (codes "href") (λ v. Unit {0}))
link_is e = attribute_is e Link (codes "href") (λ v. Unit {0}) (λ a. alone (same_name (codes "href") a.name) (same_name (codes "href") a.name ≡ true) (same_names (codes "href") a.name))

pub link_passes : (e : Element) → Decides (same_name (codes "a") e.tag && list_any (attribute_passes Link) e.attrs) ((same_name (codes "a") e.tag ≡ true) × HasAttribute e (codes "href") (λ v. Unit {0}))
link_passes e = Decides-and (same_name (codes "a") e.tag) (list_any (attribute_passes Link) e.attrs) (same_names (codes "a") e.tag) (link_is e)

none_passes : (xs : List Attr) → list_any (attribute_passes Never) xs ≡ false
none_passes [] = refl
none_passes (x ∷ xs) = none_passes xs

pub never_passes : (e : Element) → Decides (list_any (attribute_passes Never) e.attrs) ⊥
never_passes e = let none = none_passes e.attrs in ((λ h. absurd (cc)), (λ h. absurd h))

-- all tests of attributes but those of links
pub default_passes : (nodes : List Node) (n : ℕ) (e : Element) (test : Test) → (test ≡ FirstChild → ⊥) → (test ≡ Link → ⊥) → Decides (list_any (attribute_passes test) e.attrs) (Passes nodes n e test)
default_passes nodes n e (Id value) f l = id_is e value
default_passes nodes n e (Class word) f l = class_is e word
default_passes nodes n e (Has name) f l = has_is e name
default_passes nodes n e (Equals name value) f l = equals_is e name value
default_passes nodes n e (Word name word) f l = word_is e name word
default_passes nodes n e (Dash name value) f l = dash_is e name value
default_passes nodes n e FirstChild f l = absurd (f refl)
default_passes nodes n e Link f l = absurd (l refl)
default_passes nodes n e Never f l = never_passes e

pub passes_default : (nodes : List Node) (n : ℕ) (e : Element) (test : Test) (r : Bool) → (test ≡ FirstChild → ⊥) → (test ≡ Link → ⊥) → r ≡ list_any (attribute_passes test) e.attrs → Decides r (Passes nodes n e test)
passes_default nodes n e test r f l is = Decides-at r (list_any (attribute_passes test) e.attrs) is (default_passes nodes n e test f l)

-- a link that has the tag, and one that has another
pub passes_link : (nodes : List Node) (n : ℕ) (e : Element) (test : Test) (s r : Bool) (tag : List ℕ) → test ≡ Link → tag ≡ e.tag → s ≡ same_name (codes "a") tag → s ≡ true → r ≡ list_any (attribute_passes test) e.attrs → Decides r (Passes nodes n e test)
passes_link nodes n e test s r tag is same named yes_named found =
    let both : r ≡ (same_name (codes "a") e.tag && list_any (attribute_passes Link) e.attrs) =
    found ∙ ap (λ t. list_any (attribute_passes t) e.attrs) is ∙ ap (λ b. b && list_any (attribute_passes Link) e.attrs) (sym yes_named ∙ named ∙ ap (same_name (codes "a")) same) in
    subst (λ t. Decides r (Passes nodes n e t)) (sym is) (Decides-at r (same_name (codes "a") e.tag && list_any (attribute_passes Link) e.attrs) both (link_passes e))

pub passes_other : (nodes : List Node) (n : ℕ) (e : Element) (test : Test) (s : Bool) (tag : List ℕ) → test ≡ Link → tag ≡ e.tag → s ≡ same_name (codes "a") tag → s ≡ false → Decides s (Passes nodes n e test)
passes_other nodes n e test s tag is same named not_named =
    let both : s ≡ (same_name (codes "a") e.tag && list_any (attribute_passes Link) e.attrs) =
    not_named ∙ ap (λ b. b && list_any (attribute_passes Link) e.attrs) (sym not_named ∙ named ∙ ap (same_name (codes "a")) same) in
    subst (λ t. Decides s (Passes nodes n e t)) (sym is) (Decides-at s (same_name (codes "a") e.tag && list_any (attribute_passes Link) e.attrs) both (link_passes e))

pub tag_is : (e : Element) (asked : Option (List ℕ)) (name given own : List ℕ) (r : Bool) → asked ≡ Some name → given ≡ name → own ≡ e.tag → r ≡ same_name given own → Decides r (HasTag e asked)
tag_is e asked name given own r is same other named =
    subst (λ t. Decides r (HasTag e t)) (sym is) (Decides-at r (same_name name e.tag) (named ∙ ap (λ x. same_name x own) same ∙ ap (same_name name) other) (same_names name e.tag))
