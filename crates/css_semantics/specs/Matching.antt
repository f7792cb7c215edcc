-- Which elements of a page a selector matches (CSS 2.1, chapter 5).
use Rattle.std.specs.Prelude.{◌≡◌, ℕ, ◌<◌, true, false, List, [], ◌∷◌, ◌++◌, reverse, slice_get, Option, Some, None, ◌⊎◌, codes}
use Rattle.std.specs.List.{AllByRecursion}
use Rattle.viz_base.specs.declared.nodes.Attr.{Attr}
use Rattle.viz_base.specs.declared.nodes.Body.TheVariants as of_body
use Rattle.viz_base.specs.declared.nodes.Element.{Element}
use Rattle.viz_base.specs.declared.nodes.Node.{Node}
use Rattle.viz_base.specs.declared.selectors.Compound.{Compound}
use Rattle.viz_base.specs.declared.selectors.Join.{Join}
use Rattle.viz_base.specs.declared.selectors.Join.TheVariants.{First, Descendant, Child, Next}
use Rattle.viz_base.specs.declared.selectors.Test.{Test}
use Rattle.viz_base.specs.declared.selectors.Test.TheVariants.{Id, Class, Has, Equals, Word, Dash, FirstChild, Link, Never}
use Rattle.css_semantics.specs.Names.{same_name}
use Rattle.css_semantics.specs.TokensLetters.{is_space}

-- ---- the tree

-- the node at this place is this element
abbrev pub IsElementAt : List Node → ℕ → Element → Type 0
IsElementAt nodes n e = (parent : Option ℕ)
    × (slice_get nodes n ≡ Some (record { parent = parent; body = of_body.Element e }))

-- a node's parent
abbrev pub IsParent : List Node → ℕ → ℕ → Type 0
IsParent nodes p n = (node : Node) × (slice_get nodes n ≡ Some node) × (node.parent ≡ Some p)

-- an element in which a node lies: its parent, or one in which that lies
pub data IsAncestor (nodes : List Node) : ℕ → ℕ → Type 0 where
  parent : {p n : ℕ} → IsParent nodes p n → IsAncestor nodes p n
  further : {top p n : ℕ} → IsParent nodes p n → IsAncestor nodes top p → IsAncestor nodes top n

-- an element that is a child of p
abbrev pub IsChildElement : List Node → ℕ → ℕ → Type 0
IsChildElement nodes p n = IsParent nodes p n × ((e : Element) × IsElementAt nodes n e)

-- The element directly before a node among the elements with the same
-- parent; texts between them don't count (CSS 2.1, 5.7).
pub record IsPrevious (nodes : List Node) (s n : ℕ) : Type 0 where
  pub parent : ℕ
  pub of_node : IsParent nodes parent n
  pub sibling : IsChildElement nodes parent s
  pub before : s < n
  pub direct : (m : ℕ) → s < m → m < n → IsChildElement nodes parent m → ⊥

-- A node with a parent of which no element before it is a child. So the root is no first child (CSS 2.1, 5.11.1).
pub record IsFirstChild (nodes : List Node) (n : ℕ) : Type 0 where
  pub parent : ℕ
  pub of_node : IsParent nodes parent n
  pub first : (m : ℕ) → m < n → IsChildElement nodes parent m → ⊥

-- ---- attributes

-- the element has an attribute of this name whose value passes
pub record HasAttribute (e : Element) (name : List ℕ) (Passes : List ℕ → Type 0) : Type 0 where
  pub attribute : Attr
  pub before : List Attr
  pub after : List Attr
  pub among : e.attrs ≡ before ++ attribute ∷ after
  pub named : same_name name attribute.name ≡ true
  pub passes : Passes attribute.value

-- nothing, or what ends with white space
abbrev pub EndsWhite : List ℕ → Type 0
EndsWhite text = (text ≡ []) ⊎ ((front : List ℕ) × (c : ℕ) × (text ≡ front ++ c ∷ []) × (is_space c ≡ true))

-- nothing, or what begins with white space
abbrev pub BeginsWhite : List ℕ → Type 0
BeginsWhite text = (text ≡ []) ⊎ ((c : ℕ) × (rest : List ℕ) × (text ≡ c ∷ rest) × (is_space c ≡ true))

-- A word of a text between white space or the text's ends (CSS 2.1, 5.8.1
-- and 5.8.3). It isn't nothing, and has no white space in it.
pub record IsWordOf (text word : List ℕ) : Type 0 where
  pub before : List ℕ
  pub after : List ℕ
  pub whole : text ≡ before ++ (word ++ after)
  pub some : word ≡ [] → ⊥
  pub solid : AllByRecursion (λ c. is_space c ≡ false) word
  pub start : EndsWhite before
  pub end : BeginsWhite after

-- the value itself, or what begins with it and a hyphen (CSS 2.1, 5.8.1)
abbrev pub IsDashed : List ℕ → List ℕ → Type 0
IsDashed text value = (text ≡ value) ⊎ ((rest : List ℕ) × (text ≡ value ++ 45 ∷ rest))

-- ---- matching

-- what a test asks of an element
abbrev pub Passes : List Node → ℕ → Element → Test → Type 0
Passes nodes n e (Id value) = HasAttribute e (codes "id") (λ v. v ≡ value)
Passes nodes n e (Class word) = HasAttribute e (codes "class") (λ v. IsWordOf v word)
Passes nodes n e (Has name) = HasAttribute e name (λ v. Unit {0})
Passes nodes n e (Equals name value) = HasAttribute e name (λ v. v ≡ value)
Passes nodes n e (Word name word) = HasAttribute e name (λ v. IsWordOf v word)
Passes nodes n e (Dash name value) = HasAttribute e name (λ v. IsDashed v value)
Passes nodes n e FirstChild = IsFirstChild nodes n
Passes nodes n e Link = (same_name (codes "a") e.tag ≡ true) × HasAttribute e (codes "href") (λ v. Unit {0})
Passes nodes n e Never = ⊥

-- the element has the tag that is asked for, if one is
abbrev pub HasTag : Element → Option (List ℕ) → Type 0
HasTag e None = Unit {0}
HasTag e (Some tag) = same_name tag e.tag ≡ true

-- a simple selector matches a node: an element with the tag that passes each test (CSS 2.1, 5.2)
pub record MatchesCompound (nodes : List Node) (c : Compound) (n : ℕ) : Type 0 where
  pub element : Element
  pub is_element : IsElementAt nodes n element
  pub tag : HasTag element c.tag
  pub tests : AllByRecursion (Passes nodes n element) c.tests

-- Simple selectors, the last of the selector first, match a node: the first of them does, and the others match, as
-- its join says, the parent, some element around the node, or the element directly before it (CSS 2.1, 5.5 to 5.7).
abbrev pub MatchesParts : List Node → List (Join × Compound) → ℕ → Type 0
MatchesParts nodes [] n = Unit {0}
MatchesParts nodes ((First, c) ∷ ps) n = MatchesCompound nodes c n
MatchesParts nodes ((Child, c) ∷ ps) n = MatchesCompound nodes c n
    × ((p : ℕ) × IsParent nodes p n × MatchesParts nodes ps p)
MatchesParts nodes ((Descendant, c) ∷ ps) n = MatchesCompound nodes c n
    × ((top : ℕ) × IsAncestor nodes top n × MatchesParts nodes ps top)
MatchesParts nodes ((Next, c) ∷ ps) n = MatchesCompound nodes c n
    × ((s : ℕ) × IsPrevious nodes s n × MatchesParts nodes ps s)

-- a selector matches a node
abbrev pub Match : List (Join × Compound) → List Node → ℕ → Type 0
Match parts nodes n = MatchesParts nodes (reverse parts) n
