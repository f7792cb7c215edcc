-- In which bucket a selector stands, and in which buckets those selectors stand that may match an element.
use Rattle.std.specs.Prelude.{◌≡◌, ℕ, ◌+◌, ◌*◌, ◌%◌, suc, List, [], ◌∷◌, ◌++◌, ◌⊎◌, map, get_or, slice_get, Some, if◌then◌else◌, flat_map, codes}
use Rattle.std.specs.List.{Contains}
use Rattle.std.specs.Char.{to_ascii_lowercase}
use Rattle.viz_base.specs.declared.nodes.Attr.{Attr}
use Rattle.viz_base.specs.declared.nodes.Element.{Element}
use Rattle.viz_base.specs.declared.selectors.Compound.{Compound}
use Rattle.viz_base.specs.declared.selectors.Join.{Join}
use Rattle.viz_base.specs.declared.selectors.Test.TheVariants.{Id, Class}
use Rattle.css_semantics.specs.declared.claims.Ranked.{Ranked}
use Rattle.css_semantics.specs.declared.claims.Ruleset.{Ruleset}
use Rattle.css_semantics.specs.Names.{same_name}
use Rattle.css_semantics.specs.TokensLetters.{is_space}
use Rattle.css_cascade.specs.declared.buckets.Buckets.{Buckets}
use Rattle.css_cascade.specs.declared.buckets.Candidate.{Candidate}

-- ---- buckets of words

abbrev pub bucket_behind : ℕ → ℕ → ℕ
bucket_behind at c = (at * 131 + to_ascii_lowercase c) % 8191

-- the bucket of a word of which the part before has come to this one
abbrev pub bucket_from : ℕ → List ℕ → ℕ
bucket_from at [] = at
bucket_from at (c ∷ cs) = bucket_from (bucket_behind at c) cs

-- A word has one bucket in any ASCII case; other words may have the same.
abbrev pub bucket_of : List ℕ → ℕ
bucket_of word = bucket_from 0 word

-- the buckets of the pieces of a text between white space
abbrev pub buckets_from : ℕ → List ℕ → List ℕ
buckets_from at [] = at ∷ []
buckets_from at (c ∷ cs) = if is_space c then at ∷ buckets_from 0 cs else buckets_from (bucket_behind at c) cs

abbrev pub class_buckets : Attr → List ℕ
class_buckets a = if same_name (codes "class") a.name then buckets_from 0 a.value else []

abbrev pub id_buckets : Attr → List ℕ
id_buckets a = if same_name (codes "id") a.name then bucket_of a.value ∷ [] else []

abbrev pub attribute_buckets : Attr → List ℕ
attribute_buckets a = class_buckets a ++ id_buckets a

-- the buckets of an element's tag, classes and ids
abbrev pub element_buckets : Element → List ℕ
element_buckets e = bucket_of e.tag ∷ flat_map attribute_buckets e.attrs

-- ---- the word of a selector

-- an id, a class or the tag that a simple selector asks for
abbrev pub IsWordIn : Compound → List ℕ → Type 0
IsWordIn c word = Contains c.tests (Id word) ⊎ (Contains c.tests (Class word) ⊎ (c.tag ≡ Some word))

-- the last simple selector of a selector
abbrev pub IsLast : List (Join × Compound) → Compound → Type 0
IsLast parts c = (before : List (Join × Compound)) × (join : Join) × (parts ≡ before ++ (join, c) ∷ [])

-- an id, a class or the tag that a selector asks of the element that it matches
abbrev pub IsWordOfLast : List (Join × Compound) → List ℕ → Type 0
IsWordOfLast parts word = (c : Compound) × IsLast parts c × IsWordIn c word

-- ---- selectors in buckets

-- a selector of the ruleset of this number
abbrev pub Numbered : Type 0
Numbered = ℕ × Ranked

abbrev pub numbered : Candidate → Numbered
numbered c = (c.rules, c.ranked.now)

abbrev pub numbered_from : ℕ → List Ruleset → List Numbered
numbered_from i [] = []
numbered_from i (one ∷ rulesets) = map (λ r. (i, r)) one.group ++ numbered_from (suc i) rulesets

-- the last of the selectors is of this ruleset, and the selector repeats it
abbrev pub RepeatsLast : List Numbered → ℕ → Ranked → Type 0
RepeatsLast all i r =
    (before : List Numbered) × (last : Ranked) × (all ≡ before ++ (i, last) ∷ [])
    × (last.selector.parts ≡ r.selector.parts) × (last.spec ≡ r.spec)

-- The candidate of this number stands in the bucket of a word that it asks for, or in the one for all elements.
abbrev pub Stands : Buckets → ℕ → Ranked → Type 0
Stands b at r =
    Contains b.others at
    ⊎ ((word : List ℕ) × IsWordOfLast r.selector.parts word
    × Contains (get_or b.named.items (bucket_of word) []) at)

abbrev pub AllStand : Buckets → Type 0
AllStand b = (at : ℕ) (r : Numbered) → slice_get (map numbered b.candidates.items) at ≡ Some r → Stands b at r.1
