-- Which selectors match a node, and what wins by them.
use Rattle.std.specs.Prelude.{◌≡◌, ℕ, ◌==◌, ◌⊎◌, List, [], ◌∷◌, map, slice_get, get_or, Option, Some, None, if◌then◌else◌, flat_map}
use Rattle.std.specs.List.{Contains}
use Rattle.viz_base.specs.declared.nodes.Element.{Element}
use Rattle.viz_base.specs.declared.nodes.Node.{Node}
use Rattle.css_semantics.specs.declared.claims.Claim.{Claim}
use Rattle.css_semantics.specs.declared.claims.Ruleset.{Ruleset}
use Rattle.css_semantics.specs.CascadeOrder.{Applied, applied, later_of, spec_cmp}
use Rattle.css_semantics.specs.Matching.{Match}
use Rattle.css_cascade.specs.declared.trimming.Trimmed.{Trimmed}
use Rattle.css_cascade.specs.declared.trying.Found.{Found}
use Rattle.css_cascade.specs.declared.buckets.Buckets.{Buckets}
use Rattle.css_cascade.specs.steps.Buckets.{AllStand, Numbered, element_buckets, numbered, numbered_from}
use Rattle.css_cascade.specs.steps.Seen.{kept_all}

abbrev pub found : Numbered → Found
found r = record { rules = r.0; spec = r.1.spec }

-- those of these selectors that match a node
pub data Matched (nodes : List Node) (n : ℕ) : List Numbered → List Found → Type 0 where
  none : Matched nodes n [] []
  matches : {r : Numbered} {rest : List Numbered} {all : List Found} → Match r.1.selector.parts nodes n
      → Matched nodes n rest all → Matched nodes n (r ∷ rest) (found r ∷ all)
  passes_by : {r : Numbered} {rest : List Numbered} {all : List Found} → (Match r.1.selector.parts nodes n → ⊥)
      → Matched nodes n rest all → Matched nodes n (r ∷ rest) all

-- of two selectors of a ruleset the more specific
abbrev pub joined : Found → Found → Found
joined f g = record { rules = f.rules; spec = later_of spec_cmp f.spec g.spec }

-- of each ruleset the most specific, where those of a ruleset stand together, behind one of which more may come
abbrev pub strongest_behind : Option Found → List Found → List Found
strongest_behind None [] = []
strongest_behind (Some f) [] = f ∷ []
strongest_behind None (g ∷ all) = strongest_behind (Some g) all
strongest_behind (Some f) (g ∷ all) = if f.rules == g.rules then strongest_behind (Some (joined f g)) all else f
    ∷ strongest_behind (Some g) all

abbrev pub claims_of_some : Option Trimmed → List Claim
claims_of_some None = []
claims_of_some (Some t) = map (λ c. c.now) t.claims.items

abbrev pub claims_at : List Trimmed → ℕ → List Claim
claims_at rulesets i = claims_of_some (slice_get rulesets i)

-- what a ruleset says by its claims that can win, with the specificity by which it applies
abbrev pub said : List Trimmed → Found → List Applied
said rulesets f = map (applied f.spec) (claims_at rulesets f.rules)

-- the winners behind what rulesets say
abbrev pub kept_found : List Trimmed → List (Option Applied) → List Found → List (Option Applied)
kept_found rulesets best all = kept_all best (flat_map (said rulesets) all)

-- what is won behind these, of which the first may belong to the ruleset of one that was found
abbrev pub Behind : List Trimmed → List (Option Applied) → Option Found → List Found → List (Option Applied)
Behind rulesets best going all = kept_found rulesets best (strongest_behind going all)

-- One more selector is tried: whatever is found behind it, the winners are those behind what was found before.
abbrev pub IsTried : List Node → ℕ → Numbered → (before after : List Found → List (Option Applied)) → Type 0
IsTried nodes n r before after =
    (rest : List Numbered) (behind : List Found) → Matched nodes n rest behind → (all : List Found)
    × Matched nodes n (r ∷ rest) all × (after behind ≡ before all)

-- The winners behind what is said by those of these selectors that match.
abbrev pub AreTried : List Node → ℕ → List Trimmed → List Numbered → List (Option Applied) → List (Option Applied)
    → Type 0
AreTried nodes n rulesets selectors before after =
    (all : List Found) × Matched nodes n selectors all × (after ≡ Behind rulesets before None all)

-- Some selectors stand for all on a page: at each node those of them that match give what all that match give.
abbrev pub StandFor : List Node → List Numbered → List Numbered → Type 0
StandFor nodes some all =
    (n : ℕ) (found : List Found) → Matched nodes n some found → (whole : List Found) × Matched nodes n all whole
    × (strongest_behind None found ≡ strongest_behind None whole)

-- selectors that stand for those of these rulesets on a page, each in a bucket
abbrev pub AreBuckets : List Node → List Ruleset → Buckets → Type 0
AreBuckets nodes rulesets b = StandFor nodes (map numbered b.candidates.items) (numbered_from 0 rulesets) × AllStand b

-- ---- the numbers of the selectors that are tried

-- The selector of this number may match the element: it asks for no word,
-- or stands in the bucket of one of the element's.
abbrev pub MayMatch : Buckets → Element → ℕ → Type 0
MayMatch b e at = Contains b.others at
    ⊎ ((word : ℕ) × Contains (element_buckets e) word × Contains (get_or b.named.items word []) at)

-- each of these selectors that matches a node is among those of these numbers
abbrev pub AreAll : List Node → ℕ → List Numbered → List ℕ → Type 0
AreAll nodes n selectors numbers = (at : ℕ) (r : Numbered) → slice_get selectors at ≡ Some r
    → Match r.1.selector.parts nodes n → Contains numbers at
