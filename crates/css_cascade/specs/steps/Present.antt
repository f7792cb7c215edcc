-- Which words are on a page, by their buckets, and which selectors ask for a word that isn't.
use Rattle.std.specs.Prelude.{ℕ, Bool, true, false, not, ◌&&◌, ◌||◌, List, [], ◌∷◌, get_or, set, replicate, Option, Some, None}
use Rattle.std.specs.List.{list_any}
use Rattle.viz_base.specs.declared.nodes.Body.{Body}
use Rattle.viz_base.specs.declared.nodes.Body.TheVariants as of_body
use Rattle.viz_base.specs.declared.nodes.Node.{Node}
use Rattle.viz_base.specs.declared.selectors.Compound.{Compound}
use Rattle.viz_base.specs.declared.selectors.Join.{Join}
use Rattle.viz_base.specs.declared.selectors.Test.{Test}
use Rattle.viz_base.specs.declared.selectors.Test.TheVariants.{Id, Class, Has, Equals, Word, Dash, FirstChild, Link, Never}
use Rattle.viz_base.specs.Selectors.{is_first}
use Rattle.css_cascade.specs.steps.Buckets.{bucket_of, element_buckets}

-- ---- the words of a page

-- some buckets more are marked
abbrev pub marked : List Bool → List ℕ → List Bool
marked present [] = present
marked present (at ∷ all) = marked (set present at true) all

abbrev pub body_buckets : Body → List ℕ
body_buckets (of_body.Element e) = element_buckets e
body_buckets (of_body.Chars text) = []

abbrev pub marked_nodes : List Bool → List Node → List Bool
marked_nodes present [] = present
marked_nodes present (n ∷ nodes) = marked_nodes (marked present (body_buckets n.body)) nodes

-- for each bucket whether a tag, a class or an id of the page has it
abbrev pub present_in : List Node → List Bool
present_in nodes = marked_nodes (replicate 8191 false) nodes

-- ---- what asks for other words

abbrev pub is_present : List Bool → List ℕ → Bool
is_present present word = get_or present (bucket_of word) true

abbrev pub lacks_test : List Bool → Test → Bool
lacks_test present (Id word) = not (is_present present word)
lacks_test present (Class word) = not (is_present present word)
lacks_test present (Has name) = false
lacks_test present (Equals name value) = false
lacks_test present (Word name word) = false
lacks_test present (Dash name value) = false
lacks_test present FirstChild = false
lacks_test present Link = false
lacks_test present Never = false

abbrev pub lacks_tag : List Bool → Option (List ℕ) → Bool
lacks_tag present None = false
lacks_tag present (Some tag) = not (is_present present tag)

-- a simple selector asks for a tag, a class or an id that no element has
abbrev pub lacks_word : List Bool → Compound → Bool
lacks_word present c = lacks_tag present c.tag || list_any (lacks_test present) c.tests

abbrev pub lacks_behind : List Bool → Bool → Join → Compound → Bool
lacks_behind present before join c = lacks_word present c || (not (is_first join) && before)

-- one of these simple selectors does, the last first, up to one joined as the first
abbrev pub lacks_some : List Bool → List (Join × Compound) → Bool
lacks_some present [] = false
lacks_some present ((join, c) ∷ ps) = lacks_behind present (lacks_some present ps) join c
