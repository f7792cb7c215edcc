-- How many characters are generated on a page, and where they are too many: our own limit.
use Rattle.std.specs.Prelude.{ℕ, suc, ◌+◌, ◌<◌, ◌≤◌, List, [], ◌∷◌, length, take, Option, Some, None}
use Rattle.std.specs.Str.{chars}
use Rattle.viz_base.specs.declared.limits.TheConstants.{MOST_CHARACTERS}
use Rattle.viz_base.specs.declared.nodes.Body.{Body}
use Rattle.viz_base.specs.declared.nodes.Node.{Node}
use Rattle.page_pseudo.specs.Generated.{generated}
use Rattle.page_pseudo.specs.Grown.{Written, winners_at}

abbrev pub count : Option (List ℕ) → ℕ
count None = 0
count (Some text) = length (chars text)

-- those before and after the content of a node
abbrev pub made_at : Written → ℕ → Body → ℕ
made_at w n body = count (generated body (winners_at w.before n)) + count (generated body (winners_at w.after n))

abbrev pub made_from : Written → ℕ → List Node → ℕ
made_from w n [] = 0
made_from w n (node ∷ nodes) = made_at w n node.body + made_from w (suc n) nodes

-- those of the nodes before a number, in document order of the page as it is written
abbrev pub made_before : Written → ℕ → ℕ
made_before w n = made_from w 0 (take n w.nodes)

abbrev pub IsWithin : Written → Type 0
IsWithin w = made_before w (length w.nodes) ≤ MOST_CHARACTERS

-- the node with which they become too many
pub record IsTooMuch (w : Written) (n : ℕ) : Type 0 where
  pub is_node : n < length w.nodes
  pub enough : made_before w n ≤ MOST_CHARACTERS
  pub too_much : MOST_CHARACTERS < made_before w (suc n)
