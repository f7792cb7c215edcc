-- Which nodes are well shaped.
use Rattle.std.specs.Prelude.{◌≡◌, ℕ, ◌<◌, ◌==◌, nat_lt, nat_le, ℤ, pos, Bool, true, false, ◌&&◌, ◌||◌, not, length, Some, slice_get}
use Rattle.std.specs.Ordering.{int_eq}
use Rattle.std.specs.Int.Signed.{lt_z}
use Rattle.std.specs.List.{list_all}
use Rattle.std.specs.Cmp.Lexicographic.{pointwise}
use Rattle.viz_base.specs.declared.worlds.Rect.{Rect}
use Rattle.lin_proof.specs.Form.{Form}
use Rattle.cert_text.specs.declared.certificate.Cert.{Cert}
use Rattle.cert_semantics.specs.Paths.{def, first, second, lemma, Path, root, ◌▸◌, is_declared}
use Rattle.cert_semantics.specs.Rectangles.{rectangle, world_count}
use Rattle.cert_semantics.specs.Nodes.{Decision, names, splits, states, is_empty, by_worlds, by_answers, Node, nodes_of}

-- whether a row has a variable
abbrev pub has_variable : Form → Bool
has_variable row = nat_lt 0 (length row.terms)

-- whether a number is from 0 to d less 1
abbrev pub is_remainder : ℤ → ℤ → Bool
is_remainder d n = not (lt_z n (pos 0)) && lt_z n d

-- whether each number of a row is, its constant among them
abbrev pub has_remainders : ℤ → Form → Bool
has_remainders d row = is_remainder d row.k && list_all (λ t. is_remainder d t.1) row.terms

abbrev pub same_row : Form → Form → Bool
same_row f g = int_eq f.k g.k && pointwise (λ t u. t.0 == u.0 && int_eq t.1 u.1) f.terms g.terms

-- whether a def of the same row and number stands on the path
abbrev pub is_named : Form → ℤ → Path → Bool
is_named row d (root form) = false
is_named row d (def f e ▸ outer) = (same_row row f && int_eq d e) || is_named row d outer
is_named row d (first f ▸ outer) = is_named row d outer
is_named row d (second f ▸ outer) = is_named row d outer
is_named row d (lemma f ▸ outer) = is_named row d outer

-- whether a node is well shaped: the rows of defs, splits and lemmas have declared variables alone, and one at least; a
-- def's number is at least 2, its row has numbers from 0 to that number less 1, and the same floor is not named above it;
-- a grid's rectangle has at most 64 worlds
abbrev pub is_shaped : Rect → Path → Decision → Bool
is_shaped range path (names row d) =
    is_declared path row && has_variable row && lt_z (pos 1) d && has_remainders d row && not (is_named row d path)
is_shaped range path (splits row) = is_declared path row && has_variable row
is_shaped range path (states row why) = is_declared path row && has_variable row
is_shaped range path (is_empty why) = true
is_shaped range path by_worlds = nat_le (world_count (rectangle range path)) 64
is_shaped range path (by_answers answers) = true

abbrev pub has_shape : Rect → Node → Bool
has_shape range node = is_shaped range node.path node.decision

-- each node before the one of this number is well shaped
abbrev pub AreShapedBefore : ℕ → Rect → Cert → ℕ → Type 0
AreShapedBefore form range cert n = (k : ℕ) (node : Node) → k < n → slice_get (nodes_of form cert) k ≡ Some node
    → has_shape range node ≡ true

-- the node of this number is the first that is badly shaped
pub record IsFirstFault (form : ℕ) (range : Rect) (cert : Cert) (n : ℕ) : Type 0 where
  pub node : Node
  pub is_node : slice_get (nodes_of form cert) n ≡ Some node
  pub bad : has_shape range node ≡ false
  pub before : AreShapedBefore form range cert n
