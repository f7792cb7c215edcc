-- Each world lies on the path of exactly one void, grid or leaf.
use Rattle.std.proofs.Common.{◌≡◌, ℕ, zero, suc, ℤ, pos, negsuc, ◌≤ℤ◌, ◌<ℤ◌, false, List, [], ◌∷◌, ◌++◌, Some, refl, sym, ap, subst, arith, inl, inr, IsTrue}
use Rattle.std.specs.Prelude.{◌⊎◌, slice_get}
use Rattle.std.specs.List.{AllByRecursion}
use Rattle.std.proofs.lemmas.Int.{ints}
use Rattle.std.proofs.lemmas.Option.{same_Some}
use Rattle.viz_base.specs.declared.worlds.World.{World}
use Rattle.viz_base.proofs.ListLemmas.{all_append}
use Rattle.lin_proof.specs.Form.{Form, value}
use Rattle.lin_proof.specs.declared.derivation.Derivation.{Derivation}
use Rattle.cert_text.specs.declared.certificate.Cert.{Cert}
use Rattle.cert_text.specs.declared.certificate.CertNode.{CertNode}
use Rattle.cert_semantics.specs.Paths.{def, first, second, lemma, Path, root, ◌▸◌, values_along, IsOn}
use Rattle.cert_semantics.specs.Nodes.{Decision, names, splits, states, is_empty, by_worlds, by_answers, is_end, Node, nodes_from, nodes_of}
use Rattle.cert_semantics.specs.Laws.{IsEndOf}
use Rattle.cert_semantics.proofs.Trees.{def_node, split_node, lemma_node, by_nodes, nodes-def, nodes-split, nodes-lemma, nodes-void, nodes-grid, nodes-leaf}

-- the node is an end on whose path the world lies
pub record TakesIn (world : World) (node : Node) : Type 0 where
  pub ends : IsTrue (is_end node.decision)
  pub on_path : IsOn node.path world

abbrev NoneOf : World → List Node → Type 0
NoneOf world = AllByRecursion (λ (node : Node). TakesIn world node → ⊥)

abbrev OneOf : World → List Node → Type 0
OneOf world [] = ⊥
OneOf world (x ∷ xs) = (TakesIn world x × NoneOf world xs) ⊎ ((TakesIn world x → ⊥) × OneOf world xs)

one_first : (world : World) (xs ys : List Node) → OneOf world xs → NoneOf world ys → OneOf world (xs ++ ys)
one_first world [] ys h k = absurd h
one_first world (x ∷ xs) ys (inl h) k = inl (h.0, all_append (λ (node : Node). TakesIn world node → ⊥) xs ys h.1 k)
one_first world (x ∷ xs) ys (inr h) k = inr (h.0, one_first world xs ys h.1 k)

one_second : (world : World) (xs ys : List Node) → NoneOf world xs → OneOf world ys → OneOf world (xs ++ ys)
one_second world [] ys h k = k
one_second world (x ∷ xs) ys h k = inr (h.0, one_second world xs ys h.1 k)

no_end : (world : World) (path : Path) (decision : Decision) → is_end decision ≡ false → TakesIn world (record { path = path; decision = decision }) → ⊥
no_end world path decision e h = absurd (cc (h.ends))

-- a node has one end for a world that comes to it, and none for another
abbrev HasOne : World → CertNode → Type 0
HasOne world node = (path : Path) → (IsOn path world → OneOf world (nodes_from node path)) × ((IsOn path world → ⊥) → NoneOf world (nodes_from node path))

end_one : (world : World) (path : Path) (decision : Decision) → IsTrue (is_end decision)
    → (IsOn path world → OneOf world (record { path = path; decision = decision } ∷ [])) × ((IsOn path world → ⊥) → NoneOf world (record { path = path; decision = decision } ∷ []))
end_one world path decision ends = (λ on. inl (record { ends = ends; on_path = on }, tt), λ off. (λ h. off h.on_path, tt))

def_one : (world : World) (row : Form) (d : ℤ) (below : CertNode) → HasOne world below → HasOne world (def_node row d below)
def_one world row d below one path = (
  λ on. rw nodes-def (inr (no_end world path (names row d) refl, (one (def row d ▸ path)).0 (tt, on))),
  λ off. rw nodes-def (no_end world path (names row d) refl, (one (def row d ▸ path)).1 (λ h. off h.1)),
)

lemma_one : (world : World) (row : Form) (why : Derivation) (below : CertNode) → HasOne world below → HasOne world (lemma_node row why below)
lemma_one world row why below one path = (
  λ on. rw nodes-lemma (inr (no_end world path (states row why) refl, (one (lemma row ▸ path)).0 (tt, on))),
  λ off. rw nodes-lemma (no_end world path (states row why) refl, (one (lemma row ▸ path)).1 (λ h. off h.1)),
)

-- a world is on one side
abbrev OneSide : ℤ → Type 0
OneSide v = ((pos 0 ≤ℤ v) × (v <ℤ pos 0 → ⊥)) ⊎ ((v <ℤ pos 0) × (pos 0 ≤ℤ v → ⊥))

sides : (v : ℤ) → OneSide v
sides (pos n) = inl (omega (arith, ints), λ h. absurd (omega (arith, ints)))
sides (negsuc n) = inr (omega (arith, ints), λ h. absurd (omega (arith, ints)))

split_one : (world : World) (row : Form) (one other : CertNode) → HasOne world one → HasOne world other → HasOne world (split_node row one other)
split_one world row one other h k path = (
  λ on. rw nodes-split (inr (no_end world path (splits row) refl, by_side on (sides (value row (values_along world path))))),
  λ off. rw nodes-split (
    no_end world path (splits row) refl,
    all_append (λ (node : Node). TakesIn world node → ⊥) (nodes_from one (first row ▸ path)) (nodes_from other (second row ▸ path))
        ((h (first row ▸ path)).1 (λ o. off o.1)) ((k (second row ▸ path)).1 (λ o. off o.1)),
  ),
)
  where
    by_side : IsOn path world → OneSide (value row (values_along world path)) → OneOf world (nodes_from one (first row ▸ path) ++ nodes_from other (second row ▸ path))
    by_side on (inl s) = one_first world (nodes_from one (first row ▸ path)) (nodes_from other (second row ▸ path))
        ((h (first row ▸ path)).0 (s.0, on)) ((k (second row ▸ path)).1 (λ o. s.1 o.0))
    by_side on (inr s) = one_second world (nodes_from one (first row ▸ path)) (nodes_from other (second row ▸ path))
        ((h (first row ▸ path)).1 (λ o. s.1 o.0)) ((k (second row ▸ path)).0 (s.0, on))

has_one : (world : World) (node : CertNode) → HasOne world node
has_one world = by_nodes (HasOne world) (record {
  def = def_one world;
  split = split_one world;
  lemma = lemma_one world;
  void = λ why path. rw nodes-void (end_one world path (is_empty why) refl);
  grid = λ path. rw nodes-grid (end_one world path by_worlds refl);
  leaf = λ answers path. rw nodes-leaf (end_one world path (by_answers answers) refl);
})

-- ---- the number of the end

pub record IsAt (world : World) (nodes : List Node) (n : ℕ) : Type 0 where
  pub node : Node
  pub is_node : slice_get nodes n ≡ Some node
  pub takes_in : TakesIn world node

none_at : (world : World) (nodes : List Node) (n : ℕ) → NoneOf world nodes → IsAt world nodes n → ⊥
none_at world [] n h at = absurd (cc (at.is_node))
none_at world (x ∷ xs) zero h at = h.0 (subst (λ y. TakesIn world y) (sym (same_Some x at.node at.is_node)) at.takes_in)
none_at world (x ∷ xs) (suc n) h at = none_at world xs n h.1 (record { node = at.node; is_node = at.is_node; takes_in = at.takes_in })

abbrev OneAt : World → List Node → Type 0
OneAt world nodes = (n : ℕ) × (IsAt world nodes n × ((m : ℕ) → IsAt world nodes m → m ≡ n))

one_at : (world : World) (nodes : List Node) → OneOf world nodes → OneAt world nodes
one_at world [] h = absurd h
one_at world (x ∷ xs) (inl h) = (zero, (record { node = x; is_node = refl; takes_in = h.0 }, only))
  where
    only : (m : ℕ) → IsAt world (x ∷ xs) m → m ≡ zero
    only zero at = refl
    only (suc m) at = absurd (none_at world xs m h.1 (record { node = at.node; is_node = at.is_node; takes_in = at.takes_in }))
one_at world (x ∷ xs) (inr h) = further (one_at world xs h.1)
  where
    further : OneAt world xs → OneAt world (x ∷ xs)
    further rest = (suc rest.0, (record { node = rest.1.0.node; is_node = rest.1.0.is_node; takes_in = rest.1.0.takes_in }, only))
      where
        only : (m : ℕ) → IsAt world (x ∷ xs) m → m ≡ suc rest.0
        only zero at = absurd (h.0 (subst (λ y. TakesIn world y) (sym (same_Some x at.node at.is_node)) at.takes_in))
        only (suc m) at = ap suc (rest.1.1 m (record { node = at.node; is_node = at.is_node; takes_in = at.takes_in }))

pub one_end : (form : ℕ) (cert : Cert) (world : World) → (n : ℕ) × (IsEndOf form cert world n × ((m : ℕ) → IsEndOf form cert world m → m ≡ n))
one_end form cert world =
    let one = one_at world (nodes_of form cert) ((has_one world cert.root (root form)).0 tt) in
    let at = one.1.0 in (
      one.0,
      (
        record { node = at.node; is_node = at.is_node; ends = at.takes_in.ends; on_path = at.takes_in.on_path },
        λ m h. one.1.1 m (record { node = h.node; is_node = h.is_node; takes_in = record { ends = h.ends; on_path = h.on_path } }),
      ),
    )
