-- A node has one parent, which stands before it.
use Rattle.std.proofs.Common.{◌≡◌, ℕ, ◌<◌, List, IsTrue, sym, ap, ◌∙◌, subst}
use Rattle.std.specs.Prelude.{nat_lt}
use Rattle.std.proofs.lemmas.Bool.{ltb-true}
use Rattle.std.proofs.lemmas.Option.{same_Some}
use Rattle.viz_base.specs.Pages.{IsPage, is_element_at, parent_fits}
use Rattle.viz_base.specs.declared.nodes.Node.{Node}
use Rattle.viz_base.proofs.Truths.{and_first}
use Rattle.css_semantics.specs.Matching.{IsParent}

pub child_after : (nodes : List Node) → IsPage nodes → (p n : ℕ) → IsParent nodes p n → p < n
child_after nodes page p n h = ltb-true p n (and_first (nat_lt p n) (is_element_at nodes p) (subst (λ o. IsTrue (parent_fits nodes n o)) h.2 (page.parents n h.0 h.1)))

pub one_parent : (nodes : List Node) (p q n : ℕ) → IsParent nodes p n → IsParent nodes q n → p ≡ q
one_parent nodes p q n h k = same_Some p q (sym h.2 ∙ ap (λ (m : Node). m.parent) (same_Some h.0 k.0 (sym h.1 ∙ k.1)) ∙ k.2)
