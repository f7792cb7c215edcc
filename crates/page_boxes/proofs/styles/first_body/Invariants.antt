use Rattle.std.proofs.Common.{◌≡◌, ℕ, drop}
use Rattle.std.specs.Prelude.{find, option_map, ◌&&◌, codes}
use Rattle.std.specs.List.{enumerate_from}
use Rattle.viz_base.specs.Pages.{has_tag}
use Rattle.viz_base.specs.declared.nodes.Node.{Node}
use Rattle.layout_semantics.specs.BoxTrees.{first_body}
use Rattle.layout_semantics.specs.WhiteSpace.{is_in}
use Rattle.page_boxes.proofs.styles.first_body.Given as goal

abbrev pub invariant-loop-at : goal.invariant-loop-at
invariant-loop-at l = option_map (λ (e : ℕ × Node). e.0) (find (λ (e : ℕ × Node). is_in 0 e.1.parent && has_tag (codes "body") e.1.body) (enumerate_from l.at (drop l.at l.nodes))) ≡ first_body l.nodes
