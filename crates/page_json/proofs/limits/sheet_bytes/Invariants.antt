use Rattle.std.proofs.Common.{◌≡◌, ◌+◌, ℕ, take, length}
use Rattle.std.specs.Prelude.{sum_by}
use Rattle.viz_base.specs.declared.nodes.Node.{Node}
use Rattle.page_json.specs.Jobs.{style_bytes}
use Rattle.page_json.proofs.limits.sheet_bytes.Given as goal

abbrev pub invariant-loop-sheet : goal.invariant-loop-sheet
invariant-loop-sheet l = l.total ≡ sum_by (length {A = ℕ}) (take l.sheet-index l.css)

abbrev pub invariant-loop-node : goal.invariant-loop-node
invariant-loop-node l = l.total ≡ sum_by (length {A = ℕ}) l.css + sum_by (λ (n : Node). style_bytes n.body) (take l.node-index l.nodes)
