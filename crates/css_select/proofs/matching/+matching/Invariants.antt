use Rattle.std.proofs.Common.{ℕ, ◌+◌, ◌*◌, length, reverse}
use Rattle.css_semantics.specs.Matching.{IsAncestor, MatchesParts}
use Rattle.css_select.proofs.matching.+matching.Given as goal

abbrev pub decreases-match_parts : goal.decreases-match_parts
decreases-match_parts l = 2 * length l.parts.now

abbrev pub decreases-match_around : goal.decreases-match_around
decreases-match_around l = 2 * length l.parts.now + 1

-- each element around the node that matches is around the one that was reached, and those around that are around the node
abbrev pub invariant-match_around-loop-parent : goal.invariant-match_around-loop-parent
invariant-match_around-loop-parent l = record {
  left : (top : ℕ) → IsAncestor l.page.nodes top l.node → MatchesParts l.page.nodes (reverse l.parts) top → IsAncestor l.page.nodes top l.at;
  around : (top : ℕ) → IsAncestor l.page.nodes top l.at → IsAncestor l.page.nodes top l.node;
}

abbrev pub decreases-match_around-loop-parent : goal.decreases-match_around-loop-parent
decreases-match_around-loop-parent l = l.at
