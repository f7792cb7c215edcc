-- The overflow that goes to the viewport (CSS 2.1, 11.1.1).
use Rattle.std.specs.Prelude.{◌≡◌, ℕ, ◌<◌, Bool, false, ◌&&◌, ◌==◌, List, slice_get, IsTrue, codes}
use Rattle.std.specs.Option.{option_map_or}
use Rattle.viz_base.specs.Pages.{has_tag}
use Rattle.viz_base.specs.declared.nodes.Node.{Node}

-- a `body` in the root
abbrev pub is_body : Node → Bool
is_body n = option_map_or (λ p. p == 0) n.parent false && has_tag (codes "body") n.body

abbrev pub is_body_at : List Node → ℕ → Bool
is_body_at nodes at = option_map_or is_body (slice_get nodes at) false

pub record IsFirstBody (nodes : List Node) (at : ℕ) : Type 0 where
  pub body : IsTrue (is_body_at nodes at)
  pub first : (earlier : ℕ) → earlier < at → is_body_at nodes earlier ≡ false
