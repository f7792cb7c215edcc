-- What a page grows to, or where it grows too much.
use Rattle.std.specs.Prelude.{ℕ, List, Option, Some, None, Result, Ok, Err}
use Rattle.viz_base.specs.declared.nodes.Node.{Node}
use Rattle.viz_base.specs.declared.settings.Setting.{Setting}
use Rattle.page_pseudo.specs.declared.fault.GrowFault.{GrowFault}
use Rattle.page_pseudo.specs.declared.fault.GrowFault.TheVariants.{Mem, Generated}
use Rattle.page_pseudo.specs.declared.growing.Grown.{Grown}
use Rattle.page_pseudo.specs.Grown.{IsGrown, Written}
use Rattle.page_pseudo.specs.Limits.{IsTooMuch, IsWithin}

-- nodes, what wins at each, and its number on the page as it is written
abbrev pub Growth : Type 0
Growth = List Node × List (List Setting) × List (Option ℕ)

abbrev pub growth_of : Grown → Growth
growth_of g = (g.page.nodes, g.cascaded.winners, g.from)

-- the node that a fault names; want of memory names none
abbrev pub refusal_of : GrowFault → Option ℕ
refusal_of Mem = None
refusal_of (Generated node) = Some node

abbrev pub IsGrowth : Written → Result Growth ℕ → Type 0
IsGrowth w (Ok g) = IsGrown w g.0 g.1 g.2 × IsWithin w
IsGrowth w (Err node) = IsTooMuch w node
