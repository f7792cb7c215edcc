-- What the lines of a container ask, by what the code has of them.
use Rattle.std.proofs.Common.{◌≡◌, ℕ, ℤ, List, Option, sym, subst}
use Rattle.std.specs.Prelude.{unwrap_or}
use Rattle.viz_base.specs.declared.layouts.Band.{Band}
use Rattle.viz_base.specs.declared.layouts.Inner.{Inner}
use Rattle.viz_base.specs.declared.trees.BoxTree.{BoxTree}
use Rattle.viz_base.specs.declared.worlds.World.{World}
use Rattle.layout_semantics.specs.Floats.{FloatBox}
use Rattle.layout_semantics.specs.Flow.{Independent}
use Rattle.lay_line.specs.LinesFit.{LinesFit}
use Rattle.lay_steps.specs.Flow.{Context}
use Rattle.lay_flow.specs.WalkFits.{inline_context}
use Rattle.lay_steps.specs.Flow.{inner_table}

pub lines-moved : (tree : BoxTree) (w : World) (apart : ℕ → Independent) (b : ℕ) (cb : Band ℤ) (top : ℤ) (s : Context) (inner : List (Option (Inner ℤ))) (least : ℤ) (floats : List FloatBox)
    → inner ≡ inner_table tree w apart b → least ≡ unwrap_or s.least top → floats ≡ s.floats
    → LinesFit (inline_context tree w apart b cb) top (unwrap_or s.least top) s.floats
    → LinesFit (record { tree = tree; world = w; container = b; inner = inner; cb = cb }) top least floats
lines-moved tree w apart b cb top s inner least floats p q r f =
    subst (λ (t : List (Option (Inner ℤ))). LinesFit (record { tree = tree; world = w; container = b; inner = t; cb = cb }) top least floats) (sym p)
    (subst (λ (y : ℤ). LinesFit (inline_context tree w apart b cb) top y floats) (sym q)
    (subst (λ (l : List FloatBox). LinesFit (inline_context tree w apart b cb) top (unwrap_or s.least top) l) (sym r) f))
