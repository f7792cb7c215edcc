use Rattle.std.proofs.Common.{◌≡◌, ◌++◌, ◌∙◌, sym, subst, ap}
use Rattle.css_semantics.specs.CascadeReading.{AreClaimed, IsClaimed}
use Rattle.css_cascade.proofs.Reaching.{Reached, reached_more, reached_end}
use Rattle.css_cascade.proofs.reading.claims_in.Goals as goal

pub loop-decl-preserved : goal.loop-decl-preserved
loop-decl-preserved c =
    let e : c.append.new.self.items ≡ c.loop-decl.claims.items ++ c.in_ok-claims_by.field-0 = c.in_ok-append.ensures.items ∙ ap (λ x. c.loop-decl.claims.items ++ x) c.into_vec.ensures in
    subst (Reached (IsClaimed c.args.origin c.args.text.now) c.args.decls.now _) (sym e)
    (reached_more c.decl-item.result c.in_ok-claims_by.field-0 c.loop-decl-test.true c.decl-item.is c.loop-decl.invariant c.in_ok-claims_by.ensures)

pub returns : goal.returns
returns c = subst (AreClaimed c.args.origin c.args.text.now c.args.decls.now) (sym c.from.ensures) (reached_end c.loop-decl-test.false c.loop-decl.invariant)
