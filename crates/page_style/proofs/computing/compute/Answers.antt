use Rattle.std.proofs.Common.{◌≡◌, ◌+◌, ◌<◌, ◌≤◌, ◌++◌, ◌∷◌, [], length, get_or, refl, sym, ap, subst, arith}
use Rattle.std.proofs.lemmas.Option.{slice_get_read}
use Rattle.css_semantics.specs.ComputedValues.{AreDrawn, IsComputed, of_parent}
use Rattle.page_style.proofs.Reaching.{Reached, more, finish}
use Rattle.page_style.proofs.Fitting.{styles_fit}
use Rattle.page_style.proofs.computing.compute.Goals as goal

pub loop-at-preserved : goal.loop-at-preserved
loop-at-preserved c =
    let k = c.loop-at.at in
    let nodes = c.args.page.now.nodes in
    let winners = c.args.cascaded.now.winners in
    let fonts = c.args.fonts.now in
    let n = c.index-nodes-at.result in
    let ws = c.index-winners-at.result in
    let a = c.in-Ok.ensures in
    let within : k < length nodes = rw c.as_slice-nodes.ensures at c.loop-at-test.true in
    let is_n = slice_get_read nodes (length nodes) k n refl within (subst (λ ns. n ≡ get_or ns k n) c.as_slice-nodes.ensures c.index-nodes-at.is) in
    let is_ws = slice_get_read winners (length nodes) k ws (sym c.requires.winners.each) within (subst (λ vs. ws ≡ get_or vs k ws) c.as_slice-winners.ensures c.index-winners-at.is) in
    let drawn : AreDrawn ws (of_parent c.loop-at.drawn.items n) a.borders = subst (λ vs. AreDrawn vs (of_parent c.loop-at.drawn.items n) a.borders) c.as_slice-settings.ensures a.are_drawn in
    subst (λ ds. Reached nodes winners fonts c.args.page.now.ok (k + 1) c.add_style.new.styles ds) (sym a.one_drawn)
    (subst (λ ss. Reached nodes winners fonts c.args.page.now.ok (k + 1) ss (c.loop-at.drawn.items ++ a.borders ∷ [])) (sym a.one_style)
    (more nodes winners fonts c.args.page.now.ok k c.loop-at.styles c.loop-at.drawn.items n ws a.style a.borders c.loop-at.invariant is_n is_ws drawn
    (λ b. subst (λ vs. IsComputed fonts k vs a.borders (of_parent c.loop-at.styles n) a.style) c.as_slice-settings.ensures (subst (λ fs. IsComputed fs k c.as_slice-settings.result.now a.borders (of_parent c.loop-at.styles n) a.style) c.as_slice.ensures (a.element b)))
    a.text))

pub returns-clause-fitting : goal.returns-clause-fitting
returns-clause-fitting c =
    let nodes = c.args.page.now.nodes in
    let past : length nodes ≤ c.loop-at.at = rw c.as_slice-nodes.ensures at c.loop-at-test.false in
    let ends : c.loop-at.at ≤ length nodes = omega (arith, ap length c.as_slice-nodes.ensures) in
    let all = finish nodes c.args.cascaded.now.winners c.args.fonts.now c.args.page.now.ok c.loop-at.at c.loop-at.styles c.loop-at.drawn.items (omega (arith, past, ends)) c.loop-at.invariant in
    styles_fit nodes c.args.cascaded.now.winners c.args.fonts.now c.loop-at.styles c.args.page.now.ok c.requires.winners c.requires.fonts all
