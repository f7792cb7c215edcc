use Rattle.std.proofs.Common.{◌≡◌, true, false, not, ◌&&◌, ◌||◌, ◌∷◌, length, ap, sym, ◌∙◌, subst, arith}
use Rattle.std.specs.List.{list_any, range_with_len}
use Rattle.viz_base.specs.Formulas.{has_small_terms}
use Rattle.logic_semantics.specs.Truth.{truth_in}
use Rattle.vis_truth.specs.Names.{places_of}
use Rattle.vis_truth.specs.Scenes.{scene_at, agrees, is_witness, IsTame}
use Rattle.viz_calc.proofs.Runs.{Goes-then, Blames-then}
use Rattle.viz_calc.proofs.Blamed.{Blames-given}
use Rattle.vis_truth.proofs.Runs.{IsTame-later}
use Rattle.vis_truth.proofs.Parts.{small-Implies, small-Or, small-And, tame-part, whole-Implies, whole-Or, whole-And}
use Rattle.vis_truth.proofs.Bounds.{term-small, small-Cmp}
use Rattle.vis_truth.proofs.Witnesses.{places-Inner, member-at, any_more, any_none, any_found, forall-witness, exists-witness}
use Rattle.vis_truth.proofs.engine.+truth.Goals as goal

pub has_witness-returns-then-is_witness-clause-value : goal.has_witness-returns-then-is_witness-clause-value
has_witness-returns-then-is_witness-clause-value g t c = λ e o.
    sym (any_found (is_witness (scene_at g.S.Steady.at c.args.r.now e) c.args.set.now c.args.body.now c.args.wanted (places_of c.args.names.now))
    (length c.args.r.now.boxes) c.loop-place.place (omega arith) (sym (c.if-is_witness.ensures.value e o)))

pub has_witness-loop-place-preserved : goal.has_witness-loop-place-preserved
has_witness-loop-place-preserved g t c = record {
  goes = Goes-then _ _ _ c.loop-place.invariant.goes c.is_witness.ensures.goes;
  none = λ e o.
      any_more (is_witness (scene_at g.S.Steady.at c.args.r.now e) c.args.set.now c.args.body.now c.args.wanted (places_of c.args.names.now))
      (length c.args.r.now.boxes) c.loop-place.place (c.loop-place.invariant.none e (c.is_witness.ensures.goes.closes e o)) (omega arith) (sym (c.if-is_witness.ensures.value e o));
  cause = Blames-then _ _ _ _ _ c.loop-place.invariant.goes c.is_witness.ensures.goes c.loop-place.invariant.cause
      (λ tame. IsTame-later _ _ _ _ _ c.loop-place.invariant.goes tame) c.is_witness.ensures.cause;
}

pub has_witness-returns-clause-value : goal.has_witness-returns-clause-value
has_witness-returns-clause-value g t c = λ e o.
    sym (any_none (is_witness (scene_at g.S.Steady.at c.args.r.now e) c.args.set.now c.args.body.now c.args.wanted (places_of c.args.names.now))
    (length c.args.r.now.boxes) c.loop-place.place (c.loop-place.invariant.none e o) (omega arith))

pub holds-returns-in-Forall-clause-value : goal.holds-returns-in-Forall-clause-value
holds-returns-in-Forall-clause-value g t c = λ e o.
    let at = g.S.Steady.at in
    let names = places_of c.args.names.now in
    ap not (c.has_witness.ensures.value e o)
    ∙ ap (λ b. not (list_any (is_witness (scene_at at c.args.r.now e) c.in-Forall.set b false names) (range_with_len 0 (length c.args.r.now.boxes)))) c.get.ensures
    ∙ forall-witness at c.args.r.now e c.in-Forall.set c.in-Forall.body names
    ∙ ap (λ f. truth_in (scene_at at c.args.r.now e) f names) (sym c.in-Forall.is)

pub holds-returns-in-Exists-clause-value : goal.holds-returns-in-Exists-clause-value
holds-returns-in-Exists-clause-value g t c = λ e o.
    let at = g.S.Steady.at in
    let names = places_of c.args.names.now in
    c.has_witness-in-Exists.ensures.value e o
    ∙ ap (λ b. list_any (is_witness (scene_at at c.args.r.now e) c.in-Exists.set b true names) (range_with_len 0 (length c.args.r.now.boxes))) c.get-in-Exists.ensures
    ∙ exists-witness at c.args.r.now e c.in-Exists.set c.in-Exists.body names
    ∙ ap (λ f. truth_in (scene_at at c.args.r.now e) f names) (sym c.in-Exists.is)

pub holds-returns-in-Cmp-clause-cause : goal.holds-returns-in-Cmp-clause-cause
holds-returns-in-Cmp-clause-cause g t c =
    Blames-given _ _ _ _
    (λ (tame : IsTame (g.S.Steady.run c.args.calc.now).is_open g.S.Steady.at c.args.r.now c.args.f.now).
    let small = small-Cmp c.in-Cmp.left c.in-Cmp.right c.in-Cmp.sign (subst (λ f. has_small_terms f ≡ true) c.in-Cmp.is tame.small) in
    λ e o. (
      term-small g.S.Steady.at c.args.r.now e (places_of c.args.names.now) c.in-Cmp.left (tame.bounded e o) small.0,
      term-small g.S.Steady.at c.args.r.now e (places_of c.args.names.now) c.in-Cmp.right (tame.bounded e o) small.1,
    ))
    c.comparison.ensures.cause

pub is_witness-returns-clause-value : goal.is_witness-returns-clause-value
is_witness-returns-clause-value g t c = λ e o.
    let scene = scene_at g.S.Steady.at c.args.r.now e in
    let body = c.holds-value.ensures.value e o ∙ ap (λ ns. truth_in scene c.args.body.now ns) (places-Inner c.args.place c.args.names) in
    let member = member-at g.S.Steady.at c.args.r.now e c.args.set.now c.args.place ∙ sym c.is_member_at.ensures ∙ c.if-not-is_member_at.false in
    c.agrees.ensures
    ∙ ap (agrees c.args.wanted) body
    ∙ ap (λ b. b && agrees c.args.wanted (truth_in scene c.args.body.now (c.args.place ∷ places_of c.args.names.now))) (sym member)

pub holds-returns-then-not-holds-clause-cause : goal.holds-returns-then-not-holds-clause-cause
holds-returns-then-not-holds-clause-cause g t c = Blames-given _ _ _ _
    (λ tame. tame-part _ _ _ _ _ c.in-Implies.a _ c.in-Implies.is (λ s. (small-Implies c.in-Implies.a c.in-Implies.b s).0) c.get-in-Implies.ensures tame)
    c.holds.ensures.cause

pub holds-returns-else-not-holds-clause-cause : goal.holds-returns-else-not-holds-clause-cause
holds-returns-else-not-holds-clause-cause g t c =
    let here = c.holds.ensures.goes in
    Blames-then _ _ _ _ _ here c.holds-else-not-holds.ensures.goes
    (Blames-given _ _ _ _
    (λ tame. tame-part _ _ _ _ _ c.in-Implies.a _ c.in-Implies.is (λ s. (small-Implies c.in-Implies.a c.in-Implies.b s).0) c.get-in-Implies.ensures tame)
    c.holds.ensures.cause)
    (λ tame.
    IsTame-later _ _ _ _ _ here
    (tame-part _ _ _ _ _ c.in-Implies.b _ c.in-Implies.is (λ s. (small-Implies c.in-Implies.a c.in-Implies.b s).1) c.get-else-not-holds.ensures tame))
    c.holds-else-not-holds.ensures.cause

pub holds-returns-then-holds-clause-cause : goal.holds-returns-then-holds-clause-cause
holds-returns-then-holds-clause-cause g t c = Blames-given _ _ _ _
    (λ tame. tame-part _ _ _ _ _ c.in-Or.a _ c.in-Or.is (λ s. (small-Or c.in-Or.a c.in-Or.b s).0) c.get-in-Or.ensures tame)
    c.holds-in-Or.ensures.cause

pub holds-returns-else-holds-clause-cause : goal.holds-returns-else-holds-clause-cause
holds-returns-else-holds-clause-cause g t c =
    let here = c.holds-in-Or.ensures.goes in
    Blames-then _ _ _ _ _ here c.holds-else-holds.ensures.goes
    (Blames-given _ _ _ _
    (λ tame. tame-part _ _ _ _ _ c.in-Or.a _ c.in-Or.is (λ s. (small-Or c.in-Or.a c.in-Or.b s).0) c.get-in-Or.ensures tame)
    c.holds-in-Or.ensures.cause)
    (λ tame.
    IsTame-later _ _ _ _ _ here
    (tame-part _ _ _ _ _ c.in-Or.b _ c.in-Or.is (λ s. (small-Or c.in-Or.a c.in-Or.b s).1) c.get-else-holds.ensures tame))
    c.holds-else-holds.ensures.cause

pub holds-returns-else-holds-2-clause-cause : goal.holds-returns-else-holds-2-clause-cause
holds-returns-else-holds-2-clause-cause g t c = Blames-given _ _ _ _
    (λ tame. tame-part _ _ _ _ _ c.in-And.a _ c.in-And.is (λ s. (small-And c.in-And.a c.in-And.b s).0) c.get-in-And.ensures tame)
    c.holds-in-And.ensures.cause

pub holds-returns-then-holds-2-clause-cause : goal.holds-returns-then-holds-2-clause-cause
holds-returns-then-holds-2-clause-cause g t c =
    let here = c.holds-in-And.ensures.goes in
    Blames-then _ _ _ _ _ here c.holds-then-holds-2.ensures.goes
    (Blames-given _ _ _ _
    (λ tame. tame-part _ _ _ _ _ c.in-And.a _ c.in-And.is (λ s. (small-And c.in-And.a c.in-And.b s).0) c.get-in-And.ensures tame)
    c.holds-in-And.ensures.cause)
    (λ tame.
    IsTame-later _ _ _ _ _ here
    (tame-part _ _ _ _ _ c.in-And.b _ c.in-And.is (λ s. (small-And c.in-And.a c.in-And.b s).1) c.get-then-holds-2.ensures tame))
    c.holds-then-holds-2.ensures.cause

pub holds-returns-then-not-holds-clause-value : goal.holds-returns-then-not-holds-clause-value
holds-returns-then-not-holds-clause-value g t c = λ e o.
    let scene = scene_at g.S.Steady.at c.args.r.now e in
    let names = places_of c.args.names.now in
    let left = sym (c.holds.ensures.value e o ∙ ap (λ f. truth_in scene f names) c.get-in-Implies.ensures) ∙ c.if-not-holds.true in
    ap not c.if-not-holds.true
    ∙ sym (ap (λ x. not x || truth_in scene c.in-Implies.b names) left)
    ∙ whole-Implies scene names c.args.f.now c.in-Implies.a c.in-Implies.b c.in-Implies.is

pub holds-returns-else-not-holds-clause-value : goal.holds-returns-else-not-holds-clause-value
holds-returns-else-not-holds-clause-value g t c = λ e o.
    let scene = scene_at g.S.Steady.at c.args.r.now e in
    let names = places_of c.args.names.now in
    let left = sym (c.holds.ensures.value e (c.holds-else-not-holds.ensures.goes.closes e o) ∙ ap (λ f. truth_in scene f names) c.get-in-Implies.ensures) ∙ c.if-not-holds.false in
    c.holds-else-not-holds.ensures.value e o
    ∙ ap (λ f. truth_in scene f names) c.get-else-not-holds.ensures
    ∙ sym (ap (λ x. not x || truth_in scene c.in-Implies.b names) left)
    ∙ whole-Implies scene names c.args.f.now c.in-Implies.a c.in-Implies.b c.in-Implies.is

pub holds-returns-then-holds-clause-value : goal.holds-returns-then-holds-clause-value
holds-returns-then-holds-clause-value g t c = λ e o.
    let scene = scene_at g.S.Steady.at c.args.r.now e in
    let names = places_of c.args.names.now in
    let left = sym (c.holds-in-Or.ensures.value e o ∙ ap (λ f. truth_in scene f names) c.get-in-Or.ensures) ∙ c.if-holds.true in
    c.if-holds.true
    ∙ sym (ap (λ x. x || truth_in scene c.in-Or.b names) left)
    ∙ whole-Or scene names c.args.f.now c.in-Or.a c.in-Or.b c.in-Or.is

pub holds-returns-else-holds-clause-value : goal.holds-returns-else-holds-clause-value
holds-returns-else-holds-clause-value g t c = λ e o.
    let scene = scene_at g.S.Steady.at c.args.r.now e in
    let names = places_of c.args.names.now in
    let left = sym (c.holds-in-Or.ensures.value e (c.holds-else-holds.ensures.goes.closes e o) ∙ ap (λ f. truth_in scene f names) c.get-in-Or.ensures) ∙ c.if-holds.false in
    c.holds-else-holds.ensures.value e o
    ∙ ap (λ f. truth_in scene f names) c.get-else-holds.ensures
    ∙ sym (ap (λ x. x || truth_in scene c.in-Or.b names) left)
    ∙ whole-Or scene names c.args.f.now c.in-Or.a c.in-Or.b c.in-Or.is

pub holds-returns-then-holds-2-clause-value : goal.holds-returns-then-holds-2-clause-value
holds-returns-then-holds-2-clause-value g t c = λ e o.
    let scene = scene_at g.S.Steady.at c.args.r.now e in
    let names = places_of c.args.names.now in
    let left = sym (c.holds-in-And.ensures.value e (c.holds-then-holds-2.ensures.goes.closes e o) ∙ ap (λ f. truth_in scene f names) c.get-in-And.ensures) ∙ c.if-holds-2.true in
    c.holds-then-holds-2.ensures.value e o
    ∙ ap (λ f. truth_in scene f names) c.get-then-holds-2.ensures
    ∙ sym (ap (λ x. x && truth_in scene c.in-And.b names) left)
    ∙ whole-And scene names c.args.f.now c.in-And.a c.in-And.b c.in-And.is

pub holds-returns-else-holds-2-clause-value : goal.holds-returns-else-holds-2-clause-value
holds-returns-else-holds-2-clause-value g t c = λ e o.
    let scene = scene_at g.S.Steady.at c.args.r.now e in
    let names = places_of c.args.names.now in
    let left = sym (c.holds-in-And.ensures.value e o ∙ ap (λ f. truth_in scene f names) c.get-in-And.ensures) ∙ c.if-holds-2.false in
    c.if-holds-2.false
    ∙ sym (ap (λ x. x && truth_in scene c.in-And.b names) left)
    ∙ whole-And scene names c.args.f.now c.in-And.a c.in-And.b c.in-And.is
