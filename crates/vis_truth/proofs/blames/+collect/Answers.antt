use Rattle.std.proofs.Common.{◌≡◌, ◌++◌, ℕ, false, [], ◌∷◌, List, append_assoc, ap, sym, ◌∙◌, length}
use Rattle.std.specs.List.{find, range_with_len}
use Rattle.std.proofs.lemmas.Result.{on_ok_weaker}
use Rattle.logic_semantics.specs.Scenes.{scene_of}
use Rattle.logic_semantics.specs.Truth.{truth_in}
use Rattle.logic_semantics.specs.Blame.{blame_in}
use Rattle.logic_semantics.proofs.Findings.{blame-And_first, blame-And_second}
use Rattle.vis_truth.specs.declared.names.Names.TheVariants.{Inner}
use Rattle.vis_truth.specs.Names.{places_of}
use Rattle.vis_truth.specs.Scenes.{is_witness}
use Rattle.vis_truth.proofs.Witnesses.{places-Inner}
use Rattle.vis_truth.proofs.Blamed.{blame-Forall_found, blame-Forall_none, blame-Implies_holds, blame-Implies_fails, blame-other}
use Rattle.vis_truth.proofs.blames.+collect.Goals as goal

append-none : (out blamed : List ℕ) → blamed ≡ [] → out ≡ out ++ blamed
append-none [] blamed is = sym is
append-none (x ∷ xs) blamed is = ap (λ l. x ∷ l) (append-none xs blamed is)

pub returns-in_ok-push-in-Some : goal.returns-in_ok-push-in-Some
returns-in_ok-push-in-Some t c =
    let scene = scene_of c.args.r.now c.args.world in
    let names = places_of c.args.names.now in
    let found =
    ap (λ b. find (is_witness scene c.in-Forall.set b false names) (range_with_len 0 (length c.args.r.now.boxes))) (sym c.get.ensures) ∙ sym c.in-Some.ensures.value in
    let blamed =
    ap (λ f. blame_in scene f names) c.in-Forall.is
    ∙ blame-Forall_found scene c.in-Forall.set c.in-Forall.body names c.in-Some.place found in
    let body =
    ap (λ b. blame_in scene b (places_of (Inner c.in-Some.place (record { ref_ptr = c.args.names.ref_ptr; now = c.args.names.now })))) c.get-in-Some.ensures
    ∙ ap (λ ns. blame_in scene c.in-Forall.body ns) (places-Inner c.in-Some.place (record { ref_ptr = c.args.names.ref_ptr; now = c.args.names.now })) in
    on_ok_weaker c.collect.result
    (λ is.
    is ∙ ap (λ l. c.push.new.self ++ l) body
    ∙ ap (λ l. l ++ blame_in scene c.in-Forall.body (c.in-Some.place ∷ names)) c.in_ok-push-in-Some.ensures.ok
    ∙ append_assoc c.args.out.now (c.in-Some.place ∷ []) (blame_in scene c.in-Forall.body (c.in-Some.place ∷ names))
    ∙ ap (λ l. c.args.out.now ++ l) (sym blamed))
    c.collect.ensures

pub returns-in-None : goal.returns-in-None
returns-in-None t c =
    let scene = scene_of c.args.r.now c.args.world in
    let names = places_of c.args.names.now in
    let none =
    ap (λ b. find (is_witness scene c.in-Forall.set b false names) (range_with_len 0 (length c.args.r.now.boxes))) (sym c.get.ensures) ∙ sym c.in-None.ensures.value in
    append-none c.args.out.now _ (ap (λ f. blame_in scene f names) c.in-Forall.is ∙ blame-Forall_none scene c.in-Forall.set c.in-Forall.body names none)

pub returns-then-holds : goal.returns-then-holds
returns-then-holds t c =
    let scene = scene_of c.args.r.now c.args.world in
    let names = places_of c.args.names.now in
    let premise = ap (λ a. truth_in scene a names) (sym c.get-in-Implies.ensures) ∙ sym c.holds.ensures ∙ c.if-holds.true in
    on_ok_weaker c.collect-then-holds.result
    (λ is.
    is
    ∙ ap (λ b. c.args.out.now ++ blame_in scene b names) c.get-then-holds.ensures
    ∙ ap (λ l. c.args.out.now ++ l) (sym (ap (λ f. blame_in scene f names) c.in-Implies.is ∙ blame-Implies_holds scene c.in-Implies.a c.in-Implies.b names premise)))
    c.collect-then-holds.ensures

pub returns-else-holds : goal.returns-else-holds
returns-else-holds t c =
    let scene = scene_of c.args.r.now c.args.world in
    let names = places_of c.args.names.now in
    let premise = ap (λ a. truth_in scene a names) (sym c.get-in-Implies.ensures) ∙ sym c.holds.ensures ∙ c.if-holds.false in
    append-none c.args.out.now _ (ap (λ f. blame_in scene f names) c.in-Implies.is ∙ blame-Implies_fails scene c.in-Implies.a c.in-Implies.b names premise)

pub returns-then-holds-2 : goal.returns-then-holds-2
returns-then-holds-2 t c =
    let scene = scene_of c.args.r.now c.args.world in
    let names = places_of c.args.names.now in
    let first = ap (λ a. truth_in scene a names) (sym c.get-in-And.ensures) ∙ sym c.holds-in-And.ensures ∙ c.if-holds-2.true in
    on_ok_weaker c.collect-then-holds-2.result
    (λ is.
    is
    ∙ ap (λ b. c.args.out.now ++ blame_in scene b names) c.get-then-holds-2.ensures
    ∙ ap (λ l. c.args.out.now ++ l) (sym (ap (λ f. blame_in scene f names) c.in-And.is ∙ blame-And_second scene c.in-And.a c.in-And.b names first)))
    c.collect-then-holds-2.ensures

pub returns-else-holds-2 : goal.returns-else-holds-2
returns-else-holds-2 t c =
    let scene = scene_of c.args.r.now c.args.world in
    let names = places_of c.args.names.now in
    let first = ap (λ a. truth_in scene a names) (sym c.get-in-And.ensures) ∙ sym c.holds-in-And.ensures ∙ c.if-holds-2.false in
    on_ok_weaker c.collect-else-holds-2.result
    (λ is.
    is
    ∙ ap (λ a. c.args.out.now ++ blame_in scene a names) c.get-else-holds-2.ensures
    ∙ ap (λ l. c.args.out.now ++ l) (sym (ap (λ f. blame_in scene f names) c.in-And.is ∙ blame-And_first scene c.in-And.a c.in-And.b names first)))
    c.collect-else-holds-2.ensures

pub returns-in_default : goal.returns-in_default
returns-in_default t c =
    append-none c.args.out.now _
    (blame-other (scene_of c.args.r.now c.args.world) (places_of c.args.names.now) c.args.f.now c.in_default.not-Forall c.in_default.not-Implies c.in_default.not-And)
