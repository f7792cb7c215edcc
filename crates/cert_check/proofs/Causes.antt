-- The verdict on a certificate without leaves, and on one that is plainly computed.
use Rattle.std.proofs.Common.{◌≡◌, ℕ, zero, suc, ◌<◌, Bool, true, false, nat_lt, List, [], ◌∷◌, Option, Some, refl, sym, ap, subst, ◌∙◌, arith, inl, inr}
use Rattle.std.specs.Prelude.{◌≢◌, ◌⊎◌, slice_get}
use Rattle.std.proofs.lemmas.Bool.Decides.{nat_tests}
use Rattle.std.proofs.lemmas.Option.{same_Some}
use Rattle.viz_base.specs.declared.worlds.World.{World}
use Rattle.viz_base.specs.declared.jobs.Job.{Job}
use Rattle.viz_base.proofs.Truths.{not_both}
use Rattle.lin_proof.specs.Form.{form_fits, denied}
use Rattle.lin_proof.specs.Derivations.{first_fault}
use Rattle.lin_proof.specs.Entailments.{with_denied}
use Rattle.cert_text.specs.declared.certificate.Cert.{Cert}
use Rattle.cert_semantics.specs.Paths.{Path, variables}
use Rattle.cert_semantics.specs.Facts.{facts}
use Rattle.cert_semantics.specs.Nodes.{Decision, names, splits, states, is_empty, by_worlds, by_answers, Node, nodes_of}
use Rattle.cert_semantics.specs.Shapes.{is_shaped}
use Rattle.cert_semantics.specs.Derived.{HasReasons}
use Rattle.cert_check.specs.declared.verdicts.Verdict.{Verdict}
use Rattle.cert_check.specs.declared.verdicts.Verdict.TheVariants.{Accepted, Rejected}
use Rattle.cert_check.specs.declared.verdicts.Reject.{Reject}
use Rattle.cert_check.specs.declared.verdicts.Reject.TheVariants.{OtherJob, Shape, Line, Untrue, Coeff}
use Rattle.cert_check.specs.Truths.{Holds, is_true_at, IsBefore}
use Rattle.cert_check.specs.steps.Tells.{AllGood}
use Rattle.cert_check.specs.Leaves.{node_in}
use Rattle.cert_check.specs.Numbers.{are_computed, IsComputed}
use Rattle.cert_check.specs.Right.{IsTrueIfGrid, Right, IsWithin128, IsPlainlyComputed, IsNoLeaf, HasNoLeaf, DecidesWell, IsGood}
use Rattle.cert_check.specs.Verdicts.{IsFirstUntrue, IsOutside, IsFault, IsRejected, IsFirstRejected, IsCause, Passes, IsVerdict}
use Rattle.cert_check.proofs.Tellings.{right_of, not_rejected, holds_of}

-- ---- what is right and plainly computed is good

good_decides : (job : Job) (path : Path) (d : Decision) → HasReasons job.range path d → IsTrueIfGrid job path d → IsWithin128 job path d → DecidesWell job path d
good_decides job path (names row d) r t w = tt
good_decides job path (splits row) r t w = w
good_decides job path (states row why) r t w = r
good_decides job path (is_empty why) r t w = r
good_decides job path by_worlds r t w = (w, t)
good_decides job path (by_answers answers) r t w = absurd w

all_good : (job : Job) (nodes : List Node) → ((n : ℕ) (node : Node) → slice_get nodes n ≡ Some node → IsGood job node) → AllGood job nodes
all_good job [] h = tt
all_good job (x ∷ xs) h = (h zero x refl, all_good job xs (λ n node is. h (suc n) node is))

pub right_holds : (job : Job) (cert : Cert) → IsPlainlyComputed job cert → Right job cert → Holds job
right_holds job cert plain right = holds_of job cert (all_good job (nodes_of job.form cert) (λ n node is.
    let h = right.nodes n node is in
    record { shaped = h.shaped; decides = good_decides job node.path node.decision h.reasons h.holds (plain n node is) }))

-- ---- what is good is not rejected, unless it is a leaf

good_within : (job : Job) (path : Path) (d : Decision) → IsNoLeaf d → DecidesWell job path d → IsWithin128 job path d
good_within job path (names row d) leafless h = tt
good_within job path (splits row) leafless h = h
good_within job path (states row why) leafless h = tt
good_within job path (is_empty why) leafless h = tt
good_within job path by_worlds leafless h = h.0
good_within job path (by_answers answers) leafless h = absurd leafless

good_stands : (job : Job) (node : Node) (reject : Reject) → IsNoLeaf node.decision → IsGood job node → IsRejected job node reject → ⊥
good_stands job node reject leafless good h =
    not_rejected job node reject (right_of job node good) (good_within job node.path node.decision leafless good.decides) h

-- ---- one cause of a rejected node

one_first : (job : Job) (path : Path) (a b : World) → IsFirstUntrue job path a → IsFirstUntrue job path b → a ≡ b
one_first job path a b h k = by_order (nat_lt a.w b.w) refl (nat_lt b.w a.w) refl (nat_lt a.s b.s) refl (nat_lt b.s a.s) refl (nat_lt a.h b.h) refl (nat_lt b.h a.h) refl
  where
    a_before : IsBefore a b → a ≡ b
    a_before before = absurd (not_both (is_true_at job a) (k.first a before h.in_range h.on_path) h.untrue)

    b_before : IsBefore b a → a ≡ b
    b_before before = absurd (not_both (is_true_at job b) (h.first b before k.in_range k.on_path) k.untrue)

    by_order : (c : Bool) → nat_lt a.w b.w ≡ c → (d : Bool) → nat_lt b.w a.w ≡ d → (e : Bool) → nat_lt a.s b.s ≡ e → (f : Bool) → nat_lt b.s a.s ≡ f
        → (l : Bool) → nat_lt a.h b.h ≡ l → (m : Bool) → nat_lt b.h a.h ≡ m → a ≡ b
    by_order true c d g e i f j l n m o = a_before (inl (grind (arith, nat_tests)))
    by_order false c true g e i f j l n m o = b_before (inl (grind (arith, nat_tests)))
    by_order false c false g true i f j l n m o = a_before (inr (grind (arith, nat_tests), inl (grind (arith, nat_tests))))
    by_order false c false g false i true j l n m o = b_before (inr (grind (arith, nat_tests), inl (grind (arith, nat_tests))))
    by_order false c false g false i false j true n m o = a_before (inr (grind (arith, nat_tests), inr (grind (arith, nat_tests), grind (arith, nat_tests))))
    by_order false c false g false i false j false n true o = b_before (inr (grind (arith, nat_tests), inr (grind (arith, nat_tests), grind (arith, nat_tests))))
    by_order false c false g false i false j false n false o =
        let same_w : a.w ≡ b.w = grind (arith, nat_tests) in
        let same_s : a.s ≡ b.s = grind (arith, nat_tests) in
        let same_h : a.h ≡ b.h = grind (arith, nat_tests) in
        λ i. record { w = same_w i; s = same_s i; h = same_h i }

-- a number of a grid's path is outside `i128`
abbrev IsSeenOutside : Job → Path → Reject → Type 0
IsSeenOutside job path reject = (reject ≡ Coeff (node_in reject)) × IsOutside job.range path

-- its numbers are not, and its formula is false at a world
abbrev IsSeenUntrue : Job → Path → Reject → Type 0
IsSeenUntrue job path reject = (world : World) × (reject ≡ Untrue (node_in reject) world) × IsComputed job.range path × IsFirstUntrue job path world

-- a number of a denial is outside `i128`, or a line of a derivation over it is wrong
abbrev IsSeenBy : Bool → Option ℕ → Reject → Type 0
IsSeenBy fits fault reject = ((reject ≡ Coeff (node_in reject)) × (fits ≡ false)) ⊎ ((line : ℕ) × (reject ≡ Line (node_in reject) 0 line) × (fits ≡ true) × (fault ≡ Some line))

-- what a fault of a node is that is no leaf
abbrev IsSeen : Job → Path → Decision → Reject → Type 0
IsSeen job path (names row d) reject = ⊥
IsSeen job path (splits row) reject = reject ≡ Coeff (node_in reject)
IsSeen job path (states row why) reject = IsSeenBy (form_fits (denied row)) (first_fault (with_denied (facts job.range path) row) (variables path) why) reject
IsSeen job path (is_empty why) reject = (line : ℕ) × (reject ≡ Line (node_in reject) 0 line) × (first_fault (facts job.range path) (variables path) why ≡ Some line)
IsSeen job path by_worlds reject = IsSeenOutside job path reject ⊎ IsSeenUntrue job path reject
IsSeen job path (by_answers answers) reject = ⊥

seen : (job : Job) (path : Path) (d : Decision) (reject : Reject) → IsNoLeaf d → IsFault job path d reject → IsSeen job path d reject
seen job path (names row d) reject leafless f = absurd f
seen job path (splits row) (Coeff n) leafless f = refl
seen job path (splits row) reject leafless f = absurd f
seen job path (states row why) (Coeff n) leafless f = inl (refl, f)
seen job path (states row why) (Line n number line) leafless f = inr (line, λ i. Line n (f.0 i) line, f.1, f.2)
seen job path (states row why) reject leafless f = absurd f
seen job path (is_empty why) (Line n number line) leafless f = (line, λ i. Line n (f.0 i) line, f.1)
seen job path (is_empty why) reject leafless f = absurd f
seen job path by_worlds (Coeff n) leafless f = inl (refl, f)
seen job path by_worlds (Untrue n world) leafless f = inr (world, refl, f.0, f.1)
seen job path by_worlds reject leafless f = absurd f
seen job path (by_answers answers) reject leafless f = absurd leafless

same_line : (n m : ℕ) (a b : ℕ) → n ≡ m → Some a ≡ Some b → Line n 0 a ≡ Line m 0 b
same_line n m a b e f = λ i. Line (e i) 0 (same_Some a b f i)

not_outside : (job : Job) (path : Path) → IsOutside job.range path → IsComputed job.range path → ⊥
not_outside job path outside computed = not_both (are_computed path outside.world) (computed outside.world outside.inside) outside.outside

one_of_grid : (job : Job) (path : Path) (a b : Reject) → node_in a ≡ node_in b → IsSeen job path by_worlds a → IsSeen job path by_worlds b → a ≡ b
one_of_grid job path a b e (inl h) (inl k) = h.0 ∙ ap Coeff e ∙ sym k.0
one_of_grid job path a b e (inl h) (inr k) = absurd (not_outside job path h.1 k.2)
one_of_grid job path a b e (inr h) (inl k) = absurd (not_outside job path k.1 h.2)
one_of_grid job path a b e (inr h) (inr k) = h.1 ∙ (λ i. Untrue (e i) (one_first job path h.0 k.0 h.3 k.3 i)) ∙ sym k.1

one_of_lemma : (fits : Bool) (fault : Option ℕ) (a b : Reject) → node_in a ≡ node_in b → IsSeenBy fits fault a → IsSeenBy fits fault b → a ≡ b
one_of_lemma fits fault a b e (inl h) (inl k) = h.0 ∙ ap Coeff e ∙ sym k.0
one_of_lemma fits fault a b e (inl h) (inr k) = absurd (not_both fits k.2 h.1)
one_of_lemma fits fault a b e (inr h) (inl k) = absurd (not_both fits h.2 k.1)
one_of_lemma fits fault a b e (inr h) (inr k) = h.1 ∙ same_line (node_in a) (node_in b) h.0 k.0 e (sym h.3 ∙ k.3) ∙ sym k.1

one_seen : (job : Job) (path : Path) (d : Decision) (a b : Reject) → node_in a ≡ node_in b → IsSeen job path d a → IsSeen job path d b → a ≡ b
one_seen job path (names row d) a b e h k = absurd h
one_seen job path (splits row) a b e h k = h ∙ ap Coeff e ∙ sym k
one_seen job path (states row why) a b e h k = one_of_lemma (form_fits (denied row)) (first_fault (with_denied (facts job.range path) row) (variables path) why) a b e h k
one_seen job path (is_empty why) a b e h k = h.1 ∙ same_line (node_in a) (node_in b) h.0 k.0 e (sym h.2 ∙ k.2) ∙ sym k.1
one_seen job path by_worlds a b e h k = one_of_grid job path a b e h k
one_seen job path (by_answers answers) a b e h k = absurd h

abbrev IsBad : Job → Node → Reject → Type 0
IsBad job node reject =
    ((reject ≡ Shape (node_in reject)) × (is_shaped job.range node.path node.decision ≡ false))
    ⊎ ((is_shaped job.range node.path node.decision ≡ true) × IsFault job node.path node.decision reject)

bad : (job : Job) (node : Node) (reject : Reject) → IsRejected job node reject → IsBad job node reject
bad job node (Shape n) h = inl (refl, h)
bad job node OtherJob h = absurd h
bad job node reject h = inr h

one_reject : (job : Job) (node : Node) (a b : Reject) → IsNoLeaf node.decision → node_in a ≡ node_in b → IsRejected job node a → IsRejected job node b → a ≡ b
one_reject job node a b leafless e h k = by_bad (bad job node a h) (bad job node b k)
  where
    by_bad : IsBad job node a → IsBad job node b → a ≡ b
    by_bad (inl h) (inl k) = h.0 ∙ ap Shape e ∙ sym k.0
    by_bad (inl h) (inr k) = absurd (not_both (is_shaped job.range node.path node.decision) k.0 h.1)
    by_bad (inr h) (inl k) = absurd (not_both (is_shaped job.range node.path node.decision) h.0 k.1)
    by_bad (inr h) (inr k) = one_seen job node.path node.decision a b e (seen job node.path node.decision a leafless h.1) (seen job node.path node.decision b leafless k.1)

-- ---- one verdict

module _ (job : Job) (cert : Cert) (none : HasNoLeaf job cert) where
  not_before : (a b : Reject) → IsFirstRejected job cert a → IsFirstRejected job cert b → node_in a < node_in b → ⊥
  not_before a b h k lt =
      good_stands job h.node a (none (node_in a) h.node h.reached.is_node) (k.reached.before (node_in a) h.node lt h.reached.is_node) h.rejected

  one_place : (a b : Reject) → IsFirstRejected job cert a → IsFirstRejected job cert b → node_in a ≡ node_in b
  one_place a b h k = by_order (nat_lt (node_in a) (node_in b)) refl (nat_lt (node_in b) (node_in a)) refl
    where
      by_order : (c : Bool) → nat_lt (node_in a) (node_in b) ≡ c → (d : Bool) → nat_lt (node_in b) (node_in a) ≡ d → node_in a ≡ node_in b
      by_order true e d f = absurd (not_before a b h k (grind (arith, nat_tests)))
      by_order false e true f = absurd (not_before b a k h (grind (arith, nat_tests)))
      by_order false e false f = grind (arith, nat_tests)

  one_named : (a b : Reject) → IsFirstRejected job cert a → IsFirstRejected job cert b → a ≡ b
  one_named a b h k =
      let same = one_place a b h k in
      let node : h.node ≡ k.node = same_Some h.node k.node (sym h.reached.is_node ∙ ap (λ n. slice_get (nodes_of job.form cert) n) same ∙ k.reached.is_node) in
      one_reject job k.node a b (none (node_in b) k.node k.reached.is_node) same (subst (λ (x : Node). IsRejected job x a) node h.rejected) k.rejected

  abbrev IsNamed : Reject → Type 0
  IsNamed reject = ((reject ≡ OtherJob) × (cert.job ≢ job.digest)) ⊎ IsFirstRejected job cert reject

  named : (reject : Reject) → IsCause job cert reject → IsNamed reject
  named OtherJob h = inl (refl, h)
  named reject h = inr h

  one_cause : (a b : Reject) → IsNamed a → IsNamed b → a ≡ b
  one_cause a b (inl h) (inl k) = h.0 ∙ sym k.0
  one_cause a b (inl h) (inr k) = absurd (h.1 k.reached.digest)
  one_cause a b (inr h) (inl k) = absurd (k.1 h.reached.digest)
  one_cause a b (inr h) (inr k) = one_named a b h k

  not_both_named : (reject : Reject) → Passes job cert → IsNamed reject → ⊥
  not_both_named reject passes (inl h) = h.1 passes.right.digest
  not_both_named reject passes (inr h) =
      good_stands job h.node reject (none (node_in reject) h.node h.reached.is_node) (passes.good (node_in reject) h.node h.reached.is_node) h.rejected

  pub one_verdict : (one other : Verdict) → IsVerdict job cert one → IsVerdict job cert other → one ≡ other
  one_verdict Accepted Accepted h k = refl
  one_verdict Accepted (Rejected b) h k = absurd (not_both_named b h (named b k))
  one_verdict (Rejected a) Accepted h k = absurd (not_both_named a k (named a h))
  one_verdict (Rejected a) (Rejected b) h k = ap Rejected (one_cause a b (named a h) (named b k))
