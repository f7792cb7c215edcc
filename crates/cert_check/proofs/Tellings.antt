-- From what the walk tells of nodes to the verdict on a certificate.
use Rattle.std.proofs.Common.{◌≡◌, ℕ, zero, suc, ◌+◌, ◌<◌, Bool, true, false, not, nat_eq, ℤ, List, [], ◌∷◌, ◌++◌, length, Some, Result, Ok, Err, refl, sym, ◌∙◌, ap, subst, arith, inl, inr, IsTrue, rules, length-append}
use Rattle.std.specs.Prelude.{slice_get}
use Rattle.std.specs.Cmp.Lexicographic.{pointwise, same_text}
use Rattle.std.specs.List.{AllByRecursion}
use Rattle.std.proofs.lemmas.Option.{same_Some}
use Rattle.viz_base.specs.declared.worlds.World.{World}
use Rattle.viz_base.specs.declared.jobs.Job.{Job}
use Rattle.viz_base.proofs.Truths.{not_both}
use Rattle.viz_base.proofs.ListLemmas.{all_append}
use Rattle.viz_base.specs.Worlds.{IsInRange}
use Rattle.lin_proof.specs.Form.{Form, form_fits, denied}
use Rattle.lin_proof.specs.declared.derivation.Derivation.{Derivation}
use Rattle.cert_text.specs.declared.certificate.Cert.{Cert}
use Rattle.cert_text.specs.declared.certificate.CertNode.{CertNode}
use Rattle.cert_text.specs.declared.certificate.CertNode.TheVariants.{Def, Split, Lemma}
use Rattle.cert_text.specs.declared.certificate.CertNode.TheViews.{the_lemmas}
use Rattle.cert_text.specs.declared.certificate.CertNode.TheFolds.{fold-roll-CertNode, fold_out-CertNode}
use Rattle.cert_text.specs.Nodes.{node_count}
use Rattle.cert_semantics.specs.Paths.{def, first, second, lemma, Path, root, ◌▸◌, IsOn}
use Rattle.cert_semantics.specs.Nodes.{Decision, names, splits, states, is_empty, by_worlds, by_answers, is_laid_out, Node, node_on, nodes_from, nodes_of}
use Rattle.cert_semantics.specs.Shapes.{is_shaped}
use Rattle.cert_semantics.specs.Derived.{HasReasons, IsReasoned}
use Rattle.cert_semantics.proofs.Trees.{preorder, by_nodes, nodes-def, nodes-split, nodes-lemma, nodes-void, nodes-grid, nodes-leaf}
use Rattle.cert_semantics.proofs.LaidOut.{one_laid_out}
use Rattle.cert_check.specs.declared.verdicts.Verdict.TheVariants.{Accepted}
use Rattle.cert_check.specs.declared.verdicts.Reject.{Reject}
use Rattle.cert_check.specs.declared.verdicts.Reject.TheVariants.{OtherJob, Shape, Line, Untrue, Unmet, Differs, Short, Left, Coeff}
use Rattle.cert_check.specs.declared.walk.Stop.{Stop}
use Rattle.cert_check.specs.declared.walk.Stop.TheVariants as of_stop
use Rattle.cert_check.specs.Truths.{Holds, is_true_at}
use Rattle.cert_check.specs.steps.Tells.{Judges, AllGood, Rejects, Tells}
use Rattle.cert_check.specs.Leaves.{node_in}
use Rattle.cert_check.specs.Right.{IsTrueIfGrid, IsRightNode, Right, IsWithin128, IsPlainlyComputed, DecidesWell, IsGood}
use Rattle.cert_check.specs.Numbers.{are_computed}
use Rattle.cert_check.specs.Verdicts.{IsFault, IsRejected, IsFirstRejected, IsCause, IsVerdict}
use Rattle.cert_check.proofs.Judging.{is_judged}

-- ---- nodes in their order

rejects_first : (job : Job) (xs ys : List Node) (n : ℕ) (reject : Reject) → Rejects job xs n reject → Rejects job (xs ++ ys) n reject
rejects_first job [] ys n reject h = absurd h
rejects_first job (x ∷ xs) ys n reject (inl bad) = inl bad
rejects_first job (x ∷ xs) ys n reject (inr h) = inr (h.0, rejects_first job xs ys (n + 1) reject h.1)

rejects_second : (job : Job) (xs ys : List Node) (n m : ℕ) (reject : Reject) → m ≡ n + length xs → AllGood job xs → Rejects job ys m reject → Rejects job (xs ++ ys) n reject
rejects_second job [] ys n m reject e good h = let same : m ≡ n = omega arith in subst (λ k. Rejects job ys k reject) same h
rejects_second job (x ∷ xs) ys n m reject e good h = inr (good.0, rejects_second job xs ys (n + 1) m reject (omega arith) good.1 h)

pub tells_head : (job : Job) (x : Node) (xs : List Node) (n : ℕ) (stop : Stop) → Judges {A = Unit {0}} job x n (Err stop) → Tells job (x ∷ xs) n (Err stop)
unfolding Judges Tells
tells_head job x xs n of_stop.Mem h = tt
tells_head job x xs n (of_stop.Rejected reject) h = inl h

pub tells_rest : (job : Job) (x : Node) (xs : List Node) (n : ℕ) (answer : Result ℕ Stop) → IsGood job x → Tells job xs (n + 1) answer → Tells job (x ∷ xs) n answer
unfolding Tells
tells_rest job x xs n (Ok next) good h = (good, h)
tells_rest job x xs n (Err of_stop.Mem) good h = tt
tells_rest job x xs n (Err (of_stop.Rejected reject)) good h = inr (good, h)

pub tells_first : (job : Job) (xs ys : List Node) (n : ℕ) (stop : Stop) → Tells job xs n (Err stop) → Tells job (xs ++ ys) n (Err stop)
unfolding Tells
tells_first job xs ys n of_stop.Mem h = tt
tells_first job xs ys n (of_stop.Rejected reject) h = rejects_first job xs ys n reject h

pub tells_second : (job : Job) (xs ys : List Node) (n m : ℕ) (answer : Result ℕ Stop) → m ≡ n + length xs → AllGood job xs → Tells job ys m answer → Tells job (xs ++ ys) n answer
unfolding Tells
tells_second job xs ys n m (Ok next) e good h = all_append (IsGood job) xs ys good h
tells_second job xs ys n m (Err of_stop.Mem) e good h = tt
tells_second job xs ys n m (Err (of_stop.Rejected reject)) e good h = rejects_second job xs ys n m reject e good h

pub tells_good : (job : Job) (nodes : List Node) (n next : ℕ) → Tells job nodes n (Ok next) → AllGood job nodes
unfolding Tells
tells_good job nodes n next h = h

pub tells_one : {A : Type 0} (job : Job) (x : Node) (n next : ℕ) (done : A) → Judges job x n (Ok done) → Tells job (x ∷ []) n (Ok next)
unfolding Judges Tells
tells_one job x n next done good = (good, tt)

pub tells_mem : (job : Job) (nodes : List Node) (n : ℕ) → Tells job nodes n (Err of_stop.Mem)
unfolding Tells
tells_mem job nodes n = tt

pub tells_bad : (job : Job) (nodes : List Node) (n : ℕ) (reject : Reject) → Tells job nodes n (Err (of_stop.Rejected reject)) → Rejects job nodes n reject
unfolding Tells
tells_bad job nodes n reject h = h

-- ---- how many nodes there are

pub count-Def : (row : Form) (d : ℤ) (below : CertNode) → node_count (Def row d below) ≡ 1 + node_count below
count-Def row d below = search (rules, the_lemmas, fold-roll-CertNode, fold_out-CertNode)

pub count-Split : (row : Form) (one other : CertNode) → node_count (Split row one other) ≡ 1 + (node_count one + node_count other)
count-Split row one other = search (rules, the_lemmas, fold-roll-CertNode, fold_out-CertNode)

pub count-Lemma : (row : Form) (why : Derivation) (below : CertNode) → node_count (Lemma row why below) ≡ 1 + node_count below
count-Lemma row why below = search (rules, the_lemmas, fold-roll-CertNode, fold_out-CertNode)

pub count_is : (node : CertNode) (path : Path) → length (nodes_from node path) ≡ node_count node
count_is = by_nodes (λ node. (path : Path) → length (nodes_from node path) ≡ node_count node) (record {
  def = λ row d below one path. rw (nodes-def, fold-roll-CertNode) (omega (arith, one (def row d ▸ path)));
  split = λ row one other h k path. rw (nodes-split, fold-roll-CertNode) (omega (arith, length-append (nodes_from one (first row ▸ path)) (nodes_from other (second row ▸ path)), h (first row ▸ path), k (second row ▸ path)));
  lemma = λ row why below one path. rw (nodes-lemma, fold-roll-CertNode) (omega (arith, one (lemma row ▸ path)));
  void = λ why path. rw (nodes-void, fold-roll-CertNode) refl;
  grid = λ path. rw (nodes-grid, fold-roll-CertNode) refl;
  leaf = λ answers path. rw (nodes-leaf, fold-roll-CertNode) refl;
})

-- ---- two parts, one after the other

module _ (job now : Job) (path back : Path) (row : Form) (one other : CertNode) (n next : ℕ) (same : now ≡ job) (stays : back ≡ path) where
  pub both_told : next ≡ n + node_count one → Tells job (nodes_from one (first row ▸ path)) n (Ok next) → (answer : Result ℕ Stop)
      → Tells now (nodes_from other (second row ▸ back)) next answer → Tells job (nodes_from one (first row ▸ path) ++ nodes_from other (second row ▸ path)) n answer
  both_told is told answer more =
      tells_second job (nodes_from one (first row ▸ path)) (nodes_from other (second row ▸ path)) n next answer (let count = count_is one (first row ▸ path) in omega arith)
      (tells_good job (nodes_from one (first row ▸ path)) n next told)
      (subst (λ j. Tells j (nodes_from other (second row ▸ path)) next answer) same (subst (λ p. Tells now (nodes_from other (second row ▸ p)) next answer) stays more))

-- ---- a node and what is below it

module _ (job : Job) (node : CertNode) (path : Path) (d : Decision) (rest : List Node) (are : nodes_from node path ≡ node_on path d ∷ rest) (n : ℕ) where
  pub head_told : (stop : Stop) → Judges {A = Unit {0}} job (node_on path d) n (Err stop) → Tells job (nodes_from node path) n (Err stop)
  head_told stop h = subst (λ nodes. Tells job nodes n (Err stop)) (sym are) (tells_head job (node_on path d) rest n stop h)

  pub rest_told : (answer : Result ℕ Stop) → Judges {A = Unit {0}} job (node_on path d) n (Ok tt) → Tells job rest (n + 1) answer → Tells job (nodes_from node path) n answer
  rest_told answer h told = subst (λ nodes. Tells job nodes n answer) (sym are) (tells_rest job (node_on path d) rest n answer (is_judged job (node_on path d) n tt h) told)

module _ (node : CertNode) (path : Path) where
  pub def_nodes : (row : Form) (d : ℤ) (below : CertNode) → node ≡ Def row d below → nodes_from node path ≡ node_on path (names row d) ∷ nodes_from below (def row d ▸ path)
  def_nodes row d below is = ap (λ x. nodes_from x path) is ∙ preorder.def row d below path

  pub split_nodes : (row : Form) (one other : CertNode) → node ≡ Split row one other → nodes_from node path ≡ node_on path (splits row) ∷ (nodes_from one (first row ▸ path) ++ nodes_from other (second row ▸ path))
  split_nodes row one other is = ap (λ x. nodes_from x path) is ∙ preorder.split row one other path

  pub lemma_nodes : (row : Form) (why : Derivation) (below : CertNode) → node ≡ Lemma row why below → nodes_from node path ≡ node_on path (states row why) ∷ nodes_from below (lemma row ▸ path)
  lemma_nodes row why below is = ap (λ x. nodes_from x path) is ∙ preorder.lemma row why below path

-- ---- nodes by number

pub at_number : (P : Node → Type 0) (nodes : List Node) → AllByRecursion P nodes → (n : ℕ) (node : Node) → slice_get nodes n ≡ Some node → P node
at_number P [] h n node is = absurd (cc)
at_number P (x ∷ xs) h zero node is = subst P (same_Some x node is) h.0
at_number P (x ∷ xs) h (suc n) node is = at_number P xs h.1 n node is

record IsFirstBad (job : Job) (nodes : List Node) (n : ℕ) (reject : Reject) : Type 0 where
  pub place : ℕ
  pub node : Node
  pub is_node : slice_get nodes place ≡ Some node
  pub before : (k : ℕ) (other : Node) → k < place → slice_get nodes k ≡ Some other → IsGood job other
  pub number : node_in reject ≡ n + place
  pub rejected : IsRejected job node reject

first_bad : (job : Job) (nodes : List Node) (n : ℕ) (reject : Reject) → Rejects job nodes n reject → IsFirstBad job nodes n reject
first_bad job [] n reject h = absurd h
first_bad job (x ∷ xs) n reject (inl bad) = record {
  place = 0;
  node = x;
  is_node = refl;
  before = λ k other lt is. absurd (omega arith);
  number = let same = bad.0 in omega arith;
  rejected = bad.1;
}
first_bad job (x ∷ xs) n reject (inr h) = further (first_bad job xs (n + 1) reject h.1)
  where
    further : IsFirstBad job xs (n + 1) reject → IsFirstBad job (x ∷ xs) n reject
    further rest = record {
      place = suc rest.place;
      node = rest.node;
      is_node = rest.is_node;
      before = before;
      number = let same = rest.number in omega arith;
      rejected = rest.rejected;
    }
      where
        before : (k : ℕ) (other : Node) → k < suc rest.place → slice_get (x ∷ xs) k ≡ Some other → IsGood job other
        before zero other lt is = subst (λ y. IsGood job y) (same_Some x other is) h.0
        before (suc k) other lt is = rest.before k other (omega arith) is

-- ---- digests

pub same_digest : (xs ys : List ℕ) → false ≡ not (pointwise nat_eq xs ys) → xs ≡ ys
same_digest xs ys h = same_text xs ys (by_test (pointwise nat_eq xs ys) h)
  where
    by_test : (b : Bool) → false ≡ not b → true ≡ b
    by_test true h = refl
    by_test false h = absurd (cc)

-- ---- the verdict

pub cause_of : (job : Job) (cert : Cert) (reject : Reject) → cert.job ≡ job.digest → Rejects job (nodes_of job.form cert) 0 reject → IsCause job cert reject
cause_of job cert reject same h = by_reject reject (first_bad job (nodes_of job.form cert) 0 reject h)
  where
    named : (r : Reject) → IsFirstBad job (nodes_of job.form cert) 0 r → IsFirstRejected job cert r
    named r bad =
        let number : bad.place ≡ node_in r = let e = bad.number in omega arith in
        record {
          node = bad.node;
          reached = record {
            digest = same;
            is_node = subst (λ k. slice_get (nodes_of job.form cert) k ≡ Some bad.node) number bad.is_node;
            before = λ k other lt is. bad.before k other (let e = number in omega arith) is;
          };
          rejected = bad.rejected;
        }

    by_reject : (r : Reject) → IsFirstBad job (nodes_of job.form cert) 0 r → IsCause job cert r
    by_reject OtherJob bad = absurd bad.rejected
    by_reject (Shape n) bad = named (Shape n) bad
    by_reject (Line n number line) bad = named (Line n number line) bad
    by_reject (Untrue n world) bad = named (Untrue n world) bad
    by_reject (Unmet n) bad = named (Unmet n) bad
    by_reject (Differs n number ours theirs) bad = named (Differs n number ours theirs) bad
    by_reject (Short n) bad = named (Short n) bad
    by_reject (Left n count) bad = named (Left n count) bad
    by_reject (Coeff n) bad = named (Coeff n) bad

good_reasons : (job : Job) (path : Path) (decision : Decision) → DecidesWell job path decision → HasReasons job.range path decision
good_reasons job path (names row d) h = tt
good_reasons job path (splits row) h = tt
good_reasons job path (states row why) h = h
good_reasons job path (is_empty why) h = h
good_reasons job path by_worlds h = tt
good_reasons job path (by_answers answers) h = h.1

good_truth : (job : Job) (path : Path) (decision : Decision) → DecidesWell job path decision → IsTrueIfGrid job path decision
good_truth job path (names row d) h = tt
good_truth job path (splits row) h = tt
good_truth job path (states row why) h = tt
good_truth job path (is_empty why) h = tt
good_truth job path by_worlds h = h.1
good_truth job path (by_answers answers) h = tt

pub right_of : (job : Job) (node : Node) → IsGood job node → IsRightNode job node
right_of job node good = record {
  shaped = good.shaped;
  reasons = good_reasons job node.path node.decision good.decides;
  holds = good_truth job node.path node.decision good.decides;
}

pub is_right : (job : Job) (cert : Cert) → cert.job ≡ job.digest → AllGood job (nodes_of job.form cert) → Right job cert
is_right job cert same good = record { digest = same; nodes = λ n node is. right_of job node (at_number (IsGood job) (nodes_of job.form cert) good n node is) }

-- where each node is good, the formula is true at each world of the range
laid_out_true : (job : Job) (node : Node) (world : World) → IsGood job node → IsTrue (is_laid_out node.decision) → IsInRange job.range world → IsOn node.path world → is_true_at job world ≡ true
laid_out_true job node world good laid in_range on = by_decision node.decision good.decides laid
  where
    by_decision : (d : Decision) → DecidesWell job node.path d → IsTrue (is_laid_out d) → is_true_at job world ≡ true
    by_decision (names row d) h l = absurd (cc)
    by_decision (splits row) h l = absurd (cc)
    by_decision (states row why) h l = absurd (cc)
    by_decision (is_empty why) h l = absurd (cc)
    by_decision by_worlds h l = h.1 world in_range on
    by_decision (by_answers answers) h l = h.0 world in_range on

pub holds_of : (job : Job) (cert : Cert) → AllGood job (nodes_of job.form cert) → Holds job
holds_of job cert good world in_range =
    let reasoned : IsReasoned job.form job.range cert = record {
      shaped = λ n node is. (at_number (IsGood job) (nodes_of job.form cert) good n node is).shaped;
      reasons = λ n node is. good_reasons job node.path node.decision (at_number (IsGood job) (nodes_of job.form cert) good n node is).decides;
    } in
    let end = (one_laid_out job.form job.range cert reasoned world in_range).1.0 in
    laid_out_true job end.node world (at_number (IsGood job) (nodes_of job.form cert) good (one_laid_out job.form job.range cert reasoned world in_range).0 end.node end.is_node) end.laid_out in_range end.on_path

-- ---- the answer of the walk from the root

abbrev IsTold : Job → Cert → Path → Result ℕ Stop → Type 0
IsTold job cert path answer = (path ≡ root job.form) × (cert.job ≡ job.digest) × Tells job (nodes_from cert.root path) 0 answer

at_root : (job : Job) (cert : Cert) (path : Path) (answer : Result ℕ Stop) → IsTold job cert path answer → Tells job (nodes_of job.form cert) 0 answer
at_root job cert path answer h = subst (λ p. Tells job (nodes_from cert.root p) 0 answer) h.0 h.2

pub accepts : (job : Job) (cert : Cert) (path : Path) (next : ℕ) → IsTold job cert path (Ok next) → IsVerdict job cert Accepted
accepts job cert path next h =
    let good = tells_good job (nodes_of job.form cert) 0 next (at_root job cert path (Ok next) h) in
    record { right = is_right job cert h.1 good; holds = holds_of job cert good; good = at_number (IsGood job) (nodes_of job.form cert) good }

pub rejects : (job : Job) (cert : Cert) (path : Path) (reject : Reject) → IsTold job cert path (Err (of_stop.Rejected reject)) → IsCause job cert reject
rejects job cert path reject h = cause_of job cert reject h.1 (tells_bad job (nodes_of job.form cert) 0 reject (at_root job cert path (Err (of_stop.Rejected reject)) h))

-- ---- certificates that are computed without leaves

-- a node that is right and within `i128` is not rejected
pub no_fault : (job : Job) (path : Path) (d : Decision) (reject : Reject) → HasReasons job.range path d → IsTrueIfGrid job path d → IsWithin128 job path d → IsFault job path d reject → ⊥
no_fault job path (names row d) reject r t w f = absurd f
no_fault job path (splits row) OtherJob r t w f = absurd f
no_fault job path (splits row) (Shape n) r t w f = absurd f
no_fault job path (splits row) (Line n number line) r t w f = absurd f
no_fault job path (splits row) (Untrue n world) r t w f = absurd f
no_fault job path (splits row) (Unmet n) r t w f = absurd f
no_fault job path (splits row) (Differs n number ours theirs) r t w f = absurd f
no_fault job path (splits row) (Short n) r t w f = absurd f
no_fault job path (splits row) (Left n count) r t w f = absurd f
no_fault job path (splits row) (Coeff n) r t w f = not_both (form_fits (denied row)) w f
no_fault job path (states row why) OtherJob r t w f = absurd f
no_fault job path (states row why) (Shape n) r t w f = absurd f
no_fault job path (states row why) (Line n number line) r t w f = absurd (cc (r.1, f.2))
no_fault job path (states row why) (Untrue n world) r t w f = absurd f
no_fault job path (states row why) (Unmet n) r t w f = absurd f
no_fault job path (states row why) (Differs n number ours theirs) r t w f = absurd f
no_fault job path (states row why) (Short n) r t w f = absurd f
no_fault job path (states row why) (Left n count) r t w f = absurd f
no_fault job path (states row why) (Coeff n) r t w f = not_both (form_fits (denied row)) r.0 f
no_fault job path (is_empty why) OtherJob r t w f = absurd f
no_fault job path (is_empty why) (Shape n) r t w f = absurd f
no_fault job path (is_empty why) (Line n number line) r t w f = absurd (cc (r, f.1))
no_fault job path (is_empty why) (Untrue n world) r t w f = absurd f
no_fault job path (is_empty why) (Unmet n) r t w f = absurd f
no_fault job path (is_empty why) (Differs n number ours theirs) r t w f = absurd f
no_fault job path (is_empty why) (Short n) r t w f = absurd f
no_fault job path (is_empty why) (Left n count) r t w f = absurd f
no_fault job path (is_empty why) (Coeff n) r t w f = absurd f
no_fault job path by_worlds OtherJob r t w f = absurd f
no_fault job path by_worlds (Shape n) r t w f = absurd f
no_fault job path by_worlds (Line n number line) r t w f = absurd f
no_fault job path by_worlds (Untrue n world) r t w f = not_both (is_true_at job world) (t world f.1.in_range f.1.on_path) f.1.untrue
no_fault job path by_worlds (Unmet n) r t w f = absurd f
no_fault job path by_worlds (Differs n number ours theirs) r t w f = absurd f
no_fault job path by_worlds (Short n) r t w f = absurd f
no_fault job path by_worlds (Left n count) r t w f = absurd f
no_fault job path by_worlds (Coeff n) r t w f = not_both (are_computed path f.world) (w f.world f.inside) f.outside
no_fault job path (by_answers answers) reject r t w f = absurd w

pub not_rejected : (job : Job) (node : Node) (reject : Reject) → IsRightNode job node → IsWithin128 job node.path node.decision → IsRejected job node reject → ⊥
not_rejected job node OtherJob right w f = absurd f
not_rejected job node (Shape n) right w f = not_both (is_shaped job.range node.path node.decision) right.shaped f
not_rejected job node (Line n number line) right w f = no_fault job node.path node.decision (Line n number line) right.reasons right.holds w f.1
not_rejected job node (Untrue n world) right w f = no_fault job node.path node.decision (Untrue n world) right.reasons right.holds w f.1
not_rejected job node (Unmet n) right w f = no_fault job node.path node.decision (Unmet n) right.reasons right.holds w f.1
not_rejected job node (Differs n number ours theirs) right w f = no_fault job node.path node.decision (Differs n number ours theirs) right.reasons right.holds w f.1
not_rejected job node (Short n) right w f = no_fault job node.path node.decision (Short n) right.reasons right.holds w f.1
not_rejected job node (Left n count) right w f = no_fault job node.path node.decision (Left n count) right.reasons right.holds w f.1
not_rejected job node (Coeff n) right w f = no_fault job node.path node.decision (Coeff n) right.reasons right.holds w f.1

named_not_right : (job : Job) (cert : Cert) (reject : Reject) → IsFirstRejected job cert reject → IsPlainlyComputed job cert → Right job cert → ⊥
named_not_right job cert reject h plain right =
    not_rejected job h.node reject (right.nodes (node_in reject) h.node h.reached.is_node) (plain (node_in reject) h.node h.reached.is_node) h.rejected

pub cause_not_right : (job : Job) (cert : Cert) (reject : Reject) → IsCause job cert reject → IsPlainlyComputed job cert → Right job cert → ⊥
cause_not_right job cert OtherJob h plain right = absurd (h right.digest)
cause_not_right job cert (Shape n) h plain right = named_not_right job cert (Shape n) h plain right
cause_not_right job cert (Line n number line) h plain right = named_not_right job cert (Line n number line) h plain right
cause_not_right job cert (Untrue n world) h plain right = named_not_right job cert (Untrue n world) h plain right
cause_not_right job cert (Unmet n) h plain right = named_not_right job cert (Unmet n) h plain right
cause_not_right job cert (Differs n number ours theirs) h plain right = named_not_right job cert (Differs n number ours theirs) h plain right
cause_not_right job cert (Short n) h plain right = named_not_right job cert (Short n) h plain right
cause_not_right job cert (Left n count) h plain right = named_not_right job cert (Left n count) h plain right
cause_not_right job cert (Coeff n) h plain right = named_not_right job cert (Coeff n) h plain right
