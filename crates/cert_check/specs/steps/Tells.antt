-- What the walk over a certificate tells of its nodes.
use Rattle.std.specs.Prelude.{◌≡◌, ◌⊎◌, ℕ, ◌+◌, List, [], ◌∷◌, Result, Ok, Err, ⊤}
use Rattle.std.specs.List.{AllByRecursion}
use Rattle.viz_base.specs.declared.jobs.Job.{Job}
use Rattle.cert_semantics.specs.Nodes.{Node}
use Rattle.cert_check.specs.declared.verdicts.Reject.{Reject}
use Rattle.cert_check.specs.declared.walk.Stop.{Stop}
use Rattle.cert_check.specs.declared.walk.Stop.TheVariants.{Mem, Rejected}
use Rattle.cert_check.specs.Leaves.{node_in}
use Rattle.cert_check.specs.Right.{IsGood}
use Rattle.cert_check.specs.Verdicts.{IsRejected}

-- ---- one node

-- what is said of a node of a number
unfoldable pub Judges : {A : Type 0} → Job → Node → ℕ → Result A Stop → Type 0
Judges job node n (Ok done) = IsGood job node
Judges job node n (Err Mem) = ⊤
Judges job node n (Err (Rejected reject)) = (node_in reject ≡ n) × IsRejected job node reject

-- ---- nodes in their order, numbered from n on

abbrev pub AllGood : Job → List Node → Type 0
AllGood job = AllByRecursion (IsGood job)

-- a node is rejected so, and each before it is good
abbrev pub Rejects : Job → List Node → ℕ → Reject → Type 0
Rejects job [] n reject = ⊥
Rejects job (x ∷ xs) n reject = ((node_in reject ≡ n) × IsRejected job x reject)
    ⊎ (IsGood job x × Rejects job xs (n + 1) reject)

unfoldable pub Tells : Job → List Node → ℕ → Result ℕ Stop → Type 0
Tells job nodes n (Ok next) = AllGood job nodes
Tells job nodes n (Err Mem) = ⊤
Tells job nodes n (Err (Rejected reject)) = Rejects job nodes n reject
