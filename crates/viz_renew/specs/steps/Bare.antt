-- The walk goes down without the lemmas that aren't derived: these say nothing of worlds.
use Rattle.std.specs.Prelude.{Bool, true, false}
use Rattle.viz_base.specs.declared.jobs.Job.{Job}
use Rattle.cert_semantics.specs.Paths.{def, first, second, lemma, Path, root, ◌▸◌}
use Rattle.cert_semantics.specs.Nodes.{Node}
use Rattle.cert_check.specs.declared.verdicts.Reject.{Reject}
use Rattle.cert_check.specs.Right.{IsGood}
use Rattle.cert_check.specs.Verdicts.{IsRejected}

-- a path without its lemmas
abbrev pub bare : Path → Path
bare (root form) = root form
bare (def row d ▸ outer) = def row d ▸ bare outer
bare (first row ▸ outer) = first row ▸ bare outer
bare (second row ▸ outer) = second row ▸ bare outer
bare (lemma row ▸ outer) = bare outer

-- what was found of a node
abbrev pub IsFoundGood : Job → Node → Bool → Type 0
IsFoundGood job node true = IsGood job node
IsFoundGood job node false = (reject : Reject) × IsRejected job node reject
