-- Where a descent is.
use Rattle.cert_semantics.specs.Paths.{Path}
use Rattle.cert_check.specs.declared.descent.Descent.{Descent}
use Rattle.cert_check.specs.steps.Descent.{path_of}

-- the path down from the root of a certificate for the job
abbrev pub path_at : Descent → Path
path_at descent = path_of descent.job.now.form descent.above
