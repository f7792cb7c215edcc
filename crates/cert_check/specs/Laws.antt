-- Laws over certificates.
use Rattle.std.specs.Prelude.{◌≡◌, ◌↔◌, ℕ, List, IsTrue}
use Rattle.viz_base.specs.declared.jobs.Job.{Job}
use Rattle.lin_proof.specs.Form.{Form}
use Rattle.cert_text.specs.declared.certificate.Cert.{Cert}
use Rattle.cert_text.specs.Texts.{CertText}
use Rattle.cert_semantics.specs.Laws.{IsUnit}
use Rattle.cert_check.specs.declared.verdicts.Verdict.{Verdict}
use Rattle.cert_semantics.specs.Units.{is_unit}
use Rattle.cert_check.specs.Truths.{Holds}
use Rattle.cert_check.specs.Right.{Right, IsPlainlyComputed, HasNoLeaf, AreUnitsAndGrids}
use Rattle.cert_check.specs.Verdicts.{IsVerdict}

-- a job holds for which some certificate is right that is plainly computed
abbrev pub RightHolds : Type 0
RightHolds = (job : Job) (cert : Cert) → IsPlainlyComputed job cert → Right job cert → Holds job

-- a certificate without leaves has one verdict
abbrev pub OneVerdict : Type 0
OneVerdict = (job : Job) (cert : Cert) → HasNoLeaf job cert
    → (one other : Verdict) → IsVerdict job cert one → IsVerdict job cert other → one ≡ other

-- the rows by which a rectangle is cut are those of one variable, which stands for an axis of the form, and the
-- coefficient 1 or -1
abbrev pub UnitIsUnitRow : Type 0
UnitIsUnitRow = (form : ℕ) (row : Form) → IsTrue (is_unit form row) ↔ IsUnit form row

-- a certificate of unit splits and grids that has a text is plainly computed
abbrev pub UnitsArePlain : Type 0
UnitsArePlain = (job : Job) (cert : Cert) (text : List ℕ) → CertText cert text → AreUnitsAndGrids job cert
    → IsPlainlyComputed job cert
