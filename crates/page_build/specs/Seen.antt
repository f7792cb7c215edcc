-- What definitions see of the code's parts of a job.
use Rattle.std.specs.Prelude.{◌≡◌, ℕ, List, Option, None, Result, Ok, Err, get_or}
use Rattle.sha2.specs.Sha256.{sha256}
use Rattle.viz_base.specs.declared.formulas.Formula.{Formula}
use Rattle.viz_base.specs.declared.jobs.Job.{Job}
use Rattle.viz_base.specs.declared.sheets.Sheet.{Sheet}
use Rattle.viz_base.specs.declared.trees.BoxTree.{BoxTree}
use Rattle.viz_base.specs.declared.nodes.Node.{Node}
use Rattle.css_semantics.specs.Winners.{AreWinners}
use Rattle.page_boxes.specs.Trees.{lists_of}
use Rattle.page_json.specs.declared.faults.JobFault.{JobFault}
use Rattle.page_json.specs.Jobs.{Raw, raw_of}
use Rattle.page_pseudo.specs.Grown.{Written}
use Rattle.page_pseudo.specs.Growth.{Growth}
use Rattle.page_build.specs.Jobs.{HasBoxes, HaveFeatures, IsRefusedCss}
use Rattle.page_build.specs.Refusals.{of_file}
use Rattle.page_build.specs.Renumbering.{number_in}
use Rattle.page_build.specs.declared.building.Laid.{Laid}
use Rattle.page_build.specs.declared.faults.JobRefusal.{JobRefusal}
use Rattle.page_build.specs.declared.files.JobFile.{JobFile}
use Rattle.page_build.specs.declared.winning.Winning.{Winning}

-- a page as it is written, with what wins on it
abbrev pub written_on : List Node → Winning → Written
written_on nodes w = record {
  nodes = nodes;
  own = w.own.winners;
  before = w.before.winners;
  after = w.after.winners;
}

pub record AreAllWinners (nodes : List Node) (w : Winning) : Type 0 where
  pub own : AreWinners nodes w.own.winners
  pub before : AreWinners nodes w.before.winners
  pub after : AreWinners nodes w.after.winners

-- a table of the numbers of nodes in the grown page, of which `from` tells the numbers on the page as it is written
abbrev pub number_at : List (Option ℕ) → ℕ → Option ℕ
number_at numbers node = get_or numbers node None

abbrev pub AreNumbers : List (Option ℕ) → List (Option ℕ) → Type 0
AreNumbers from numbers = (node : ℕ) → number_at numbers node ≡ number_in from node

-- ---- files

-- the sheets of a file are those of its texts, and its features are those that they ask for
abbrev pub IsAsked : JobFile → Type 0
IsAsked file = HaveFeatures file.raw.css file.sheets.items file.features

-- what the bytes of a job file say, which are read as this
pub record IsFileOf (said : Result Raw JobFault) (bytes : List ℕ) (file : JobFile) : Type 0 where
  pub read : said ≡ Ok (raw_of file.raw)
  pub digest : file.digest ≡ sha256 bytes
  pub asked : IsAsked file

-- why what is read says nothing, or nothing that can be asked
pub data IsUnread (said : Result Raw JobFault) : JobRefusal → Type 0 where
  file : {why : JobFault} → said ≡ Err why → IsUnread said (of_file why)
  css : {raw : Raw} {refusal : JobRefusal} → said ≡ Ok raw → IsRefusedCss raw.css refusal
      → IsUnread said refusal

-- ---- jobs

-- what these sheets make of what a file says
pub record IsLaid (raw : Raw) (sheets : List Sheet) (laid : Laid) : Type 0 where
  pub grown : Growth
  pub boxes : HasBoxes raw sheets grown (Ok (lists_of laid.tree))
  pub from : laid.from ≡ grown.2

-- what the file says, with these boxes and this assertion
pub record IsJobWith (file : JobFile) (boxes : BoxTree) (assertion : Formula) (job : Job) : Type 0 where
  pub digest : job.digest ≡ file.digest
  pub form : job.form ≡ file.raw.form
  pub range : job.range ≡ file.raw.range
  pub tree : job.tree ≡ boxes
  pub formula : job.formula ≡ assertion
