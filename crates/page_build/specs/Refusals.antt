-- Which refusal of a job the refusal of a part of it is.
use Rattle.std.specs.Prelude.{◌≡◌, ℕ, ◌-◌, ◌&&◌, nat_le, List, length, map, take, drop, if◌then◌else◌}
use Rattle.std.specs.List.{prefix_len, suffix_len}
use Rattle.std.specs.Char.{is_ascii_whitespace}
use Rattle.viz_base.specs.declared.nodes.Node.{Node}
use Rattle.css_semantics.specs.Cascade.{Fault, selector_at, value_at}
use Rattle.css_semantics.specs.SheetsReading.{Refusal, import_at, media_at, too_many}
use Rattle.css_semantics.specs.Sources.{IsValueAt}
use Rattle.layout_semantics.specs.Refusals.{BoxRefusal}
use Rattle.page_json.specs.declared.faults.JobFault.{JobFault}
use Rattle.page_json.specs.declared.faults.JobFault.TheVariants as of_fault
use Rattle.page_media.specs.declared.faults.MediaFault.{MediaFault}
use Rattle.page_media.specs.declared.faults.MediaFault.TheVariants as of_queries
use Rattle.page_pseudo.specs.declared.fault.GrowFault.{GrowFault}
use Rattle.page_pseudo.specs.declared.fault.GrowFault.TheVariants as of_grow
use Rattle.page_boxes.specs.declared.faults.BoxFault.{BoxFault}
use Rattle.page_boxes.specs.declared.faults.BoxFault.TheVariants as of_box
use Rattle.vis_read.specs.declared.faults.FormulaFault.{FormulaFault}
use Rattle.vis_read.specs.declared.faults.FormulaFault.TheVariants as of_text
use Rattle.page_build.specs.Sheets.{IsFirstRefused}
use Rattle.page_build.specs.declared.faults.JobRefusal.{JobRefusal}
use Rattle.page_build.specs.declared.faults.JobRefusal.TheVariants.{Mem, NotJson, Shape, Limit, Range, Import, MediaQuery, TooManyRules, TooManyQueries, TooManyParts, Selector, Value, Generated, BlockInInline, RightToLeft, TooManyBoxes, Reach, Bad, Unbound, TooDeep}

-- of its file
abbrev pub of_file : JobFault → JobRefusal
of_file of_fault.Mem = Mem
of_file of_fault.NotJson = NotJson
of_file (of_fault.Shape part place) = Shape part place
of_file (of_fault.Limit which count) = Limit which count
of_file of_fault.Range = Range

-- of the author's sheet of this number
abbrev pub of_sheet : ℕ → Refusal → JobRefusal
of_sheet number (import_at place) = Import number place
of_sheet number (media_at place) = MediaQuery number place
of_sheet number too_many = TooManyRules number

-- of the first of these texts that is refused as a sheet
abbrev pub IsSheetRefusal : List (List ℕ) → JobRefusal → Type 0
IsSheetRefusal css refusal = (number : ℕ) × (why : Refusal) × IsFirstRefused css number why
    × (refusal ≡ of_sheet number why)

-- of its width queries
abbrev pub of_media : MediaFault → JobRefusal
of_media of_queries.Mem = Mem
of_media (of_queries.TooManyQueries number place) = TooManyQueries number place
of_media (of_queries.TooManyParts count) = TooManyParts count

-- of its generated content
abbrev pub of_growth : GrowFault → JobRefusal
of_growth of_grow.Mem = Mem
of_growth (of_grow.Generated node) = Generated node

-- of its boxes
abbrev pub of_boxes : BoxRefusal → JobRefusal
of_boxes (BoxRefusal.block_in_inline node) = BlockInInline node
of_boxes (BoxRefusal.right_to_left node letter) = RightToLeft node letter
of_boxes BoxRefusal.too_many_boxes = TooManyBoxes
of_boxes (BoxRefusal.reach node) = Reach node

-- the same of what `build_boxes` answers
abbrev pub of_box_fault : BoxFault → JobRefusal
of_box_fault of_box.Mem = Mem
of_box_fault (of_box.BlockInInline node) = BlockInInline node
of_box_fault (of_box.RightToLeft node letter) = RightToLeft node letter
of_box_fault of_box.TooManyBoxes = TooManyBoxes
of_box_fault (of_box.Reach node) = Reach node

-- of its assertion
abbrev pub of_formula : FormulaFault → JobRefusal
of_formula of_text.Mem = Mem
of_formula (of_text.Bad place) = Bad place
of_formula (of_text.Unbound place) = Unbound place
of_formula (of_text.TooDeep place) = TooDeep place

-- a byte that can be printed, else `?`
abbrev pub printable : ℕ → ℕ
printable byte = if nat_le 32 byte && nat_le byte 126 then byte else 63

-- a text without the white space at both ends (CSS 2.1, 4.1.1)
abbrev pub without_outer_space : List ℕ → List ℕ
without_outer_space text = without_last (drop (prefix_len is_ascii_whitespace text) text)
  where
    without_last : List ℕ → List ℕ
    without_last rest = take (length rest - suffix_len is_ascii_whitespace rest) rest

-- the first 64 bytes of a value without the white space at both ends, also where it ends an escape
abbrev pub shown : List ℕ → List ℕ
shown value = map printable (take 64 (without_outer_space value))

-- of its cascade: a value is shown as it stands in its text
abbrev pub IsTold : List Node → List (List ℕ) → Fault → JobRefusal → Type 0
IsTold nodes texts (selector_at sheet place) refusal = refusal ≡ Selector sheet place
IsTold nodes texts (value_at node prop source) refusal = (value : List ℕ) × IsValueAt nodes texts source value
    × (refusal ≡ Value node prop (shown value))
