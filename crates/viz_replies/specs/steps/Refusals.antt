-- The line of a refused job in two parts: its words, and what stands behind them.
use Rattle.std.specs.Prelude.{ℕ, List, [], ◌++◌, codes}
use Rattle.viz_base.specs.declared.settings.Prop.{Prop}
use Rattle.css_semantics.specs.Properties.{row}
use Rattle.page_build.specs.declared.faults.JobRefusal.{JobRefusal}
use Rattle.page_build.specs.declared.faults.JobRefusal.TheVariants.{Mem, NotJson, Shape, Limit, Range, Import, MediaQuery, TooManyRules, TooManyQueries, TooManyParts, Selector, Value, Generated, BlockInInline, RightToLeft, TooManyBoxes, Reach, Bad, Unbound, TooDeep}
use Rattle.viz_replies.specs.Lines.{spaced}
use Rattle.viz_replies.specs.Jobs.{shape_words, limit_words}

abbrev pub refusal_words : JobRefusal → List ℕ
refusal_words Mem = []
refusal_words NotJson = codes "job-refused not-json"
refusal_words (Shape p place) = shape_words p
refusal_words (Limit w count) = limit_words w
refusal_words Range = codes "job-refused range"
refusal_words (Import sheet place) = codes "job-refused import"
refusal_words (MediaQuery sheet place) = codes "job-refused media-query"
refusal_words (TooManyRules sheet) = codes "job-refused too-many-rules"
refusal_words (TooManyQueries sheet place) = codes "job-refused too-many-queries"
refusal_words (TooManyParts count) = codes "job-refused too-many-parts"
refusal_words (Selector sheet place) = codes "job-refused unsupported-selector"
refusal_words (Value node prop value) = codes "job-refused unsupported-value"
refusal_words (Generated node) = codes "job-refused generated"
refusal_words (BlockInInline node) = codes "job-refused block-in-inline"
refusal_words (RightToLeft node letter) = codes "job-refused right-to-left"
refusal_words TooManyBoxes = codes "job-refused too-many-boxes"
refusal_words (Reach node) = codes "job-refused reach"
refusal_words (Bad place) = codes "job-refused formula-bad"
refusal_words (Unbound place) = codes "job-refused formula-unbound"
refusal_words (TooDeep place) = codes "job-refused formula-too-deep"

abbrev pub value_places : ℕ → Prop → List ℕ → List ℕ
value_places node prop value = spaced node ++ ((codes " " ++ (row prop).name) ++ (codes " " ++ value))

abbrev pub refusal_places : JobRefusal → List ℕ
refusal_places Mem = []
refusal_places NotJson = []
refusal_places (Shape p place) = spaced place
refusal_places (Limit w count) = spaced count
refusal_places Range = []
refusal_places (Import sheet place) = spaced sheet ++ spaced place
refusal_places (MediaQuery sheet place) = spaced sheet ++ spaced place
refusal_places (TooManyRules sheet) = spaced sheet
refusal_places (TooManyQueries sheet place) = spaced sheet ++ spaced place
refusal_places (TooManyParts count) = spaced count
refusal_places (Selector sheet place) = spaced sheet ++ spaced place
refusal_places (Value node prop value) = value_places node prop value
refusal_places (Generated node) = spaced node
refusal_places (BlockInInline node) = spaced node
refusal_places (RightToLeft node letter) = spaced node ++ spaced letter
refusal_places TooManyBoxes = []
refusal_places (Reach node) = spaced node
refusal_places (Bad place) = spaced place
refusal_places (Unbound place) = spaced place
refusal_places (TooDeep place) = spaced place
