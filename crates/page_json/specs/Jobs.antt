-- What a job file says, or the first of its refusals.
use Rattle.std.specs.Prelude.{ℕ, ◌+◌, ◌≤◌, ◌==◌, ◌&&◌, Bool, nat_le, List, [], ◌∷◌, length, map, sum_by, Option, Some, None, option_map, Result, Ok, Err, if◌then◌else◌, bytes_eq, codes}
use Rattle.std.specs.Str.{chars, is_utf8}
use Rattle.serde_json.specs.Data.{Data}
use Rattle.serde_json.specs.Find.{get, as_str}
use Rattle.serde_json.specs.Read.{read}
use Rattle.viz_base.specs.declared.limits.TheConstants.{MOST_CHARACTERS, MOST_FORMULA, MOST_PIXELS, MOST_SIZE}
use Rattle.viz_base.specs.declared.nodes.Attr.{Attr}
use Rattle.viz_base.specs.declared.nodes.Body.{Body}
use Rattle.viz_base.specs.declared.nodes.Body.TheVariants as of_body
use Rattle.viz_base.specs.declared.nodes.Node.{Node}
use Rattle.viz_base.specs.declared.raw_jobs.Part.TheVariants as part
use Rattle.viz_base.specs.declared.raw_jobs.Which.TheVariants as which
use Rattle.viz_base.specs.declared.raw_jobs.RawJob.{RawJob}
use Rattle.viz_base.specs.declared.worlds.Rect.{Rect}
use Rattle.viz_base.specs.Jobs.{IsFormed, IsRange}
use Rattle.viz_base.specs.Worlds.{world_count}
use Rattle.viz_base.specs.Pages.{is_element, text_of}
use Rattle.page_json.specs.declared.faults.JobFault.{JobFault}
use Rattle.page_json.specs.declared.faults.JobFault.TheVariants.{NotJson, Range}
use Rattle.page_json.specs.Values.{whole, whole_in, pair_of, list_at, list_of, each_of, ◌of_member◌}
use Rattle.page_json.specs.Faults.{◌>>=◌, shaped, shaped_at, within}
use Rattle.page_json.specs.Fonts.{Measures, measures_of, font_of}
use Rattle.page_json.specs.Documents.{nodes_of, places_of, depth_of}

-- ---- shape

-- all that the members say
pub record Parts : Type 0 where
  pub form : ℕ
  pub widths : ℕ × ℕ
  pub sizes : ℕ × ℕ
  pub heights : ℕ × ℕ
  pub fonts : List Measures
  pub css : List (List ℕ)
  pub depth : ℕ
  pub nodes : List Node
  pub formula : List ℕ

-- which of the two forms of a job file a value says it is
abbrev pub form_of : Data → Option ℕ
form_of = whole_in 1 2 of_member codes "vizlog"

-- one height of the viewport, as the ends of its range
abbrev pub height_of : Data → Option (ℕ × ℕ)
height_of d = option_map (λ height. (height, height)) ((whole of_member codes "height") d)

-- the range of heights: in form 1 the member `height` is both ends, in form 2 the member `heights` has them
abbrev pub heights_of : ℕ → Data → Option (ℕ × ℕ)
heights_of form d = if form == 1 then height_of d else (pair_of of_member codes "heights") d

abbrev pub fonts_in : List Data → Result (List Measures) ℕ
fonts_in [] = Err 0
fonts_in (d ∷ ds) = each_of font_of 0 (d ∷ ds)

-- the fonts, at least one, or the number of the first that is against a rule
abbrev pub fonts_of : Option (List Data) → Result (List Measures) ℕ
fonts_of None = Err 0
fonts_of (Some ds) = fonts_in ds

-- the texts of the style sheets, or the number of the first that is no text
abbrev pub sheets_of : Option (List Data) → Result (List (List ℕ)) ℕ
sheets_of None = Err 0
sheets_of (Some ds) = each_of as_str 0 ds

abbrev pub page_of : Option Data → Result (ℕ × List Node) ℕ
page_of None = Err 0
page_of (Some d) = map_page d (nodes_of d)
  where
    map_page : Data → Result (List Node) ℕ → Result (ℕ × List Node) ℕ
    map_page root (Err place) = Err place
    map_page root (Ok nodes) = Ok (depth_of (places_of root), nodes)

-- what the members say, this being the text of the assertion if there is one, or the first of them that is missing, of
-- another form or against a rule
abbrev pub parts_under : Option (List ℕ) → Data → Result Parts JobFault
parts_under assertion d =
    shaped part.Top (form_of d) >>= λ form.
    shaped part.Widths ((pair_of of_member codes "widths") d) >>= λ widths.
    shaped part.Sizes ((pair_of of_member codes "sizes") d) >>= λ sizes.
    shaped part.Height (heights_of form d) >>= λ heights.
    shaped_at part.Fonts (fonts_of ((list_of of_member codes "fonts") d)) >>= λ fonts.
    shaped_at part.Css (sheets_of (list_at (codes "css") d)) >>= λ css.
    shaped_at part.Page (page_of (get (codes "page") d)) >>= λ page.
    shaped part.Assert assertion >>= λ formula.
    Ok (record {
      form = form;
      widths = widths;
      sizes = sizes;
      heights = heights;
      fonts = fonts;
      css = css;
      depth = page.0;
      nodes = page.1;
      formula = formula;
    })

-- the text of the member `assert`
abbrev pub assertion_of : Data → Option (List ℕ)
assertion_of = as_str of_member codes "assert"

abbrev pub parts_of : Data → Result Parts JobFault
parts_of d = parts_under (assertion_of d) d

-- ---- limits

abbrev pub style_bytes_in : Attr → ℕ
style_bytes_in attr = if bytes_eq attr.name (codes "style") then length attr.value else 0

-- the bytes of a style attribute
abbrev pub style_bytes : Body → ℕ
style_bytes (of_body.Element element) = sum_by style_bytes_in element.attrs
style_bytes (of_body.Chars text) = 0

abbrev pub elements : List Node → ℕ
elements = sum_by (λ (n : Node). if is_element n.body then 1 else 0)

-- the characters of all texts
abbrev pub characters : List Node → ℕ
characters = sum_by (λ (n : Node). length (chars (text_of n.body)))

-- the bytes of all style sheets and style attributes
abbrev pub sheet_bytes : List (List ℕ) → List Node → ℕ
sheet_bytes css nodes = sum_by length css + sum_by (λ (n : Node). style_bytes n.body) nodes

abbrev pub advances : List Measures → ℕ
advances = sum_by (λ (f : Measures). length f.advances)

-- the parts, or the first count that is beyond its limit
abbrev pub limited : Parts → Result Parts JobFault
limited p =
    within which.Elements 4096 (elements p.nodes) >>= λ _.
    within which.Depth 60 p.depth >>= λ _.
    within which.Text MOST_CHARACTERS (characters p.nodes) >>= λ _.
    within which.Css 1048576 (sheet_bytes p.css p.nodes) >>= λ _.
    within which.Fonts 64 (length p.fonts) >>= λ _.
    within which.Advances 65536 (advances p.fonts) >>= λ _.
    within which.Formula MOST_FORMULA (length p.formula) >>= λ _.
    Ok p

-- ---- ranges

-- 1 is at most the first, the first at most the second, the second at most `most`
abbrev pub are_ends : ℕ → ℕ × ℕ → Bool
are_ends most ends = nat_le 1 ends.0 && (nat_le ends.0 ends.1 && nat_le ends.1 most)

-- the worlds that the three ranges have
abbrev pub rect_of : Parts → Rect
rect_of p = record {
  wl = p.widths.0;
  wh = p.widths.1;
  sl = p.sizes.0;
  sh = p.sizes.1;
  hl = p.heights.0;
  hh = p.heights.1;
}

-- the three ranges are within their limits
abbrev pub are_ranges : Parts → Bool
are_ranges p = are_ends MOST_PIXELS p.widths && (are_ends MOST_SIZE p.sizes && are_ends MOST_PIXELS p.heights)

-- and there are not too many worlds
abbrev pub in_range : Parts → Bool
in_range p = are_ranges p && nat_le (world_count (rect_of p)) 4194304

-- ---- the job

-- what a raw job holds
pub record Raw : Type 0 where
  pub form : ℕ
  pub range : Rect
  pub fonts : List Measures
  pub css : List (List ℕ)
  pub nodes : List Node
  pub formula : List ℕ

abbrev pub raw_of : RawJob → Raw
raw_of job = record {
  form = job.form;
  range = job.range;
  fonts = map measures_of job.fonts;
  css = job.css;
  nodes = job.page.nodes;
  formula = job.formula;
}

abbrev pub raw : Parts → Raw
raw p = record {
  form = p.form;
  range = rect_of p;
  fonts = p.fonts;
  css = p.css;
  nodes = p.nodes;
  formula = p.formula;
}

abbrev pub ranged : Parts → Result Raw JobFault
ranged p = if in_range p then Ok (raw p) else Err Range

-- what a value says as a job file, this being the text of its assertion if there is one
abbrev pub job_under : Option (List ℕ) → Data → Result Raw JobFault
job_under assertion d = parts_under assertion d >>= λ p. limited p >>= λ _. ranged p

-- what a value says as a job file
abbrev pub job_in : Data → Result Raw JobFault
job_in d = job_under (assertion_of d) d

-- the JSON value of bytes
unfoldable pub value_of : List ℕ → Option Data
value_of bytes = if is_utf8 bytes then read bytes else None

abbrev pub judged : Option Data → Result Raw JobFault
judged None = Err NotJson
judged (Some d) = job_in d

-- what bytes say as a job file, or the first of their refusals
abbrev pub raw_job : List ℕ → Result Raw JobFault
raw_job bytes = judged (value_of bytes)

abbrev pub judged_with : List ℕ → Option Data → Result Raw JobFault
judged_with assertion None = Err NotJson
judged_with assertion (Some d) = job_under (Some assertion) d

-- what bytes say as a job file whose member `assert` is this text, whatever it is there, or the first of their refusals
abbrev pub raw_job_with : List ℕ → List ℕ → Result Raw JobFault
raw_job_with assertion bytes = judged_with assertion (value_of bytes)

-- ---- what every job keeps

-- the limits that those who use a job rely on, apart from what its page and fonts keep by themselves
pub record IsWithinLimits (job : Raw) : Type 0 where
  pub formed : IsFormed job.form job.range
  pub in_range : IsRange job.range
  pub has_font : 1 ≤ length job.fonts
  pub few_characters : characters job.nodes ≤ MOST_CHARACTERS
  pub short_formula : length job.formula ≤ MOST_FORMULA
