-- What definitions see of the code's parts of a job.
use Rattle.std.specs.Prelude.{◌≡◌, ℕ, ◌≤◌, List, length, map, Option, Result, Ok, codes}
use Rattle.serde_json.specs.Data.{Data}
use Rattle.serde_json.specs.Find.{get}
use Rattle.serde_json.specs.View.{view}
use Rattle.page_json.specs.declared.places.Place.{Place}
use Rattle.page_json.specs.declared.jobs.Nodes.{Nodes}
use Rattle.page_json.specs.declared.jobs.Parts.{Parts}
use Rattle.viz_base.specs.declared.limits.TheConstants.{MOST_CHARACTERS, MOST_FORMULA}
use Rattle.viz_base.specs.declared.fonts.Font.{Font}
use Rattle.viz_base.specs.declared.nodes.Node.{Node}
use Rattle.page_json.specs.Fonts.{Measures, measures_of}
use Rattle.viz_base.specs.Pages.{IsPage}
use Rattle.viz_base.specs.declared.raw_jobs.Part.TheVariants as part
use Rattle.viz_base.specs.declared.raw_jobs.Which.TheVariants as which
use Rattle.page_json.specs.declared.faults.JobFault.{JobFault}
use Rattle.page_json.specs.Faults.{◌>>=◌, shaped, shaped_at, within}
use Rattle.page_json.specs.Values.{list_of, list_at, ◌of_member◌}
use Rattle.page_json.specs.Documents as documents
use Rattle.page_json.specs.Jobs as jobs

abbrev pub seen : Place → documents.Place
seen p = record { parent = p.parent; depth = p.depth; value = view p.value.now }

abbrev pub all_measures : List Font → List Measures
all_measures = map measures_of

abbrev pub page_parts : Nodes → ℕ × List Node
page_parts page = (page.depth, page.nodes)

abbrev pub parts_seen : Parts → jobs.Parts
parts_seen p = record {
  form = p.form;
  widths = p.widths;
  sizes = p.sizes;
  heights = p.heights;
  fonts = map measures_of p.fonts;
  css = p.css;
  depth = p.page.depth;
  nodes = p.page.nodes;
  formula = p.formula.now;
}

-- the form is 1 or 2, and form 1 has one height
pub record IsFormOf (form : ℕ) (heights : ℕ × ℕ) : Type 0 where
  pub least : 1 ≤ form
  pub most : form ≤ 2
  pub one_height : form ≡ 1 → heights.0 ≡ heights.1

-- what the parts of a job keep beside the ranges
pub record AreWithinLimits (p : Parts) : Type 0 where
  pub formed : IsFormOf p.form p.heights
  pub page : IsPage p.page.nodes
  pub has_font : 1 ≤ length p.fonts
  pub few_characters : jobs.characters p.page.nodes ≤ MOST_CHARACTERS
  pub short_formula : length p.formula.now ≤ MOST_FORMULA

-- `parts_under` once the numbers are read
abbrev pub lists_under : Option (List ℕ) → ℕ → ℕ × ℕ → ℕ × ℕ → ℕ × ℕ → Data → Result jobs.Parts JobFault
lists_under assertion form widths sizes heights d =
    shaped_at part.Fonts (jobs.fonts_of ((list_of of_member codes "fonts") d)) >>= λ fonts.
    shaped_at part.Css (jobs.sheets_of (list_at (codes "css") d)) >>= λ css.
    shaped_at part.Page (jobs.page_of (get (codes "page") d)) >>= λ page.
    shaped part.Assert assertion >>= λ formula.
    Ok (record {
      form = form;
      widths = widths;
      sizes = sizes;
      heights = heights;
      fonts = fonts;
      css = css;
      depth = page.0;
      nodes = page.1;
      formula = formula;
    })

-- `limited` once elements, depth and characters are counted
abbrev pub lists_limited : jobs.Parts → Result jobs.Parts JobFault
lists_limited p =
    within which.Css 1048576 (jobs.sheet_bytes p.css p.nodes) >>= λ _.
    within which.Fonts 64 (length p.fonts) >>= λ _.
    within which.Advances 65536 (jobs.advances p.fonts) >>= λ _.
    within which.Formula MOST_FORMULA (length p.formula) >>= λ _.
    Ok p
