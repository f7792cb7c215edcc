-- The nodes of what a job file says are a page.
use Rattle.std.proofs.Common.{◌≡◌, ℕ, ◌≤◌, Bool, true, false, List, Option, Some, None, Result, Ok, Err, refl, ap, subst, leb-true}
use Rattle.std.specs.Prelude.{nat_le, codes, if◌then◌else◌}
use Rattle.serde_json.specs.Data.{Data}
use Rattle.serde_json.specs.Find.{as_str, get}
use Rattle.viz_base.specs.declared.nodes.Node.{Node}
use Rattle.viz_base.specs.declared.raw_jobs.Part.TheVariants as part
use Rattle.viz_base.specs.declared.raw_jobs.Which.{Which}
use Rattle.viz_base.specs.declared.raw_jobs.Which.TheVariants as which
use Rattle.viz_base.specs.Pages.{IsPage}
use Rattle.page_json.specs.declared.faults.JobFault.{JobFault}
use Rattle.page_json.specs.declared.faults.JobFault.TheVariants.{Limit, Range}
use Rattle.page_json.specs.Documents.{depth_of, node_of, nodes_of, places_of}
use Rattle.page_json.specs.Faults.{◌>>=◌, shaped, shaped_at, within}
use Rattle.page_json.specs.Fonts.{Measures}
use Rattle.page_json.specs.Jobs.{Parts, Raw, characters, elements, fonts_of, form_of, heights_of, in_range, job_in, judged, limited, page_of, parts_of, ranged, raw, raw_job, sheets_of, value_of}
use Rattle.page_json.specs.Pages.{IsDocument}
use Rattle.page_json.specs.Seen.{lists_limited}
use Rattle.page_json.specs.Values.{◌of_member◌, each_of, list_at, list_of, pair_of}
use Rattle.page_json.proofs.PageLemmas.{document-page, nodes-document}

-- what comes last was reached through what comes first
abbrev From : {A B : Type 0} → Result A JobFault → (A → Result B JobFault) → B → Type 0
From {A} first next end = (x : A) × (first ≡ Ok x) × (next x ≡ Ok end)

from : {A B : Type 0} (first : Result A JobFault) (next : A → Result B JobFault) (end : B) → (first >>= next) ≡ Ok end → From first next end
from (Ok x) next end e = (x, refl, e)
from (Err fault) next end e = absurd (cc)

otherwise : {A : Type 0} (b : Bool) (r : Result A ℕ) (x : A) → (if b then Err 0 else r) ≡ Ok x → (b ≡ false) × (r ≡ Ok x)
otherwise true r x e = absurd (cc)
otherwise false r x e = (refl, e)

nodes_are : (d : Data) (nodes : List Node) → nodes_of d ≡ Ok nodes → IsDocument nodes
nodes_are d nodes e =
    let found = otherwise _ (each_of node_of 0 (places_of d)) nodes e in
    nodes-document part.Page d nodes found.0 (ap (shaped_at part.Page) found.1)

page_is : (o : Option Data) (page : ℕ × List Node) → page_of o ≡ Ok page → IsDocument page.1
page_is None page e = absurd (cc)
page_is (Some d) page e = by_nodes (nodes_of d) refl
  where
    by_nodes : (r : Result (List Node) ℕ) → nodes_of d ≡ r → IsDocument page.1
    by_nodes (Err place) is = absurd (cc)
    by_nodes (Ok nodes) is =
        let same : (depth_of (places_of d), nodes) ≡ page = cc in
        subst IsDocument (ap (λ (p : ℕ × List Node). p.1) same) (nodes_are d nodes is)

shaped_is : (r : Result (ℕ × List Node) ℕ) (page : ℕ × List Node) → shaped_at part.Page r ≡ Ok page → r ≡ Ok page
shaped_is (Err place) page e = absurd (cc)
shaped_is (Ok found) page e = let same : found ≡ page = cc in ap Ok same

-- the parts of a file
abbrev all_of : ℕ → ℕ × ℕ → ℕ × ℕ → ℕ × ℕ → List Measures → List (List ℕ) → ℕ × List Node → List ℕ → Parts
all_of form widths sizes heights fonts css page formula =
    record { form = form; widths = widths; sizes = sizes; heights = heights; fonts = fonts; css = css; depth = page.0; nodes = page.1; formula = formula }

-- where no part is refused, the nodes are those of the page
lists_there : (a : ℕ) (b c : ℕ × ℕ) (heights : Result (ℕ × ℕ) JobFault) (fonts : Result (List Measures) JobFault) (css : Result (List (List ℕ)) JobFault)
    (page : Result (ℕ × List Node) JobFault) (formula : Result (List ℕ) JobFault) (p : Parts)
    → (heights >>= λ d. fonts >>= λ g. css >>= λ h. page >>= λ i. formula >>= λ j. Ok (all_of a b c d g h i j)) ≡ Ok p
    → (found : ℕ × List Node) × (page ≡ Ok found) × (found.1 ≡ p.nodes)
lists_there a b c (Err why) fonts css page formula p e = absurd (cc)
lists_there a b c (Ok d) (Err why) css page formula p e = absurd (cc)
lists_there a b c (Ok d) (Ok g) (Err why) page formula p e = absurd (cc)
lists_there a b c (Ok d) (Ok g) (Ok h) (Err why) formula p e = absurd (cc)
lists_there a b c (Ok d) (Ok g) (Ok h) (Ok i) (Err why) p e = absurd (cc)
lists_there a b c (Ok d) (Ok g) (Ok h) (Ok i) (Ok j) p e =
    let whole : all_of a b c d g h i j ≡ p = cc in
    (i, refl, ap (λ (q : Parts). q.nodes) whole)

page_there : (form : Result ℕ JobFault) (widths sizes : Result (ℕ × ℕ) JobFault) (heights : ℕ → Result (ℕ × ℕ) JobFault) (fonts : Result (List Measures) JobFault) (css : Result (List (List ℕ)) JobFault)
    (page : Result (ℕ × List Node) JobFault) (formula : Result (List ℕ) JobFault) (p : Parts)
    → (form >>= λ a. widths >>= λ b. sizes >>= λ c. heights a >>= λ d. fonts >>= λ g. css >>= λ h. page >>= λ i. formula >>= λ j. Ok (all_of a b c d g h i j)) ≡ Ok p
    → (found : ℕ × List Node) × (page ≡ Ok found) × (found.1 ≡ p.nodes)
page_there (Err why) widths sizes heights fonts css page formula p e = absurd (cc)
page_there (Ok a) (Err why) sizes heights fonts css page formula p e = absurd (cc)
page_there (Ok a) (Ok b) (Err why) heights fonts css page formula p e = absurd (cc)
page_there (Ok a) (Ok b) (Ok c) heights fonts css page formula p e = lists_there a b c (heights a) fonts css page formula p e

parts_are : (d : Data) (p : Parts) → parts_of d ≡ Ok p → IsDocument p.nodes
parts_are d p e =
    let page = page_of (get (codes "page") d) in
    let found = page_there (shaped part.Top (form_of d)) (shaped part.Widths ((pair_of of_member codes "widths") d))
    (shaped part.Sizes ((pair_of of_member codes "sizes") d)) (λ form. shaped part.Height (heights_of form d)) (shaped_at part.Fonts (fonts_of ((list_of of_member codes "fonts") d)))
    (shaped_at part.Css (sheets_of (list_at (codes "css") d))) (shaped_at part.Page page) (shaped part.Assert ((as_str of_member codes "assert") d)) p e in
    subst IsDocument found.2 (page_is (get (codes "page") d) found.0 (shaped_is page found.0 found.1))

-- a count that is within its limit
within_is : (which : Which) (most count x : ℕ) → within which most count ≡ Ok x → count ≤ most
within_is which most count x e = by_test (nat_le count most) refl e
  where
    by_test : (b : Bool) → nat_le count most ≡ b → (if b then Ok count else Err (Limit which count)) ≡ Ok x → count ≤ most
    by_test true is f = leb-true count most is
    by_test false is f = absurd (cc)

few_are : (p q : Parts) → limited p ≡ Ok q → characters p.nodes ≤ 262144
few_are p q e =
    let elements = from (within which.Elements 4096 (elements p.nodes)) (λ _. within which.Depth 60 p.depth >>= λ _. within which.Text 262144 (characters p.nodes) >>= λ _. lists_limited p) q e in
    let depth = from (within which.Depth 60 p.depth) (λ _. within which.Text 262144 (characters p.nodes) >>= λ _. lists_limited p) q elements.2 in
    let text = from (within which.Text 262144 (characters p.nodes)) (λ _. lists_limited p) q depth.2 in
    within_is which.Text 262144 (characters p.nodes) text.0 text.1

job_is : (d : Data) (job : Raw) → job_in d ≡ Ok job → IsPage job.nodes
job_is d job e =
    let parts = from (parts_of d) (λ p. limited p >>= λ _. ranged p) job e in
    let p = parts.0 in
    let limits = from (limited p) (λ _. ranged p) job parts.2 in
    let same : p.nodes ≡ job.nodes = in_ranges p (in_range p) limits.2 in
    subst IsPage same (document-page p.nodes (parts_are d p parts.1) (few_are p limits.0 limits.1))
  where
    in_ranges : (p : Parts) (fits : Bool) → (if fits then Ok (raw p) else Err Range) ≡ Ok job → p.nodes ≡ job.nodes
    in_ranges p true f = let is : raw p ≡ job = cc in ap (λ (r : Raw). r.nodes) is
    in_ranges p false f = absurd (cc)

pub raw_page : (bytes : List ℕ) (job : Raw) → raw_job bytes ≡ Ok job → IsPage job.nodes
raw_page bytes job e = by_value (value_of bytes) e
  where
    by_value : (o : Option Data) → judged o ≡ Ok job → IsPage job.nodes
    by_value None f = absurd (cc)
    by_value (Some d) f = job_is d job f
