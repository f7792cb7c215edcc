-- What is kept of a font, a style, a box tree or a job beside its fields has one proof at most, so the fields are all of it.
use mathlib.Core.HLevel.{is_prop→PathP}
use Rattle.std.proofs.Common.{◌≡◌, ℕ, List, [], ◌∷◌, map, Option, refl, sym, ◌∙◌, ap}
use Rattle.std.proofs.Props.{props}
use Rattle.viz_base.specs.declared.fonts.Font.{Font}
use Rattle.viz_base.specs.declared.formulas.Formula.{Formula}
use Rattle.viz_base.specs.declared.jobs.Job.{Job}
use Rattle.viz_base.specs.declared.lengths.Length.{Length}
use Rattle.viz_base.specs.declared.lengths.LineHeight.{LineHeight}
use Rattle.viz_base.specs.declared.lengths.Sides.{Sides}
use Rattle.viz_base.specs.declared.lengths.Size.{Size}
use Rattle.viz_base.specs.declared.lengths.Valign.{Valign}
use Rattle.viz_base.specs.declared.styles.Style.{Style}
use Rattle.viz_base.specs.declared.trees.BoxNode.{BoxNode}
use Rattle.viz_base.specs.declared.trees.BoxTree.{BoxTree}
use Rattle.viz_base.specs.declared.trees.Word.{Word}
use Rattle.viz_base.specs.declared.worlds.Rect.{Rect}
use Rattle.viz_base.specs.Fonts.{IsFont}
use Rattle.viz_base.specs.Jobs.{IsJob}
use Rattle.viz_base.specs.Styles.{IsStyle}
use Rattle.viz_base.specs.Trees.{AreAlikeButSize, IsBoxTree}
use Rattle.viz_base.specs.Words.{words_of}
use Rattle.page_json.specs.Fonts.{measures_of}
use Rattle.page_boxes.specs.Trees.{TreeLists, lists_of}

-- ---- fonts

font_prop : (upem ascent descent other : ℕ) (advances : List (ℕ × ℕ)) → IsProp (IsFont upem ascent descent other advances)
font_prop upem ascent descent other advances = hlevel props

same_font : (f g : Font) → measures_of f ≡ measures_of g → f ≡ g
same_font f g e =
    let keeps = is_prop→PathP (λ i. IsFont (e i).upem (e i).ascent (e i).descent (e i).other (e i).advances)
    (λ i. font_prop (e i).upem (e i).ascent (e i).descent (e i).other (e i).advances) f.ok g.ok in
    λ i. record { name = (e i).name; upem = (e i).upem; ascent = (e i).ascent; descent = (e i).descent; other = (e i).other; advances = (e i).advances; ok = keeps i }

pub same_fonts : (fs gs : List Font) → map measures_of fs ≡ map measures_of gs → fs ≡ gs
same_fonts [] [] e = refl
same_fonts [] (g ∷ gs) e = absurd (cc)
same_fonts (f ∷ fs) [] e = absurd (cc)
same_fonts (f ∷ fs) (g ∷ gs) e =
    let first : measures_of f ≡ measures_of g = cc in
    let others : map measures_of fs ≡ map measures_of gs = cc in
    ap (λ x. x ∷ fs) (same_font f g first) ∙ ap (λ xs. g ∷ xs) (same_fonts fs gs others)

-- ---- styles

style_prop : (width min_width : Length) (max_width : Option Length) (height min_height : Length) (max_height : Option Length) (margin padding border : Sides Length) (size : Size) (line : LineHeight) (valign : Valign)
    → IsProp (IsStyle width min_width max_width height min_height max_height margin padding border size line valign)
style_prop width min_width max_width height min_height max_height margin padding border size line valign = hlevel props

pub same_style : (s t : Style) → AreAlikeButSize s t → s.size ≡ t.size → s ≡ t
same_style s t h e =
    let keeps = is_prop→PathP
    (λ i. IsStyle (h.width i) (h.min_width i) (h.max_width i) (h.height i) (h.min_height i) (h.max_height i) (h.margin i) (h.padding i) (h.border i) (e i) (h.line i) (h.valign i))
    (λ i. style_prop (h.width i) (h.min_width i) (h.max_width i) (h.height i) (h.min_height i) (h.max_height i) (h.margin i) (h.padding i) (h.border i) (e i) (h.line i) (h.valign i))
    s.ok t.ok in
    λ i. record {
      display = h.display i;
      float = h.float i;
      clear = h.clear i;
      clips = h.clips i;
      width = h.width i;
      min_width = h.min_width i;
      max_width = h.max_width i;
      height = h.height i;
      min_height = h.min_height i;
      max_height = h.max_height i;
      margin = h.margin i;
      padding = h.padding i;
      border = h.border i;
      size = e i;
      font = h.font i;
      line = h.line i;
      valign = h.valign i;
      align = h.align i;
      wraps = h.wraps i;
      ok = keeps i;
    }

-- ---- trees and jobs

tree_prop : (boxes : List BoxNode) (styles : List Style) (fonts : List Font) (parents : List (Option ℕ)) → IsProp (IsBoxTree boxes styles fonts parents)
tree_prop boxes styles fonts parents = hlevel props

words_prop : (kept words : List (List Word)) → IsProp (kept ≡ words)
words_prop kept words = hlevel props

pub same_tree : (a b : BoxTree) → lists_of a ≡ lists_of b → a ≡ b
same_tree a b e =
    let keeps = is_prop→PathP (λ i. IsBoxTree (e i).boxes (e i).styles (e i).fonts (e i).parents) (λ i. tree_prop (e i).boxes (e i).styles (e i).fonts (e i).parents) a.ok b.ok in
    let words : a.words ≡ b.words = a.kept ∙ (ap (λ (t : TreeLists). words_of t.boxes t.styles t.fonts) e ∙ sym b.kept) in
    let kept = is_prop→PathP (λ i. words i ≡ words_of (e i).boxes (e i).styles (e i).fonts) (λ i. words_prop (words i) (words_of (e i).boxes (e i).styles (e i).fonts)) a.kept b.kept in
    λ i. record { boxes = (e i).boxes; styles = (e i).styles; fonts = (e i).fonts; parents = (e i).parents; words = words i; ok = keeps i; kept = kept i }

job_prop : (form : ℕ) (range : Rect) (tree : BoxTree) (formula : Formula) → IsProp (IsJob form range tree.boxes tree.styles tree.fonts tree.parents formula)
job_prop form range tree formula = hlevel props

pub same_job : (a b : Job) → a.digest ≡ b.digest → a.form ≡ b.form → a.range ≡ b.range → a.tree ≡ b.tree → a.formula ≡ b.formula → a ≡ b
same_job a b digest form range tree formula =
    let keeps = is_prop→PathP (λ i. IsJob (form i) (range i) (tree i).boxes (tree i).styles (tree i).fonts (tree i).parents (formula i)) (λ i. job_prop (form i) (range i) (tree i) (formula i)) a.ok b.ok in
    λ i. record { digest = digest i; form = form i; range = range i; tree = tree i; formula = formula i; ok = keeps i }
