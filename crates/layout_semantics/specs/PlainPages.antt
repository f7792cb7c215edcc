-- Pages without the facts that their types keep: a law of a page holds whatever the proofs of these are.
use Rattle.std.specs.Prelude.{ℕ, Bool, List, [], ◌∷◌, Option, refl}
use Rattle.viz_base.specs.declared.fonts.Font.{Font}
use Rattle.viz_base.specs.declared.lengths.Length.{Length}
use Rattle.viz_base.specs.declared.lengths.LineHeight.{LineHeight}
use Rattle.viz_base.specs.declared.lengths.Sides.{Sides}
use Rattle.viz_base.specs.declared.lengths.Size.{Size}
use Rattle.viz_base.specs.declared.lengths.Valign.{Valign}
use Rattle.viz_base.specs.declared.styles.Align.{Align}
use Rattle.viz_base.specs.declared.styles.Clear.{Clear}
use Rattle.viz_base.specs.declared.styles.Display.{Display}
use Rattle.viz_base.specs.declared.styles.Side.{Side}
use Rattle.viz_base.specs.declared.styles.Style.{Style}
use Rattle.viz_base.specs.declared.trees.BoxTree.{BoxTree}
use Rattle.viz_base.specs.declared.trees.BoxNode.{BoxNode}
use Rattle.viz_base.specs.Styles.{IsStyle}
use Rattle.viz_base.specs.Fonts.{IsFont}
use Rattle.viz_base.specs.Trees.{IsBoxTree}
use Rattle.viz_base.specs.Words.{words_of}

pub record PlainStyle : Type 0 where
  pub display : Display
  pub float : Option Side
  pub clear : Clear
  pub clips : Bool
  pub width : Length
  pub min_width : Length
  pub max_width : Option Length
  pub height : Length
  pub min_height : Length
  pub max_height : Option Length
  pub margin : Sides Length
  pub padding : Sides Length
  pub border : Sides Length
  pub size : Size
  pub font : ℕ
  pub line : LineHeight
  pub valign : Valign
  pub align : Align
  pub wraps : Bool

abbrev pub StyleKeeps : PlainStyle → Type 0
StyleKeeps s = IsStyle s.width s.min_width s.max_width s.height s.min_height s.max_height s.margin s.padding s.border
    s.size s.line s.valign

abbrev pub style : (s : PlainStyle) → StyleKeeps s → Style
style s ok = record {
  display = s.display;
  float = s.float;
  clear = s.clear;
  clips = s.clips;
  width = s.width;
  min_width = s.min_width;
  max_width = s.max_width;
  height = s.height;
  min_height = s.min_height;
  max_height = s.max_height;
  margin = s.margin;
  padding = s.padding;
  border = s.border;
  size = s.size;
  font = s.font;
  line = s.line;
  valign = s.valign;
  align = s.align;
  wraps = s.wraps;
  ok = ok;
}

abbrev pub StylesKeep : List PlainStyle → Type 0
StylesKeep [] = Unit {0}
StylesKeep (s ∷ ss) = StyleKeeps s × StylesKeep ss

abbrev pub styles : (ss : List PlainStyle) → StylesKeep ss → List Style
styles [] ok = []
styles (s ∷ ss) ok = style s ok.0 ∷ styles ss ok.1

pub record PlainFont : Type 0 where
  pub name : List ℕ
  pub upem : ℕ
  pub ascent : ℕ
  pub descent : ℕ
  pub other : ℕ
  pub advances : List (ℕ × ℕ)

abbrev pub FontKeeps : PlainFont → Type 0
FontKeeps f = IsFont f.upem f.ascent f.descent f.other f.advances

abbrev pub font : (f : PlainFont) → FontKeeps f → Font
font f ok = record {
  name = f.name;
  upem = f.upem;
  ascent = f.ascent;
  descent = f.descent;
  other = f.other;
  advances = f.advances;
  ok = ok;
}

abbrev pub FontsKeep : List PlainFont → Type 0
FontsKeep [] = Unit {0}
FontsKeep (f ∷ fs) = FontKeeps f × FontsKeep fs

abbrev pub fonts : (fs : List PlainFont) → FontsKeep fs → List Font
fonts [] ok = []
fonts (f ∷ fs) ok = font f ok.0 ∷ fonts fs ok.1

pub record PlainTree : Type 0 where
  pub boxes : List BoxNode
  pub styles : List PlainStyle
  pub fonts : List PlainFont
  pub parents : List (Option ℕ)

pub record TreeKeeps (t : PlainTree) : Type 0 where
  pub of_styles : StylesKeep t.styles
  pub of_fonts : FontsKeep t.fonts
  pub whole : IsBoxTree t.boxes (styles t.styles of_styles) (fonts t.fonts of_fonts) t.parents

abbrev pub tree : (t : PlainTree) → TreeKeeps t → BoxTree
tree t ok = record {
  boxes = t.boxes;
  styles = styles t.styles ok.of_styles;
  fonts = fonts t.fonts ok.of_fonts;
  parents = t.parents;
  words = words_of t.boxes (styles t.styles ok.of_styles) (fonts t.fonts ok.of_fonts);
  ok = ok.whole;
  kept = refl;
}
