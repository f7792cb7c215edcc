-- The words of formulas: what each that has a meaning in the grammar is there. Others are names.
use Rattle.std.specs.Prelude.{ℕ, Bool, true, false, List, bytes_eq, Option, Some, None, option_map, unwrap_or, if◌then◌else◌, codes}
use Rattle.std.specs.Option.{option_or}
use Rattle.viz_base.specs.declared.formulas.Face.{Face}
use Rattle.viz_base.specs.declared.formulas.Face.TheVariants.{Left, Top, Right, Bottom}
use Rattle.viz_base.specs.declared.formulas.Ring.{Ring}
use Rattle.viz_base.specs.declared.formulas.Ring.TheVariants.{Margin, Padding, Content}
use Rattle.viz_base.specs.declared.formulas.Set.TheVariants.{Of, Every}
use Rattle.viz_base.specs.declared.trees.Kind.{Kind}
use Rattle.viz_base.specs.declared.trees.Kind.TheVariants.{Block, Anon, Float, Atomic, Replaced, Inline, Chars, Line}
use Rattle.vis_read.specs.declared.lexemes.Lexeme.{Lexeme}
use Rattle.vis_read.specs.declared.lexemes.Lexeme.TheVariants as a
use Rattle.vis_read.specs.declared.lexemes.Pair.{Pair}
use Rattle.vis_read.specs.declared.lexemes.Pair.TheVariants.{Overlap, Same}
use Rattle.vis_read.specs.declared.lexemes.Quantifier.TheVariants.{Forall, Exists}

-- quantifiers, connectives and `in`
abbrev pub connective_of : List ℕ → Option Lexeme
connective_of w =
    if bytes_eq w (codes "forall") then Some (a.Quantifier Forall) else
    (if bytes_eq w (codes "exists") then Some (a.Quantifier Exists) else
    (if bytes_eq w (codes "in") then Some a.In else
    (if bytes_eq w (codes "implies") then Some a.Implies else
    (if bytes_eq w (codes "or") then Some a.Or else
    (if bytes_eq w (codes "and") then Some a.And else
    (if bytes_eq w (codes "not") then Some a.Not else
    None))))))

-- a formula that is true or false by itself
abbrev pub truth_of : List ℕ → Option Bool
truth_of w =
    if bytes_eq w (codes "true") then Some true else
    (if bytes_eq w (codes "false") then Some false else
    None)

-- what is said of two names
abbrev pub pair_of : List ℕ → Option Pair
pair_of w =
    if bytes_eq w (codes "overlap") then Some Overlap else
    (if bytes_eq w (codes "same") then Some Same else
    None)

-- the boxes of a kind
abbrev pub kind_of : List ℕ → Option Kind
kind_of w =
    if bytes_eq w (codes "block") then Some Block else
    (if bytes_eq w (codes "anon") then Some Anon else
    (if bytes_eq w (codes "float") then Some Float else
    (if bytes_eq w (codes "atomic") then Some Atomic else
    (if bytes_eq w (codes "replaced") then Some Replaced else
    (if bytes_eq w (codes "inline") then Some Inline else
    (if bytes_eq w (codes "text") then Some Chars else
    (if bytes_eq w (codes "line") then Some Line else
    None)))))))

-- a box's rectangles; the border's is the one meant where none is named
abbrev pub ring_of : List ℕ → Option Ring
ring_of w =
    if bytes_eq w (codes "margin") then Some Margin else
    (if bytes_eq w (codes "padding") then Some Padding else
    (if bytes_eq w (codes "content") then Some Content else
    None))

-- the edges of a rectangle
abbrev pub face_of : List ℕ → Option Face
face_of w =
    if bytes_eq w (codes "left") then Some Left else
    (if bytes_eq w (codes "top") then Some Top else
    (if bytes_eq w (codes "right") then Some Right else
    (if bytes_eq w (codes "bottom") then Some Bottom else
    None)))

-- all boxes, and the viewport
abbrev pub other_of : List ℕ → Option Lexeme
other_of w =
    if bytes_eq w (codes "box") then Some (a.Members Every) else
    (if bytes_eq w (codes "view") then Some a.View else
    (if bytes_eq w (codes "width") then Some a.Width else
    (if bytes_eq w (codes "height") then Some a.Height else
    None)))

abbrev pub meaning_of : List ℕ → Option Lexeme
meaning_of w =
    option_or (connective_of w)
    (option_or (option_map a.Truth (truth_of w))
    (option_or (option_map a.Pair (pair_of w))
    (option_or (option_map (λ kind. a.Members (Of kind)) (kind_of w))
    (option_or (option_map a.Ring (ring_of w))
    (option_or (option_map a.Face (face_of w)) (other_of w))))))

-- what a word is in the grammar
abbrev pub word_lexeme : List ℕ → Lexeme
word_lexeme w = unwrap_or (meaning_of w) (a.Name w)
