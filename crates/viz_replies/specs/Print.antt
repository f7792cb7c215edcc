-- The printed form of a rendering: a line for each box, with its kind, its node and the edges of its four rectangles.
use Rattle.std.specs.Prelude.{ℕ, pos, ℤ, List, [], ◌++◌, codes}
use Rattle.std.specs.Fmt.{signed_decimal}
use Rattle.std.specs.List.{flat_map}
use Rattle.viz_base.specs.declared.renderings.Quad.{Quad}
use Rattle.viz_base.specs.declared.renderings.Placed.{Placed}
use Rattle.viz_base.specs.declared.renderings.Rendering.{Rendering}
use Rattle.viz_base.specs.declared.trees.Kind.{Kind}
use Rattle.viz_base.specs.declared.trees.Kind.TheVariants as of_kind

-- a number in decimal, after a space
abbrev pub spaced : ℤ → List ℕ
spaced n = codes " " ++ signed_decimal n

-- a rectangle: its letter, and then its left, top, right and bottom edges
abbrev pub print_quad : List ℕ → Quad ℤ → List ℕ
print_quad letter q = codes " " ++ letter ++ spaced q.left ++ spaced q.top ++ spaced q.right ++ spaced q.bottom

-- KIND NODE m L T R B b L T R B p L T R B c L T R B, for margin, border, padding and content
abbrev pub print_line : List ℕ → Placed ℤ → List ℕ
print_line word p =
    word ++ spaced (pos p.node) ++ print_quad (codes "m") p.margin ++ print_quad (codes "b") p.border
    ++ print_quad (codes "p") p.padding ++ print_quad (codes "c") p.content ++ codes "\n"

-- a forced break has no line
abbrev pub print_kind : Kind → Placed ℤ → List ℕ
print_kind of_kind.Block p = print_line (codes "block") p
print_kind of_kind.Anon p = print_line (codes "anon") p
print_kind of_kind.Float p = print_line (codes "float") p
print_kind of_kind.Atomic p = print_line (codes "atomic") p
print_kind of_kind.Replaced p = print_line (codes "replaced") p
print_kind of_kind.Inline p = print_line (codes "inline") p
print_kind of_kind.Chars p = print_line (codes "text") p
print_kind of_kind.Line p = print_line (codes "line") p
print_kind of_kind.Break p = []

abbrev pub print_box : Placed ℤ → List ℕ
print_box p = print_kind p.kind p

abbrev pub printed : Rendering ℤ → List ℕ
printed r = flat_map print_box r.boxes
