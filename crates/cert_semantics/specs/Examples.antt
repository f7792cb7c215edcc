-- Paths worked out by hand: widths from 320 to 1920 and sizes from 12 to 24, the width at least 480, a third of the
-- width named, and that floor below 200; and in form 2 heights from 600 to 700 too, with a lemma.
use Rattle.std.specs.Prelude.{ℤ, pos, negsuc, List, [], ◌∷◌}
use Rattle.viz_base.specs.declared.worlds.World.{World}
use Rattle.viz_base.specs.declared.worlds.Rect.{Rect}
use Rattle.lin_proof.specs.Form.{Form}
use Rattle.cert_semantics.specs.Paths.{def, first, second, lemma, Path, root, ◌▸◌}
use Rattle.cert_semantics.specs.Facts.{row_of}

abbrev pub range : Rect
range = record { wl = 320; wh = 1920; sl = 12; sh = 24; hl = 720; hh = 720 }

abbrev pub world : World
world = record { w = 500; s = 16; h = 720 }

-- w
abbrev pub width : Form
width = row_of (pos 0) (pos 1) 0

abbrev pub path : Path
path = second (row_of (negsuc 199) (pos 1) 2) ▸ def width (pos 3) ▸ first (row_of (negsuc 479) (pos 1) 0) ▸ root 1

-- w - 320, 1920 - w, s - 12, 24 - s, w - 480, w - 3x, 3x + 2 - w and 199 - x, x being the floor
abbrev pub path_facts : List Form
path_facts =
    row_of (negsuc 319) (pos 1) 0
    ∷ row_of (pos 1920) (negsuc 0) 0
    ∷ row_of (negsuc 11) (pos 1) 1
    ∷ row_of (pos 24) (negsuc 0) 1
    ∷ row_of (negsuc 479) (pos 1) 0
    ∷ record { k = pos 0; terms = (0, pos 1) ∷ (2, negsuc 2) ∷ [] }
    ∷ record { k = pos 2; terms = (0, negsuc 0) ∷ (2, pos 3) ∷ [] }
    ∷ row_of (pos 199) (negsuc 0) 2
    ∷ []

-- a path of unit splits on which there are the widths from 320 to `most` and the sizes from 12 to 15
abbrev pub cut_to : ℤ → Path
cut_to most = first (row_of (pos 15) (negsuc 0) 1) ▸ first (row_of most (negsuc 0) 0) ▸ root 1

-- ---- form 2

abbrev pub tall_range : Rect
tall_range = record { wl = 320; wh = 321; sl = 16; sh = 16; hl = 600; hh = 700 }

abbrev pub tall_world : World
tall_world = record { w = 320; s = 16; h = 631 }

-- h
abbrev pub height : Form
height = row_of (pos 0) (pos 1) 2

-- heights up to 631, the lemma that they are at most 650, and half of the height named
abbrev pub tall_path : Path
tall_path = def height (pos 2) ▸ lemma (row_of (pos 650) (negsuc 0) 2) ▸ first (row_of (pos 631) (negsuc 0) 2) ▸ root 2

-- w - 320, 321 - w, s - 16, 16 - s, h - 600, 700 - h, 631 - h, 650 - h, h - 2x and 2x + 1 - h, x being the floor
abbrev pub tall_facts : List Form
tall_facts =
    row_of (negsuc 319) (pos 1) 0
    ∷ row_of (pos 321) (negsuc 0) 0
    ∷ row_of (negsuc 15) (pos 1) 1
    ∷ row_of (pos 16) (negsuc 0) 1
    ∷ row_of (negsuc 599) (pos 1) 2
    ∷ row_of (pos 700) (negsuc 0) 2
    ∷ row_of (pos 631) (negsuc 0) 2
    ∷ row_of (pos 650) (negsuc 0) 2
    ∷ record { k = pos 0; terms = (2, pos 1) ∷ (3, negsuc 1) ∷ [] }
    ∷ record { k = pos 1; terms = (2, negsuc 0) ∷ (3, pos 2) ∷ [] }
    ∷ []
