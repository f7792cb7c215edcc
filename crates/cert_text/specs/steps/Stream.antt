-- What is still to come in a certificate's text, piece by piece.
use Rattle.std.specs.Prelude.{◌≡◌, ℕ, ◌-◌, Bool, true, false, List, [], ◌∷◌, ◌++◌, reverse, length, take, Option, Some, None}
use Rattle.cert_text.specs.declared.certificate.Piece.{Piece}
use Rattle.cert_text.specs.declared.certificate.Piece.TheVariants.{Head, Def, Split, Lemma, Void, Grid, Leaf}
use Rattle.cert_text.specs.declared.due.Due.{Due}
use Rattle.cert_text.specs.declared.due.Due.TheVariants.{Head as HeadDue, Node as NodeDue}
use Rattle.cert_text.specs.Texts.{head_has_text, piece_has_text}
use Rattle.cert_text.specs.Pieces.{lines_of}
use Rattle.cert_text.specs.steps.Readers.{Reader, give, seq}
use Rattle.cert_text.specs.steps.Whole.{read_head, read_piece}

-- whether a piece may be what is due
abbrev pub due_has_text : Due → Piece → Bool
due_has_text HeadDue (Head form job) = head_has_text form job
due_has_text HeadDue (Def _ d) = false
due_has_text HeadDue (Split _) = false
due_has_text HeadDue (Lemma _ why) = false
due_has_text HeadDue (Void _) = false
due_has_text HeadDue Grid = false
due_has_text HeadDue (Leaf _) = false
due_has_text (NodeDue form levels) piece = piece_has_text form levels piece

-- a node with one level less
abbrev pub below : Due → Due
below HeadDue = HeadDue
below (NodeDue form levels) = NodeDue form (levels - 1)

-- what becomes due by a piece, before what is due behind it: a head's root, or the nodes below a node
abbrev pub dues_below : Due → Piece → List Due
dues_below due (Head form _) = NodeDue form 512 ∷ []
dues_below due (Def _ d) = below due ∷ []
dues_below due (Split _) = below due ∷ below due ∷ []
dues_below due (Lemma _ why) = below due ∷ []
dues_below due (Void _) = []
dues_below due Grid = []
dues_below due (Leaf _) = []

-- after these pieces, of which the first is the first that is due, these are due
abbrev pub Leads : List Due → List Piece → List Due → Type 0
Leads dues [] end = dues ≡ end
Leads [] (piece ∷ pieces) end = ⊥
Leads (due ∷ dues) (piece ∷ pieces) end =
    (due_has_text due piece ≡ true) × Leads (dues_below due piece ++ dues) pieces end

-- what is due, by the next and the later ones, of which the last comes first
abbrev pub all_due : Option Due → List Due → List Due
all_due None later = []
all_due (Some due) later = due ∷ reverse later

-- pieces whose lines were taken, and what is due behind them
pub record Stands (bytes rest : List ℕ) (next : Option Due) (later : List Due) : Type 0 where
  pub given : List Piece
  pub whole : bytes ≡ lines_of given ++ rest
  pub leads : Leads (HeadDue ∷ []) given (all_due next later)

abbrev pub taken_of : List ℕ → List ℕ → List ℕ
taken_of bytes rest = take (length bytes - length rest) bytes

-- the piece that is due
abbrev pub read_due : Due → Reader Piece
read_due HeadDue = seq read_head (λ h. give (Head h.0 h.1))
read_due (NodeDue form levels) = read_piece form levels
