-- The pieces of a certificate, and what a reader has given of them.
use Rattle.std.specs.Prelude.{◌≡◌, ℕ, IsTrue, List, [], ◌∷◌, ◌++◌, ◌⊎◌, Option, Some, None, Result, Ok, Err}
use Rattle.std.specs.List.{flat_map}
use Rattle.cert_text.specs.declared.certificate.Cert.{Cert}
use Rattle.cert_text.specs.declared.certificate.CertNode.{CertNode}
use Rattle.cert_text.specs.declared.certificate.CertNode.TheOpen.{CertNode-F}
use Rattle.cert_text.specs.declared.certificate.CertNode.TheFolds.{fold-CertNode}
use Rattle.cert_text.specs.declared.certificate.Piece.{Piece}
use Rattle.cert_text.specs.declared.certificate.Piece.TheVariants.{Head, Def, Split, Lemma, Void, Grid, Leaf}
use Rattle.cert_text.specs.declared.certificate.CertFault.{CertFault}
use Rattle.cert_text.specs.declared.certificate.CertFault.TheVariants.{Mem, Grammar}
use Rattle.cert_text.specs.Texts.{piece_text, cert_has_text, CertText}
use Rattle.cert_text.specs.Fault.{IsNoText}

-- a node's own piece, and then those of the nodes below it
abbrev pub pieces_step : CertNode-F (List Piece) → List Piece
pieces_step (CertNode-F.Def row d below) = Def row d ∷ below
pieces_step (CertNode-F.Split row first second) = Split row ∷ (first ++ second)
pieces_step (CertNode-F.Lemma row why below) = Lemma row why ∷ below
pieces_step (CertNode-F.Void why) = Void why ∷ []
pieces_step CertNode-F.Grid = Grid ∷ []
pieces_step (CertNode-F.Leaf answers) = Leaf answers ∷ []

-- the pieces of a node and of all below it, in preorder
abbrev pub node_pieces : CertNode → List Piece
node_pieces = fold-CertNode (List Piece) pieces_step

-- the head, and then those of the root
abbrev pub cert_pieces : Cert → List Piece
cert_pieces cert = Head cert.form cert.job ∷ node_pieces cert.root

-- the lines of pieces, one piece after another
abbrev pub lines_of : List Piece → List ℕ
lines_of = flat_map piece_text

-- some certificate that has a text begins with these pieces
abbrev pub BeginsPieces : List Piece → Type 0
BeginsPieces given = (cert : Cert) × (more : List Piece) × IsTrue (cert_has_text cert) × (cert_pieces cert ≡ given ++ more)

-- what a reader has taken of its bytes, and what is left
pub record Reading : Type 0 where
  pub taken : List ℕ
  pub rest : List ℕ

-- the bytes of a reader
abbrev pub bytes_of : Reading → List ℕ
bytes_of reading = reading.taken ++ reading.rest

-- a reader has given these pieces: some certificate begins with them, and the bytes taken are exactly their lines
abbrev pub HasGiven : Reading → List Piece → Type 0
HasGiven reading given = BeginsPieces given × (reading.taken ≡ lines_of given)

-- the bytes taken are a whole certificate's text
abbrev pub IsWhole : Reading → Type 0
IsWhole reading = (cert : Cert) × CertText cert reading.taken

-- no certificate's text stands at the front of the bytes, and their longest prefix that begins some certificate's text
-- has the length `at`
abbrev pub HasNoText : List ℕ → ℕ → Type 0
HasNoText bytes at =
    IsNoText bytes at × ((cert : Cert) (text more : List ℕ) → CertText cert text → bytes ≡ text ++ more → ⊥)

-- no piece's lines stand whole behind those of the pieces given, so that some certificate begins with all of them
abbrev pub HasNoMore : Reading → Type 0
HasNoMore reading = (given : List Piece) (piece : Piece) (more : List ℕ) → HasGiven reading given
    → BeginsPieces (given ++ piece ∷ []) → reading.rest ≡ piece_text piece ++ more → ⊥

-- The answer of a reader. A piece is the next one: its lines are taken, and some certificate begins with those given
-- before and it. None comes where the bytes taken are a whole certificate's text, whatever is left. A fault leaves the
-- reader as it was.
abbrev pub IsNext : Reading → Result (Option Piece) CertFault → Reading → Type 0
IsNext old (Ok (Some piece)) new = (new.taken ≡ old.taken ++ piece_text piece)
    × (old.rest ≡ piece_text piece ++ new.rest)
    × ((given : List Piece) → HasGiven old given → BeginsPieces (given ++ piece ∷ []))
IsNext old (Ok None) new = (new ≡ old) × IsWhole old
IsNext old (Err Mem) new = new ≡ old
IsNext old (Err (Grammar at)) new = (new ≡ old) × HasNoText (bytes_of old) at × HasNoMore old

-- two answers of one reader are the same, but for want of memory, and leave it the same
abbrev pub AreOne : Result (Option Piece) CertFault → Reading → Result (Option Piece) CertFault → Reading → Type 0
AreOne first one second other = (first ≡ Err Mem) ⊎ (second ≡ Err Mem) ⊎ ((first ≡ second) × (one ≡ other))
