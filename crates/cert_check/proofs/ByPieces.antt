-- The nodes of a certificate, by its pieces.
use Rattle.std.proofs.Common.{◌≡◌, ℕ, ◌+◌, ◌≤◌, List, [], ◌∷◌, ◌++◌, length, Ok, Some, refl, sym, ◌∙◌, ap, arith, append_assoc, length-append}
use Rattle.std.proofs.lemmas.List.{append-nil}
use Rattle.std.proofs.lemmas.Grind.{flat_map-append}
use Rattle.cert_text.specs.declared.certificate.Cert.{Cert}
use Rattle.cert_text.specs.declared.certificate.CertNode.{CertNode}
use Rattle.cert_text.specs.declared.certificate.Piece.{Piece}
use Rattle.cert_text.specs.declared.certificate.Piece.TheVariants.{Head, Def, Split, Lemma, Void, Grid, Leaf}
use Rattle.cert_text.specs.declared.due.Due.{Due}
use Rattle.cert_text.specs.declared.due.Due.TheVariants.{Head as HeadDue}
use Rattle.cert_text.specs.Texts.{piece_text}
use Rattle.cert_text.specs.Pieces.{node_pieces, cert_pieces, lines_of, BeginsPieces, Reading, HasGiven, IsNext, bytes_of}
use Rattle.cert_text.specs.steps.Stream.{dues_below, Leads}
use Rattle.cert_text.proofs.Streams.{piece_some, leads_split}
use Rattle.cert_text.proofs.StreamNodes.{on_nodes, pieces_Def, pieces_Split, pieces_Lemma, pieces_Void, pieces_Grid, pieces_Leaf, begins_leads}
use Rattle.cert_semantics.specs.Paths.{def, first, second, lemma, Path, root, ◌▸◌}
use Rattle.cert_semantics.specs.Nodes.{names, splits, states, node_on, nodes_from, nodes_of}
use Rattle.cert_semantics.proofs.Trees.{preorder}
use Rattle.cert_check.specs.steps.Stream.{own_nodes, paths_below, nodes_by, paths_after}

-- ---- a certificate's nodes are those of its pieces

abbrev AreBy : CertNode → Type 0
AreBy node = (path : Path) (paths : List Path) (more : List Piece) → nodes_by (path ∷ paths) (node_pieces node ++ more) ≡ nodes_from node path ++ nodes_by paths more

nodes_node : (node : CertNode) → AreBy node
nodes_node =
    on_nodes AreBy
    (λ row d below h path paths more.
    ap (λ ps. nodes_by (path ∷ paths) (ps ++ more)) (pieces_Def row d below)
    ∙ ap (λ ns. node_on path (names row d) ∷ ns) (h (def row d ▸ path) paths more)
    ∙ ap (λ ns. ns ++ nodes_by paths more) (sym (preorder.def row d below path)))
    (λ row one other h k path paths more.
    let left = first row ▸ path in
    let right = second row ▸ path in
    ap (λ ps. nodes_by (path ∷ paths) (ps ++ more)) (pieces_Split row one other)
    ∙ ap (λ ps. node_on path (splits row) ∷ nodes_by (left ∷ right ∷ paths) ps) (append_assoc (node_pieces one) (node_pieces other) more)
    ∙ ap (λ ns. node_on path (splits row) ∷ ns)
    (h left (right ∷ paths) (node_pieces other ++ more) ∙ ap (λ ns. nodes_from one left ++ ns) (k right paths more) ∙ sym (append_assoc (nodes_from one left) (nodes_from other right) (nodes_by paths more)))
    ∙ ap (λ ns. ns ++ nodes_by paths more) (sym (preorder.split row one other path)))
    (λ row why below h path paths more.
    ap (λ ps. nodes_by (path ∷ paths) (ps ++ more)) (pieces_Lemma row why below)
    ∙ ap (λ ns. node_on path (states row why) ∷ ns) (h (lemma row ▸ path) paths more)
    ∙ ap (λ ns. ns ++ nodes_by paths more) (sym (preorder.lemma row why below path)))
    (λ why path paths more. ap (λ ps. nodes_by (path ∷ paths) (ps ++ more)) (pieces_Void why) ∙ ap (λ ns. ns ++ nodes_by paths more) (sym (preorder.void why path)))
    (λ path paths more. ap (λ ps. nodes_by (path ∷ paths) (ps ++ more)) pieces_Grid ∙ ap (λ ns. ns ++ nodes_by paths more) (sym (preorder.grid path)))
    (λ answers path paths more. ap (λ ps. nodes_by (path ∷ paths) (ps ++ more)) (pieces_Leaf answers) ∙ ap (λ ns. ns ++ nodes_by paths more) (sym (preorder.leaf answers path)))

pub nodes_cert : (form : ℕ) (cert : Cert) → nodes_by (root form ∷ []) (cert_pieces cert) ≡ nodes_of form cert
nodes_cert form cert =
    ap (nodes_by (root form ∷ [])) (sym (append-nil (node_pieces cert.root)))
    ∙ nodes_node cert.root (root form) [] []
    ∙ append-nil (nodes_from cert.root (root form))

-- ---- pieces behind others

none_by : (pieces : List Piece) → nodes_by [] pieces ≡ []
none_by [] = refl
none_by (piece ∷ pieces) = refl

none_after : (pieces : List Piece) → paths_after [] pieces ≡ []
none_after [] = refl
none_after (piece ∷ pieces) = refl

pub nodes_append : (paths : List Path) (xs ys : List Piece) → nodes_by paths (xs ++ ys) ≡ nodes_by paths xs ++ nodes_by (paths_after paths xs) ys
nodes_append [] [] ys = refl
nodes_append (path ∷ paths) [] ys = refl
nodes_append [] (x ∷ xs) ys = sym (none_by ys)
nodes_append (path ∷ paths) (x ∷ xs) ys =
    let below = paths_below path x ++ paths in
    ap (λ ns. own_nodes path x ++ ns) (nodes_append below xs ys) ∙ sym (append_assoc (own_nodes path x) (nodes_by below xs) (nodes_by (paths_after below xs) ys))

pub after_append : (paths : List Path) (xs ys : List Piece) → paths_after paths (xs ++ ys) ≡ paths_after (paths_after paths xs) ys
after_append [] [] ys = refl
after_append (path ∷ paths) [] ys = refl
after_append [] (x ∷ xs) ys = sym (none_after ys)
after_append (path ∷ paths) (x ∷ xs) ys = after_append (paths_below path x ++ paths) xs ys

-- one piece more
module _ (paths : List Path) (given : List Piece) (path : Path) (others : List Path) (due : paths_after paths given ≡ path ∷ others) (piece : Piece) where
  pub nodes_more : nodes_by paths (given ++ piece ∷ []) ≡ nodes_by paths given ++ own_nodes path piece
  nodes_more =
      nodes_append paths given (piece ∷ [])
      ∙ ap (λ ps. nodes_by paths given ++ nodes_by ps (piece ∷ [])) due
      ∙ ap (λ ns. nodes_by paths given ++ ns) (ap (λ ns. own_nodes path piece ++ ns) (none_left (paths_below path piece ++ others)) ∙ append-nil (own_nodes path piece))
    where
      none_left : (ps : List Path) → nodes_by ps [] ≡ []
      none_left [] = refl
      none_left (p ∷ ps) = refl

  pub after_more : paths_after paths (given ++ piece ∷ []) ≡ paths_below path piece ++ others
  after_more = after_append paths given (piece ∷ []) ∙ ap (λ ps. paths_after ps (piece ∷ [])) due ∙ all_left (paths_below path piece ++ others)
    where
      all_left : (ps : List Path) → paths_after ps [] ≡ ps
      all_left [] = refl
      all_left (p ∷ ps) = refl

-- ---- a node is due where a piece may come

below_count : (due : Due) (path : Path) (piece : Piece) → length (dues_below due piece) ≡ length (paths_below path piece)
below_count due path (Head form job) = refl
below_count due path (Def row d) = refl
below_count due path (Split row) = refl
below_count due path (Lemma row why) = refl
below_count due path (Void why) = refl
below_count due path Grid = refl
below_count due path (Leaf answers) = refl

same_count : (dues end : List Due) (paths : List Path) (pieces : List Piece) → Leads dues pieces end → length dues ≡ length paths → length end ≡ length (paths_after paths pieces)
same_count dues end [] [] h e = ap (λ (l : List Due). length l) (sym h) ∙ e
same_count dues end (path ∷ paths) [] h e = ap (λ (l : List Due). length l) (sym h) ∙ e
same_count [] end paths (p ∷ pieces) h e = absurd h
same_count (due ∷ dues) end [] (p ∷ pieces) h e = absurd (omega (arith, e))
same_count (due ∷ dues) end (path ∷ paths) (p ∷ pieces) h e =
    same_count (dues_below due p ++ dues) end (paths_below path p ++ paths) pieces h.1
    (omega (arith, e, below_count due path p, length-append (dues_below due p) dues, length-append (paths_below path p) paths))

pub record IsNextDue (form : ℕ) (given : List Piece) : Type 0 where
  pub path : Path
  pub others : List Path
  pub are : paths_after (root form ∷ []) given ≡ path ∷ others

pub next_due : (form : ℕ) (given : List Piece) (piece : Piece) → BeginsPieces (given ++ piece ∷ []) → IsNextDue form given
next_due form given piece begins =
    let whole = begins_leads (given ++ piece ∷ []) begins in
    let split = leads_split (HeadDue ∷ []) whole.0 given (piece ∷ []) whole.1 in
    by_dues split.0 split.1 whole.0 split.2
  where
    by_paths : (due : Due) (dues : List Due) (paths : List Path) → length (due ∷ dues) ≡ length paths → paths_after (root form ∷ []) given ≡ paths → IsNextDue form given
    by_paths due dues [] e is = absurd (omega (arith, e))
    by_paths due dues (path ∷ others) e is = record { path = path; others = others; are = is }

    by_dues : (mid : List Due) → Leads (HeadDue ∷ []) given mid → (end : List Due) → Leads mid (piece ∷ []) end → IsNextDue form given
    by_dues [] h end k = absurd k
    by_dues (due ∷ dues) h end k = by_paths due dues (paths_after (root form ∷ []) given) (same_count (HeadDue ∷ []) (due ∷ dues) (root form ∷ []) given h refl) refl

-- ---- there are no more nodes than bytes

pub own_few : (path : Path) (piece : Piece) → length (own_nodes path piece) ≤ 1
own_few path (Head form job) = omega arith
own_few path (Def row d) = omega arith
own_few path (Split row) = omega arith
own_few path (Lemma row why) = omega arith
own_few path (Void why) = omega arith
own_few path Grid = omega arith
own_few path (Leaf answers) = omega arith

pub nodes_few : (paths : List Path) (pieces : List Piece) → length (nodes_by paths pieces) ≤ length (lines_of pieces)
nodes_few [] [] = omega arith
nodes_few (path ∷ paths) [] = omega arith
nodes_few [] (p ∷ pieces) = omega arith
nodes_few (path ∷ paths) (p ∷ pieces) =
    let below = paths_below path p ++ paths in
    omega (arith, own_few path p, piece_some p, nodes_few below pieces, length-append (own_nodes path p) (nodes_by below pieces), length-append (piece_text p) (lines_of pieces))

-- ---- one piece more of a reader

pub given_more : (old new : Reading) (given : List Piece) (piece : Piece) → IsNext old (Ok (Some piece)) new → HasGiven old given → HasGiven new (given ++ piece ∷ [])
given_more old new given piece next has = (
  next.2 given has,
  next.0 ∙ ap (λ t. t ++ piece_text piece) has.1 ∙ ap (λ t. lines_of given ++ t) (sym (append-nil (piece_text piece))) ∙ sym (flat_map-append piece_text given (piece ∷ [])),
)

pub bytes_more : (old new : Reading) (piece : Piece) → IsNext old (Ok (Some piece)) new → bytes_of new ≡ bytes_of old
bytes_more old new piece next =
    ap (λ t. t ++ new.rest) next.0 ∙ append_assoc old.taken (piece_text piece) new.rest ∙ ap (λ t. old.taken ++ t) (sym next.1)

-- the nodes of the pieces given and one more are at most as many as the bytes
pub room : (old new : Reading) (paths : List Path) (given : List Piece) (piece : Piece) → IsNext old (Ok (Some piece)) new → HasGiven old given → length (nodes_by paths given) + 1 ≤ length (bytes_of old)
room old new paths given piece next has =
    let taken = ap (λ (t : List ℕ). length t) has.1 in
    let left = ap (λ (t : List ℕ). length t) next.1 ∙ length-append (piece_text piece) new.rest in
    omega (arith, taken, left, piece_some piece, nodes_few paths given, length-append old.taken old.rest)
