-- What a reader has given, and that it answers one thing.
use Rattle.std.proofs.Common.{◌≡◌, ℕ, ◌≤◌, List, [], ◌∷◌, ◌++◌, inl, inr, Option, Some, None, Result, Ok, Err, refl, sym, ◌∙◌, ap, subst, arith}
use Rattle.std.proofs.lemmas.List.{append-nil}
use Rattle.cert_text.specs.declared.certificate.Cert.{Cert}
use Rattle.cert_text.specs.declared.certificate.CertFault.{CertFault}
use Rattle.cert_text.specs.declared.certificate.CertFault.TheVariants.{Mem, Grammar}
use Rattle.cert_text.specs.declared.certificate.Piece.{Piece}
use Rattle.cert_text.specs.declared.due.Due.{Due}
use Rattle.cert_text.specs.declared.due.Due.TheVariants.{Head as HeadDue}
use Rattle.cert_text.specs.Texts.{piece_text, CertText}
use Rattle.cert_text.specs.Fault.{IsNoText}
use Rattle.cert_text.specs.Pieces.{cert_pieces, BeginsPieces, Reading, HasGiven, IsWhole, IsNext, AreOne}
use Rattle.cert_text.specs.steps.Stream.{Leads}
use Rattle.cert_text.proofs.Streams.{leads_split, leads_same, lines_one, piece_one}
use Rattle.cert_text.proofs.StreamNodes.{cert_lines, leads_cert, begins_leads}

-- the pieces given are one list
pub given_one : (r : Reading) (xs ys : List Piece) → HasGiven r xs → HasGiven r ys → xs ≡ ys
given_one r xs ys h k =
    let a = begins_leads xs h.0 in
    let b = begins_leads ys k.0 in
    lines_one (HeadDue ∷ []) a.0 b.0 xs ys a.1 b.1 (sym h.1 ∙ k.1)

-- a certificate's pieces are given where its text is taken
pub has_whole : (r : Reading) (cert : Cert) → CertText cert r.taken → HasGiven r (cert_pieces cert)
has_whole r cert h = ((cert, [], h.0, sym (append-nil (cert_pieces cert))), h.1 ∙ cert_lines cert)

pub given_whole : (r : Reading) (given : List Piece) (cert : Cert) → HasGiven r given → CertText cert r.taken → given ≡ cert_pieces cert
given_whole r given cert h text = given_one r given (cert_pieces cert) h (has_whole r cert text)

-- what may come behind pieces
behind : (given : List Piece) (x : Piece) (mid : List Due) → Leads (HeadDue ∷ []) given mid → BeginsPieces (given ++ x ∷ []) → (end : List Due) × Leads mid (x ∷ []) end
behind given x mid h begins =
    let whole = begins_leads (given ++ x ∷ []) begins in
    let split = leads_split (HeadDue ∷ []) whole.0 given (x ∷ []) whole.1 in
    (whole.0, subst (λ d. Leads d (x ∷ []) whole.0) (leads_same (HeadDue ∷ []) split.0 mid given split.1 h) split.2)

-- behind a whole certificate nothing may
whole_ends : (r : Reading) (given : List Piece) (x : Piece) → HasGiven r given → IsWhole r → BeginsPieces (given ++ x ∷ []) → ⊥
whole_ends r given x h whole begins =
    let same = given_whole r given whole.0 h whole.1 in
    let leads = subst (λ g. Leads (HeadDue ∷ []) g []) (sym same) (leads_cert whole.0 whole.1.0) in
    (behind given x [] leads begins).1

-- two pieces that may come next, and whose lines stand there, are one
same_piece : (mid a b : List Due) (x y : Piece) (s t : List ℕ) → Leads mid (x ∷ []) a → Leads mid (y ∷ []) b → piece_text x ++ s ≡ piece_text y ++ t → (x ≡ y) × (s ≡ t)
same_piece [] a b x y s t h k same = absurd h
same_piece (due ∷ dues) a b x y s t h k same = piece_one due x y s t h.0 k.0 same

reading_same : (a b : Reading) → a.taken ≡ b.taken → a.rest ≡ b.rest → a ≡ b
reading_same a b taken rest = ap (λ t. record { taken = t; rest = a.rest }) taken ∙ ap (λ t. record { taken = b.taken; rest = t }) rest

one_piece : (r : Reading) (given : List Piece) (x y : Piece) (one other : Reading) → HasGiven r given → IsNext r (Ok (Some x)) one → IsNext r (Ok (Some y)) other → (x ≡ y) × (one ≡ other)
one_piece r given x y one other h a b =
    let leads = begins_leads given h.0 in
    let p = behind given x leads.0 leads.1 (a.2 given h) in
    let q = behind given y leads.0 leads.1 (b.2 given h) in
    let same = same_piece leads.0 p.0 q.0 x y one.rest other.rest p.1 q.1 (sym a.1 ∙ b.1) in
    let taken : one.taken ≡ other.taken = a.0 ∙ ap (λ z. r.taken ++ piece_text z) same.0 ∙ sym b.0 in
    (same.0, reading_same one other taken same.1)

one_place : (bytes : List ℕ) (a b : ℕ) → IsNoText bytes a → IsNoText bytes b → a ≡ b
one_place bytes a b h k =
    let below : a ≤ b = k.longest a h.within h.begins in
    let above : b ≤ a = h.longest b k.within k.begins in
    omega arith

pub one_next : (r one other : Reading) (given : List Piece) (first second : Result (Option Piece) CertFault) → HasGiven r given → IsNext r first one → IsNext r second other → AreOne first one second other
one_next r one other given (Err Mem) second h a b = inl refl
one_next r one other given (Ok x) (Err Mem) h a b = inr (inl refl)
one_next r one other given (Err (Grammar n)) (Err Mem) h a b = inr (inl refl)
one_next r one other given (Ok (Some x)) (Ok (Some y)) h a b = let same = one_piece r given x y one other h a b in inr (inr (ap (λ z. Ok (Some z)) same.0, same.1))
one_next r one other given (Ok (Some x)) (Ok None) h a b = absurd (whole_ends r given x h b.1 (a.2 given h))
one_next r one other given (Ok None) (Ok (Some y)) h a b = absurd (whole_ends r given y h a.1 (b.2 given h))
one_next r one other given (Ok (Some x)) (Err (Grammar n)) h a b = absurd (b.2 given x one.rest h (a.2 given h) a.1)
one_next r one other given (Err (Grammar n)) (Ok (Some y)) h a b = absurd (a.2 given y other.rest h (b.2 given h) b.1)
one_next r one other given (Ok None) (Ok None) h a b = inr (inr (refl, a.0 ∙ sym b.0))
one_next r one other given (Ok None) (Err (Grammar n)) h a b = absurd (b.1.1 a.1.0 r.taken r.rest a.1.1 refl)
one_next r one other given (Err (Grammar n)) (Ok None) h a b = absurd (a.1.1 b.1.0 r.taken r.rest b.1.1 refl)
one_next r one other given (Err (Grammar n)) (Err (Grammar m)) h a b =
    inr (inr (ap (λ k. Err (Grammar k)) (one_place (r.taken ++ r.rest) n m a.1.0 b.1.0), a.0 ∙ sym b.0))
