-- What an answer of a reader says of its bytes, by the pieces whose lines are taken and what is due behind them.
use Rattle.std.proofs.Common.{◌≡◌, ℕ, ◌-◌, ◌≤◌, true, List, [], ◌∷◌, ◌++◌, reverse, length, Option, Some, None, Ok, Err, sym, ◌∙◌, ap, subst, arith, append_assoc, length-append}
use Rattle.std.proofs.lemmas.List.{append-nil}
use Rattle.std.proofs.lemmas.Grind.{flat_map-append}
use Rattle.viz_base.proofs.Sameness.{same_Ok}
use Rattle.cert_text.specs.declared.certificate.Piece.{Piece}
use Rattle.cert_text.specs.declared.due.Due.{Due}
use Rattle.cert_text.specs.declared.due.Due.TheVariants.{Head as HeadDue}
use Rattle.cert_text.specs.Texts.{piece_text, CertText}
use Rattle.cert_text.specs.Pieces.{cert_pieces, lines_of, BeginsPieces, Reading, bytes_of, HasGiven, IsWhole, HasNoText, HasNoMore}
use Rattle.cert_text.specs.steps.Read.{Answer}
use Rattle.cert_text.specs.steps.Stream.{due_has_text, dues_below, Leads, all_due, Stands, taken_of, read_due}
use Rattle.cert_text.proofs.Language.{Leaves, IsRefused, IsRead}
use Rattle.cert_text.proofs.Faults.{stuck_refused, take_front}
use Rattle.cert_text.proofs.Streams.{DueText, good_due, due_text, leads_append, leads_split, leads_one, leads_end, leads_same, first_has, lines_one, leaves_behind, leaves_prefix}
use Rattle.cert_text.proofs.StreamNodes.{cert_lines, leads_cert, cert_at, begins_leads, leads_begins}

-- ---- the bytes taken

pub taken_front : (front rest : List ℕ) → taken_of (front ++ rest) rest ≡ front
taken_front front rest =
    let sizes = length-append front rest in
    let size : length (front ++ rest) - length rest ≡ length front = omega arith in
    rw size (take_front front rest)

pub taken_none : (bytes : List ℕ) → taken_of bytes bytes ≡ []
taken_none bytes = taken_front [] bytes

-- a reader's value
abbrev pub reading : List ℕ → List ℕ → Reading
reading bytes rest = record { taken = taken_of bytes rest; rest = rest }

lines_more : (given : List Piece) (p : Piece) → lines_of (given ++ p ∷ []) ≡ lines_of given ++ piece_text p
lines_more given p = flat_map-append piece_text given (p ∷ []) ∙ ap (λ t. lines_of given ++ t) (append-nil (piece_text p))

module _ (bytes rest : List ℕ) (next : Option Due) (later : List Due) (s : Stands bytes rest next later) where
  pub taken_lines : taken_of bytes rest ≡ lines_of s.given
  taken_lines = ap (λ b. taken_of b rest) s.whole ∙ taken_front (lines_of s.given) rest

  pub bytes_same : bytes_of (reading bytes rest) ≡ bytes
  bytes_same = ap (λ t. t ++ rest) taken_lines ∙ sym s.whole

  -- the pieces given are those whose lines are taken
  pub given_same : (given : List Piece) → HasGiven (reading bytes rest) given → given ≡ s.given
  given_same given h = let b = begins_leads given h.0 in lines_one (HeadDue ∷ []) b.0 (all_due next later) given s.given b.1 s.leads (sym h.1 ∙ taken_lines)

-- ---- nothing is due

pub whole_by : (bytes rest : List ℕ) (next : Option Due) (later : List Due) → Stands bytes rest next later → next ≡ None → IsWhole (reading bytes rest)
whole_by bytes rest next later s none =
    let c = cert_at s.given (subst (λ d. Leads (HeadDue ∷ []) s.given (all_due d later)) none s.leads) in
    (c.0, (c.1, taken_lines bytes rest next later s ∙ ap lines_of (sym c.2) ∙ sym (cert_lines c.0)))

-- ---- a piece

-- what a piece that was read says
record Piece_read (due : Due) (rest : List ℕ) (p : Piece) (left : List ℕ) : Type 0 where
  has : due_has_text due p ≡ true
  whole : rest ≡ piece_text p ++ left

piece_by : (due : Due) (rest : List ℕ) (r : Answer Piece) (p : Piece) (left : List ℕ) → IsRead (DueText due) rest r → r ≡ Ok (p, left) → Piece_read due rest p left
piece_by due rest (Ok r) p left h is =
    let same = same_Ok {E = List ℕ} is in
    let piece : r.0 ≡ p = ap (λ (x : Piece × List ℕ). x.0) same in
    let behind : r.1 ≡ left = ap (λ (x : Piece × List ℕ). x.1) same in
    record {
      has = subst (λ x. due_has_text due x ≡ true) piece h.is_text.has;
      whole = h.whole ∙ ap (λ t. t ++ r.1) h.is_text.whole ∙ ap (λ x. piece_text x ++ r.1) piece ∙ ap (λ t. piece_text p ++ t) behind;
    }
piece_by due rest (Err e) p left h is = absurd (cc)

piece_read : (due : Due) (rest : List ℕ) (p : Piece) (left : List ℕ) → read_due due rest ≡ Ok (p, left) → Piece_read due rest p left
piece_read due rest p left is = piece_by due rest (read_due due rest) p left ((good_due due).read rest) is

module _ (bytes rest : List ℕ) (due : Due) (later : List Due) (s : Stands bytes rest (Some due) later) (p : Piece) (left : List ℕ) (is : read_due due rest ≡ Ok (p, left)) where
  leads_more : Leads (HeadDue ∷ []) (s.given ++ p ∷ []) (dues_below due p ++ reverse later)
  leads_more =
      let r = piece_read due rest p left is in
      leads_append (HeadDue ∷ []) (due ∷ reverse later) (dues_below due p ++ reverse later) s.given (p ∷ []) s.leads (leads_one due (reverse later) p r.has)

  whole_more : bytes ≡ (lines_of s.given ++ piece_text p) ++ left
  whole_more =
      let r = piece_read due rest p left is in
      s.whole ∙ ap (λ t. lines_of s.given ++ t) r.whole ∙ sym (append_assoc (lines_of s.given) (piece_text p) left)

  pub stands_more : (next' : Option Due) (later' : List Due) → all_due next' later' ≡ dues_below due p ++ reverse later → Stands bytes left next' later'
  stands_more next' later' same = record {
    given = s.given ++ p ∷ [];
    whole = whole_more ∙ ap (λ t. t ++ left) (sym (lines_more s.given p));
    leads = subst (λ dues. Leads (HeadDue ∷ []) (s.given ++ p ∷ []) dues) (sym same) leads_more;
  }

  pub taken_more : taken_of bytes left ≡ taken_of bytes rest ++ piece_text p
  taken_more =
      ap (λ b. taken_of b left) whole_more ∙ taken_front (lines_of s.given ++ piece_text p) left
      ∙ ap (λ t. t ++ piece_text p) (sym (taken_lines bytes rest (Some due) later s))

  pub rest_more : rest ≡ piece_text p ++ left
  rest_more = (piece_read due rest p left is).whole

  pub begins_more : (given : List Piece) → HasGiven (reading bytes rest) given → BeginsPieces (given ++ p ∷ [])
  begins_more given h =
      subst (λ g. BeginsPieces (g ++ p ∷ [])) (sym (given_same bytes rest (Some due) later s given h)) (leads_begins (s.given ++ p ∷ []) (dues_below due p ++ reverse later) leads_more)

-- ---- a byte that can't stand where it stands

refused_by : (due : Due) (rest : List ℕ) (r : Answer Piece) (left : List ℕ) → IsRead (DueText due) rest r → r ≡ Err left → IsRefused (DueText due) rest left
refused_by due rest (Ok r) left h is = absurd (cc)
refused_by due rest (Err e) left h is = let same : e ≡ left = cc in subst (λ l. IsRefused (DueText due) rest l) same h

module _ (bytes rest : List ℕ) (due : Due) (later : List Due) (s : Stands bytes rest (Some due) later) (left : List ℕ) (is : read_due due rest ≡ Err left) where
  refused_piece : IsRefused (DueText due) rest left
  refused_piece = refused_by due rest (read_due due rest) left ((good_due due).read rest) is

  refused_cert : IsRefused CertText bytes left
  refused_cert =
      let h = refused_piece in
      let tail = leads_end (dues_below due h.value ++ reverse later) in
      let whole = leads_append (HeadDue ∷ []) (due ∷ reverse later) [] s.given (h.value ∷ tail.0) s.leads (h.begins.has, tail.1) in
      let c = cert_at (s.given ++ h.value ∷ tail.0) whole in
      let lines = lines_of s.given in
      record {
        read = lines ++ h.read;
        whole = s.whole ∙ ap (λ t. lines ++ t) h.whole ∙ sym (append_assoc lines h.read left);
        value = c.0;
        more = h.more ++ lines_of tail.0;
        begins = (
          c.1,
          append_assoc lines h.read (h.more ++ lines_of tail.0) ∙ ap (λ t. lines ++ t) (sym (append_assoc h.read h.more (lines_of tail.0)) ∙ ap (λ t. t ++ lines_of tail.0) h.begins.whole)
              ∙ sym (flat_map-append piece_text s.given (h.value ∷ tail.0)) ∙ ap lines_of (sym c.2) ∙ sym (cert_lines c.0),
        );
        leaves = λ cert t spelled.
            subst (λ x. Leaves x (lines ++ h.read) left) (sym (spelled.1 ∙ cert_lines cert))
            (leaves_behind (HeadDue ∷ []) s.given (cert_pieces cert) due (reverse later) h.read left s.leads (leads_cert cert spelled.0) h.leaves);
      }

  pub within : length left ≤ length bytes
  within = (stuck_refused bytes left refused_cert).within

  pub no_text : HasNoText bytes (length bytes - length left)
  no_text =
      let r = refused_cert in
      ((stuck_refused bytes left r).no_text, λ cert text more spelled whole. leaves_prefix text more r.read left (r.leaves cert text spelled) (sym r.whole ∙ whole))

  pub no_more : HasNoMore (reading bytes rest)
  no_more given p more h begins whole =
      let r = refused_piece in
      let same = given_same bytes rest (Some due) later s given h in
      let leads = begins_leads (given ++ p ∷ []) begins in
      let split = leads_split (HeadDue ∷ []) leads.0 given (p ∷ []) leads.1 in
      let mid = leads_same (HeadDue ∷ []) split.0 (due ∷ reverse later) given split.1 (subst (λ g. Leads (HeadDue ∷ []) g (due ∷ reverse later)) (sym same) s.leads) in
      let has = first_has due (reverse later) leads.0 p (subst (λ d. Leads d (p ∷ []) leads.0) mid split.2) in
      leaves_prefix (piece_text p) more r.read left (r.leaves p (piece_text p) (due_text due p has)) (sym r.whole ∙ whole)
