-- What tokens of a text say of the text.
use Rattle.std.proofs.Common.{◌≡◌, ℕ, ◌≤◌, ◌==◌, bytes_eq, true, List, ◌∷◌, ◌++◌, length, Option, Some, None, IfOk, MatchResult, Result, Ok, Err, option_map, unwrap_or, sym, ap, subst, arith, codes, length-append}
use Rattle.std.proofs.lemmas.List.{length-map}
use Rattle.std.specs.Option.{option_or}
use Rattle.viz_base.specs.declared.formulas.Formula.{Formula}
use Rattle.viz_base.specs.declared.nodes.Node.{Node}
use Rattle.viz_base.specs.declared.formulas.Set.TheVariants.{Of}
use Rattle.viz_base.specs.declared.formulas.Sign.{Sign as Comparison}
use Rattle.viz_base.specs.declared.formulas.Sign.TheVariants.{Lt, Le, Eq, Ne, Ge, Gt}
use Rattle.viz_base.specs.Formulas.{has_small_terms, is_bound_in}
use Rattle.viz_base.proofs.Truths.{by_bool}
use Rattle.vis_read.specs.declared.faults.FormulaFault.{FormulaFault}
use Rattle.vis_read.specs.declared.faults.FormulaFault.TheVariants as of_fault
use Rattle.vis_read.specs.declared.lexemes.Lexeme.{Lexeme}
use Rattle.vis_read.specs.declared.lexemes.Lexeme.TheVariants as a
use Rattle.vis_read.specs.declared.lexemes.Token.{Token}
use Rattle.vis_read.specs.declared.pieces.Piece.{Piece}
use Rattle.vis_read.specs.Grammar.{IsFormula, tokens_of, token_of}
use Rattle.vis_read.specs.Pieces.{IsNumber, IsPiece, sign_text}
use Rattle.vis_read.specs.Texts.{IsFault, IsFormulaText}
use Rattle.vis_read.specs.Tokens.{AreTokens, IsSet, Means, mark_lexeme}
use Rattle.vis_read.specs.Words.{connective_of, truth_of, pair_of, kind_of, ring_of, face_of, other_of, meaning_of, word_lexeme}
use Rattle.vis_read.specs.steps.Verdicts.{Judges, verdict}
use Rattle.vis_read.proofs.Bounds.{is_bound}
use Rattle.vis_read.proofs.Exact.{IsReading, reads_all}
use Rattle.vis_read.proofs.Small.{AreSmall, IsSmall, has_small}

-- ---- numbers of tokens are small

abbrev SmallIf : Option Lexeme → Type 0
SmallIf None = Unit {0}
SmallIf (Some lexeme) = IsSmall lexeme

small_connective : (w : List ℕ) → SmallIf (connective_of w)
small_connective w =
    by_bool (bytes_eq w (codes "forall")) (λ e0. rw e0 tt)
    (λ e0. by_bool (bytes_eq w (codes "exists")) (λ e1. rw (e0, e1) tt)
    (λ e1. by_bool (bytes_eq w (codes "in")) (λ e2. rw (e0, e1, e2) tt)
    (λ e2. by_bool (bytes_eq w (codes "implies")) (λ e3. rw (e0, e1, e2, e3) tt)
    (λ e3. by_bool (bytes_eq w (codes "or")) (λ e4. rw (e0, e1, e2, e3, e4) tt)
    (λ e4. by_bool (bytes_eq w (codes "and")) (λ e5. rw (e0, e1, e2, e3, e4, e5) tt)
    (λ e5. by_bool (bytes_eq w (codes "not")) (λ e6. rw (e0, e1, e2, e3, e4, e5, e6) tt)
    (λ e6. rw (e0, e1, e2, e3, e4, e5, e6) tt)))))))

small_other : (w : List ℕ) → SmallIf (other_of w)
small_other w =
    by_bool (bytes_eq w (codes "box")) (λ e0. rw e0 tt)
    (λ e0. by_bool (bytes_eq w (codes "view")) (λ e1. rw (e0, e1) tt)
    (λ e1. by_bool (bytes_eq w (codes "width")) (λ e2. rw (e0, e1, e2) tt)
    (λ e2. by_bool (bytes_eq w (codes "height")) (λ e3. rw (e0, e1, e2, e3) tt)
    (λ e3. rw (e0, e1, e2, e3) tt))))

small_map : {A : Type 0} (o : Option A) (f : A → Lexeme) → ((x : A) → IsSmall (f x)) → SmallIf (option_map f o)
small_map None f h = tt
small_map (Some x) f h = h x

small_or : (o p : Option Lexeme) → SmallIf o → SmallIf p → SmallIf (option_or o p)
small_or None p h k = k
small_or (Some lexeme) p h k = h

small_name : (o : Option Lexeme) (w : List ℕ) → SmallIf o → IsSmall (unwrap_or o (a.Name w))
small_name None w h = tt
small_name (Some lexeme) w h = h

abbrev faces_or : List ℕ → Option Lexeme
faces_or w = option_or (option_map a.Face (face_of w)) (other_of w)

abbrev rings_or : List ℕ → Option Lexeme
rings_or w = option_or (option_map a.Ring (ring_of w)) (faces_or w)

abbrev kinds_or : List ℕ → Option Lexeme
kinds_or w = option_or (option_map (λ kind. a.Members (Of kind)) (kind_of w)) (rings_or w)

abbrev pairs_or : List ℕ → Option Lexeme
pairs_or w = option_or (option_map a.Pair (pair_of w)) (kinds_or w)

abbrev truths_or : List ℕ → Option Lexeme
truths_or w = option_or (option_map a.Truth (truth_of w)) (pairs_or w)

small_word : (w : List ℕ) → IsSmall (word_lexeme w)
small_word w = small_name (meaning_of w) w
    (small_or (connective_of w) (truths_or w) (small_connective w)
    (small_or (option_map a.Truth (truth_of w)) (pairs_or w) (small_map (truth_of w) a.Truth (λ x. tt))
    (small_or (option_map a.Pair (pair_of w)) (kinds_or w) (small_map (pair_of w) a.Pair (λ x. tt))
    (small_or (option_map (λ kind. a.Members (Of kind)) (kind_of w)) (rings_or w) (small_map (kind_of w) (λ kind. a.Members (Of kind)) (λ x. tt))
    (small_or (option_map a.Ring (ring_of w)) (faces_or w) (small_map (ring_of w) a.Ring (λ x. tt))
    (small_or (option_map a.Face (face_of w)) (other_of w) (small_map (face_of w) a.Face (λ x. tt)) (small_other w)))))))

small_mark : (c : ℕ) → IsSmall (mark_lexeme c)
small_mark c =
    by_bool (c == 40) (λ e0. rw e0 tt)
    (λ e0. by_bool (c == 41) (λ e1. rw (e0, e1) tt)
    (λ e1. by_bool (c == 44) (λ e2. rw (e0, e1, e2) tt)
    (λ e2. by_bool (c == 58) (λ e3. rw (e0, e1, e2, e3) tt)
    (λ e3. by_bool (c == 46) (λ e4. rw (e0, e1, e2, e3, e4) tt)
    (λ e4. by_bool (c == 43) (λ e5. rw (e0, e1, e2, e3, e4, e5) tt)
    (λ e5. by_bool (c == 45) (λ e6. rw (e0, e1, e2, e3, e4, e5, e6) tt)
    (λ e6. by_bool (c == 42) (λ e7. rw (e0, e1, e2, e3, e4, e5, e6, e7) tt)
    (λ e7. rw (e0, e1, e2, e3, e4, e5, e6, e7) tt))))))))

small_set : {nodes : List Node} {text : List ℕ} {lexeme : Lexeme} → IsSet nodes text lexeme → IsSmall lexeme
small_set (IsSet.set group found is plain are) = tt
small_set (IsSet.of_pseudo group is named) = tt
small_set (IsSet.bad at h) = tt
small_set (IsSet.unsupported at h) = tt

number_small : {n : ℕ} {digits : List ℕ} → IsNumber n digits → (n ≤ 2147483647) × (1 ≤ length digits)
number_small IsNumber.zero = (omega arith, omega arith)
number_small (IsNumber.digits c cs d above are most) = (most, omega arith)

small_piece : (nodes : List Node) {kind : Piece} {piece : List ℕ} → IsPiece kind piece → (lexeme : Lexeme) → Means nodes kind piece lexeme → IsSmall lexeme
small_piece nodes (IsPiece.word c cs l h) lexeme m = subst IsSmall (sym m) (small_word (c ∷ cs))
small_piece nodes (IsPiece.number n ds is) lexeme m = subst IsSmall (sym m) (number_small is).0
small_piece nodes (IsPiece.pixels n ds is) lexeme m = subst IsSmall (sym m) (number_small is).0
small_piece nodes (IsPiece.quoted inside h) lexeme m = small_set m.2
small_piece nodes (IsPiece.sign s) lexeme m = subst IsSmall (sym m) tt
small_piece nodes (IsPiece.mark c h) lexeme m = subst IsSmall (sym m) (small_mark c)

some_sign : (s : Comparison) → 1 ≤ length (sign_text s)
some_sign Lt = omega arith
some_sign Le = omega arith
some_sign Eq = omega arith
some_sign Ne = omega arith
some_sign Ge = omega arith
some_sign Gt = omega arith

-- no piece is empty
pub some_piece : {kind : Piece} {piece : List ℕ} → IsPiece kind piece → 1 ≤ length piece
some_piece (IsPiece.word c cs l h) = omega arith
some_piece (IsPiece.number n ds is) = (number_small is).1
some_piece (IsPiece.pixels n ds is) = let some = (number_small is).1 in omega (arith, some, length-append ds (codes "px"))
some_piece (IsPiece.quoted inside h) = omega arith
some_piece (IsPiece.sign s) = some_sign s
some_piece (IsPiece.mark c h) = omega arith

-- tokens are small, and no more than bytes
record Fit (ts : List Token) (text : List ℕ) : Type 0 where
  small : AreSmall ts
  fewer : length ts ≤ length text

fits : {nodes : List Node} {at : ℕ} {text : List ℕ} {ts : List Token} → AreTokens nodes at text ts → Fit ts text
fits (AreTokens.no_more at) = record { small = tt; fewer = omega arith }
fits (AreTokens.white at c rest ts w more) = let f = fits more in let fewer = f.fewer in record { small = f.small; fewer = omega arith }
fits {nodes = nodes} (AreTokens.next at text piece rest kind lexeme ts longest means more) =
    let f = fits more in
    let fewer = f.fewer in
    let some = some_piece longest.is in
    let whole : length text ≡ length (piece ++ rest) = ap length longest.whole in
    record { small = (small_piece nodes longest.is lexeme means, f.small); fewer = omega (arith, whole, length-append piece rest) }
fits (AreTokens.unknown at c rest w none) = record { small = (tt, tt); fewer = omega arith }

-- ---- the answer for a text

faults : (nodes : List Node) (text : List ℕ) (tokens : List Token) (fault : FormulaFault) → AreTokens nodes 0 text tokens → IsReading tokens (length text) (Err fault) → IsFault nodes text fault
faults nodes text tokens of_fault.Mem are h = tt
faults nodes text tokens (of_fault.Bad at) are h = (tokens, are, h)
faults nodes text tokens (of_fault.Unbound at) are h = (tokens, are, h)
faults nodes text tokens (of_fault.TooDeep at) are h = (tokens, are, h)

judged_fault : (nodes : List Node) (text : List ℕ) (tokens : List Token) (fault : FormulaFault) → AreTokens nodes 0 text tokens → Judges {A = Formula} (Err fault) (verdict (length text) tokens) → IsFault nodes text fault
judged_fault nodes text tokens of_fault.Mem are h = tt
judged_fault nodes text tokens (of_fault.Bad at) are h = faults nodes text tokens (of_fault.Bad at) are (subst (IsReading tokens (length text)) h (reads_all (length text) tokens))
judged_fault nodes text tokens (of_fault.Unbound at) are h = faults nodes text tokens (of_fault.Unbound at) are (subst (IsReading tokens (length text)) h (reads_all (length text) tokens))
judged_fault nodes text tokens (of_fault.TooDeep at) are h = faults nodes text tokens (of_fault.TooDeep at) are (subst (IsReading tokens (length text)) h (reads_all (length text) tokens))

abbrev pub IsAnswer : List Node → List ℕ → Result Formula FormulaFault → Type 0
IsAnswer nodes text result = record {
  answer : MatchResult result (IsFormulaText nodes text) (IsFault nodes text);
  bound : IfOk result (λ f. is_bound_in f 0 ≡ true);
  small : length text ≤ 16384 → IfOk result (λ f. has_small_terms f ≡ true);
}

pub answers : (nodes : List Node) (text : List ℕ) (tokens : List Token) (result : Result Formula FormulaFault) → AreTokens nodes 0 text tokens → Judges result (verdict (length text) tokens) → IsAnswer nodes text result
answers nodes text tokens (Ok f) are h =
    let r : IsFormula tokens f = subst (IsReading tokens (length text)) h (reads_all (length text) tokens) in
    let f' = fits are in
    record {
      answer = (tokens, are, r);
      bound = is_bound r.0 f r.3 r.2;
      small = λ le. has_small r.0 f r.3 (subst AreSmall (sym r.1) f'.small)
          (let fewer = f'.fewer in let len : length (tokens_of r.0) ≡ length tokens = ap length r.1 in omega (arith, fewer, len, length-map r.0 token_of));
    }
answers nodes text tokens (Err fault) are h = record { answer = judged_fault nodes text tokens fault are h; bound = tt; small = λ le. tt }
