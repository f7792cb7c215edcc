-- A text has one list of tokens, and one answer.
use Rattle.std.proofs.Common.{◌≡◌, ℕ, ◌+◌, true, false, List, [], ◌∷◌, ◌++◌, length, Result, Ok, Err, refl, sym, ◌∙◌, ap, subst, arith, length-append}
use Rattle.std.proofs.lemmas.Bool.{false≢true}
use Rattle.std.proofs.lemmas.Option.{none-some, same_Some}
use Rattle.css_semantics.proofs.PieceLemmas.{same_fronts}
use Rattle.css_select.specs.Refusals.{Refusal, unsupported_at, bad_at}
use Rattle.css_select.specs.Verdicts.{Verdict}
use Rattle.css_select.proofs.Answers.{one_reading_of}
use Rattle.css_semantics.specs.SelectorGrammar.{IsGroupOf}
use Rattle.viz_base.specs.declared.formulas.Formula.{Formula}
use Rattle.viz_base.specs.declared.formulas.Set.TheVariants.{Nodes}
use Rattle.viz_base.specs.declared.nodes.Node.{Node}
use Rattle.viz_base.proofs.Sameness.{no_cons, same_head, same_tail}
use Rattle.vis_read.specs.declared.faults.FormulaFault.{FormulaFault}
use Rattle.vis_read.specs.declared.faults.FormulaFault.TheVariants as of_fault
use Rattle.vis_read.specs.declared.lexemes.Lexeme.{Lexeme}
use Rattle.vis_read.specs.declared.lexemes.Lexeme.TheVariants as a
use Rattle.vis_read.specs.declared.lexemes.Token.{Token}
use Rattle.vis_read.specs.declared.pieces.Piece.{Piece}
use Rattle.vis_read.specs.declared.pieces.Piece.TheVariants.{Word, Number, Pixels, Quoted, Sign, Mark}
use Rattle.vis_read.specs.Pieces.{IsLongest, IsPiece}
use Rattle.vis_read.specs.Texts.{IsAnswerOf}
use Rattle.vis_read.specs.Tokens.{AreMatched, AreTokens, Group, IsSet, MatchesOne, Means, is_white, names_pseudo}
use Rattle.vis_read.specs.steps.Verdicts.{verdict}
use Rattle.vis_read.proofs.Munch.{kind_at, of_kind, white_none}
use Rattle.vis_read.proofs.Exact.{IsReading, reading_is}
use Rattle.vis_read.proofs.Texts.{some_piece}

-- ---- the longest piece is one

record Same (j k : Piece) (p q r s : List ℕ) : Type 0 where
  kind : j ≡ k
  piece : p ≡ q
  rest : r ≡ s

longest_same : (text : List ℕ) (j k : Piece) (p q r s : List ℕ) → IsLongest text j p r → IsLongest text k q s → Same j k p q r s
longest_same text j k p q r s a b =
    let le = a.longest k q s b.is b.whole in
    let ge = b.longest j p r a.is a.whole in
    let fronts = same_fronts p q r s (sym a.whole ∙ b.whole) (omega arith) in
    record { kind = same_Some _ _ (sym (of_kind a.is) ∙ (ap kind_at fronts.0 ∙ of_kind b.is)); piece = fronts.0; rest = fronts.1 }

not_white : {kind : Piece} (piece behind : List ℕ) (c : ℕ) (rest : List ℕ) → IsPiece kind piece → c ∷ rest ≡ piece ++ behind → is_white c ≡ true → ⊥
not_white [] behind c rest is e w = omega (arith, some_piece is)
not_white (d ∷ piece) behind c rest is e w =
    none-some _ (sym (white_none d piece (subst (λ x. is_white x ≡ true) (same_head e) w)) ∙ of_kind is)

-- ---- a string says one set

matched_same : {nodes : List Node} {group : Group} {n m : ℕ} {xs ys : List ℕ} → AreMatched nodes group n xs → AreMatched nodes group m ys → n ≡ m → xs ≡ ys
matched_same AreMatched.nothing AreMatched.nothing e = refl
matched_same AreMatched.nothing (AreMatched.matched m ys k is) e = absurd (omega (arith, e))
matched_same AreMatched.nothing (AreMatched.passed m ys k is) e = absurd (omega (arith, e))
matched_same (AreMatched.matched n xs h is) AreMatched.nothing e = absurd (omega (arith, e))
matched_same (AreMatched.passed n xs h is) AreMatched.nothing e = absurd (omega (arith, e))
matched_same (AreMatched.matched n xs h is) (AreMatched.matched m ys k js) e =
    let same : n ≡ m = omega (arith, e) in
    ap (λ zs. zs ++ n ∷ []) (matched_same h k same) ∙ ap (λ i. ys ++ i ∷ []) same
matched_same {nodes = nodes} {group = group} (AreMatched.matched n xs h is) (AreMatched.passed m ys k js) e =
    let same : n ≡ m = omega (arith, e) in absurd (js (subst (MatchesOne nodes group) same is))
matched_same {nodes = nodes} {group = group} (AreMatched.passed n xs h is) (AreMatched.matched m ys k js) e =
    let same : n ≡ m = omega (arith, e) in absurd (is (subst (MatchesOne nodes group) (sym same) js))
matched_same (AreMatched.passed n xs h is) (AreMatched.passed m ys k js) e = let same : n ≡ m = omega (arith, e) in matched_same h k same

group_not_refused : {g : Group} {reason : Refusal} → ◌≡◌ {A = Verdict} (Ok g) (Err reason) → ⊥
group_not_refused e = cc

abbrev group_or : Group → Verdict → Group
group_or g (Ok h) = h
group_or g v = g

one_group : (text : List ℕ) {g k : Group} → IsGroupOf text g → IsGroupOf text k → g ≡ k
one_group text {g = g} {k = k} h i = ap (group_or g) (one_reading_of text (Ok g) (Ok k) h i)

not_plain : (text : List ℕ) {g k : Group} → IsGroupOf text g → names_pseudo g ≡ false → IsGroupOf text k → names_pseudo k ≡ true → ⊥
not_plain text h plain i named = false≢true (sym plain ∙ ap names_pseudo (one_group text h i) ∙ named)

one_set : {nodes : List Node} {text : List ℕ} {l m : Lexeme} → IsSet nodes text l → IsSet nodes text m → l ≡ m
one_set {nodes = nodes} {text = text} (IsSet.set g xs h plain are) (IsSet.set k ys i other bre) =
    ap (λ found. a.Members (Nodes found)) (matched_same (subst (λ x. AreMatched nodes x (length nodes) xs) (one_group text h i) are) bre refl)
one_set {text = text} (IsSet.set g xs h plain are) (IsSet.of_pseudo k i named) = absurd (not_plain text h plain i named)
one_set {text = text} (IsSet.set g xs h plain are) (IsSet.bad at i) = absurd (group_not_refused (one_reading_of text (Ok g) (Err (bad_at at)) h i))
one_set {text = text} (IsSet.set g xs h plain are) (IsSet.unsupported at i) = absurd (group_not_refused (one_reading_of text (Ok g) (Err (unsupported_at at)) h i))
one_set {text = text} (IsSet.of_pseudo g h named) (IsSet.set k ys i plain bre) = absurd (not_plain text i plain h named)
one_set {text = text} (IsSet.bad at h) (IsSet.set k ys i plain bre) = absurd (group_not_refused (one_reading_of text (Ok k) (Err (bad_at at)) i h))
one_set {text = text} (IsSet.unsupported at h) (IsSet.set k ys i plain bre) = absurd (group_not_refused (one_reading_of text (Ok k) (Err (unsupported_at at)) i h))
one_set (IsSet.of_pseudo g h named) (IsSet.of_pseudo k i other) = refl
one_set (IsSet.of_pseudo g h named) (IsSet.bad at i) = refl
one_set (IsSet.of_pseudo g h named) (IsSet.unsupported at i) = refl
one_set (IsSet.bad at h) (IsSet.of_pseudo k i named) = refl
one_set (IsSet.bad at h) (IsSet.bad other i) = refl
one_set (IsSet.bad at h) (IsSet.unsupported other i) = refl
one_set (IsSet.unsupported at h) (IsSet.of_pseudo k i named) = refl
one_set (IsSet.unsupported at h) (IsSet.bad other i) = refl
one_set (IsSet.unsupported at h) (IsSet.unsupported other i) = refl

same_inside : (p q : List ℕ) → 34 ∷ (p ++ 34 ∷ []) ≡ 34 ∷ (q ++ 34 ∷ []) → p ≡ q
same_inside p q e =
    let more = same_tail e in
    (same_fronts p q (34 ∷ []) (34 ∷ []) more (omega (arith, ap length more, length-append p (34 ∷ []), length-append q (34 ∷ [])))).0

one_meaning : (nodes : List Node) (kind : Piece) (piece : List ℕ) (l m : Lexeme) → Means nodes kind piece l → Means nodes kind piece m → l ≡ m
one_meaning nodes Word piece l m h k = h ∙ sym k
one_meaning nodes (Number n) piece l m h k = h ∙ sym k
one_meaning nodes (Pixels n) piece l m h k = h ∙ sym k
one_meaning nodes Quoted piece l m h k = one_set (subst (λ p. IsSet nodes p l) (same_inside h.0 k.0 (sym h.1 ∙ k.1)) h.2) k.2
one_meaning nodes (Sign s) piece l m h k = h ∙ sym k
one_meaning nodes (Mark c) piece l m h k = h ∙ sym k

-- ---- tokens

abbrev token : Lexeme → ℕ → Token
token lexeme at = record { lexeme = lexeme; at = at }

white_or : {c d : ℕ} {rest others : List ℕ} → c ∷ rest ≡ d ∷ others → is_white c ≡ true → is_white d ≡ false → ⊥
white_or {c = c} {d = d} {rest = rest} {others = others} e w black = false≢true (sym black ∙ (ap is_white (sym (same_head e)) ∙ w))

no_piece_left : {text : List ℕ} (kind : Piece) (piece rest : List ℕ) → [] ≡ text → IsLongest text kind piece rest → ⊥
no_piece_left kind piece rest e h = omega (arith, ap length (e ∙ h.whole), length-append piece rest, some_piece h.is)

one_tokens : {nodes : List Node} {at other : ℕ} {text same : List ℕ} {ts us : List Token} → AreTokens nodes at text ts → AreTokens nodes other same us → at ≡ other → text ≡ same → ts ≡ us
one_tokens (AreTokens.no_more i) (AreTokens.no_more j) n e = refl
one_tokens (AreTokens.no_more i) (AreTokens.white j d others us v more) n e = absurd (no_cons e)
one_tokens (AreTokens.no_more i) (AreTokens.next j text piece rest kind lexeme us longest means more) n e = absurd (no_piece_left kind piece rest e longest)
one_tokens (AreTokens.no_more i) (AreTokens.unknown j d others v none) n e = absurd (no_cons e)
one_tokens (AreTokens.white i c rest ts w h) (AreTokens.no_more j) n e = absurd (no_cons (sym e))
one_tokens (AreTokens.white i c rest ts w h) (AreTokens.white j d others us v k) n e = one_tokens h k (ap (λ x. x + 1) n) (same_tail e)
one_tokens (AreTokens.white i c rest ts w h) (AreTokens.next j text piece behind kind lexeme us longest means more) n e = absurd (not_white piece behind c rest longest.is (e ∙ longest.whole) w)
one_tokens (AreTokens.white i c rest ts w h) (AreTokens.unknown j d others v none) n e = absurd (white_or e w v)
one_tokens (AreTokens.next i text piece rest kind lexeme ts longest means h) (AreTokens.no_more j) n e = absurd (no_piece_left kind piece rest (sym e) longest)
one_tokens (AreTokens.next i text piece rest kind lexeme ts longest means h) (AreTokens.white j d others us v k) n e = absurd (not_white piece rest d others longest.is (sym e ∙ longest.whole) v)
one_tokens {nodes = nodes} (AreTokens.next i text piece rest kind lexeme ts longest means h) (AreTokens.next j other_text q s sort meaning us most says k) n e =
    let x = longest_same other_text kind sort piece q rest s (subst (λ t. IsLongest t kind piece rest) e longest) most in
    let same : lexeme ≡ meaning = one_meaning nodes sort q lexeme meaning (subst (λ p. Means nodes sort p lexeme) x.piece (subst (λ t. Means nodes t piece lexeme) x.kind means)) says in
    let place : i + length piece ≡ j + length q = omega (arith, n, ap length x.piece) in
    ap (λ l. token l i ∷ ts) same ∙ (ap (λ p. token meaning p ∷ ts) n ∙ ap (λ vs. token meaning j ∷ vs) (one_tokens h k place x.rest))
one_tokens (AreTokens.next i text piece rest kind lexeme ts longest means h) (AreTokens.unknown j d others v none) n e = absurd (none kind piece rest longest.is (sym e ∙ longest.whole))
one_tokens (AreTokens.unknown i c rest w none) (AreTokens.no_more j) n e = absurd (no_cons (sym e))
one_tokens (AreTokens.unknown i c rest w none) (AreTokens.white j d others us v k) n e = absurd (white_or (sym e) v w)
one_tokens (AreTokens.unknown i c rest w none) (AreTokens.next j text piece behind kind lexeme us longest means more) n e = absurd (none kind piece behind longest.is (e ∙ longest.whole))
one_tokens (AreTokens.unknown i c rest w none) (AreTokens.unknown j d others v silent) n e = ap (λ p. token a.Unknown p ∷ []) n

pub tokens_are_one : (nodes : List Node) (text : List ℕ) (ts us : List Token) → AreTokens nodes 0 text ts → AreTokens nodes 0 text us → ts ≡ us
tokens_are_one nodes text ts us h k = one_tokens h k refl refl

-- ---- the answer

abbrev Told : List Node → List ℕ → Result Formula FormulaFault → Type 0
Told nodes text x = (tokens : List Token) × AreTokens nodes 0 text tokens × IsReading tokens (length text) x

told : (nodes : List Node) (text : List ℕ) (x : Result Formula FormulaFault) → IsAnswerOf nodes text x → Told nodes text x
told nodes text (Ok f) h = h
told nodes text (Err of_fault.Mem) h = absurd h
told nodes text (Err (of_fault.Bad at)) h = h
told nodes text (Err (of_fault.Unbound at)) h = h
told nodes text (Err (of_fault.TooDeep at)) h = h

pub answers_are_one : (nodes : List Node) (text : List ℕ) (x y : Result Formula FormulaFault) → IsAnswerOf nodes text x → IsAnswerOf nodes text y → x ≡ y
answers_are_one nodes text x y h k =
    let b = told nodes text x h in
    let c = told nodes text y k in
    sym (reading_is b.0 (length text) x b.2) ∙ (ap (verdict (length text)) (tokens_are_one nodes text b.0 c.0 b.1 c.1) ∙ reading_is c.0 (length text) y c.2)
