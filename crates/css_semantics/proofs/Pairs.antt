-- All pairs are matched exactly where no mark is awaited behind the tokens.
use Rattle.std.proofs.Common.{◌≡◌, true, false, cond, List, [], ◌∷◌, ◌++◌, Option, Some, None, refl, sym, ◌∙◌, ap, subst, append_assoc}
use Rattle.css_semantics.specs.Pieces.{Token}
use Rattle.viz_base.specs.declared.tokens.TokenKind.{TokenKind}
use Rattle.viz_base.specs.declared.tokens.TokenKind.TheVariants.{RightBrace, RightParen, RightBracket}
use Rattle.viz_base.proofs.Truths.{by_bool}
use Rattle.css_semantics.specs.SheetsMarks.{closing_mark, is_mark, is_paren, is_bracket, is_brace}
use Rattle.css_semantics.specs.SheetsReading.{passed, opened, awaited, still_awaited}
use Rattle.css_semantics.specs.SheetsStretches.{Paired, nothing, single, pair, is_awaited}

marks_append : (marks : List TokenKind) (p q : List Token) → still_awaited marks (p ++ q) ≡ still_awaited (still_awaited marks p) q
marks_append marks [] q = refl
marks_append marks (t ∷ p) q = marks_append (awaited t.kind marks) p q

-- a closing mark opens nothing
paren_closes : (kind : TokenKind) → is_paren kind ≡ true → closing_mark kind ≡ None
paren_closes RightParen h = refl
paren_closes _ h = cc

bracket_closes : (kind : TokenKind) → is_bracket kind ≡ true → closing_mark kind ≡ None
bracket_closes RightBracket h = refl
bracket_closes _ h = cc

brace_closes : (kind : TokenKind) → is_brace kind ≡ true → closing_mark kind ≡ None
brace_closes RightBrace h = refl
brace_closes _ h = cc

pub mark_closes : (mark kind : TokenKind) → is_mark mark kind ≡ true → closing_mark kind ≡ None
mark_closes RightParen kind h = paren_closes kind h
mark_closes RightBracket kind h = bracket_closes kind h
mark_closes RightBrace kind h = brace_closes kind h
mark_closes _ kind h = cc

-- ---- matched pairs leave the marks as they were

abbrev pub around : Option TokenKind → List TokenKind → List TokenKind
around None marks = []
around (Some m) marks = m ∷ marks

stays : (within : Option TokenKind) (marks : List TokenKind) (kind : TokenKind) → closing_mark kind ≡ None → is_awaited within kind ≡ false → awaited kind (around within marks) ≡ around within marks
stays None marks kind e f = ap (λ o. opened o kind []) e
stays (Some m) marks kind e f = ap (λ o. opened o kind (m ∷ marks)) e ∙ ap (λ b. cond b marks (m ∷ marks)) f

closes : (m kind : TokenKind) (marks : List TokenKind) → is_mark m kind ≡ true → awaited kind (m ∷ marks) ≡ marks
closes m kind marks e = ap (λ o. opened o kind (m ∷ marks)) (mark_closes m kind e) ∙ ap (λ b. cond b marks (m ∷ marks)) e

pub paired_marks : {within : Option TokenKind} {p : List Token} → Paired within p → (marks : List TokenKind) → still_awaited (around within marks) p ≡ around within marks
paired_marks {within} nothing marks = refl
paired_marks {within} (single {t = t} {ts = ts} e f rest) marks =
    ap (λ m. still_awaited m ts) (stays within marks t.kind e f) ∙ paired_marks rest marks
paired_marks {within} (pair {opener = opener} {ts = ts} mark inner close rest whole e within_pair f after) marks =
    let outer = around within marks in
    ap (λ o. still_awaited (opened o opener.kind outer) ts) e
    ∙ ap (still_awaited (mark ∷ outer)) whole
    ∙ marks_append (mark ∷ outer) inner (close ∷ rest)
    ∙ ap (λ m. still_awaited m (close ∷ rest)) (paired_marks within_pair outer)
    ∙ ap (λ m. still_awaited m rest) (closes mark close.kind outer f)
    ∙ paired_marks after marks

-- ---- and where no mark is left, the pairs are matched

-- tokens that close these marks, one after another
abbrev Closing : List TokenKind → List Token → Type 0
Closing [] p = Paired None p
Closing (m ∷ marks) p = (inner : List Token) × (close : Token) × (rest : List Token) × (p ≡ inner ++ close ∷ rest) × Paired (Some m) inner × (is_mark m close.kind ≡ true) × Closing marks rest

closing_single : (marks : List TokenKind) (t : Token) (p : List Token) → closing_mark t.kind ≡ None → passed t.kind marks ≡ marks → ((m : TokenKind) (ms : List TokenKind) → marks ≡ m ∷ ms → is_mark m t.kind ≡ false) → Closing marks p → Closing marks (t ∷ p)
closing_single [] t p e same fails h = single e refl h
closing_single (m ∷ marks) t p e same fails h =
    (t ∷ h.0, h.1, h.2, ap (λ x. t ∷ x) h.3, single e (fails m marks refl) h.4, h.5, h.6)

closing_pair : (marks : List TokenKind) (t : Token) (p : List Token) (m : TokenKind) → closing_mark t.kind ≡ Some m → Closing (m ∷ marks) p → Closing marks (t ∷ p)
closing_pair [] t p m e h = pair m h.0 h.1 h.2 h.3 e h.4 h.5 h.6
closing_pair (k ∷ marks) t p m e h =
    let rest = h.6 in (
      t ∷ (h.0 ++ h.1 ∷ rest.0),
      rest.1,
      rest.2,
      ap (λ x. t ∷ x) (h.3 ∙ ap (λ x. h.0 ++ h.1 ∷ x) rest.3 ∙ sym (append_assoc h.0 (h.1 ∷ rest.0) (rest.1 ∷ rest.2))),
      pair m h.0 h.1 rest.0 refl e h.4 h.5 rest.4,
      rest.5,
      rest.6,
    )

closing_mark_first : (m : TokenKind) (marks : List TokenKind) (t : Token) (p : List Token) → is_mark m t.kind ≡ true → Closing marks p → Closing (m ∷ marks) (t ∷ p)
closing_mark_first m marks t p e h = ([], t, p, refl, nothing, e, h)

pub by_option : {P : Type 0} (o : Option TokenKind) → (o ≡ None → P) → ((m : TokenKind) → o ≡ Some m → P) → P
by_option None h k = h refl
by_option (Some m) h k = k m refl

head_of : (m k : TokenKind) (ms ks : List TokenKind) → (m ∷ ms) ≡ (k ∷ ks) → m ≡ k
head_of m k ms ks h = cc

closing_passed : (marks : List TokenKind) (t : Token) (p : List Token) → closing_mark t.kind ≡ None → ((ms : List TokenKind) → still_awaited ms p ≡ [] → Closing ms p) → still_awaited (passed t.kind marks) p ≡ [] → Closing marks (t ∷ p)
closing_passed [] t p e ih h = single e refl (ih [] h)
closing_passed (m ∷ marks) t p e ih h =
    by_bool (is_mark m t.kind)
    (λ yes1. closing_mark_first m marks t p yes1 (ih marks (sym (ap (λ b. still_awaited (cond b marks (m ∷ marks)) p) yes1) ∙ h)))
    (λ no1. closing_single (m ∷ marks) t p e (ap (λ b. cond b marks (m ∷ marks)) no1) (λ k ks same. subst (λ x. is_mark x t.kind ≡ false) (head_of m k marks ks same) no1)
    (ih (m ∷ marks) (sym (ap (λ b. still_awaited (cond b marks (m ∷ marks)) p) no1) ∙ h)))

closing : (p : List Token) (marks : List TokenKind) → still_awaited marks p ≡ [] → Closing marks p
closing [] [] h = nothing
closing [] (m ∷ marks) h = cc
closing (t ∷ p) marks h =
    by_option (closing_mark t.kind)
    (λ e. closing_passed marks t p e (closing p) (sym (ap (λ o. still_awaited (opened o t.kind marks) p) e) ∙ h))
    (λ m e. closing_pair marks t p m e (closing p (m ∷ marks) (sym (ap (λ o. still_awaited (opened o t.kind marks) p) e) ∙ h)))

pub marks_paired : (p : List Token) → still_awaited [] p ≡ [] → Paired None p
marks_paired p h = closing p [] h
