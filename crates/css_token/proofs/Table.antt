-- What leads the scanner from its start to a kind is a piece of this kind.
use Rattle.std.proofs.Common.{◌≡◌, ℕ, ◌==◌, true, List, [], ◌∷◌, Some, None, refl, sym, ◌∙◌, ap, subst, if◌then◌else◌}
use Rattle.std.proofs.lemmas.Bool.{eqb-true}
use Rattle.viz_base.specs.declared.tokens.TokenKind.{TokenKind}
use Rattle.viz_base.specs.declared.tokens.TokenKind.TheVariants.{Cdo, Colon, Semicolon, LeftBrace, RightBrace, LeftParen, RightParen, LeftBracket, RightBracket, Includes, DashMatch}
use Rattle.viz_base.proofs.Truths.{by_bool}
use Rattle.css_semantics.specs.TokensLetters.{is_digit, is_space, is_start, is_u}
use Rattle.css_semantics.specs.TokensTable.{Matches}
use Rattle.css_token.specs.declared.states.Row.TheVariants.{Word}
use Rattle.css_token.specs.declared.states.Going.TheVariants.{Plain, Backslash}
use Rattle.css_token.specs.declared.states.State.TheVariants.{Begin, End, Within, Less, LessBang, LessBangDash, Tilde, Bar}
use Rattle.css_token.specs.steps.Scan.{step_mark, step_sign}
use Rattle.css_token.proofs.Reading.{reads, no_kind}
use Rattle.css_token.proofs.Found.{ReadsFrom, end_reads}
use Rattle.css_token.proofs.WordsFound.{word_found, dash_found, at_found, hash_found, number_found, fraction_number, u_found}
use Rattle.css_token.proofs.QuotesFound.{double_found, single_found, uri_found, solidus_found, space_found}

-- a mark of one character
mark_found : (kind k : TokenKind) (c mark : ℕ) (p : List ℕ) → (c == mark) ≡ true → Matches kind (mark ∷ []) → reads (End kind) p ≡ Some k → Matches k (c ∷ p)
mark_found kind k c mark p e m h =
    let n = end_reads kind k p h in
    subst (λ x. Matches x (c ∷ p)) (sym n.1) (subst (Matches kind) (sym (ap (λ d. d ∷ p) (eqb-true c mark e) ∙ ap (λ t. mark ∷ t) n.0)) m)

marks_found : (k : TokenKind) (c : ℕ) (p : List ℕ) → ReadsFrom (step_mark c) p k → Matches k (c ∷ p)
marks_found k c p h =
    by_bool (c == 58) (λ e. mark_found Colon k c 58 p e refl (rw e at h))
    (λ a. by_bool (c == 59) (λ e. mark_found Semicolon k c 59 p e refl (rw (a, e) at h))
    (λ b. by_bool (c == 123) (λ e. mark_found LeftBrace k c 123 p e refl (rw (a, b, e) at h))
    (λ d. by_bool (c == 125) (λ e. mark_found RightBrace k c 125 p e refl (rw (a, b, d, e) at h))
    (λ f. by_bool (c == 40) (λ e. mark_found LeftParen k c 40 p e refl (rw (a, b, d, f, e) at h))
    (λ g. by_bool (c == 41) (λ e. mark_found RightParen k c 41 p e refl (rw (a, b, d, f, g, e) at h))
    (λ i. by_bool (c == 91) (λ e. mark_found LeftBracket k c 91 p e refl (rw (a, b, d, f, g, i, e) at h))
    (λ j. by_bool (c == 93) (λ e. mark_found RightBracket k c 93 p e refl (rw (a, b, d, f, g, i, j, e) at h))
    (λ l. absurd (no_kind k (rw (a, b, d, f, g, i, j, l) at h))))))))))

-- the second of two marks
equals_found : (kind k : TokenKind) (c : ℕ) (p : List ℕ) → ReadsFrom (if c == 61 then Some (End kind) else None) p k → (k ≡ kind) × (c ∷ p ≡ 61 ∷ [])
equals_found kind k c p h =
    by_bool (c == 61)
    (λ e. let n = end_reads kind k p (rw e at h) in (n.1, ap (λ d. d ∷ p) (eqb-true c 61 e) ∙ ap (λ t. 61 ∷ t) n.0))
    (λ e. absurd (no_kind k (rw e at h)))

tilde_found : (k : TokenKind) (p : List ℕ) → reads Tilde p ≡ Some k → Matches k (126 ∷ p)
tilde_found k [] h = absurd (no_kind k h)
tilde_found k (c ∷ p) h = let n = equals_found Includes k c p h in rw n.0 (ap (λ t. 126 ∷ t) n.1)

bar_found : (k : TokenKind) (p : List ℕ) → reads Bar p ≡ Some k → Matches k (124 ∷ p)
bar_found k [] h = absurd (no_kind k h)
bar_found k (c ∷ p) h = let n = equals_found DashMatch k c p h in rw n.0 (ap (λ t. 124 ∷ t) n.1)

bang_dash_found : (k : TokenKind) (p : List ℕ) → reads LessBangDash p ≡ Some k → (k ≡ Cdo) × (p ≡ 45 ∷ [])
bang_dash_found k [] h = absurd (no_kind k h)
bang_dash_found k (c ∷ p) h =
    by_bool (c == 45)
    (λ e. let n = end_reads Cdo k p (rw e at h) in (n.1, ap (λ d. d ∷ p) (eqb-true c 45 e) ∙ ap (λ t. 45 ∷ t) n.0))
    (λ e. absurd (no_kind k (rw e at h)))

bang_found : (k : TokenKind) (p : List ℕ) → reads LessBang p ≡ Some k → (k ≡ Cdo) × (p ≡ 45 ∷ 45 ∷ [])
bang_found k [] h = absurd (no_kind k h)
bang_found k (c ∷ p) h =
    by_bool (c == 45)
    (λ e. let n = bang_dash_found k p (rw e at h) in (n.0, ap (λ d. d ∷ p) (eqb-true c 45 e) ∙ ap (λ t. 45 ∷ t) n.1))
    (λ e. absurd (no_kind k (rw e at h)))

less_found : (k : TokenKind) (p : List ℕ) → reads Less p ≡ Some k → Matches k (60 ∷ p)
less_found k [] h = absurd (no_kind k h)
less_found k (c ∷ p) h =
    by_bool (c == 33)
    (λ e. let n = bang_found k p (rw e at h) in rw n.0 (ap (λ d. 60 ∷ d ∷ p) (eqb-true c 33 e) ∙ ap (λ t. 60 ∷ 33 ∷ t) n.1))
    (λ e. absurd (no_kind k (rw e at h)))

-- the first character is known
at_mark : (k : TokenKind) (c mark : ℕ) (p : List ℕ) → (c == mark) ≡ true → Matches k (mark ∷ p) → Matches k (c ∷ p)
at_mark k c mark p e m = subst (λ x. Matches k (x ∷ p)) (sym (eqb-true c mark e)) m

signs_found : (k : TokenKind) (c : ℕ) (p : List ℕ) → ReadsFrom (step_sign c) p k → Matches k (c ∷ p)
signs_found k c p h =
    by_bool (c == 46) (λ e. at_mark k c 46 p e (fraction_number k p (rw e at h)))
    (λ a. by_bool (c == 45) (λ e. at_mark k c 45 p e (dash_found k p (rw (a, e) at h)))
    (λ b. by_bool (c == 34) (λ e. at_mark k c 34 p e (double_found k p (rw (a, b, e) at h)))
    (λ d. by_bool (c == 39) (λ e. at_mark k c 39 p e (single_found k p (rw (a, b, d, e) at h)))
    (λ f. by_bool (c == 35) (λ e. at_mark k c 35 p e (hash_found k p (rw (a, b, d, f, e) at h)))
    (λ g. by_bool (c == 64) (λ e. at_mark k c 64 p e (at_found k p (rw (a, b, d, f, g, e) at h)))
    (λ i. by_bool (c == 47) (λ e. at_mark k c 47 p e (solidus_found k p (rw (a, b, d, f, g, i, e) at h)))
    (λ j. by_bool (c == 60) (λ e. at_mark k c 60 p e (less_found k p (rw (a, b, d, f, g, i, j, e) at h)))
    (λ l. by_bool (c == 126) (λ e. at_mark k c 126 p e (tilde_found k p (rw (a, b, d, f, g, i, j, l, e) at h)))
    (λ m. by_bool (c == 124) (λ e. at_mark k c 124 p e (bar_found k p (rw (a, b, d, f, g, i, j, l, m, e) at h)))
    (λ n. marks_found k c p (rw (a, b, d, f, g, i, j, l, m, n) at h)))))))))))

pub found : (p : List ℕ) (k : TokenKind) → reads Begin p ≡ Some k → Matches k p
found [] k h = absurd (no_kind k h)
found (c ∷ p) k h =
    by_bool (is_u c) (λ e. u_found k c p e (λ r l q hr hl g. uri_found k c r l q e hr hl g) (rw e at h))
    (λ a. by_bool (is_start c) (λ e. let g : reads (Within Word Plain) p ≡ Some k = rw (a, e) at h in word_found k c p (rw e g))
    (λ b. by_bool (c == 92) (λ e. let g : reads (Within Word Backslash) p ≡ Some k = rw (a, b, e) at h in word_found k c p (rw (b, e) g))
    (λ d. by_bool (is_space c) (λ e. space_found k c p e (rw (a, b, d, e) at h))
    (λ f. by_bool (is_digit c) (λ e. number_found k c p e (rw (a, b, d, f, e) at h))
    (λ g. signs_found k c p (rw (a, b, d, f, g) at h))))))
