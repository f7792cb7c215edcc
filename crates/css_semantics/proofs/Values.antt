-- The tokens in the grammar of values are those at which the reading of values goes on to the end.
use Rattle.std.proofs.Common.{◌≡◌, Bool, true, false, cond, ◌||◌, List, [], ◌∷◌, ◌++◌, Option, Some, None, refl, sym, ◌∙◌, ap, ◌⊎◌, inl, inr, append_assoc}
use Rattle.std.specs.Option.{option_to_list}
use Rattle.css_semantics.specs.Pieces.{Token}
use Rattle.viz_base.specs.declared.tokens.TokenKind.{TokenKind}
use Rattle.viz_base.specs.declared.tokens.TokenKind.TheVariants.{RightBrace, RightParen, RightBracket}
use Rattle.viz_base.proofs.Truths.{by_bool}
use Rattle.css_semantics.specs.SheetsMarks.{closing_mark, is_mark, is_bad, is_paren, is_bracket, is_brace}
use Rattle.css_semantics.specs.SheetsReading.{is_closing, may_stand, value_closed, value_opened, value_step, if_some, goes_on}
use Rattle.css_semantics.specs.SheetsGrammar.{Standing, nothing_more, stands, closed_pair, open_pair}
use Rattle.css_semantics.proofs.Pairs.{mark_closes, around, by_option}

first_of_three : (a b c : Bool) → a ≡ true → (a || b || c) ≡ true
first_of_three true b c h = refl
first_of_three false b c h = cc

second_of_three : (a b c : Bool) → b ≡ true → (a || b || c) ≡ true
second_of_three true b c h = refl
second_of_three false true c h = refl
second_of_three false false c h = cc

third_of_three : (a b c : Bool) → c ≡ true → (a || b || c) ≡ true
third_of_three true b c h = refl
third_of_three false true c h = refl
third_of_three false false c h = h

mark_is_closing : (mark kind : TokenKind) → is_mark mark kind ≡ true → is_closing kind ≡ true
mark_is_closing RightParen kind h = first_of_three (is_paren kind) (is_bracket kind) (is_brace kind) h
mark_is_closing RightBracket kind h = second_of_three (is_paren kind) (is_bracket kind) (is_brace kind) h
mark_is_closing RightBrace kind h = third_of_three (is_paren kind) (is_bracket kind) (is_brace kind) h
mark_is_closing _ kind h = cc

-- ---- one step

may_stand_around : (within : Option TokenKind) (marks : List TokenKind) (kind : TokenKind) → may_stand (around within marks) kind ≡ may_stand (option_to_list within) kind
may_stand_around None marks kind = refl
may_stand_around (Some m) marks kind = refl

step_stands : (within : Option TokenKind) (marks : List TokenKind) (kind : TokenKind) → closing_mark kind ≡ None → is_closing kind ≡ false → may_stand (option_to_list within) kind ≡ true → value_step kind (around within marks) ≡ Some (around within marks)
step_stands within marks kind e f g =
    let ctx = around within marks in
    ap (λ o. value_opened o kind ctx) e ∙ ap (λ b. cond b (value_closed kind ctx) (cond (may_stand ctx kind) (Some ctx) None)) f
    ∙ ap (λ b. cond b (Some ctx) None) (may_stand_around within marks kind ∙ g)

step_opens : (marks : List TokenKind) (kind mark : TokenKind) → closing_mark kind ≡ Some mark → is_bad kind ≡ false → value_step kind marks ≡ Some (mark ∷ marks)
step_opens marks kind mark e f = ap (λ o. value_opened o kind marks) e ∙ ap (λ b. cond b None (Some (mark ∷ marks))) f

step_closes : (marks : List TokenKind) (kind mark : TokenKind) → is_mark mark kind ≡ true → value_step kind (mark ∷ marks) ≡ Some marks
step_closes marks kind mark e =
    let ctx = mark ∷ marks in
    ap (λ o. value_opened o kind ctx) (mark_closes mark kind e) ∙ ap (λ b. cond b (value_closed kind ctx) (cond (may_stand ctx kind) (Some ctx) None)) (mark_is_closing mark kind e)
    ∙ ap (λ b. cond b (Some marks) None) e

goes : (t : Token) (ts : List Token) (marks next : List TokenKind) → value_step t.kind marks ≡ Some next → goes_on marks (t ∷ ts) ≡ goes_on next ts
goes t ts marks next e = ap (λ o. if_some o (λ n. goes_on n ts)) e

-- ---- the grammar goes on

pub goes_past : {within : Option TokenKind} {p : List Token} → Standing true within p → (marks : List TokenKind) (q : List Token) → goes_on (around within marks) (p ++ q) ≡ goes_on (around within marks) q
goes_past {within} nothing_more marks q = refl
goes_past {within} (stands {t = t} {ts = ts} e f g rest) marks q =
    goes t (ts ++ q) _ _ (step_stands within marks t.kind e f g) ∙ goes_past rest marks q
goes_past {within} (closed_pair {opener = opener} {ts = ts} mark inner close rest whole e b standing f after) marks q =
    let ctx = around within marks in
    goes opener (ts ++ q) _ _ (step_opens ctx opener.kind mark e b)
    ∙ ap (goes_on (mark ∷ ctx)) (ap (λ x. x ++ q) whole ∙ append_assoc inner (close ∷ rest) q)
    ∙ goes_past standing ctx (close ∷ (rest ++ q))
    ∙ goes close (rest ++ q) _ _ (step_closes ctx close.kind mark f)
    ∙ goes_past after marks q

pub goes_to_end : {within : Option TokenKind} {p : List Token} → Standing false within p → (marks : List TokenKind) → goes_on (around within marks) p ≡ true
goes_to_end {within} nothing_more marks = refl
goes_to_end {within} (stands {t = t} {ts = ts} e f g rest) marks =
    goes t ts _ _ (step_stands within marks t.kind e f g) ∙ goes_to_end rest marks
goes_to_end {within} (closed_pair {opener = opener} {ts = ts} mark inner close rest whole e b standing f after) marks =
    let ctx = around within marks in
    goes opener ts _ _ (step_opens ctx opener.kind mark e b)
    ∙ ap (goes_on (mark ∷ ctx)) whole
    ∙ goes_past standing ctx (close ∷ rest)
    ∙ goes close rest _ _ (step_closes ctx close.kind mark f)
    ∙ goes_to_end after marks
goes_to_end {within} (open_pair {opener = opener} {inner = inner} mark e b standing) marks =
    goes opener inner _ _ (step_opens (around within marks) opener.kind mark e b) ∙ goes_to_end standing (around within marks)

-- ---- and what goes on is in the grammar

-- tokens that may stand behind these marks, of which they may close some
abbrev Open : List TokenKind → List Token → Type 0
Open [] p = Standing false None p
Open (m ∷ marks) p = Standing false (Some m) p ⊎ ((inner : List Token) × (close : Token) × (rest : List Token) × (p ≡ inner ++ close ∷ rest) × Standing true (Some m) inner × (is_mark m close.kind ≡ true) × Open marks rest)

open_none : (marks : List TokenKind) → Open marks []
open_none [] = nothing_more
open_none (m ∷ marks) = inl nothing_more

open_stands : (marks : List TokenKind) (t : Token) (p : List Token) → closing_mark t.kind ≡ None → is_closing t.kind ≡ false → may_stand marks t.kind ≡ true → Open marks p → Open marks (t ∷ p)
open_stands [] t p e f g h = stands e f g h
open_stands (m ∷ marks) t p e f g (inl h) = inl (stands e f g h)
open_stands (m ∷ marks) t p e f g (inr h) = inr (t ∷ h.0, h.1, h.2, ap (λ x. t ∷ x) h.3, stands e f g h.4, h.5, h.6)

open_whole : (marks : List TokenKind) (t : Token) (p : List Token) (m : TokenKind) → closing_mark t.kind ≡ Some m → is_bad t.kind ≡ false → Standing false (Some m) p → Open marks (t ∷ p)
open_whole [] t p m e f h = open_pair m e f h
open_whole (k ∷ marks) t p m e f h = inl (open_pair m e f h)

open_closed : (marks : List TokenKind) (t : Token) (p : List Token) (m : TokenKind) (inner : List Token) (close : Token) (rest : List Token) → closing_mark t.kind ≡ Some m → is_bad t.kind ≡ false → p ≡ inner ++ close ∷ rest → Standing true (Some m) inner → is_mark m close.kind ≡ true → Open marks rest → Open marks (t ∷ p)
open_closed [] t p m inner close rest e f whole standing g h = closed_pair m inner close rest whole e f standing g h
open_closed (k ∷ marks) t p m inner close rest e f whole standing g (inl h) = inl (closed_pair m inner close rest whole e f standing g h)
open_closed (k ∷ marks) t p m inner close rest e f whole standing g (inr h) =
    inr (
      t ∷ (inner ++ close ∷ h.0),
      h.1,
      h.2,
      ap (λ x. t ∷ x) (whole ∙ ap (λ x. inner ++ close ∷ x) h.3 ∙ sym (append_assoc inner (close ∷ h.0) (h.1 ∷ h.2))),
      closed_pair m inner close h.0 refl e f standing g h.4,
      h.5,
      h.6,
    )

open_opened : (marks : List TokenKind) (t : Token) (p : List Token) (m : TokenKind) → closing_mark t.kind ≡ Some m → is_bad t.kind ≡ false → Open (m ∷ marks) p → Open marks (t ∷ p)
open_opened marks t p m e f (inl h) = open_whole marks t p m e f h
open_opened marks t p m e f (inr h) = open_closed marks t p m h.0 h.1 h.2 e f h.3 h.4 h.5 h.6

open_mark : (m : TokenKind) (marks : List TokenKind) (t : Token) (p : List Token) → is_mark m t.kind ≡ true → Open marks p → Open (m ∷ marks) (t ∷ p)
open_mark m marks t p e h = inr ([], t, p, refl, nothing_more, e, h)

stopped : (o : Option (List TokenKind)) (f : List TokenKind → Bool) → o ≡ None → if_some o f ≡ true → ⊥
stopped o f e h = let k : false ≡ true = sym (ap (λ x. if_some x f) e) ∙ h in cc

open_closing : (marks : List TokenKind) (t : Token) (p : List Token) → value_step t.kind marks ≡ value_closed t.kind marks → ((ms : List TokenKind) → goes_on ms p ≡ true → Open ms p) → goes_on marks (t ∷ p) ≡ true → Open marks (t ∷ p)
open_closing [] t p e ih h = absurd (stopped _ _ e h)
open_closing (m ∷ marks) t p e ih h =
    by_bool (is_mark m t.kind)
    (λ same. open_mark m marks t p same (ih marks (sym (goes t p _ _ (e ∙ ap (λ b. cond b (Some marks) None) same)) ∙ h)))
    (λ other. absurd (stopped _ _ (e ∙ ap (λ b. cond b (Some marks) None) other) h))

goes_open : (p : List Token) (marks : List TokenKind) → goes_on marks p ≡ true → Open marks p
goes_open [] marks h = open_none marks
goes_open (t ∷ p) marks h =
    by_option (closing_mark t.kind)
    (λ e. by_bool (is_closing t.kind)
    (λ f. open_closing marks t p (ap (λ o. value_opened o t.kind marks) e ∙ ap (λ b. cond b (value_closed t.kind marks) (cond (may_stand marks t.kind) (Some marks) None)) f) (goes_open p) h)
    (λ f.
    let step = ap (λ o. value_opened o t.kind marks) e ∙ ap (λ b. cond b (value_closed t.kind marks) (cond (may_stand marks t.kind) (Some marks) None)) f in
    by_bool (may_stand marks t.kind)
    (λ g. open_stands marks t p e f g (goes_open p marks (sym (goes t p _ _ (step ∙ ap (λ b. cond b (Some marks) None) g)) ∙ h)))
    (λ g. absurd (stopped _ _ (step ∙ ap (λ b. cond b (Some marks) None) g) h))))
    (λ m e. by_bool (is_bad t.kind)
    (λ f. absurd (stopped _ _ (ap (λ o. value_opened o t.kind marks) e ∙ ap (λ b. cond b None (Some (m ∷ marks))) f) h))
    (λ f. open_opened marks t p m e f (goes_open p (m ∷ marks) (sym (goes t p _ _ (step_opens marks t.kind m e f)) ∙ h))))

pub standing_goes : (p : List Token) → Standing false None p → goes_on [] p ≡ true
standing_goes p h = goes_to_end h []

pub goes_standing : (p : List Token) → goes_on [] p ≡ true → Standing false None p
goes_standing p h = goes_open p [] h
