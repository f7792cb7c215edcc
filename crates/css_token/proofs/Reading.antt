-- What the scanner takes is the longest front of the text that leads it to a state of some kind.
use Rattle.std.proofs.Common.{◌≡◌, ℕ, ◌+◌, ◌≤◌, List, [], ◌∷◌, ◌++◌, length, Option, Some, None, refl, sym, ◌∙◌, ap, subst, ◌⊎◌, inl, inr, arith}
use Rattle.std.specs.Option.{option_map_or, option_and_then}
use Rattle.viz_base.specs.declared.tokens.TokenKind.{TokenKind}
use Rattle.css_token.specs.declared.states.State.{State}
use Rattle.css_token.specs.steps.Scan.{kind_of, step, Cut, better, longest}

-- of which kind a text is that is read from a state on
abbrev pub reads : State → List ℕ → Option TokenKind
reads state [] = kind_of state
reads state (c ∷ cs) = option_and_then (λ next. reads next cs) (step state c)

pub record Taken (state : State) (text : List ℕ) (cut : Cut) : Type 0 where
  pub piece : List ℕ
  pub whole : text ≡ piece ++ cut.1
  pub is : reads state piece ≡ Some cut.0
  pub furthest : (q s : List ℕ) (k : TokenKind) → text ≡ q ++ s → reads state q ≡ Some k → length q ≤ length piece

pub record Kept (state : State) (text : List ℕ) (best cut : Cut) : Type 0 where
  pub same : cut ≡ best
  pub none : (q s : List ℕ) (k : TokenKind) → text ≡ q ++ s → reads state q ≡ Some k → length q ≡ 0

abbrev pub Outcome : State → List ℕ → Cut → Cut → Type 0
Outcome state text best cut = Taken state text cut ⊎ Kept state text best cut

pub no_kind : {A : Type 0} (k : A) → ◌≡◌ {A = Option A} None (Some k) → ⊥
no_kind k h = cc

nil_front : (q s : List ℕ) → [] ≡ q ++ s → length q ≡ 0
nil_front [] s e = refl
nil_front (c ∷ q) s e = cc

-- a character is read from a state that goes on with it
front_on : (state next : State) (c : ℕ) (cs q s : List ℕ) (k : TokenKind) (n : ℕ) → step state c ≡ Some next → ((q s : List ℕ) (k : TokenKind) → cs ≡ q ++ s → reads next q ≡ Some k → length q ≤ n) → c ∷ cs ≡ q ++ s → reads state q ≡ Some k → length q ≤ length (c ∷ q) → length q ≤ n + 1
front_on state next c cs [] s k n e h whole is le = omega arith
front_on state next c cs (d ∷ q) s k n e h whole is le =
    let same : c ≡ d = cc in
    let rest : cs ≡ q ++ s = cc in
    let at : step state d ≡ Some next = subst (λ x. step state x ≡ Some next) same e in
    let on : length q ≤ n = h q s k rest (rw at at is) in
    omega arith

taken_on : (state next : State) (c : ℕ) (cs : List ℕ) (cut : Cut) → step state c ≡ Some next → Taken next cs cut → Taken state (c ∷ cs) cut
taken_on state next c cs cut e t = record {
  piece = c ∷ t.piece;
  whole = ap (λ x. c ∷ x) t.whole;
  is = rw e t.is;
  furthest = λ q s k whole is. let le = front_on state next c cs q s k (length t.piece) e t.furthest whole is (omega arith) in omega arith;
}

kept_on : (state next : State) (c : ℕ) (cs : List ℕ) (best cut : Cut) (o : Option TokenKind) → kind_of next ≡ o → step state c ≡ Some next → Kept next cs (better o cs best) cut → Outcome state (c ∷ cs) best cut
kept_on state next c cs best cut (Some kind) known e t =
    inl (subst (Taken state (c ∷ cs)) (sym t.same) (record {
      piece = c ∷ [];
      whole = refl;
      is = rw e known;
      furthest = λ q s k whole is. let le = front_on state next c cs q s k 0 e (λ q s k w r. let z = t.none q s k w r in omega arith) whole is (omega arith) in omega arith;
    }))
kept_on state next c cs best cut None known e t =
    inr (record { same = t.same; none = λ q s k whole is. none_on q s k whole is })
  where
    none_on : (q s : List ℕ) (k : TokenKind) → c ∷ cs ≡ q ++ s → reads state q ≡ Some k → length q ≡ 0
    none_on [] s k whole is = refl
    none_on (d ∷ []) s k whole is =
        let same : c ≡ d = cc in
        let at : step state d ≡ Some next = subst (λ x. step state x ≡ Some next) same e in
        absurd (no_kind k (sym known ∙ rw at at is))
    none_on (d ∷ (f ∷ q)) s k whole is =
        let same : c ≡ d = cc in
        let rest : cs ≡ f ∷ (q ++ s) = cc in
        let at : step state d ≡ Some next = subst (λ x. step state x ≡ Some next) same e in
        let zero : length (f ∷ q) ≡ 0 = t.none (f ∷ q) s k rest (rw at at is) in
        absurd (omega arith)

outcome_on : (state : State) (c : ℕ) (cs : List ℕ) (best : Cut) (o : Option State) → step state c ≡ o → ((next : State) (b : Cut) → Outcome next cs b (longest next cs b)) → Outcome state (c ∷ cs) best (option_map_or (λ next. longest next cs (better (kind_of next) cs best)) o best)
outcome_on state c cs best None e on =
    inr (record { same = refl; none = λ q s k whole is. none_on q s k whole is })
  where
    none_on : (q s : List ℕ) (k : TokenKind) → c ∷ cs ≡ q ++ s → reads state q ≡ Some k → length q ≡ 0
    none_on [] s k whole is = refl
    none_on (d ∷ q) s k whole is =
        let same : c ≡ d = cc in
        let at : step state d ≡ None = subst (λ x. step state x ≡ None) same e in
        absurd (no_kind k (rw at at is))
outcome_on state c cs best (Some next) e on =
    elim (on next (better (kind_of next) cs best)) [
      | inl t ↦ inl (taken_on state next c cs _ e t)
      | inr t ↦ kept_on state next c cs best _ (kind_of next) refl e t
    ]

pub outcome : (text : List ℕ) (state : State) (best : Cut) → Outcome state text best (longest state text best)
outcome [] state best = inr (record { same = refl; none = λ q s k e is. nil_front q s e })
outcome (c ∷ cs) state best = outcome_on state c cs best (step state c) refl (λ next b. outcome cs next b)
