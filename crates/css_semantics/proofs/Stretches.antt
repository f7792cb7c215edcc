-- Each list of tokens has exactly one stretch of each sort.
use Rattle.std.proofs.Common.{◌≡◌, ℕ, suc, ◌+◌, ◌≤◌, Bool, true, false, cond, ◌&&◌, List, [], ◌∷◌, ◌++◌, length, take, drop, None, refl, sym, ◌∙◌, ap, subst, ◌⊎◌, inl, inr, arith, length-append, length-take, length-drop}
use Rattle.std.proofs.lemmas.List.{take-append-drop}
use Rattle.std.proofs.Math.Seq.{take-append_seam, drop-append_seam}
use Rattle.std.proofs.Math.Numerals.{one-add}
use Rattle.css_semantics.specs.Pieces.{Token}
use Rattle.viz_base.specs.declared.tokens.TokenKind.{TokenKind}
use Rattle.viz_base.proofs.Truths.{by_bool, and_first, and_second}
use Rattle.css_semantics.specs.SheetsReading.{awaited, is_none, stretch_len, still_awaited}
use Rattle.css_semantics.specs.steps.Stretches.{front, behind}
use Rattle.css_semantics.specs.SheetsStretches.{Paired, EndsAt, IsStretch}
use Rattle.css_semantics.proofs.Pairs.{paired_marks, marks_paired}

none_is : (marks : List TokenKind) → is_none marks ≡ true → marks ≡ []
none_is [] h = refl
none_is (m ∷ marks) h = cc

len_here : (stop : Token → Bool) (marks : List TokenKind) (t : Token) (ts : List Token) → (is_none marks && stop t) ≡ true → stretch_len stop marks (t ∷ ts) ≡ 0
len_here stop marks t ts e = ap (λ b. cond b 0 (1 + stretch_len stop (awaited t.kind marks) ts)) e

len_later : (stop : Token → Bool) (marks : List TokenKind) (t : Token) (ts : List Token) → (is_none marks && stop t) ≡ false → stretch_len stop marks (t ∷ ts) ≡ suc (stretch_len stop (awaited t.kind marks) ts)
len_later stop marks t ts e = ap (λ b. cond b 0 (1 + stretch_len stop (awaited t.kind marks) ts)) e ∙ one-add _

-- no shorter front will do
least : (stop : Token → Bool) (p : List Token) (marks : List TokenKind) (t : Token) (r : List Token) → still_awaited marks p ≡ [] → stop t ≡ true → stretch_len stop marks (p ++ t ∷ r) ≤ length p
least stop [] marks t r h e =
    let none : (is_none marks && stop t) ≡ true = subst (λ m. (is_none m && stop t) ≡ true) (sym h) e in
    omega (arith, len_here stop marks t r none)
least stop (q ∷ p) marks t r h e =
    by_bool (is_none marks && stop q)
    (λ here. omega (arith, len_here stop marks q (p ++ t ∷ r) here))
    (λ later. omega (arith, len_later stop marks q (p ++ t ∷ r) later, least stop p (awaited q.kind marks) t r h e))

-- what stands behind so many tokens: nothing, or a token that stops where no mark is awaited
abbrev Stops : (Token → Bool) → List TokenKind → List Token → ℕ → Type 0
Stops stop marks ts n = (drop n ts ≡ []) ⊎ ((t : Token) × (r : List Token) × (drop n ts ≡ t ∷ r) × (still_awaited marks (take n ts) ≡ []) × (stop t ≡ true))

later_stops : (stop : Token → Bool) (marks : List TokenKind) (t : Token) (ts : List Token) (n : ℕ) → Stops stop (awaited t.kind marks) ts n → Stops stop marks (t ∷ ts) (suc n)
later_stops stop marks t ts n (inl h) = inl h
later_stops stop marks t ts n (inr h) = inr h

here_stops : (stop : Token → Bool) (marks : List TokenKind) (t : Token) (ts : List Token) → (is_none marks && stop t) ≡ true → Stops stop marks (t ∷ ts) 0
here_stops stop marks t ts e = inr (t, ts, refl, none_is marks (and_first (is_none marks) (stop t) e), and_second (is_none marks) (stop t) e)

stops_there : (stop : Token → Bool) (ts : List Token) (marks : List TokenKind) → Stops stop marks ts (stretch_len stop marks ts)
stops_there stop [] marks = inl refl
stops_there stop (t ∷ ts) marks =
    by_bool (is_none marks && stop t)
    (λ here. subst (Stops stop marks (t ∷ ts)) (sym (len_here stop marks t ts here)) (here_stops stop marks t ts here))
    (λ later. subst (Stops stop marks (t ∷ ts)) (sym (len_later stop marks t ts later)) (later_stops stop marks t ts _ (stops_there stop ts (awaited t.kind marks))))

-- ---- there is one

ends_of : (stop : Token → Bool) (ts : List Token) (n : ℕ) → Stops stop [] ts n → (drop n ts ≡ []) ⊎ EndsAt stop (take n ts) (drop n ts)
ends_of stop ts n (inl h) = inl h
ends_of stop ts n (inr h) = inr (record { at = h.0; after = h.1; is = h.2; matched = marks_paired (take n ts) h.3; stops = h.4 })

pub is_stretch : (stop : Token → Bool) (ts : List Token) → IsStretch stop ts (front stop ts) (behind stop ts)
is_stretch stop ts =
    let n = stretch_len stop [] ts in
    record {
      whole = sym (take-append-drop n ts);
      ends = ends_of stop ts n (stops_there stop ts []);
      shortest = λ p t r whole matched e.
          let small : n ≤ length p = subst (λ x. stretch_len stop [] x ≤ length p) (sym whole) (least stop p [] t r (paired_marks matched []) e) in
          omega (arith, length-take n ts);
    }

-- ---- and no other

-- the front is as long as the one that is read
same_len : (stop : Token → Bool) (ts f r : List Token) (n : ℕ) → ts ≡ f ++ r → Stops stop [] ts n
    → ((p : List Token) (t : Token) (q : List Token) → ts ≡ p ++ t ∷ q → Paired None p → stop t ≡ true → length f ≤ length p)
    → ((p : List Token) (t : Token) (q : List Token) → ts ≡ p ++ t ∷ q → Paired None p → stop t ≡ true → n ≤ length p)
    → ((r ≡ []) ⊎ EndsAt stop f r) → n ≤ length ts → n ≡ length f
same_len stop ts f r n whole (inl none) shortest least_n (inl empty) within =
    omega (arith, ap length whole, length-append f r, ap length empty, ap length none, length-drop n ts)
same_len stop ts f r n whole (inr h) shortest least_n (inl empty) within =
    let split : ts ≡ take n ts ++ h.0 ∷ h.1 = sym (take-append-drop n ts) ∙ ap (λ x. take n ts ++ x) h.2 in
    let short : length f ≤ length (take n ts) = shortest (take n ts) h.0 h.1 split (marks_paired (take n ts) h.3) h.4 in
    absurd (omega (arith, ap length whole, length-append f r, ap length empty, length-take n ts, ap length h.2, length-drop n ts))
same_len stop ts f r n whole (inl none) shortest least_n (inr e) within =
    let split : ts ≡ f ++ e.at ∷ e.after = whole ∙ ap (λ x. f ++ x) e.is in
    let short : n ≤ length f = least_n f e.at e.after split e.matched e.stops in
    absurd (omega (arith, ap length whole, length-append f r, ap length e.is, ap length none, length-drop n ts))
same_len stop ts f r n whole (inr h) shortest least_n (inr e) within =
    let split : ts ≡ take n ts ++ h.0 ∷ h.1 = sym (take-append-drop n ts) ∙ ap (λ x. take n ts ++ x) h.2 in
    let short : length f ≤ length (take n ts) = shortest (take n ts) h.0 h.1 split (marks_paired (take n ts) h.3) h.4 in
    let other : ts ≡ f ++ e.at ∷ e.after = whole ∙ ap (λ x. f ++ x) e.is in
    let long : n ≤ length f = least_n f e.at e.after other e.matched e.stops in
    omega (arith, length-take n ts)

len_within : (stop : Token → Bool) (ts : List Token) (marks : List TokenKind) → stretch_len stop marks ts ≤ length ts
len_within stop [] marks = omega arith
len_within stop (t ∷ ts) marks =
    by_bool (is_none marks && stop t)
    (λ here. omega (arith, len_here stop marks t ts here))
    (λ later. omega (arith, len_later stop marks t ts later, len_within stop ts (awaited t.kind marks)))

stretch_same_len : (stop : Token → Bool) (ts f r : List Token) → IsStretch stop ts f r → stretch_len stop [] ts ≡ length f
stretch_same_len stop ts f r h =
    same_len stop ts f r _ h.whole (stops_there stop ts []) h.shortest
    (λ p t q whole matched e. subst (λ x. stretch_len stop [] x ≤ length p) (sym whole) (least stop p [] t q (paired_marks matched []) e))
    h.ends (len_within stop ts [])

pub stretch_front : (stop : Token → Bool) (ts f r : List Token) → IsStretch stop ts f r → f ≡ front stop ts
stretch_front stop ts f r h =
    sym (ap (λ n. take n ts) (stretch_same_len stop ts f r h) ∙ ap (take (length f)) h.whole ∙ take-append_seam f r)

pub stretch_behind : (stop : Token → Bool) (ts f r : List Token) → IsStretch stop ts f r → r ≡ behind stop ts
stretch_behind stop ts f r h =
    sym (ap (λ n. drop n ts) (stretch_same_len stop ts f r h) ∙ ap (drop (length f)) h.whole ∙ drop-append_seam f r)
