-- Each step keeps what the tokens are, and where a group may end they are one.
use Rattle.std.proofs.Common.{◌≡◌, ℕ, List, [], ◌∷◌, ◌++◌, Option, None, refl, sym, ◌∙◌, ap, subst, arith, append_assoc}
use Rattle.std.proofs.lemmas.List.{append-nil}
use Rattle.viz_base.specs.declared.selectors.Compound.{Compound}
use Rattle.viz_base.specs.declared.selectors.Join.{Join}
use Rattle.viz_base.specs.declared.selectors.Join.TheVariants.{First, Descendant, Child, Next}
use Rattle.css_semantics.specs.Pieces.{Token}
use Rattle.css_semantics.specs.declared.terminals.Terminal.TheVariants as a
use Rattle.css_semantics.specs.SelectorTerminals.{terminal}
use Rattle.css_semantics.specs.Spelled.{Spelled}
use Rattle.viz_base.specs.declared.selectors.Pseudo.{Pseudo}
use Rattle.css_semantics.specs.SelectorGrammar.{IsGap, AreTests, no_test, IsHead, nothing, IsBody, IsCompound, IsCombinator, descendant, child, adjacent, IsFront, at_start, further, IsLast, plain, IsSelectorText, selector, AreEarlier, one_later, IsGroup, selectors}
use Rattle.css_select.specs.steps.Machine.{empty, refused}
use Rattle.css_select.proofs.Held.{Part, first_of, IsBefore, IsHeld, IsSome, IsFresh, IsSpaced, IsEnded, gap_more}

-- ---- before a simple selector

empty_body : IsBody [] empty []
empty_body = record { head = []; tail = []; whole = refl; has_head = nothing; has_tests = no_test }

pub fresh_held : {group : List Spelled} {parts : List Part} {join : Join} {c : Compound} {first : Option ℕ} (ts : List Token) → IsFresh group parts join c first ts → IsHeld group parts join c first ts
fresh_held ts h = record {
  before = ts;
  body = [];
  refused_before = h.refused;
  refused_body = [];
  whole = sym (append-nil ts);
  is_before = h.is_before;
  is_body = subst (λ x. IsBody [] x []) (sym h.none) empty_body;
  is_first = h.is_first ∙ ap first_of (sym (append-nil h.refused));
}

combinator_more : {gap : List Token} {join : Join} (t : Token) → IsCombinator gap join → terminal t ≡ a.Space → IsCombinator (gap ++ t ∷ []) join
combinator_more t (descendant e g) k = descendant e (gap_more _ t g k)
combinator_more t (child u before after b e g) k = subst (λ x. IsCombinator x Child) (sym (append_assoc before (u ∷ after) (t ∷ []))) (child u before (after ++ t ∷ []) b e (gap_more after t g k))
combinator_more t (adjacent u before after b e g) k = subst (λ x. IsCombinator x Next) (sym (append_assoc before (u ∷ after) (t ∷ []))) (adjacent u before (after ++ t ∷ []) b e (gap_more after t g k))

space_by : {front : List Token} {parts : List Part} {join : Join} {others : List ℕ} → IsFront front parts join others
    → (group : List Spelled) (earlier gap : List Token) (refused : List ℕ) → AreEarlier earlier group refused → IsGap gap → (t : Token) → terminal t ≡ a.Space
    → IsBefore group parts join (refused ++ others) ((earlier ++ (gap ++ front)) ++ t ∷ [])
space_by at_start group earlier gap refused e g t k = record {
  earlier = earlier;
  gap = gap ++ t ∷ [];
  front = [];
  refused_earlier = refused;
  refused_front = [];
  whole = simp (append_assoc, append-nil);
  are_earlier = e;
  is_gap = gap_more gap t g k;
  is_front = at_start;
  all = refl;
}
space_by (further ts piece white {refused = refs} {others = others} f c j) group earlier gap refused e g t k = record {
  earlier = earlier;
  gap = gap;
  front = ts ++ (piece ++ (white ++ t ∷ []));
  refused_earlier = refused;
  refused_front = refs ++ others;
  whole = simp append_assoc;
  are_earlier = e;
  is_gap = g;
  is_front = further ts piece (white ++ t ∷ []) f c (combinator_more t j k);
  all = refl;
}

pub before_space : {group : List Spelled} {parts : List Part} {join : Join} {refused : List ℕ} (ts : List Token) (t : Token) → IsBefore group parts join refused ts → terminal t ≡ a.Space → IsBefore group parts join refused (ts ++ t ∷ [])
before_space {group} {parts} {join} ts t h k =
    subst (λ x. IsBefore group parts join x (ts ++ t ∷ [])) (sym h.all) (subst (λ x. IsBefore group parts join (h.refused_earlier ++ h.refused_front) (x ++ t ∷ [])) (sym h.whole)
    (space_by h.is_front group h.earlier h.gap h.refused_earlier h.are_earlier h.is_gap t k))

-- a tag, or `*`
pub fresh_head : {group : List Spelled} {parts : List Part} {join : Join} {c : Compound} {first : Option ℕ} (ts : List Token) (t : Token) (name : Option (List ℕ))
    → IsFresh group parts join c first ts → IsHead (t ∷ []) name → IsSome group parts join (record { tag = name; tests = c.tests }) first (ts ++ t ∷ [])
fresh_head ts t name h k = record {
  held = record {
    before = ts;
    body = t ∷ [];
    refused_before = h.refused;
    refused_body = [];
    whole = refl;
    is_before = h.is_before;
    is_body = record { head = t ∷ []; tail = []; whole = refl; has_head = k; has_tests = subst (λ (x : Compound). AreTests [] x.tests []) (sym h.none) no_test };
    is_first = h.is_first ∙ ap first_of (sym (append-nil h.refused));
  };
  some = omega arith;
}

-- ---- behind a simple selector

-- a selector behind earlier ones
pub record IsFinal (group : List Spelled) (one : Spelled) (first : Option ℕ) (ts : List Token) : Type 0 where
  pub before : List Token
  pub piece : List Token
  pub refused_before : List ℕ
  pub refused_piece : List ℕ
  pub whole : ts ≡ before ++ piece
  pub are_earlier : AreEarlier before group refused_before
  pub is_selector : IsSelectorText piece one refused_piece
  pub is_first : first ≡ first_of (refused_before ++ refused_piece)

last_final : {group : List Spelled} {parts : List Part} {join : Join} {refused : List ℕ} (before : List Token) → IsBefore group parts join refused before
    → (last : List Token) (c : Compound) (pseudo : Option Pseudo) (others : List ℕ) → IsLast last c pseudo others → (gap : List Token) → IsGap gap → (first : Option ℕ) → first ≡ first_of (refused ++ others)
    → IsFinal group (parts ++ (join, c) ∷ [], pseudo) first (before ++ (last ++ gap))
last_final before h last c pseudo others l gap g first e = record {
  before = h.earlier;
  piece = h.gap ++ (h.front ++ (last ++ gap));
  refused_before = h.refused_earlier;
  refused_piece = h.refused_front ++ others;
  whole = ap (λ x. x ++ (last ++ gap)) h.whole ∙ simp append_assoc;
  are_earlier = h.are_earlier;
  is_selector = selector h.gap h.front last gap h.is_gap h.is_front l g;
  is_first = e ∙ ap (λ x. first_of (x ++ others)) h.all ∙ ap first_of (append_assoc h.refused_earlier h.refused_front others);
}

some_compound : {group : List Spelled} {parts : List Part} {join : Join} {c : Compound} {first : Option ℕ} {ts : List Token} (h : IsSome group parts join c first ts) → IsCompound h.held.body c h.held.refused_body
some_compound h = record { some = h.some; body = h.held.is_body }

pub some_final : {group : List Spelled} {parts : List Part} {join : Join} {c : Compound} {first : Option ℕ} (ts gap : List Token) → IsSome group parts join c first ts → IsGap gap → IsFinal group (parts ++ (join, c) ∷ [], None) first (ts ++ gap)
some_final {group} {parts} {join} {c} {first} ts gap h g =
    let k = h.held in
    subst (IsFinal group (parts ++ (join, c) ∷ [], None) first) (sym (append_assoc k.before k.body gap) ∙ ap (λ x. x ++ gap) (sym k.whole))
    (last_final k.before k.is_before k.body c None k.refused_body (plain (some_compound h)) gap g first k.is_first)

pub spaced_final : {group : List Spelled} {parts : List Part} {join : Join} {c : Compound} {first : Option ℕ} (ts : List Token) → IsSpaced group parts join c first ts → IsFinal group (parts ++ (join, c) ∷ [], None) first ts
spaced_final {group} {parts} {join} {c} {first} ts h = subst (IsFinal group (parts ++ (join, c) ∷ [], None) first) (sym h.whole) (some_final h.front (h.space ∷ h.gap) h.is_some (h.is_space, h.is_gap))

pub ended_final : {group : List Spelled} {parts : List Part} {join : Join} {c : Compound} {pseudo : Option Pseudo} {first : Option ℕ} (ts : List Token) → IsEnded pseudo group parts join c first ts → IsFinal group (parts ++ (join, c) ∷ [], pseudo) first ts
ended_final {group} {parts} {join} {c} {pseudo} {first} ts h =
    subst (IsFinal group (parts ++ (join, c) ∷ [], pseudo) first) (sym h.whole) (last_final h.before h.is_before h.last c pseudo h.refused_last h.is_last h.gap h.is_gap first h.is_first)

-- a comma ends it
pub final_comma : {group : List Spelled} {one : Spelled} {first : Option ℕ} (ts : List Token) (t : Token) → IsFinal group one first ts → terminal t ≡ a.Comma → IsFresh (group ++ one ∷ []) [] First empty first (ts ++ t ∷ [])
final_comma ts t h k = record {
  refused = h.refused_before ++ h.refused_piece;
  is_before = record {
    earlier = h.before ++ (h.piece ++ t ∷ []);
    gap = [];
    front = [];
    refused_earlier = h.refused_before ++ h.refused_piece;
    refused_front = [];
    whole = ap (λ x. x ++ t ∷ []) h.whole ∙ append_assoc h.before h.piece (t ∷ []) ∙ sym (append-nil (h.before ++ (h.piece ++ t ∷ [])));
    are_earlier = one_later h.before h.piece t h.are_earlier h.is_selector k;
    is_gap = tt;
    is_front = at_start;
    all = sym (append-nil (h.refused_before ++ h.refused_piece));
  };
  none = refl;
  is_first = h.is_first;
}

-- or the text's end
pub final_group : {group : List Spelled} {one : Spelled} {first : Option ℕ} (ts : List Token) → IsFinal group one first ts → (all : List ℕ) × (first ≡ first_of all) × IsGroup ts (group ++ one ∷ []) all
final_group {group} {one} ts h =
    (h.refused_before ++ h.refused_piece, h.is_first, subst (λ x. IsGroup x (group ++ one ∷ []) (h.refused_before ++ h.refused_piece)) (sym h.whole) (selectors h.before h.piece h.are_earlier h.is_selector))

-- or another one follows
pub some_joined : {group : List Spelled} {parts : List Part} {join : Join} {c : Compound} {first : Option ℕ} (ts gap : List Token) (how : Join) → IsSome group parts join c first ts → IsCombinator gap how
    → IsFresh group (parts ++ (join, c) ∷ []) how empty first (ts ++ gap)
some_joined ts gap how h k =
    let m = h.held in
    let b = m.is_before in record {
      refused = m.refused_before ++ m.refused_body;
      is_before = record {
        earlier = b.earlier;
        gap = b.gap;
        front = b.front ++ (m.body ++ gap);
        refused_earlier = b.refused_earlier;
        refused_front = b.refused_front ++ m.refused_body;
        whole = ap (λ x. x ++ gap) m.whole ∙ ap (λ x. (x ++ m.body) ++ gap) b.whole ∙ simp append_assoc;
        are_earlier = b.are_earlier;
        is_gap = b.is_gap;
        is_front = further b.front m.body gap b.is_front (some_compound h) k;
        all = ap (λ x. x ++ m.refused_body) b.all ∙ append_assoc b.refused_earlier b.refused_front m.refused_body;
      };
      none = refl;
      is_first = m.is_first;
    }

pub spaced_joined : {group : List Spelled} {parts : List Part} {join : Join} {c : Compound} {first : Option ℕ} (ts : List Token) → IsSpaced group parts join c first ts
    → IsFresh group (parts ++ (join, c) ∷ []) Descendant empty first ts
spaced_joined {group} {parts} {join} {c} {first} ts h =
    subst (IsFresh group (parts ++ (join, c) ∷ []) Descendant empty first) (sym h.whole) (some_joined h.front (h.space ∷ h.gap) Descendant h.is_some (descendant h.is_space h.is_gap))

pub spaced_child : {group : List Spelled} {parts : List Part} {join : Join} {c : Compound} {first : Option ℕ} (ts : List Token) (t : Token) → IsSpaced group parts join c first ts → terminal t ≡ a.Greater
    → IsFresh group (parts ++ (join, c) ∷ []) Child empty first (ts ++ t ∷ [])
spaced_child {group} {parts} {join} {c} {first} ts t h k =
    subst (IsFresh group (parts ++ (join, c) ∷ []) Child empty first) (sym (append_assoc h.front (h.space ∷ h.gap) (t ∷ [])) ∙ ap (λ x. x ++ t ∷ []) (sym h.whole))
    (some_joined h.front ((h.space ∷ h.gap) ++ t ∷ []) Child h.is_some (child t (h.space ∷ h.gap) [] (h.is_space, h.is_gap) k tt))

pub spaced_next : {group : List Spelled} {parts : List Part} {join : Join} {c : Compound} {first : Option ℕ} (ts : List Token) (t : Token) → IsSpaced group parts join c first ts → terminal t ≡ a.Plus
    → IsFresh group (parts ++ (join, c) ∷ []) Next empty first (ts ++ t ∷ [])
spaced_next {group} {parts} {join} {c} {first} ts t h k =
    subst (IsFresh group (parts ++ (join, c) ∷ []) Next empty first) (sym (append_assoc h.front (h.space ∷ h.gap) (t ∷ [])) ∙ ap (λ x. x ++ t ∷ []) (sym h.whole))
    (some_joined h.front ((h.space ∷ h.gap) ++ t ∷ []) Next h.is_some (adjacent t (h.space ∷ h.gap) [] (h.is_space, h.is_gap) k tt))
