-- Strings, addresses and comments: what the scanner takes for one is one.
use Rattle.std.proofs.Common.{◌≡◌, ℕ, ◌==◌, true, false, List, [], ◌∷◌, ◌++◌, Some, None, refl, sym, ◌∙◌, ap, subst, ◌⊎◌, inl, inr, arith, if◌then◌else◌}
use Rattle.std.specs.List.{AllByRecursion, concat}
use Rattle.std.proofs.lemmas.Bool.{false≢true, eqb-true}
use Rattle.std.proofs.lemmas.Bool.Decides.{nat_tests}
use Rattle.std.proofs.lemmas.List.{append_assoc, append-nil}
use Rattle.viz_base.specs.declared.tokens.TokenKind.{TokenKind}
use Rattle.viz_base.specs.declared.tokens.TokenKind.TheVariants.{Str, BadString, BadUri, BadComment, Uri, Space, Comment}
use Rattle.viz_base.proofs.Truths.{by_bool}
use Rattle.viz_base.proofs.Sameness.{same_head, same_tail}
use Rattle.css_semantics.specs.TokensLetters.{is_space, is_url, is_u, is_r, is_l}
use Rattle.css_semantics.specs.TokensMacros.{Mark, Then, Maybe, Each, IsWhite, OneOrEscape, IsQuoted, IsStringIn, IsString, IsBadStringIn, IsBadString, IsUrl, IsOpen}
use Rattle.css_semantics.specs.TokensTable.{Matches, IsUrlOpening, IsAddress, IsBadAddress}
use Rattle.css_token.specs.declared.states.Row.TheVariants.{Quoted, Address, QuotedAddress}
use Rattle.css_token.specs.declared.states.Quote.{Quote}
use Rattle.css_token.specs.declared.states.Quote.TheVariants.{Double, Single}
use Rattle.css_token.specs.declared.states.Going.TheVariants.{Plain}
use Rattle.css_token.specs.declared.states.State.TheVariants.{End, Within, Solidus, InComment, Star, Spaces, AddressStart, AddressEnd}
use Rattle.css_token.specs.steps.Scan.{mark_of, step_plain}
use Rattle.css_token.proofs.Reading.{reads, no_kind}
use Rattle.css_token.proofs.Rows.{InRow, each_to}
use Rattle.css_token.proofs.Found.{RowEnd, found_plain, end_reads, same_kind, choose}

-- ---- strings

from_quoted : (quote : Quote) (u : List ℕ) → InRow (Quoted quote) u → IsQuoted (mark_of quote) u
from_quoted quote u (inl o) = inl o
from_quoted quote u (inr (inl l)) = inr (inl l.line)
from_quoted quote u (inr (inr e)) = inr (inr e)

from_quoted_address : (quote : Quote) (u : List ℕ) → InRow (QuotedAddress quote) u → IsQuoted (mark_of quote) u
from_quoted_address quote u (inl o) = inl o
from_quoted_address quote u (inr (inl l)) = inr (inl l.line)
from_quoted_address quote u (inr (inr e)) = inr (inr e)

-- behind the first quote
abbrev StringFound : Quote → TokenKind → List ℕ → Type 0
StringFound quote k p = (IsStringIn (mark_of quote) (mark_of quote ∷ p) × (k ≡ Str)) ⊎ (IsBadStringIn (mark_of quote) (mark_of quote ∷ p) × (k ≡ BadString))

bad_string : (quote : Quote) (p tail : List ℕ) (units : List (List ℕ)) → AllByRecursion (IsQuoted (mark_of quote)) units → p ≡ concat units ++ tail → Maybe (Mark 92) tail → IsBadStringIn (mark_of quote) (mark_of quote ∷ p)
bad_string quote p tail units each whole end =
    record {
      front = mark_of quote ∷ [];
      back = p;
      whole = refl;
      first = refl;
      second = record { front = concat units; back = tail; whole = whole; first = record { pieces = units; whole = refl; each = each }; second = end };
    }

good_string : (quote : Quote) (p : List ℕ) (units : List (List ℕ)) → AllByRecursion (IsQuoted (mark_of quote)) units → p ≡ concat units ++ (mark_of quote ∷ []) → IsStringIn (mark_of quote) (mark_of quote ∷ p)
good_string quote p units each whole =
    record {
      front = mark_of quote ∷ [];
      back = p;
      whole = refl;
      first = refl;
      second = record { front = concat units; back = mark_of quote ∷ []; whole = whole; first = record { pieces = units; whole = refl; each = each }; second = refl };
    }

string_end : (quote : Quote) (k : TokenKind) (p tail : List ℕ) (units : List (List ℕ)) → AllByRecursion (IsQuoted (mark_of quote)) units → p ≡ concat units ++ tail → RowEnd (Quoted quote) k tail → StringFound quote k p
string_end quote k p tail units each whole (inl e) = inr (bad_string quote p tail units each whole (inl e.0), e.1)
string_end quote k p tail units each whole (inr (inl e)) = inr (bad_string quote p tail units each whole (inr e.0), e.2)
string_end quote k p tail units each whole (inr (inr x)) =
    by_bool (x.0 == mark_of quote)
    (λ e. let n = end_reads Str k x.1 (rw e at x.3) in
    inl (good_string quote p units each (whole ∙ ap (λ t. concat units ++ t) (x.2 ∙ (ap (λ c. c ∷ x.1) (eqb-true x.0 (mark_of quote) e) ∙ ap (λ t. mark_of quote ∷ t) n.0))), n.1))
    (λ e. absurd (no_kind k (rw e at x.3)))

string_found : (quote : Quote) (k : TokenKind) (p : List ℕ) → reads (Within (Quoted quote) Plain) p ≡ Some k → StringFound quote k p
string_found quote k p h =
    let r = found_plain p (Quoted quote) k h in
    string_end quote k p r.tail r.units (each_to r.units (from_quoted quote) r.each) r.whole r.ends

pub double_found : (k : TokenKind) (p : List ℕ) → reads (Within (Quoted Double) Plain) p ≡ Some k → Matches k (34 ∷ p)
double_found k p h =
    elim (string_found Double k p h) [
      | inl s ↦ rw s.1 (inl s.0)
      | inr s ↦ rw s.1 (inl s.0)
    ]

pub single_found : (k : TokenKind) (p : List ℕ) → reads (Within (Quoted Single) Plain) p ≡ Some k → Matches k (39 ∷ p)
single_found k p h =
    elim (string_found Single k p h) [
      | inl s ↦ rw s.1 (inr s.0)
      | inr s ↦ rw s.1 (inr s.0)
    ]

-- ---- addresses

-- what may stand behind an address
abbrev Closed : TokenKind → List ℕ → Type 0
Closed k p = (IsWhite p × (k ≡ BadUri)) ⊎ (Then IsWhite (Mark 41) p × (k ≡ Uri))

more_white : (k : TokenKind) (c : ℕ) (p : List ℕ) → is_space c ≡ true → Closed k p → Closed k (c ∷ p)
more_white k c p e (inl x) = inl ((e, x.0), x.1)
more_white k c p e (inr x) = inr (record { front = c ∷ x.0.front; back = x.0.back; whole = ap (λ t. c ∷ t) x.0.whole; first = (e, x.0.first); second = x.0.second }, x.1)

closed_here : (k : TokenKind) (c : ℕ) (p : List ℕ) → (c == 41) ≡ true → reads (End Uri) p ≡ Some k → Closed k (c ∷ p)
closed_here k c p e h =
    let n = end_reads Uri k p h in
    inr (record { front = []; back = c ∷ p; whole = refl; first = tt; second = ap (λ d. d ∷ p) (eqb-true c 41 e) ∙ ap (λ t. 41 ∷ t) n.0 }, n.1)

address_end : (k : TokenKind) (p : List ℕ) → reads AddressEnd p ≡ Some k → Closed k p
address_end k [] h = inl (tt, same_kind BadUri k h)
address_end k (c ∷ p) h =
    by_bool (is_space c)
    (λ e. more_white k c p e (address_end k p (rw e at h)))
    (λ e. choose (c == 41) (Some (End Uri)) None p k (rw e at h) (λ d g. closed_here k c p d g) (λ d g. absurd (no_kind k g)))

abbrev AddressRest : TokenKind → List ℕ → Type 0
AddressRest k p = (IsBadAddress p × (k ≡ BadUri)) ⊎ (Then IsAddress (Then IsWhite (Mark 41)) p × (k ≡ Uri))

url_closed : (k : TokenKind) (p url tail : List ℕ) → p ≡ url ++ tail → IsUrl url → Closed k tail → AddressRest k p
url_closed k p url tail whole is (inl x) = inl (inl (record { front = url; back = tail; whole = whole; first = is; second = x.0 }), x.1)
url_closed k p url tail whole is (inr x) = inr (record { front = url; back = tail; whole = whole; first = inr is; second = x.0 }, x.1)

string_closed : (k : TokenKind) (p string tail : List ℕ) → p ≡ string ++ tail → IsString string → Closed k tail → AddressRest k p
string_closed k p string tail whole is (inl x) = inl (inr (inl (record { front = string; back = tail; whole = whole; first = is; second = x.0 })), x.1)
string_closed k p string tail whole is (inr x) = inr (record { front = string; back = tail; whole = whole; first = inl is; second = x.0 }, x.1)

from_address : (u : List ℕ) → InRow Address u → OneOrEscape is_url u
from_address u (inl o) = inl o
from_address u (inr (inl l)) = absurd (false≢true l.holds)
from_address u (inr (inr e)) = inr e

url_end : (k : TokenKind) (tail : List ℕ) → RowEnd Address k tail → Closed k tail
url_end k tail (inl e) = inl (rw e.0 tt, e.1)
url_end k tail (inr (inl e)) = absurd (false≢true e.1)
url_end k tail (inr (inr x)) =
    subst (Closed k) (sym x.2)
    (choose (is_space x.0) (Some AddressEnd) (if x.0 == 41 then Some (End Uri) else None) x.1 k x.3
    (λ e g. more_white k x.0 x.1 e (address_end k x.1 g))
    (λ e g. choose (x.0 == 41) (Some (End Uri)) None x.1 k g (λ d i. closed_here k x.0 x.1 d i) (λ d i. absurd (no_kind k i))))

url_found : (k : TokenKind) (p : List ℕ) → reads (Within Address Plain) p ≡ Some k → AddressRest k p
url_found k p h =
    let r = found_plain p Address k h in
    url_closed k p (concat r.units) r.tail r.whole (record { pieces = r.units; whole = refl; each = each_to r.units from_address r.each }) (url_end k r.tail r.ends)

-- a string within either quote
abbrev some_string : (quote : Quote) (p : List ℕ) → IsStringIn (mark_of quote) p → IsString p
some_string Double p s = inl s
some_string Single p s = inr s

some_bad_string : (quote : Quote) (p : List ℕ) → IsBadStringIn (mark_of quote) p → IsBadString p
some_bad_string Double p s = inl s
some_bad_string Single p s = inr s

quoted_end : (quote : Quote) (k : TokenKind) (p tail : List ℕ) (units : List (List ℕ)) → AllByRecursion (IsQuoted (mark_of quote)) units → p ≡ concat units ++ tail → RowEnd (QuotedAddress quote) k tail → AddressRest k (mark_of quote ∷ p)
quoted_end quote k p tail units each whole (inl e) = inl (inr (inr (some_bad_string quote (mark_of quote ∷ p) (bad_string quote p tail units each whole (inl e.0)))), e.1)
quoted_end quote k p tail units each whole (inr (inl e)) = inl (inr (inr (some_bad_string quote (mark_of quote ∷ p) (bad_string quote p tail units each whole (inr e.0)))), e.2)
quoted_end quote k p tail units each whole (inr (inr x)) =
    by_bool (x.0 == mark_of quote)
    (λ e.
    let body = concat units ++ (mark_of quote ∷ []) in
    let parts : p ≡ body ++ x.1 = whole ∙ (ap (λ t. concat units ++ t) (x.2 ∙ ap (λ c. c ∷ x.1) (eqb-true x.0 (mark_of quote) e)) ∙ sym (append_assoc (concat units) (mark_of quote ∷ []) x.1)) in
    string_closed k (mark_of quote ∷ p) (mark_of quote ∷ body) x.1 (ap (λ t. mark_of quote ∷ t) parts) (some_string quote (mark_of quote ∷ body) (good_string quote body units each refl)) (address_end k x.1 (rw e at x.3)))
    (λ e. absurd (no_kind k (rw e at x.3)))

quoted_found : (quote : Quote) (k : TokenKind) (p : List ℕ) → reads (Within (QuotedAddress quote) Plain) p ≡ Some k → AddressRest k (mark_of quote ∷ p)
quoted_found quote k p h =
    let r = found_plain p (QuotedAddress quote) k h in
    quoted_end quote k p r.tail r.units (each_to r.units (from_quoted_address quote) r.each) r.whole r.ends

record AddressFound (k : TokenKind) (p : List ℕ) : Type 0 where
  pub white : List ℕ
  pub rest : List ℕ
  pub whole : p ≡ white ++ rest
  pub is_white : IsWhite white
  pub address_rest : AddressRest k rest

no_white : (k : TokenKind) (p : List ℕ) → AddressRest k p → AddressFound k p
no_white k p a = record { white = []; rest = p; whole = refl; is_white = tt; address_rest = a }

address_found : (k : TokenKind) (p : List ℕ) → reads AddressStart p ≡ Some k → AddressFound k p
address_found k [] h = no_white k [] (inl (inl (record { front = []; back = []; whole = refl; first = record { pieces = []; whole = refl; each = tt }; second = tt }), same_kind BadUri k h))
address_found k (c ∷ p) h =
    choose (is_space c) (Some AddressStart) (if c == 34 then Some (Within (QuotedAddress Double) Plain) else (if c == 39 then Some (Within (QuotedAddress Single) Plain) else step_plain Address c)) p k h
    (λ e g. let x = address_found k p g in record { white = c ∷ x.white; rest = x.rest; whole = ap (λ t. c ∷ t) x.whole; is_white = (e, x.is_white); address_rest = x.address_rest })
    (λ _ g. choose (c == 34) (Some (Within (QuotedAddress Double) Plain)) (if c == 39 then Some (Within (QuotedAddress Single) Plain) else step_plain Address c) p k g
    (λ e i. no_white k (c ∷ p) (subst (λ x. AddressRest k (x ∷ p)) (sym (eqb-true c 34 e)) (quoted_found Double k p i)))
    (λ _ i. choose (c == 39) (Some (Within (QuotedAddress Single) Plain)) (step_plain Address c) p k i
    (λ e j. no_white k (c ∷ p) (subst (λ x. AddressRest k (x ∷ p)) (sym (eqb-true c 39 e)) (quoted_found Single k p j)))
    (λ _ j. no_white k (c ∷ p) (url_found k (c ∷ p) j))))

opening : (u r l : ℕ) → is_u u ≡ true → is_r r ≡ true → is_l l ≡ true → IsUrlOpening (u ∷ r ∷ l ∷ 40 ∷ [])
opening u r l hu hr hl =
    record {
      front = u ∷ [];
      back = r ∷ l ∷ 40 ∷ [];
      whole = refl;
      first = (u, refl, hu);
      second = record {
        front = r ∷ [];
        back = l ∷ 40 ∷ [];
        whole = refl;
        first = (r, refl, hr);
        second = record { front = l ∷ []; back = 40 ∷ []; whole = refl; first = (l, refl, hl); second = refl };
      };
    }

pub uri_found : (k : TokenKind) (u r l : ℕ) (q : List ℕ) → is_u u ≡ true → is_r r ≡ true → is_l l ≡ true → reads AddressStart q ≡ Some k → Matches k (u ∷ r ∷ l ∷ 40 ∷ q)
uri_found k u r l q hu hr hl h =
    let a = address_found k q h in
    elim a.address_rest [
      | inl x ↦ rw x.1 (record { front = u ∷ r ∷ l ∷ 40 ∷ []; back = q; whole = refl; first = opening u r l hu hr hl; second = record { front = a.white; back = a.rest; whole = a.whole; first = a.is_white; second = x.0 } })
      | inr x ↦ rw x.1 (record { front = u ∷ r ∷ l ∷ 40 ∷ []; back = q; whole = refl; first = opening u r l hu hr hl; second = record { front = a.white; back = a.rest; whole = a.whole; first = a.is_white; second = x.0 } })
    ]

-- ---- comments

nil_open : IsOpen []
nil_open [] after e = not_cons e
  where
    not_cons : [] ≡ 42 ∷ 47 ∷ after → ⊥
    not_cons e = cc
nil_open (c ∷ before) after e = not_cons e
  where
    not_cons : [] ≡ c ∷ (before ++ (42 ∷ 47 ∷ after)) → ⊥
    not_cons e = cc

open_more : (c : ℕ) (p : List ℕ) → IsOpen p → ((after : List ℕ) → c ∷ p ≡ 42 ∷ 47 ∷ after → ⊥) → IsOpen (c ∷ p)
open_more c p h first [] after e = first after e
open_more c p h first (d ∷ before) after e = h before after (same_tail e)

not_star : (c : ℕ) (p after : List ℕ) → (c == 42) ≡ false → c ∷ p ≡ 42 ∷ 47 ∷ after → ⊥
not_star c p after n e = let same : c ≡ 42 = same_head e in false≢true (sym n ∙ rw same refl)

-- the rest of a comment
abbrev CommentRest : TokenKind → List ℕ → Type 0
CommentRest k p = (IsOpen p × (k ≡ BadComment)) ⊎ (Then IsOpen (λ e. e ≡ 42 ∷ 47 ∷ []) p × (k ≡ Comment))

rest_more : (k : TokenKind) (c : ℕ) (p : List ℕ) → ((q r after : List ℕ) → p ≡ q ++ r → c ∷ q ≡ 42 ∷ 47 ∷ after → ⊥) → CommentRest k p → CommentRest k (c ∷ p)
rest_more k c p first (inl x) = inl (open_more c p x.0 (λ after e. first p [] after (sym (append-nil p)) e), x.1)
rest_more k c p first (inr x) =
    inr (
      record {
        front = c ∷ x.0.front;
        back = x.0.back;
        whole = ap (λ t. c ∷ t) x.0.whole;
        first = open_more c x.0.front x.0.first (λ after e. first x.0.front x.0.back after x.0.whole e);
        second = x.0.second;
      },
      x.1,
    )

star_alone : IsOpen (42 ∷ [])
star_alone = open_more 42 [] nil_open (λ after e. not_cons after (same_tail e))
  where
    not_cons : (after : List ℕ) → [] ≡ 47 ∷ after → ⊥
    not_cons after e = cc

-- a front of a text that begins with one character doesn't begin with another
front_first : (c d : ℕ) (p q r after : List ℕ) → (c == d) ≡ false → c ∷ p ≡ q ++ r → q ≡ d ∷ after → ⊥
front_first c d p q r after n whole e =
    let same : c ≡ d = same_head (whole ∙ ap (λ t. t ++ r) e) in
    false≢true (sym n ∙ eq_same c d same)
  where
    eq_same : (c d : ℕ) → c ≡ d → (c == d) ≡ true
    eq_same c d e = grind (arith, nat_tests)

mutual
  pub comment_found : (p : List ℕ) (k : TokenKind) → reads InComment p ≡ Some k → CommentRest k p
  comment_found [] k h = inl (nil_open, same_kind BadComment k h)
  comment_found (c ∷ p) k h =
      by_bool (c == 42)
      (λ e. subst (λ x. CommentRest k (x ∷ p)) (sym (eqb-true c 42 e)) (star_found p k (rw e at h)))
      (λ e. rest_more k c p (λ q r after w x. not_star c q after e x) (comment_found p k (rw e at h)))

  -- behind a star
  star_found : (p : List ℕ) (k : TokenKind) → reads Star p ≡ Some k → CommentRest k (42 ∷ p)
  star_found [] k h = inl (star_alone, same_kind BadComment k h)
  star_found (c ∷ p) k h =
      by_bool (c == 47)
      (λ e. let n = end_reads Comment k p (rw e at h) in
      inr (record { front = []; back = 42 ∷ c ∷ p; whole = refl; first = nil_open; second = ap (λ x. 42 ∷ x ∷ p) (eqb-true c 47 e) ∙ ap (λ t. 42 ∷ 47 ∷ t) n.0 }, n.1))
      (λ e. by_bool (c == 42)
      (λ s. rest_more k 42 (c ∷ p) (λ q r after w x. front_first c 47 p q r after e w (same_tail x))
      (subst (λ x. CommentRest k (x ∷ p)) (sym (eqb-true c 42 s)) (star_found p k (rw (e, s) at h))))
      (λ s. rest_more k 42 (c ∷ p) (λ q r after w x. front_first c 47 p q r after e w (same_tail x))
      (rest_more k c p (λ q r after w x. not_star c q after s x) (comment_found p k (rw (e, s) at h)))))

pub solidus_found : (k : TokenKind) (p : List ℕ) → reads Solidus p ≡ Some k → Matches k (47 ∷ p)
solidus_found k [] h = absurd (no_kind k h)
solidus_found k (c ∷ p) h =
    by_bool (c == 42)
    (λ e. elim (comment_found p k (rw e at h)) [
      | inl x ↦ rw x.1 (record { front = 47 ∷ c ∷ []; back = p; whole = refl; first = ap (λ d. 47 ∷ d ∷ []) (eqb-true c 42 e); second = x.0 })
      | inr x ↦ rw x.1 (record { front = 47 ∷ c ∷ []; back = p; whole = refl; first = ap (λ d. 47 ∷ d ∷ []) (eqb-true c 42 e); second = x.0 })
    ])
    (λ e. absurd (no_kind k (rw e at h)))

-- ---- white space

spaces_found : (k : TokenKind) (p : List ℕ) → reads Spaces p ≡ Some k → Each is_space p × (k ≡ Space)
spaces_found k [] h = (tt, same_kind Space k h)
spaces_found k (c ∷ p) h =
    by_bool (is_space c)
    (λ e. let x = spaces_found k p (rw e at h) in ((e, x.0), x.1))
    (λ e. absurd (no_kind k (rw e at h)))

pub space_found : (k : TokenKind) (c : ℕ) (p : List ℕ) → is_space c ≡ true → reads Spaces p ≡ Some k → Matches k (c ∷ p)
space_found k c p e h = let x = spaces_found k p h in rw x.1 (omega arith, (e, x.0))
