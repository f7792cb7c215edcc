-- Attributes of which no two have one name, one after another.
use Rattle.std.proofs.Common.{◌≡◌, ℕ, ◌+◌, ◌<◌, Bool, true, false, List, [], ◌∷◌, ◌++◌, length, refl, sym, ap, ◌∙◌, get_or, take, drop, arith, cond, inl, inr, ◌⊎◌}
use Rattle.std.specs.Prelude.{bytes_eq, not, ◌&&◌, ◌||◌}
use Rattle.std.specs.List.{list_any}
use Rattle.std.proofs.lemmas.Bool.{and_parts, and_from, or_cases, or_parts, or_from, or_left, or_right, not-true, not_from_false}
use Rattle.std.proofs.lemmas.Bool.Decides.{same_from_decides, Decides-like}
use Rattle.std.proofs.lemmas.Grind.{common_steps}
use Rattle.std.proofs.lemmas.List.{take_more, take-append-drop}
use Rattle.std.proofs.lemmas.List.Folds.{list_any-append, list_any_more}
use Rattle.std.proofs.lemmas.Slice.Eq.{bytes_eq-Decides}
use Rattle.viz_base.specs.declared.nodes.Attr.{Attr}
use Rattle.page_json.specs.Elements.{has_name, have_own_names}

either_way : (xs ys : List ℕ) → bytes_eq xs ys ≡ bytes_eq ys xs
either_way xs ys = same_from_decides (bytes_eq xs ys) (bytes_eq ys xs) (bytes_eq-Decides xs ys)
    (Decides-like (bytes_eq ys xs) (λ e. sym e) (λ e. sym e) (bytes_eq-Decides ys xs))

-- one more attribute, of a name that none so far has
pub own_more : (x : Attr) (xs : List Attr) → have_own_names xs ≡ true → list_any (has_name x.name) xs ≡ false → have_own_names (xs ++ x ∷ []) ≡ true
own_more x [] own new = refl
own_more x (a ∷ xs) own new =
    let o = and_parts (not (list_any (has_name a.name) xs)) (have_own_names xs) own in
    let n = or_parts (bytes_eq a.name x.name) (list_any (has_name x.name) xs) new in
    let apart : (list_any (has_name a.name) xs || (bytes_eq x.name a.name || false)) ≡ false =
    or_from (list_any (has_name a.name) xs) (bytes_eq x.name a.name || false) (not-true _ o.0) (or_from (bytes_eq x.name a.name) false (either_way x.name a.name ∙ n.0) refl) in
    and_from (not (list_any (has_name a.name) (xs ++ x ∷ []))) (have_own_names (xs ++ x ∷ []))
    (not_from_false _ (list_any-append (has_name a.name) xs (x ∷ []) ∙ apart)) (own_more x xs o.1 n.1)

-- an attribute of a name that one before it has
pub own_twice : (x : Attr) (xs ys : List Attr) → list_any (has_name x.name) xs ≡ true → have_own_names (xs ++ x ∷ ys) ≡ false
own_twice x [] ys e = cc
own_twice x (a ∷ xs) ys e = by_first (or_cases (bytes_eq a.name x.name) (list_any (has_name x.name) xs) e) (λ h. own_twice x xs ys h)
  where
    both : (b c : Bool) → b ≡ true → (not b && c) ≡ false
    both b c h = ap (λ v. not v && c) h

    later : (b c : Bool) → c ≡ false → (not b && c) ≡ false
    later true c h = refl
    later false c h = h

    by_first : (bytes_eq a.name x.name ≡ true) ⊎ (list_any (has_name x.name) xs ≡ true)
        → (list_any (has_name x.name) xs ≡ true → have_own_names (xs ++ x ∷ ys) ≡ false) → have_own_names ((a ∷ xs) ++ x ∷ ys) ≡ false
    by_first (inl same) twice = both _ _ (list_any-append (has_name a.name) xs (x ∷ ys) ∙ or_right (list_any (has_name a.name) xs) _ (or_left (bytes_eq x.name a.name) (list_any (has_name a.name) ys) (either_way x.name a.name ∙ same)))
    by_first (inr rest) twice = later _ _ (twice rest)

-- the first attributes of a list, and the next
pub own_step : (xs : List Attr) (i : ℕ) (x : Attr) → i < length xs → x ≡ get_or xs i x → have_own_names (take i xs) ≡ true
    → list_any (has_name x.name) (take i xs) ≡ false → have_own_names (take (i + 1) xs) ≡ true
own_step xs i x lt is own new =
    ap have_own_names (take_more xs i x lt ∙ ap (λ y. take i xs ++ y ∷ []) (sym is)) ∙ own_more x (take i xs) own new

pub own_fails : (xs : List Attr) (i : ℕ) (x : Attr) → i < length xs → x ≡ get_or xs i x → list_any (has_name x.name) (take i xs) ≡ true → false ≡ have_own_names xs
own_fails xs i x lt is e = sym (ap have_own_names (sym (take-append-drop i xs) ∙ ap (λ ys. take i xs ++ ys) (drop_more xs i x lt is)) ∙ own_twice x (take i xs) (drop (i + 1) xs) e)
  where
    drop_more : (ys : List Attr) (j : ℕ) (y : Attr) → j < length ys → y ≡ get_or ys j y → drop j ys ≡ y ∷ drop (j + 1) ys
    drop_more ys j y k e = grind (arith, common_steps)

-- whether a name is among the first, and then among the next too
pub among_step : (xs : List Attr) (i : ℕ) (x : Attr) (key name : List ℕ) → i < length xs → x ≡ get_or xs i x → key ≡ x.name
    → cond (bytes_eq key name) true (list_any (has_name name) (take i xs)) ≡ list_any (has_name name) (take (i + 1) xs)
among_step xs i x key name lt is e =
    ap (λ k. cond (bytes_eq k name) true (list_any (has_name name) (take i xs))) e
    ∙ either (bytes_eq x.name name) (list_any (has_name name) (take i xs))
    ∙ sym (list_any_more (has_name name) xs i x lt ∙ ap (λ (a : Attr). list_any (has_name name) (take i xs) || bytes_eq a.name name) (sym is))
  where
    either : (b c : Bool) → cond b true c ≡ (c || b)
    either true true = refl
    either true false = refl
    either false true = refl
    either false false = refl

-- a name that was not added was there, and one that was added was not
pub was_there : (added there among : Bool) → added ≡ not there → added ≡ false → there ≡ among → among ≡ true
was_there added true among a rest e = sym e
was_there added false among a rest e = cc

pub was_new : (added there among : Bool) → added ≡ not there → added ≡ true → there ≡ among → among ≡ false
was_new added true among a rest e = cc
was_new added false among a rest e = sym e
