-- What a loop over items has joined, and what the rest gives behind it.
use Rattle.std.proofs.Common.{◌≡◌, ℕ, ◌+◌, ◌<◌, ◌≤◌, List, [], ◌∷◌, ◌++◌, length, drop, get_or, map, Option, Result, Ok, Err, refl, sym, ap, subst, append_assoc, add-one}
use Rattle.std.proofs.lemmas.List.{append-nil, drop_all}
use Rattle.viz_base.specs.declared.selectors.Pseudo.{Pseudo}
use Rattle.viz_base.specs.declared.sheets.Rule.{Rule}
use Rattle.viz_base.specs.declared.sheets.Sheet.{Sheet}
use Rattle.viz_base.proofs.ListLemmas.{drop_at}
use Rattle.css_semantics.specs.declared.claims.Origin.{Origin}
use Rattle.css_semantics.specs.declared.claims.Ruleset.{Ruleset}
use Rattle.css_semantics.specs.CascadeReading.{Each, nothing, joined, refused, refused_behind, AreRulesets, IsRuleset, Placed, Refused, placed, rules_from, sheet_origin}

abbrev pub behind : {B E : Type 0} → List B → Result (List B) E → Result (List B) E
behind ys (Ok zs) = Ok (ys ++ zs)
behind ys (Err e) = Err e

pub record Reached {A B E : Type 0} (Gives : A → Result (List B) E → Type 0) (xs : List A) (i : ℕ) (items : List B) : Type 0 where
  pub goes : (answer : Result (List B) E) → Each Gives (drop i xs) answer → Each Gives xs (behind items answer)

pub behind_nothing : {B E : Type 0} (answer : Result (List B) E) → answer ≡ behind [] answer
behind_nothing (Ok zs) = refl
behind_nothing (Err e) = refl

behind_both : {B E : Type 0} (xs ys : List B) (answer : Result (List B) E) → behind xs (behind ys answer) ≡ behind (xs ++ ys) answer
behind_both xs ys (Ok zs) = ap Ok (sym (append_assoc xs ys zs))
behind_both xs ys (Err e) = refl

pub one_more : {A B E : Type 0} {Gives : A → Result (List B) E → Type 0} {x : A} {xs : List A} (ys : List B) (answer : Result (List B) E) → Gives x (Ok ys) → Each Gives xs answer → Each Gives (x ∷ xs) (behind ys answer)
one_more ys (Ok zs) g h = joined g h
one_more ys (Err e) g h = refused_behind g h

pub reached_more : {A B E : Type 0} {Gives : A → Result (List B) E → Type 0} {xs : List A} {i : ℕ} {items : List B} (x : A) (ys : List B) → i < length xs → x ≡ get_or xs i x → Reached Gives xs i items → Gives x (Ok ys) → Reached Gives xs (i + 1) (items ++ ys)
reached_more {Gives = Gives} {xs = xs} {i = i} {items = items} x ys l e r g = record {
  goes = λ answer h. subst (Each Gives xs) (behind_both items ys answer) (r.goes (behind ys answer) (subst (λ rest. Each Gives rest (behind ys answer)) (sym (drop_at xs i x l e)) (one_more ys answer g h)));
}

pub reached_refusal : {A B E : Type 0} {Gives : A → Result (List B) E → Type 0} {xs : List A} {i : ℕ} {items : List B} (x : A) (e : E) → i < length xs → x ≡ get_or xs i x → Reached Gives xs i items → Gives x (Err e) → Each Gives xs (Err e)
reached_refusal {Gives = Gives} {xs = xs} {i = i} x e l at r g = r.goes (Err e) (subst (λ rest. Each Gives rest (Err e)) (sym (drop_at xs i x l at)) (refused g))

pub reached_end : {A B E : Type 0} {Gives : A → Result (List B) E → Type 0} {xs : List A} {i : ℕ} {items : List B} → length xs ≤ i → Reached Gives xs i items → Each Gives xs (Ok items)
reached_end {Gives = Gives} {xs = xs} {i = i} {items = items} h r = subst (λ all. Each Gives xs (Ok all)) (append-nil items) (r.goes (Ok []) (subst (λ rest. Each Gives rest (Ok [])) (sym (drop_all i xs h)) nothing))

-- ---- what reads the rules of one sheet after another

abbrev Rulesets : Option Pseudo → Placed → Result (List Ruleset) Refused → Type 0
Rulesets which p answer = IsRuleset which p.origin p.text p.rule answer

pub record ReachedSheets (which : Option Pseudo) (texts : List (List ℕ)) (sheets : List Sheet) (at : ℕ) (items : List Ruleset) : Type 0 where
  pub goes : (answer : Result (List Ruleset) Refused) → Each (Rulesets which) (rules_from at (drop at texts) (drop at sheets)) answer → AreRulesets which texts sheets (behind items answer)

pub sheets_start : (which : Option Pseudo) (texts : List (List ℕ)) (sheets : List Sheet) → ReachedSheets which texts sheets 0 []
sheets_start which texts sheets = record { goes = λ answer h. subst (AreRulesets which texts sheets) (behind_nothing answer) h }

-- the rules of one sheet before others
before_others : (which : Option Pseudo) (o : Origin) (t : List ℕ) (rules : List Rule) (rest : List Placed) (read : Result (List Ruleset) Refused) (ys : List Ruleset) (answer : Result (List Ruleset) Refused) → Each (IsRuleset which o t) rules read → read ≡ Ok ys → Each (Rulesets which) rest answer → Each (Rulesets which) (map (placed o t) rules ++ rest) (behind ys answer)
before_others which o t [] rest _ ys answer nothing e h = let same : [] ≡ ys = cc in subst (λ zs. Each (Rulesets which) rest (behind zs answer)) same (subst (Each (Rulesets which) rest) (behind_nothing answer) h)
before_others which o t (r ∷ rs) rest _ ys answer (joined {ys = us} {zs = vs} g k) e h =
    let same : us ++ vs ≡ ys = cc in
    subst (λ zs. Each (Rulesets which) (placed o t r ∷ (map (placed o t) rs ++ rest)) (behind zs answer)) same
    (subst (Each (Rulesets which) (placed o t r ∷ (map (placed o t) rs ++ rest))) (behind_both us vs answer) (one_more us (behind vs answer) g (before_others which o t rs rest (Ok vs) vs answer k refl h)))
before_others which o t (r ∷ rs) rest _ ys answer (refused g) e h = cc
before_others which o t (r ∷ rs) rest _ ys answer (refused_behind g k) e h = cc

refused_before : (which : Option Pseudo) (o : Origin) (t : List ℕ) (rules : List Rule) (rest : List Placed) (read : Result (List Ruleset) Refused) (e : Refused) → Each (IsRuleset which o t) rules read → read ≡ Err e → Each (Rulesets which) (map (placed o t) rules ++ rest) (Err e)
refused_before which o t [] rest _ e nothing is = cc
refused_before which o t (r ∷ rs) rest _ e (joined g k) is = cc
refused_before which o t (r ∷ rs) rest _ e (refused {e = f} g) is = let same : f ≡ e = cc in subst (λ x. Each (Rulesets which) (placed o t r ∷ (map (placed o t) rs ++ rest)) (Err x)) same (refused g)
refused_before which o t (r ∷ rs) rest _ e (refused_behind g k) is = refused_behind g (refused_before which o t rs rest _ e k is)

rules_at : (texts : List (List ℕ)) (sheets : List Sheet) (at : ℕ) (t : List ℕ) (s : Sheet) → at < length texts → t ≡ get_or texts at t → at < length sheets → s ≡ get_or sheets at s → rules_from at (drop at texts) (drop at sheets) ≡ map (placed (sheet_origin at) t) s.rules ++ rules_from (at + 1) (drop (at + 1) texts) (drop (at + 1) sheets)
rules_at texts sheets at t s l e m f = rw (drop_at texts at t l e, drop_at sheets at s m f, add-one) refl

pub sheets_more : (which : Option Pseudo) (texts : List (List ℕ)) (sheets : List Sheet) (at : ℕ) (items : List Ruleset) (t : List ℕ) (s : Sheet) (ys : List Ruleset) → at < length texts → t ≡ get_or texts at t → at < length sheets → s ≡ get_or sheets at s → ReachedSheets which texts sheets at items → Each (IsRuleset which (sheet_origin at) t) s.rules (Ok ys) → ReachedSheets which texts sheets (at + 1) (items ++ ys)
sheets_more which texts sheets at items t s ys l e m f r k = record {
  goes = λ answer h. subst (AreRulesets which texts sheets) (behind_both items ys answer)
      (r.goes (behind ys answer) (subst (λ rules. Each (Rulesets which) rules (behind ys answer)) (sym (rules_at texts sheets at t s l e m f)) (before_others which (sheet_origin at) t s.rules _ (Ok ys) ys answer k refl h)));
}

pub sheets_refusal : (which : Option Pseudo) (texts : List (List ℕ)) (sheets : List Sheet) (at : ℕ) (items : List Ruleset) (t : List ℕ) (s : Sheet) (x : Refused) → at < length texts → t ≡ get_or texts at t → at < length sheets → s ≡ get_or sheets at s → ReachedSheets which texts sheets at items → Each (IsRuleset which (sheet_origin at) t) s.rules (Err x) → AreRulesets which texts sheets (Err x)
sheets_refusal which texts sheets at items t s x l e m f r k =
    r.goes (Err x) (subst (λ rules. Each (Rulesets which) rules (Err x)) (sym (rules_at texts sheets at t s l e m f)) (refused_before which (sheet_origin at) t s.rules _ (Err x) x k refl))

no_rules : (at : ℕ) (texts : List (List ℕ)) (sheets : List Sheet) → sheets ≡ [] → rules_from at texts sheets ≡ []
no_rules at [] sheets e = refl
no_rules at (t ∷ texts) [] e = refl
no_rules at (t ∷ texts) (s ∷ sheets) e = cc

pub sheets_end : (which : Option Pseudo) (texts : List (List ℕ)) (sheets : List Sheet) (at : ℕ) (items : List Ruleset) → length sheets ≤ at → ReachedSheets which texts sheets at items → AreRulesets which texts sheets (Ok items)
sheets_end which texts sheets at items h r =
    subst (λ all. AreRulesets which texts sheets (Ok all)) (append-nil items)
    (r.goes (Ok []) (subst (λ rules. Each (Rulesets which) rules (Ok [])) (sym (no_rules at (drop at texts) (drop at sheets) (drop_all at sheets h))) nothing))
