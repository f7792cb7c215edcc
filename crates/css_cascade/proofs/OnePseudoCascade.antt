-- A page has at most one cascade of a pseudo-element, or is refused in one way; and its refused selectors are those of the
-- cascade of elements.
use Rattle.std.proofs.Common.{◌≡◌, ℕ, ◌+◌, List, [], ◌∷◌, ◌++◌, length, map, Option, Some, None, inl, inr, ◌⊎◌, Result, Ok, Err, refl, sym, ap, ◌∙◌, subst}
use Rattle.std.proofs.lemmas.List.{map-id}
use Rattle.std.proofs.lemmas.Option.{none-some, same_Some}
use Rattle.viz_base.specs.declared.nodes.Body.{Body}
use Rattle.viz_base.specs.declared.nodes.Body.TheVariants as of_body
use Rattle.viz_base.specs.declared.nodes.Element.{Element}
use Rattle.viz_base.specs.declared.nodes.Node.{Node}
use Rattle.viz_base.specs.declared.selectors.Pseudo.{Pseudo}
use Rattle.viz_base.specs.declared.settings.Setting.{Setting}
use Rattle.viz_base.specs.declared.sheets.Rule.{Rule}
use Rattle.viz_base.specs.declared.sheets.Sheet.{Sheet}
use Rattle.viz_base.proofs.Sameness.{no_Ok, no_cons, same_Err, same_Ok, same_head, same_tail}
use Rattle.css_semantics.specs.declared.claims.Claim.{Claim}
use Rattle.css_semantics.specs.declared.claims.Origin.{Origin}
use Rattle.css_semantics.specs.declared.claims.Ruleset.{Ruleset}
use Rattle.css_semantics.specs.Cascade.{Fault, selector_at, value_at}
use Rattle.css_semantics.specs.CascadeNodes.{winners_of}
use Rattle.css_semantics.specs.CascadeOrder.{Applied}
use Rattle.css_semantics.specs.CascadeReading.{AppliesTo, AreAppliedBeside, AreRulesets, Each, IsRuleset, IsSlice, Placed, Refused, unsupported_at}
use Rattle.css_semantics.specs.SelectorGrammar.{IsUnsupportedAt}
use Rattle.css_semantics.specs.PseudoCascade.{ComesToBeside, GoesBeside, IsPseudoCascade, Refuses, settings_beside}
use Rattle.css_cascade.proofs.OneCascade.{applies_agree, bad_or_refused, each_same, group_or_refused, image, no_text, one_refusal, same_rulesets, same_slice, sketch, slice_or_none}

-- ---- what applies

same_beside : {nodes : List Node} {rs qs : List Ruleset} {n : ℕ} {b c : Body} {xs ys : List Applied} → AreAppliedBeside nodes rs n b xs → AreAppliedBeside nodes qs n c ys → b ≡ c → map sketch rs ≡ map sketch qs → xs ≡ ys
same_beside {nodes = nodes} {n = n} (AreAppliedBeside.to_element {all = all} h) (AreAppliedBeside.to_element {all = every} k) e same =
    sym (map-id all) ∙ (same_Ok (each_same (AppliesTo nodes n) sketch (λ z. z) (applies_agree nodes n) h k same) ∙ map-id every)
same_beside (AreAppliedBeside.to_element h) AreAppliedBeside.to_text e same = absurd (no_text e)
same_beside AreAppliedBeside.to_text (AreAppliedBeside.to_element k) e same = absurd (no_text (sym e))
same_beside AreAppliedBeside.to_text AreAppliedBeside.to_text e same = refl

-- ---- one node

refused_same : {nodes : List Node} {texts : List (List ℕ)} {sheets : List Sheet} {n : ℕ} {ws vs : List Claim} {c d : Claim} → ws ≡ vs → Refuses nodes texts sheets n ws c → Refuses nodes texts sheets n vs d → c ≡ d
refused_same {c = c} {d = d} e f g = let first = f.first in let other = g.first in same_Some c d (cc)

refused_or_given : {nodes : List Node} {texts : List (List ℕ)} {sheets : List Sheet} {n : ℕ} {ws vs : List Claim} {c : Claim} → ws ≡ vs → Refuses nodes texts sheets n ws c → ((d : Claim) → Refuses nodes texts sheets n vs d → ⊥) → ⊥
refused_or_given {nodes} {texts} {sheets} {n} {c = c} e f none = none c (subst (λ ws. Refuses nodes texts sheets n ws c) e f)

same_node : {nodes : List Node} {texts : List (List ℕ)} {sheets : List Sheet} {rs qs : List Ruleset} {n : ℕ} {node : Node} {r s : Result (List Setting) Claim} → ComesToBeside nodes texts sheets rs n node r → ComesToBeside nodes texts sheets qs n node s → map sketch rs ≡ map sketch qs → r ≡ s
same_node (ComesToBeside.refused h f) (ComesToBeside.refused k g) same = ap Err (refused_same (ap winners_of (same_beside h k refl same)) f g)
same_node (ComesToBeside.refused h f) (ComesToBeside.given k none) same = absurd (refused_or_given (ap winners_of (same_beside h k refl same)) f none)
same_node (ComesToBeside.given h none) (ComesToBeside.refused k g) same = absurd (refused_or_given (ap winners_of (sym (same_beside h k refl same))) g none)
same_node (ComesToBeside.given h none) (ComesToBeside.given k other) same = ap (λ all. Ok (settings_beside (winners_of all))) (same_beside h k refl same)

alike : {nodes : List Node} {texts : List (List ℕ)} {sheets : List Sheet} {rs qs : List Ruleset} {ws vs : List (List Setting)} {x y : Node} {r s : Result (List Setting) Claim}
    → ComesToBeside nodes texts sheets rs (length ws) x r → ComesToBeside nodes texts sheets qs (length vs) y s → ws ≡ vs → x ≡ y → map sketch rs ≡ map sketch qs → r ≡ s
alike {nodes = nodes} {texts = texts} {sheets = sheets} {rs = rs} {vs = vs} {x = x} {r = r} h k f g same =
    same_node (subst (λ z. ComesToBeside nodes texts sheets rs (length vs) z r) g (subst (λ w. ComesToBeside nodes texts sheets rs (length w) x r) f h)) k same

-- ---- all nodes

same_goes : {nodes : List Node} {texts : List (List ℕ)} {sheets : List Sheet} {rs qs : List Ruleset} {ws vs : List (List Setting)} {xs ys : List Node} {r s : Result (List (List Setting)) Fault}
    → GoesBeside nodes texts sheets rs ws xs r → GoesBeside nodes texts sheets qs vs ys s → ws ≡ vs → xs ≡ ys → map sketch rs ≡ map sketch qs → r ≡ s
same_goes GoesBeside.ends GoesBeside.ends f g same = ap Ok f
same_goes GoesBeside.ends (GoesBeside.refuses k) f g same = absurd (no_cons g)
same_goes GoesBeside.ends (GoesBeside.goes_on k more) f g same = absurd (no_cons g)
same_goes (GoesBeside.refuses h) GoesBeside.ends f g same = absurd (no_cons (sym g))
same_goes (GoesBeside.goes_on h more) GoesBeside.ends f g same = absurd (no_cons (sym g))
same_goes (GoesBeside.refuses {winners = ws} {c = c} h) (GoesBeside.refuses {winners = vs} {c = d} k) f g same =
    ap (λ (w : List (List Setting)). Err (value_at (length w) c.prop c.source)) f ∙ ap (λ (x : Claim). Err (value_at (length vs) x.prop x.source)) (same_Err (alike h k f (same_head g) same))
same_goes (GoesBeside.refuses h) (GoesBeside.goes_on k more) f g same = absurd (no_Ok (sym (alike h k f (same_head g) same)))
same_goes (GoesBeside.goes_on h more) (GoesBeside.refuses k) f g same = absurd (no_Ok (alike h k f (same_head g) same))
same_goes (GoesBeside.goes_on {winners = ws} {settings = x} h more) (GoesBeside.goes_on {winners = vs} {settings = y} k rest) f g same =
    let come : x ≡ y = same_Ok (alike h k f (same_head g) same) in
    same_goes more rest (ap (λ l. l ++ x ∷ []) f ∙ ap (λ z. vs ++ z ∷ []) come) (same_tail g) same

pub one_pseudo_cascade : (nodes : List Node) (texts : List (List ℕ)) (sheets : List Sheet) (which : Pseudo) (r s : Result (List (List Setting)) Fault) → IsPseudoCascade nodes texts sheets which r → IsPseudoCascade nodes texts sheets which s → r ≡ s
one_pseudo_cascade nodes texts sheets which r s (IsPseudoCascade.refused_selector h) (IsPseudoCascade.refused_selector k) = ap (λ (p : Refused). Err (selector_at p.0 p.1)) (same_Err (same_rulesets (Some which) texts sheets h k))
one_pseudo_cascade nodes texts sheets which r s (IsPseudoCascade.refused_selector h) (IsPseudoCascade.cascaded k goes) = absurd (no_Ok (sym (same_rulesets (Some which) texts sheets h k)))
one_pseudo_cascade nodes texts sheets which r s (IsPseudoCascade.cascaded h goes) (IsPseudoCascade.refused_selector k) = absurd (no_Ok (same_rulesets (Some which) texts sheets h k))
one_pseudo_cascade nodes texts sheets which r s (IsPseudoCascade.cascaded h goes) (IsPseudoCascade.cascaded k more) = same_goes goes more refl refl (same_Ok (same_rulesets (Some which) texts sheets h k))

-- ---- the selectors that are refused are the same, whichever are looked at

abbrev verdict : {B E : Type 0} → Result (List B) E → Option E
verdict (Ok found) = None
verdict (Err e) = Some e

each_verdict : {A B E : Type 0} (G H : A → Result (List B) E → Type 0) → ((x y : A) (r s : Result (List B) E) → x ≡ y → G x r → H y s → verdict r ≡ verdict s)
    → {xs ys : List A} {r s : Result (List B) E} → Each G xs r → Each H ys s → xs ≡ ys → verdict r ≡ verdict s
each_verdict G H agree Each.nothing Each.nothing e = refl
each_verdict G H agree Each.nothing (Each.joined g h) e = absurd (no_cons e)
each_verdict G H agree Each.nothing (Each.refused g) e = absurd (no_cons e)
each_verdict G H agree Each.nothing (Each.refused_behind g h) e = absurd (no_cons e)
each_verdict G H agree (Each.joined g h) Each.nothing e = absurd (no_cons (sym e))
each_verdict G H agree (Each.refused g) Each.nothing e = absurd (no_cons (sym e))
each_verdict G H agree (Each.refused_behind g h) Each.nothing e = absurd (no_cons (sym e))
each_verdict G H agree (Each.joined g h) (Each.joined i k) e = refl
each_verdict G H agree (Each.joined {x = x} {ys = ps} g h) (Each.refused {x = y} {e = f} i) e = agree x y (Ok ps) (Err f) (same_head e) g i
each_verdict G H agree (Each.joined g h) (Each.refused_behind i k) e = each_verdict G H agree h k (same_tail e)
each_verdict G H agree (Each.refused {x = x} {e = f} g) (Each.joined {x = y} {ys = ps} i k) e = agree x y (Err f) (Ok ps) (same_head e) g i
each_verdict G H agree (Each.refused {x = x} {e = f} g) (Each.refused {x = y} {e = d} i) e = agree x y (Err f) (Err d) (same_head e) g i
each_verdict G H agree (Each.refused {x = x} {e = f} g) (Each.refused_behind {x = y} {ys = ps} i k) e = absurd (none-some _ (sym (agree x y (Err f) (Ok ps) (same_head e) g i)))
each_verdict G H agree (Each.refused_behind g h) (Each.joined i k) e = each_verdict G H agree h k (same_tail e)
each_verdict G H agree (Each.refused_behind {x = x} {ys = ps} g h) (Each.refused {x = y} {e = f} i) e = absurd (none-some _ (agree x y (Ok ps) (Err f) (same_head e) g i))
each_verdict G H agree (Each.refused_behind g h) (Each.refused_behind i k) e = each_verdict G H agree h k (same_tail e)

-- a rule with a refused selector comes to that, whichever selectors are looked at
refused_rule : {which : Option Pseudo} {origin : Origin} {text : List ℕ} {rule : Rule} {r : Result (List Ruleset) Refused} (t : List ℕ) (n : ℕ) → IsSlice text rule.at rule.len t → IsUnsupportedAt t n → IsRuleset which origin text rule r → r ≡ unsupported_at origin (rule.at + n)
refused_rule t n a i (IsRuleset.read b h e ranked claimed) = absurd (group_or_refused (same_slice b a) h i)
refused_rule t n a i (IsRuleset.of_others b h e) = absurd (group_or_refused (same_slice b a) h i)
refused_rule t n a i (IsRuleset.bad b h) = absurd (bad_or_refused (same_slice a b) i h)
refused_rule {origin = origin} {rule = rule} t n a i (IsRuleset.not_supported b h) = ap (λ k. unsupported_at origin (rule.at + k)) (one_refusal (same_slice b a) h i)
refused_rule t n a i (IsRuleset.nothing_there none) = absurd (slice_or_none a none)

abbrev HasRefused : List ℕ → Rule → Type 0
HasRefused text rule = (t : List ℕ) × (n : ℕ) × IsSlice text rule.at rule.len t × IsUnsupportedAt t n

quiet_or_refused : {which : Option Pseudo} {origin : Origin} {text : List ℕ} {rule : Rule} {r : Result (List Ruleset) Refused} → IsRuleset which origin text rule r → (verdict r ≡ None) ⊎ HasRefused text rule
quiet_or_refused (IsRuleset.read b h e ranked claimed) = inl refl
quiet_or_refused (IsRuleset.of_others b h e) = inl refl
quiet_or_refused (IsRuleset.bad b h) = inl refl
quiet_or_refused (IsRuleset.not_supported {selector = t} {at = n} b h) = inr (t, n, b, h)
quiet_or_refused (IsRuleset.nothing_there none) = inl refl

both_refused : {a b : Option Pseudo} {origin : Origin} {text : List ℕ} {rule : Rule} {r s : Result (List Ruleset) Refused} → HasRefused text rule → IsRuleset a origin text rule r → IsRuleset b origin text rule s → verdict r ≡ verdict s
both_refused x h k = ap verdict (refused_rule x.0 x.1 x.2 x.3 h ∙ sym (refused_rule x.0 x.1 x.2 x.3 k))

by_quiet : {a b : Option Pseudo} {origin : Origin} {text : List ℕ} {rule : Rule} {r s : Result (List Ruleset) Refused} → IsRuleset a origin text rule r → IsRuleset b origin text rule s → (verdict r ≡ None) ⊎ HasRefused text rule → (verdict s ≡ None) ⊎ HasRefused text rule → verdict r ≡ verdict s
by_quiet h k (inl e) (inl f) = e ∙ sym f
by_quiet h k (inl e) (inr x) = both_refused x h k
by_quiet h k (inr x) f = both_refused x h k

same_verdicts : (a b : Option Pseudo) (texts : List (List ℕ)) (sheets : List Sheet) {r s : Result (List Ruleset) Refused} → AreRulesets a texts sheets r → AreRulesets b texts sheets s → verdict r ≡ verdict s
same_verdicts a b texts sheets h k =
    each_verdict (λ (p : Placed). IsRuleset a p.origin p.text p.rule) (λ (p : Placed). IsRuleset b p.origin p.text p.rule)
    (λ x y r s e g i. let k = subst (λ (p : Placed). IsRuleset b p.origin p.text p.rule s) (sym e) i in by_quiet g k (quiet_or_refused g) (quiet_or_refused k)) h k refl

pub not_refused : (a b : Option Pseudo) (texts : List (List ℕ)) (sheets : List Sheet) (rulesets : List Ruleset) (e : Refused) → AreRulesets a texts sheets (Ok rulesets) → AreRulesets b texts sheets (Err e) → ⊥
not_refused a b texts sheets rulesets e h k = none-some _ (same_verdicts a b texts sheets h k)
