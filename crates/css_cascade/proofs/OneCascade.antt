-- A page has at most one cascade, or is refused in one way.
use Rattle.std.proofs.Common.{◌≡◌, ℕ, ◌+◌, List, [], ◌∷◌, ◌++◌, length, map, Option, None, Result, Ok, Err, refl, sym, ◌∙◌, ap, subst}
use Rattle.std.specs.Str.{chars}
use Rattle.std.proofs.lemmas.List.{map-append, map-id}
use Rattle.std.proofs.lemmas.Option.{none-some, same_Some}
use Rattle.viz_base.specs.declared.nodes.Attr.{Attr}
use Rattle.viz_base.specs.declared.nodes.Body.{Body}
use Rattle.viz_base.specs.declared.nodes.Body.TheVariants as of_body
use Rattle.viz_base.specs.declared.nodes.Element.{Element}
use Rattle.viz_base.specs.declared.nodes.Node.{Node}
use Rattle.viz_base.specs.declared.selectors.Pseudo.{Pseudo}
use Rattle.viz_base.specs.declared.selectors.Spec.{Spec}
use Rattle.viz_base.specs.declared.settings.Setting.{Setting}
use Rattle.viz_base.specs.declared.sheets.Decl.{Decl}
use Rattle.viz_base.specs.declared.sheets.Rule.{Rule}
use Rattle.viz_base.specs.declared.sheets.Sheet.{Sheet}
use Rattle.viz_base.specs.Pages.{is_replaced}
use Rattle.viz_base.proofs.Sameness.{same_Ok, same_Err, no_Ok, no_cons, same_head, same_tail}
use Rattle.css_semantics.specs.declared.claims.Claim.{Claim}
use Rattle.css_semantics.specs.declared.claims.Origin.{Origin}
use Rattle.css_semantics.specs.declared.claims.Origin.TheVariants as of_origin
use Rattle.css_semantics.specs.declared.claims.Ranked.{Ranked}
use Rattle.css_semantics.specs.declared.claims.Ruleset.{Ruleset}
use Rattle.css_semantics.specs.declared.claims.Standing.{Standing}
use Rattle.css_semantics.specs.declared.parts.Refusal.{Refusal}
use Rattle.css_semantics.specs.Cascade.{ComesTo, Fault, Goes, IsCascade, selector_at, value_at}
use Rattle.css_semantics.specs.CascadeNodes.{judged, standing_around, winners_of}
use Rattle.css_semantics.specs.CascadeOrder.{Applied, applied, greatest, spec_cmp, style_spec}
use Rattle.css_semantics.specs.CascadeReading.{AppliesTo, AreApplied, AreClaimed, AreRulesets, Each, IsClaimed, IsNoSlice, IsRuleset, IsSlice, IsStyled, Matching, Placed, Refused, all_applied, claims_of, spelled_and_spec, those_of, unsupported_at}
use Rattle.css_semantics.specs.Matching.{Match}
use Rattle.css_semantics.specs.SelectorGrammar.{IsBadAt, IsGroupOf, IsUnsupportedAt}
use Rattle.css_semantics.specs.SheetsGrammar.{AreDeclarations, AreDeclarationsOf}
use Rattle.css_semantics.specs.SheetsReading.{closed_by_end}
use Rattle.css_semantics.specs.Shorthands.{Says, declared}
use Rattle.css_semantics.specs.Specificity.{spec_of}
use Rattle.css_semantics.specs.Spelled.{Spelled}
use Rattle.css_semantics.specs.ValuesParts.{parts}
use Rattle.css_semantics.proofs.Declarations.{declarations_are}
use Rattle.css_semantics.proofs.PieceLemmas.{pieces_same}
use Rattle.css_select.specs.Refusals.{Refusal as SelectorRefusal, unsupported_at as no_support_at, bad_at}
use Rattle.css_select.specs.Verdicts.{Verdict}
use Rattle.css_select.proofs.Answers.{one_reading_of}

-- ---- one after another

-- what is kept of an answer
abbrev pub image : {B D E : Type 0} → (B → D) → Result (List B) E → Result (List D) E
image f (Ok ys) = Ok (map f ys)
image f (Err e) = Err e

-- items of the same keys give the same, as far as it is kept
abbrev pub Agrees : {A B C D E : Type 0} → (A → Result (List B) E → Type 0) → (A → C) → (B → D) → Type 0
Agrees {A} {B} {C} {D} {E} Gives key f = (x y : A) (r s : Result (List B) E) → key x ≡ key y → Gives x r → Gives y s → image f r ≡ image f s

pub each_same : {A B C D E : Type 0} (Gives : A → Result (List B) E → Type 0) (key : A → C) (f : B → D) → Agrees Gives key f
    → {xs ys : List A} {r s : Result (List B) E} → Each Gives xs r → Each Gives ys s → map key xs ≡ map key ys → image f r ≡ image f s
each_same Gives key f agree Each.nothing Each.nothing e = refl
each_same Gives key f agree Each.nothing (Each.joined g h) e = absurd (no_cons e)
each_same Gives key f agree Each.nothing (Each.refused g) e = absurd (no_cons e)
each_same Gives key f agree Each.nothing (Each.refused_behind g h) e = absurd (no_cons e)
each_same Gives key f agree (Each.joined g h) Each.nothing e = absurd (no_cons (sym e))
each_same Gives key f agree (Each.refused g) Each.nothing e = absurd (no_cons (sym e))
each_same Gives key f agree (Each.refused_behind g h) Each.nothing e = absurd (no_cons (sym e))
each_same Gives key f agree (Each.joined {x = x} {ys = ps} {zs = bs} g h) (Each.joined {x = y} {ys = cs} {zs = ds} i k) e =
    let first : map f ps ≡ map f cs = same_Ok (agree x y (Ok ps) (Ok cs) (same_head e) g i) in
    let behind : map f bs ≡ map f ds = same_Ok (each_same Gives key f agree h k (same_tail e)) in
    ap Ok (map-append f ps bs ∙ (ap (λ l. l ++ map f bs) first ∙ (ap (λ l. map f cs ++ l) behind ∙ sym (map-append f cs ds))))
each_same Gives key f agree (Each.joined {x = x} {ys = ps} g h) (Each.refused {x = y} {e = fault} i) e = absurd (no_Ok (agree x y (Ok ps) (Err fault) (same_head e) g i))
each_same Gives key f agree (Each.joined g h) (Each.refused_behind i k) e = absurd (no_Ok (each_same Gives key f agree h k (same_tail e)))
each_same Gives key f agree (Each.refused {x = x} {e = fault} g) (Each.joined {x = y} {ys = cs} i k) e = absurd (no_Ok (sym (agree x y (Err fault) (Ok cs) (same_head e) g i)))
each_same Gives key f agree (Each.refused {x = x} {e = fault} g) (Each.refused {x = y} {e = other} i) e = agree x y (Err fault) (Err other) (same_head e) g i
each_same Gives key f agree (Each.refused {x = x} {e = fault} g) (Each.refused_behind {x = y} {ys = cs} i k) e = absurd (no_Ok (sym (agree x y (Err fault) (Ok cs) (same_head e) g i)))
each_same Gives key f agree (Each.refused_behind g h) (Each.joined i k) e = absurd (no_Ok (sym (each_same Gives key f agree h k (same_tail e))))
each_same Gives key f agree (Each.refused_behind {x = x} {ys = ps} g h) (Each.refused {x = y} {e = other} i) e = absurd (no_Ok (agree x y (Ok ps) (Err other) (same_head e) g i))
each_same Gives key f agree (Each.refused_behind g h) (Each.refused_behind i k) e = each_same Gives key f agree h k (same_tail e)

-- ---- declarations

pub same_slice : {text : List ℕ} {at len : ℕ} {p q : List ℕ} → IsSlice text at len p → IsSlice text at len q → p ≡ q
same_slice a b = a.is ∙ sym b.is

pub slice_or_none : {text : List ℕ} {at len : ℕ} {p : List ℕ} → IsSlice text at len p → IsNoSlice text at len → ⊥
slice_or_none a none = none a.start a.end

same_answer : {name text : List ℕ} {r s : Result (List Setting) Refusal} → Says name text r → Says name text s → r ≡ s
same_answer {name = name} {text = text} h k = h.answers ∙ (ap (λ ts. declared name (parts ts)) (pieces_same h.tokens k.tokens 0 (chars text) h.whole k.whole) ∙ sym k.answers)

one_claim : {origin : Origin} {text : List ℕ} {d : Decl} {r s : Result (List Claim) Refused} → IsClaimed origin text d r → IsClaimed origin text d s → r ≡ s
one_claim {origin = origin} {d = d} (IsClaimed.says {answer = r} a h) (IsClaimed.says {value = w} {answer = s} b k) =
    ap (λ x. Ok (claims_of origin d x)) (same_answer (subst (λ v. Says d.name v r) (same_slice a b) h) k)
one_claim (IsClaimed.says a h) (IsClaimed.nothing_there none) = absurd (slice_or_none a none)
one_claim (IsClaimed.nothing_there none) (IsClaimed.says b k) = absurd (slice_or_none b none)
one_claim (IsClaimed.nothing_there none) (IsClaimed.nothing_there other) = refl

claims_agree : (origin : Origin) (text : List ℕ) → Agrees (IsClaimed origin text) (λ d. d) (λ c. c)
claims_agree origin text d e r s same h k = ap (image (λ c. c)) (one_claim (subst (λ x. IsClaimed origin text x r) same h) k)

same_claims : {origin : Origin} {text : List ℕ} {decls : List Decl} {xs ys : List Claim} → AreClaimed origin text decls xs → AreClaimed origin text decls ys → xs ≡ ys
same_claims {origin = origin} {text = text} {xs = xs} {ys = ys} h k =
    sym (map-id xs) ∙ (same_Ok (each_same (IsClaimed origin text) (λ d. d) (λ c. c) (claims_agree origin text) h k refl) ∙ map-id ys)

-- ---- rulesets

-- what of a ruleset tells what applies
abbrev pub sketch : Ruleset → List (Spelled × Spec) × List Claim
sketch one = (map spelled_and_spec one.group, one.claims)

group_not_refused : {g : List Spelled} {reason : SelectorRefusal} → ◌≡◌ {A = Verdict} (Ok g) (Err reason) → ⊥
group_not_refused h = cc

bad_not_refused : {m n : ℕ} → ◌≡◌ {A = Verdict} (Err (bad_at n)) (Err (no_support_at m)) → ⊥
bad_not_refused h = cc

abbrev groups_or : List Spelled → Verdict → List Spelled
groups_or g (Ok h) = h
groups_or g v = g

abbrev place_or : ℕ → Verdict → ℕ
place_or n (Err (no_support_at at)) = at
place_or n v = n

-- the same text spells the same selectors
one_group : {u t : List ℕ} {g k : List Spelled} → t ≡ u → IsGroupOf t g → IsGroupOf u k → g ≡ k
one_group {u = u} {g = g} {k = k} e h i = ap (groups_or g) (one_reading_of u (Ok g) (Ok k) (subst (λ p. IsGroupOf p g) e h) i)

group_or_bad : {u t : List ℕ} {g : List Spelled} {n : ℕ} → t ≡ u → IsGroupOf t g → IsBadAt u n → ⊥
group_or_bad {u = u} {g = g} {n = n} e h i = group_not_refused (one_reading_of u (Ok g) (Err (bad_at n)) (subst (λ p. IsGroupOf p g) e h) i)

pub group_or_refused : {u t : List ℕ} {g : List Spelled} {n : ℕ} → t ≡ u → IsGroupOf t g → IsUnsupportedAt u n → ⊥
group_or_refused {u = u} {g = g} {n = n} e h i = group_not_refused (one_reading_of u (Ok g) (Err (no_support_at n)) (subst (λ p. IsGroupOf p g) e h) i)

pub bad_or_refused : {u t : List ℕ} {n m : ℕ} → t ≡ u → IsUnsupportedAt t m → IsBadAt u n → ⊥
bad_or_refused {u = u} {n = n} {m = m} e h i = bad_not_refused (one_reading_of u (Err (bad_at n)) (Err (no_support_at m)) i (subst (λ p. IsUnsupportedAt p m) e h))

pub one_refusal : {u t : List ℕ} {m n : ℕ} → t ≡ u → IsUnsupportedAt t m → IsUnsupportedAt u n → m ≡ n
one_refusal {u = u} {m = m} {n = n} e h i = ap (place_or m) (one_reading_of u (Err (no_support_at m)) (Err (no_support_at n)) (subst (λ p. IsUnsupportedAt p m) e h) i)

some_or_none : (which : Option Pseudo) {g k : List Spelled} {first : Spelled} {more : List Spelled} → g ≡ k → those_of which g ≡ first ∷ more → those_of which k ≡ [] → ⊥
some_or_none which same e f = no_cons (sym f ∙ ap (those_of which) (sym same) ∙ e)

one_ruleset : {which : Option Pseudo} {origin : Origin} {text : List ℕ} {rule : Rule} {r s : Result (List Ruleset) Refused} → IsRuleset which origin text rule r → IsRuleset which origin text rule s → image sketch r ≡ image sketch s
one_ruleset {which = which} (IsRuleset.read {selectors = g} {more = more} {first = first} {one = x} a h e ranked claimed) (IsRuleset.read {selectors = k} {more = others} {first = leading} {one = y} b i f other claims) =
    let same : g ≡ k = one_group (same_slice a b) h i in
    let those : first ∷ more ≡ leading ∷ others = sym e ∙ ap (those_of which) same ∙ f in
    let group : map spelled_and_spec x.group ≡ map spelled_and_spec y.group = ranked ∙ (ap (map (λ (p : Spelled). (p, spec_of p))) those ∙ sym other) in
    ap (λ p. Ok ((p, x.claims) ∷ [])) group ∙ ap (λ cs. Ok ((map spelled_and_spec y.group, cs) ∷ [])) (same_claims claimed claims)
one_ruleset {which = which} (IsRuleset.read a h e ranked claimed) (IsRuleset.of_others b i f) = absurd (some_or_none which (one_group (same_slice a b) h i) e f)
one_ruleset (IsRuleset.read a h e ranked claimed) (IsRuleset.bad b i) = absurd (group_or_bad (same_slice a b) h i)
one_ruleset (IsRuleset.read a h e ranked claimed) (IsRuleset.not_supported b i) = absurd (group_or_refused (same_slice a b) h i)
one_ruleset (IsRuleset.read a h e ranked claimed) (IsRuleset.nothing_there none) = absurd (slice_or_none a none)
one_ruleset {which = which} (IsRuleset.of_others a h e) (IsRuleset.read b i f ranked claimed) = absurd (some_or_none which (one_group (same_slice b a) i h) f e)
one_ruleset (IsRuleset.of_others a h e) (IsRuleset.of_others b i f) = refl
one_ruleset (IsRuleset.of_others a h e) (IsRuleset.bad b i) = refl
one_ruleset (IsRuleset.of_others a h e) (IsRuleset.not_supported b i) = absurd (group_or_refused (same_slice a b) h i)
one_ruleset (IsRuleset.of_others a h e) (IsRuleset.nothing_there none) = refl
one_ruleset (IsRuleset.bad a h) (IsRuleset.read b i f ranked claimed) = absurd (group_or_bad (same_slice b a) i h)
one_ruleset (IsRuleset.bad a h) (IsRuleset.of_others b i f) = refl
one_ruleset (IsRuleset.bad a h) (IsRuleset.bad b i) = refl
one_ruleset (IsRuleset.bad a h) (IsRuleset.not_supported b i) = absurd (bad_or_refused (same_slice b a) i h)
one_ruleset (IsRuleset.bad a h) (IsRuleset.nothing_there none) = refl
one_ruleset (IsRuleset.not_supported a h) (IsRuleset.read b i f ranked claimed) = absurd (group_or_refused (same_slice b a) i h)
one_ruleset (IsRuleset.not_supported a h) (IsRuleset.of_others b i f) = absurd (group_or_refused (same_slice b a) i h)
one_ruleset (IsRuleset.not_supported a h) (IsRuleset.bad b i) = absurd (bad_or_refused (same_slice a b) h i)
one_ruleset {origin = origin} {rule = rule} (IsRuleset.not_supported a h) (IsRuleset.not_supported b i) =
    ap (λ k. image sketch (unsupported_at origin (rule.at + k))) (one_refusal (same_slice a b) h i)
one_ruleset (IsRuleset.not_supported a h) (IsRuleset.nothing_there none) = absurd (slice_or_none a none)
one_ruleset (IsRuleset.nothing_there none) (IsRuleset.read b i f ranked claimed) = absurd (slice_or_none b none)
one_ruleset (IsRuleset.nothing_there none) (IsRuleset.of_others b i f) = refl
one_ruleset (IsRuleset.nothing_there none) (IsRuleset.bad b i) = refl
one_ruleset (IsRuleset.nothing_there none) (IsRuleset.not_supported b i) = absurd (slice_or_none b none)
one_ruleset (IsRuleset.nothing_there none) (IsRuleset.nothing_there other) = refl

pub same_rulesets : (which : Option Pseudo) (texts : List (List ℕ)) (sheets : List Sheet) {r s : Result (List Ruleset) Refused} → AreRulesets which texts sheets r → AreRulesets which texts sheets s → image sketch r ≡ image sketch s
same_rulesets which texts sheets h k =
    each_same (λ (p : Placed). IsRuleset which p.origin p.text p.rule) (λ p. p) sketch (λ x y r s same g i. one_ruleset (subst (λ (p : Placed). IsRuleset which p.origin p.text p.rule r) same g) i) h k refl

-- ---- what applies to a node

same_matching : {nodes : List Node} {n : ℕ} {xs ys : List Ranked} {ps bs : List Spec} → Matching nodes n xs ps → Matching nodes n ys bs → map spelled_and_spec xs ≡ map spelled_and_spec ys → ps ≡ bs
same_matching Matching.none Matching.none e = refl
same_matching Matching.none (Matching.matches m h) e = absurd (no_cons e)
same_matching Matching.none (Matching.passes_by m h) e = absurd (no_cons e)
same_matching (Matching.matches m h) Matching.none e = absurd (no_cons (sym e))
same_matching (Matching.passes_by m h) Matching.none e = absurd (no_cons (sym e))
same_matching (Matching.matches {r = r} {specs = ps} m h) (Matching.matches {r = q} {specs = bs} o k) e =
    ap (λ (p : Spelled × Spec). p.1 ∷ ps) (same_head e) ∙ ap (λ l. q.spec ∷ l) (same_matching h k (same_tail e))
same_matching {nodes = nodes} {n = n} (Matching.matches m h) (Matching.passes_by o k) e = absurd (o (subst (λ (p : Spelled × Spec). Match p.0.0 nodes n) (same_head e) m))
same_matching {nodes = nodes} {n = n} (Matching.passes_by m h) (Matching.matches o k) e = absurd (m (subst (λ (p : Spelled × Spec). Match p.0.0 nodes n) (sym (same_head e)) o))
same_matching (Matching.passes_by m h) (Matching.passes_by o k) e = same_matching h k (same_tail e)

pub applies_agree : (nodes : List Node) (n : ℕ) → Agrees (AppliesTo nodes n) sketch (λ x. x)
applies_agree nodes n x y r s e (AppliesTo.applies {specs = ps} h) (AppliesTo.applies {specs = bs} k) =
    let same : ps ≡ bs = same_matching h k (ap (λ (p : List (Spelled × Spec) × List Claim). p.0) e) in
    let claims : x.claims ≡ y.claims = ap (λ (p : List (Spelled × Spec) × List Claim). p.1) e in
    ap (λ (l : List Spec). image (λ z. z) (Ok (all_applied (greatest spec_cmp l) x.claims))) same ∙ ap (λ cs. image (λ z. z) (Ok (all_applied (greatest spec_cmp bs) cs))) claims

same_declarations : (text : List ℕ) {ds es : List Decl} → AreDeclarationsOf text ds → AreDeclarationsOf text es → ds ≡ es
same_declarations text {es = es} h k =
    declarations_are h.2 ∙ sym (declarations_are (subst (λ ts. AreDeclarations (closed_by_end ts) es) (pieces_same k.0 h.0 0 (chars text) k.1 h.1) k.2))

same_style : {n : ℕ} {attrs : List Attr} {xs ys : List Claim} → IsStyled n attrs xs → IsStyled n attrs ys → xs ≡ ys
same_style (IsStyled.unstyled a) (IsStyled.unstyled b) = refl
same_style (IsStyled.unstyled a) (IsStyled.styled b ds cs) = absurd (none-some _ (sym a ∙ b))
same_style (IsStyled.styled a ds cs) (IsStyled.unstyled b) = absurd (none-some _ (sym b ∙ a))
same_style {n = n} (IsStyled.styled {text = t} {decls = d} {claims = x} a ds cs) (IsStyled.styled {text = u} {decls = e} {claims = y} b es bs) =
    let text : t ≡ u = same_Some _ _ (sym a ∙ b) in
    let decls : d ≡ e = same_declarations u (subst (λ w. AreDeclarationsOf w d) text ds) es in
    same_claims (subst (λ w. AreClaimed (of_origin.Style n) w e x) text (subst (λ w. AreClaimed (of_origin.Style n) t w x) decls cs)) bs

abbrev attrs_or : Body → List Attr
attrs_or (of_body.Element e) = e.attrs
attrs_or b = []

pub no_text : {e : Element} {text : List ℕ} → of_body.Element e ≡ of_body.Chars text → ⊥
no_text h = cc

pub same_applied : {nodes : List Node} {rs qs : List Ruleset} {n : ℕ} {b c : Body} {xs ys : List Applied} → AreApplied nodes rs n b xs → AreApplied nodes qs n c ys → b ≡ c → map sketch rs ≡ map sketch qs → xs ≡ ys
same_applied {nodes = nodes} {n = n} (AreApplied.to_element {all = all} {style = x} h s) (AreApplied.to_element {all = every} {style = y} k t) e same =
    let rules : all ≡ every = sym (map-id all) ∙ (same_Ok (each_same (AppliesTo nodes n) sketch (λ z. z) (applies_agree nodes n) h k same) ∙ map-id every) in
    let style : x ≡ y = same_style (subst (λ l. IsStyled n l x) (ap attrs_or e) s) t in
    ap (λ l. l ++ map (applied style_spec) x) rules ∙ ap (λ l. every ++ map (applied style_spec) l) style
same_applied (AreApplied.to_element h s) AreApplied.to_text e same = absurd (no_text e)
same_applied AreApplied.to_text (AreApplied.to_element k t) e same = absurd (no_text (sym e))
same_applied AreApplied.to_text AreApplied.to_text e same = refl

-- ---- nodes

same_node : {nodes : List Node} {rs qs : List Ruleset} {st : List Standing} {n : ℕ} {node : Node} {r s : Result (List Setting × Standing) Claim} → ComesTo nodes rs st n node r → ComesTo nodes qs st n node s → map sketch rs ≡ map sketch qs → r ≡ s
same_node {st = st} {node = node} (ComesTo.comes_to h) (ComesTo.comes_to k) same =
    ap (λ all. judged (is_replaced node.body) (standing_around st node.parent) (winners_of all)) (same_applied h k refl same)

-- what two nodes of the same number come to after the same nodes
alike : {nodes : List Node} {rs qs : List Ruleset} {st su : List Standing} {ws vs : List (List Setting)} {x y : Node} {r s : Result (List Setting × Standing) Claim}
    → ComesTo nodes rs st (length ws) x r → ComesTo nodes qs su (length vs) y s → st ≡ su → ws ≡ vs → x ≡ y → map sketch rs ≡ map sketch qs → r ≡ s
alike {nodes = nodes} {rs = rs} {su = su} {ws = ws} {vs = vs} {x = x} {r = r} h k e f g same =
    same_node (subst (λ z. ComesTo nodes rs su (length vs) z r) g (subst (λ w. ComesTo nodes rs su (length w) x r) f (subst (λ t. ComesTo nodes rs t (length ws) x r) e h))) k same

same_goes : {nodes : List Node} {rs qs : List Ruleset} {st su : List Standing} {ws vs : List (List Setting)} {xs ys : List Node} {r s : Result (List (List Setting)) Fault}
    → Goes nodes rs st ws xs r → Goes nodes qs su vs ys s → st ≡ su → ws ≡ vs → xs ≡ ys → map sketch rs ≡ map sketch qs → r ≡ s
same_goes Goes.ends Goes.ends e f g same = ap Ok f
same_goes Goes.ends (Goes.refuses k) e f g same = absurd (no_cons g)
same_goes Goes.ends (Goes.goes_on k more) e f g same = absurd (no_cons g)
same_goes (Goes.refuses h) Goes.ends e f g same = absurd (no_cons (sym g))
same_goes (Goes.goes_on h more) Goes.ends e f g same = absurd (no_cons (sym g))
same_goes (Goes.refuses {winners = ws} {c = c} h) (Goes.refuses {winners = vs} {c = d} k) e f g same =
    ap (λ (w : List (List Setting)). Err (value_at (length w) c.prop c.source)) f ∙ ap (λ (x : Claim). Err (value_at (length vs) x.prop x.source)) (same_Err (alike h k e f (same_head g) same))
same_goes (Goes.refuses h) (Goes.goes_on k more) e f g same = absurd (no_Ok (sym (alike h k e f (same_head g) same)))
same_goes (Goes.goes_on h more) (Goes.refuses k) e f g same = absurd (no_Ok (alike h k e f (same_head g) same))
same_goes (Goes.goes_on {standings = st} {winners = ws} {settings = x} {standing = a} h more) (Goes.goes_on {standings = su} {winners = vs} {settings = y} {standing = b} k rest) e f g same =
    let come : (x, a) ≡ (y, b) = same_Ok (alike h k e f (same_head g) same) in
    let standing : st ++ a ∷ [] ≡ su ++ b ∷ [] = ap (λ l. l ++ a ∷ []) e ∙ ap (λ (p : List Setting × Standing). su ++ p.1 ∷ []) come in
    let settings : ws ++ x ∷ [] ≡ vs ++ y ∷ [] = ap (λ l. l ++ x ∷ []) f ∙ ap (λ (p : List Setting × Standing). vs ++ p.0 ∷ []) come in
    same_goes more rest standing settings (same_tail g) same

pub one_cascade : (nodes : List Node) (texts : List (List ℕ)) (sheets : List Sheet) (r s : Result (List (List Setting)) Fault) → IsCascade nodes texts sheets r → IsCascade nodes texts sheets s → r ≡ s
one_cascade nodes texts sheets r s (IsCascade.refused_selector h) (IsCascade.refused_selector k) = ap (λ (p : Refused). Err (selector_at p.0 p.1)) (same_Err (same_rulesets None texts sheets h k))
one_cascade nodes texts sheets r s (IsCascade.refused_selector h) (IsCascade.cascaded k goes) = absurd (no_Ok (sym (same_rulesets None texts sheets h k)))
one_cascade nodes texts sheets r s (IsCascade.cascaded h goes) (IsCascade.refused_selector k) = absurd (no_Ok (same_rulesets None texts sheets h k))
one_cascade nodes texts sheets r s (IsCascade.cascaded h goes) (IsCascade.cascaded k more) = same_goes goes more refl refl refl (same_Ok (same_rulesets None texts sheets h k))
