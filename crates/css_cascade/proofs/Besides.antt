-- What the pseudo-elements of the nodes come to, one node after another.
use Rattle.std.proofs.Common.{◌≡◌, ℕ, ◌+◌, ◌<◌, ◌≤◌, suc, Bool, true, false, cond, ◌&&◌, not, List, [], ◌∷◌, ◌++◌, length, get_or, slice_get, Option, Some, None, option_map, Result, Ok, Err, refl, sym, ap, ◌∙◌, subst, arith, append_assoc, length-append, inl, inr, ◌⊎◌}
use Rattle.std.proofs.lemmas.Bool.{cases_lt}
use Rattle.std.proofs.lemmas.List.{append-nil}
use Rattle.std.proofs.lemmas.Option.{same_Some, slice_get_within}
use Rattle.viz_base.specs.declared.nodes.Body.{Body}
use Rattle.viz_base.specs.declared.nodes.Body.TheVariants as of_body
use Rattle.viz_base.specs.declared.nodes.Element.{Element}
use Rattle.viz_base.specs.declared.nodes.Node.{Node}
use Rattle.viz_base.specs.declared.settings.Setting.{Setting}
use Rattle.viz_base.specs.declared.sheets.Sheet.{Sheet}
use Rattle.viz_base.proofs.ListLemmas.{get_before, slice_some}
use Rattle.css_semantics.specs.declared.claims.Claim.{Claim}
use Rattle.css_semantics.specs.declared.claims.Ruleset.{Ruleset}
use Rattle.css_semantics.specs.Cascade.{Fault, value_at}
use Rattle.css_semantics.specs.CascadeNodes.{winners_of}
use Rattle.css_semantics.specs.CascadeOrder.{Applied}
use Rattle.css_semantics.specs.CascadeReading.{AreAppliedBeside}
use Rattle.css_semantics.specs.PseudoCascade.{ComesToBeside, GoesBeside, IsNotShown, Refuses, first_unsupported, is_asked, settings_beside}
use Rattle.css_cascade.specs.declared.beside.Refused.{Refused}
use Rattle.css_cascade.specs.steps.Beside.{AreBesideTo, AreHidden, IsBeside, IsRefusedAt, NoneRefusedTo, named, refused_of}
use Rattle.css_cascade.proofs.Hiding.{hidden_at, shown_at}
use Rattle.css_cascade.proofs.Places.{at_or_last}
use Rattle.css_cascade.proofs.Claims.{IsRest, rest_here, rest_more, rest_whole}

-- ---- the list grows

pub beside_more : (nodes : List Node) (rulesets : List Ruleset) (at : ℕ) (node : Node) (winners : List (List Setting)) (refused : List (Option Refused)) (settings : List Setting) (r : Option Refused)
    → slice_get nodes at ≡ Some node → AreBesideTo nodes rulesets at winners refused → IsBeside nodes rulesets at node.body settings r → AreBesideTo nodes rulesets (at + 1) (winners ++ settings ∷ []) (refused ++ r ∷ [])
beside_more nodes rulesets at node winners refused settings r here h b = record {
  one_list_each = length-append winners (settings ∷ []) ∙ ap (λ n. n + 1) h.one_list_each;
  one_each = length-append refused (r ∷ []) ∙ ap (λ n. n + 1) h.one_each;
  each = λ i m s q n w f. by_place i m s q n f (at_or_last winners settings s at i h.one_list_each w);
}
  where
    by_last : (i : ℕ) (m : Node) (s : List Setting) (q : Option Refused) → slice_get nodes i ≡ Some m → i ≡ at → settings ≡ s → (i < at × (slice_get refused i ≡ Some q)) ⊎ ((i ≡ at) × (r ≡ q)) → IsBeside nodes rulesets i m.body s q
    by_last i m s q n e f (inl k) = absurd (omega (arith, e, k.0))
    by_last i m s q n e f (inr k) =
        let same : node ≡ m = same_Some node m (sym here ∙ ap (slice_get nodes) (sym e) ∙ n) in
        subst (λ x. IsBeside nodes rulesets i m.body s x) k.1 (subst (λ x. IsBeside nodes rulesets i m.body x r) f (subst (λ (x : Node). IsBeside nodes rulesets i x.body settings r) same (subst (λ x. IsBeside nodes rulesets x node.body settings r) (sym e) b)))

    by_place : (i : ℕ) (m : Node) (s : List Setting) (q : Option Refused) → slice_get nodes i ≡ Some m → slice_get (refused ++ r ∷ []) i ≡ Some q → (i < at × (slice_get winners i ≡ Some s)) ⊎ ((i ≡ at) × (settings ≡ s)) → IsBeside nodes rulesets i m.body s q
    by_place i m s q n f (inl k) = h.each i m s q n k.1 (sym (get_before refused (r ∷ []) i (let l = k.0 in omega (arith, l, h.one_each))) ∙ f)
    by_place i m s q n f (inr k) = by_last i m s q n k.0 k.1 (at_or_last refused r q at i h.one_each f)

-- ---- one node

refused_by : (winners : List Claim) (b : Bool) (o : Option Claim) (r : Refused) → is_asked winners ≡ b → first_unsupported winners ≡ o → Some r ≡ option_map named (cond b o None) → (c : Claim) × (b ≡ true) × (o ≡ Some c) × (r ≡ named c)
refused_by winners true (Some c) r e f is = (c, refl, refl, same_Some r (named c) is)
refused_by winners true None r e f is = absurd (cc)
refused_by winners false o r e f is = absurd (cc)

-- what is refused is the first value refused by name of winners that are asked for
is_refused : {nodes : List Node} {rulesets : List Ruleset} {n : ℕ} {body : Body} {settings : List Setting} {r : Refused} → (b : IsBeside nodes rulesets n body settings (Some r))
    → (c : Claim) × (is_asked (winners_of b.all) ≡ true) × (first_unsupported (winners_of b.all) ≡ Some c) × (r ≡ named c)
is_refused {r = r} b =
    let k = refused_by (winners_of b.all) (is_asked (winners_of b.all)) (first_unsupported (winners_of b.all)) r refl refl b.refused_is in
    (k.0, k.1, k.2, k.3)

refuses_some : {nodes : List Node} {rulesets : List Ruleset} {n : ℕ} {body : Body} {settings : List Setting} {r : Option Refused} (b : IsBeside nodes rulesets n body settings r) (c : Claim) → is_asked (winners_of b.all) ≡ true → first_unsupported (winners_of b.all) ≡ Some c → r ≡ Some (named c)
refuses_some b c asked first = b.refused_is ∙ (ap (λ x. option_map named (cond x (first_unsupported (winners_of b.all)) None)) asked ∙ ap (option_map named) first)

module _ (nodes : List Node) (texts : List (List ℕ)) (sheets : List Sheet) (rulesets : List Ruleset) where
  pub comes_ok : (n : ℕ) (node : Node) (settings : List Setting) (r : Option Refused) → IsBeside nodes rulesets n node.body settings r → ((q : Refused) → r ≡ Some q → IsNotShown nodes texts sheets n) → ComesToBeside nodes texts sheets rulesets n node (Ok settings)
  comes_ok n node settings r b none =
      subst (λ s. ComesToBeside nodes texts sheets rulesets n node (Ok s)) (sym b.settings_are)
      (ComesToBeside.given b.are_applied (λ c f. f.shown (none (named c) (refuses_some b c f.asked f.first))))

  pub comes_err : (n : ℕ) (node : Node) (settings : List Setting) (r : Refused) → IsBeside nodes rulesets n node.body settings (Some r) → (IsNotShown nodes texts sheets n → ⊥) → (c : Claim) × ComesToBeside nodes texts sheets rulesets n node (Err c) × (r ≡ named c)
  comes_err n node settings r b shown =
      let k = is_refused b in
      (k.0, ComesToBeside.refused b.are_applied (record { asked = k.1; first = k.2; shown = shown }), k.3)

  -- ---- the nodes from one on

  module _ (winners : List (List Setting)) (refused : List (Option Refused)) (h : AreBesideTo nodes rulesets (length nodes) winners refused) where
    some_refused : (n : ℕ) → n < length nodes → (r : Option Refused) × (slice_get refused n ≡ Some r)
    some_refused n l = let e = h.one_each in slice_some refused n (omega arith)

    here : (n : ℕ) (node : Node) (settings : List Setting) → slice_get nodes n ≡ Some node → slice_get winners n ≡ Some settings → (r : Option Refused) × (slice_get refused n ≡ Some r) × IsBeside nodes rulesets n node.body settings r
    here n node settings at w =
        let r = some_refused n (slice_get_within nodes n node at) in
        (r.0, r.1, h.each n node settings r.0 at w r.1)

    -- all of them give what they set
    goes_all : (done rest : List (List Setting)) (xs : List Node) → IsRest (length done) xs nodes → IsRest (length done) rest winners → length rest ≡ length xs → winners ≡ done ++ rest
        → ((m : ℕ) (q : Refused) → slice_get refused m ≡ Some (Some q) → IsNotShown nodes texts sheets m) → GoesBeside nodes texts sheets rulesets done xs (Ok winners)
    goes_all done [] [] from behind e whole none = subst (λ ws. GoesBeside nodes texts sheets rulesets done [] (Ok ws)) (sym (append-nil done) ∙ sym whole) GoesBeside.ends
    goes_all done [] (x ∷ xs) from behind e whole none = absurd (omega (arith, e))
    goes_all done (s ∷ rest) [] from behind e whole none = absurd (omega (arith, e))
    goes_all done (s ∷ rest) (x ∷ xs) from behind e whole none =
        let n = length done in
        let b = here n x s (rest_here n x xs nodes from) (rest_here n s rest winners behind) in
        let longer : length (done ++ s ∷ []) ≡ suc n = length-append done (s ∷ []) ∙ (let p : n + 1 ≡ suc n = omega arith in p) in
        GoesBeside.goes_on (comes_ok n x s b.0 b.2 (λ q is. none n q (b.1 ∙ ap Some is)))
        (goes_all (done ++ s ∷ []) rest xs (subst (λ k. IsRest k xs nodes) (sym longer) (rest_more n x xs nodes from)) (subst (λ k. IsRest k rest winners) (sym longer) (rest_more n s rest winners behind))
        (omega (arith, e)) (whole ∙ sym (append_assoc done (s ∷ []) rest)) none)

    -- one of them refuses: the node here, or one behind it
    refused_step : (end : ℕ) (r : Refused) → slice_get refused end ≡ Some (Some r) → (IsNotShown nodes texts sheets end → ⊥) → ((m : ℕ) (q : Refused) → m < end → slice_get refused m ≡ Some (Some q) → IsNotShown nodes texts sheets m)
        → (done : List (List Setting)) (s : List Setting) (x : Node) (xs : List Node) → IsRest (length done) (x ∷ xs) nodes → (b : (q : Option Refused) × (slice_get refused (length done) ≡ Some q) × IsBeside nodes rulesets (length done) x.body s q) → length done ≤ end
        → (length done < end → GoesBeside nodes texts sheets rulesets (done ++ s ∷ []) xs (Err (value_at end r.prop r.source)))
        → (length done < end) ⊎ (end ≤ length done) → GoesBeside nodes texts sheets rulesets done (x ∷ xs) (Err (value_at end r.prop r.source))
    refused_step end r at shown none done s x xs from b low more (inl l) =
        GoesBeside.goes_on (comes_ok (length done) x s b.0 b.2 (λ q is. none (length done) q l (b.1 ∙ ap Some is))) (more l)
    refused_step end r at shown none done s x xs from b low more (inr g) =
        let n = length done in
        let is : n ≡ end = omega (arith, g, low) in
        let same : b.0 ≡ Some r = same_Some b.0 (Some r) (sym b.1 ∙ ap (slice_get refused) is ∙ at) in
        let k = comes_err n x s r (subst (IsBeside nodes rulesets n x.body s) same b.2) (λ q. shown (subst (IsNotShown nodes texts sheets) is q)) in
        subst (λ m. GoesBeside nodes texts sheets rulesets done (x ∷ xs) (Err (value_at m r.prop r.source))) is
        (subst (λ (q : Refused). GoesBeside nodes texts sheets rulesets done (x ∷ xs) (Err (value_at n q.prop q.source))) (sym k.2) (GoesBeside.refuses k.1))

    goes_refused : (end : ℕ) (r : Refused) → slice_get refused end ≡ Some (Some r) → (IsNotShown nodes texts sheets end → ⊥) → ((m : ℕ) (q : Refused) → m < end → slice_get refused m ≡ Some (Some q) → IsNotShown nodes texts sheets m)
        → (done rest : List (List Setting)) (xs : List Node) → IsRest (length done) xs nodes → IsRest (length done) rest winners → length rest ≡ length xs → length done ≤ end → end < length done + length xs
        → GoesBeside nodes texts sheets rulesets done xs (Err (value_at end r.prop r.source))
    goes_refused end r at shown none done rest [] from behind e low high = absurd (omega (arith, low, high))
    goes_refused end r at shown none done [] (x ∷ xs) from behind e low high = absurd (omega (arith, e))
    goes_refused end r at shown none done (s ∷ rest) (x ∷ xs) from behind e low high =
        let n = length done in
        let longer : length (done ++ s ∷ []) ≡ suc n = length-append done (s ∷ []) ∙ (let p : n + 1 ≡ suc n = omega arith in p) in
        refused_step end r at shown none done s x xs from (here n x s (rest_here n x xs nodes from) (rest_here n s rest winners behind)) low
        (λ l. goes_refused end r at shown none (done ++ s ∷ []) rest xs (subst (λ k. IsRest k xs nodes) (sym longer) (rest_more n x xs nodes from)) (subst (λ k. IsRest k rest winners) (sym longer) (rest_more n s rest winners behind))
        (omega (arith, e)) (omega (arith, l, longer)) (omega (arith, high, longer)))
        (cases_lt n end)

    pub none_refused : (hidden : List Bool) → AreHidden nodes texts sheets hidden → (end m : ℕ) (q : Refused) → NoneRefusedTo refused hidden end → m < end → slice_get refused m ≡ Some (Some q) → IsNotShown nodes texts sheets m
    none_refused hidden k end m q none l at = by_value (get_or hidden m false) refl
      where
        by_value : (b : Bool) → get_or hidden m false ≡ b → IsNotShown nodes texts sheets m
        by_value true e = hidden_at nodes texts sheets hidden k m e
        by_value false e = absurd (none m q l (at, e))

    pub goes_on_all : ((m : ℕ) (q : Refused) → slice_get refused m ≡ Some (Some q) → IsNotShown nodes texts sheets m) → GoesBeside nodes texts sheets rulesets [] nodes (Ok winners)
    goes_on_all none = goes_all [] winners nodes (rest_whole nodes) (rest_whole winners) h.one_list_each refl none

    pub goes_to : (end : ℕ) (r : Refused) (hidden : List Bool) → AreHidden nodes texts sheets hidden → IsRefusedAt refused hidden end r → NoneRefusedTo refused hidden end → GoesBeside nodes texts sheets rulesets [] nodes (Err (value_at end r.prop r.source))
    goes_to end r hidden k at none =
        let within = slice_get_within refused end (Some r) at.0 in
        let e = h.one_each in
        goes_refused end r at.0 (shown_at nodes texts sheets hidden k end (omega arith) at.1) (λ m q l f. none_refused hidden k end m q none l f) [] winners nodes (rest_whole nodes) (rest_whole winners) h.one_list_each (omega arith) (omega arith)
