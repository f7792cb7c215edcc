-- Selectors in buckets, and which of them may match an element.
use Rattle.std.proofs.Common.{◌≡◌, ◌≢◌, ℕ, ◌+◌, ◌<◌, ◌≤◌, ◌==◌, ◌⊎◌, inl, inr, zero, suc, true, List, [], ◌∷◌, ◌++◌, length, drop, get_or, set, slice_get, map, Some, refl, sym, ◌∙◌, ap, subst, arith, add-one, append_assoc}
use Rattle.std.proofs.lemmas.List.{map-append, append-nil, drop_all}
use Rattle.std.specs.Prelude.{flat_map}
use Rattle.std.specs.List.{Contains}
use Rattle.std.proofs.lemmas.Bool.Decides.{nat_tests}
use Rattle.std.proofs.lemmas.Grind.{get_or-set_at}
use Rattle.std.proofs.lemmas.List.{get_or-set_other}
use Rattle.std.proofs.lemmas.Option.{same_Some, slice_get-get_or}
use Rattle.std.proofs.lemmas.List.Elements.{Contains-append_left, Contains-append_right, Contains-push}
use Rattle.viz_base.specs.declared.nodes.Element.{Element}
use Rattle.viz_base.specs.declared.nodes.Node.{Node}
use Rattle.viz_base.proofs.ListLemmas.{in_flat_map}
use Rattle.viz_base.proofs.Truths.{by_bool}
use Rattle.css_semantics.specs.declared.claims.Ranked.{Ranked}
use Rattle.css_semantics.specs.Matching.{IsElementAt, Match}
use Rattle.css_cascade.specs.declared.buckets.Buckets.{Buckets}
use Rattle.css_cascade.specs.declared.buckets.Candidate.{Candidate}
use Rattle.css_cascade.specs.declared.trimming.Trimmed.{Trimmed}
use Rattle.css_cascade.specs.steps.Buckets.{AllStand, IsWordOfLast, Numbered, Stands, bucket_of, element_buckets, numbered, numbered_from}
use Rattle.css_cascade.specs.steps.Trimming.{rules_of}
use Rattle.css_cascade.specs.steps.Trying.{AreAll, MayMatch}
use Rattle.css_cascade.proofs.Words.{in_bucket}

-- ---- one more selector

past_end : {A : Type 0} (k : ℕ) (x : A) → slice_get [] k ≡ Some x → ⊥
past_end zero x is = cc
past_end (suc k) x is = cc

one_further : {A : Type 0} {i j : ℕ} {x y : A} {P : Type 0} → P ⊎ ((i ≡ j) × (x ≡ y)) → P ⊎ ((suc i ≡ suc j) × (x ≡ y))
one_further (inl h) = inl h
one_further (inr h) = inr (ap suc h.0, h.1)

push_cases : {A : Type 0} (xs : List A) (x : A) (i : ℕ) (y : A) → slice_get (xs ++ x ∷ []) i ≡ Some y → (slice_get xs i ≡ Some y) ⊎ ((i ≡ length xs) × (x ≡ y))
push_cases [] x zero y is = inr (refl, cc)
push_cases [] x (suc i) y is = absurd (past_end i y is)
push_cases (z ∷ xs) x zero y is = inl is
push_cases (z ∷ xs) x (suc i) y is = one_further (push_cases xs x i y is)

stands_by : (b c : Buckets) (r : Numbered) (at : ℕ) (s : Numbered) → ((i : ℕ) (t : Ranked) → Stands b i t → Stands c i t) → Stands c (length (map numbered b.candidates.items)) r.1 → AllStand b
    → (slice_get (map numbered b.candidates.items) at ≡ Some s) ⊎ ((at ≡ length (map numbered b.candidates.items)) × (r ≡ s)) → Stands c at s.1
stands_by b c r at s keeps here all (inl h) = keeps at s.1 (all at s h)
stands_by b c r at s keeps here all (inr h) = subst (λ t. Stands c at t.1) h.1 (subst (λ i. Stands c i r.1) (sym h.0) here)

stand_more : (b c : Buckets) (r : Numbered) → map numbered c.candidates.items ≡ map numbered b.candidates.items ++ r ∷ [] → ((i : ℕ) (t : Ranked) → Stands b i t → Stands c i t) → Stands c (length (map numbered b.candidates.items)) r.1 → AllStand b → AllStand c
stand_more b c r more keeps here all = λ at s is.
    stands_by b c r at s keeps here all (push_cases (map numbered b.candidates.items) r at s (subst (λ xs. slice_get xs at ≡ Some s) more is))

pub one_more : (candidates more : List Candidate) (one : Candidate) → more ≡ candidates ++ one ∷ [] → map numbered more ≡ map numbered candidates ++ numbered one ∷ []
one_more candidates more one e = ap (map numbered) e ∙ map-append numbered candidates (one ∷ [])

pub any_default : (xs : List (List ℕ)) (i : ℕ) (x y : List ℕ) → i < length xs → get_or xs i x ≡ get_or xs i y
any_default xs i x y l = same_Some (get_or xs i x) (get_or xs i y) (sym (slice_get-get_or xs i x l) ∙ slice_get-get_or xs i y l)

-- in one of the buckets one number more
abbrev put : List (List ℕ) → ℕ → ℕ → List (List ℕ)
put named k number = set named k (get_or named k [] ++ number ∷ [])

put_keeps : (named : List (List ℕ)) (k number j i : ℕ) → k < length named → Contains (get_or named j []) i → Contains (get_or (put named k number) j []) i
put_keeps named k number j i l h =
    let more = get_or named k [] ++ number ∷ [] in
    by_bool (j == k)
    (λ e. let same : j ≡ k = grind (arith, nat_tests) in
    subst (λ xs. Contains xs i) (sym (get_or-set_at named k j more [] same l)) (Contains-append_left (get_or named k []) (number ∷ []) i (subst (λ x. Contains (get_or named x []) i) same h)))
    (λ e. let other : j ≢ k = (λ same. let yes : (j == k) ≡ true = grind (arith, nat_tests) in cc) in
    subst (λ xs. Contains xs i) (sym (get_or-set_other named k j more [] other)) h)

put_has : (named : List (List ℕ)) (k number : ℕ) → k < length named → Contains (get_or (put named k number) k []) number
put_has named k number l = subst (λ xs. Contains xs number) (sym (get_or-set_at named k k (get_or named k [] ++ number ∷ []) [] refl l)) (Contains-push (get_or named k []) number)

keeps_named : (b c : Buckets) (k number : ℕ) → k < length b.named.items → c.others ≡ b.others → c.named.items ≡ put b.named.items k number → (i : ℕ) (t : Ranked) → Stands b i t → Stands c i t
keeps_named b c k number l same is i t (inl h) = inl (subst (λ xs. Contains xs i) (sym same) h)
keeps_named b c k number l same is i t (inr h) = inr (h.0, h.1, subst (λ named. Contains (get_or named (bucket_of h.0) []) i) (sym is) (put_keeps b.named.items k number (bucket_of h.0) i l h.2))

pub named_more : (b c : Buckets) (r : Numbered) (word : List ℕ) (k number : ℕ) → IsWordOfLast r.1.selector.parts word → k ≡ bucket_of word → k < length b.named.items → number ≡ length (map numbered b.candidates.items) → map numbered c.candidates.items ≡ map numbered b.candidates.items ++ r ∷ []
    → c.others ≡ b.others → c.named.items ≡ put b.named.items k number → AllStand b → AllStand c
named_more b c r word k number of_last at l counted more same is all =
    let here : Contains (get_or c.named.items (bucket_of word) []) number = subst (λ named. Contains (get_or named (bucket_of word) []) number) (sym is) (subst (λ j. Contains (get_or (put b.named.items k number) j []) number) at (put_has b.named.items k number l)) in
    stand_more b c r more (keeps_named b c k number l same is) (inr (word, of_last, subst (Contains (get_or c.named.items (bucket_of word) [])) counted here)) all

keeps_others : (b c : Buckets) (number : ℕ) → c.others ≡ b.others ++ number ∷ [] → c.named.items ≡ b.named.items → (i : ℕ) (t : Ranked) → Stands b i t → Stands c i t
keeps_others b c number is same i t (inl h) = inl (subst (λ xs. Contains xs i) (sym is) (Contains-append_left b.others (number ∷ []) i h))
keeps_others b c number is same i t (inr h) = inr (h.0, h.1, subst (λ named. Contains (get_or named (bucket_of h.0) []) i) (sym same) h.2)

pub others_more : (b c : Buckets) (r : Numbered) (number : ℕ) → number ≡ length (map numbered b.candidates.items) → map numbered c.candidates.items ≡ map numbered b.candidates.items ++ r ∷ [] → c.others ≡ b.others ++ number ∷ [] → c.named.items ≡ b.named.items → AllStand b → AllStand c
others_more b c r number counted more is same all =
    stand_more b c r more (keeps_others b c number is same) (inl (subst (Contains c.others) counted (subst (λ xs. Contains xs number) (sym is) (Contains-push b.others number)))) all

pub none_stand : (b : Buckets) → b.candidates.items ≡ [] → AllStand b
none_stand b e at r is = absurd (past_end at r (subst (λ cs. slice_get (map numbered cs) at ≡ Some r) e is))

-- ---- what may match

pub numbers_end : (f : ℕ → List ℕ) (numbers others items words : List ℕ) (k : ℕ) → length items ≤ k → numbers ++ flat_map f (drop k items) ≡ others ++ flat_map f items → items ≡ words → numbers ≡ others ++ flat_map f words
numbers_end f numbers others items words k past reached same =
    sym (append-nil numbers) ∙ ap (λ left. numbers ++ flat_map f left) (sym (drop_all k items past)) ∙ reached ∙ ap (λ ws. others ++ flat_map f ws) same

abbrev pub bucket_in : List (List ℕ) → ℕ → List ℕ
bucket_in named at = get_or named at []

pub gathered_all : (b : Buckets) (e : Element) (words numbers : List ℕ) → numbers ≡ b.others ++ flat_map (bucket_in b.named.items) words → ((at : ℕ) → Contains (element_buckets e) at → Contains words at) → (at : ℕ) → MayMatch b e at → Contains numbers at
gathered_all b e words numbers is all at (inl h) = subst (λ xs. Contains xs at) (sym is) (Contains-append_left b.others (flat_map (bucket_in b.named.items) words) at h)
gathered_all b e words numbers is all at (inr h) =
    subst (λ xs. Contains xs at) (sym is) (Contains-append_right b.others (flat_map (bucket_in b.named.items) words) at (in_flat_map (bucket_in b.named.items) words h.0 at (all h.0 h.1) h.2))

may_match : (nodes : List Node) (n : ℕ) (e : Element) (b : Buckets) (at : ℕ) (r : Ranked) → IsElementAt nodes n e → Match r.selector.parts nodes n → Stands b at r → MayMatch b e at
may_match nodes n e b at r is m (inl h) = inl h
may_match nodes n e b at r is m (inr h) = inr (bucket_of h.0, in_bucket nodes n e r.selector.parts h.0 is h.1 m, h.2)

pub are_all : (nodes : List Node) (n : ℕ) (e : Element) (b : Buckets) (numbers : List ℕ) → IsElementAt nodes n e → AllStand b → ((at : ℕ) → MayMatch b e at → Contains numbers at) → AreAll nodes n (map numbered b.candidates.items) numbers
are_all nodes n e b numbers is stand all = λ at r get m. all at (may_match nodes n e b at r.1 is m (stand at r get))

-- ---- one ruleset after another

pub group_more : (done more whole : List Numbered) (i : ℕ) (r : Ranked) (rest from : List Ranked) → from ≡ r ∷ rest → more ≡ done ++ (i, r) ∷ [] → done ++ map (λ s. (i, s)) from ≡ whole → more ++ map (λ s. (i, s)) rest ≡ whole
group_more done more whole i r rest from is added reached =
    ap (λ xs. xs ++ map (λ s. (i, s)) rest) added
    ∙ append_assoc done ((i, r) ∷ []) (map (λ s. (i, s)) rest)
    ∙ ap (λ rs. done ++ map (λ s. (i, s)) rs) (sym is)
    ∙ reached

pub group_end : (more whole : List Numbered) (i : ℕ) (group : List Ranked) (k : ℕ) → length group ≤ k → more ++ map (λ s. (i, s)) (drop k group) ≡ whole → more ≡ whole
group_end more whole i group k past reached = sym (append-nil more) ∙ ap (λ rs. more ++ map (λ s. (i, s)) rs) (sym (drop_all k group past)) ∙ reached

pub rulesets_end : (more whole : List Numbered) (i : ℕ) (rulesets : List Trimmed) → length rulesets ≤ i → more ++ numbered_from i (map rules_of (drop i rulesets)) ≡ whole → more ≡ whole
rulesets_end more whole i rulesets past reached = sym (append-nil more) ∙ ap (λ ts. more ++ numbered_from i (map rules_of ts)) (sym (drop_all i rulesets past)) ∙ reached

pub rulesets_more : (done group : List Numbered) (i : ℕ) (rulesets rest : List Trimmed) (t : Trimmed) (more whole : List Numbered) → rest ≡ t ∷ rulesets → group ≡ map (λ r. (i, r)) (rules_of t).group → more ≡ done ++ group → done ++ numbered_from i (map rules_of rest) ≡ whole → more ++ numbered_from (i + 1) (map rules_of rulesets) ≡ whole
rulesets_more done group i rulesets rest t more whole is of_t added reached =
    ap (λ j. more ++ numbered_from j (map rules_of rulesets)) (add-one i)
    ∙ ap (λ xs. xs ++ numbered_from (suc i) (map rules_of rulesets)) added
    ∙ append_assoc done group (numbered_from (suc i) (map rules_of rulesets))
    ∙ ap (λ g. done ++ (g ++ numbered_from (suc i) (map rules_of rulesets))) of_t
    ∙ ap (λ ts. done ++ numbered_from i (map rules_of ts)) (sym is)
    ∙ reached
