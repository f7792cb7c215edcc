-- What a loop over a list has made so far, and then the rest of the answer.
use Rattle.std.proofs.Common.{◌≡◌, ℕ, ◌+◌, ◌<◌, ◌≤◌, List, [], ◌∷◌, ◌++◌, length, get_or, drop, Option, Some, None, option_map, option_and_then, Result, Ok, Err, refl, sym, ap, ◌∙◌, arith, append_assoc, append-nil, length-append}
use Rattle.std.proofs.lemmas.Grind.{common_steps}
use Rattle.std.specs.Prelude.{map, String, string_bytes}
use Rattle.std.specs.declared.alloc.Global.{Global}
use Rattle.serde_json.specs.declared.value.Value.{Value}
use Rattle.serde_json.specs.Data.{Data}
use Rattle.serde_json.specs.View.{view, members_view}
use Rattle.viz_base.specs.declared.raw_jobs.Part.{Part}
use Rattle.page_json.specs.Faults.{shaped_at}
use Rattle.page_json.specs.declared.faults.JobFault.TheVariants.{Shape}
use Rattle.page_json.specs.Values.{all_of, all_or_first, each_of, members_in}
use Rattle.viz_base.proofs.ListLemmas.{drop_at}

abbrev pub with_front : {A : Type 0} → List A → Option (List A) → Option (List A)
with_front front rest = option_map (λ ys. front ++ ys) rest

abbrev pub after : {A : Type 0} → List A → Result (List A) ℕ → Result (List A) ℕ
after front (Ok ys) = Ok (front ++ ys)
after front (Err place) = Err place

front_one : {B : Type 0} (front : List B) (y : B) (rest : Option (List B)) → with_front (front ++ (y ∷ [])) rest ≡ with_front front (option_map (λ ys. y ∷ ys) rest)
front_one front y None = refl
front_one front y (Some ys) = ap Some (append_assoc front (y ∷ []) ys)

after_one : {B : Type 0} (front : List B) (y : B) (i : ℕ) (rest : Result (List B) ℕ) → after (front ++ (y ∷ [])) rest ≡ after front (all_or_first i (Some y) rest)
after_one front y i (Ok ys) = ap Ok (append_assoc front (y ∷ []) ys)
after_one front y i (Err later) = refl

-- ---- the steps of such loops over the values of a list

pub with_more : {A B V : Type 0} (view : V → A) (read : A → Option B) (vs : List V) (i : ℕ) (v : V) (y : B) (front made : List B) (whole : Option (List B))
    → i < length vs → v ≡ get_or vs i v → read (view v) ≡ Some y → made ≡ front ++ (y ∷ [])
    → with_front front (all_of read (map view (drop i vs))) ≡ whole → with_front made (all_of read (map view (drop (i + 1) vs))) ≡ whole
with_more view read vs i v y front made whole lt is e em h =
    let from : drop i vs ≡ v ∷ drop (i + 1) vs = drop_at vs i v lt is in
    ap (λ ys. with_front ys (all_of read (map view (drop (i + 1) vs)))) em
    ∙ (front_one front y (all_of read (map view (drop (i + 1) vs)))
    ∙ (ap (λ o. with_front front (option_and_then (λ x. option_map (λ xs. x ∷ xs) (all_of read (map view (drop (i + 1) vs)))) o)) (sym e)
    ∙ (ap (λ us. with_front front (all_of read (map view us))) (sym from) ∙ h)))

pub after_more : {A B V : Type 0} (view : V → A) (read : A → Option B) (vs : List V) (i : ℕ) (v : V) (y : B) (front made : List B) (whole : Result (List B) ℕ)
    → i < length vs → v ≡ get_or vs i v → read (view v) ≡ Some y → made ≡ front ++ (y ∷ [])
    → after front (each_of read i (map view (drop i vs))) ≡ whole → after made (each_of read (i + 1) (map view (drop (i + 1) vs))) ≡ whole
after_more view read vs i v y front made whole lt is e em h =
    let from : drop i vs ≡ v ∷ drop (i + 1) vs = drop_at vs i v lt is in
    ap (λ ys. after ys (each_of read (i + 1) (map view (drop (i + 1) vs)))) em
    ∙ (after_one front y i (each_of read (i + 1) (map view (drop (i + 1) vs)))
    ∙ (ap (λ o. after front (all_or_first i o (each_of read (i + 1) (map view (drop (i + 1) vs))))) (sym e)
    ∙ (ap (λ us. after front (each_of read i (map view us))) (sym from) ∙ h)))

-- a value of which nothing is made
pub after_none : {A B V : Type 0} (view : V → A) (read : A → Option B) (vs : List V) (i : ℕ) (v : V) (front : List B) (whole : Result (List B) ℕ)
    → i < length vs → v ≡ get_or vs i v → read (view v) ≡ None → after front (each_of read i (map view (drop i vs))) ≡ whole → whole ≡ Err i
after_none view read vs i v front whole lt is e h =
    let from : drop i vs ≡ v ∷ drop (i + 1) vs = drop_at vs i v lt is in
    sym h ∙ (ap (λ us. after front (each_of read i (map view us))) from
    ∙ ap (λ o. after front (all_or_first i o (each_of read (i + 1) (map view (drop (i + 1) vs))))) e)

pub after_all : {A B V : Type 0} (view : V → A) (read : A → Option B) (vs : List V) (i : ℕ) (front : List B) (whole : Result (List B) ℕ)
    → length vs ≤ i → after front (each_of read i (map view (drop i vs))) ≡ whole → whole ≡ Ok front
after_all view read vs i front whole le h =
    let none : drop i vs ≡ [] = grind (arith, common_steps) in
    sym h ∙ (ap (λ us. after front (each_of read i (map view us))) none ∙ ap Ok (append-nil front))

-- a member, then the rest
pub members_more : {B : Type 0} (read : List ℕ × Data → Option B) (all rest : List (String Global × Value)) (name : String Global) (v : Value) (key : List ℕ) (o : Option B) (y : B) (front made : List B) (whole : Option (List B))
    → all ≡ (name, v) ∷ rest → key ≡ string_bytes name → o ≡ read (key, view v) → o ≡ Some y → made ≡ front ++ (y ∷ [])
    → with_front front (all_of read (members_in (members_view all))) ≡ whole → with_front made (all_of read (members_in (members_view rest))) ≡ whole
members_more read all rest name v key o y front made whole steps named e is em h =
    let others = all_of read (members_in (members_view rest)) in
    ap (λ ys. with_front ys others) em
    ∙ (front_one front y others
    ∙ (ap (λ a. with_front front (option_and_then (λ x. option_map (λ xs. x ∷ xs) others) a)) (sym is ∙ (e ∙ ap (λ k. read (k, view v)) named))
    ∙ (ap (λ ms. with_front front (all_of read (members_in (members_view ms)))) (sym steps) ∙ h)))

-- a member of which nothing is made
pub members_none : {B : Type 0} (read : List ℕ × Data → Option B) (all rest : List (String Global × Value)) (name : String Global) (v : Value) (key : List ℕ) (o : Option B) (front : List B) (whole : Option (List B))
    → all ≡ (name, v) ∷ rest → key ≡ string_bytes name → o ≡ read (key, view v) → o ≡ None
    → with_front front (all_of read (members_in (members_view all))) ≡ whole → None ≡ whole
members_none read all rest name v key o front whole steps named e is h =
    let others = all_of read (members_in (members_view rest)) in
    ap (λ a. with_front front (option_and_then (λ x. option_map (λ xs. x ∷ xs) others) a)) (sym is ∙ (e ∙ ap (λ k. read (k, view v)) named))
    ∙ (ap (λ ms. with_front front (all_of read (members_in (members_view ms)))) (sym steps) ∙ h)

pub length_more : {B : Type 0} (front made : List B) (y : B) (n : ℕ) → made ≡ front ++ (y ∷ []) → length front ≡ n → length made ≡ n + 1
length_more front made y n em e = omega (arith, ap length em, length-append front (y ∷ []))

-- a part of the file of which the item with this number is against a rule
pub after_shape : {B : Type 0} (part : Part) {whole : Result (List B) ℕ} {place number : ℕ} → whole ≡ Err place → number ≡ place → shaped_at part whole ≡ Err (Shape part number)
after_shape part is same = ap (shaped_at part) is ∙ ap (λ n. Err (Shape part n)) (sym same)
