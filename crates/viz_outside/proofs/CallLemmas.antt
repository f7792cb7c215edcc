-- Calls that are past.
use Rattle.std.proofs.Common.{◌≡◌, ◌≤◌, ◌==◌, true, false, ℕ, List, [], ◌∷◌, Option, Some, None, Result, Ok, Err, IsOk, IsErrOf, is_some, nat_lt, ok_or, option_map, refl, sym, ◌∙◌, ap, inl, inr, arith}
use Rattle.std.specs.List.{list_all, list_any}
use Rattle.std.proofs.lemmas.Bool.Decides.{nat_tests}
use Rattle.viz_outside.specs.declared.shelf.Loaded.{Loaded}
use Rattle.viz_outside.specs.declared.shelf.ShelfFault.{ShelfFault}
use Rattle.viz_outside.specs.declared.shelf.ShelfFault.TheVariants.{Failed}
use Rattle.viz_outside.specs.Shelf.{counted, loaded_of}
use Rattle.viz_outside.specs.MemoryShelf.{ShelfState, Answers, answer_of, bytes_at, is_sure}

-- where all chosen calls are before the next, the next is none of them
pub not_next : (ns : List ℕ) (k : ℕ) → list_all (λ n. nat_lt n k) ns ≡ true → list_any (λ n. n == k) ns ≡ false
not_next [] k all = refl
not_next (n ∷ ns) k all = grind (arith, nat_tests, not_next ns k)

-- they stay before it
pub stay_before : (ns : List ℕ) (k l : ℕ) → k ≤ l → list_all (λ n. nat_lt n k) ns ≡ true → list_all (λ n. nat_lt n l) ns ≡ true
stay_before [] k l le all = refl
stay_before (n ∷ ns) k l le all = grind (arith, nat_tests, stay_before ns k l le)

-- a name that is there gives something
pub there : (found : Option (List ℕ)) (cap : ℕ) → is_some found ≡ true → IsOk (ok_or (option_map (loaded_of cap) found) Failed)
there None cap is = cc
there (Some bytes) cap is = refl

-- a call for a sure name gives something
pub sure_gives : (s : ShelfState) (name : List ℕ) (cap : ℕ) → is_sure s name ≡ true → IsOk (answer_of s name cap)
sure_gives s name cap sure =
    let all : list_all (λ n. nat_lt n s.calls) s.fails ≡ true = grind (arith, nat_tests) in
    let here : is_some (bytes_at s.files name) ≡ true = grind (arith, nat_tests) in
    rw (not_next s.fails s.calls all) (there (bytes_at s.files name) cap here)

ok_not_err : (answer : Result Loaded ShelfFault) → IsOk answer → answer ≡ Err Failed → ⊥
ok_not_err (Ok loaded) ok is = cc
ok_not_err (Err e) ok is = cc

-- so it doesn't answer that it failed
pub not_failed : (answer wanted : Result Loaded ShelfFault) → IsOk wanted → Answers answer wanted → IsErrOf answer Failed → ⊥
not_failed answer wanted gives (inl is) failed = ok_not_err wanted gives (sym is ∙ failed)
not_failed answer wanted gives (inr mem) failed = cc (mem.0, failed)

-- and counts nothing
pub not_counted : (faults : ℕ) (answer wanted : Result Loaded ShelfFault) → IsOk wanted → Answers answer wanted → counted faults answer ≡ faults
not_counted faults answer (Ok loaded) gives (inl is) = ap (counted faults) is
not_counted faults answer (Err e) gives (inl is) = cc
not_counted faults answer wanted gives (inr mem) = ap (counted faults) mem.0

-- a sure name stays sure, since the calls go on
pub stays_sure : (old new : ShelfState) (name : List ℕ) → new.files ≡ old.files → new.fails ≡ old.fails → old.calls ≤ new.calls → is_sure old name ≡ true → is_sure new name ≡ true
stays_sure old new name files fails calls sure =
    let all : list_all (λ n. nat_lt n old.calls) old.fails ≡ true = grind (arith, nat_tests) in
    let here : is_some (bytes_at old.files name) ≡ true = grind (arith, nat_tests) in
    let still = stay_before old.fails old.calls new.calls calls all in
    rw (files, fails) (rw (here, still) refl)
