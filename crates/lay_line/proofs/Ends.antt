use Rattle.std.proofs.Common.{◌≡◌, ℕ, zero, suc, Bool, true, false, not, cond, nat_le, List, [], ◌∷◌, ◌++◌, length, drop, Option, Some, None, refl, sym, ◌∙◌, ap, arith}
use Rattle.std.specs.Prelude.{◌&&◌, ◌||◌}
use Rattle.std.specs.Option.{option_map_or}
use Rattle.std.specs.List.{list_any, list_all, last_or}
use Rattle.layout_semantics.specs.InlineContent.{Item}
use Rattle.layout_semantics.specs.Segments.{is_end, stays_open, closed_run, is_after_last_end, is_after_its_ends}
use Rattle.lay_line.proofs.Lasts.{last_where}
use Rattle.lay_line.specs.steps.Cutting.{leading_ends, one_less, is_here}

abbrev pub last_end : List Item → ℕ
last_end run = last_where is_end run

-- ---- the place of a break is the one where the test of it holds

abbrev Begins : List Item → List Item → Type 0
Begins [] ys = Unit {0}
Begins (x ∷ xs) [] = ⊥
Begins (x ∷ xs) (y ∷ ys) = (x ≡ y) × Begins xs ys

pub closed-begins : (run : List Item) → Begins (closed_run run) run
closed-begins [] = tt
closed-begins (i ∷ run) = by (stays_open i run) (closed-begins run)
  where
    by : (b : Bool) → Begins (closed_run run) run → Begins (cond b [] (i ∷ closed_run run)) (i ∷ run)
    by true e = tt
    by false e = (refl, e)

-- numbers, in a form that computes
abbrev pub same : ℕ → ℕ → Bool
same zero zero = true
same zero (suc n) = false
same (suc m) zero = false
same (suc m) (suc n) = same m n

abbrev within : ℕ → ℕ → Bool
within zero n = true
within (suc m) zero = false
within (suc m) (suc n) = within m n

within-said : (m n : ℕ) → nat_le m n ≡ within m n
within-said zero n = by (nat_le 0 n) refl
  where
    by : (b : Bool) → nat_le 0 n ≡ b → b ≡ true
    by true e = refl
    by false e = absurd (grind arith)
within-said (suc m) zero = by (nat_le (suc m) 0) refl
  where
    by : (b : Bool) → nat_le (suc m) 0 ≡ b → b ≡ false
    by true e = absurd (grind arith)
    by false e = refl
within-said (suc m) (suc n) = by (nat_le (suc m) (suc n)) (nat_le m n) refl refl ∙ within-said m n
  where
    by : (a b : Bool) → nat_le (suc m) (suc n) ≡ a → nat_le m n ≡ b → a ≡ b
    by true true p q = refl
    by true false p q = absurd (grind arith)
    by false true p q = absurd (grind arith)
    by false false p q = refl

none-last : (run : List Item) → same 0 (last_end run) ≡ not (list_any is_end run)
none-last [] = refl
none-last (i ∷ run) = by (is_end i || list_any is_end run)
  where
    by : (b : Bool) → same 0 (cond b (suc (last_end run)) 0) ≡ not b
    by true = refl
    by false = refl

abbrev is_last : List Item → List Item → Bool
is_last since run = within (length since) (length run) && option_map_or is_end (last_or None since) true && not (list_any is_end (drop (length since) run))

last-same : (since run more : List Item) → Begins run (since ++ more) → is_last since run ≡ same (length since) (last_end run)
last-same [] run more b = sym (none-last run)
last-same (i ∷ since) [] more b = refl
last-same (i ∷ []) (j ∷ run) more b = ap (λ (k : Item). is_end k && not (list_any is_end run)) (sym b.0) ∙ by (is_end j) (list_any is_end run) (none-last run)
  where
    by : (e a : Bool) → same 0 (last_end run) ≡ not a → (e && not a) ≡ same 1 (cond (e || a) (suc (last_end run)) 0)
    by true a n = sym n
    by false true n = sym n
    by false false n = refl
last-same (i ∷ k ∷ since) (j ∷ run) more b = last-same (k ∷ since) run more b.1 ∙ by (is_end j) (list_any is_end run) (none-last run)
  where
    zero_of : (m : ℕ) → same 0 m ≡ true → same (suc (length since)) m ≡ false
    zero_of zero n = refl
    zero_of (suc m) n = absurd (cc)

    by : (e a : Bool) → same 0 (last_end run) ≡ not a → same (suc (length since)) (last_end run) ≡ same (suc (suc (length since))) (cond (e || a) (suc (last_end run)) 0)
    by true a n = refl
    by false true n = refl
    by false false n = zero_of (last_end run) n

pub last-said : (since run more : List Item) → Begins run (since ++ more) → is_after_last_end since run ≡ same (length since) (last_end run)
last-said since run more b = ap (λ t. t && option_map_or is_end (last_or None since) true && not (list_any is_end (drop (length since) run))) (within-said (length since) (length run)) ∙ last-same since run more b

pub leading-same : (since : List Item) (j : Item) (after : List Item) → is_after_its_ends since (j ∷ after) ≡ same (length since) (leading_ends (since ++ j ∷ after))
leading-same [] j after = by (is_end j)
  where
    by : (e : Bool) → not e ≡ same 0 (cond e (suc (leading_ends after)) 0)
    by true = refl
    by false = refl
leading-same (i ∷ since) j after = by (is_end i) (leading-same since j after)
  where
    by : (e : Bool) → (list_all is_end since && not (is_end j)) ≡ same (length since) (leading_ends (since ++ j ∷ after))
        → ((e && list_all is_end since) && not (is_end j)) ≡ same (suc (length since)) (cond e (suc (leading_ends (since ++ j ∷ after))) 0)
    by true p = p
    by false p = refl

-- ---- what the pass carries

abbrev pub less : ℕ → Option ℕ → Option ℕ
less zero left = left
less (suc n) left = one_less (less n left)

pub here-none : (n : ℕ) → less n None ≡ None
here-none zero = refl
here-none (suc n) = ap one_less (here-none n)

less-inner : (n : ℕ) (left : Option ℕ) → less n (one_less left) ≡ one_less (less n left)
less-inner zero left = refl
less-inner (suc n) left = ap one_less (less-inner n left)

pub here-some : (n k : ℕ) → is_here (less n (Some k)) ≡ same n k
here-some zero zero = refl
here-some zero (suc k) = refl
here-some (suc n) zero = ap is_here (sym (less-inner n (Some 0)) ∙ here-none n)
here-some (suc n) (suc k) = ap is_here (sym (less-inner n (Some (suc k)))) ∙ here-some n k
