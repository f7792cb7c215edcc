-- What a line adds to a list.
use Rattle.std.proofs.Common.{◌≡◌, ◌≢◌, ◌∙◌, ℕ, ◌+◌, ◌≤◌, Bool, true, false, List, [], ◌∷◌, ◌++◌, length, take, drop, Some, None, Result, Ok, Err, refl, sym, ap, subst}
use Rattle.std.specs.Prelude.{◌-◌, MatchResult, nat_le}
use Rattle.std.proofs.lemmas.List.{length-drop}
use Rattle.std.specs.List.{position}
use Rattle.std.specs.Str.{IsUtf8, is_utf8}
use Rattle.std.proofs.lemmas.Bool.{and_from, and_right, le-leb}
use Rattle.std.proofs.lemmas.Str.{IsUtf8-from_is_utf8, is_utf8-from_IsUtf8}
use Rattle.viz_tables.specs.declared.rules.Rule.{Rule}
use Rattle.viz_tables.specs.declared.faults.ListFault.{ListFault}
use Rattle.viz_tables.specs.declared.faults.ListFault.TheVariants.{Form, Mem}
use Rattle.viz_tables.specs.Lists.{IsListOf, Reads, is_feed, is_formula, next_rule}

-- ---- formulas

pub taken : (bytes : List ℕ) → length bytes ≤ 16384 → IsUtf8 bytes → is_formula bytes ≡ true
taken bytes short text = and_from (nat_le (length bytes) 16384) (is_utf8 bytes) (le-leb (length bytes) 16384 short) (is_utf8-from_IsUtf8 bytes text)

pub untaken : (bytes : List ℕ) → (IsUtf8 bytes → ⊥) → is_formula bytes ≡ false
untaken bytes other = and_right (nat_le (length bytes) 16384) (is_utf8 bytes) (by_test (is_utf8 bytes) refl)
  where
    by_test : (b : Bool) → is_utf8 bytes ≡ b → b ≡ false
    by_test true is = absurd (other (IsUtf8-from_is_utf8 bytes is))
    by_test false is = refl

-- ---- lines

abbrev Leads : List Rule → List ℕ → List ℕ → Type 0
Leads rules rest bytes = (answer : Result (List Rule) ℕ) → Reads rules rest answer → Reads [] bytes answer

module _ (bytes rest line : List ℕ) (rules : List Rule) (at : ℕ) (before : Leads rules rest bytes) (feed : position is_feed rest ≡ Some at) (same : line ≡ take at rest) where
  pub one_more : (rule : Rule) (after : List Rule) (behind : List ℕ) → next_rule rules line ≡ Some rule → after ≡ rules ++ rule ∷ [] → behind ≡ drop (at + 1) rest → Leads after behind bytes
  one_more rule after behind is pushed cut answer h =
      before answer (Reads.more feed (ap (next_rule rules) (sym same) ∙ is) (subst (λ rs. Reads rs (drop (at + 1) rest) answer) pushed (subst (λ bs. Reads after bs answer) cut h)))

  pub one_broken : next_rule rules line ≡ None → Reads [] bytes (Err (length rules))
  one_broken is = before (Err (length rules)) (Reads.broken feed (ap (next_rule rules) (sym same) ∙ is))

-- what is left of a list behind a place
whole : (xs : List ℕ) → take (length xs) xs ≡ xs
whole [] = refl
whole (x ∷ xs) = ap (λ ys. x ∷ ys) (whole xs)

all_of : (n : ℕ) (xs : List ℕ) → n ≡ length xs → take n xs ≡ xs
all_of n xs e = ap (λ (m : ℕ). take m xs) e ∙ whole xs

pub left_behind : (n : ℕ) (xs : List ℕ) → take (length xs - n) (drop n xs) ≡ drop n xs
left_behind n xs = all_of (length xs - n) (drop n xs) (sym (length-drop n xs))

-- ---- ends

abbrev Ends : List ℕ → List Rule → Result (List Rule) ListFault → Type 0
Ends rest rules r = MatchResult r (λ all. (all ≡ rules) × (rest ≡ []) × (rules ≢ [])) (λ fault. (fault ≡ Form (length rules)) × (rest ≡ [] → rules ≡ []))

abbrev IsRead : List ℕ → Result (List Rule) ListFault → Type 0
IsRead bytes r = MatchResult r (λ rules. IsListOf bytes (Ok rules)) (λ fault. fault ≢ Mem → (line : ℕ) × IsListOf bytes (Err line) × (fault ≡ Form line))

pub read_by : (bytes rest : List ℕ) (rules : List Rule) (r : Result (List Rule) ListFault) → Leads rules rest bytes → position is_feed rest ≡ None → Ends rest rules r → IsRead bytes r
read_by bytes rest rules (Ok all) before feed h =
    subst (λ rs. Reads [] bytes (Ok rs)) (sym h.0) (before (Ok rules) (subst (λ bs. Reads rules bs (Ok rules)) (sym h.1) (Reads.ended h.2)))
read_by bytes rest rules (Err fault) before feed h = λ other. (length rules, before (Err (length rules)) (Reads.unended feed h.1), h.0)
