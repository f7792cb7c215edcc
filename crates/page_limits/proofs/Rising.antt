-- What is in a box makes the flow go on by its lines, or by its children.
use Rattle.std.proofs.Common.{◌≡◌, ℕ, zero, suc, ◌+◌, ◌*◌, ◌<◌, ◌≤◌, Bool, true, false, List, [], ◌∷◌, length, refl, ◌∙◌, ap, arith}
use Rattle.std.specs.List.{AllByRecursion}
use Rattle.viz_base.specs.declared.trees.BoxTree.{BoxTree}
use Rattle.layout_semantics.specs.FlowBoxes.{flow_children}
use Rattle.layout_semantics.specs.InlineContent.{is_floated_at, has_line, content}
use Rattle.layout_laws.proofs.Levels.{IsFrom, All-implied}
use Rattle.layout_laws.proofs.LeadLevels.{children-from}
use Rattle.page_limits.specs.Bounds.{Bounds, grown, all_around, together}
use Rattle.page_limits.specs.Inline.{charge}
use Rattle.page_limits.specs.Rises.{kid_rise, content_rise_to, content_rise}

together-same : {A : Type 0} (f g : A → Bounds) (xs : List A) → AllByRecursion (λ x. f x ≡ g x) xs → together f xs ≡ together g xs
together-same f g [] a = refl
together-same f g (x ∷ xs) a = ap (λ (b : Bounds). grown b (together f xs)) a.0 ∙ ap (grown (g x)) (together-same f g xs a.1)

module _ (tree : BoxTree) (own turned : ℕ → Bounds) (s : ℕ) where
  abbrev rise_to : ℕ → ℕ → Bounds
  rise_to n b = content_rise_to tree own turned s n b

  kid-same : (inside other : ℕ → Bounds) (k : ℕ) → inside k ≡ other k → kid_rise tree own turned s inside k ≡ kid_rise tree own turned s other k
  kid-same inside other k e = ap (λ (b : Bounds). grown (all_around (32 * (s + 1))) (elim (is_floated_at tree k) as (λ _. Bounds) [ true ↦ own k | false ↦ b ])) e

  rises-enough : (n m b : ℕ) → b < length tree.boxes → length tree.boxes ≤ n + b → length tree.boxes ≤ m + b → rise_to n b ≡ rise_to m b
  unfolding content_rise_to
  rises-enough zero m b l ln lm = absurd (omega arith)
  rises-enough (suc n) zero b l ln lm = absurd (omega arith)
  rises-enough (suc n) (suc m) b l ln lm =
      ap (λ (r : Bounds). elim (has_line tree b) as (λ _. Bounds) [ true ↦ together (charge own turned s) (content tree b) | false ↦ r ])
      (together-same (kid_rise tree own turned s (rise_to n)) (kid_rise tree own turned s (rise_to m)) (flow_children tree b)
      (All-implied (IsFrom tree.boxes (suc b)) (λ k. kid_rise tree own turned s (rise_to n) k ≡ kid_rise tree own turned s (rise_to m) k) (flow_children tree b)
      (λ k f. let from = f.from in kid-same (rise_to n) (rise_to m) k (rises-enough n m k f.within (omega arith) (omega arith))) (children-from tree b)))

  lines-at : (n b : ℕ) → b < length tree.boxes → length tree.boxes ≤ n + b → has_line tree b ≡ true → rise_to n b ≡ together (charge own turned s) (content tree b)
  unfolding content_rise_to
  lines-at zero b l ln e = absurd (omega arith)
  lines-at (suc n) b l ln e = ap (λ (t : Bool). elim t as (λ _. Bounds) [ true ↦ together (charge own turned s) (content tree b) | false ↦ together (kid_rise tree own turned s (rise_to n)) (flow_children tree b) ]) e

  kids-at : (n b : ℕ) → b < length tree.boxes → length tree.boxes ≤ n + b → has_line tree b ≡ false → rise_to n b ≡ together (kid_rise tree own turned s (content_rise tree own turned s)) (flow_children tree b)
  unfolding content_rise_to
  kids-at zero b l ln e = absurd (omega arith)
  kids-at (suc n) b l ln e =
      ap (λ (t : Bool). elim t as (λ _. Bounds) [ true ↦ together (charge own turned s) (content tree b) | false ↦ together (kid_rise tree own turned s (rise_to n)) (flow_children tree b) ]) e
      ∙ (together-same (kid_rise tree own turned s (rise_to n)) (kid_rise tree own turned s (content_rise tree own turned s)) (flow_children tree b)
      (All-implied (IsFrom tree.boxes (suc b)) (λ k. kid_rise tree own turned s (rise_to n) k ≡ kid_rise tree own turned s (content_rise tree own turned s) k) (flow_children tree b)
      (λ k f. let from = f.from in kid-same (rise_to n) (content_rise tree own turned s) k (rises-enough n (length tree.boxes) k f.within (omega arith) (omega arith))) (children-from tree b)))

  pub rise-of-lines : (b : ℕ) → b < length tree.boxes → has_line tree b ≡ true → content_rise tree own turned s b ≡ together (charge own turned s) (content tree b)
  rise-of-lines b l e = lines-at (length tree.boxes) b l (omega arith) e

  pub rise-of-kids : (b : ℕ) → b < length tree.boxes → has_line tree b ≡ false → content_rise tree own turned s b ≡ together (kid_rise tree own turned s (content_rise tree own turned s)) (flow_children tree b)
  rise-of-kids b l e = kids-at (length tree.boxes) b l (omega arith) e

  pub rise-float : (k : ℕ) → is_floated_at tree k ≡ true → kid_rise tree own turned s (content_rise tree own turned s) k ≡ grown (all_around (32 * (s + 1))) (own k)
  rise-float k e = ap (λ (t : Bool). grown (all_around (32 * (s + 1))) (elim t as (λ _. Bounds) [ true ↦ own k | false ↦ content_rise tree own turned s k ])) e

  pub rise-box : (k : ℕ) → is_floated_at tree k ≡ false → kid_rise tree own turned s (content_rise tree own turned s) k ≡ grown (all_around (32 * (s + 1))) (content_rise tree own turned s k)
  rise-box k e = ap (λ (t : Bool). grown (all_around (32 * (s + 1))) (elim t as (λ _. Bounds) [ true ↦ own k | false ↦ content_rise tree own turned s k ])) e
