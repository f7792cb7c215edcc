-- A page grows in one way under its sheets, or is refused in one way.
use Rattle.std.proofs.Common.{◌≡◌, ℕ, ◌+◌, List, Result, Ok, Err, sym, ◌∙◌, ap, subst}
use Rattle.std.specs.Prelude.{slice_range}
use Rattle.std.proofs.lemmas.Option.{same_Some}
use Rattle.viz_base.specs.declared.nodes.Node.{Node}
use Rattle.viz_base.specs.declared.selectors.Pseudo.{Pseudo}
use Rattle.viz_base.specs.declared.selectors.Pseudo.TheVariants.{Before, After}
use Rattle.viz_base.specs.declared.settings.Setting.{Setting}
use Rattle.viz_base.specs.declared.settings.Source.{Source}
use Rattle.viz_base.specs.declared.sheets.Sheet.{Sheet}
use Rattle.viz_base.proofs.Sameness.{same_Ok, same_Err, no_Ok}
use Rattle.css_semantics.specs.Cascade.{Fault, IsCascade, selector_at, value_at}
use Rattle.css_semantics.specs.PseudoCascade.{IsPseudoCascade}
use Rattle.css_semantics.specs.Sources.{IsValueAt, length_of_source, place_of_source}
use Rattle.vis_read.specs.Laws.{OneAnswer as OneFormula}
use Rattle.page_pseudo.specs.Grown.{Written}
use Rattle.page_pseudo.specs.Growth.{Growth, IsGrowth}
use Rattle.page_build.specs.declared.faults.JobRefusal.{JobRefusal}
use Rattle.page_build.specs.declared.faults.JobRefusal.TheVariants.{Generated, Value}
use Rattle.page_build.specs.Jobs.{AreWinning, HasGrowth, IsRefusedPage}
use Rattle.page_build.specs.Refusals.{shown, IsTold}

one_value : {nodes : List Node} {texts : List (List ℕ)} {source : Source} {v w : List ℕ} → IsValueAt nodes texts source v → IsValueAt nodes texts source w → v ≡ w
one_value {source = source} h k =
    let start = place_of_source source in
    h.slice.is ∙ (ap (λ text. slice_range text start (start + length_of_source source)) (same_Some h.text k.text (sym h.stands ∙ k.stands)) ∙ sym k.slice.is)

one_telling : (nodes : List Node) (texts : List (List ℕ)) (v w : Fault) {a b : JobRefusal} → v ≡ w → IsTold nodes texts v a → IsTold nodes texts w b → a ≡ b
one_telling nodes texts v w {a} {b} same h k = by_fault w (subst (λ why. IsTold nodes texts why a) same h) k
  where
    by_fault : (why : Fault) → IsTold nodes texts why a → IsTold nodes texts why b → a ≡ b
    by_fault (selector_at sheet place) f g = f ∙ sym g
    by_fault (value_at node prop source) f g = f.2 ∙ (ap (λ v. Value node prop (shown v)) (one_value {source = source} f.1 g.1) ∙ sym g.2)

-- the laws of the stages: each comes to one thing at most
pub record Laws : Type 0 where
  pub cascade : (nodes : List Node) (texts : List (List ℕ)) (sheets : List Sheet) (a b : Result (List (List Setting)) Fault) → IsCascade nodes texts sheets a → IsCascade nodes texts sheets b → a ≡ b
  pub pseudo : (nodes : List Node) (texts : List (List ℕ)) (sheets : List Sheet) (which : Pseudo) (a b : Result (List (List Setting)) Fault)
      → IsPseudoCascade nodes texts sheets which a → IsPseudoCascade nodes texts sheets which b → a ≡ b
  pub growth : (w : Written) (a b : Result Growth ℕ) → IsGrowth w a → IsGrowth w b → a ≡ b
  pub formula : OneFormula

module _ (laws : Laws) (nodes : List Node) (texts : List (List ℕ)) (sheets : List Sheet) where
  abbrev Own : Result (List (List Setting)) Fault → Type 0
  Own = IsCascade nodes texts sheets

  abbrev Beside : Pseudo → Result (List (List Setting)) Fault → Type 0
  Beside = IsPseudoCascade nodes texts sheets

  -- what wins on a page whose nodes these are
  record Wins (w : Written) : Type 0 where
    own : Own (Ok w.own)
    before : Beside Before (Ok w.before)
    after : Beside After (Ok w.after)

  wins : (w : Written) → w.nodes ≡ nodes → AreWinning texts sheets w → Wins w
  wins w same h = record {
    own = subst (λ ns. IsCascade ns texts sheets (Ok w.own)) same h.own;
    before = subst (λ ns. IsPseudoCascade ns texts sheets Before (Ok w.before)) same h.before;
    after = subst (λ ns. IsPseudoCascade ns texts sheets After (Ok w.after)) same h.after;
  }

  one_written : (v w : Written) → v.nodes ≡ w.nodes → Wins v → Wins w → v ≡ w
  one_written v w same h k =
      let own = same_Ok (laws.cascade nodes texts sheets (Ok v.own) (Ok w.own) h.own k.own) in
      let before = same_Ok (laws.pseudo nodes texts sheets Before (Ok v.before) (Ok w.before) h.before k.before) in
      let after = same_Ok (laws.pseudo nodes texts sheets After (Ok v.after) (Ok w.after) h.after k.after) in
      λ i. record { nodes = same i; own = own i; before = before i; after = after i }

  pub one_growing : (a b : Result Growth ℕ) → HasGrowth nodes texts sheets a → HasGrowth nodes texts sheets b → a ≡ b
  one_growing a b h k =
      let same = one_written h.page k.page (h.written ∙ sym k.written) (wins h.page h.written h.winning) (wins k.page k.written k.winning) in
      laws.growth h.page a b h.growth (subst (λ w. IsGrowth w b) (sym same) k.growth)

  -- where a page grows nothing refuses it
  pub grown_or_refused : {g : Growth} {refusal : JobRefusal} → HasGrowth nodes texts sheets (Ok g) → IsRefusedPage nodes texts sheets refusal → ⊥
  grown_or_refused h (IsRefusedPage.own k told) = no_Ok (laws.cascade nodes texts sheets _ _ (wins h.page h.written h.winning).own k)
  grown_or_refused h (IsRefusedPage.before j k told) = no_Ok (laws.pseudo nodes texts sheets Before _ _ (wins h.page h.written h.winning).before k)
  grown_or_refused h (IsRefusedPage.after i j k told) = no_Ok (laws.pseudo nodes texts sheets After _ _ (wins h.page h.written h.winning).after k)
  grown_or_refused h (IsRefusedPage.content k) = no_Ok (one_growing _ _ h k)

  pub one_page : {a b : JobRefusal} → IsRefusedPage nodes texts sheets a → IsRefusedPage nodes texts sheets b → a ≡ b
  one_page (IsRefusedPage.own h s) (IsRefusedPage.own k t) = one_telling nodes texts _ _ (same_Err (laws.cascade nodes texts sheets _ _ h k)) s t
  one_page (IsRefusedPage.own h s) (IsRefusedPage.before j k t) = absurd (no_Ok (laws.cascade nodes texts sheets _ _ j h))
  one_page (IsRefusedPage.own h s) (IsRefusedPage.after i j k t) = absurd (no_Ok (laws.cascade nodes texts sheets _ _ i h))
  one_page (IsRefusedPage.own h s) (IsRefusedPage.content k) = absurd (no_Ok (laws.cascade nodes texts sheets _ _ (wins k.page k.written k.winning).own h))
  one_page (IsRefusedPage.before g h s) (IsRefusedPage.own k t) = absurd (no_Ok (laws.cascade nodes texts sheets _ _ g k))
  one_page (IsRefusedPage.before g h s) (IsRefusedPage.before j k t) = one_telling nodes texts _ _ (same_Err (laws.pseudo nodes texts sheets Before _ _ h k)) s t
  one_page (IsRefusedPage.before g h s) (IsRefusedPage.after i j k t) = absurd (no_Ok (laws.pseudo nodes texts sheets Before _ _ j h))
  one_page (IsRefusedPage.before g h s) (IsRefusedPage.content k) = absurd (no_Ok (laws.pseudo nodes texts sheets Before _ _ (wins k.page k.written k.winning).before h))
  one_page (IsRefusedPage.after f g h s) (IsRefusedPage.own k t) = absurd (no_Ok (laws.cascade nodes texts sheets _ _ f k))
  one_page (IsRefusedPage.after f g h s) (IsRefusedPage.before j k t) = absurd (no_Ok (laws.pseudo nodes texts sheets Before _ _ g k))
  one_page (IsRefusedPage.after f g h s) (IsRefusedPage.after i j k t) = one_telling nodes texts _ _ (same_Err (laws.pseudo nodes texts sheets After _ _ h k)) s t
  one_page (IsRefusedPage.after f g h s) (IsRefusedPage.content k) = absurd (no_Ok (laws.pseudo nodes texts sheets After _ _ (wins k.page k.written k.winning).after h))
  one_page (IsRefusedPage.content h) (IsRefusedPage.own k t) = absurd (no_Ok (laws.cascade nodes texts sheets _ _ (wins h.page h.written h.winning).own k))
  one_page (IsRefusedPage.content h) (IsRefusedPage.before j k t) = absurd (no_Ok (laws.pseudo nodes texts sheets Before _ _ (wins h.page h.written h.winning).before k))
  one_page (IsRefusedPage.content h) (IsRefusedPage.after i j k t) = absurd (no_Ok (laws.pseudo nodes texts sheets After _ _ (wins h.page h.written h.winning).after k))
  one_page (IsRefusedPage.content h) (IsRefusedPage.content k) = ap Generated (same_Err (one_growing _ _ h k))
