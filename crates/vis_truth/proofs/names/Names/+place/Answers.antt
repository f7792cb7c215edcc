use Rattle.std.proofs.Common.{◌≡◌, refl, ℕ, zero, suc, ◌-◌, ◌∷◌, List, slice_get, ap, sym, ◌∙◌, arith}
use Rattle.vis_truth.specs.Names.{places_of}
use Rattle.vis_truth.proofs.Witnesses.{places-Inner}
use Rattle.vis_truth.proofs.names.Names.+place.Goals as goal

slice_get-later : (p : ℕ) (ps : List ℕ) (n : ℕ) → (n ≡ 0 → ⊥) → slice_get ps (n - 1) ≡ slice_get (p ∷ ps) n
slice_get-later p ps zero h = absurd (h refl)
slice_get-later p ps (suc n) h = let less : suc n - 1 ≡ n = omega arith in ap (slice_get ps) less

pub returns-else-name-eq0 : goal.returns-else-name-eq0
returns-else-name-eq0 t c =
    c.place.ensures
    ∙ slice_get-later c.in-Inner.place (places_of c.in-Inner.outer.now) c.args.name c.if-name-eq0.false
    ∙ rw c.in-Inner.is (ap (λ ps. slice_get ps c.args.name) (sym (places-Inner c.in-Inner.place c.in-Inner.outer)))
