-- Names read so far, and those that follow.
use Rattle.std.proofs.Common.{◌≡◌, ℕ, ◌+◌, ◌<◌, List, [], ◌∷◌, ◌++◌, length, get_or, drop, Option, Some, None, refl, ap, append_assoc, arith, sym, ◌∙◌}
use Rattle.std.proofs.lemmas.Grind.{common_steps}
use Rattle.css_semantics.specs.declared.parts.Part.{Part}
use Rattle.css_semantics.specs.Values.{with_name}
use Rattle.css_value.specs.declared.families.Before.{Before}
use Rattle.css_value.specs.Families.{names_after, names_from, with_front}

pub with_front_nil : (more : Option (List (List ℕ))) → with_front [] more ≡ more
with_front_nil None = refl
with_front_nil (Some ms) = refl

pub with_front_push : (names : List (List ℕ)) (name : List ℕ) (more : Option (List (List ℕ))) → with_front names (with_name name more) ≡ with_front (names ++ name ∷ []) more
with_front_push names name None = refl
with_front_push names name (Some ms) = ap Some (sym (append_assoc names (name ∷ []) ms))

-- past one more part
pub names_more : (parts : List Part) (i : ℕ) (part : Part) (old new : List (List ℕ)) (before : Before) (after o : Option Before) (whole : Option (List (List ℕ)))
    → i < length parts → part ≡ get_or parts i part → ((ps : List Part) → with_front old (names_from before (part ∷ ps)) ≡ names_after new o ps) → o ≡ after
    → with_front old (names_from before (drop i parts)) ≡ whole → names_after new after (drop (i + 1) parts) ≡ whole
names_more parts i part old new before after o whole lt at says is h =
    let rest = drop (i + 1) parts in
    let from : drop i parts ≡ part ∷ rest = grind (arith, common_steps) in
    ap (λ a. names_after new a rest) (sym is) ∙ (sym (says rest) ∙ (ap (λ ps. with_front old (names_from before ps)) (sym from) ∙ h))
