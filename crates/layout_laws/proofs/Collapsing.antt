-- White space that stays when it collapses.
use Rattle.std.proofs.Common.{◌≡◌, ℕ, zero, suc, ◌+◌, Bool, true, false, not, List, [], ◌∷◌, ◌++◌, flat_map, zip, Some, slice_get, refl, sym, ◌∙◌, ap, if◌then◌else◌, add-one}
use Rattle.std.specs.Prelude.{⊤}
use Rattle.std.proofs.lemmas.Bool.{false_from_ne_true}
use Rattle.layout_semantics.specs.WhiteSpace.{Thing, collapsed_things, keeps_white, stays, is_white}
use Rattle.layout_laws.specs.Spaces.{is_space, others}

-- white space stands only after what keeps it
abbrev pub Spaced : Thing → List Thing → Type 0
Spaced before [] = ⊤
Spaced before (a ∷ rest) = (is_space a ≡ true → keeps_white before ≡ true) × Spaced a rest

-- what stays of things, where `before` comes before them
abbrev after : Thing → List Thing → List Thing
after before things = flat_map (λ (pair : Thing × Thing). stays pair.0 pair.1) (zip (before ∷ things) things)

white_keeps_none : (node c : ℕ) → is_white c ≡ true → keeps_white (Thing.letter node c) ≡ true → ⊥
white_keeps_none node c w k = let n : keeps_white (Thing.letter node c) ≡ false = ap not w in cc

spaced_after : (last before : Thing) (things : List Thing) → (keeps_white before ≡ true → keeps_white last ≡ true) → Spaced last (after before things)
spaced_after last before [] h = tt
spaced_after last before (Thing.atom ∷ things) h = ((λ e. absurd (cc)), spaced_after Thing.atom Thing.atom things (λ e. e))
spaced_after last before (Thing.edge ∷ things) h = ((λ e. absurd (cc)), spaced_after Thing.edge Thing.edge things (λ e. e))
spaced_after last before (Thing.letter node c ∷ things) h =
    by_white (is_white c) refl (keeps_white before) refl
    (spaced_after (Thing.letter node c) (Thing.letter node c) things (λ e. e))
    (λ w. spaced_after (Thing.letter node 32) (Thing.letter node c) things (λ e. absurd (white_keeps_none node c w e)))
    (λ w. spaced_after last (Thing.letter node c) things (λ e. absurd (white_keeps_none node c w e)))
  where
    by_white : (w : Bool) → is_white c ≡ w → (k : Bool) → keeps_white before ≡ k
        → Spaced (Thing.letter node c) (after (Thing.letter node c) things) → (is_white c ≡ true → Spaced (Thing.letter node 32) (after (Thing.letter node c) things)) → (is_white c ≡ true → Spaced last (after (Thing.letter node c) things))
        → Spaced last ((if not w then Thing.letter node c ∷ [] else (if k then Thing.letter node 32 ∷ [] else [])) ++ after (Thing.letter node c) things)
    by_white false w k e plain kept gone = ((λ s. absurd (cc)), plain)
    by_white true w true e plain kept gone = ((λ s. h e), kept w)
    by_white true w false e plain kept gone = gone w

spaced : (things : List Thing) → Spaced Thing.edge (collapsed_things things)
spaced things = spaced_after Thing.edge Thing.edge things (λ e. e)

first_spaced : (before a : Thing) (rest : List Thing) → Spaced before rest → slice_get rest 0 ≡ Some a → is_space a ≡ true → keeps_white before ≡ true
first_spaced before a [] s e w = absurd (cc)
first_spaced before a (b ∷ bs) s e w = let same : b ≡ a = cc in s.0 (ap is_space same ∙ w)

pub next_spaced : (before : Thing) (rest : List Thing) (at : ℕ) (a b : Thing) → Spaced before rest → slice_get rest at ≡ Some a → slice_get rest (suc at) ≡ Some b → is_space b ≡ true → keeps_white a ≡ true
next_spaced before [] at a b s e f w = absurd (cc)
next_spaced before (c ∷ rest) zero a b s e f w = let same : c ≡ a = cc in ap keeps_white (sym same) ∙ first_spaced c b rest s.1 f w
next_spaced before (c ∷ rest) (suc at) a b s e f w = next_spaced c rest at a b s.1 e f w

pub first_is_none : (things : List Thing) (a : Thing) → slice_get (collapsed_things things) 0 ≡ Some a → is_space a ≡ false
first_is_none things a e = false_from_ne_true (is_space a) (λ w. let k : keeps_white Thing.edge ≡ true = first_spaced Thing.edge a (collapsed_things things) (spaced things) e w in absurd (cc))

pub next_is_kept : (things : List Thing) (at : ℕ) (a b : Thing) → slice_get (collapsed_things things) at ≡ Some a → slice_get (collapsed_things things) (at + 1) ≡ Some b → is_space b ≡ true → keeps_white a ≡ true
next_is_kept things at a b e f w = next_spaced Thing.edge (collapsed_things things) at a b (spaced things) e (ap (slice_get (collapsed_things things)) (sym (add-one at)) ∙ f) w

-- ---- the others

others_after : (before : Thing) (things : List Thing) → others (after before things) ≡ others things
others_after before [] = refl
others_after before (Thing.atom ∷ things) = ap (λ (l : List Thing). Thing.atom ∷ l) (others_after Thing.atom things)
others_after before (Thing.edge ∷ things) = ap (λ (l : List Thing). Thing.edge ∷ l) (others_after Thing.edge things)
others_after before (Thing.letter node c ∷ things) = by_white (is_white c) refl (keeps_white before) (others_after (Thing.letter node c) things)
  where
    by_white : (w : Bool) → is_white c ≡ w → (k : Bool) → others (after (Thing.letter node c) things) ≡ others things
        → others ((if not w then Thing.letter node c ∷ [] else (if k then Thing.letter node 32 ∷ [] else [])) ++ after (Thing.letter node c) things) ≡ (if not w then Thing.letter node c ∷ others things else others things)
    by_white false w k e = ap (λ b. if not b then Thing.letter node c ∷ others (after (Thing.letter node c) things) else others (after (Thing.letter node c) things)) w ∙ ap (λ (l : List Thing). Thing.letter node c ∷ l) e
    by_white true w true e = e
    by_white true w false e = e

pub others_stay : (things : List Thing) → others (collapsed_things things) ≡ others things
others_stay things = others_after Thing.edge things
