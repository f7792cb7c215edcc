use Rattle.std.proofs.Common.{◌≡◌, ℤ, ◌+ℤ◌, Bool, true, false, cond, List, [], ◌∷◌, ◌++◌, reverse, refl, sym, ◌∙◌, ap}
use Rattle.std.specs.Prelude.{◌||◌}
use Rattle.std.proofs.lemmas.List.{reverse-append}
use Rattle.layout_semantics.specs.InlineContent.{Item, start, finish, word, space, atomic, forced, float}
use Rattle.layout_semantics.specs.Segments.{without_leading, what_stays}
use Rattle.layout_semantics.specs.LineHeights.{InlineContext}
use Rattle.layout_semantics.specs.LineFilling.{item_width}
use Rattle.layout_semantics.specs.Fragments.{ItemPlace, set_out}
use Rattle.lay_line.specs.steps.Staying.{is_solid, is_some_left, stays, put, stand}
use Rattle.lay_line.proofs.Lasts.{any-reversed, last_where, some-where, fewer-where}
use Rattle.lay_line.proofs.Widths.{has_solid}

-- an item at the end of others, where it stays
abbrev late : Bool → Item → List Item
late solid (space at) = cond solid (space at ∷ []) []
late solid i = i ∷ []

late-all : (x : Item) → late true x ≡ x ∷ []
late-all (start at) = refl
late-all (finish at) = refl
late-all (word at text) = refl
late-all (space at) = refl
late-all (atomic at) = refl
late-all (forced at) = refl
late-all (float at) = refl

led-push : (xs : List Item) (x : Item) → without_leading (xs ++ x ∷ []) ≡ without_leading xs ++ late (has_solid xs) x
led-push [] (start at) = refl
led-push [] (finish at) = refl
led-push [] (word at text) = refl
led-push [] (space at) = refl
led-push [] (atomic at) = refl
led-push [] (forced at) = refl
led-push [] (float at) = refl
led-push (start at ∷ xs) x = ap (λ l. start at ∷ l) (led-push xs x)
led-push (finish at ∷ xs) x = ap (λ l. finish at ∷ l) (led-push xs x)
led-push (word at text ∷ xs) x = ap (λ l. word at text ∷ xs ++ l) (sym (late-all x))
led-push (space at ∷ xs) x = led-push xs x
led-push (atomic at ∷ xs) x = ap (λ l. atomic at ∷ xs ++ l) (sym (late-all x))
led-push (forced at ∷ xs) x = ap (λ l. forced at ∷ l) (led-push xs x)
led-push (float at ∷ xs) x = ap (λ l. float at ∷ l) (led-push xs x)

abbrev trimmed : List Item → List Item
trimmed items = reverse (without_leading (reverse items))

late-reversed : (b : Bool) (x : Item) → reverse (late b x) ≡ late b x
late-reversed true (space at) = refl
late-reversed false (space at) = refl
late-reversed b (start at) = refl
late-reversed b (finish at) = refl
late-reversed b (word at text) = refl
late-reversed b (atomic at) = refl
late-reversed b (forced at) = refl
late-reversed b (float at) = refl

trimmed-cons : (x : Item) (xs : List Item) → trimmed (x ∷ xs) ≡ late (has_solid xs) x ++ trimmed xs
trimmed-cons x xs =
    ap (λ l. reverse (without_leading l)) (reverse-append (x ∷ []) xs)
    ∙ (ap reverse (led-push (reverse xs) x)
    ∙ (reverse-append (without_leading (reverse xs)) (late (has_solid (reverse xs)) x)
    ∙ (ap (λ l. l ++ trimmed xs) (late-reversed (has_solid (reverse xs)) x) ∙ ap (λ b. late b x ++ trimmed xs) (any-reversed is_solid xs))))

module _ (c : InlineContext) where
  -- with what is to come looked at for each item
  abbrev placed : ℤ → Bool → List Item → List ItemPlace
  placed x begun [] = []
  placed x begun (i ∷ items) = put (record { item = i; left = x; right = x +ℤ item_width c i }) (stays begun (has_solid items) i)
      (placed x begun items) (placed (x +ℤ item_width c i) (begun || is_solid i) items)

  begun-stands : (x : ℤ) (xs : List Item) → placed x true xs ≡ set_out c x (trimmed xs)
  begun-stands x [] = refl
  begun-stands x (space at ∷ xs) = by (has_solid xs) (begun-stands x xs) (begun-stands (x +ℤ item_width c (space at)) xs) ∙ ap (set_out c x) (sym (trimmed-cons (space at) xs))
    where
      by : (b : Bool) → placed x true xs ≡ set_out c x (trimmed xs) → placed (x +ℤ item_width c (space at)) true xs ≡ set_out c (x +ℤ item_width c (space at)) (trimmed xs)
          → put (record { item = space at; left = x; right = x +ℤ item_width c (space at) }) b (placed x true xs) (placed (x +ℤ item_width c (space at)) true xs) ≡ set_out c x (cond b (space at ∷ []) [] ++ trimmed xs)
      by true p q = ap (λ l. record { item = space at; left = x; right = x +ℤ item_width c (space at) } ∷ l) q
      by false p q = p
  begun-stands x (start at ∷ xs) = ap (λ l. record { item = start at; left = x; right = x +ℤ item_width c (start at) } ∷ l) (begun-stands (x +ℤ item_width c (start at)) xs) ∙ ap (set_out c x) (sym (trimmed-cons (start at) xs))
  begun-stands x (finish at ∷ xs) = ap (λ l. record { item = finish at; left = x; right = x +ℤ item_width c (finish at) } ∷ l) (begun-stands (x +ℤ item_width c (finish at)) xs) ∙ ap (set_out c x) (sym (trimmed-cons (finish at) xs))
  begun-stands x (word at text ∷ xs) = ap (λ l. record { item = word at text; left = x; right = x +ℤ item_width c (word at text) } ∷ l) (begun-stands (x +ℤ item_width c (word at text)) xs) ∙ ap (set_out c x) (sym (trimmed-cons (word at text) xs))
  begun-stands x (atomic at ∷ xs) = ap (λ l. record { item = atomic at; left = x; right = x +ℤ item_width c (atomic at) } ∷ l) (begun-stands (x +ℤ item_width c (atomic at)) xs) ∙ ap (set_out c x) (sym (trimmed-cons (atomic at) xs))
  begun-stands x (forced at ∷ xs) = ap (λ l. record { item = forced at; left = x; right = x +ℤ item_width c (forced at) } ∷ l) (begun-stands (x +ℤ item_width c (forced at)) xs) ∙ ap (set_out c x) (sym (trimmed-cons (forced at) xs))
  begun-stands x (float at ∷ xs) = ap (λ l. record { item = float at; left = x; right = x +ℤ item_width c (float at) } ∷ l) (begun-stands (x +ℤ item_width c (float at)) xs) ∙ ap (set_out c x) (sym (trimmed-cons (float at) xs))

  placed-same : (x : ℤ) (xs : List Item) → placed x false xs ≡ set_out c x (what_stays xs)
  placed-same x [] = refl
  placed-same x (space at ∷ xs) = placed-same x xs
  placed-same x (word at text ∷ xs) = begun-stands x (word at text ∷ xs)
  placed-same x (atomic at ∷ xs) = begun-stands x (atomic at ∷ xs)
  placed-same x (start at ∷ xs) = ap (λ l. record { item = start at; left = x; right = x +ℤ item_width c (start at) } ∷ l) (placed-same (x +ℤ item_width c (start at)) xs) ∙ ap (set_out c x) (sym (trimmed-cons (start at) (without_leading xs)))
  placed-same x (finish at ∷ xs) = ap (λ l. record { item = finish at; left = x; right = x +ℤ item_width c (finish at) } ∷ l) (placed-same (x +ℤ item_width c (finish at)) xs) ∙ ap (set_out c x) (sym (trimmed-cons (finish at) (without_leading xs)))
  placed-same x (forced at ∷ xs) = ap (λ l. record { item = forced at; left = x; right = x +ℤ item_width c (forced at) } ∷ l) (placed-same (x +ℤ item_width c (forced at)) xs) ∙ ap (set_out c x) (sym (trimmed-cons (forced at) (without_leading xs)))
  placed-same x (float at ∷ xs) = ap (λ l. record { item = float at; left = x; right = x +ℤ item_width c (float at) } ∷ l) (placed-same (x +ℤ item_width c (float at)) xs) ∙ ap (set_out c x) (sym (trimmed-cons (float at) (without_leading xs)))

  counted : (x : ℤ) (begun : Bool) (xs : List Item) → stand c x begun (last_where is_solid xs) xs ≡ placed x begun xs
  counted x begun [] = refl
  counted x begun (i ∷ xs) =
      ap (λ n. one (stays begun (is_some_left n) i) (stand c x begun n xs) (stand c (x +ℤ item_width c i) (begun || is_solid i) n xs)) (fewer-where is_solid i xs)
      ∙ (ap (λ b. one (stays begun b i) (stand c x begun (last_where is_solid xs) xs) (stand c (x +ℤ item_width c i) (begun || is_solid i) (last_where is_solid xs) xs)) (some-where is_solid xs)
      ∙ (ap (λ l. one (stays begun (has_solid xs) i) l (stand c (x +ℤ item_width c i) (begun || is_solid i) (last_where is_solid xs) xs)) (counted x begun xs)
      ∙ ap (one (stays begun (has_solid xs) i) (placed x begun xs)) (counted (x +ℤ item_width c i) (begun || is_solid i) xs)))
    where
      one : Bool → List ItemPlace → List ItemPlace → List ItemPlace
      one b without rest = put (record { item = i; left = x; right = x +ℤ item_width c i }) b without rest

  -- the places of what stays are those of one pass
  pub stand-same : (x : ℤ) (xs : List Item) → stand c x false (last_where is_solid xs) xs ≡ set_out c x (what_stays xs)
  stand-same x xs = counted x false xs ∙ placed-same x xs
