use Rattle.std.proofs.Common.{◌≡◌, ℤ, pos, ◌+ℤ◌, Bool, true, false, cond, List, [], ◌∷◌, ◌++◌, map, reverse, fold, refl, sym, ◌∙◌, ap, arith}
use Rattle.std.specs.List.{list_any}
use Rattle.std.proofs.lemmas.Int.{ints}
use Rattle.std.proofs.lemmas.List.{reverse-append}
use Rattle.std.proofs.lemmas.List.Sums.{fold-append}
use Rattle.layout_semantics.specs.Lengths.{total}
use Rattle.layout_semantics.specs.InlineContent.{Item, start, finish, word, space, atomic, forced, float}
use Rattle.layout_semantics.specs.Segments.{without_leading}
use Rattle.layout_semantics.specs.LineHeights.{InlineContext}
use Rattle.layout_semantics.specs.LineFilling.{item_width, width_held, joined}
use Rattle.lay_line.specs.steps.Staying.{is_solid}
use Rattle.lay_line.specs.steps.Held.{Held, nothing_held, with_item, with_items}
use Rattle.lay_line.proofs.Lasts.{any-reversed}

abbrev pub has_solid : List Item → Bool
has_solid items = list_any is_solid items

module _ (w : Item → ℤ) where
  abbrev sum : List Item → ℤ
  sum items = total (map w items)

  sum-append : (xs ys : List Item) → sum (xs ++ ys) ≡ sum xs +ℤ sum ys
  sum-append [] ys = omega (arith, ints)
  sum-append (x ∷ xs) ys = let rest = sum-append xs ys in omega (arith, ints)

  reversed-cons : (x : Item) (xs : List Item) → reverse (x ∷ xs) ≡ reverse xs ++ x ∷ []
  reversed-cons x xs = reverse-append (x ∷ []) xs

  sum-reversed : (xs : List Item) → sum (reverse xs) ≡ sum xs
  sum-reversed [] = refl
  sum-reversed (x ∷ xs) = let rest = sum-reversed xs in let push = sum-append (reverse xs) (x ∷ []) in ap sum (reversed-cons x xs) ∙ omega (arith, ints)

  -- what an item takes at the end of others
  abbrev late : Bool → Item → ℤ
  late solid (space at) = cond solid (w (space at)) (pos 0)
  late solid i = w i

  led-push : (xs : List Item) (x : Item) → sum (without_leading (xs ++ x ∷ [])) ≡ sum (without_leading xs) +ℤ late (has_solid xs) x
  led-push [] (start at) = omega (arith, ints)
  led-push [] (finish at) = omega (arith, ints)
  led-push [] (word at text) = omega (arith, ints)
  led-push [] (space at) = omega (arith, ints)
  led-push [] (atomic at) = omega (arith, ints)
  led-push [] (forced at) = omega (arith, ints)
  led-push [] (float at) = omega (arith, ints)
  led-push (start at ∷ xs) x = let rest = led-push xs x in omega (arith, ints)
  led-push (finish at ∷ xs) x = let rest = led-push xs x in omega (arith, ints)
  led-push (word at text ∷ xs) x = let all = sum-append xs (x ∷ []) in by x all
    where
      by : (x : Item) → sum (xs ++ x ∷ []) ≡ sum xs +ℤ sum (x ∷ []) → w (word at text) +ℤ sum (xs ++ x ∷ []) ≡ (w (word at text) +ℤ sum xs) +ℤ late true x
      by (start a) all = omega (arith, ints)
      by (finish a) all = omega (arith, ints)
      by (word a t) all = omega (arith, ints)
      by (space a) all = omega (arith, ints)
      by (atomic a) all = omega (arith, ints)
      by (forced a) all = omega (arith, ints)
      by (float a) all = omega (arith, ints)
  led-push (atomic at ∷ xs) x = let all = sum-append xs (x ∷ []) in by x all
    where
      by : (x : Item) → sum (xs ++ x ∷ []) ≡ sum xs +ℤ sum (x ∷ []) → w (atomic at) +ℤ sum (xs ++ x ∷ []) ≡ (w (atomic at) +ℤ sum xs) +ℤ late true x
      by (start a) all = omega (arith, ints)
      by (finish a) all = omega (arith, ints)
      by (word a t) all = omega (arith, ints)
      by (space a) all = omega (arith, ints)
      by (atomic a) all = omega (arith, ints)
      by (forced a) all = omega (arith, ints)
      by (float a) all = omega (arith, ints)
  led-push (space at ∷ xs) x = led-push xs x
  led-push (forced at ∷ xs) x = let rest = led-push xs x in omega (arith, ints)
  led-push (float at ∷ xs) x = let rest = led-push xs x in omega (arith, ints)

  -- without the spaces at the end
  abbrev trimmed : List Item → ℤ
  trimmed items = sum (without_leading (reverse items))

  trimmed-cons : (x : Item) (xs : List Item) → trimmed (x ∷ xs) ≡ trimmed xs +ℤ late (has_solid xs) x
  trimmed-cons x xs = ap (λ l. sum (without_leading l)) (reversed-cons x xs) ∙ (led-push (reverse xs) x ∙ ap (λ b. trimmed xs +ℤ late b x) (any-reversed is_solid xs))

  -- the pass after a word or an atomic box
  begun-same : (a s : ℤ) (xs : List Item) → (fold (with_item w) (record { width = a; spaces = s; begun = true }) xs).width ≡ (a +ℤ cond (has_solid xs) s (pos 0)) +ℤ trimmed xs
  begun-same a s [] = omega (arith, ints)
  begun-same a s (start at ∷ xs) = let rest = begun-same (a +ℤ w (start at)) s xs in let one = trimmed-cons (start at) xs in omega (arith, ints)
  begun-same a s (finish at ∷ xs) = let rest = begun-same (a +ℤ w (finish at)) s xs in let one = trimmed-cons (finish at) xs in omega (arith, ints)
  begun-same a s (word at text ∷ xs) = let rest = begun-same ((a +ℤ s) +ℤ w (word at text)) (pos 0) xs in let one = trimmed-cons (word at text) xs in by (has_solid xs) _ _ _ rest one
    where
      by : (b : Bool) (r t u : ℤ) → r ≡ (((a +ℤ s) +ℤ w (word at text)) +ℤ cond b (pos 0) (pos 0)) +ℤ t → u ≡ t +ℤ w (word at text) → r ≡ (a +ℤ s) +ℤ u
      by true r t u p q = omega (arith, ints)
      by false r t u p q = omega (arith, ints)
  begun-same a s (space at ∷ xs) = let rest = begun-same a (s +ℤ w (space at)) xs in let one = trimmed-cons (space at) xs in by (has_solid xs) _ _ _ rest one
    where
      by : (b : Bool) (r t u : ℤ) → r ≡ (a +ℤ cond b (s +ℤ w (space at)) (pos 0)) +ℤ t → u ≡ t +ℤ cond b (w (space at)) (pos 0) → r ≡ (a +ℤ cond b s (pos 0)) +ℤ u
      by true r t u p q = omega (arith, ints)
      by false r t u p q = omega (arith, ints)
  begun-same a s (atomic at ∷ xs) = let rest = begun-same ((a +ℤ s) +ℤ w (atomic at)) (pos 0) xs in let one = trimmed-cons (atomic at) xs in by (has_solid xs) _ _ _ rest one
    where
      by : (b : Bool) (r t u : ℤ) → r ≡ (((a +ℤ s) +ℤ w (atomic at)) +ℤ cond b (pos 0) (pos 0)) +ℤ t → u ≡ t +ℤ w (atomic at) → r ≡ (a +ℤ s) +ℤ u
      by true r t u p q = omega (arith, ints)
      by false r t u p q = omega (arith, ints)
  begun-same a s (forced at ∷ xs) = let rest = begun-same (a +ℤ w (forced at)) s xs in let one = trimmed-cons (forced at) xs in omega (arith, ints)
  begun-same a s (float at ∷ xs) = let rest = begun-same (a +ℤ w (float at)) s xs in let one = trimmed-cons (float at) xs in omega (arith, ints)

  -- the pass before one
  held-same : (a : ℤ) (xs : List Item) → (fold (with_item w) (record { width = a; spaces = pos 0; begun = false }) xs).width ≡ a +ℤ trimmed (without_leading xs)
  held-same a [] = omega (arith, ints)
  held-same a (start at ∷ xs) = let rest = held-same (a +ℤ w (start at)) xs in let one = trimmed-cons (start at) (without_leading xs) in omega (arith, ints)
  held-same a (finish at ∷ xs) = let rest = held-same (a +ℤ w (finish at)) xs in let one = trimmed-cons (finish at) (without_leading xs) in omega (arith, ints)
  held-same a (word at text ∷ xs) = let rest = begun-same ((a +ℤ pos 0) +ℤ w (word at text)) (pos 0) xs in let one = trimmed-cons (word at text) xs in by (has_solid xs) _ _ _ rest one
    where
      by : (b : Bool) (r t u : ℤ) → r ≡ (((a +ℤ pos 0) +ℤ w (word at text)) +ℤ cond b (pos 0) (pos 0)) +ℤ t → u ≡ t +ℤ w (word at text) → r ≡ a +ℤ u
      by true r t u p q = omega (arith, ints)
      by false r t u p q = omega (arith, ints)
  held-same a (space at ∷ xs) = held-same a xs
  held-same a (atomic at ∷ xs) = let rest = begun-same ((a +ℤ pos 0) +ℤ w (atomic at)) (pos 0) xs in let one = trimmed-cons (atomic at) xs in by (has_solid xs) _ _ _ rest one
    where
      by : (b : Bool) (r t u : ℤ) → r ≡ (((a +ℤ pos 0) +ℤ w (atomic at)) +ℤ cond b (pos 0) (pos 0)) +ℤ t → u ≡ t +ℤ w (atomic at) → r ≡ a +ℤ u
      by true r t u p q = omega (arith, ints)
      by false r t u p q = omega (arith, ints)
  held-same a (forced at ∷ xs) = let rest = held-same (a +ℤ w (forced at)) xs in let one = trimmed-cons (forced at) (without_leading xs) in omega (arith, ints)
  held-same a (float at ∷ xs) = let rest = held-same (a +ℤ w (float at)) xs in let one = trimmed-cons (float at) (without_leading xs) in omega (arith, ints)

-- the width of some items is that of the pass over them
pub width-same : (c : InlineContext) (items : List Item) → width_held c items ≡ (with_items (item_width c) nothing_held items).width
width-same c items =
    let pass = held-same (item_width c) (pos 0) items in
    let turned = sum-reversed (item_width c) (without_leading (reverse (without_leading items))) in
    omega (arith, ints)

-- and of segments that of the passes over each of them
pub segments-same : (f : Held → Item → Held) (h : Held) (parts : List (List Item)) → fold (λ (s : Held) part. fold f s part) h parts ≡ fold f h (joined parts)
segments-same f h [] = refl
segments-same f h (part ∷ parts) = segments-same f (fold f h part) parts ∙ sym (fold-append f h part (joined parts))
