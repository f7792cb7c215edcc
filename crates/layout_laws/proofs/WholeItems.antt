-- The floats and atomic boxes among the items of inline content, with spaces left out.
use Rattle.std.proofs.Common.{◌≡◌, ℕ, false, List, [], ◌∷◌, ◌++◌, flat_map, reverse, refl, sym, ap, ◌∙◌, append-nil}
use Rattle.std.specs.List.{list_any}
use Rattle.std.proofs.lemmas.Grind.{flat_map-append}
use Rattle.std.proofs.lemmas.List.{reverse-append}
use Rattle.std.proofs.lemmas.List.{reverse-reverse}
use Rattle.std.proofs.lemmas.Bool.{or_parts}
use Rattle.viz_base.specs.declared.trees.BoxTree.{BoxTree}
use Rattle.layout_semantics.specs.InlineContent.{Item, start, finish, word, space, atomic, forced, float, makes_line}
use Rattle.layout_semantics.specs.Segments.{without_leading, what_stays}

abbrev pub inner_of : Item → List ℕ
inner_of (float at) = at ∷ []
inner_of (atomic at) = at ∷ []
inner_of _ = []

abbrev pub float_of : Item → List ℕ
float_of (float at) = at ∷ []
float_of _ = []

-- ---- lists backwards

reverse-cons : {A : Type 0} (x : A) (xs : List A) → reverse (x ∷ xs) ≡ reverse xs ++ x ∷ []
reverse-cons x xs = reverse-append (x ∷ []) xs

module _ (f : Item → List ℕ) (short : (i : Item) → reverse (f i) ≡ f i) (none : (at : ℕ) → f (space at) ≡ []) where
  flat_map-reverse : (items : List Item) → flat_map f (reverse items) ≡ reverse (flat_map f items)
  flat_map-reverse [] = refl
  flat_map-reverse (i ∷ items) =
      ap (flat_map f) (reverse-cons i items)
      ∙ (flat_map-append f (reverse items) (i ∷ [])
      ∙ (ap (λ (l : List ℕ). l ++ (f i ++ [])) (flat_map-reverse items)
      ∙ (ap (λ (l : List ℕ). reverse (flat_map f items) ++ l) (append-nil (f i) ∙ sym (short i))
      ∙ sym (reverse-append (f i) (flat_map f items)))))

  leading-kept : (items : List Item) → flat_map f (without_leading items) ≡ flat_map f items
  leading-kept [] = refl
  leading-kept (word at text ∷ items) = refl
  leading-kept (atomic at ∷ items) = refl
  leading-kept (space at ∷ items) = leading-kept items ∙ sym (ap (λ (l : List ℕ). l ++ flat_map f items) (none at))
  leading-kept (start at ∷ items) = ap (λ (l : List ℕ). f (start at) ++ l) (leading-kept items)
  leading-kept (finish at ∷ items) = ap (λ (l : List ℕ). f (finish at) ++ l) (leading-kept items)
  leading-kept (forced at ∷ items) = ap (λ (l : List ℕ). f (forced at) ++ l) (leading-kept items)
  leading-kept (float at ∷ items) = ap (λ (l : List ℕ). f (float at) ++ l) (leading-kept items)

  stays-kept : (items : List Item) → flat_map f (what_stays items) ≡ flat_map f items
  stays-kept items =
      flat_map-reverse (without_leading (reverse (without_leading items)))
      ∙ (ap reverse (leading-kept (reverse (without_leading items)) ∙ flat_map-reverse (without_leading items))
      ∙ (reverse-reverse (flat_map f (without_leading items)) ∙ leading-kept items))

inner-short : (i : Item) → reverse (inner_of i) ≡ inner_of i
inner-short (start at) = refl
inner-short (finish at) = refl
inner-short (word at text) = refl
inner-short (space at) = refl
inner-short (atomic at) = refl
inner-short (forced at) = refl
inner-short (float at) = refl

float-short : (i : Item) → reverse (float_of i) ≡ float_of i
float-short (start at) = refl
float-short (finish at) = refl
float-short (word at text) = refl
float-short (space at) = refl
float-short (atomic at) = refl
float-short (forced at) = refl
float-short (float at) = refl

pub inner-stay : (items : List Item) → flat_map inner_of (what_stays items) ≡ flat_map inner_of items
inner-stay items = stays-kept inner_of inner-short (λ at. refl) items

pub floats-stay : (items : List Item) → flat_map float_of (what_stays items) ≡ flat_map float_of items
floats-stay items = stays-kept float_of float-short (λ at. refl) items

-- ---- where nothing makes a line, floats are all that stand in it

pub floats-independent : (tree : BoxTree) (items : List Item) → list_any (makes_line tree) items ≡ false → flat_map inner_of items ≡ flat_map float_of items
floats-independent tree [] e = refl
floats-independent tree (i ∷ items) e = by_item i (or_parts (makes_line tree i) (list_any (makes_line tree) items) e).0 (floats-independent tree items (or_parts (makes_line tree i) (list_any (makes_line tree) items) e).1)
  where
    by_item : (i : Item) → makes_line tree i ≡ false → flat_map inner_of items ≡ flat_map float_of items → inner_of i ++ flat_map inner_of items ≡ float_of i ++ flat_map float_of items
    by_item (start at) n again = again
    by_item (finish at) n again = again
    by_item (word at text) n again = again
    by_item (space at) n again = again
    by_item (atomic at) n again = absurd (cc)
    by_item (forced at) n again = again
    by_item (float at) n again = ap (λ (l : List ℕ). at ∷ l) again
