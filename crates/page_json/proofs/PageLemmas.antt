-- The nodes of a job file's page form a page.
use Rattle.std.proofs.Common.{◌≡◌, ℕ, zero, suc, ◌+◌, ◌<◌, ◌≤◌, Bool, true, false, List, [], ◌∷◌, ◌++◌, length, map, Option, Some, None, option_map, option_and_then, Result, Ok, Err, refl, sym, ap, ◌∙◌, arith, cond, subst, append_assoc, append-nil, length-append, Ordering, Less, Equal, Greater}
use Rattle.std.specs.Prelude.{◌==◌, slice_get, codes, is_some, nat_lt, ◌&&◌}
use Rattle.std.specs.Char.{to_ascii_lowercase}
use Rattle.std.specs.List.{list_all}
use Rattle.std.specs.Option.{option_map_or}
use Rattle.std.specs.Ordering.{nat_cmp, match_ordering}
use Rattle.std.specs.Cmp.Lexicographic.{slice_cmp}
use Rattle.std.specs.Str.{chars}
use Rattle.std.proofs.lemmas.Bool.{and_from}
use Rattle.std.proofs.lemmas.Bool.Decides.{nat_tests}
use Rattle.std.proofs.lemmas.List.Sums.{sum_by_more_le}
use Rattle.std.proofs.lemmas.Option.{get_or_from_slice_get, slice_get_within}
use Rattle.std.proofs.lemmas.Slice.Eq.{bytes_eq-Decides}
use Rattle.std.proofs.lemmas.Str.Ascii.{lowercase-lowercase}
use Rattle.serde_json.specs.Data.{Data, null, boolean, number, string, array, object, Items, no_items, item, Members, no_members, member}
use Rattle.serde_json.specs.Find.{as_object, as_str, get}
use Rattle.viz_base.specs.declared.nodes.Attr.{Attr}
use Rattle.viz_base.specs.declared.nodes.Body.{Body}
use Rattle.viz_base.specs.declared.nodes.Body.TheVariants as of_body
use Rattle.viz_base.specs.declared.nodes.Element.{Element}
use Rattle.viz_base.specs.declared.nodes.Node.{Node}
use Rattle.viz_base.specs.Orders.{IsInOrder}
use Rattle.viz_base.specs.Pages.{IsPage, is_element, is_element_at, parent_fits, text_of, is_lower, has_lower_names}
use Rattle.viz_base.specs.declared.raw_jobs.Part.{Part}
use Rattle.page_json.specs.Faults.{shaped_at}
use Rattle.page_json.specs.Values.{lower, all_of, each_of, all_or_first, list_at, object_of}
use Rattle.page_json.specs.Elements.{attr_of, attrs_in, attrs_of, body_of, element_of, have_own_names, own_named, size_of, tag_of, text_or}
use Rattle.page_json.specs.Documents.{Place, place, listed, children_listed, list_listed, all_listed, children_of, places_of, node_of}
use Rattle.page_json.specs.Jobs.{characters}
use Rattle.page_json.specs.Pages.{IsDocument}
use Rattle.page_json.proofs.ListedLemmas.{each_listed, listed-open}
use Rattle.page_json.proofs.OrderLemmas.{places-order}

-- ---- parents

-- there is an object at the place
abbrev is_object_at : List Place → ℕ → Bool
is_object_at ps at = option_map_or (λ (p : Place). is_some (as_object p.value)) (slice_get ps at) false

-- a parent among those before, and none where none is before
abbrev IsParentIn : List Place → Option ℕ → Type 0
IsParentIn before None = length before ≡ 0
IsParentIn before (Some q) = is_object_at before q ≡ true

abbrev HaveParents : List Place → List Place → Type 0
HaveParents before [] = Unit {0}
HaveParents before (p ∷ ps) = IsParentIn before p.parent × HaveParents (before ++ p ∷ []) ps

still_there : (xs ys : List Place) (q : ℕ) → is_object_at xs q ≡ true → is_object_at (xs ++ ys) q ≡ true
still_there [] ys q h = cc
still_there (x ∷ xs) ys zero h = h
still_there (x ∷ xs) ys (suc q) h = still_there xs ys q h

just_there : (xs : List Place) (p : Place) (at : ℕ) → length xs ≡ at → is_some (as_object p.value) ≡ true → is_object_at (xs ++ p ∷ []) at ≡ true
just_there xs p at e h = subst (λ n. is_object_at (xs ++ p ∷ []) n ≡ true) e (at_end xs)
  where
    at_end : (ys : List Place) → is_object_at (ys ++ p ∷ []) (length ys) ≡ true
    at_end [] = h
    at_end (y ∷ ys) = at_end ys

parents-append : (before xs ys : List Place) → HaveParents before xs → HaveParents (before ++ xs) ys → HaveParents before (xs ++ ys)
parents-append before [] ys h k = subst (λ ps. HaveParents ps ys) (append-nil before) k
parents-append before (x ∷ xs) ys h k =
    (h.0, parents-append (before ++ x ∷ []) xs ys h.1 (subst (λ ps. HaveParents ps ys) (sym (append_assoc before (x ∷ []) xs)) k))

by_order : (o : Ordering) (xs ys : List Place) (before : List Place) → HaveParents before xs → HaveParents before ys → HaveParents before (match_ordering o xs ys xs)
by_order Less xs ys before h k = h
by_order Equal xs ys before h k = k
by_order Greater xs ys before h k = h

mutual
  listed-parents : (d : Data) (p : Option ℕ) (k at : ℕ) (before : List Place) → length before ≡ at → IsParentIn before p → HaveParents before (listed d p k at)
  listed-parents null p k at before e h = (h, tt)
  listed-parents (boolean b) p k at before e h = (h, tt)
  listed-parents (number n) p k at before e h = (h, tt)
  listed-parents (string s) p k at before e h = (h, tt)
  listed-parents (array ds) p k at before e h = (h, tt)
  listed-parents (object ms) p k at before e h = (
    h,
    children-parents ms at (k + 1) (at + 1) (before ++ place (object ms) p k ∷ []) (omega (arith, e, length-append before (place (object ms) p k ∷ [])))
        (just_there before (place (object ms) p k) at e refl),
  )

  children-parents : (ms : Members) (q k at : ℕ) (before : List Place) → length before ≡ at → is_object_at before q ≡ true → HaveParents before (children_listed ms (Some q) k at)
  children-parents no_members q k at before e h = tt
  children-parents (member key d ms) q k at before e h =
      by_order (slice_cmp nat_cmp (codes "children") key) (children_listed ms (Some q) k at) (list_listed d (Some q) k at) before
      (children-parents ms q k at before e h) (list-parents d q k at before e h)

  list-parents : (d : Data) (q k at : ℕ) (before : List Place) → length before ≡ at → is_object_at before q ≡ true → HaveParents before (list_listed d (Some q) k at)
  list-parents null q k at before e h = tt
  list-parents (boolean b) q k at before e h = tt
  list-parents (number n) q k at before e h = tt
  list-parents (string s) q k at before e h = tt
  list-parents (array ds) q k at before e h = all-parents ds q k at before e h
  list-parents (object ms) q k at before e h = tt

  all-parents : (ds : Items) (q k at : ℕ) (before : List Place) → length before ≡ at → is_object_at before q ≡ true → HaveParents before (all_listed ds (Some q) k at)
  all-parents no_items q k at before e h = tt
  all-parents (item d ds) q k at before e h =
      parents-append before (listed d (Some q) k at) (all_listed ds (Some q) k (at + length (listed d (Some q) k at)))
      (listed-parents d (Some q) k at before e h)
      (all-parents ds q k (at + length (listed d (Some q) k at)) (before ++ listed d (Some q) k at)
      (omega (arith, e, length-append before (listed d (Some q) k at))) (still_there before (listed d (Some q) k at) q h))

-- ---- nodes

-- the nodes of places
abbrev AreOf : List Place → List Node → Type 0
AreOf [] [] = Unit {0}
AreOf [] (n ∷ ns) = ⊥
AreOf (p ∷ ps) [] = ⊥
AreOf (p ∷ ps) (n ∷ ns) = (node_of p ≡ Some n) × AreOf ps ns

each-are : (at : ℕ) (ps : List Place) (ns : List Node) → each_of node_of at ps ≡ Ok ns → AreOf ps ns
each-are at [] [] e = tt
each-are at [] (n ∷ ns) e = cc
each-are at (p ∷ ps) ns e = by_first (node_of p) (each_of node_of (at + 1) ps) ns refl (λ ms h. each-are (at + 1) ps ms h) e
  where
    by_first : (o : Option Node) (r : Result (List Node) ℕ) (ms : List Node) → node_of p ≡ o → ((ls : List Node) → r ≡ Ok ls → AreOf ps ls)
        → all_or_first at o r ≡ Ok ms → AreOf (p ∷ ps) ms
    by_first None r ms is rest h = cc
    by_first (Some n) (Err k) ms is rest h = cc
    by_first (Some n) (Ok ls) [] is rest h = cc
    by_first (Some n) (Ok ls) (m ∷ ms) is rest h = (is ∙ (let same : n ≡ m = cc in ap Some same), rest ms (let same : ls ≡ ms = cc in ap Ok same))

body_is : (parent : Option ℕ) (o : Option Body) (n : Node) → option_map (λ body. record { parent = parent; body = body }) o ≡ Some n → o ≡ Some n.body
body_is parent None n e = cc
body_is parent (Some b) n e = cc

element_is : (o : Option Element) (b : Body) → option_map of_body.Element o ≡ Some b → is_element b ≡ true
element_is None b e = cc
element_is (Some el) b e = let same : of_body.Element el ≡ b = cc in ap is_element (sym same)

object_is : (d : Data) (b : Body) → is_some (as_object d) ≡ true → body_of d ≡ Some b → is_element b ≡ true
object_is null b h e = cc
object_is (boolean x) b h e = cc
object_is (number m) b h e = cc
object_is (string s) b h e = cc
object_is (array ds) b h e = cc
object_is (object ms) b h e = element_is (element_of (object ms)) b e

of_object : (p : Place) (n : Node) → node_of p ≡ Some n → is_some (as_object p.value) ≡ true → is_element n.body ≡ true
of_object p n e h = object_is p.value n.body h (body_is p.parent (body_of p.value) n e)

objects-elements : (ps : List Place) (ns : List Node) (q : ℕ) → AreOf ps ns → is_object_at ps q ≡ true → is_element_at ns q ≡ true
objects-elements [] [] q a h = cc
objects-elements [] (n ∷ ns) q a h = absurd a
objects-elements (p ∷ ps) [] q a h = absurd a
objects-elements (p ∷ ps) (n ∷ ns) zero a h = of_object p n a.0 h
objects-elements (p ∷ ps) (n ∷ ns) (suc q) a h = objects-elements ps ns q a.1 h

same_parent : (p : Place) (n : Node) → node_of p ≡ Some n → n.parent ≡ p.parent
same_parent p n e = by_body (body_of p.value) e
  where
    by_body : (o : Option Body) → option_map (λ body. record { parent = p.parent; body = body }) o ≡ Some n → n.parent ≡ p.parent
    by_body None k = cc
    by_body (Some b) k = cc

same_parents : (ps : List Place) (ns : List Node) → AreOf ps ns → map (λ (p : Place). p.parent) ps ≡ map (λ (n : Node). n.parent) ns
same_parents [] [] a = refl
same_parents [] (n ∷ ns) a = absurd a
same_parents (p ∷ ps) [] a = absurd a
same_parents (p ∷ ps) (n ∷ ns) a = let first : n.parent ≡ p.parent = same_parent p n a.0 in let rest = same_parents ps ns a.1 in cc

-- an object at a place is before the end
object-below : (ps : List Place) (q : ℕ) → is_object_at ps q ≡ true → q < length ps
object-below [] q h = cc
object-below (p ∷ ps) zero h = omega arith
object-below (p ∷ ps) (suc q) h = omega (arith, object-below ps q h)

element-append : (ms ns : List Node) (q : ℕ) → is_element_at ms q ≡ true → is_element_at (ms ++ ns) q ≡ true
element-append [] ns q h = cc
element-append (m ∷ ms) ns zero h = h
element-append (m ∷ ms) ns (suc q) h = element-append ms ns q h

are-length : (ps : List Place) (ns : List Node) → AreOf ps ns → length ps ≡ length ns
are-length [] [] a = refl
are-length [] (n ∷ ns) a = absurd a
are-length (p ∷ ps) [] a = absurd a
are-length (p ∷ ps) (n ∷ ns) a = ap suc (are-length ps ns a.1)

are-append : (ps qs : List Place) (ms ns : List Node) → AreOf ps ms → AreOf qs ns → AreOf (ps ++ qs) (ms ++ ns)
are-append [] qs [] ns a b = b
are-append [] qs (m ∷ ms) ns a b = absurd a
are-append (p ∷ ps) qs [] ns a b = absurd a
are-append (p ∷ ps) qs (m ∷ ms) ns a b = (a.0, are-append ps qs ms ns a.1 b)

parent_in : (before : List Place) (ms ns : List Node) (o : Option ℕ) → AreOf before ms → IsParentIn before o → parent_fits (ms ++ ns) (length ms) o ≡ true
parent_in before ms ns None a h = let none : length ms ≡ 0 = omega (arith, h, are-length before ms a) in ap (λ n. n == 0) none
parent_in before ms ns (Some q) a h =
    let lt : q < length ms = omega (arith, object-below before q h, are-length before ms a) in
    and_from (nat_lt q (length ms)) (is_element_at (ms ++ ns) q) (grind (arith, nat_tests)) (element-append ms ns q (objects-elements before ms q a h))

all-fit : (before ps : List Place) (ms ns : List Node) → AreOf before ms → AreOf ps ns → HaveParents before ps
    → (k : ℕ) (n : Node) → slice_get ns k ≡ Some n → parent_fits (ms ++ ns) (length ms + k) n.parent ≡ true
all-fit before [] ms [] a b h k n e = cc
all-fit before [] ms (m ∷ ns) a b h k n e = absurd b
all-fit before (p ∷ ps) ms [] a b h k n e = absurd b
all-fit before (p ∷ ps) ms (m ∷ ns) a b h zero n e =
    let same : m ≡ n = cc in
    let parent : n.parent ≡ p.parent = ap (λ (x : Node). x.parent) (sym same) ∙ same_parent p m b.0 in
    let there : length ms + 0 ≡ length ms = omega arith in
    ap (λ j. parent_fits (ms ++ m ∷ ns) j n.parent) there ∙ (ap (λ o. parent_fits (ms ++ m ∷ ns) (length ms) o) parent ∙ parent_in before ms (m ∷ ns) p.parent a h.0)
all-fit before (p ∷ ps) ms (m ∷ ns) a b h (suc k) n e =
    let there : length ms + suc k ≡ length (ms ++ m ∷ []) + k = omega (arith, length-append ms (m ∷ [])) in
    let whole : ms ++ m ∷ ns ≡ (ms ++ m ∷ []) ++ ns = sym (append_assoc ms (m ∷ []) ns) in
    ap (λ j. parent_fits (ms ++ m ∷ ns) j n.parent) there ∙ (ap (λ xs. parent_fits xs (length (ms ++ m ∷ []) + k) n.parent) whole
    ∙ all-fit (before ++ p ∷ []) ps (ms ++ m ∷ []) ns (are-append before (p ∷ []) ms (m ∷ []) a (b.0, tt)) b.1 h.1 k n e)

-- ---- names

lower_twice : (name : List ℕ) → is_lower (lower name) ≡ true
lower_twice name = (bytes_eq-Decides (lower (lower name)) (lower name)).1 (twice name)
  where
    twice : (cs : List ℕ) → lower (lower cs) ≡ lower cs
    twice [] = refl
    twice (c ∷ cs) = ap (λ d. d ∷ lower (lower cs)) (lowercase-lowercase c) ∙ ap (λ ds. to_ascii_lowercase c ∷ ds) (twice cs)

abbrev AreLower : Option (List Attr) → Type 0
AreLower o = (attrs : List Attr) → o ≡ Some attrs → list_all (λ (a : Attr). is_lower a.name) attrs ≡ true

none_lower : AreLower None
none_lower attrs e = cc

all_lower : (ms : List (List ℕ × Data)) → AreLower (all_of attr_of ms)
all_lower [] = λ attrs e. (let none : [] ≡ attrs = cc in subst (λ (xs : List Attr). list_all (λ (a : Attr). is_lower a.name) xs ≡ true) none refl)
all_lower (m ∷ ms) = by_first (as_str m.1) (all_of attr_of ms) (all_lower ms)
  where
    by_first : (o : Option (List ℕ)) (r : Option (List Attr)) → AreLower r
        → AreLower (option_and_then (λ y. option_map (λ ys. y ∷ ys) r) (option_map (λ text. record { name = lower m.0; value = text }) o))
    by_first None r h = none_lower
    by_first (Some text) None h = none_lower
    by_first (Some text) (Some rest) h = λ attrs e.
        (let first : Attr = record { name = lower m.0; value = text } in
        let same : first ∷ rest ≡ attrs = cc in
        subst (λ (xs : List Attr). list_all (λ (a : Attr). is_lower a.name) xs ≡ true) same
        (and_from (is_lower (lower m.0)) (list_all (λ (a : Attr). is_lower a.name) rest) (lower_twice m.0) (h rest refl)))

attrs_lower : (d : Data) → AreLower (attrs_of d)
attrs_lower d = by_member (get (codes "attrs") d)
  where
    own : (o : Option (List Attr)) → AreLower o → AreLower (option_and_then own_named o)
    own None h = none_lower
    own (Some attrs) h = by_test (have_own_names attrs)
      where
        by_test : (b : Bool) → AreLower (cond b (Some attrs) None)
        by_test true = h
        by_test false = none_lower

    of_list : (o : Option (List (List ℕ × Data))) → AreLower (option_and_then own_named (option_and_then (all_of attr_of) o))
    of_list None = none_lower
    of_list (Some ms) = own (all_of attr_of ms) (all_lower ms)

    by_member : (o : Option Data) → AreLower (option_map_or attrs_in o (Some []))
    by_member None = all_lower []
    by_member (Some m) = of_list (object_of m)

abbrev IsLowerElement : Option Element → Type 0
IsLowerElement o = (el : Element) → o ≡ Some el → (is_lower el.tag && list_all (λ (a : Attr). is_lower a.name) el.attrs) ≡ true

no_element : IsLowerElement None
no_element el e = cc

element_lower : (d : Data) → IsLowerElement (element_of d)
element_lower d = by_tag (tag_of d)
  where
    by_children : (tag : List ℕ) (attrs : List Attr) (size : Option (ℕ × ℕ)) (o : Option (List Data)) → list_all (λ (a : Attr). is_lower a.name) attrs ≡ true
        → IsLowerElement (option_map (λ children. record { tag = lower tag; attrs = attrs; size = size }) o)
    by_children tag attrs size None h = no_element
    by_children tag attrs size (Some ds) h = λ el e.
        (let made : Element = record { tag = lower tag; attrs = attrs; size = size } in
        let same : made ≡ el = cc in
        subst (λ (x : Element). (is_lower x.tag && list_all (λ (a : Attr). is_lower a.name) x.attrs) ≡ true) same
        (and_from (is_lower (lower tag)) (list_all (λ (a : Attr). is_lower a.name) attrs) (lower_twice tag) h))

    by_size : (tag : List ℕ) (attrs : List Attr) (o : Option (Option (ℕ × ℕ))) → list_all (λ (a : Attr). is_lower a.name) attrs ≡ true
        → IsLowerElement (option_and_then (λ size. option_map (λ children. record { tag = lower tag; attrs = attrs; size = size }) (list_at (codes "children") d)) o)
    by_size tag attrs None h = no_element
    by_size tag attrs (Some size) h = by_children tag attrs size (list_at (codes "children") d) h

    by_attrs : (tag : List ℕ) (o : Option (List Attr)) → AreLower o
        → IsLowerElement (option_and_then (λ attrs. option_and_then (λ size. option_map (λ children. record { tag = lower tag; attrs = attrs; size = size }) (list_at (codes "children") d)) (size_of d)) o)
    by_attrs tag None h = no_element
    by_attrs tag (Some attrs) h = by_size tag attrs (size_of d) (h attrs refl)

    by_tag : (o : Option (List ℕ))
        → IsLowerElement (option_and_then (λ tag. option_and_then (λ attrs. option_and_then (λ size. option_map (λ children. record { tag = lower tag; attrs = attrs; size = size }) (list_at (codes "children") d)) (size_of d)) (attrs_of d)) o)
    by_tag None = no_element
    by_tag (Some tag) = by_attrs tag (attrs_of d) (attrs_lower d)

body_lower : (d : Data) (b : Body) → body_of d ≡ Some b → has_lower_names b ≡ true
body_lower d b e = by_text (as_str d) (element_of d) (element_lower d) e
  where
    by_text : (t : Option (List ℕ)) (o : Option Element) → IsLowerElement o → text_or o t ≡ Some b → has_lower_names b ≡ true
    by_text (Some text) o h k = let same : of_body.Chars text ≡ b = cc in ap has_lower_names (sym same)
    by_text None None h k = cc
    by_text None (Some el) h k = let same : of_body.Element el ≡ b = cc in ap has_lower_names (sym same) ∙ h el refl

all-names : (ps : List Place) (ns : List Node) → AreOf ps ns → (k : ℕ) (n : Node) → slice_get ns k ≡ Some n → has_lower_names n.body ≡ true
all-names [] [] a k n e = cc
all-names [] (m ∷ ns) a k n e = absurd a
all-names (p ∷ ps) [] a k n e = absurd a
all-names (p ∷ ps) (m ∷ ns) a zero n e =
    let same : m ≡ n = cc in
    ap (λ (x : Node). has_lower_names x.body) (sym same) ∙ body_lower p.value m.body (body_is p.parent (body_of p.value) m a.0)
all-names (p ∷ ps) (m ∷ ns) a (suc k) n e = all-names ps ns a.1 k n e

-- ---- the page

root_element : (d : Data) (ns : List Node) → is_some (as_str d) ≡ false → AreOf (places_of d) ns → is_element_at ns 0 ≡ true
root_element d ns text a = by_places (places_of d) ns (listed-open d None 1 0) a
  where
    of_root : (b : Body) → body_of d ≡ Some b → is_element b ≡ true
    of_root b e = by_text (as_str d) text e
      where
        by_text : (t : Option (List ℕ)) → is_some t ≡ false → text_or (element_of d) t ≡ Some b → is_element b ≡ true
        by_text None h k = element_is (element_of d) b k
        by_text (Some s) h k = cc

    by_places : (ps : List Place) (ms : List Node) → ps ≡ place d None 1 ∷ each_listed (children_of d) (Some 0) (1 + 1) (0 + 1) → AreOf ps ms → is_element_at ms 0 ≡ true
    by_places [] ms e h = cc
    by_places (p ∷ ps) [] e h = absurd h
    by_places (p ∷ ps) (m ∷ ms) e h =
        let same : p ≡ place d None 1 = cc in
        let value : node_of (place d None 1) ≡ Some m = subst (λ (x : Place). node_of x ≡ Some m) same h.0 in
        of_root m.body (body_is None (body_of d) m value)

shaped_is : (p : Part) (r : Result (List Node) ℕ) (ns : List Node) → shaped_at p r ≡ Ok ns → r ≡ Ok ns
shaped_is p (Ok ms) ns e = let same : ms ≡ ns = cc in ap Ok same
shaped_is p (Err k) ns e = cc

pub nodes-document : (p : Part) (d : Data) (ns : List Node) → is_some (as_str d) ≡ false → shaped_at p (each_of node_of 0 (places_of d)) ≡ Ok ns → IsDocument ns
nodes-document p d ns text e =
    let a : AreOf (places_of d) ns = each-are 0 (places_of d) ns (shaped_is p (each_of node_of 0 (places_of d)) ns e) in
    record {
      root = root_element d ns text a;
      parents = λ k n is. (let at : 0 + k ≡ k = omega arith in
          subst (λ j. parent_fits ns j n.parent ≡ true) at (all-fit [] (places_of d) [] ns tt a (listed-parents d None 1 0 [] refl refl) k n is));
      in_order = subst IsInOrder (same_parents (places_of d) ns a) (places-order d);
      names = λ k n is. all-names (places_of d) ns a k n is;
    }

-- with few characters in all, no text is too long
pub document-page : (ns : List Node) → IsDocument ns → characters ns ≤ 262144 → IsPage ns
document-page ns h few = record {
  root = h.root;
  parents = h.parents;
  in_order = h.in_order;
  texts = λ k n is. (let size : ℕ = length (chars (text_of n.body)) in
      omega (arith, few, sum_by_more_le (λ (x : Node). length (chars (text_of x.body))) ns k n (slice_get_within ns k n is), ap (λ (x : Node). length (chars (text_of x.body))) (get_or_from_slice_get ns k n n is)));
  names = h.names;
}
