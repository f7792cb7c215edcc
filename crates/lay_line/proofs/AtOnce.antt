-- A line takes segments of words and spaces at once where it takes the last of them.
use Rattle.std.proofs.Common.{◌≡◌, ◌++◌, ◌⊎◌, inl, inr, ℕ, ◌+◌, ◌-◌, ◌<◌, ◌≤◌, length, take, ℤ, pos, ◌+ℤ◌, ◌≤ℤ◌, Bool, true, false, not, cond, ◌&&◌, ◌||◌, int_le, IsTrue, List, [], ◌∷◌, map, refl, sym, subst, ap, ◌∙◌, append_assoc, append-nil, arith}
use Rattle.std.specs.List.{list_all, flat_map, AllByRecursion}
use Rattle.std.proofs.lemmas.Int.{ints}
use Rattle.std.proofs.lemmas.List.{map-append, length-append}
use Rattle.std.proofs.Math.Seq.{take-append_seam}
use Rattle.std.proofs.lemmas.List.Folds.{list_any-append}
use Rattle.viz_base.specs.declared.layouts.Band.{Band}
use Rattle.viz_calc.specs.World.{Reading}
use Rattle.layout_laws.proofs.Truths.{left_of, right_of}
use Rattle.layout_semantics.specs.InlineContent.{Item, start, finish, word, space, atomic, forced, float, float_boxes}
use Rattle.layout_semantics.specs.LineFilling.{Met, fits}
use Rattle.layout_semantics.specs.LineHeights.{InlineContext, LineExtent}
use Rattle.lay_line.specs.Items.{bare_of}
use Rattle.lay_line.specs.Readings.{piece_at, pieces_at, parts_at}
use Rattle.lay_line.specs.declared.held.Piece.{Piece}
use Rattle.lay_line.specs.declared.segments.Segments.{Segments}
use Rattle.std.proofs.lemmas.Grind.{flat_map-append}
use Rattle.lay_line.specs.steps.Held.{Held, with_item}
use Rattle.lay_line.specs.steps.Leaping.{is_text, is_begun, is_plain, AreWide, IsLeap}
use Rattle.lay_line.specs.steps.Lining.{joined_parts}
use Rattle.lay_line.specs.steps.Loading.{Load, bare, reaching, opened_by, has_forced, has_maker, loaded, takes_more, loading, parts_of, IsFirst}
use Rattle.lay_line.specs.steps.Measured.{Measured, with_measured, held_with}
use Rattle.lay_line.specs.steps.Meeting.{Slot, met_all}
use Rattle.lay_line.specs.steps.Words.{room_in}
use Rattle.lay_line.proofs.Filling.{bare_joined, pieces_joined, loaded_is}
use Rattle.lay_line.proofs.LoadSteps.{bare-same, takes-next, takes-none}

-- ---- words and spaces

-- what holds of nothing, and with a word or a space before, holds of words and spaces
by_texts : (P : List Item → Type 0) → P [] → ((at : ℕ) (text : List ℕ) (items : List Item) → P items → P (word at text ∷ items))
    → ((at : ℕ) (items : List Item) → P items → P (space at ∷ items)) → (items : List Item) → IsTrue (list_all is_text items) → P items
by_texts P none w s [] t = none
by_texts P none w s (word at text ∷ items) t = w at text items (by_texts P none w s items t)
by_texts P none w s (space at ∷ items) t = s at items (by_texts P none w s items t)
by_texts P none w s (atomic at ∷ items) t = absurd (cc)
by_texts P none w s (start at ∷ items) t = absurd (cc)
by_texts P none w s (finish at ∷ items) t = absurd (cc)
by_texts P none w s (forced at ∷ items) t = absurd (cc)
by_texts P none w s (float at ∷ items) t = absurd (cc)

no_forced : (items : List Item) → IsTrue (list_all is_text items) → has_forced items ≡ false
no_forced items t = by_texts (λ l. has_forced l ≡ false) refl (λ at text l p. p) (λ at l p. p) items t

no_floats : (items : List Item) → IsTrue (list_all is_text items) → float_boxes items ≡ []
no_floats items t = by_texts (λ l. float_boxes l ≡ []) refl (λ at text l p. p) (λ at l p. p) items t

no_reach : (c : InlineContext) (e : LineExtent) (items : List Item) → IsTrue (list_all is_text items) → reaching c e items ≡ e
no_reach c e items t = by_texts (λ l. reaching c e l ≡ e) refl (λ at text l p. p) (λ at l p. p) items t

no_opened : (opened : List ℕ) (items : List Item) → IsTrue (list_all is_text items) → opened_by opened items ≡ opened
no_opened opened items t = by_texts (λ l. opened_by opened l ≡ opened) refl (λ at text l p. p) (λ at l p. p) items t

all_texts : (a b : List Item) → IsTrue (list_all is_text a) → IsTrue (list_all is_text b) → IsTrue (list_all is_text (a ++ b))
all_texts a b t u = by_texts (λ l. IsTrue (list_all is_text (l ++ b))) u (λ at text l p. p) (λ at l p. p) a t

plain_texts : (items : List Item) → IsTrue (is_plain items) → IsTrue (list_all is_text items)
plain_texts items t = right_of (is_begun items) (list_all is_text items) t

-- a word leaves no spaces
word_first : (w : ℤ) (h : Held) (i : Item) (items : List Item) → IsTrue (is_begun (i ∷ items)) → (with_item (λ j. w) h i).spaces ≡ pos 0
word_first w h (word at text) items t = refl
word_first w h (space at) items t = absurd (cc)
word_first w h (atomic at) items t = absurd (cc)
word_first w h (start at) items t = absurd (cc)
word_first w h (finish at) items t = absurd (cc)
word_first w h (forced at) items t = absurd (cc)
word_first w h (float at) items t = absurd (cc)

-- ---- widths

-- a word or a space more makes nothing narrower
module _ (w : ℤ) (h : Held) (wide : pos 0 ≤ℤ w) (spaces : pos 0 ≤ℤ h.spaces) where
  space_grows : (b : Bool) → pos 0 ≤ℤ cond b (h.spaces +ℤ w) (pos 0)
  space_grows true = omega (arith, ints)
  space_grows false = omega (arith, ints)

  text_grows : (i : Item) → IsTrue (is_text i) → (h.width ≤ℤ (with_item (λ j. w) h i).width) × (pos 0 ≤ℤ (with_item (λ j. w) h i).spaces)
  text_grows (word at text) t = (omega (arith, ints), omega (arith, ints))
  text_grows (space at) t = (omega (arith, ints), space_grows h.begun)
  text_grows (atomic at) t = absurd (cc)
  text_grows (start at) t = absurd (cc)
  text_grows (finish at) t = absurd (cc)
  text_grows (forced at) t = absurd (cc)
  text_grows (float at) t = absurd (cc)

at_most : (x y z : ℤ) → x ≤ℤ y → y ≤ℤ z → x ≤ℤ z
at_most x y z p q = omega (arith, ints)

all_grow : (ms : List Measured) (h : Held) → IsTrue (list_all is_text (bare ms)) → AreWide ms → pos 0 ≤ℤ h.spaces
    → (h.width ≤ℤ (held_with h ms).width) × (pos 0 ≤ℤ (held_with h ms).spaces)
all_grow [] h t w s = (omega (arith, ints), s)
all_grow (m ∷ ms) h t w s =
    let one = left_of (is_text m.item) (list_all is_text (bare ms)) t in
    let grown = text_grows m.width h (w.0 one) s m.item one in
    let more = all_grow ms (with_measured h m) (right_of (is_text m.item) (list_all is_text (bare ms)) t) w.1 grown.1 in
    (at_most h.width (with_measured h m).width (held_with h (m ∷ ms)).width grown.0 more.0, more.1)

plain_spaces : (ms : List Measured) (h : Held) → IsTrue (is_plain (bare ms)) → AreWide ms → pos 0 ≤ℤ (held_with h ms).spaces
plain_spaces [] h t w = absurd (cc)
plain_spaces (m ∷ ms) h t w =
    let first = word_first m.width h m.item (bare ms) (left_of (is_begun (m.item ∷ bare ms)) (list_all is_text (m.item ∷ bare ms)) t) in
    let none : pos 0 ≤ℤ (with_measured h m).spaces = subst (λ x. pos 0 ≤ℤ x) (sym first) (omega (arith, ints)) in
    (all_grow ms (with_measured h m) (right_of (is_text m.item) (list_all is_text (bare ms)) (plain_texts (m.item ∷ bare ms) t)) w.1 none).1

pub wide_front : (a b : List Measured) → AreWide (a ++ b) → AreWide a
wide_front [] b w = tt
wide_front (m ∷ a) b w = (w.0, wide_front a b w.1)

pub wide_back : (a b : List Measured) → AreWide (a ++ b) → AreWide b
wide_back [] b w = w
wide_back (m ∷ a) b w = wide_back a b w.1

pub held_joined : (h : Held) (a b : List Measured) → held_with h (a ++ b) ≡ held_with (held_with h a) b
held_joined h [] b = refl
held_joined h (m ∷ a) b = held_joined (with_measured h m) a b

-- ---- a line with words and spaces more

or_false : (b : Bool) → (b || false) ≡ b
or_false true = refl
or_false false = refl

or_joined : (a b c : Bool) → ((a || b) || c) ≡ (a || (b || c))
or_joined true b c = refl
or_joined false b c = refl

is_less : (x y z : ℤ) → x ≤ℤ y → IsTrue (int_le y z) → IsTrue (int_le x z)
is_less x y z p q = grind (arith, ints)

takes_by : (ended fit : Bool) → ended ≡ false → IsTrue fit → (not ended && fit) ≡ true
takes_by ended fit n t = ap (λ b. not b && fit) n ∙ t

texts_joined : (parts : List (List Measured)) → AllByRecursion (λ part. IsTrue (is_plain (bare part))) parts → IsTrue (list_all is_text (bare (joined_parts parts)))
texts_joined [] p = refl
texts_joined (part ∷ parts) p =
    subst (λ l. IsTrue (list_all is_text l)) (sym (bare_joined part (joined_parts parts)))
    (all_texts (bare part) (bare (joined_parts parts)) (plain_texts (bare part) p.0) (texts_joined parts p.1))

module _ (c : InlineContext) (slot : Slot) where
  -- what changes
  texted : Load → Bool → Held → Load
  texted f line held = record { held = held; is_ended = f.is_ended; is_line = f.is_line || line; met = f.met; extent = f.extent; opened = f.opened }

  text_loaded : (f : Load) (items : List Item) (held : Held) → IsTrue (list_all is_text items) → loaded c slot f items (float_boxes items) held ≡ texted f (has_maker c items) held
  unfolding loaded texted
  text_loaded f items held t =
      ap (λ b. made (f.is_ended || b) (met_all c slot held.width f.met (float_boxes items)) (reaching c f.extent items) (opened_by f.opened items)) (no_forced items t)
      ∙ (ap (λ b. made b (met_all c slot held.width f.met (float_boxes items)) (reaching c f.extent items) (opened_by f.opened items)) (or_false f.is_ended)
      ∙ (ap (λ l. made f.is_ended (met_all c slot held.width f.met l) (reaching c f.extent items) (opened_by f.opened items)) (no_floats items t)
      ∙ (ap (λ x. made f.is_ended f.met x (opened_by f.opened items)) (no_reach c f.extent items t)
      ∙ ap (λ l. made f.is_ended f.met f.extent l) (no_opened f.opened items t))))
    where
      made : Bool → Met → LineExtent → List ℕ → Load
      made ended met extent opened = record { held = held; is_ended = ended; is_line = f.is_line || has_maker c items; met = met; extent = extent; opened = opened }

  -- all at once are one by one
  at_once : (heads : List (List Measured)) (f : Load) (parts : List (List Measured)) → AllByRecursion (λ part. IsTrue (is_plain (bare part))) heads
      → AreWide (joined_parts heads) → f.is_ended ≡ false → IsTrue (fits (held_with f.held (joined_parts heads)).width (room_in c f.met.floats slot.top slot.tall))
      → loading c slot f (heads ++ parts) ≡ loading c slot (texted f (has_maker c (bare (joined_parts heads))) (held_with f.held (joined_parts heads))) parts
  unfolding takes_more texted
  at_once [] f parts plain wide goes fit = ap (λ b. loading c slot (record f { is_line = b }) parts) (sym (or_false f.is_line))
  at_once (part ∷ heads) f parts plain wide goes fit =
      ap (λ b. cond b (loading c slot next (heads ++ parts)) (f, part ∷ (heads ++ parts))) (takes_by f.is_ended _ goes fits_now)
      ∙ (ap (λ l. loading c slot l (heads ++ parts)) (text_loaded f (bare part) (held_with f.held part) (plain_texts (bare part) plain.0))
      ∙ (at_once heads then parts plain.1 (wide_back part rest wide) goes (subst (λ (h : Held). IsTrue (fits h.width room)) (held_joined f.held part rest) fit)
      ∙ ap (λ l. loading c slot l parts) (ap (λ b. made b (held_with then.held rest)) lines ∙ ap (made (f.is_line || has_maker c (bare (part ++ rest)))) (sym (held_joined f.held part rest)))))
    where
      rest : List Measured
      rest = joined_parts heads

      room : Band ℤ
      room = room_in c f.met.floats slot.top slot.tall

      next : Load
      next = loaded c slot f (bare part) (float_boxes (bare part)) (held_with f.held part)

      then : Load
      then = texted f (has_maker c (bare part)) (held_with f.held part)

      made : Bool → Held → Load
      made line held = record { held = held; is_ended = f.is_ended; is_line = line; met = f.met; extent = f.extent; opened = f.opened }

      lines : ((f.is_line || has_maker c (bare part)) || has_maker c (bare rest)) ≡ (f.is_line || has_maker c (bare (part ++ rest)))
      lines = or_joined f.is_line (has_maker c (bare part)) (has_maker c (bare rest)) ∙ ap (λ b. f.is_line || b) (sym (ap (has_maker c) (bare_joined part rest) ∙ list_any-append _ (bare part) (bare rest)))

      fits_now : IsTrue (fits (held_with f.held part).width room)
      fits_now =
          is_less _ _ _ (all_grow rest (held_with f.held part) (texts_joined heads plain.1) (wide_back part rest wide) (plain_spaces part f.held plain.0 (wide_front part rest wide))).0
          (subst (λ (h : Held). IsTrue (fits h.width room)) (held_joined f.held part rest) fit)

-- ---- as the code has it

no_end : (ended fit : Bool) → true ≡ (not ended && fit) → (ended ≡ false) × IsTrue fit
no_end true fit t = absurd (cc)
no_end false fit t = (refl, sym t)

module _ {N : Type 0} (at : N → Reading → ℤ) (e : Reading) where
  read_joined : (parts : List (List (Piece N))) → pieces_at at (flat_map (λ p. p) parts) e ≡ joined_parts (map (λ p. pieces_at at p e) parts)
  read_joined [] = refl
  read_joined (p ∷ parts) = map-append (λ x. piece_at at x e) p (flat_map (λ q. q) parts) ∙ ap (λ l. pieces_at at p e ++ l) (read_joined parts)

  read_plain : (parts : List (List (Piece N))) → AllByRecursion (λ p. IsTrue (is_plain (bare_of p))) parts → AllByRecursion (λ p. IsTrue (is_plain (bare p))) (map (λ p. pieces_at at p e) parts)
  read_plain [] p = tt
  read_plain (q ∷ parts) p = (subst (λ l. IsTrue (is_plain l)) (sym (bare-same at e q)) p.0, read_plain parts p.1)

  read_parts : (from rest : Segments N) (heads : List (List (Piece N))) → parts_of from.pieces.now from.marks.now ≡ heads ++ parts_of rest.pieces.now rest.marks.now
      → parts_at at from e ≡ map (λ p. pieces_at at p e) heads ++ parts_at at rest e
  read_parts from rest heads is = ap (map (λ p. pieces_at at p e)) is ∙ map-append (λ p. pieces_at at p e) heads (parts_of rest.pieces.now rest.marks.now)

module _ {N : Type 0} (at : N → Reading → ℤ) (e : Reading) (c : InlineContext) (slot : Slot) (f : Load) (from rest : Segments N) (first : List (Piece N)) (count most : ℕ)
    (is : IsLeap (λ ps. is_plain (bare_of ps)) from.pieces.now from.marks.now first rest.pieces.now rest.marks.now count most) where
  -- one segment
  one_first : is.heads ≡ [] → parts_at at from e ≡ pieces_at at first e ∷ parts_at at rest e
  one_first none =
      read_parts at e from rest (is.head ∷ is.heads) is.parts
      ∙ (ap (λ l. (pieces_at at is.head e ∷ map (λ p. pieces_at at p e) l) ++ parts_at at rest e) none
      ∙ ap (λ p. pieces_at at p e ∷ parts_at at rest e) (sym (is.whole ∙ (ap (λ l. is.head ++ flat_map (λ p. p) l) none ∙ append-nil is.head))))

  pub leap-none : (held : Held) → is.heads ≡ [] → held ≡ held_with f.held (pieces_at at first e) → false ≡ takes_more c slot f held
      → (f, parts_at at from e) ≡ loading c slot f (parts_at at from e)
  leap-none held none h t = takes-none c slot f (pieces_at at first e) (parts_at at rest e) (parts_at at from e) held (one_first none) h t

  pub leap-next : (held : Held) (items : List Item) (floats : List ℕ) (next : Load) → AreWide (pieces_at at from.pieces.now e)
      → held ≡ held_with f.held (pieces_at at first e) → true ≡ takes_more c slot f held → bare (pieces_at at first e) ≡ items → floats ≡ float_boxes items
      → next ≡ loaded c slot f items floats held → loading c slot next (parts_at at rest e) ≡ loading c slot f (parts_at at from e)
  unfolding takes_more
  leap-next held items floats next wide h t b fl n = by is.pass
    where
      parts : List (List Measured)
      parts = map (λ p. pieces_at at p e) (is.head ∷ is.heads)

      all : List Measured
      all = joined_parts parts

      whole : pieces_at at first e ≡ all
      whole = ap (λ l. pieces_at at l e) is.whole ∙ read_joined at e (is.head ∷ is.heads)

      wide_first : AreWide all
      wide_first = subst AreWide whole (wide_front (pieces_at at first e) (pieces_at at rest.pieces.now e) (subst AreWide (pieces_joined at e from.pieces.now first rest.pieces.now is.joined) wide))

      held_is : held ≡ held_with f.held all
      held_is = h ∙ ap (held_with f.held) whole

      can : (f.is_ended ≡ false) × IsTrue (fits held.width (room_in c f.met.floats slot.top slot.tall))
      can = no_end f.is_ended _ t

      by : (is.heads ≡ []) ⊎ AllByRecursion (λ p. IsTrue (is_plain (bare_of p))) (is.head ∷ is.heads) → loading c slot next (parts_at at rest e) ≡ loading c slot f (parts_at at from e)
      by (inl none) = takes-next c slot f (pieces_at at first e) (parts_at at rest e) (parts_at at from e) held items floats next (one_first none) h t b fl n
      by (inr plain) =
          let texts = read_plain at e (is.head ∷ is.heads) plain in
          ap (λ l. loading c slot l (parts_at at rest e))
          (loaded_is c slot f next (pieces_at at first e) held items floats h b fl n
          ∙ (ap (λ l. loaded c slot f (bare l) (float_boxes (bare l)) (held_with f.held l)) whole
          ∙ text_loaded c slot f (bare all) (held_with f.held all) (texts_joined parts texts)))
          ∙ sym (ap (loading c slot f) (read_parts at e from rest (is.head ∷ is.heads) is.parts)
          ∙ at_once c slot parts f (parts_at at rest e) texts wide_first can.0 (subst (λ (x : Held). IsTrue (fits x.width (room_in c f.met.floats slot.top slot.tall))) held_is can.1))

-- ---- segments one after another

-- the first parts of a list, each of which passes, and what is behind them
pub record Led {A : Type 0} (passes : List A → Bool) (xs : List A) (marks : List Bool) (rest : List A) (left : List Bool) (count most : ℕ) : Type 0 where
  pub heads : List (List A)
  pub parts : parts_of xs marks ≡ heads ++ parts_of rest left
  pub joined : xs ≡ flat_map (λ part. part) heads ++ rest
  pub pass : AllByRecursion (λ part. IsTrue (passes part)) heads
  pub counts : count ≡ length heads + 1
  pub few : 2 ≤ count → count ≤ most

module _ {A : Type 0} (passes : List A → Bool) (xs : List A) (marks : List Bool) (most : ℕ) where
  pub led-none : Led passes xs marks xs marks 1 most
  led-none = record { heads = []; parts = refl; joined = refl; pass = tt; counts = refl; few = λ l. absurd (omega (arith, l)) }

  all_joined : (a : List (List A)) (p : List A) → AllByRecursion (λ part. IsTrue (passes part)) a → IsTrue (passes p) → AllByRecursion (λ part. IsTrue (passes part)) (a ++ p ∷ [])
  all_joined [] p t u = (u, tt)
  all_joined (q ∷ a) p t u = (t.0, all_joined a p t.1 u)

  pub led-next : (rest first then : List A) (left after : List Bool) (count next : ℕ) → Led passes xs marks rest left count most → IsFirst rest left first then after
      → IsTrue (passes first) → count < most → next ≡ count + 1 → Led passes xs marks then after next most
  led-next rest first then left after count next led is pass less one =
      let grown = length-append led.heads (first ∷ []) in
      let counts = led.counts in
      record {
        heads = led.heads ++ first ∷ [];
        parts = led.parts ∙ (ap (λ l. led.heads ++ l) is.parts ∙ sym (append_assoc led.heads (first ∷ []) (parts_of then after)));
        joined = led.joined
            ∙ (ap (λ l. flat_map (λ part. part) led.heads ++ l) is.joined
            ∙ (sym (append_assoc (flat_map (λ part. part) led.heads) first then)
            ∙ ap (λ l. l ++ then) (sym (flat_map-append (λ part. part) led.heads (first ∷ []) ∙ ap (λ l. flat_map (λ part. part) led.heads ++ l) (append-nil first)))));
        pass = all_joined led.heads first led.pass pass;
        counts = omega (arith, grown, counts, one);
        few = λ l. omega (arith, less, one);
      }

none_of : {A : Type 0} (xs : List A) → length xs < 1 → xs ≡ []
none_of [] l = refl
none_of (x ∷ xs) l = absurd (omega (arith, l))

front_is : {A : Type 0} (all front rest first : List A) (n : ℕ) → all ≡ front ++ rest → n ≡ length all - length rest → first ≡ take n all → first ≡ front
front_is all front rest first n is count e =
    let long = ap length is ∙ length-append front rest in
    e ∙ (ap (take n) is ∙ (ap (λ k. take k (front ++ rest)) (omega (arith, long, count)) ∙ take-append_seam front rest))

module _ {A : Type 0} (passes : List A → Bool) (all : List A) (bounds : List Bool) (head xs : List A) (marks : List Bool) (most : ℕ) (is : IsFirst all bounds head xs marks) where
  -- the first alone
  pub leap-one : (count : ℕ) → count ≡ 1 → IsLeap passes all bounds head xs marks count most
  leap-one count one = record {
    head = head;
    heads = [];
    parts = is.parts;
    whole = sym (append-nil head);
    joined = is.joined;
    shorter = is.shorter;
    pass = inl refl;
    alone = λ l. refl;
    few = λ l. absurd (omega (arith, l, one));
  }

  pub leap-more : (rest first : List A) (left : List Bool) (count n : ℕ) → IsTrue (passes head) → Led passes xs marks rest left count most → n ≡ length all - length rest → first ≡ take n all
      → IsLeap passes all bounds first rest left count most
  leap-more rest first left count n pass led long e =
      let front = head ++ flat_map (λ part. part) led.heads in
      let joined : all ≡ front ++ rest = is.joined ∙ (ap (λ l. head ++ l) led.joined ∙ sym (append_assoc head (flat_map (λ part. part) led.heads) rest)) in
      let first_is = front_is all front rest first n joined long e in
      let counts = led.counts in
      let shorter = is.shorter in
      let others = ap length led.joined ∙ length-append (flat_map (λ part. part) led.heads) rest in
      record {
        head = head;
        heads = led.heads;
        parts = is.parts ∙ ap (λ l. head ∷ l) led.parts;
        whole = first_is;
        joined = joined ∙ ap (λ l. l ++ rest) (sym first_is);
        shorter = omega (arith, shorter, others);
        pass = inr (pass, led.pass);
        alone = λ l. none_of led.heads (omega (arith, l, counts));
        few = led.few;
      }
