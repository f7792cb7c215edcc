-- The next line, from the pieces that its segments are made of.
use Rattle.std.proofs.Common.{◌≡◌, ℕ, zero, suc, ◌-◌, ◌<◌, arith, ℤ, Bool, true, false, List, [], ◌∷◌, ◌++◌, map, length, take, refl, sym, ap, ◌∙◌, append_assoc}
use Rattle.std.proofs.lemmas.List.{length-map, map-append, take-map}
use Rattle.viz_base.specs.declared.layouts.Entry.{Entry}
use Rattle.viz_calc.specs.World.{Reading}
use Rattle.layout_semantics.specs.LineFilling.{Met}
use Rattle.layout_semantics.specs.LineHeights.{InlineContext}
use Rattle.layout_semantics.specs.Lines.{SoFar, LaidLines}
use Rattle.lay_line.specs.Readings.{piece_at, pieces_at, parts_at}
use Rattle.lay_line.specs.declared.held.Piece.{Piece}
use Rattle.lay_line.specs.declared.segments.Segments.{Segments}
use Rattle.lay_line.specs.steps.Held.{Held, nothing_held}
use Rattle.lay_line.specs.steps.Lining.{met_before, slot_for, first_load, ended_line, joined_parts, taken, next_in, going_on, laying}
use Rattle.lay_line.specs.steps.Loading.{Load, loading, parted_by, parts_of}
use Rattle.lay_line.specs.steps.Measured.{Measured, held_with}
use Rattle.lay_line.specs.steps.Meeting.{Slot, top_in}

abbrev slot_of : ℤ → ℤ → ℤ → Slot
slot_of top tall least = record { top = top; tall = tall; least = least }

-- ---- parts

module _ {A B : Type 0} (f : A → B) where
  parted-mapped : (x : A) (b : Bool) (parts : List (List A)) → map (map f) (parted_by x b parts) ≡ parted_by (f x) b (map (map f) parts)
  parted-mapped x true parts = refl
  parted-mapped x false [] = refl
  parted-mapped x false (part ∷ parts) = refl

  pub parts-mapped : (xs : List A) (marks : List Bool) → map (map f) (parts_of xs marks) ≡ parts_of (map f xs) marks
  parts-mapped [] marks = refl
  parts-mapped (x ∷ xs) [] = parted-mapped x false (parts_of xs []) ∙ ap (parted_by (f x) false) (parts-mapped xs [])
  parts-mapped (x ∷ xs) (m ∷ marks) = parted-mapped x m (parts_of xs marks) ∙ ap (parted_by (f x) m) (parts-mapped xs marks)

joined-parted : (x : Measured) (b : Bool) (parts : List (List Measured)) → joined_parts (parted_by x b parts) ≡ x ∷ joined_parts parts
joined-parted x true parts = refl
joined-parted x false [] = refl
joined-parted x false (part ∷ parts) = refl

joined-same : (xs : List Measured) (marks : List Bool) → joined_parts (parts_of xs marks) ≡ xs
joined-same [] marks = refl
joined-same (x ∷ xs) [] = joined-parted x false (parts_of xs []) ∙ ap (λ l. x ∷ l) (joined-same xs [])
joined-same (x ∷ xs) (m ∷ marks) = joined-parted x m (parts_of xs marks) ∙ ap (λ l. x ∷ l) (joined-same xs marks)

module _ {N : Type 0} (at : N → Reading → ℤ) (e : Reading) where
  pub parts-read : (s : Segments N) → parts_at at s e ≡ parts_of (pieces_at at s.pieces.now e) s.marks.now
  parts-read s = parts-mapped (λ p. piece_at at p e) s.pieces.now s.marks.now

  pub joined-read : (s : Segments N) → joined_parts (parts_at at s e) ≡ pieces_at at s.pieces.now e
  joined-read s = ap joined_parts (parts-read s) ∙ joined-same (pieces_at at s.pieces.now e) s.marks.now

  -- what a line took of all
  pub taken-read : (pieces first line : List (Piece N)) (rest left : Segments N) (n : ℕ) → pieces ≡ first ++ rest.pieces.now → n ≡ length pieces - length left.pieces.now → line ≡ take n pieces
      → pieces_at at line e ≡ taken (joined_parts (pieces_at at first e ∷ parts_at at rest e)) (joined_parts (parts_at at left e))
  taken-read pieces first line rest left n all count front =
      let f : Piece N → Measured = λ p. piece_at at p e in
      let whole : joined_parts (pieces_at at first e ∷ parts_at at rest e) ≡ map f pieces =
      ap (λ l. pieces_at at first e ++ l) (joined-read rest) ∙ (sym (map-append f first rest.pieces.now) ∙ ap (map f) (sym all)) in
      let long : n ≡ length (map f pieces) - length (map f left.pieces.now) =
      count ∙ (ap (λ k. k - length left.pieces.now) (sym (length-map pieces f)) ∙ ap (λ k. length (map f pieces) - k) (sym (length-map left.pieces.now f))) in
      ap (map f) front
      ∙ (sym (take-map f n pieces)
      ∙ (ap (λ k. take k (map f pieces)) long
      ∙ sym (ap (λ l. taken l (joined_parts (parts_at at left e))) whole ∙ ap (taken (map f pieces)) (joined-read left))))

  -- fewer are left behind the first segment
  pub shorter-read : (pieces first : List (Piece N)) (rest : Segments N) → pieces ≡ first ++ rest.pieces.now → length rest.pieces.now < length pieces
      → length (joined_parts (parts_at at rest e)) < length (pieces_at at first e ++ joined_parts (parts_at at rest e))
  shorter-read pieces first rest all less =
      let f : Piece N → Measured = λ p. piece_at at p e in
      let left : length (joined_parts (parts_at at rest e)) ≡ length rest.pieces.now = ap length (joined-read rest) ∙ length-map rest.pieces.now f in
      let whole : length (pieces_at at first e ++ joined_parts (parts_at at rest e)) ≡ length pieces =
      ap (λ l. length (map f first ++ l)) (joined-read rest) ∙ (ap length (sym (map-append f first rest.pieces.now) ∙ ap (map f) (sym all)) ∙ length-map pieces f) in
      omega (arith, left, whole, less)

-- ---- one line

pub slot-is : (c : InlineContext) (tall : ℤ) (now : SoFar) (before : Met) (width top high least : ℤ) → top ≡ top_in c before.floats now.y tall width → high ≡ tall → least ≡ now.least
    → slot_of top high least ≡ slot_for c tall now before width
slot-is c tall now before width top high least t h l =
    ap (λ x. slot_of x high least) t ∙ (ap (λ x. slot_of (top_in c before.floats now.y tall width) x least) h ∙ ap (slot_of (top_in c before.floats now.y tall width) tall) l)

module _ (c : InlineContext) (tall : ℤ) (now : SoFar) (first : List Measured) (rest : List (List Measured)) where
  pub next-is : (held : Held) (before : Met) (slot : Slot) (load : Load) (full : Load × List (List Measured)) (items : List Measured)
      → held ≡ held_with nothing_held first → before ≡ met_before c now first → slot ≡ slot_for c tall now before held.width
      → load ≡ first_load c slot before now.opened first held → full ≡ loading c slot load rest
      → items ≡ taken (joined_parts (first ∷ rest)) (joined_parts full.1)
      → next_in c tall now first rest ≡ (ended_line c now slot full.0 items, full.1)
  unfolding next_in
  next-is held before slot load full items h b s l f i =
      ap of_held (sym h)
      ∙ (ap (of_before held) (sym b)
      ∙ (ap (of_slot held before) (sym s)
      ∙ (ap (λ x. of_loaded slot (loading c slot x rest)) (sym l)
      ∙ (ap (of_loaded slot) (sym f)
      ∙ ap (λ x. (ended_line c now slot full.0 x, full.1)) (sym i)))))
    where
      of_loaded : Slot → Load × List (List Measured) → LaidLines × List (List Measured)
      of_loaded slot f = (ended_line c now slot f.0 (taken (joined_parts (first ∷ rest)) (joined_parts f.1)), f.1)

      of_slot : Held → Met → Slot → LaidLines × List (List Measured)
      of_slot h b slot = of_loaded slot (loading c slot (first_load c slot b now.opened first h) rest)

      of_before : Held → Met → LaidLines × List (List Measured)
      of_before h b = of_slot h b (slot_for c tall now b h.width)

      of_held : Held → LaidLines × List (List Measured)
      of_held h = of_before h (met_before c now first)

-- ---- line by line

module _ (c : InlineContext) (tall : ℤ) (now : SoFar) where
  laying-next : (k n : ℕ) (first : List Measured) (rest parts : List (List Measured)) → n ≡ suc k → parts ≡ first ∷ rest
      → laying n c tall now parts ≡ going_on (laying k c tall) (next_in c tall now first rest)
  unfolding laying
  laying-next k n first rest parts e f = ap (λ m. laying m c tall now parts) e ∙ ap (laying (suc k) c tall now) f

  laying-none : (n : ℕ) (parts : List (List Measured)) → parts ≡ [] → laying n c tall now parts ≡ record { after = now; entries = [] }
  unfolding laying
  laying-none zero parts e = refl
  laying-none (suc n) parts e = ap (laying (suc n) c tall now) e

  pub after-next : (k n : ℕ) (first : List Measured) (rest parts : List (List Measured)) (then : SoFar) (left : List (List Measured)) → n ≡ suc k → parts ≡ first ∷ rest
      → then ≡ (next_in c tall now first rest).0.after → left ≡ (next_in c tall now first rest).1 → (laying k c tall then left).after ≡ (laying n c tall now parts).after
  after-next k n first rest parts then left e f a l =
      ap (λ x. (laying k c tall x left).after) a
      ∙ (ap (λ x. (laying k c tall (next_in c tall now first rest).0.after x).after) l
      ∙ sym (ap (λ (x : LaidLines). x.after) (laying-next k n first rest parts e f)))

  pub added-next : (k n : ℕ) (first : List Measured) (rest parts : List (List Measured)) (then : SoFar) (left : List (List Measured)) (old new : List (Entry ℤ)) → n ≡ suc k → parts ≡ first ∷ rest
      → then ≡ (next_in c tall now first rest).0.after → left ≡ (next_in c tall now first rest).1 → new ≡ old ++ (next_in c tall now first rest).0.entries
      → new ++ (laying k c tall then left).entries ≡ old ++ (laying n c tall now parts).entries
  added-next k n first rest parts then left old new e f a l w =
      let next = next_in c tall now first rest in
      ap (λ x. new ++ (laying k c tall x left).entries) a
      ∙ (ap (λ x. new ++ (laying k c tall next.0.after x).entries) l
      ∙ (ap (λ x. x ++ (laying k c tall next.0.after next.1).entries) w
      ∙ (append_assoc old next.0.entries (laying k c tall next.0.after next.1).entries
      ∙ sym (ap (λ (x : LaidLines). old ++ x.entries) (laying-next k n first rest parts e f)))))

  pub after-all : (n : ℕ) (parts : List (List Measured)) → n ≡ 0 → (laying n c tall now parts).after ≡ now
  unfolding laying
  after-all n parts e = ap (λ m. (laying m c tall now parts).after) e

  pub added-all : (n : ℕ) (parts : List (List Measured)) → n ≡ 0 → (laying n c tall now parts).entries ≡ []
  unfolding laying
  added-all n parts e = ap (λ m. (laying m c tall now parts).entries) e

  pub after-none : (n : ℕ) (parts : List (List Measured)) → parts ≡ [] → (laying n c tall now parts).after ≡ now
  after-none n parts e = ap (λ (x : LaidLines). x.after) (laying-none n parts e)

  pub added-none : (n : ℕ) (parts : List (List Measured)) → parts ≡ [] → (laying n c tall now parts).entries ≡ []
  added-none n parts e = ap (λ (x : LaidLines). x.entries) (laying-none n parts e)
