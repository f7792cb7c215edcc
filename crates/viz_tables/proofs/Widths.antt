-- What is right of widths one after another.
use Rattle.std.proofs.Common.{◌≡◌, ◌∙◌, ℕ, suc, zero, ◌+◌, ◌-◌, ◌<◌, ◌≤◌, ◌&&◌, Bool, true, false, List, [], ◌∷◌, ◌++◌, length, take, refl, sym, ap, subst, arith, leb-true, leb-false}
use Rattle.std.specs.Prelude.{nat_le, replicate, slice_get, Some}
use Rattle.std.specs.List.{AllByRecursion}
use Rattle.viz_base.proofs.ListLemmas.{all_parts}
use Rattle.viz_base.specs.declared.jobs.Job.{Job}
use Rattle.viz_base.specs.declared.worlds.Rect.{Rect}
use Rattle.viz_base.specs.declared.worlds.World.{World}
use Rattle.cert_check.specs.Truths.{is_true_at}
use Rattle.viz_replies.specs.Parts.{are_true_at}
use Rattle.viz_tables.specs.declared.words.Word.{Word}
use Rattle.viz_tables.specs.declared.words.Word.TheVariants.{Holds, Fails, Undecided}
use Rattle.viz_tables.specs.Joins.{both_words}
use Rattle.viz_tables.specs.Words.{AreRight, IsRight, both}

-- ---- numbers from one to another

-- what is so up to a number and of the next is so up to that
pub up_to_next : (P : ℕ → Type 0) (from w : ℕ) → ((x : ℕ) → from ≤ x → x ≤ w → P x) → P (w + 1) → (x : ℕ) → from ≤ x → x ≤ w + 1 → P x
up_to_next P from w before next x least most = by_test (nat_le x w) refl
  where
    by_test : (b : Bool) → nat_le x w ≡ b → P x
    by_test true is = before x least (leb-true x w is)
    by_test false is =
        let above = leb-false x w is in
        let same : w + 1 ≡ x = omega (arith, above, most) in
        subst P same next

pub only_one : (P : ℕ → Type 0) (w : ℕ) → P w → (x : ℕ) → w ≤ x → x ≤ w → P x
only_one P w h x least most = let same : w ≡ x = omega (arith, least, most) in subst P same h

-- ---- lists

pub right_append : (range : Rect) (truth : World → Bool) (turns w : ℕ) (xs ys : List Word) → AreRight range truth turns w xs → AreRight range truth turns (w + length xs) ys → AreRight range truth turns w (xs ++ ys)
right_append range truth turns w [] ys h k = subst (λ n. AreRight range truth turns n ys) (omega arith) k
right_append range truth turns w (x ∷ xs) ys h k = (h.0, right_append range truth turns (suc w) xs ys h.1 (subst (λ n. AreRight range truth turns n ys) (omega arith) k))

pub right_replicate : (range : Rect) (truth : World → Bool) (turns n w : ℕ) (word : Word) → ((x : ℕ) → w ≤ x → x < w + n → IsRight range truth turns word x) → AreRight range truth turns w (replicate n word)
right_replicate range truth turns zero w word h = tt
right_replicate range truth turns (suc n) w word h =
    (h w (omega arith) (omega arith), right_replicate range truth turns n (suc w) word (λ x least most. h x (omega (arith, least)) (omega (arith, most))))

-- what is right of each is right at a place
pub right_at : (range : Rect) (truth : World → Bool) (turns w : ℕ) (words : List Word) (at : ℕ) (word : Word) → AreRight range truth turns w words → slice_get words at ≡ Some word
    → IsRight range truth turns word (w + at)
right_at range truth turns w [] at word h is = absurd (cc)
right_at range truth turns w (x ∷ xs) zero word h is =
    let same : x ≡ word = cc in
    let here : w ≡ w + 0 = omega arith in
    subst (λ n. IsRight range truth turns word n) here (subst (λ y. IsRight range truth turns y w) same h.0)
right_at range truth turns w (x ∷ xs) (suc at) word h is =
    subst (λ n. IsRight range truth turns word n) (omega arith) (right_at range truth turns (suc w) xs at word h.1 is)

-- ---- an assertion that consists of two

module _ (range : Rect) (p q : World → Bool) (turns : ℕ) where
  abbrev all_of : World → Bool
  all_of world = p world && q world

  both_true : (a b : Bool) → a ≡ true → b ≡ true → (a && b) ≡ true
  both_true true true e f = refl
  both_true true false e f = f
  both_true false b e f = e

  first_false : (a b : Bool) → a ≡ false → (a && b) ≡ false
  first_false false b e = refl
  first_false true b e = absurd (cc)

  second_false : (a b : Bool) → b ≡ false → (a && b) ≡ false
  second_false false b e = refl
  second_false true b e = e

  fails_by_first : (w : ℕ) → IsRight range p turns Fails w → IsRight range all_of turns Fails w
  fails_by_first w h = (h.0, h.1, first_false (p h.0) (q h.0) h.2)

  fails_by_second : (w : ℕ) → IsRight range q turns Fails w → IsRight range all_of turns Fails w
  fails_by_second w h = (h.0, h.1, second_false (p h.0) (q h.0) h.2)

  both_right : (w : ℕ) (a b : Word) → IsRight range p turns a w → IsRight range q turns b w → IsRight range all_of turns (both a b) w
  both_right w Fails b h k = fails_by_first w h
  both_right w Holds Holds h k = λ world is. both_true (p world) (q world) (h world is) (k world is)
  both_right w Holds Fails h k = fails_by_second w k
  both_right w Holds Undecided h k = k
  both_right w Undecided Fails h k = fails_by_second w k
  both_right w Undecided Holds h k = h
  both_right w Undecided Undecided h k = h

  pub both_are_right : (w : ℕ) (xs ys : List Word) → length xs ≡ length ys → AreRight range p turns w xs → AreRight range q turns w ys → AreRight range all_of turns w (both_words xs ys)
  both_are_right w [] ys e h k = tt
  both_are_right w (a ∷ xs) [] e h k = absurd (omega (arith, e))
  both_are_right w (a ∷ xs) (b ∷ ys) e h k = (both_right w a b h.0 k.0, both_are_right (suc w) xs ys (omega (arith, e)) h.1 k.1)

pub both_count : (xs ys : List Word) → length xs ≡ length ys → length (both_words xs ys) ≡ length xs
both_count [] ys e = refl
both_count (a ∷ xs) [] e = absurd (omega (arith, e))
both_count (a ∷ xs) (b ∷ ys) e = ap suc (both_count xs ys (omega (arith, e)))

-- the same of worlds at which as much is true
same_right : (range : Rect) (p q : World → Bool) (turns w : ℕ) (word : Word) → ((world : World) → p world ≡ q world) → IsRight range p turns word w → IsRight range q turns word w
same_right range p q turns w Holds same h = λ world is. sym (same world) ∙ h world is
same_right range p q turns w Fails same h = (h.0, h.1, sym (same h.0) ∙ h.2)
same_right range p q turns w Undecided same h = h

pub same_are_right : (range : Rect) (p q : World → Bool) (turns w : ℕ) (words : List Word) → ((world : World) → p world ≡ q world) → AreRight range p turns w words → AreRight range q turns w words
same_are_right range p q turns w [] same h = tt
same_are_right range p q turns w (word ∷ words) same h = (same_right range p q turns w word same h.0, same_are_right range p q turns (suc w) words same h.1)

-- ---- jobs

and_more : (a b c : Bool) → ((a && b) && c) ≡ (a && (b && c))
and_more true b c = refl
and_more false b c = refl

and_true : (a : Bool) → (true && a) ≡ (a && true)
and_true true = refl
and_true false = refl

true_of_more : (jobs : List Job) (job : Job) (world : World) → (are_true_at jobs world && is_true_at job world) ≡ are_true_at (jobs ++ job ∷ []) world
true_of_more [] job world = and_true (is_true_at job world)
true_of_more (one ∷ jobs) job world = and_more (is_true_at one world) (are_true_at jobs world) (is_true_at job world) ∙ ap (λ b. is_true_at one world && b) (true_of_more jobs job world)

-- no job says anything
pub none_are_right : (range : Rect) (turns n w : ℕ) → AreRight range (are_true_at []) turns w (replicate n Holds)
none_are_right range turns n w = right_replicate range (are_true_at []) turns n w Holds (λ x least most world is. refl)

-- one job more
pub more_are_right : (range : Rect) (turns w : ℕ) (jobs front : List Job) (job : Job) (others own : List Word) → jobs ≡ front ++ job ∷ [] → length others ≡ length own
    → AreRight range (are_true_at front) turns w others → AreRight range (is_true_at job) turns w own → AreRight range (are_true_at jobs) turns w (both_words others own)
more_are_right range turns w jobs front job others own e count h k =
    subst (λ js. AreRight range (are_true_at js) turns w (both_words others own)) (sym e)
    (same_are_right range (λ world. are_true_at front world && is_true_at job world) (are_true_at (front ++ job ∷ [])) turns w (both_words others own) (true_of_more front job)
    (both_are_right range (are_true_at front) (is_true_at job) turns w others own count h k))

pub none_left : (xs ys : List Job) (n : ℕ) → n ≡ 0 → xs ≡ ys ++ [] → ys ≡ take (n - 1) xs → xs ≡ []
none_left xs ys n none e rest = e ∙ ap (λ zs. zs ++ []) (rest ∙ ap (λ m. take (m - 1) xs) none)

pub none_words : (range : Rect) (turns n : ℕ) (jobs : List Job) (words : List Word) → jobs ≡ [] → words ≡ replicate n Holds → AreRight range (are_true_at jobs) turns range.wl words
none_words range turns n jobs words none e =
    subst (λ js. AreRight range (are_true_at js) turns range.wl words) (sym none) (subst (AreRight range (are_true_at []) turns range.wl) (sym e) (none_are_right range turns n range.wl))

-- one job more, behind the others
module _ (range : Rect) (turns : ℕ) (jobs front : List Job) (job : Job) (others own : List Word) (whole : jobs ≡ front ++ job ∷ []) (over : AllByRecursion (λ (j : Job). j.range ≡ range) jobs)
    (others_count : range.wl + length others ≡ range.wh + 1) (own_count : job.range.wl + length own ≡ job.range.wh + 1)
  where
    its_range : job.range ≡ range
    its_range = (all_parts (λ (j : Job). j.range ≡ range) front (job ∷ []) (subst (AllByRecursion (λ (j : Job). j.range ≡ range)) whole over)).1.0

    pub same_count : length others ≡ length own
    same_count =
        let least = ap (λ (r : Rect). r.wl) its_range in
        let most = ap (λ (r : Rect). r.wh) its_range in
        omega (arith, least, most, others_count, own_count)

    pub more_words : (words : List Word) → AreRight range (are_true_at front) turns range.wl others → AreRight job.range (is_true_at job) turns job.range.wl own → words ≡ both_words others own
        → AreRight range (are_true_at jobs) turns range.wl words
    more_words words h k e =
        subst (AreRight range (are_true_at jobs) turns range.wl) (sym e)
        (more_are_right range turns range.wl jobs front job others own whole same_count h (subst (λ (r : Rect). AreRight r (is_true_at job) turns r.wl own) its_range k))

    pub more_count : (words : List Word) → words ≡ both_words others own → range.wl + length words ≡ range.wh + 1
    more_count words e =
        let count : length words ≡ length others = ap length e ∙ both_count others own same_count in
        omega (arith, count, others_count)
