-- What is found of a rectangle, from what is found of its halves.
use Rattle.std.proofs.Common.{◌≡◌, ℕ, zero, suc, ◌+◌, ◌-◌, ◌*◌, ◌<◌, ◌≤◌, pos, negsuc, neg_ℤ, ◌-ℤ◌, Bool, true, nat_lt, nat_le, ◌&&◌, List, [], ◌∷◌, ◌++◌, length, max, Result, Ok, Err, refl, sym, ap, subst, ◌∙◌, arith, inl, inr, rules, codes, IsTrue, length-append}
use Rattle.std.specs.Prelude.{◌⊎◌}
use Rattle.std.specs.List.{AllByRecursion, concat}
use Rattle.std.specs.Result.{IsErr, IsErrAnd}
use Rattle.std.proofs.lemmas.Bool.{false≢true}
use Rattle.std.proofs.lemmas.Bool.Decides.{nat_tests}
use Rattle.std.proofs.lemmas.Int.{ints}
use Rattle.viz_base.specs.Jobs.{IsRange, IsFormed}
use Rattle.viz_base.specs.declared.worlds.World.{World}
use Rattle.viz_base.specs.declared.worlds.Axis.{Axis}
use Rattle.viz_base.specs.declared.worlds.Axis.TheVariants.{Width, Size, Height}
use Rattle.viz_base.specs.declared.worlds.Rect.{Rect}
use Rattle.viz_base.specs.declared.jobs.Job.{Job}
use Rattle.viz_base.proofs.ListLemmas.{all_append}
use Rattle.viz_base.specs.Worlds.{IsInRange, side_of, span_count, world_count}
use Rattle.lin_proof.specs.Form.{Form, denied, form_fits}
use Rattle.lin_proof.specs.Number.{in_i128}
use Rattle.cert_text.specs.declared.certificate.CertNode.{CertNode}
use Rattle.cert_text.specs.declared.certificate.CertNode.TheVariants.{Grid, Split}
use Rattle.cert_text.specs.declared.certificate.CertNode.TheViews.{the_lemmas}
use Rattle.cert_text.specs.declared.certificate.CertNode.TheFolds.{fold-roll-CertNode, fold_out-CertNode}
use Rattle.cert_text.specs.Texts.{Nested, node_text, node_has_text}
use Rattle.cert_text.specs.steps.Write.{row_bytes}
use Rattle.cert_text.proofs.NodeTexts.{text_Grid, text_Split, nested_Grid, nested_Split}
use Rattle.cert_semantics.specs.Axes.{axis_count, variable_of}
use Rattle.cert_semantics.proofs.Variables.{two_axes, own_axis}
use Rattle.cert_semantics.specs.Paths.{first, second, Path, ◌▸◌, form_of, variables}
use Rattle.cert_semantics.specs.Rectangles.{rectangle, left_by}
use Rattle.cert_semantics.specs.Nodes.{by_worlds, splits, node_on, nodes_from}
use Rattle.cert_semantics.specs.Shapes.{is_shaped}
use Rattle.cert_semantics.proofs.Sides.{rectangle_is_units}
use Rattle.cert_semantics.proofs.Trees.{preorder}
use Rattle.cert_semantics.proofs.Values.{axes_declared}
use Rattle.viz_base.specs.Rectangles.{IsWithin, IsProper}
use Rattle.cert_semantics.specs.Units.{is_unit, row_up_to}
use Rattle.cert_check.specs.Truths.{is_true_at}
use Rattle.cert_check.specs.Truths.{IsTrueIn, IsFirstUntrueIn}
use Rattle.cert_check.specs.Right.{IsGood}
use Rattle.cert_check.proofs.GridWorlds.{on_units}
use Rattle.cert_check.proofs.PartSides.{inside_part, some_count}
use Rattle.cert_check.proofs.PlainUnits.{units_computed}
use Rattle.viz_base.specs.declared.halves.Halves.{Halves}
use Rattle.prove_search.specs.declared.plain.Closed.{Closed}
use Rattle.prove_search.specs.declared.plain.Stop.{Stop}
use Rattle.prove_search.specs.declared.plain.Stop.TheVariants.{Mem, Violated, Undecided}
use Rattle.viz_base.specs.Halves.{halves_of}
use Rattle.prove_search.specs.Outcomes.{laid_out_count, IsViolation}
use Rattle.prove_search.specs.steps.Finds.{HasLevels, LeadsTo, IsClosed, IsFinding}
use Rattle.prove_search.proofs.Halving.{IsOfForm, IsHalving, halves_are}
use Rattle.prove_search.proofs.Texts.{in_width, row_spelled, row_short}

-- ---- the folds at each form of node

count_Grid : laid_out_count Grid ≡ 1
count_Grid = search (rules, the_lemmas, fold-roll-CertNode, fold_out-CertNode)

count_Split : (row : Form) (one other : CertNode) → laid_out_count (Split row one other) ≡ laid_out_count one + laid_out_count other
count_Split row one other = search (rules, the_lemmas, fold-roll-CertNode, fold_out-CertNode)

-- ---- a grid

grid_is_good : (job : Job) (r : Rect) → IsProper r → world_count r ≤ 64 → IsTrueIn job r
    → (path : Path) → LeadsTo job path r → IsGood job (node_on path by_worlds)
grid_is_good job r proper small holds path way =
    let few : nat_le (world_count r) 64 ≡ true = grind (arith, nat_tests) in
    let inside = rectangle_is_units job.range path in
    record {
      shaped = ap (λ n. nat_le n 64) (some_count r (rectangle job.range path) (proper, way.left)) ∙ few;
      decides = (
        λ world within. units_computed path way.units world,
        λ world in_range on.
            holds world (inside_part r (rectangle job.range path) (proper, way.left) world ((inside world).1 (in_range, on_units path world on))),
      );
    }

worlds_above : (a b : ℕ) → 1 ≤ a → 1 ≤ b → 1 ≤ a * b
worlds_above zero b la lb = absurd (omega arith)
worlds_above (suc a) zero la lb = absurd (omega arith)
worlds_above (suc a) (suc b) la lb = omega arith

pub some_world : (r : Rect) → IsProper r → 1 ≤ world_count r
some_world r proper =
    let widths = proper.widths in
    let sizes = proper.sizes in
    let heights = proper.heights in
    let some = worlds_above (span_count (side_of Width r)) (span_count (side_of Size r)) (omega arith) (omega arith) in
    worlds_above (span_count (side_of Width r) * span_count (side_of Size r)) (span_count (side_of Height r)) some (omega arith)

pub closes_grid : (job : Job) (r : Rect) (turns : ℕ) → IsProper r → world_count r ≤ 64 → 0 < turns → IsTrueIn job r
    → IsClosed job r turns (record { node = Grid; left = turns - 1 })
closes_grid job r turns proper small turn holds =
    let some = some_world r proper in
    let one = count_Grid in
    let size : length (node_text Grid) ≡ 5 = ap length text_Grid in
    record {
      good = λ path way.
          subst (AllByRecursion (IsGood job)) (sym (preorder.grid path)) (grid_is_good job r proper small holds path way, tt);
      holds = holds;
      one_grid = λ few. refl;
      turn = turn;
      few_grids = omega arith;
      few_turns = omega arith;
      spelled = λ levels depth has fits. ap (λ (f : Nested). f depth) (nested_Grid 1);
      short = omega arith;
    }

pub violates : (job : Job) (r : Rect) (world : World) → IsFirstUntrueIn job r world → IsViolation job r world
violates job r world h = record { in_range = h.in_rectangle; untrue = h.untrue }

-- ---- what stops the search of a half

within_in : (r part : Rect) (world : World) → IsWithin r part → IsInRange part world → IsInRange r world
within_in r part world w i =
    let a = w.width_least in
    let b = w.width_most in
    let c = w.size_least in
    let d = w.size_most in
    let e = i.width_least in
    let f = i.width_most in
    let g = i.size_least in
    let h = i.size_most in
    let j = w.height_least in
    let k = w.height_most in
    let l = i.height_least in
    let m = i.height_most in
    record {
      width_least = omega arith;
      width_most = omega arith;
      size_least = omega arith;
      size_most = omega arith;
      height_least = omega arith;
      height_most = omega arith;
    }

pub within_within : (r part inner : Rect) → IsWithin r part → IsWithin part inner → IsWithin r inner
within_within r part inner w i =
    let a = w.width_least in
    let b = w.width_most in
    let c = w.size_least in
    let d = w.size_most in
    let e = i.width_least in
    let f = i.width_most in
    let g = i.size_least in
    let h = i.size_most in
    let j = w.height_least in
    let k = w.height_most in
    let l = i.height_least in
    let m = i.height_most in
    record {
      width_least = omega arith;
      width_most = omega arith;
      size_least = omega arith;
      size_most = omega arith;
      height_least = omega arith;
      height_most = omega arith;
    }

-- fewer turns than a half needs
too_few : (n a b turns rest : ℕ) → 64 < n → a + b ≡ n → 1 ≤ a → 1 ≤ b → 0 < turns → turns ≤ rest + 2 * a → (rest ≡ 0) ⊎ ((64 < b) × (rest < 2 * b - 1)) → turns < 2 * n - 1
too_few n a b turns rest many sum some_a some_b turn spent (inl e) = omega arith
too_few n a b turns rest many sum some_a some_b turn spent (inr e) = let lt = e.1 in omega arith

too_few_first : (n a b turns : ℕ) → 64 < n → a + b ≡ n → 1 ≤ b → 0 < turns → (turns - 1 ≡ 0) ⊎ ((64 < a) × (turns - 1 < 2 * a - 1)) → turns < 2 * n - 1
too_few_first n a b turns many sum some_b turn (inl e) = omega arith
too_few_first n a b turns many sum some_b turn (inr e) = let lt = e.1 in omega arith

pub stops_first : (job : Job) (r : Rect) (h : Halves) (turns : ℕ) → IsHalving r h → 64 < world_count r → 0 < turns → (stop : Stop)
    → IsFinding job h.first (turns - 1) (Err stop) → IsFinding job r turns (Err stop)
stops_first job r h turns half many turn Mem is = tt
stops_first job r h turns half many turn (Violated world) is =
    (turn, record { in_range = within_in r h.first world half.first_within is.1.in_range; untrue = is.1.untrue })
stops_first job r h turns half many turn (Undecided part) is = record {
  proper = is.proper;
  within = within_within r h.first part half.first_within is.within;
  cause = inr (many, too_few_first (world_count r) (world_count h.first) (world_count h.second) turns many half.count (some_world h.second half.second_proper) turn is.cause);
  whole = λ none. absurd (omega arith);
}

pub stops_second : (job : Job) (r : Rect) (h : Halves) (turns : ℕ) (one : Closed) → IsHalving r h → 64 < world_count r → 0 < turns
    → IsClosed job h.first (turns - 1) one → (stop : Stop) → IsFinding job h.second one.left (Err stop) → IsFinding job r turns (Err stop)
stops_second job r h turns one half many turn closed Mem is = tt
stops_second job r h turns one half many turn closed (Violated world) is =
    (turn, record { in_range = within_in r h.second world half.second_within is.1.in_range; untrue = is.1.untrue })
stops_second job r h turns one half many turn closed (Undecided part) is =
    let spent = closed.few_turns in
    record {
      proper = is.proper;
      within = within_within r h.second part half.second_within is.within;
      cause = inr (many, too_few (world_count r) (world_count h.first) (world_count h.second) turns one.left many half.count (some_world h.first half.first_proper) (some_world h.second half.second_proper) turn (omega arith) is.cause);
      whole = λ none. absurd (omega arith);
    }

-- ---- a split

has_width : (form : ℕ) → IsOfForm form Width
has_width form = let two = two_axes form in grind (arith, nat_tests)

has_size : (form : ℕ) → IsOfForm form Size
has_size form = let two = two_axes form in grind (arith, nat_tests)

-- the axis that is halved has a variable: of a job with one height it is not that of the heights
pub halved_has : (job : Job) (r : Rect) (h : Halves) → IsFormed job.form job.range → IsWithin job.range r → IsHalving r h → IsOfForm job.form h.axis
halved_has job r h formed within half = by_axis h.axis refl
  where
    is_two : (form : ℕ) → 1 ≤ form → form ≤ 2 → (form ≡ 1 → ⊥) → form ≡ 2
    is_two zero low high other = absurd (omega arith)
    is_two (suc zero) low high other = absurd (other refl)
    is_two (suc (suc zero)) low high other = refl
    is_two (suc (suc (suc n))) low high other = absurd (omega arith)

    by_axis : (axis : Axis) → h.axis ≡ axis → IsOfForm job.form axis
    by_axis Width is = has_width job.form
    by_axis Size is = has_size job.form
    by_axis Height is =
        let low = half.low in
        let high = half.high in
        let a = within.height_least in
        let b = within.height_most in
        let lower : r.hl ≤ h.middle = rw is at low in
        let higher : h.middle < r.hh = rw is at high in
        let form = is_two job.form formed.least formed.most (λ one. let same = formed.one_height one in omega arith) in
        rw form refl

unit_row : (form : ℕ) (axis : Axis) (m : ℕ) → IsOfForm form axis → IsTrue (is_unit form (row_up_to axis m))
unit_row form axis m has =
    let low : variable_of axis < axis_count form = grind (arith, nat_tests) in
    rw (own_axis axis form low) refl

-- its variable is declared along each path
split_shaped : (range : Rect) (path : Path) (axis : Axis) (m : ℕ) → IsOfForm (form_of path) axis
    → is_shaped range path (splits (row_up_to axis m)) ≡ true
split_shaped range path axis m has =
    let all = axes_declared path in
    let low : variable_of axis < axis_count (form_of path) = grind (arith, nat_tests) in
    let less : nat_lt (variable_of axis) (variables path) ≡ true = grind (arith, nat_tests) in
    rw less refl

denial_fits : (axis : Axis) (m : ℕ) → m ≤ 16384 → IsTrue (form_fits (denied (row_up_to axis m)))
denial_fits axis m high =
    let constant : neg_ℤ (pos m) -ℤ pos 1 ≡ negsuc m = omega (arith, ints) in
    let fits : in_i128 (neg_ℤ (pos m) -ℤ pos 1) ≡ true = ap in_i128 constant ∙ (in_width m high).1 in
    rw fits refl

abbrev IsGoodBelow : Job → Rect → CertNode → Type 0
IsGoodBelow job r node = (path : Path) → LeadsTo job path r → AllByRecursion (IsGood job) (nodes_from node path)

split_is_good : (job : Job) (r : Rect) (h : Halves) (one other : CertNode) → IsHalving r h → h.middle ≤ 16384 → IsOfForm job.form h.axis
    → IsGoodBelow job h.first one → IsGoodBelow job h.second other → IsGoodBelow job r (Split (row_up_to h.axis h.middle) one other)
split_is_good job r h one other half high of_job good_one good_other path way =
    let row = row_up_to h.axis h.middle in
    let form = form_of path in
    let of_form : IsOfForm form h.axis = subst (λ n. IsOfForm n h.axis) (sym way.form) of_job in
    let unit = unit_row form h.axis h.middle of_form in
    let first_path : Path = first row ▸ path in
    let second_path : Path = second row ▸ path in
    let firsts = good_one first_path
    (record { form = way.form; units = (unit, way.units); left = ap (left_by form row) way.left ∙ half.first_left form of_form }) in
    let seconds = good_other second_path
    (record { form = way.form; units = (unit, way.units); left = ap (left_by form (denied row)) way.left ∙ half.second_left form of_form }) in
    let here : IsGood job (node_on path (splits row)) = record {
      shaped = split_shaped job.range path h.axis h.middle of_form;
      decides = denial_fits h.axis h.middle high;
    } in
    subst (AllByRecursion (IsGood job)) (sym (preorder.split row one other path))
    (here, all_append (IsGood job) (nodes_from one first_path) (nodes_from other second_path) firsts seconds)

covered : (job : Job) (r : Rect) (h : Halves) → IsHalving r h → IsTrueIn job h.first → IsTrueIn job h.second → IsTrueIn job r
covered job r h half f g world i = by_half (half.covers world i)
  where
    by_half : IsInRange h.first world ⊎ IsInRange h.second world → IsTrue (is_true_at job world)
    by_half (inl j) = f world j
    by_half (inr j) = g world j

-- a part below which splits may stand as deep as it can be halved has a text
abbrev HasText : Rect → CertNode → Type 0
HasText r node = (levels depth : ℕ) → HasLevels levels r → levels ≤ depth → IsTrue (node_has_text 1 node depth)

spelled_by : (a b c d : Bool) → a ≡ true → b ≡ true → c ≡ true → d ≡ true → (a && b && c && d) ≡ true
spelled_by a b c d e f g h = rw (e, f, g, h) refl

split_spelled : (r : Rect) (h : Halves) (one other : CertNode) → IsHalving r h → h.middle ≤ 16384
    → HasText h.first one → HasText h.second other → HasText r (Split (row_up_to h.axis h.middle) one other)
split_spelled r h one other half high f g levels depth has fits =
    let row = row_up_to h.axis h.middle in
    let s = half.levels levels has in
    let step = s.step in
    let deep : nat_lt 0 depth ≡ true = grind (arith, nat_tests) in
    let parts = spelled_by _ _ _ _ deep (row_spelled h.axis h.middle high) (f s.less (depth - 1) s.first_has (omega arith)) (g s.less (depth - 1) s.second_has (omega arith)) in
    ap (λ (t : Nested). t depth) (nested_Split 1 row one other) ∙ parts

-- the text of a split: at most 17 bytes and those of its children
split_size : (row one other : List ℕ) → length (concat (codes "split " ∷ row ∷ codes "\n" ∷ []) ++ (one ++ other)) ≡ 7 + (length row + (length one + length other))
split_size row one other = simp length-append (omega arith)

short_split : (n a b i j k size : ℕ) → 64 < n → a + b ≡ n → n ≤ 3 * a → n ≤ 3 * b → k ≤ 10 → i + 17 ≤ max 22 a → j + 17 ≤ max 22 b → size ≡ 7 + (k + (i + j)) → size + 17 ≤ max 22 n
short_split n a b i j k size many sum third_a third_b row one other whole =
    let first_some : max 22 a ≡ a = omega arith in
    let second_some : max 22 b ≡ b = omega arith in
    omega arith

pub closes_split : (job : Job) (r : Rect) (h : Halves) (turns : ℕ) (one other : Closed) (node : CertNode) → IsHalving r h → 64 < world_count r → 0 < turns → h.middle ≤ 16384 → IsOfForm job.form h.axis
    → IsClosed job h.first (turns - 1) one → IsClosed job h.second one.left other → node ≡ Split (row_up_to h.axis h.middle) one.node other.node
    → IsClosed job r turns (record { node = node; left = other.left })
closes_split job r h turns one other node half many turn high of_job f g is =
    subst (λ n. IsClosed job r turns (record { node = n; left = other.left })) (sym is)
    (let row = row_up_to h.axis h.middle in
    let count = half.count in
    let spent = f.few_turns in
    let spent_too = g.few_turns in
    let some = some_world h.first half.first_proper in
    let laid_out = count_Split row one.node other.node in
    let few_of_one = f.few_grids in
    let few_of_other = g.few_grids in
    record {
      good = split_is_good job r h one.node other.node half high of_job f.good g.good;
      holds = covered job r h half f.holds g.holds;
      one_grid = λ few. absurd (omega arith);
      turn = turn;
      few_grids = omega arith;
      few_turns = omega arith;
      spelled = split_spelled r h one.node other.node half high f.spelled g.spelled;
      short =
          short_split (world_count r) (world_count h.first) (world_count h.second) (length (node_text one.node)) (length (node_text other.node)) (length (row_bytes row)) _
          many count half.first_third half.second_third (row_short h.axis h.middle high) f.short g.short
          (ap length (text_Split row one.node other.node) ∙ split_size (row_bytes row) (node_text one.node) (node_text other.node));
    })

-- ---- the parts that the prover goes through

pub halving_of : (r : Rect) (h : Halves) → IsProper r → 64 < world_count r → h ≡ halves_of r → IsHalving r h
halving_of r h proper many is = subst (IsHalving r) (sym is) (halves_are r proper many)

pub middle_bound : (range r : Rect) (h : Halves) → IsRange range → IsWithin range r → IsHalving r h → h.middle ≤ 16384
middle_bound range r h known w half = by_axis h.axis half.high
  where
    by_axis : (axis : Axis) → h.middle < (side_of axis r).most → h.middle ≤ 16384
    by_axis Width less = let a = w.width_most in let b = known.width_most in omega arith
    by_axis Size less = let a = w.size_most in let b = known.size_most in omega arith
    by_axis Height less = let a = w.height_most in let b = known.height_most in omega arith

less : (a b n : ℕ) → a + b ≡ n → 1 ≤ b → a < n
less a b n sum some = omega arith

less_too : (a b n : ℕ) → a + b ≡ n → 1 ≤ a → b < n
less_too a b n sum some = omega arith

pub first_fewer : (r : Rect) (h : Halves) → IsHalving r h → world_count h.first < world_count r
first_fewer r h half = less (world_count h.first) (world_count h.second) (world_count r) half.count (some_world h.second half.second_proper)

pub second_fewer : (r : Rect) (h : Halves) → IsHalving r h → world_count h.second < world_count r
second_fewer r h half = less_too (world_count h.first) (world_count h.second) (world_count r) half.count (some_world h.first half.first_proper)

-- what a `?` passes on
pub passed_on : (job : Job) (r : Rect) (turns : ℕ) (result : Result Closed Stop) (stop : Stop) → IsErr result × IsErrAnd result (λ x. x ≡ stop) → IsFinding job r turns (Err stop) → IsFinding job r turns result
passed_on job r turns (Ok closed) stop h finding = absurd (false≢true h.0)
passed_on job r turns (Err e) stop h finding = subst (λ x. IsFinding job r turns (Err x)) (sym h.1) finding
