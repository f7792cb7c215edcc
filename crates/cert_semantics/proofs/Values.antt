-- The values of rows depend on the variables that they name, and steps further down keep the variables declared above.
use Rattle.std.proofs.Common.{◌≡◌, ℕ, ◌<◌, ◌≤◌, ◌==◌, ℤ, pos, ◌+ℤ◌, ◌-ℤ◌, ◌*ℤ◌, ◌≤ℤ◌, ◌<ℤ◌, true, false, cond, nat_lt, [], ◌∷◌, refl, sym, ◌∙◌, ap, arith, IsTrue}
use Rattle.std.proofs.lemmas.Int.{ints}
use Rattle.std.proofs.lemmas.Bool.{and_parts}
use Rattle.std.proofs.lemmas.Bool.Decides.{nat_tests}
use Rattle.viz_base.specs.declared.worlds.World.{World}
use Rattle.lin_proof.specs.Form.{Form, Terms, terms_value, value, plus, denied}
use Rattle.lin_proof.proofs.Values.{value-plus, value-denied}
use Rattle.lin_proof.proofs.Whole.{distribute_left, above_by}
use Rattle.lin_proof.specs.Derivations.{are_declared}
use Rattle.cert_semantics.specs.Axes.{axis_count}
use Rattle.cert_semantics.specs.Paths.{def, first, second, lemma, Path, root, ◌▸◌, form_of, variables, with_value, values_at, values_along}
use Rattle.cert_semantics.specs.Facts.{row_of}

-- ---- rows that name the first n variables alone

abbrev pub Agree : ℕ → (ℕ → ℤ) → (ℕ → ℤ) → Type 0
Agree n v w = (x : ℕ) → x < n → v x ≡ w x

abbrev pub Local : ℕ → Form → Type 0
Local n f = (v w : ℕ → ℤ) → Agree n v w → value f v ≡ value f w

local_terms : (n : ℕ) (ts : Terms) → IsTrue (are_declared n ts) → (v w : ℕ → ℤ) → Agree n v w → terms_value ts v ≡ terms_value ts w
local_terms n [] h v w same = refl
local_terms n (t ∷ ts) h v w same =
    let both = and_parts (nat_lt t.0 n) (are_declared n ts) h in
    let less : t.0 < n = grind (arith, nat_tests, both.0) in
    let head = same t.0 less in
    let rest = local_terms n ts both.1 v w same in
    λ i. t.1 *ℤ head i +ℤ rest i

pub declared_local : (n : ℕ) (f : Form) → IsTrue (are_declared n f.terms) → Local n f
declared_local n f h v w same = let rest = local_terms n f.terms h v w same in λ i. f.k +ℤ rest i

pub denied_local : (n : ℕ) (f : Form) → Local n f → Local n (denied f)
denied_local n f h v w same = omega (arith, ints, value-denied f v, value-denied f w, h v w same)

pub plus_local : (n : ℕ) (f : Form) (m : ℤ) (g : Form) → Local n f → Local n g → Local n (plus f m g)
plus_local n f m g h k v w same =
    let one = h v w same in
    let other = k v w same in
    value-plus f m g v ∙ (λ i. one i +ℤ m *ℤ other i) ∙ sym (value-plus f m g w)

pub row_local : (n : ℕ) (k c : ℤ) (x : ℕ) → x < n → Local n (row_of k c x)
row_local n k c x less v w same = let at = same x less in λ i. k +ℤ (c *ℤ at i +ℤ pos 0)

pub more_local : (n m : ℕ) → n ≤ m → (f : Form) → Local n f → Local m f
more_local n m le f h v w same = h v w (λ x less. same x (omega arith))

-- ---- values along paths

pub with_old : (v : ℕ → ℤ) (x : ℕ) (n : ℤ) (y : ℕ) → y < x → with_value v x n y ≡ v y
with_old v x n y less = let other : (y == x) ≡ false = grind (arith, nat_tests) in ap (λ b. cond b n (v y)) other

pub with_new : (v : ℕ → ℤ) (x : ℕ) (n : ℤ) → with_value v x n x ≡ n
with_new v x n = let same : (x == x) ≡ true = grind (arith, nat_tests) in ap (λ b. cond b n (v x)) same

-- the axes' variables are declared along each path
pub axes_declared : (path : Path) → axis_count (form_of path) ≤ variables path
axes_declared (root form) = omega arith
axes_declared (def row d ▸ outer) = let more = axes_declared outer in omega arith
axes_declared (first row ▸ outer) = axes_declared outer
axes_declared (second row ▸ outer) = axes_declared outer
axes_declared (lemma row ▸ outer) = axes_declared outer

-- and they are the same all along it
pub axes_along : (world : World) (path : Path) → Agree (axis_count (form_of path)) (values_along world path) (values_at (form_of path) world)
axes_along world (root form) x less = refl
axes_along world (def row d ▸ outer) x less =
    let above = axes_declared outer in
    with_old (values_along world outer) (variables outer) _ x (omega arith) ∙ axes_along world outer x less
axes_along world (first row ▸ outer) x less = axes_along world outer x less
axes_along world (second row ▸ outer) x less = axes_along world outer x less
axes_along world (lemma row ▸ outer) x less = axes_along world outer x less

-- ---- floors

below_by : (d n a b : ℤ) → pos 0 <ℤ d → n <ℤ (d *ℤ a +ℤ d) → (d *ℤ b) ≤ℤ n → b ≤ℤ a
below_by d n a b above over under =
    let back : a -ℤ b +ℤ b ≡ a = omega (arith, ints) in
    let gap : pos 0 ≤ℤ (a -ℤ b) = above_by d (a -ℤ b) above (omega (arith, ints, distribute_left d (a -ℤ b) b, ap (λ z. d *ℤ z) back)) in
    omega (arith, ints)

-- a number has one floor
pub one_floor : (d n a b : ℤ) → pos 0 <ℤ d → (d *ℤ a) ≤ℤ n → n <ℤ (d *ℤ a +ℤ d) → (d *ℤ b) ≤ℤ n → n <ℤ (d *ℤ b +ℤ d) → a ≡ b
one_floor d n a b above h k i j =
    let le = below_by d n a b above k i in
    let ge = below_by d n b a above j h in
    omega (arith, ints)
