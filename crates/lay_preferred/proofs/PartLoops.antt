-- What is left of a part, piece by piece.
use Rattle.std.proofs.Common.{◌≡◌, ℕ, ◌+◌, ◌<◌, ℤ, unsigned_abs, List, [], ◌∷◌, ◌++◌, drop, get_or, length, sym, ap, ◌∙◌, arith}
use Rattle.std.proofs.lemmas.List.{at_drop_more}
use Rattle.viz_base.specs.declared.layouts.Preferred.{Preferred}
use Rattle.viz_calc.specs.World.{Reading}
use Rattle.lay_line.specs.declared.held.Piece.{Piece}
use Rattle.lay_preferred.specs.Fitting.{leasts, mosts}
use Rattle.lay_preferred.specs.Readings.{sizes_at}

module _ {N : Type 0} (at : N → Reading → ℤ) (e : Reading) where
  pub leasts-next : (ps : List (Piece (Preferred N))) (k : ℕ) (p : Piece (Preferred N)) → k < length ps → p ≡ get_or ps k p
      → leasts (sizes_at at (drop k ps) e) ≡ unsigned_abs (at p.width.least e) + leasts (sizes_at at (drop (k + 1) ps) e)
  leasts-next ps k p lt is =
      at_drop_more (λ l. leasts (sizes_at at l e)) ps k p lt
      ∙ ap (λ (q : Piece (Preferred N)). unsigned_abs (at q.width.least e) + leasts (sizes_at at (drop (k + 1) ps) e)) (sym is)

  pub mosts-next : (ps : List (Piece (Preferred N))) (k : ℕ) (p : Piece (Preferred N)) → k < length ps → p ≡ get_or ps k p
      → mosts (sizes_at at (drop k ps) e) ≡ unsigned_abs (at p.width.most e) + mosts (sizes_at at (drop (k + 1) ps) e)
  mosts-next ps k p lt is =
      at_drop_more (λ l. mosts (sizes_at at l e)) ps k p lt
      ∙ ap (λ (q : Piece (Preferred N)). unsigned_abs (at q.width.most e) + mosts (sizes_at at (drop (k + 1) ps) e)) (sym is)

  pub leasts-joined : (ps qs : List (Piece (Preferred N))) → leasts (sizes_at at (ps ++ qs) e) ≡ leasts (sizes_at at ps e) + leasts (sizes_at at qs e)
  leasts-joined [] qs = omega arith
  leasts-joined (p ∷ ps) qs = let rest = leasts-joined ps qs in omega (arith, rest)

  pub mosts-joined : (ps qs : List (Piece (Preferred N))) → mosts (sizes_at at (ps ++ qs) e) ≡ mosts (sizes_at at ps e) + mosts (sizes_at at qs e)
  mosts-joined [] qs = omega arith
  mosts-joined (p ∷ ps) qs = let rest = mosts-joined ps qs in omega (arith, rest)
