-- What adjoining margins, with the floats between them, mean at a reading.
use Rattle.std.specs.Prelude.{◌≡◌, ℕ, ℤ, List, map, Bool, Option, Some, None}
use Rattle.viz_base.specs.declared.layouts.Lead.{Lead}
use Rattle.viz_base.specs.declared.layouts.Waiting.{Waiting}
use Rattle.viz_calc.specs.World.{Reading}
use Rattle.viz_calc.specs.Renderings.{band_at}
use Rattle.layout_semantics.specs.Leads.{Leading, is_up_to, none_passed}

abbrev pub waiting_at : {N : Type 0} → (N → Reading → ℤ) → Waiting N → Reading → Waiting ℤ
waiting_at at f e = record { at = f.at; cb = band_at at f.cb e }

-- floats that wait
abbrev pub floats_at : {N : Type 0} → (N → Reading → ℤ) → List (Waiting N) → Reading → List (Waiting ℤ)
floats_at at fs e = map (λ f. waiting_at at f e) fs

-- the boxes that count as not cleared: those up to a box in document order, or none
abbrev pub passed_by : Option ℕ → ℕ → Bool
passed_by None b = none_passed b
passed_by (Some past) b = is_up_to past b

-- a lead is at a reading all that the definition gives but the margins, which a run stands for
pub record IsLeadAt {N : Type 0} (at : N → Reading → ℤ) (lead : Lead N) (e : Reading) (l : Leading) : Type 0 where
  pub end : lead.end ≡ l.end
  pub cb : band_at at lead.cb e ≡ l.cb
  pub waiting : floats_at at lead.waiting e ≡ l.waiting
