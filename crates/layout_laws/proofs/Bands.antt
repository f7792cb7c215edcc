use Rattle.std.proofs.Common.{◌≡◌, ℤ, ◌+ℤ◌, Bool, false, ◌&&◌, int_lt, IsTrue, List, inl, inr, ◌⊎◌, Contains}
use Rattle.viz_base.specs.declared.layouts.Band.{Band}
use Rattle.layout_semantics.specs.Floats.{FloatBox, is_left, meets, band_at}
use Rattle.layout_laws.specs.Bands.{MeetsSpan, IsLeftOver}
use Rattle.layout_laws.proofs.Beside.{room_after, room_before, room_from, room_to, left_edge, right_edge}
use Rattle.layout_laws.proofs.Truths.{lt, is_lt, left_of, right_of, both_of}

module _ (y h : ℤ) (f : FloatBox) where
  tall : Bool
  tall = int_lt f.box.top f.box.bottom

  before : Bool
  before = int_lt f.box.top (y +ℤ h)

  after : Bool
  after = int_lt y f.box.bottom

  pub meeting : MeetsSpan y h f → IsTrue (meets y h f)
  unfolding tall before after
  meeting m = both_of (tall && before) after (both_of tall before (is_lt f.box.top f.box.bottom m.has_height) (is_lt f.box.top (y +ℤ h) m.begins_before)) (is_lt y f.box.bottom m.ends_after)

  pub met : IsTrue (meets y h f) → MeetsSpan y h f
  unfolding tall before after
  met t = record {
    has_height = lt f.box.top f.box.bottom (left_of tall before (left_of (tall && before) after t));
    begins_before = lt f.box.top (y +ℤ h) (right_of tall before (left_of (tall && before) after t));
    ends_after = lt y f.box.bottom (right_of (tall && before) after t);
  }

pub band_is_left : (floats : List FloatBox) (cb : Band ℤ) (y h : ℤ) → IsLeftOver floats cb y h (band_at floats cb y h)
band_is_left floats cb y h = record {
  after_left_ones = λ f i l m. room_after floats cb (meets y h) f i (meeting y h f m) l;
  before_right_ones = λ f i l m. room_before floats cb (meets y h) f i (meeting y h f m) l;
  within_left = room_from floats cb (meets y h);
  within_right = room_to floats cb (meets y h);
  left_edge = on_left (left_edge floats cb (meets y h));
  right_edge = on_right (right_edge floats cb (meets y h));
}
  where
    on_left : (((band_at floats cb y h).left ≡ cb.left) ⊎ ((f : FloatBox) × Contains floats f × IsTrue (meets y h f) × IsTrue (is_left f) × (f.box.right ≡ (band_at floats cb y h).left)))
        → ((band_at floats cb y h).left ≡ cb.left) ⊎ ((f : FloatBox) × Contains floats f × IsTrue (is_left f) × MeetsSpan y h f × (f.box.right ≡ (band_at floats cb y h).left))
    on_left (inl e) = inl e
    on_left (inr f) = inr (f.0, f.1, f.3, met y h f.0 f.2, f.4)

    on_right : (((band_at floats cb y h).right ≡ cb.right) ⊎ ((f : FloatBox) × Contains floats f × IsTrue (meets y h f) × (is_left f ≡ false) × (f.box.left ≡ (band_at floats cb y h).right)))
        → ((band_at floats cb y h).right ≡ cb.right) ⊎ ((f : FloatBox) × Contains floats f × (is_left f ≡ false) × MeetsSpan y h f × (f.box.left ≡ (band_at floats cb y h).right))
    on_right (inl e) = inl e
    on_right (inr f) = inr (f.0, f.1, f.3, met y h f.0 f.2, f.4)
