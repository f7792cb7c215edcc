use Rattle.layout_laws.proofs.Bands.{band_is_left}
use Rattle.layout_laws.proofs.floats.a_band_is_what_floats_leave.Goals as goal

pub returns : goal.returns
returns c floats cb y h = band_is_left floats cb y h
