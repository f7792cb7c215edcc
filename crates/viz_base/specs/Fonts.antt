use Rattle.std.specs.Prelude.{ℕ, ◌≤◌, Bool, nat_le, List, IsTrue}
use Rattle.std.specs.List.{list_all}
use Rattle.viz_base.specs.declared.limits.TheConstants.{MOST_EM}

-- a character's advance within a font's limits
abbrev pub is_advance : ℕ × ℕ → Bool
is_advance entry = nat_le entry.1 65535

-- the limits of a font's numbers
pub record IsFont (upem ascent descent other : ℕ) (advances : List (ℕ × ℕ)) : Type 0 where
  pub has_em : 1 ≤ upem
  pub em : upem ≤ MOST_EM
  pub ascent_most : ascent ≤ 65535
  pub descent_most : descent ≤ 65535
  pub other_most : other ≤ 65535
  pub advances_most : IsTrue (list_all is_advance advances)
