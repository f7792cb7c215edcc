use Rattle.std.proofs.Common.{◌≡◌, Bool, true, List, subst}
use Rattle.page_media.specs.Parts.{same_signs}
use Rattle.page_media.proofs.RangeParts.{one-part, some-world}
use Rattle.page_media.proofs.Sameness.{signs-equal, signs-itself}
use Rattle.page_media.proofs.laws.each_world_has_one_part.Goals as goal

pub returns-clause-one : goal.returns-clause-one
returns-clause-one c = one-part

pub returns-clause-some : goal.returns-clause-some
returns-clause-some c = some-world

pub returns-clause-same : goal.returns-clause-same
returns-clause-same c = λ a b. (signs-equal a b, λ e. subst (λ (b : List Bool). same_signs a b ≡ true) e (signs-itself a))
