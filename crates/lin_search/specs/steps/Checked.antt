-- What is right about an answer that was checked.
use Rattle.std.specs.Prelude.{◌≡◌, ℕ, List, length, ⊤}
use Rattle.lin_proof.specs.Form.{Form}
use Rattle.lin_proof.specs.Law.{Meets}
use Rattle.lin_proof.specs.Derivations.{Refutes}
use Rattle.lin_search.specs.declared.answer.Search.{Search}
use Rattle.lin_search.specs.declared.answer.Search.TheVariants.{Found, Point, GaveUp}
use Rattle.lin_search.specs.Answers.{at_point}

abbrev pub IsSound : List Form → ℕ → Search → Type 0
IsSound facts variables (Found d) = Refutes facts variables d
IsSound facts variables (Point values) = (length values ≡ variables) × Meets (at_point values) facts
IsSound facts variables GaveUp = ⊤
