-- What a list of names of font families goes on to be.
use Rattle.std.specs.Prelude.{ℕ, List, ◌++◌, Option, Some, None, option_map}
use Rattle.css_semantics.specs.declared.parts.Part.{Part}
use Rattle.css_semantics.specs.Values.{families, after_family, family_from}
use Rattle.css_value.specs.declared.families.Before.{Before}
use Rattle.css_value.specs.declared.families.Before.TheVariants.{Comma, Name, Words}

abbrev pub names_from : Before → List Part → Option (List (List ℕ))
names_from Comma ps = families ps
names_from Name ps = after_family ps
names_from (Words name) ps = family_from name ps

abbrev pub with_front : List (List ℕ) → Option (List (List ℕ)) → Option (List (List ℕ))
with_front names more = option_map (λ ms. names ++ ms) more

abbrev pub names_after : List (List ℕ) → Option Before → List Part → Option (List (List ℕ))
names_after names None ps = None
names_after names (Some before) ps = with_front names (names_from before ps)
