-- What is read from a JSON value: the elements of a list, the members of an object, whole numbers, texts.
use Rattle.std.specs.Prelude.{ℕ, ◌+◌, ◌&&◌, nat_le, List, [], ◌∷◌, map, Option, Some, None, option_map, option_and_then, Result, Ok, Err, if◌then◌else◌}
use Rattle.std.specs.Option.{option_map_or}
use Rattle.std.specs.Char.{to_ascii_lowercase}
use Rattle.serde_json.specs.Data.{Data, Items, no_items, item, Members, no_members, member}
use Rattle.serde_json.specs.Find.{get, as_array, as_number, as_object, as_u64}

abbrev pub elements_in : Items → List Data
elements_in no_items = []
elements_in (item d ds) = d ∷ elements_in ds

abbrev pub members_in : Members → List (List ℕ × Data)
members_in no_members = []
members_in (member key d ms) = (key, d) ∷ members_in ms

-- every element of a list
abbrev pub list_of : Data → Option (List Data)
list_of d = option_map elements_in (as_array d)

-- every member of an object with its name, each name being there once
abbrev pub object_of : Data → Option (List (List ℕ × Data))
object_of d = option_map members_in (as_object d)

-- a whole number that is not negative
abbrev pub whole : Data → Option ℕ
whole d = option_and_then as_u64 (as_number d)

abbrev pub in_bounds : ℕ → ℕ → ℕ → Option ℕ
in_bounds least most n = if nat_le least n && nat_le n most then Some n else None

-- a whole number from `least` to `most`
abbrev pub whole_in : ℕ → ℕ → Data → Option ℕ
whole_in least most d = option_and_then (in_bounds least most) (whole d)

abbrev pub both : Option ℕ → Option ℕ → Option (ℕ × ℕ)
both (Some a) (Some b) = Some (a, b)
both (Some a) None = None
both None b = None

abbrev pub pair_in : List Data → Option (ℕ × ℕ)
pair_in [] = None
pair_in (a ∷ []) = None
pair_in (a ∷ b ∷ []) = both (whole a) (whole b)
pair_in (a ∷ b ∷ c ∷ ds) = None

-- a list of two whole numbers
abbrev pub pair_of : Data → Option (ℕ × ℕ)
pair_of d = option_and_then pair_in (list_of d)

-- the member with this name
infixl 20 ◌of_member◌
abbrev pub ◌of_member◌ : {A : Type 0} → (Data → Option A) → List ℕ → Data → Option A
(read of_member key) d = option_and_then read (get key d)

-- the elements of a member; a member that is missing has none
abbrev pub list_at : List ℕ → Data → Option (List Data)
list_at key d = option_map_or list_of (get key d) (Some [])

abbrev pub lower : List ℕ → List ℕ
lower = map to_ascii_lowercase

-- ---- lists

-- what `read` makes of each, where it makes something of each
abbrev pub all_of : {A B : Type 0} → (A → Option B) → List A → Option (List B)
all_of read [] = Some []
all_of read (x ∷ xs) = option_and_then (λ y. option_map (λ ys. y ∷ ys) (all_of read xs)) (read x)

abbrev pub all_or_first : {B : Type 0} → ℕ → Option B → Result (List B) ℕ → Result (List B) ℕ
all_or_first at None rest = Err at
all_or_first at (Some y) (Ok ys) = Ok (y ∷ ys)
all_or_first at (Some y) (Err later) = Err later

-- what `read` makes of each, or the number of the first of which it makes nothing, the numbers beginning with `at`
abbrev pub each_of : {A B : Type 0} → (A → Option B) → ℕ → List A → Result (List B) ℕ
each_of read at [] = Ok []
each_of read at (x ∷ xs) = all_or_first at (read x) (each_of read (at + 1) xs)
