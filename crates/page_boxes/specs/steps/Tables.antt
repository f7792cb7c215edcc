-- Tables with an entry for each node.
use Rattle.std.specs.Prelude.{ℕ, List, Option, Some, None, slice_index_or, slice_set}

-- the entry of a node, and another value where there is none
abbrev pub held : {S : Type 0} → List S → Option ℕ → S → S
held table None none = none
held table (Some node) none = slice_index_or table node none

abbrev pub put : {S : Type 0} → List S → Option ℕ → S → List S
put table None entry = table
put table (Some node) entry = slice_set table node entry
