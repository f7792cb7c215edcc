-- A shelf in memory: what each call answers, and what it leaves.
use Rattle.std.specs.Prelude.{◌≡◌, ◌⊎◌, ◌==◌, ◌&&◌, Bool, ℕ, List, [], ◌∷◌, Option, Some, None, Result, Err, IsOk, is_some, bytes_eq, nat_lt, ok_or, option_map, if◌then◌else◌}
use Rattle.std.specs.List.{list_all, list_any}
use Rattle.viz_outside.specs.declared.shelf.Loaded.{Loaded}
use Rattle.viz_outside.specs.declared.shelf.ShelfFault.{ShelfFault}
use Rattle.viz_outside.specs.declared.shelf.ShelfFault.TheVariants.{Mem, Failed}
use Rattle.viz_outside.specs.Fault.{raised}
use Rattle.viz_outside.specs.Shelf.{counted, loaded_of}

-- its files with their names, the numbers of the calls that fail, and how many calls and faults there were
pub record ShelfState : Type 0 where
  pub files : List (List ℕ × List ℕ)
  pub fails : List ℕ
  pub calls : ℕ
  pub faults : ℕ

-- the bytes of the first file of the name
abbrev pub bytes_at : List (List ℕ × List ℕ) → List ℕ → Option (List ℕ)
bytes_at [] name = None
bytes_at (file ∷ files) name = if bytes_eq file.0 name then Some file.1 else bytes_at files name

-- what the file of the name gives, and the fault where there is none
abbrev pub file_of : List (List ℕ × List ℕ) → List ℕ → ℕ → Result Loaded ShelfFault
file_of files name cap = ok_or (option_map (loaded_of cap) (bytes_at files name)) Failed

-- what a call answers whose number is this, if it has memory: it fails where the number is one of those that do
abbrev pub answer_at : List (List ℕ × List ℕ) → List ℕ → ℕ → List ℕ → ℕ → Result Loaded ShelfFault
answer_at files fails number name cap = if list_any (λ n. n == number) fails then Err Failed else file_of files name cap

-- what the next call answers, if it has memory
abbrev pub answer_of : ShelfState → List ℕ → ℕ → Result Loaded ShelfFault
answer_of s name cap = answer_at s.files s.fails s.calls name cap

-- this is answered, or want of memory in place of a file
abbrev pub Answers : Result Loaded ShelfFault → Result Loaded ShelfFault → Type 0
Answers answer wanted = (answer ≡ wanted) ⊎ ((answer ≡ Err Mem) × IsOk wanted)

-- what the next call leaves
abbrev pub after_load : ShelfState → List ℕ → ℕ → ShelfState
after_load s name cap = record {
  files = s.files;
  fails = s.fails;
  calls = raised s.calls;
  faults = counted s.faults (answer_of s name cap);
}

-- a load answers what the next call does, and leaves what it leaves
abbrev pub IsLoad : ShelfState → List ℕ → ℕ → Result Loaded ShelfFault → ShelfState → Type 0
IsLoad s name cap answer left = Answers answer (answer_of s name cap) × (left ≡ after_load s name cap)

-- the name is there, and no call still to come fails
abbrev pub is_sure : ShelfState → List ℕ → Bool
is_sure s name = is_some (bytes_at s.files name) && list_all (λ n. nat_lt n s.calls) s.fails
