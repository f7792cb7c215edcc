-- What a load gives of a file.
use Rattle.std.specs.Prelude.{ℕ, List, [], Result, Ok, Err, length, nat_le, if◌then◌else◌}
use Rattle.viz_outside.specs.declared.shelf.Loaded.{Loaded}
use Rattle.viz_outside.specs.declared.shelf.Loaded.TheVariants.{Whole, Longer}
use Rattle.viz_outside.specs.declared.shelf.ShelfFault.{ShelfFault}
use Rattle.viz_outside.specs.declared.shelf.ShelfFault.TheVariants.{Mem, Failed}
use Rattle.viz_outside.specs.Fault.{raised}

-- all the bytes of a file, where they are at most cap, and else that it is longer
abbrev pub loaded_of : ℕ → List ℕ → Loaded
loaded_of cap bytes = if nat_le (length bytes) cap then Whole bytes else Longer

-- the bytes that it gives
abbrev pub bytes_of : Loaded → List ℕ
bytes_of (Whole bytes) = bytes
bytes_of Longer = []

-- the count of faults after an answer
abbrev pub counted : ℕ → Result Loaded ShelfFault → ℕ
counted faults (Ok loaded) = faults
counted faults (Err Mem) = faults
counted faults (Err Failed) = raised faults
