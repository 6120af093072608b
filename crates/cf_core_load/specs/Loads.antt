-- What loading a file gives.
use Rattle.std.specs.Prelude.{◌≡◌, ℕ, List, [], ◌∷◌, Option, Some, None, Result, Ok, Err}
use Rattle.cf_classes.specs.declared.class.ClassDef.{ClassDef}
use Rattle.cf_core.specs.FromUnit.{Unit as File}
use Rattle.cf_run_tree.specs.declared.program.Program.{Program}
use Rattle.cf_core_load.specs.declared.fault.LoadFault.{LoadFault}
use Rattle.cf_core_load.specs.declared.fault.LoadFault.TheVariants as fault
use Rattle.cf_core_load.specs.Files.{program_of}

abbrev pub first_class : List (ℕ × ClassDef) → Option ℕ
first_class [] = None
first_class (d ∷ rest) = Some d.0

-- the program of a file without classes, the first class, or the place of what has no form; want of memory says nothing
abbrev pub Loads : File → Result Program LoadFault → Type 0
Loads unit (Ok p) = (first_class unit.classes.defined ≡ None) × (program_of unit ≡ Ok p)
Loads unit (Err (fault.Class c)) = first_class unit.classes.defined ≡ Some c
Loads unit (Err (fault.NotBuilt at)) = (first_class unit.classes.defined ≡ None) × (program_of unit ≡ Err at)
Loads unit (Err fault.Memory) = Unit {0}
