-- Which units and programs are valid.
use Rattle.std.specs.Prelude.{ℕ, Bool, true, false, not, ◌&&◌, ◌||◌, List, Ok, Err, codes, bytes_eq}
use Rattle.std.specs.List.{list_all, list_any}
use Rattle.cc_whole.specs.declared.unit.CUnit.{CUnit}
use Rattle.cc_whole.specs.declared.unit.CProgram.{CProgram}
use Rattle.cc_whole.specs.Plain.{Item, declares, declares_variable, defines, defines_variable, name_of, items_of}
use Rattle.cc_whole.specs.Fault.{Checks}
use Rattle.cc_whole.specs.Known.{is_library}
use Rattle.cc_whole.specs.Spellable.{spellable_items, spellable_version}
use Rattle.cc_whole.specs.Uses.{uses_of_item}
use Rattle.cc_whole.specs.Valid.{first_fault, is_definition}

abbrev pub keeps : Checks → Bool
keeps (Ok u) = true
keeps (Err f) = false

-- the items have a text, and keep rules V1 to V12
abbrev pub valid_items : List Item → Bool
valid_items items = spellable_items items && keeps (first_fault items)

abbrev pub valid_unit : CUnit → Bool
valid_unit unit = spellable_version unit.version && valid_items (items_of unit.items)

-- ---- programs

abbrev pub is_static : Item → Bool
is_static (declares p) = p.is_static
is_static (declares_variable t name) = false
is_static (defines f) = f.prototype.is_static
is_static (defines_variable v) = v.is_static

abbrev pub defines_name : List ℕ → Item → Bool
defines_name name i = is_definition i && bytes_eq (name_of i) name

-- some item defines the name
abbrev pub defined_in : List Item → List ℕ → Bool
defined_in items name = list_any (defines_name name) items

-- it uses only what is defined, and the library functions
abbrev pub uses_defined : List Item → Item → Bool
uses_defined items i = list_all (λ name. is_library name || defined_in items name) (uses_of_item i)

abbrev pub valid_program_items : List Item → Bool
valid_program_items items =
    valid_items items && (list_all (λ i. not (is_static i)) items && (defined_in items (codes "main") && list_all (uses_defined items) items))

-- a program has no static item, defines `main`, and defines all that it uses but the library functions
abbrev pub valid_program : CProgram → Bool
valid_program program = valid_program_items (items_of program.items)
