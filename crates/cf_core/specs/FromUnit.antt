-- The core of a file as plain data, and the meaning of files.
use Rattle.std.specs.Prelude.{◌≡◌, ℕ, ◌<◌, ◌≤◌, ◌^◌, nat_le, Bool, false, true, List, Option, Some, map, length, slice_get}
use Rattle.std.specs.List.{list_all}
use Rattle.cf_base.specs.World.{Outcome}
use Rattle.cf_core.specs.declared.unit.CoreFn.{CoreFn}
use Rattle.cf_core.specs.declared.unit.CoreStatic.{CoreStatic}
use Rattle.cf_types.specs.declared.ty.Ty.{Ty}
use Rattle.cf_types.specs.Table.{Table, Names}
use Rattle.cf_classes.specs.ClassTable.{ClassTable}
use Rattle.cf_classes.specs.Fit.{Fit}
use Rattle.cf_core.specs.declared.unit.Role.{Role as UnitRole}
use Rattle.cf_core.specs.declared.unit.Role.TheVariants as role
use Rattle.cf_core.specs.Types.{Name, gives}
use Rattle.cf_core.specs.Classes.{Class}
use Rattle.cf_core.specs.Size.{size}
use Rattle.cf_core.specs.Core.{Role, plain_function, member_function, constructor, destructor, Function, Static, CoreFile}
use Rattle.cf_core.specs.FromTypes.{Tables, type_of, taking, class_code}
use Rattle.cf_core.specs.FromClasses.{signature_of, classes_in}
use Rattle.cf_core.specs.View.{core_of}
use Rattle.cf_core.specs.Joined.{program_of}
use Rattle.cf_core.specs.Program.{Mean}
use Rattle.cf_core.specs.Numbers.{function_known, static_known}
use Rattle.cf_core.specs.Valid.{valid_file}

-- the core of a file, with its tables
pub record Unit : Type 0 where
  pub types : Table
  pub classes : ClassTable
  pub functions : List CoreFn
  pub statics : List CoreStatic

abbrev pub tables_of : Unit → Tables
tables_of unit = record { types = unit.types; classes = unit.classes }

abbrev pub role_of : Tables → UnitRole → Role
role_of tables role.Plain = plain_function
role_of tables (role.Member c) = member_function (class_code tables.classes c)
role_of tables (role.Constructor c) = constructor (class_code tables.classes c)
role_of tables (role.Destructor c) = destructor (class_code tables.classes c)

abbrev pub function_of : Tables → CoreFn → Function
function_of tables f = record {
  name = f.name;
  role = role_of tables f.role;
  type = taking (map (type_of tables) f.params) (gives (type_of tables f.result) false);
  locals = map (type_of tables) f.locals;
  body = core_of tables (signature_of tables) f.body;
  is_shared = f.is_shared;
  is_local = f.is_local;
}

abbrev pub static_of : Tables → CoreStatic → Static
static_of tables x = record {
  name = x.name;
  type = type_of tables x.ty;
  start = core_of tables (signature_of tables) x.start;
  owner = x.owner;
  is_constant = x.is_constant;
  is_shared = x.is_shared;
  is_local = x.is_local;
}

abbrev pub file_of : Unit → CoreFile
file_of unit =
    let tables = tables_of unit in
    record {
      classes = classes_in tables unit.classes.defined;
      functions = map (function_of tables) unit.functions;
      statics = map (static_of tables) unit.statics;
    }

-- The limits: a type has at most 2 ^ 22 bytes, a link name and the description of a class at most 2 ^ 20.
abbrev pub is_short : Name → Bool
is_short name = nat_le (length name) (2 ^ 20)

pub record WithinLimits (unit : Unit) : Type 0 where
  pub sizes : (t : ℕ) → t < length unit.types.types → size (file_of unit).classes (type_of (tables_of unit) t) ≤ 2 ^ 22
  pub functions : list_all (λ (f : CoreFn). is_short f.name) unit.functions ≡ true
  pub statics : list_all (λ (x : CoreStatic). is_short x.name) unit.statics ≡ true
  pub descriptions : list_all (λ (c : Class). is_short c.description) (file_of unit).classes ≡ true

-- Only valid cores exist: each type names what is there and stands before it, types and classes fit and keep the limits, each number is there in the
-- tables, and the file is valid.
pub record IsValid (unit : Unit) : Type 0 where
  pub names : (i : ℕ) (ty : Ty) → slice_get unit.types.types i ≡ Some ty → Names unit.types.funs i (length unit.types.funs) ty
  pub fit : Fit unit.types unit.classes
  pub limits : WithinLimits unit
  pub functions : list_all (function_known (tables_of unit)) unit.functions ≡ true
  pub statics : list_all (static_known (tables_of unit)) unit.statics ≡ true
  pub file : valid_file (file_of unit) ≡ true

-- The meaning of files, in the order of the command line: from an input, a heap limit, a depth limit and a bound of ticks.
abbrev pub units_mean : List Unit → List ℕ → ℕ → ℕ → ℕ → Option Outcome
units_mean units input heap depth n = Mean (program_of (map file_of units)) input heap depth n
