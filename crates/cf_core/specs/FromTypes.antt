-- Types, classes and paths of a file by their structure and link codes.
use Rattle.std.specs.Prelude.{ℕ, List, [], ◌∷◌, Option, Some, None, map, slice_get}
use Rattle.cf_types.specs.declared.ty.Ty.{Ty}
use Rattle.cf_types.specs.declared.ty.Ty.TheVariants as ty
use Rattle.cf_types.specs.declared.ty.Fun.{Fun}
use Rattle.cf_types.specs.Table.{Table}
use Rattle.cf_classes.specs.declared.path.Step.{Step as PathStep}
use Rattle.cf_classes.specs.declared.path.Step.TheVariants.{Base as DirectBase, VBase}
use Rattle.cf_classes.specs.ClassTable.{ClassTable}
use Rattle.cf_classes.specs.LinkName.{scope_code, class_names, enum_names}
use Rattle.cf_classes.specs.TypeTree.{of_type}
use Rattle.cf_core.specs.Types.{Name, SourceType, void, integer, enumeration, class, pointer, reference, array, takes, gives, data_member, function_member, const}
use Rattle.cf_core.specs.Subobjects.{Step, base, virtual, Path}

-- what a file's numbers of types, classes and enumerations stand for
pub record Tables : Type 0 where
  pub types : Table
  pub classes : ClassTable

abbrev pub class_code : ClassTable → ℕ → Name
class_code classes c = scope_code (class_names classes c)

abbrev pub taking : List SourceType → SourceType → SourceType
taking [] t = t
taking (p ∷ ps) t = takes p (taking ps t)

abbrev pub fun_type : (ℕ → SourceType) → Option Fun → SourceType
fun_type rec None = void
fun_type rec (Some f) = taking (map rec f.params) (gives (rec f.result) f.is_const)

abbrev pub type_step : Tables → (ℕ → SourceType) → Ty → SourceType
type_step tables rec ty.Void = void
type_step tables rec (ty.Int k) = integer k
type_step tables rec (ty.Enum e) = enumeration (scope_code (enum_names tables.classes e))
type_step tables rec (ty.Class c) = class (class_code tables.classes c)
type_step tables rec (ty.Ptr t) = pointer (rec t)
type_step tables rec (ty.Ref t) = reference (rec t)
type_step tables rec (ty.Array t n) = array (rec t) n
type_step tables rec (ty.Fun f) = fun_type rec (slice_get tables.types.funs f)
type_step tables rec (ty.MemData c t) = data_member (class_code tables.classes c) (rec t)
type_step tables rec (ty.MemFun c f) = function_member (class_code tables.classes c) (fun_type rec (slice_get tables.types.funs f))
type_step tables rec (ty.Const t) = const (rec t)

-- the type of this number
abbrev pub type_of : Tables → ℕ → SourceType
type_of tables t = of_type void (type_step tables) tables.types t

abbrev pub step_of : Tables → PathStep → Step
step_of tables (DirectBase i) = base i
step_of tables (VBase c) = virtual (class_code tables.classes c)

abbrev pub path_of : Tables → List PathStep → Path
path_of tables path = map (step_of tables) path
