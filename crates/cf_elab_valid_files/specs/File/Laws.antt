-- What elaboration makes of a whole file is a valid core (3.4, 17).
use Rattle.std.specs.Prelude.{◌≡◌, ℕ, Bool, true, List, [], ◌++◌, map, Some, None, slice_get}
use Rattle.std.specs.List.{list_all}
use Rattle.cf_types.specs.Table.{IsTable}
use Rattle.cf_types.specs.declared.ty.Ty.TheVariants as ty
use Rattle.cf_unit.specs.declared.file.Item.{Item}
use Rattle.cf_unit.specs.declared.file.Item.TheVariants as item
use Rattle.cf_unit.specs.declared.file.Unit.{Unit as FileTree}
use Rattle.cf_core.specs.declared.unit.CoreFn.{CoreFn}
use Rattle.cf_core.specs.declared.unit.CoreStatic.{CoreStatic}
use Rattle.cf_core.specs.FromTypes.{Tables, type_of}
use Rattle.cf_core.specs.FromUnit.{IsValid, is_short}
use Rattle.cf_core.specs.Valid.{is_complete, result_fits, all_differ}
use Rattle.cf_elab.specs.Answer.{Made}
use Rattle.cf_elab.specs.Built.{not_built}
use Rattle.cf_elab.specs.Env.{Env, Extent}
use Rattle.cf_elab.specs.File.{first_env, item_row, in_turn, core_unit}
use Rattle.cf_elab.specs.Scan.{defined_names}
use Rattle.cf_elab_valid.specs.Constants.{all_of}
use Rattle.cf_elab_valid.specs.Sorts.{NoneToReference}
use Rattle.cf_elab_valid_files.specs.Bodies.Laws.{ConstantsAreApart}
use Rattle.cf_elab_valid_files.specs.Bodies.Trees.{declaration_fits, function_fits}

-- ---- trees as texts have them

abbrev pub item_fits : Item → Bool
item_fits (item.Function f) = function_fits f
item_fits (item.Declaration d) = declaration_fits d
item_fits (item.Linkage l) = true

abbrev pub file_fits : FileTree → Bool
file_fits u = all_of (map item_fits u.items)

-- ---- the end

abbrev pub tables_of : Env → Tables
tables_of env = record { types = env.types; classes = env.classes }

-- an array's elements are complete (8.2.4)
abbrev pub WholeElements : Tables → Type 0
WholeElements T = (t u n : ℕ) → slice_get T.types.types t ≡ Some (ty.Array u n) → is_complete [] (type_of T u) ≡ true

-- What a pass over the table of types, the functions and the static objects tells at the end of a file: the table is well formed, nothing leads to a reference, and
-- elements of arrays are complete; no function is at hand; link names differ and are short; and objects are of complete types.
pub record IsFinished (env : Env) : Type 0 where
  pub table : IsTable env.types
  pub aims : NoneToReference (tables_of env)
  pub elements : WholeElements (tables_of env)
  pub hand : env.hand.locals ≡ []
  pub names : all_differ (map (λ (f : CoreFn). f.name) env.functions ++ map (λ (x : CoreStatic). x.name) env.statics) ≡ true
  pub short_functions : list_all (λ (f : CoreFn). is_short f.name) env.functions ≡ true
  pub short_statics : list_all (λ (x : CoreStatic). is_short x.name) env.statics ≡ true
  pub frames : (n : ℕ) (f : CoreFn) → slice_get env.functions n ≡ Some f → (i t : ℕ) → slice_get (f.params ++ f.locals) i ≡ Some t → is_complete [] (type_of (tables_of env) t) ≡ true
  pub results : (n : ℕ) (f : CoreFn) → slice_get env.functions n ≡ Some f → result_fits [] (type_of (tables_of env) f.result) ≡ true
  pub statics : (n : ℕ) (x : CoreStatic) → slice_get env.statics n ≡ Some x → is_complete [] (type_of (tables_of env) x.ty) ≡ true

-- a file of forms that are built, where constants name no local
abbrev pub FilesAreValid : Type 0
FilesAreValid =
    ConstantsAreApart → (extent : Extent) (u : FileTree) → not_built u ≡ None → file_fits u ≡ true
    → (end : Env) → in_turn (map item_row u.items) (first_env extent (defined_names u)) ≡ Made tt end → IsFinished end → IsValid (core_unit end)
