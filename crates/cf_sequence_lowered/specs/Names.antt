-- The names of a core, as what they are in the C: they are link names, none of which is the C's own, and one name has one type.
use Rattle.std.specs.Prelude.{Bool, false, ◌&&◌, ◌||◌, not, List, [], ◌∷◌, ◌++◌, None, map}
use Rattle.std.specs.List.{flat_map, list_all}
use Rattle.cf_core.specs.Types.{Name}
use Rattle.cf_core.specs.Classes.{Class}
use Rattle.cf_core.specs.Core.{Core, text, static_object, function, call, Function, Static, CoreFile}
use Rattle.cf_core.specs.Nodes.{nodes}
use Rattle.cf_plain.specs.Plain as plain
use Rattle.cf_sequence.specs.Statements.{type_of_static}
use Rattle.cc_whole.specs.declared.unit.CVariable.{CVariable}
use Rattle.cc_whole.specs.Plain.{Item, declares, declares_variable, defines_variable}
use Rattle.cc_whole.specs.Spellable.{spellable_items}
use Rattle.cf_lower.specs.Functions.{literal_at, prototype_of}
use Rattle.cf_lower.specs.Written.{variable_type}
use Rattle.cf_lower_program.specs.Names.{may_be_function, may_be_object, is_well_named, has_own_type, same_types}
use Rattle.cf_sequence_lowered.specs.Literals.{owner_name}

-- what a node names
abbrev pub declared_by : List Class → Core → List Item
declared_by classes (static_object name t) = declares_variable (variable_type classes t) name ∷ []
declared_by classes (function name t) = declares (prototype_of false name t) ∷ []
declared_by classes (call name t object args) = declares (prototype_of false name t) ∷ []
declared_by classes e = []

-- a literal
abbrev pub variable_of : Name → Bool → Bool → Core → List CVariable
variable_of f is_shared is_local (text j bytes) = literal_at f is_shared is_local (plain.text j bytes)
variable_of f is_shared is_local e = []

abbrev pub function_variables : Function → List CVariable
function_variables f = flat_map (variable_of f.name f.is_shared f.is_local) (nodes f.body)

abbrev pub static_variables : Static → List CVariable
static_variables x = flat_map (variable_of (owner_name x) x.is_shared (x.is_local || not x.is_shared)) (nodes x.start)

abbrev pub static_variable : List Class → Static → CVariable
static_variable classes x = record { is_shared = x.is_shared; is_static = x.is_local; ty = variable_type classes x.type; name = x.name; initialiser = None }

-- what functions name, and static objects, of which each names itself where it is set
abbrev pub core_named : CoreFile → List Item
core_named file =
    flat_map (λ (f : Function). flat_map (declared_by file.classes) (nodes f.body)) file.functions
    ++ flat_map (λ (x : Static).
    declares_variable (variable_type file.classes (type_of_static file.statics x.name)) x.name ∷ flat_map (declared_by file.classes) (nodes x.start)) file.statics

abbrev pub core_items : CoreFile → List Item
core_items file =
    map (λ (f : Function). declares (prototype_of f.is_local f.name f.type)) file.functions
    ++ map defines_variable
    (map (static_variable file.classes) file.statics ++ flat_map function_variables file.functions ++ flat_map static_variables file.statics)
    ++ core_named file

abbrev pub core_names_fit : CoreFile → Bool
core_names_fit file =
    let items = core_items file in
    list_all (λ (f : Function). may_be_function f.name) file.functions
    && list_all (λ (x : Static). may_be_object x.name) file.statics
    && list_all is_well_named (core_named file)
    && list_all has_own_type items
    && list_all (same_types items) items
    && spellable_items items
