-- The C functions and items of plain ones.
use Rattle.std.specs.Prelude.{ℕ, zero, suc, ◌==◌, max, Bool, true, false, if◌then◌else◌, List, [], ◌∷◌, ◌++◌, map, length, Option, Some, None, codes, filter, not, ◌||◌}
use Rattle.std.specs.List.{flat_map, list_any}
use Rattle.cf_base.specs.declared.kind.Kind.TheVariants.{Int}
use Rattle.cf_core.specs.Types.{Name, SourceType, void, parameters, result as result_type}
use Rattle.cf_core.specs.Classes.{Class}
use Rattle.cf_lower_layout.specs.Sorts.{Sort, number, address, code, sort_of}
use Rattle.cf_plain.specs.Plain as plain
use Rattle.cf_plain.specs.Plain.{Register, Action, Plain, Plains, PlainParts, act, set, branch, loop, switch, parts, nothing, more, no_parts, part, PlainFunction, PlainStatic, PlainFile}
use Rattle.cf_plain.specs.Named.{all_actions}
use Rattle.cc_whole.specs.declared.types.CType.{CType}
use Rattle.cc_whole.specs.declared.types.CType.TheVariants as ty
use Rattle.cc_whole.specs.declared.types.CVariableType.TheVariants as variable
use Rattle.cc_whole.specs.declared.types.CLocalType.TheVariants as local
use Rattle.cc_whole.specs.declared.statement.CLocal.{CLocal}
use Rattle.cc_whole.specs.declared.unit.CParameter.{CParameter}
use Rattle.cc_whole.specs.declared.unit.CPrototype.{CPrototype}
use Rattle.cc_whole.specs.declared.unit.CVariable.{CVariable}
use Rattle.cc_whole.specs.declared.unit.CInitialiser.TheVariants as initialiser
use Rattle.cc_whole.specs.Known.{is_in}
use Rattle.cc_whole.specs.Plain.{Statement, Function, Item, declares, declares_variable, defines, defines_variable, body, in_order, name_of}
use Rattle.cf_lower.specs.Kept.{Locals, nothing_kept}
use Rattle.cf_lower.specs.Written.{if_scalar, c_type, int_constant, local_type, variable_type, result_of, local_name, register_name, flag_name, result_name, literal_name, type_number}
use Rattle.cf_lower.specs.Statements.{Inside, all_lowered, no_value}
use Rattle.cf_lower.specs.Constants.{nothing_known, constant_code}

-- ---- C locals

abbrev pub scalar : CType → Name → CLocal
scalar t name = record { ty = local.Scalar t; name = name }

-- the C locals of locals, from a number on
abbrev pub own_locals : List Class → ℕ → List SourceType → List CLocal
own_locals classes i [] = []
own_locals classes i (t ∷ ts) = record { ty = local_type classes t; name = local_name i } ∷ own_locals classes (suc i) ts

-- the three of each register below a number
abbrev pub registers : ℕ → List CLocal
registers zero = []
registers (suc r) =
    registers r
    ++ scalar ty.Int (register_name (number Int) r) ∷ scalar ty.Pointer (register_name (address void) r) ∷ scalar ty.FunctionPointer (register_name (code void) r) ∷ []

abbrev pub flags : ℕ → List CLocal
flags zero = []
flags (suc d) = flags d ++ scalar ty.Int (flag_name d) ∷ []

-- the registers that statements set are below this number
abbrev mutual
  pub bound : Plain → Register
  bound (act a) = 0
  bound (set r a) = suc r
  bound (branch r ss ts) = max (all_bound ss) (all_bound ts)
  bound (loop ss ts) = max (all_bound ss) (all_bound ts)
  bound (switch r ss) = all_bound ss
  bound (parts ps) = parts_bound ps
  bound s = 0

  pub all_bound : Plains → Register
  all_bound nothing = 0
  all_bound (more s ss) = max (bound s) (all_bound ss)

  pub parts_bound : PlainParts → Register
  parts_bound no_parts = 0
  parts_bound (part w ss rest) = max (all_bound ss) (parts_bound rest)

-- how deep loops with a step, and switches, stand in each other
abbrev mutual
  pub nesting : Plain → ℕ
  nesting (act a) = 0
  nesting (set r a) = 0
  nesting (branch r ss ts) = max (all_nesting ss) (all_nesting ts)
  nesting (loop ss nothing) = all_nesting ss
  nesting (loop ss ts) = max (suc (all_nesting ss)) (all_nesting ts)
  nesting (switch r ss) = suc (all_nesting ss)
  nesting s = 0

  pub all_nesting : Plains → ℕ
  all_nesting nothing = 0
  all_nesting (more s ss) = max (nesting s) (all_nesting ss)

-- the C types of what is called gives
abbrev pub result_at : Action → List CType
result_at (plain.call name t object is into) = if_scalar (sort_of (result_type t)) [] (λ s. c_type s ∷ [])
result_at (plain.pointer_call object r t is into) = if_scalar (sort_of (result_type t)) [] (λ s. c_type s ∷ [])
result_at a = []

abbrev pub each_once : List CType → List CType
each_once [] = []
each_once (t ∷ ts) =
    let rest = each_once ts in
    if list_any (λ (u : CType). type_number u == type_number t) rest then rest else t ∷ rest

abbrev pub results : List Action → List CLocal
results actions = map (λ (t : CType). scalar t (result_name t)) (each_once (flat_map result_at actions))

-- ---- functions

-- the locals that are the objects of parameters of calls
abbrev pub arguments_at : Action → List ℕ
arguments_at (plain.call name t object is into) = is
arguments_at (plain.pointer_call object r t is into) = is
arguments_at a = []

abbrev pub locals_of : PlainFunction → Locals
locals_of f = record { types = parameters f.type ++ f.locals; arguments = flat_map arguments_at (all_actions f.body) }

abbrev pub inside : List Class → PlainFunction → Inside
inside classes f = record {
  classes = classes;
  function = f.name;
  result = result_type f.type;
  locals = locals_of f;
  depth = 0;
  leaving = [];
  going_on = [];
}

-- the parameters, from a number on
abbrev pub lowered_parameters : ℕ → List SourceType → List CParameter
lowered_parameters i [] = []
lowered_parameters i (t ∷ ts) =
    if_scalar (sort_of t) (lowered_parameters (suc i) ts) (λ s. record { ty = c_type s; name = local_name i } ∷ lowered_parameters (suc i) ts)

-- a function of this name and type
abbrev pub prototype_of : Bool → Name → SourceType → CPrototype
prototype_of is_local name t = record {
  is_static = is_local;
  result = result_of (result_type t);
  name = name;
  parameters = lowered_parameters 0 (parameters t);
}

abbrev pub prototype : PlainFunction → CPrototype
prototype f = prototype_of f.is_local f.name f.type

-- A function that flows off its end gives what nothing can use.
abbrev pub lowered_function : List Class → PlainFunction → Function
lowered_function classes f = record {
  is_shared = f.is_shared;
  prototype = prototype f;
  body = body
      (own_locals classes (length (parameters f.type)) f.locals ++ registers (all_bound f.body) ++ flags (all_nesting f.body)
      ++ results (all_actions f.body))
      (in_order (all_lowered f.body (inside classes f) nothing_kept ++ no_value (result_type f.type)));
}

-- ---- variables

-- all but the last
abbrev pub but_last : List ℕ → List ℕ
but_last [] = []
but_last (b ∷ []) = []
but_last (b ∷ c ∷ rest) = b ∷ but_last (c ∷ rest)

-- the literals of a function: the text stands without its ending 0
abbrev pub literal_at : Name → Bool → Bool → Action → List CVariable
literal_at f is_shared is_local (plain.text j bytes) = record {
  is_shared = is_shared;
  is_static = is_local;
  ty = variable.Chars (int_constant (length bytes));
  name = literal_name f j;
  initialiser = Some (initialiser.Text (but_last bytes));
} ∷ []
literal_at f is_shared is_local a = []

abbrev pub literals : PlainFunction → List CVariable
literals f = flat_map (literal_at f.name f.is_shared f.is_local) (all_actions f.body)

abbrev pub lowered_static : List Class → PlainStatic → CVariable
lowered_static classes x = record {
  is_shared = x.is_shared;
  is_static = x.is_local;
  ty = variable_type classes x.type;
  name = x.name;
  initialiser = None;
}

-- ---- items

abbrev pub parameter : CType → Name → CParameter
parameter t name = record { ty = t; name = name }

-- the library's functions, which each unit declares
abbrev pub library : List Item
library =
    declares (record { is_static = false; result = Some ty.Int; name = codes "putchar"; parameters = parameter ty.Int (local_name 0) ∷ [] })
    ∷ declares (record { is_static = false; result = Some ty.Int; name = codes "getchar"; parameters = [] })
    ∷ declares (record { is_static = false; result = None; name = codes "exit"; parameters = parameter ty.Int (local_name 0) ∷ [] }) ∷ []

-- what constant initialisers store, in the helper that is called before `main`
abbrev pub constants_function : List Statement → List Item
constants_function [] = []
constants_function (s ∷ ss) = defines (record {
  is_shared = false;
  prototype = record { is_static = true; result = None; name = codes "__hci"; parameters = [] };
  body = body [] (in_order (s ∷ ss));
}) ∷ []

-- where the literals of a static object's initialiser are numbered
abbrev pub owner_of : PlainStatic → Name
owner_of x = elim x.owner [ None ↦ codes "__sti" | Some f ↦ f ]

abbrev pub start_literals : PlainStatic → List CVariable
start_literals x = flat_map (literal_at (owner_of x) x.is_shared (x.is_local || not x.is_shared)) (all_actions x.start)

abbrev pub own_prototypes : PlainFile → List Item
own_prototypes file = map (λ (f : PlainFunction). declares (prototype f)) file.functions

-- the static objects and the literals
abbrev pub own_variables : PlainFile → List Item
own_variables file =
    map defines_variable
    (map (lowered_static file.classes) file.statics ++ flat_map literals file.functions ++ flat_map start_literals file.statics)

-- what an action names, as a declaration
abbrev pub declared_at : List Class → Action → List Item
declared_at classes (plain.static_object name t) = declares_variable (variable_type classes t) name ∷ []
declared_at classes (plain.function name t) = declares (prototype_of false name t) ∷ []
declared_at classes (plain.call name t object is into) = declares (prototype_of false name t) ∷ []
declared_at classes a = []

abbrev pub named_in : PlainFile → List Item
named_in file =
    flat_map (λ (f : PlainFunction). flat_map (declared_at file.classes) (all_actions f.body)) file.functions
    ++ flat_map (λ (x : PlainStatic). flat_map (declared_at file.classes) (all_actions x.start)) file.statics

-- the first item of each name but these
abbrev pub other_names : List Name → List Item → List Item
other_names names [] = []
other_names names (i ∷ rest) = if is_in names (name_of i) then other_names names rest else i ∷ other_names (name_of i ∷ names) rest

-- what a file names and does not define (3.3)
abbrev pub defined_elsewhere : PlainFile → List Item
defined_elsewhere file = other_names (map name_of (library ++ own_prototypes file ++ own_variables file)) (named_in file)

-- The items of a file. Functions, and what other files define, are declared before all else, so that the order does not matter.
abbrev pub lowered_file : PlainFile → List Item
lowered_file file =
    library
    ++ own_prototypes file
    ++ defined_elsewhere file
    ++ own_variables file
    ++ map (λ (f : PlainFunction). defines (lowered_function file.classes f)) file.functions
    ++ constants_function
    (flat_map (λ (x : PlainStatic). constant_code file.classes x.start (owner_of x) nothing_known) (filter (λ (x : PlainStatic). x.is_constant) file.statics))
