-- Parts of the C of a file, by the code's lists.
use Rattle.std.specs.Prelude.{ℕ, Bool, true, false, if◌then◌else◌, List, [], ◌∷◌, ◌++◌, map, length, Option, Some, None, codes}
use Rattle.std.specs.List.{flat_map}
use Rattle.cc_whole.specs.declared.types.CType.{CType}
use Rattle.cc_whole.specs.declared.types.CVariableType.TheVariants as variable
use Rattle.cc_whole.specs.declared.unit.CInitialiser.TheVariants as initialiser
use Rattle.cc_whole.specs.declared.unit.CParameter.{CParameter}
use Rattle.cc_whole.specs.declared.unit.CPrototype.{CPrototype}
use Rattle.cc_whole.specs.declared.unit.CVariable.{CVariable}
use Rattle.cc_whole.specs.Known.{is_in}
use Rattle.cc_whole.specs.Plain.{Function, Item, Statement, body, declares, defines, defines_variable, in_order, name_of}
use Rattle.cf_core.specs.Types.{Name}
use Rattle.cf_core.specs.FromTypes.{Tables}
use Rattle.cf_plain.specs.declared.unit.PlainFn.{PlainFn}
use Rattle.cf_plain.specs.declared.unit.PlainStatic.{PlainStatic}
use Rattle.cf_plain.specs.Plain.{Action, PlainFile, PlainFunction, PlainStatic as StaticOf}
use Rattle.cf_plain.specs.View.{function_of, static_of}
use Rattle.cf_plain.specs.Named.{all_actions}
use Rattle.cf_lower.specs.Constants.{constant_code, nothing_known}
use Rattle.cf_lower.specs.Functions.{but_last, declared_at, defined_elsewhere, library, literal_at, literals, lowered_function, lowered_static, own_prototypes, own_variables, owner_of, prototype, start_literals}
use Rattle.cf_lower.specs.Written.{int_constant, literal_name}
use Rattle.cf_lower_fn.specs.Walks.{statements_at}
use Rattle.cf_lower_types.specs.Bare.{classes_of}

-- the file of these functions and static objects
abbrev pub file_with : Tables → List PlainFn → List PlainStatic → PlainFile
file_with tables functions statics = record {
  classes = classes_of tables;
  functions = map (function_of tables) functions;
  statics = map (static_of tables) statics;
}

-- ---- declarations

-- the head of a function of the library
abbrev pub library_head : Name → Option CType → List CParameter → CPrototype
library_head name given parameters = record {
  is_static = false;
  result = given;
  name = name;
  parameters = parameters;
}

abbrev pub own_heads : Tables → List PlainFn → List Item
own_heads tables fs = map (λ (f : PlainFunction). declares (prototype f)) (map (function_of tables) fs)

-- a file's functions
abbrev pub bodies_of : Tables → List PlainFn → List Item
bodies_of tables fs = map (λ (f : PlainFunction). defines (lowered_function (classes_of tables) f)) (map (function_of tables) fs)

-- its static objects
abbrev pub objects_of : Tables → List PlainStatic → List Item
objects_of tables xs = map defines_variable (map (lowered_static (classes_of tables)) (map (static_of tables) xs))

-- what stands before a file's functions
abbrev pub front_of : PlainFile → List Item
front_of file = library ++ own_prototypes file ++ defined_elsewhere file ++ own_variables file

-- what functions do, and initialisers
abbrev pub all_done : Tables → List PlainFn → List Action
all_done tables fs = flat_map (λ (f : PlainFn). all_actions (statements_at tables f.body)) fs

abbrev pub all_started : Tables → List PlainStatic → List Action
all_started tables xs = flat_map (λ (x : PlainStatic). all_actions (statements_at tables x.start)) xs

-- what actions name
abbrev pub named_by : Tables → List Action → List Item
named_by tables all = flat_map (declared_at (classes_of tables)) all

-- the names that are there behind the first item of each name that was not
abbrev pub names_behind : List Name → List Item → List Name
names_behind names [] = names
names_behind names (i ∷ rest) = if is_in names (name_of i) then names_behind names rest else names_behind (name_of i ∷ names) rest

-- ---- literals

-- those of actions
abbrev pub texts : Name → Bool → Bool → List Action → List Item
texts owner is_shared is_local all = map defines_variable (flat_map (literal_at owner is_shared is_local) all)

-- those of functions, and of initialisers
abbrev pub texts_of : Tables → List PlainFn → List Item
texts_of tables fs = map defines_variable (flat_map literals (map (function_of tables) fs))

abbrev pub start_texts_of : Tables → List PlainStatic → List Item
start_texts_of tables xs = map defines_variable (flat_map start_literals (map (static_of tables) xs))

-- the function whose literals the literals of an initialiser are numbered with
abbrev pub owner_or : Option Name → Name
owner_or None = codes "__sti"
owner_or (Some f) = f

-- a literal's C variable
abbrev pub literal : Name → Bool → Bool → ℕ → List ℕ → CVariable
literal owner is_shared is_local j bytes = record {
  is_shared = is_shared;
  is_static = is_local;
  ty = variable.Chars (int_constant (length bytes));
  name = literal_name owner j;
  initialiser = Some (initialiser.Text (but_last bytes));
}

-- ---- constant initialisers

-- what an initialiser stores
abbrev pub start_code : Tables → StaticOf → List Statement
start_code tables x = constant_code (classes_of tables) x.start (owner_of x) nothing_known

-- the same of a constant one
abbrev pub start_at : Tables → PlainStatic → List Statement
start_at tables x = if x.is_constant then start_code tables (static_of tables x) else []

abbrev pub all_starts : Tables → List PlainStatic → List Statement
all_starts tables xs = flat_map (start_at tables) xs

-- the helper of these statements
abbrev pub helper : List Statement → Function
helper ss = record {
  is_shared = false;
  prototype = record {
    is_static = true;
    result = None;
    name = codes "__hci";
    parameters = [];
  };
  body = body [] (in_order ss);
}
