-- The names that are a file's own or that its C uses, and whether what the file names is among them, in the code's lists.
use Rattle.std.specs.Prelude.{Bool, ◌||◌, List, [], ◌∷◌, ◌++◌, map, codes}
use Rattle.std.specs.List.{flat_map, list_all}
use Rattle.cc_whole.specs.Known.{is_in}
use Rattle.cc_whole.specs.Plain.{Item, declares, declares_variable, defines, defines_variable, name_of}
use Rattle.cc_whole.specs.Uses.{uses_of_item}
use Rattle.cf_core.specs.FromTypes.{Tables}
use Rattle.cf_core.specs.Types.{Name}
use Rattle.cf_plain.specs.declared.statement.Plain.{Plain as CodePlain}
use Rattle.cf_plain.specs.declared.unit.PlainFn.{PlainFn}
use Rattle.cf_plain.specs.declared.unit.PlainStatic.{PlainStatic}
use Rattle.cf_plain.specs.Named.{all_actions}
use Rattle.cf_lower.specs.Functions.{declared_at}
use Rattle.cf_lower_fn.specs.Walks.{statements_at}
use Rattle.cf_lower_types.specs.Bare.{classes_of}

-- ---- names that are there

-- of the variable that an item defines
abbrev pub variable_names : Item → List Name
variable_names (declares p) = []
variable_names (declares_variable t name) = []
variable_names (defines f) = []
variable_names (defines_variable v) = v.name ∷ []

-- and what the item uses
abbrev pub given_by : Item → List Name
given_by i = variable_names i ++ uses_of_item i

-- of functions
abbrev pub names_of : List PlainFn → List Name
names_of fs = map (λ (f : PlainFn). f.name) fs

-- of the library's functions
abbrev pub library_names : List Name
library_names = codes "putchar" ∷ codes "getchar" ∷ codes "exit" ∷ []

-- whether a name is one of the library's or of these functions, or given by these items
abbrev pub is_known : List PlainFn → List Item → Name → Bool
is_known fs items q = is_in library_names q || (is_in (names_of fs) q || is_in (flat_map given_by items) q)

-- ---- what is named

-- whether the names of items are among these
abbrev pub are_in : List Name → List Item → Bool
are_in names items = list_all (λ i. is_in names (name_of i)) items

-- by statements
abbrev pub named_by : Tables → List CodePlain → List Item
named_by tables ss = flat_map (declared_at (classes_of tables)) (all_actions (statements_at tables ss))

-- by functions
abbrev pub functions_in : List Name → Tables → List PlainFn → Bool
functions_in names tables fs = list_all (λ (f : PlainFn). are_in names (named_by tables f.body)) fs

-- by initialisers
abbrev pub statics_in : List Name → Tables → List PlainStatic → Bool
statics_in names tables xs = list_all (λ (x : PlainStatic). are_in names (named_by tables x.start)) xs
