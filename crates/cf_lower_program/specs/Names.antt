-- Which names of functions and objects are lowered: link names, none of which is the C's own.
use Rattle.std.specs.Prelude.{Bool, true, false, ◌&&◌, ◌||◌, not, nat_eq, nat_le, ◌==◌, List, [], ◌∷◌, ◌++◌, Some, map, drop, bytes_eq, codes}
use Rattle.std.specs.List.{flat_map, list_all, list_any, starts_with}
use Rattle.cf_core.specs.Types.{Name}
use Rattle.cf_core.specs.Calls as source
use Rattle.cf_core.specs.Valid.{all_differ}
use Rattle.cc_whole.specs.declared.unit.CVariable.{CVariable}
use Rattle.cc_whole.specs.Known.{is_in, is_helper, is_library, is_main}
use Rattle.cc_whole.specs.Plain.{Item, declares, declares_variable, defines, defines_variable, name_of}
use Rattle.cc_whole.specs.Spellable.{spellable_items}
use Rattle.cc_whole.specs.Uses.{uses_of_item}
use Rattle.cc_whole.specs.Valid.{agrees, named_by, own_type, has_type}
use Rattle.cf_plain.specs.Plain.{PlainFunction, PlainStatic, PlainFile}
use Rattle.cf_lower.specs.Functions.{library, literals, start_literals, own_prototypes, own_variables, named_in, lowered_file}

-- what the names begin with that the C has for its own, with a digit behind: of parameters and locals, registers, flags, results, literals
abbrev pub own_fronts : List Name
own_fronts = codes "__l" ∷ codes "__i" ∷ codes "__p" ∷ codes "__f" ∷ codes "__w" ∷ codes "__v" ∷ codes "__s" ∷ []

abbrev pub begins_with_digit : Name → Bool
begins_with_digit [] = false
begins_with_digit (c ∷ cs) = nat_le 48 c && nat_le c 57

abbrev pub is_own_name : Name → Name → Bool
is_own_name [] rest = begins_with_digit rest
is_own_name (c ∷ cs) [] = false
is_own_name (c ∷ cs) (d ∷ ds) = (c == d) && is_own_name cs ds

abbrev pub all_digits : Name → Bool
all_digits [] = true
all_digits (c ∷ cs) = nat_le 48 c && nat_le c 57 && all_digits cs

-- whether it ends in `__u` and a number, as what is local to a file is named in a program (3.3)
abbrev pub ends_as_file : Name → Bool
ends_as_file [] = false
ends_as_file (b ∷ rest) = (is_own_name (codes "__u") (b ∷ rest) && all_digits (drop 3 (b ∷ rest))) || ends_as_file rest

-- no name of the C's own, of a helper, of what runs before `main`, of the library, not that of its `main`, and none that ends as those of files
abbrev pub is_foreign : Name → Bool
is_foreign name =
    not (list_any (λ front. is_own_name front name) own_fronts) && not (is_helper name) && not (bytes_eq name (codes "__sti"))
    && not (is_library name) && not (is_main name) && not (ends_as_file name)

abbrev pub begins : Name → Name → Bool
begins front name = starts_with nat_eq name front

abbrev pub has_two : Name → Bool
has_two [] = false
has_two (b ∷ rest) = begins (codes "__") (b ∷ rest) || has_two rest

-- whether `__L` with a digit behind stands in it, as in the name of a static object of a function
abbrev pub has_local : Name → Bool
has_local [] = false
has_local (b ∷ rest) = is_own_name (codes "__L") (b ∷ rest) || has_local rest

-- whether it ends in `__g`, as the name of a variable that is called as what C knows
abbrev pub is_global : Name → Bool
is_global [] = false
is_global (b ∷ rest) = bytes_eq (b ∷ rest) (codes "__g") || is_global rest

-- names with `__` are those of functions, but for those of two kinds of objects
abbrev pub is_object_name : Name → Bool
is_object_name name = not (has_two name) || has_local name || is_global name

abbrev pub is_function_name : Name → Bool
is_function_name name = not (is_object_name name)

abbrev pub may_be_function : Name → Bool
may_be_function name = is_foreign name && is_function_name name

abbrev pub may_be_object : Name → Bool
may_be_object name = is_foreign name && is_object_name name

-- what actions name: the library's functions too
abbrev pub is_well_named : Item → Bool
is_well_named (declares p) = source.is_library p.name || may_be_function p.name
is_well_named (declares_variable t name) = may_be_object name
is_well_named (defines f) = false
is_well_named (defines_variable v) = false

-- some names have a type of their own, as `main` and the library's functions have
abbrev pub has_own_type : Item → Bool
has_own_type i = has_type (own_type (name_of i)) (named_by i).meant

-- one name is declared with one type of the small C
abbrev pub same_types : List Item → Item → Bool
same_types items i = list_all (λ j. not (bytes_eq (name_of j) (name_of i)) || agrees (Some (named_by j).meant) (named_by i).meant) items

abbrev pub names_lowered : PlainFile → Bool
names_lowered file =
    let items = own_prototypes file ++ own_variables file ++ named_in file in
    list_all (λ (f : PlainFunction). may_be_function f.name) file.functions
    && list_all (λ (x : PlainStatic). may_be_object x.name) file.statics
    && list_all is_well_named (named_in file)
    && list_all has_own_type items
    && list_all (same_types items) items
    && spellable_items items

-- each literal has a number of its own in its function
abbrev pub literals_differ : PlainFile → Bool
literals_differ file =
    all_differ (map (λ (v : CVariable). v.name) (flat_map literals file.functions ++ flat_map start_literals file.statics))

-- the names that a file defines, and those of the library
abbrev pub own_names : PlainFile → List Name
own_names file = map name_of (library ++ own_prototypes file ++ own_variables file)

-- what actions name and other files define the C uses: nothing is named where no value of it is kept
abbrev pub names_used : PlainFile → Bool
names_used file =
    list_all (λ i. is_in (own_names file) (name_of i) || is_in (flat_map uses_of_item (lowered_file file)) (name_of i)) (named_in file)
