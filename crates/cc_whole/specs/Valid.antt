-- The first fault of a unit, by rules V1 to V12, and which units and programs are valid.
use Rattle.std.specs.Prelude.{ℕ, ◌+◌, nat_lt, Bool, true, false, not, ◌&&◌, ◌||◌, if◌then◌else◌, List, [], ◌∷◌, ◌++◌, Option, Some, None, codes, length, bytes_eq}
use Rattle.cc_whole.specs.declared.types.CType.{CType}
use Rattle.cc_whole.specs.declared.types.CType.TheVariants as ty
use Rattle.cc_whole.specs.declared.types.CSignature.{CSignature}
use Rattle.cc_whole.specs.declared.types.CVariableType.{CVariableType}
use Rattle.cc_whole.specs.declared.types.CVariableType.TheVariants as variable
use Rattle.cc_whole.specs.declared.unit.CParameter.{CParameter}
use Rattle.cc_whole.specs.declared.unit.CPrototype.{CPrototype}
use Rattle.cc_whole.specs.declared.unit.CPair.{CPair}
use Rattle.cc_whole.specs.declared.unit.CInitialiser.{CInitialiser}
use Rattle.cc_whole.specs.declared.unit.CInitialiser.TheVariants as initialiser
use Rattle.cc_whole.specs.declared.unit.CVariable.{CVariable}
use Rattle.cc_whole.specs.Plain.{Function, Item, declares, declares_variable, defines, defines_variable, name_of}
use Rattle.cc_whole.specs.Numbers.{fits_constant, size_of}
use Rattle.cc_whole.specs.Types.{same_signature, same_variable, signature_of}
use Rattle.cc_whole.specs.Landmarks.{type_marks, marks_before_name, marks_before, variable_marks, static_marks, prototype_marks, item_marks}
use Rattle.cc_whole.specs.Fault.{Checks, fine, broken, holds, moved, ◌before◌}
use Rattle.cc_whole.specs.Known.{Meant, function, object, Named, Known, lookup, parameters_named, is_in, is_main, is_helper, is_library}
use Rattle.cc_whole.specs.Statements.{has_size, checked_body}

-- ---- names of a unit

-- a name is declared again with the same type
abbrev pub agrees : Option Meant → Meant → Bool
agrees None m = true
agrees (Some (function p)) (function q) = same_signature (signature_of p) (signature_of q)
agrees (Some (function p)) (object t) = false
agrees (Some (object s)) (function q) = false
agrees (Some (object s)) (object t) = same_variable s t

abbrev pub takes : Option CType → List CType → Option CSignature
takes result parameters = Some (record { result = result; parameters = parameters })

-- names that have a type of their own: the functions of these types
abbrev pub own_type : List ℕ → Option CSignature
own_type name =
    if bytes_eq name (codes "main") || bytes_eq name (codes "__main") then takes (Some ty.Int) []
    else (if bytes_eq name (codes "__hci") || bytes_eq name (codes "__sti") then takes None []
    else (if bytes_eq name (codes "putchar") then takes (Some ty.Int) (ty.Int ∷ [])
    else (if bytes_eq name (codes "getchar") then takes (Some ty.Int) []
    else (if bytes_eq name (codes "exit") then takes None (ty.Int ∷ [])
    else (if bytes_eq name (codes "malloc") then takes (Some ty.Pointer) (ty.UInt ∷ [])
    else (if bytes_eq name (codes "free") then takes None (ty.Pointer ∷ [])
    else (if bytes_eq name (codes "atexit") then takes (Some ty.Int) (ty.FunctionPointer ∷ []) else None)))))))

abbrev pub has_type : Option CSignature → Meant → Bool
has_type None m = true
has_type (Some s) (function p) = same_signature s (signature_of p)
has_type (Some s) (object t) = false

-- V2, it is not declared with another type, nor defined twice, and V10, its own type is this, and no library function is defined
abbrev pub checked_name : List Named → List (List ℕ) → Bool → List ℕ → Meant → ℕ → Checks
checked_name names defined is_definition name m place =
    holds (agrees (lookup names name) m && not (is_definition && is_in defined name)) 2 place
    before holds (has_type (own_type name) m && not (is_definition && is_library name)) 10 place

-- ---- functions

-- V2: the parameters of a function differ, from those before them
abbrev pub checked_parameters : List CParameter → List (List ℕ) → Checks
checked_parameters [] before_it = fine
checked_parameters (p ∷ ps) before_it =
    holds (not (is_in before_it p.name)) 2 (type_marks p.ty) before moved (type_marks p.ty + 1) (checked_parameters ps (p.name ∷ before_it))

abbrev pub checked_prototype : List Named → List (List ℕ) → Bool → CPrototype → Checks
checked_prototype names defined is_definition p =
    checked_name names defined is_definition p.name (function p) (marks_before_name p)
    before moved (marks_before_name p + 1) (checked_parameters p.parameters [])

-- what is known at the first statement of a function
abbrev pub inside : CPrototype → List Named → Known
inside p names = record {
  names = parameters_named p.parameters ++ names;
  in_helper = is_helper p.name;
  result = p.result;
  in_loop = false;
  may_break = false;
}

-- V12, at `static`: a shared definition is not static
abbrev pub may_be_shared : Bool → Bool → Checks
may_be_shared is_shared is_static = holds (not (is_shared && is_static)) 12 0

-- ---- variables

-- V1: the function of a pair is declared before; V3: it is a function; V10: it is not `main`
abbrev pub checked_function : List ℕ → Option Meant → Checks
checked_function name None = broken 1 1
checked_function name (Some (function p)) = holds (not (is_main name)) 10 1
checked_function name (Some (object t)) = broken 3 1

abbrev pub paired : List Named → Option (List ℕ) → Checks
paired names None = fine
paired names (Some name) = checked_function name (lookup names name)

abbrev pub checked_pairs : List CPair → List Named → Checks
checked_pairs [] names = fine
checked_pairs (p ∷ ps) names = holds (fits_constant p.number) 11 0 before paired names p.function before moved 2 (checked_pairs ps names)

-- V3: a string stands in an array of `char`, and pairs in one of pairs
abbrev pub may_start : CVariableType → CInitialiser → Bool
may_start (variable.Chars c) (initialiser.Text bytes) = true
may_start (variable.Pairs c) (initialiser.Pairs ps) = true
may_start t start = false

abbrev pub length_of : CInitialiser → ℕ
length_of (initialiser.Text bytes) = length bytes
length_of (initialiser.Pairs ps) = length ps

abbrev pub elements_of : CVariableType → ℕ
elements_of (variable.Scalar t) = 1
elements_of (variable.Ints c) = size_of c
elements_of (variable.Chars c) = size_of c
elements_of (variable.Pairs c) = size_of c

-- V11: an array holds what it starts with, of its kind
abbrev pub holds_start : CVariableType → Option CInitialiser → Bool
holds_start t None = true
holds_start t (Some start) = not (may_start t start) || not (nat_lt (elements_of t) (length_of start))

abbrev pub checked_start : CVariableType → List Named → Option CInitialiser → Checks
checked_start t names None = fine
checked_start t names (Some (initialiser.Text bytes)) = holds (may_start t (initialiser.Text bytes)) 3 0
checked_start t names (Some (initialiser.Pairs ps)) = holds (may_start t (initialiser.Pairs ps)) 3 0 before checked_pairs ps names

-- a variable's type and name, and V11 of the number of its elements, which stands behind its name
abbrev pub checked_variable : List Named → List (List ℕ) → Bool → CVariableType → List ℕ → Option CInitialiser → Checks
checked_variable names defined is_definition t name start =
    checked_name names defined is_definition name (object t) (marks_before t)
    before holds (has_size t && holds_start t start) 11 (marks_before t + 1)

-- ---- items

-- what an item declares
abbrev pub named_by : Item → Named
named_by (declares p) = record { name = p.name; meant = function p }
named_by (declares_variable t name) = record { name = name; meant = object t }
named_by (defines f) = record { name = f.prototype.name; meant = function f.prototype }
named_by (defines_variable v) = record { name = v.name; meant = object v.ty }

abbrev pub is_definition : Item → Bool
is_definition (declares p) = false
is_definition (declares_variable t name) = false
is_definition (defines f) = true
is_definition (defines_variable v) = true

-- what is defined behind an item
abbrev pub defined_after : Item → List (List ℕ) → List (List ℕ)
defined_after i defined = if is_definition i then name_of i ∷ defined else defined

abbrev pub checked_function_definition : Function → List Named → List (List ℕ) → Checks
checked_function_definition f names defined =
    may_be_shared f.is_shared f.prototype.is_static before checked_prototype names defined true f.prototype
    before moved (prototype_marks f.prototype) (checked_body f.body (inside f.prototype (named_by (defines f) ∷ names)))

abbrev pub checked_variable_definition : CVariable → List Named → List (List ℕ) → Checks
checked_variable_definition v names defined =
    may_be_shared v.is_shared v.is_static
    before moved (static_marks v.is_static) (checked_variable names defined true v.ty v.name v.initialiser
    before moved (variable_marks v.ty) (checked_start v.ty (named_by (defines_variable v) ∷ names) v.initialiser))

-- an item behind these names and definitions
abbrev pub checked_item : Item → List Named → List (List ℕ) → Checks
checked_item (declares p) names defined = checked_prototype names defined false p
checked_item (declares_variable t name) names defined = checked_variable names defined false t name None
checked_item (defines f) names defined = checked_function_definition f names defined
checked_item (defines_variable v) names defined = checked_variable_definition v names defined

abbrev pub checked_items : List Item → List Named → List (List ℕ) → Checks
checked_items [] names defined = fine
checked_items (i ∷ rest) names defined =
    checked_item i names defined before moved (item_marks i) (checked_items rest (named_by i ∷ names) (defined_after i defined))

-- the first fault of items
abbrev pub first_fault : List Item → Checks
first_fault items = checked_items items [] []
