-- Link names: the name of an entity in the written C says its scope, its name and the types of its parameters.
use Rattle.std.specs.Prelude.{ℕ, ◌-◌, Bool, true, false, ◌==◌, nat_eq, if◌then◌else◌, List, [], ◌∷◌, ◌++◌, length, map, reverse, codes, decimal, Option, None, Some, slice_get}
use Rattle.std.specs.Cmp.Lexicographic.{pointwise}
use Rattle.std.specs.List.{flat_map, list_any}
use Rattle.std.specs.Option.{option_map_or}
use Rattle.cf_base.specs.declared.kind.Kind.{Kind}
use Rattle.cf_base.specs.declared.kind.Kind.TheVariants as kind
use Rattle.cf_types.specs.declared.ty.Ty.{Ty}
use Rattle.cf_types.specs.declared.ty.Ty.TheVariants as ty
use Rattle.cf_types.specs.declared.ty.Fun.{Fun}
use Rattle.cf_types.specs.Table.{Table}
use Rattle.cf_classes.specs.declared.label.Label.{Label}
use Rattle.cf_classes.specs.ClassTable.{ClassTable}
use Rattle.cf_classes.specs.TypeTree.{of_type}

-- a type as its code; a class or enumeration is the names that lead to it, from the outside
mutual
  pub data Code : Type 0 where
    Void : Code
    Integer : Kind → Code
    Named : List (List ℕ) → Code
    Pointer : Code → Code
    Reference : Code → Code
    Const : Code → Code
    Array : ℕ → Code → Code
    Function : Bool → Codes → Code → Code  -- whether it is that of a const member function, its parameters, its result
    Member : List (List ℕ) → Code → Code  -- a pointer to a member of this class

  pub data Codes : Type 0 where
    none : Codes
    more : Code → Codes → Codes

abbrev pub kind_code : Kind → List ℕ
kind_code kind.Char = codes "c"
kind_code kind.SChar = codes "Sc"
kind_code kind.UChar = codes "Uc"
kind_code kind.Short = codes "s"
kind_code kind.UShort = codes "Us"
kind_code kind.Int = codes "i"
kind_code kind.UInt = codes "Ui"
kind_code kind.Long = codes "l"
kind_code kind.ULong = codes "Ul"

-- a name with its length in front
abbrev pub counted : List ℕ → List ℕ
counted name = decimal (length name) ++ name

-- a class or enumeration: one name, or how many and the names from the outside
abbrev pub scope_code : List (List ℕ) → List ℕ
scope_code [] = []
scope_code (name ∷ []) = counted name
scope_code (name ∷ inner ∷ rest) = codes "Q" ++ decimal (length (name ∷ inner ∷ rest)) ++ codes "_" ++ flat_map counted (name ∷ inner ∷ rest)

abbrev mutual
  pub code : Code → List ℕ
  code Void = codes "v"
  code (Integer k) = kind_code k
  code (Named names) = scope_code names
  code (Pointer t) = codes "P" ++ code t
  code (Reference t) = codes "R" ++ code t
  code (Const t) = codes "C" ++ code t
  code (Array n t) = codes "A" ++ decimal n ++ codes "_" ++ code t
  code (Function is_const params result) = (if is_const then codes "CF" else codes "F") ++ code_all params ++ codes "_" ++ code result
  code (Member names t) = codes "M" ++ scope_code names ++ code t

  pub code_all : Codes → List ℕ
  code_all none = []
  code_all (more t ts) = code t ++ code_all ts

-- what an entity is called in its scope; an operator by its number
pub data Called : Type 0 where
  Main : Called
  Variable : List ℕ → Called
  Plain : List ℕ → Called
  Operator : ℕ → Called
  Constructor : Called
  Destructor : Called
  Conversion : Code → Called

pub record Entity : Type 0 where
  pub scope : List (List ℕ)  -- the names of the classes that it is a member of, from the outside
  pub what : Called
  pub params : Codes
  pub is_const : Bool
  pub is_static : Bool

-- the operators' codes, in order of their numbers
abbrev pub operator_codes : List (List ℕ)
operator_codes =
    codes "ml" ∷ codes "dv" ∷ codes "md" ∷ codes "pl" ∷ codes "mi" ∷ codes "ls" ∷ codes "rs" ∷ codes "eq" ∷ codes "ne" ∷ codes "lt"
    ∷ codes "gt" ∷ codes "le" ∷ codes "ge" ∷ codes "ad" ∷ codes "or" ∷ codes "er" ∷ codes "aa" ∷ codes "oo" ∷ codes "nt" ∷ codes "co"
    ∷ codes "pp" ∷ codes "mm" ∷ codes "as" ∷ codes "rf" ∷ codes "rm" ∷ codes "cl" ∷ codes "vc" ∷ codes "cm" ∷ codes "apl" ∷ codes "ami"
    ∷ codes "amu" ∷ codes "adv" ∷ codes "amd" ∷ codes "als" ∷ codes "ars" ∷ codes "aad" ∷ codes "aor" ∷ codes "aer" ∷ []

abbrev pub item : List (List ℕ) → ℕ → List ℕ
item [] i = []
item (x ∷ xs) i = if i == 0 then x else item xs (i - 1)

-- the names that the C knows without a declaration
abbrev pub known_names : List (List ℕ)
known_names = codes "putchar" ∷ codes "getchar" ∷ codes "exit" ∷ codes "malloc" ∷ codes "free" ∷ codes "atexit" ∷ codes "main" ∷ []

abbrev global_variable : List ℕ → List ℕ
global_variable name = if list_any (pointwise nat_eq name) known_names then name ++ codes "__g" else name

abbrev variable : List (List ℕ) → List ℕ → List ℕ
variable [] name = global_variable name
variable (outer ∷ inner) name = name ++ codes "__" ++ scope_code (outer ∷ inner)

abbrev pub parameters : Codes → List ℕ
parameters none = codes "v"
parameters (more t ts) = code_all (more t ts)

-- a function's name, then its class, then C where it is const or S where it is static, then F and its parameters
abbrev function : List ℕ → Entity → List ℕ
function name e =
    name ++ codes "__" ++ scope_code e.scope ++ (if e.is_const then codes "C" else []) ++ (if e.is_static then codes "S" else []) ++ codes "F" ++ parameters e.params

abbrev called : Called → Entity → List ℕ
called Main e = codes "__main"
called (Variable name) e = variable e.scope name
called (Plain name) e = function name e
called (Operator n) e = function (codes "__" ++ item operator_codes n) e
called Constructor e = function (codes "__ct") e
called Destructor e = function (codes "__dt") e
called (Conversion t) e = function (codes "__op" ++ code t) e

abbrev pub link_name : Entity → List ℕ
link_name e = called e.what e

-- the name at the end of those that lead to the class around it; without a name there are none
abbrev named_in : List (List ℕ) → List ℕ → List (List ℕ)
named_in outer [] = []
named_in outer (b ∷ bs) = outer ++ (b ∷ bs) ∷ []

-- the names that lead to a class, from the outside: an outer class is declared before what it holds
abbrev names_from : List Label → ℕ → List (List ℕ)
names_from [] c = []
names_from (l ∷ older) c = elim (c == length older) as (λ _. List (List ℕ)) [ true ↦ named_in (option_map_or (names_from older) l.outer []) l.name | false ↦ names_from older c ]

abbrev pub class_names : ClassTable → ℕ → List (List ℕ)
class_names classes c = names_from (reverse classes.labels) c

abbrev enum_names_of : ClassTable → Option Label → List (List ℕ)
enum_names_of classes None = []
enum_names_of classes (Some l) = named_in (option_map_or (class_names classes) l.outer []) l.name

-- an unnamed enumeration has none, so its code is empty
abbrev pub enum_names : ClassTable → ℕ → List (List ℕ)
enum_names classes e = enum_names_of classes (slice_get classes.enums e)

-- const of a parameter itself is dropped; an array parameter is a pointer, and a function parameter a pointer to it
abbrev pub as_parameter : Code → Code
as_parameter (Const t) = t
as_parameter (Array n t) = Pointer t
as_parameter (Function c ps r) = Pointer (Function c ps r)
as_parameter other = other

abbrev pub listed : List Code → Codes
listed [] = none
listed (t ∷ ts) = more t (listed ts)

abbrev fun_code : (ℕ → Code) → Option Fun → Code
fun_code rec None = Void
fun_code rec (Some f) = Function f.is_const (listed (map (λ p. as_parameter (rec p)) f.params)) (rec f.result)

abbrev code_step : Table → ClassTable → (ℕ → Code) → Ty → Code
code_step types classes rec ty.Void = Void
code_step types classes rec (ty.Int k) = Integer k
code_step types classes rec (ty.Enum e) = Named (enum_names classes e)
code_step types classes rec (ty.Class c) = Named (class_names classes c)
code_step types classes rec (ty.Ptr t) = Pointer (rec t)
code_step types classes rec (ty.Ref t) = Reference (rec t)
code_step types classes rec (ty.Array t n) = Array n (rec t)
code_step types classes rec (ty.Fun f) = fun_code rec (slice_get types.funs f)
code_step types classes rec (ty.MemData c t) = Member (class_names classes c) (rec t)
code_step types classes rec (ty.MemFun c f) = Member (class_names classes c) (fun_code rec (slice_get types.funs f))
code_step types classes rec (ty.Const t) = Const (rec t)

-- the code of a type
abbrev pub code_of : Table → ClassTable → ℕ → Code
code_of types classes t = of_type Void (code_step types classes) types t
