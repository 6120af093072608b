-- What an expression is while it is elaborated (3.7, 5).
use Rattle.std.specs.Prelude.{ℕ, zero, Bool, true, false, if◌then◌else◌, List, [], ◌∷◌, ℤ, pos, Option, None, Some, Result, Ok, Err, slice_get}
use Rattle.std.specs.Option.{option_map_or}
use Rattle.cf_base.specs.declared.kind.Kind.{Kind}
use Rattle.cf_base.specs.declared.kind.Kind.TheVariants as kind
use Rattle.cf_base.specs.Promotion.{promoted}
use Rattle.cf_types.specs.declared.ty.Ty.{Ty}
use Rattle.cf_types.specs.declared.ty.Ty.TheVariants as ty
use Rattle.cf_types.specs.Table.{Table}
use Rattle.cf_classes.specs.declared.path.Step.{Step}
use Rattle.cf_classes.specs.declared.class.ClassDef.{ClassDef}
use Rattle.cf_classes.specs.declared.class.MemberRef.{MemberRef}
use Rattle.cf_classes.specs.ClassTable.{latest_first}
use Rattle.cf_convert.specs.Constness.{type_at, bare}
use Rattle.cf_convert.specs.declared.conv.Val.{Val}
use Rattle.cf_core.specs.declared.node.Core.{Core as Node}
use Rattle.cf_core.specs.declared.node.Core.TheVariants as node
use Rattle.cf_elab.specs.Env.{Env, FunctionEntry}
use Rattle.cf_elab.specs.Answer.{Elab, ◌>>=◌, gives, breaks, known}
use Rattle.cf_elab.specs.Made.{pointer_to}

-- a value, or an lvalue as a place
pub record Value : Type 0 where
  pub at : ℕ  -- the place of the node
  pub node : Node
  pub type : ℕ
  pub is_lvalue : Bool
  pub number : Option ℤ  -- its value, where it is a constant expression (5.19)
  pub is_fixed : Bool  -- whether it is the place or the address of a static object or function, or of a part of one (8.4)

-- member functions of one name, as lookup found them: the class that they were named in, and the object if there is one, with the path to them
-- from it, or else from that class
pub record Methods : Type 0 where
  pub at : ℕ
  pub naming : ℕ
  pub path : List Step
  pub found : List MemberRef
  pub object : Option Value
  pub is_qualified : Bool  -- whether a class qualified the name, so that no call of it is dispatched (10.2)
  pub alone : Option (Elab Value)  -- its value where it is one static function, which is a function as any other (9.4)

-- An expression is a value; or functions of one name, by their numbers, with the place of the name; or member functions; or a nonstatic
-- data member that is named without an object, from the class in which it was named; or an object with a pointer to a member function of this
-- number, to be called (5.5).
pub data Operand : Type 0 where
  value : Value → Operand
  functions : ℕ → List ℕ → Operand
  methods : Methods → Operand
  field_name : ℕ → ℕ → List Step → MemberRef → Operand
  bound_method : Value → Value → ℕ → Operand

-- what a part of an expression is to the construct around it
pub record Part : Type 0 where
  pub run : Elab Operand
  pub last_name : Option ℕ  -- the place of its last name
  pub text : Option (ℕ × List ℕ)  -- its place and its bytes, where it is a string literal
  pub of_class : Option (Elab Operand)  -- a qualified name by itself, without the object of the function at hand (5.3)

abbrev pub part : Elab Operand → Part
part run = record { run = run; last_name = None; text = None; of_class = None }

abbrev pub defs : Env → List (ℕ × ClassDef)
defs env = latest_first env.classes

-- a value that is no lvalue and no constant
abbrev pub computed : ℕ → Node → ℕ → Value
computed at n t = record { at = at; node = n; type = t; is_lvalue = false; number = None; is_fixed = false }

abbrev pub constant : ℕ → ℤ → ℕ → Value
constant at z t = record { at = at; node = node.Number at z; type = t; is_lvalue = false; number = Some z; is_fixed = false }

abbrev pub place_of : ℕ → Node → ℕ → Bool → Value
place_of at n t fixed = record { at = at; node = n; type = t; is_lvalue = true; number = None; is_fixed = fixed }

-- what a result of a type is: of a reference the object (8.4.3)
abbrev pub result_step : ℕ → Node → ℕ → Ty → Value
result_step at n t (ty.Ref u) = place_of at n u false
result_step at n t other = computed at n t

abbrev pub result_value : Table → ℕ → Node → ℕ → Value
result_value types at n t = result_step at n t (type_at types t)

abbrev pub known_number : Option ℤ → Result ℤ ℕ → Option ℤ
known_number None r = None
known_number (Some z) (Ok w) = Some w
known_number (Some z) (Err e) = None

abbrev pub is_zero : Option ℤ → Bool
is_zero (Some (pos zero)) = true
is_zero other = false

abbrev pub val : Value → Val
val v = record { ty = v.type; lvalue = v.is_lvalue; zero = is_zero v.number }

-- ---- functions by name

abbrev pub function_value : ℕ → FunctionEntry → Value
function_value at f = place_of at (node.Function at f.link f.type) f.type true

abbrev pub one_function : ℕ → Option FunctionEntry → Elab Value
one_function at None = breaks 10 at
one_function at (Some f) = gives (function_value at f)

-- the value of an operand where no type is wanted: of functions of one name there is one (13.3)
abbrev pub value_of : Operand → Elab Value
value_of (value v) = gives v
value_of (functions at (f ∷ [])) = known >>= (λ env. one_function at (slice_get env.entries f))
value_of (functions at fs) = breaks 46 at
value_of (methods m) = option_map_or (λ v. v) m.alone (breaks 32 m.at)
value_of (field_name at c p m) = breaks 32 at
value_of (bound_method o p f) = breaks 18 p.at

abbrev pub evaluated : Part → Elab Value
evaluated a = a.run >>= value_of

-- two parts are elaborated before either is looked at
abbrev pub both : Part → Part → Elab (Value × Value)
both a b = do
  o ← a.run
  p ← b.run
  x ← value_of o
  y ← value_of p
  gives (x, y)

-- ---- sorts of types

-- what operators ask of a type; const doesn't matter
pub data Sort : Type 0 where
  integral : Kind → Sort
  enumeral : ℕ → Sort
  object_pointer : ℕ → Sort
  void_pointer : Sort
  function_pointer : ℕ → Sort
  data_pointer : ℕ → ℕ → Sort  -- to a data member: the class and the member's type
  method_pointer : ℕ → ℕ → Sort  -- to a member function: the class and the number of the function type
  class_sort : ℕ → Sort
  array_sort : ℕ → ℕ → Sort
  function_sort : ℕ → Sort
  void_sort : Sort
  reference_sort : ℕ → Sort

abbrev pub pointer_sort : ℕ → Ty → Sort
pointer_sort t ty.Void = void_pointer
pointer_sort t (ty.Fun f) = function_pointer t
pointer_sort t other = object_pointer t

abbrev pub ty_sort : Table → Ty → Sort
ty_sort types ty.Void = void_sort
ty_sort types (ty.Int k) = integral k
ty_sort types (ty.Enum e) = enumeral e
ty_sort types (ty.Class c) = class_sort c
ty_sort types (ty.Ptr t) = pointer_sort t (type_at types (bare types t))
ty_sort types (ty.Ref t) = reference_sort t
ty_sort types (ty.Array t n) = array_sort t n
ty_sort types (ty.Fun f) = function_sort f
ty_sort types (ty.MemData c t) = data_pointer c t
ty_sort types (ty.MemFun c f) = method_pointer c f
ty_sort types (ty.Const t) = void_sort

abbrev pub sort_of : Table → ℕ → Sort
sort_of types t = ty_sort types (type_at types (bare types t))

-- the promoted type of an integer or an enumeration (4.1)
abbrev pub arithmetic : Sort → Option Kind
arithmetic (integral k) = Some (promoted k)
arithmetic (enumeral e) = Some kind.Int
arithmetic other = None

abbrev pub is_arithmetic : Sort → Bool
is_arithmetic (integral k) = true
is_arithmetic (enumeral e) = true
is_arithmetic other = false

abbrev pub is_class : Sort → Bool
is_class (class_sort c) = true
is_class other = false

abbrev pub is_function : Sort → Bool
is_function (function_sort f) = true
is_function other = false

abbrev pub is_array : Sort → Bool
is_array (array_sort t n) = true
is_array other = false

abbrev pub is_void : Sort → Bool
is_void void_sort = true
is_void other = false

abbrev pub is_reference : Sort → Bool
is_reference (reference_sort t) = true
is_reference other = false

-- an arithmetic type or a pointer (6.4.1)
abbrev pub is_testable : Sort → Bool
is_testable (integral k) = true
is_testable (enumeral e) = true
is_testable (object_pointer t) = true
is_testable void_pointer = true
is_testable (function_pointer t) = true
is_testable other = false

-- ---- plain values

-- what reads an lvalue; a number that is known stands for itself (5.19)
abbrev pub read_node : Value → Node
read_node v = option_map_or (λ z. node.Number v.at z) v.number (node.Read v.at v.node)

abbrev pub read_value : Table → Value → Value
read_value types v =
    if v.is_lvalue then record v { node = read_node v; type = bare types v.type; is_lvalue = false; is_fixed = false }
    else record v { type = bare types v.type }

abbrev pub decayed : Value → ℕ → Elab Value
decayed v t = do
  p ← pointer_to t
  gives (record v { node = node.Decay v.at v.node; type = p; is_lvalue = false })

-- the value of an lvalue, and of an array or a function the pointer; a class object stays what it is
abbrev pub plain_sort : Table → Value → Sort → Elab Value
plain_sort types v (array_sort t n) = decayed v t
plain_sort types v (function_sort f) = decayed v (bare types v.type)
plain_sort types v (class_sort c) = gives v
plain_sort types v other = gives (read_value types v)

abbrev pub plain : Value → Elab Value
plain v = known >>= (λ env. plain_sort env.types v (sort_of env.types v.type))

abbrev pub sort : Value → Elab Sort
sort v = known >>= (λ env. gives (sort_of env.types v.type))
