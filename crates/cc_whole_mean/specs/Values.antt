-- The values of expressions, and the acts that they may be.
use Rattle.std.specs.Prelude.{ℕ, zero, Bool, true, false, not, ◌==◌, if◌then◌else◌, List, [], ◌∷◌, ℤ, pos, negsuc, Option, Some, None, Result, Ok, Err}
use Rattle.cf_base.specs.declared.kind.Kind.{Kind}
use Rattle.cf_base.specs.declared.kind.Kind.TheVariants as kind
use Rattle.cf_base.specs.declared.arith.Arith.{Arith}
use Rattle.cf_base.specs.declared.arith.Arith.TheVariants as op
use Rattle.cf_base.specs.Integers.{int_op, convert}
use Rattle.cf_base.specs.Promotion.{promoted, usual}
use Rattle.cc_whole.specs.declared.expression.Prefix.{Prefix}
use Rattle.cc_whole.specs.declared.expression.Prefix.TheVariants as prefix
use Rattle.cc_whole.specs.Plain.{Place, named, pointed, Expression, constant, load, unary, cast, address, binary}
use Rattle.cc_whole_memory.specs.declared.value.Pointer.{Pointer}
use Rattle.cc_whole_memory.specs.declared.value.Pointer.TheVariants as pointer
use Rattle.cc_whole_memory.specs.declared.value.Value.{Value}
use Rattle.cc_whole_memory.specs.declared.value.Value.TheVariants as value
use Rattle.cc_whole_memory.specs.declared.value.Scalar.{Scalar}
use Rattle.cc_whole_memory.specs.declared.value.Scalar.TheVariants as scalar
use Rattle.cc_whole_memory.specs.Values.{bytes_of, as_scalar}
use Rattle.cc_whole_memory.specs.Blocks.{Memory, on_ok, no_value, read, write, carry}
use Rattle.cc_whole_memory.specs.Pointers.{moved, moved_back, of_pointers, same_pointer}
use Rattle.cc_whole_mean.specs.declared.named.Named.{Named}
use Rattle.cc_whole_mean.specs.declared.named.Named.TheVariants.{Variable as variable, Function as function}
use Rattle.cc_whole_mean.specs.declared.named.Shape.TheVariants.{Single as single, Array as array}
use Rattle.cc_whole_mean.specs.declared.named.Target.{Target}
use Rattle.cc_whole_mean.specs.Types.{scalar_of, constant_value}
use Rattle.cc_whole_mean.specs.Scope.{Scope}

-- A program that keeps the rules of validity uses no name that is not declared and no operand of another type than its operator takes.
-- Where one does, no value of that kind stands there.
abbrev pub ill_typed : ℕ
ill_typed = no_value

-- The constant 0 is a null pointer where a pointer is wanted.
abbrev pub is_nought : Value → Bool
is_nought (value.Number k (pos zero)) = true
is_nought (value.Number k z) = false
is_nought (value.Address p) = false
is_nought (value.Function f) = false

abbrev pub typed : Option Value → Result Value ℕ
typed None = Err ill_typed
typed (Some v) = Ok v

-- a value as one of the type that is wanted
abbrev pub fitted : Scalar → Value → Result Value ℕ
fitted (scalar.Integer k) v = typed (as_scalar (scalar.Integer k) v)
fitted scalar.Pointer v = if is_nought v then Ok (value.Address pointer.Null) else typed (as_scalar scalar.Pointer v)
fitted scalar.Function v = if is_nought v then Ok (value.Function 0) else typed (as_scalar scalar.Function v)

abbrev pub numbered : {A : Type 0} → Value → (Kind → ℤ → Result A ℕ) → Result A ℕ
numbered (value.Number k z) go = go k z
numbered (value.Address p) go = Err ill_typed
numbered (value.Function f) go = Err ill_typed

abbrev pub addressed : {A : Type 0} → Value → (Pointer → Result A ℕ) → Result A ℕ
addressed (value.Address p) go = go p
addressed (value.Number k z) go = Err ill_typed
addressed (value.Function f) go = Err ill_typed

-- a condition holds where its integer is not 0
abbrev pub is_true : ℤ → Bool
is_true (pos zero) = false
is_true z = true

-- a comparison is an int, 1 or 0 (5.9, 5.10)
abbrev pub truth_value : Bool → Value
truth_value true = value.Number kind.Int (pos 1)
truth_value false = value.Number kind.Int (pos 0)

-- Operators on integers, after promotion and the usual conversions (4.1, 4.5, 5.3, 5.6 to 5.13).

abbrev pub number : Kind → Result ℤ ℕ → Result Value ℕ
number k r = on_ok r (λ z. Ok (value.Number k z))

-- the type of the result, of the operator on two promoted types
abbrev pub result_kind : Arith → Kind → Kind
result_kind op.Less k = kind.Int
result_kind op.Greater k = kind.Int
result_kind op.LessEqual k = kind.Int
result_kind op.GreaterEqual k = kind.Int
result_kind op.Equal k = kind.Int
result_kind op.NotEqual k = kind.Int
result_kind o k = k

-- a shift has the type of its left operand; any other operator that of both, converted
abbrev pub of_numbers : Arith → Kind → ℤ → Kind → ℤ → Result Value ℕ
of_numbers op.ShiftLeft j a k b = number (promoted j) (int_op op.ShiftLeft (promoted j) (convert (promoted j) a) b)
of_numbers op.ShiftRight j a k b = number (promoted j) (int_op op.ShiftRight (promoted j) (convert (promoted j) a) b)
of_numbers o j a k b = number (result_kind o (usual j k)) (int_op o (usual j k) (convert (usual j k) a) (convert (usual j k) b))

-- `-` takes from 0, `~` turns every bit, `!` is equality to 0
abbrev pub prefixed : Prefix → Kind → ℤ → Result Value ℕ
prefixed prefix.Negate k z = number (promoted k) (int_op op.Subtract (promoted k) (pos 0) (convert (promoted k) z))
prefixed prefix.Complement k z = number (promoted k) (int_op op.Xor (promoted k) (convert (promoted k) z) (convert (promoted k) (negsuc 0)))
prefixed prefix.Not k z = Ok (truth_value (not (is_true z)))

-- Operators on pointers.

-- `==` and `!=`
abbrev pub by_equality : Arith → Bool → Result Value ℕ
by_equality op.Equal same = Ok (truth_value same)
by_equality op.NotEqual true = Ok (truth_value false)
by_equality op.NotEqual false = Ok (truth_value true)
by_equality o same = Err ill_typed

abbrev pub is_equality : Arith → Bool
is_equality op.Equal = true
is_equality op.NotEqual = true
is_equality o = false

abbrev pub address_value : Result Pointer ℕ → Result Value ℕ
address_value r = on_ok r (λ p. Ok (value.Address p))

-- two pointers are equal or not; else their offsets are subtracted or compared
abbrev pub of_addresses : Arith → Pointer → Pointer → Memory → Result Value ℕ
of_addresses o p q m = if is_equality o then by_equality o (same_pointer p q) else number kind.Int (of_pointers o p q m)

-- a pointer and an integer: the pointer moves, or is compared with the constant 0
abbrev pub of_address : Arith → Pointer → ℤ → Memory → Result Value ℕ
of_address op.Add p z m = address_value (moved p z m)
of_address op.Subtract p z m = address_value (moved_back p z m)
of_address o p z m = if is_true z then Err ill_typed else by_equality o (same_pointer p pointer.Null)

-- an integer on the left of a pointer: a sum, or the constant 0
abbrev pub before_address : Arith → ℤ → Pointer → Memory → Result Value ℕ
before_address op.Add z p m = address_value (moved p z m)
before_address o z p m = if is_true z then Err ill_typed else by_equality o (same_pointer pointer.Null p)

-- pointers to functions are equal or not, and may be compared with the constant 0
abbrev pub of_function : Arith → ℕ → ℤ → Result Value ℕ
of_function o f z = if is_true z then Err ill_typed else by_equality o (f == 0)

abbrev pub applied : Arith → Value → Value → Memory → Result Value ℕ
applied o (value.Number j a) (value.Number k b) m = of_numbers o j a k b
applied o (value.Number j a) (value.Address p) m = before_address o a p m
applied o (value.Number j a) (value.Function f) m = of_function o f a
applied o (value.Address p) (value.Number k b) m = of_address o p b m
applied o (value.Address p) (value.Address q) m = of_addresses o p q m
applied o (value.Address p) (value.Function f) m = Err ill_typed
applied o (value.Function f) (value.Number k b) m = of_function o f b
applied o (value.Function f) (value.Address p) m = Err ill_typed
applied o (value.Function f) (value.Function g) m = by_equality o (f == g)

-- Places and loads.

abbrev pub variable_target : Option Named → Result Target ℕ
variable_target (Some (variable b (single t))) = Ok (record { pointer = pointer.At b 0; scalar = t })
variable_target (Some (variable b array)) = Err ill_typed
variable_target (Some (function f)) = Err ill_typed
variable_target None = Err ill_typed

-- a name as a value: what a variable holds, an array's address, or a function
abbrev pub named_value : Option Named → Memory → Result Value ℕ
named_value (Some (variable b (single t))) m = read t (pointer.At b 0) m
named_value (Some (variable b array)) m = Ok (value.Address (pointer.At b 0))
named_value (Some (function f)) m = Ok (value.Function f)
named_value None m = Err ill_typed

-- `(char *)&NAME`
abbrev pub named_address : Option Named → Result Value ℕ
named_address (Some (variable b shape)) = Ok (value.Address (pointer.At b 0))
named_address (Some (function f)) = Err ill_typed
named_address None = Err ill_typed

-- operands are evaluated left to right
abbrev pub value_of : Expression → Scope → Memory → Result Value ℕ
value_of (constant c) scope m = Ok (constant_value c)
value_of (load (named name)) scope m = named_value (scope name) m
value_of (load (pointed t e)) scope m = on_ok (value_of e scope m) (λ v. addressed v (λ p. read (scalar_of t) p m))
value_of (unary o e) scope m = on_ok (value_of e scope m) (λ v. numbered v (λ k z. prefixed o k z))
value_of (cast t e) scope m = on_ok (value_of e scope m) (λ v. fitted (scalar_of t) v)
value_of (address name) scope m = named_address (scope name)
value_of (binary o a b) scope m = on_ok (value_of a scope m) (λ x. on_ok (value_of b scope m) (λ y. applied o x y m))

-- arguments are evaluated in order
abbrev pub values_of : List Expression → Scope → Memory → Result (List Value) ℕ
values_of [] scope m = Ok []
values_of (e ∷ es) scope m = on_ok (value_of e scope m) (λ v. on_ok (values_of es scope m) (λ vs. Ok (v ∷ vs)))

-- the place of a store
abbrev pub target_of : Place → Scope → Memory → Result Target ℕ
target_of (named name) scope m = variable_target (scope name)
target_of (pointed t e) scope m = on_ok (value_of e scope m) (λ v. addressed v (λ p. Ok (record { pointer = p; scalar = scalar_of t })))

-- a place gets a value
abbrev pub stored : Target → Value → Memory → Result Memory ℕ
stored at v m = on_ok (fitted at.scalar v) (λ v. write at.pointer v m)

-- where a right side loads from, if it is one load
abbrev pub variable_source : Option Named → Option (Result Pointer ℕ)
variable_source (Some (variable b (single t))) = Some (Ok (pointer.At b 0))
variable_source (Some (variable b array)) = None
variable_source (Some (function f)) = None
variable_source None = None

-- the pointer that an expression is
abbrev pub pointer_of : Expression → Scope → Memory → Result Pointer ℕ
pointer_of e scope m = on_ok (value_of e scope m) (λ v. addressed v (λ p. Ok p))

abbrev pub source_of : Expression → Scope → Memory → Option (Result Pointer ℕ)
source_of (load (named name)) scope m = variable_source (scope name)
source_of (load (pointed t e)) scope m = Some (pointer_of e scope m)
source_of (constant c) scope m = None
source_of (unary o e) scope m = None
source_of (cast t e) scope m = None
source_of (address name) scope m = None
source_of (binary o a b) scope m = None

abbrev pub carried_to : Result Pointer ℕ → Target → Memory → Result Memory ℕ
carried_to from at m = on_ok from (λ p. carry (bytes_of at.scalar) p at.pointer m)

abbrev pub given_to : Expression → Target → Scope → Memory → Result Memory ℕ
given_to e at scope m = on_ok (value_of e scope m) (λ v. stored at v m)

abbrev pub by_source : Option (Result Pointer ℕ) → Expression → Target → Scope → Memory → Result Memory ℕ
by_source None e at scope m = given_to e at scope m
by_source (Some from) e at scope m = carried_to from at m

abbrev pub assigned_to : Target → Expression → Scope → Memory → Result Memory ℕ
assigned_to at e scope m = by_source (source_of e scope m) e at scope m

-- `place = expression;`: the place first. A right side that is one load, which then has the left side's type, moves what stands there, no
-- value included; any other gives its value.
abbrev pub assigned : Place → Expression → Scope → Memory → Result Memory ℕ
assigned place e scope m = on_ok (target_of place scope m) (λ at. assigned_to at e scope m)

-- the value of a condition, or of a `switch`
abbrev pub integer_of : Expression → Scope → Memory → Result ℤ ℕ
integer_of e scope m = on_ok (value_of e scope m) (λ v. numbered v (λ k z. Ok z))
