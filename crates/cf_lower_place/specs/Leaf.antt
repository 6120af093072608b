-- Which statements that are no control are lowered, but for calls, by what registers hold before them.
use Rattle.std.specs.Prelude.{ℕ, ◌^◌, nat_le, nat_lt, Bool, true, false, ◌&&◌, ◌||◌, not, List, Option, Some, None, is_some, length}
use Rattle.cf_base.specs.declared.kind.Kind.{Kind}
use Rattle.cf_base.specs.declared.kind.Kind.TheVariants.{Char, SChar, UChar, Int, UInt, Long, ULong}
use Rattle.cf_base.specs.Integers.{fits as is_of}
use Rattle.cf_core.specs.declared.operators.PointerOperator.{PointerOperator}
use Rattle.cf_core.specs.declared.operators.PointerOperator.TheVariants as pointer
use Rattle.cf_core.specs.Types.{SourceType, void, integer, array, const, is_void, type_eq, without_const}
use Rattle.cf_core.specs.Classes.{Class}
use Rattle.cf_core.specs.Core.{Change, arithmetic, moved}
use Rattle.cf_core.specs.Places.{is_reference, is_scalar}
use Rattle.cf_core.specs.Size.{size}
use Rattle.cf_lower_layout.specs.Layout.{has_bytes, const_once}
use Rattle.cf_lower_layout.specs.Sorts.{Sort, number, address, code, sort_of}
use Rattle.cf_plain.specs.Plain as plain
use Rattle.cf_plain.specs.Plain.{Register, Action, Plain, act, set, give}
use Rattle.cf_lower.specs.Kept.{Kept, integer_of, holds, argument, Keeping, Locals, referred, type_of_local, is_argument}
use Rattle.cf_lower_kept.specs.Ready.{is_code}
use Rattle.cf_lower_place.specs.View.{View}

-- ---- what registers hold

abbrev pub is_integer : Kept → Bool
is_integer (integer_of f) = true
is_integer x = false

abbrev pub is_address : Kept → Bool
is_address (holds (address t)) = true
is_address x = false

-- a pointer that an action goes through
abbrev pub is_pointer : Kept → Bool
is_pointer (holds (address t)) = true
is_pointer (holds (code t)) = true
is_pointer x = false

-- what is true or not
abbrev pub is_tested : Kept → Bool
is_tested (integer_of f) = true
is_tested x = is_pointer x

-- a place whose scalar is read
abbrev pub is_scalars_place : Kept → Bool
is_scalars_place (holds (address t)) = is_some (sort_of t)
is_scalars_place x = false

-- a pointer and an integer (5.7)
abbrev pub may_move : Kept → Kept → Bool
may_move (holds (address t)) (integer_of f) = not (is_void t)
may_move x y = false

-- in either order
abbrev pub may_add : Kept → Kept → Bool
may_add (integer_of f) (holds (address t)) = not (is_void t)
may_add x y = may_move x y

abbrev pub may_subtract : Kept → Kept → Bool
may_subtract (holds (address t)) (holds (address u)) = not (is_void t)
may_subtract x y = false

-- pointers to objects (5.9, 5.10); of two to functions one has to be null, of which registers do not tell
abbrev pub have_order : Kept → Kept → Bool
have_order (holds (address t)) (holds (address u)) = true
have_order x y = false

abbrev pub may_operate : PointerOperator → Kept → Kept → Bool
may_operate pointer.Add x y = may_add x y
may_operate pointer.Subtract x y = may_move x y
may_operate pointer.Difference x y = may_subtract x y
may_operate op x y = have_order x y

abbrev pub may_change : Change → Kept → Kept → Bool
may_change (arithmetic op k to) x y = is_integer x && is_integer y
may_change (moved back) x y = may_move x y

-- an integer, the constant 0 as a null pointer, or a pointer to void or to the same type (4)
abbrev pub may_convert : Option Sort → Kept → Bool
may_convert (Some (number k)) (integer_of f) = true
may_convert (Some (address u)) (integer_of f) = true
may_convert (Some (code u)) (integer_of f) = true
may_convert (Some (address u)) (holds (address t)) = type_eq u void || type_eq t u
may_convert (Some (code u)) (holds (code t)) = type_eq t u
may_convert s x = false

-- whether a scalar of this sort takes what a register holds
abbrev pub may_hold : Option Sort → Kept → Bool
may_hold (Some (number k)) (integer_of f) = f k
may_hold (Some (address t)) (holds (address u)) = type_eq t u
may_hold (Some (code t)) (holds (code u)) = type_eq t u
may_hold s x = false

abbrev pub may_store : Kept → Kept → Bool
may_store (holds (address t)) x = may_hold (sort_of t) x
may_store y x = false

-- an object that is filled by zeros, and an array of characters by the bytes of a literal
abbrev pub may_zero : Kept → Bool
may_zero (holds (address t)) = not (is_void t)
may_zero x = false

abbrev pub are_chars : Kept → Bool
are_chars (holds (address (array (integer Char) n))) = true
are_chars (holds (address (array (integer SChar) n))) = true
are_chars (holds (address (array (integer UChar) n))) = true
are_chars x = false

-- ---- types and names

-- no const on a function
abbrev pub const_on_none : SourceType → Bool
const_on_none (const t) = not (is_code t)
const_on_none t = true

abbrev pub is_laid : List Class → SourceType → Bool
is_laid classes t = nat_le (size classes t) (2 ^ 22) && (has_bytes t && const_once t)

-- a local that is no parameter's object of a call
abbrev pub is_own : Locals → ℕ → SourceType → Bool
is_own locals i t = nat_lt i (length locals.types) && not (is_argument locals i && is_scalar t)

-- a local of an object's type that is no reference
abbrev pub is_object_local : Locals → ℕ → Bool
is_object_local locals i =
    is_own locals i (type_of_local locals i) && (not (is_reference (type_of_local locals i)) && not (is_code (type_of_local locals i)))

-- a local that is a reference
abbrev pub is_reference_local : Locals → ℕ → Bool
is_reference_local locals i =
    nat_lt i (length locals.types) && (is_reference (type_of_local locals i) && const_on_none (referred (type_of_local locals i)))

-- a static object, which no reference is
abbrev pub is_object_type : SourceType → Bool
is_object_type t = not (is_reference t) && not (is_code t)

-- a local of this type
abbrev pub is_local : Locals → ℕ → SourceType → Bool
is_local locals i t = nat_lt i (length locals.types) && type_eq (without_const t) (without_const (type_of_local locals i))

abbrev pub may_begin : View → ℕ → SourceType → Bool
may_begin v i t = is_local v.locals i t && is_laid v.classes t

-- the first value of a scalar, or of the object of a parameter of a call
abbrev pub may_first : Locals → Kept → Kept → Bool
may_first locals (argument i t) x = is_local locals i t && may_hold (sort_of t) x
may_first locals y x = may_store y x

-- a kind that integral promotion leaves as it is (4.1)
abbrev pub is_promoted : Kind → Bool
is_promoted Int = true
is_promoted UInt = true
is_promoted Long = true
is_promoted ULong = true
is_promoted k = false

abbrev pub is_promoted_change : Change → Bool
is_promoted_change (arithmetic op k to) = is_promoted k
is_promoted_change (moved back) = true

-- ---- statements

-- actions that give a value and change nothing
abbrev pub gives_value : View → Keeping → Action → Bool
gives_value v p (plain.number n) = is_of Int n || is_of UInt n
gives_value v p (plain.local i) = is_object_local v.locals i || is_reference_local v.locals i
gives_value v p (plain.static_object name t) = is_object_type t
gives_value v p (plain.function name t) = v.names name t
gives_value v p (plain.read q) = is_scalars_place (p q)
gives_value v p (plain.dereference q) = is_pointer (p q)
gives_value v p (plain.decay q) = is_pointer (p q)
gives_value v p (plain.index q r) = may_add (p q) (p r)
gives_value v p (plain.convert t q) = may_convert (sort_of t) (p q)
gives_value v p (plain.from_void t q) = is_address (p q)
gives_value v p (plain.operate op k q r) = is_promoted k && (is_integer (p q) && is_integer (p r))
gives_value v p (plain.unary op k q) = is_promoted k && is_integer (p q)
gives_value v p (plain.truth q) = is_tested (p q)
gives_value v p (plain.logical_not q) = is_tested (p q)
gives_value v p (plain.pointer_operate op q r) = may_operate op (p q) (p r)
gives_value v p (plain.changed change q r) = is_promoted_change change && may_change change (p q) (p r)
gives_value v p a = false

-- a conversion to void, of which nothing is kept
abbrev pub gives_nothing : Action → Bool
gives_nothing (plain.convert t q) = is_void t
gives_nothing a = false

-- what is set, by an action that gives a value or nothing, or makes an object
abbrev pub may_set : View → Keeping → Action → Bool
may_set v p (plain.text j bytes) = v.texts j bytes
may_set v p (plain.declare i t) = may_begin v i t
may_set v p a = gives_nothing a || gives_value v p a

abbrev pub may_do : View → Keeping → Action → Bool
may_do v p (plain.text j bytes) = v.texts j bytes
may_do v p (plain.declare i t) = may_begin v i t
may_do v p (plain.store r q) = may_store (p r) (p q)
may_do v p (plain.first r q) = may_first v.locals (p r) (p q)
may_do v p (plain.zeros r) = may_zero (p r)
may_do v p (plain.bytes r b) = are_chars (p r)
may_do v p (plain.finish t i) = nat_lt i (length v.locals.types) && has_bytes t
may_do v p a = gives_nothing a || gives_value v p a

-- nothing, or what is returned
abbrev pub may_give : Option Sort → Keeping → Option Register → Bool
may_give s p None = true
may_give None p (Some r) = true
may_give (Some u) p (Some r) = may_hold (Some u) (p r)

-- the statements that are leaves
abbrev pub is_leaf : View → Keeping → Plain → Bool
is_leaf v p (set r a) = nat_lt r v.bound && may_set v p a
is_leaf v p (act a) = may_do v p a
is_leaf v p (give r) = may_give v.result p r
is_leaf v p s = false
