-- What a node of an expression or initialiser may be, by its type (5, 8.4). Const does not matter here.
use Rattle.std.specs.Prelude.{zero, Bool, true, false, ◌&&◌, ◌||◌, not, if◌then◌else◌, List, ℤ, pos, Option, Some, None, is_some, bytes_eq}
use Rattle.cf_base.specs.declared.kind.Kind.{Kind}
use Rattle.cf_base.specs.declared.kind.Kind.TheVariants.{Int, ULong}
use Rattle.cf_base.specs.declared.arith.Arith.{Arith}
use Rattle.cf_base.specs.declared.arith.Arith.TheVariants as arith
use Rattle.cf_base.specs.Integers.{fits}
use Rattle.cf_types.specs.Operators.{is_shift}
use Rattle.cf_core.specs.declared.operators.PointerOperator.{PointerOperator}
use Rattle.cf_core.specs.declared.operators.PointerOperator.TheVariants as ptr
use Rattle.cf_core.specs.Types.{Name, SourceType, void, integer, enumeration, class, pointer, reference, takes, gives, data_member, function_member, const, plain, same_but_const, is_class, is_void}
use Rattle.cf_core.specs.Classes.{Class}
use Rattle.cf_core.specs.Core.{Static, Change, arithmetic, moved}
use Rattle.cf_core.specs.Places.{is_scalar}

-- what the nodes of a function may name
pub record Scope : Type 0 where
  pub classes : List Class
  pub statics : List Static  -- the file's static objects
  pub locals : List SourceType  -- its parameters and then its locals
  pub this : Option Name  -- the class whose object a member function is called on

-- What a node is: a place, a value, an initialiser, or several of them.
pub record Typing : Type 0 where
  pub place : Option SourceType  -- of the place that it is
  pub type : Option SourceType  -- of its value, where the node alone tells it
  pub number : Option ℤ  -- the integer constant that it is
  pub is_null : Bool  -- whether it is the constant 0 as a pointer or pointer to member
  pub value : SourceType → Bool  -- whether it is a value of this type
  pub member : Name → Option SourceType  -- of the data member that it points to in this class
  pub start : SourceType → Bool  -- whether it initialises a place of this type

abbrev pub no_typing : Typing
no_typing = record { place = None; type = None; number = None; is_null = false; value = λ t. false; member = λ c. None; start = λ t. false }

abbrev pub allowed : Bool → Typing → Typing
allowed true x = x
allowed false x = no_typing

-- Types.

abbrev pub is_function : SourceType → Bool
is_function (takes p t) = true
is_function (gives t c) = true
is_function t = false

abbrev pub is_integral : SourceType → Bool
is_integral (integer k) = true
is_integral (enumeration e) = true
is_integral t = false

abbrev pub member_in : SourceType → Name → Option SourceType
member_in (data_member d u) c = if bytes_eq c d then Some u else None
member_in t c = None

abbrev pub same_type : Option SourceType → SourceType → Bool
same_type None t = false
same_type (Some u) t = same_but_const u t

-- Forms.

abbrev pub of_start : (SourceType → Bool) → Typing
of_start f = record no_typing { start = f }

-- a value of this type; it initialises a scalar
abbrev pub of_value : SourceType → Typing
of_value t = record no_typing {
  type = Some t;
  value = same_but_const t;
  member = member_in t;
  start = λ u. is_scalar u && same_but_const t u;
}

-- a conversion of the constant 0 gives a null pointer
abbrev pub null_if : Bool → Typing → Typing
null_if b x = record x { is_null = b }

-- an integer constant is of each integer type that holds it
abbrev pub holds_number : ℤ → SourceType → Bool
holds_number z (integer k) = fits k z
holds_number z (enumeration e) = fits Int z
holds_number z (const t) = holds_number z t
holds_number z t = false

abbrev pub of_number : ℤ → Typing
of_number z = record no_typing { number = Some z; value = holds_number z; start = holds_number z }

-- a place; that of a function is a pointer to it too (4.6)
abbrev pub of_place : SourceType → Typing
of_place t = elim (is_function t) [ true ↦ record (of_value (pointer t)) { place = Some t } | false ↦ record no_typing { place = Some t } ]

-- a name: a reference is another name for a place (8.4.3)
abbrev pub of_name : Option SourceType → Typing
of_name None = no_typing
of_name (Some (reference t)) = of_place t
of_name (Some t) = of_place t

-- what a call gives: a place, an object that it builds where it is told to, or a value
abbrev pub of_result : SourceType → Typing
of_result (reference t) = of_place t
of_result (class c) = of_start (same_but_const (class c))
of_result (const t) = of_result t
of_result t = of_value t

-- Parts.

abbrev pub integral_type : Option SourceType → Bool
integral_type None = false
integral_type (Some t) = is_integral t

-- an integer of any type
abbrev pub is_integer : Typing → Bool
is_integer x = integral_type x.type || is_some x.number || x.value (integer Int) || x.value (integer ULong)

abbrev pub scalar_type : Option SourceType → Bool
scalar_type None = false
scalar_type (Some t) = is_scalar t

-- what a condition may be (6.4.1)
abbrev pub is_condition : Typing → Bool
is_condition x = is_integer x || scalar_type x.type

abbrev pub is_zero : Option ℤ → Bool
is_zero (Some (pos zero)) = true
is_zero z = false

-- anything that is evaluated alone (6.2)
abbrev pub is_expression : Typing → Bool
is_expression x = is_some x.place || is_some x.type || is_integer x

abbrev pub pointed : Option SourceType → Option SourceType
pointed (Some (pointer t)) = Some t
pointed t = None

-- a pointer to an object
abbrev pub points_to_object : Typing → Bool
points_to_object x = object_in (pointed x.type)
  where
    object_in : Option SourceType → Bool
    object_in None = false
    object_in (Some t) = not (is_function t) && not (is_void t)

abbrev pub is_class_place : Typing → Bool
is_class_place x = class_in x.place
  where
    class_in : Option SourceType → Bool
    class_in None = false
    class_in (Some t) = is_class t

-- Operands.

abbrev pub is_comparison : Arith → Bool
is_comparison arith.Less = true
is_comparison arith.Greater = true
is_comparison arith.LessEqual = true
is_comparison arith.GreaterEqual = true
is_comparison arith.Equal = true
is_comparison arith.NotEqual = true
is_comparison op = false

abbrev pub operated_type : Arith → Kind → SourceType
operated_type op k = if is_comparison op then integer Int else integer k

-- the right operand of a shift is of a promoted type of its own (5.8)
abbrev pub is_right_operand : Arith → Kind → Typing → Bool
is_right_operand op k x = if is_shift op then is_integer x else x.value (integer k)

abbrev pub pointers_alike : Typing → Typing → Bool
pointers_alike x y = scalar_type x.type && not (integral_type x.type) && elim x.type [ None ↦ false | Some t ↦ y.value t ]

-- a pointer to a function, or to a member function, is compared with 0 alone
abbrev pub compares_with_null : Option SourceType → Bool
compares_with_null None = false
compares_with_null (Some (pointer t)) = is_function t
compares_with_null (Some (function_member c t)) = true
compares_with_null (Some t) = false

abbrev pub may_be_equal : Typing → Typing → Bool
may_be_equal x y = pointers_alike x y && (not (compares_with_null x.type) || x.is_null || y.is_null)

abbrev pub pointer_operated : PointerOperator → Typing → Typing → Typing
pointer_operated ptr.Add x y =
    if points_to_object x && is_integer y then moved_type x.type else (if is_integer x && points_to_object y then moved_type y.type else no_typing)
  where
    moved_type : Option SourceType → Typing
    moved_type None = no_typing
    moved_type (Some t) = of_value t
pointer_operated ptr.Subtract x y = allowed (points_to_object x && is_integer y) (elim x.type [ None ↦ no_typing | Some t ↦ of_value t ])
pointer_operated ptr.Equal x y = allowed (may_be_equal x y) (of_value (integer Int))
pointer_operated ptr.NotEqual x y = allowed (may_be_equal x y) (of_value (integer Int))
pointer_operated op x y = allowed (points_to_object x && pointers_alike x y) (of_value (integer Int))

-- the change of a scalar in place by an operand (5.17)
abbrev pub changes : Change → Option SourceType → Typing → Bool
changes (arithmetic op k to) (Some t) y = same_but_const t (integer to) && is_right_operand op k y
changes (moved back) (Some (pointer t)) y = not (is_function t) && not (is_void t) && is_integer y
changes (moved back) (Some (const (pointer t))) y = not (is_function t) && not (is_void t) && is_integer y
changes change t y = false

abbrev pub both : Option SourceType → Option SourceType → Option SourceType
both (Some t) (Some u) = if same_but_const t u then Some t else None
both t u = None

abbrev pub or_else : {A : Type 0} → Option A → Option A → Option A
or_else None y = y
or_else (Some x) y = Some x

-- one of two expressions of one type (5.16)
abbrev pub either : Typing → Typing → Typing
either x y = record no_typing {
  place = both x.place y.place;
  type = or_else (both x.type y.type) (or_else (agreed x.type y) (agreed y.type x));
  value = λ t. x.value t && y.value t;
  member = λ c. both (x.member c) (y.member c);
  start = λ t. is_scalar t && x.value t && y.value t;
}
  where
    agreed : Option SourceType → Typing → Option SourceType
    agreed None z = None
    agreed (Some t) z = if z.value t then Some t else None

-- Conversions.

abbrev pub to_pointer : SourceType → Typing → Bool
to_pointer t x = is_zero x.number || casts (pointed x.type)
  where
    casts : Option SourceType → Bool
    casts None = false
    casts (Some u) = same_but_const t u || is_void (plain t)

abbrev pub converts : SourceType → Typing → Bool
converts void x = is_expression x
converts (integer k) x = is_integer x
converts (enumeration e) x = is_integer x
converts (pointer t) x = to_pointer t x
converts (data_member c t) x = is_zero x.number || x.value (data_member c t)
converts (function_member c t) x = is_zero x.number || x.value (function_member c t)
converts t x = false
