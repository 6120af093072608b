-- What the registers of plain statements hold, as far as the statements before tell it.
use Rattle.std.specs.Prelude.{ℕ, nat_le, nat_lt, ℤ, Bool, true, false, ◌&&◌, ◌||◌, ◌==◌, if◌then◌else◌, List, Option, Some, None, length, slice_get}
use Rattle.std.specs.List.{list_any}
use Rattle.cf_base.specs.declared.kind.Kind.{Kind}
use Rattle.cf_base.specs.declared.kind.Kind.TheVariants.{Char, Int, UInt}
use Rattle.cf_base.specs.declared.arith.Arith.{Arith}
use Rattle.cf_base.specs.declared.arith.Arith.TheVariants as op
use Rattle.cf_base.specs.Integers.{width, is_signed, fits}
use Rattle.cf_core.specs.declared.operators.PointerOperator.{PointerOperator}
use Rattle.cf_core.specs.declared.operators.PointerOperator.TheVariants as pointer
use Rattle.cf_core.specs.Types.{SourceType, void, integer, reference, array, const, element, result as result_type, type_eq, without_const}
use Rattle.cf_core.specs.Core.{Change, arithmetic, moved}
use Rattle.cf_core.specs.Places.{is_reference, is_scalar}
use Rattle.cf_lower_layout.specs.Sorts.{Sort, number, address, code, sort_to, sort_of}
use Rattle.cf_plain.specs.Plain as plain
use Rattle.cf_plain.specs.Plain.{Register, Action, Plain, Plains, PlainParts, act, set, branch, loop, switch, case_label, default_label, leave, continue, give, parts, nothing, more, no_parts, part}

-- Nothing that is used; or a number that each of these kinds has; or an address or a function of this sort; or the place of the object of a parameter of
-- a call, a local of this number and type.
pub data Kept : Type 0 where
  unknown : Kept
  integer_of : (Kind → Bool) → Kept
  holds : Sort → Kept
  argument : ℕ → SourceType → Kept

abbrev pub Keeping : Type 0
Keeping = Register → Kept

abbrev pub nothing_kept : Keeping
nothing_kept r = unknown

abbrev pub keep : Keeping → Register → Kept → Keeping
keep g r x q = if q == r then x else g q

-- ---- numbers

-- whether each value of the first kind is one of the second
abbrev pub within : Kind → Kind → Bool
within j k =
    if is_signed j then is_signed k && nat_le (width j) (width k)
    else (if is_signed k then nat_lt (width j) (width k) else nat_le (width j) (width k))

abbrev pub of_kind : Kind → Kept
of_kind j = integer_of (within j)

-- 0 or 1
abbrev pub a_truth : Kept
a_truth = integer_of (λ k. true)

-- a constant that int or unsigned int has
abbrev pub constant_kept : ℤ → Kept
constant_kept z = if fits Int z || fits UInt z then integer_of (λ k. fits k z) else unknown

-- a comparison is an int (5.9, 5.10)
abbrev pub result_kept : Arith → Kind → Kept
result_kept op.Less k = a_truth
result_kept op.Greater k = a_truth
result_kept op.LessEqual k = a_truth
result_kept op.GreaterEqual k = a_truth
result_kept op.Equal k = a_truth
result_kept op.NotEqual k = a_truth
result_kept o k = of_kind k

-- ---- what two ways keep

abbrev pub same_kept : Kept → Kept → Bool
same_kept (holds (address t)) (holds (address u)) = type_eq t u
same_kept (holds (code t)) (holds (code u)) = type_eq t u
same_kept (argument i t) (argument j u) = (i == j) && type_eq t u
same_kept x y = false

abbrev pub both_kept : Kept → Kept → Kept
both_kept (integer_of f) (integer_of h) = integer_of (λ k. f k && h k)
both_kept x y = if same_kept x y then x else unknown

-- what both keep
abbrev pub common : Keeping → Keeping → Keeping
common g h r = both_kept (g r) (h r)

-- a value of this type, as a register holds it
abbrev pub of_sort : Option Sort → Kept
of_sort None = unknown
of_sort (Some (number k)) = of_kind k
of_sort (Some s) = holds s

abbrev pub of_type : SourceType → Kept
of_type t = of_sort (sort_of t)

-- the type that a name of this type stands for a place of: a reference is another name for what it is bound to (8.4.3)
abbrev pub referred : SourceType → SourceType
referred (reference t) = t
referred (const t) = if is_reference t then referred t else const t
referred t = t

abbrev pub place_of : SourceType → Kept
place_of t = holds (sort_to (without_const (referred t)))

abbrev pub read_kept : Kept → Kept
read_kept (holds (address t)) = of_type t
read_kept x = unknown

-- the first element of an array
abbrev pub decayed_kept : Kept → Kept
decayed_kept (holds (address t)) = holds (address (element t))
decayed_kept x = x

-- of a pointer and an integer
abbrev pub pointer_of : Kept → Kept → Kept
pointer_of (holds (address t)) y = holds (address t)
pointer_of x y = y

abbrev pub operated_kept : PointerOperator → Kept → Kept → Kept
operated_kept pointer.Add x y = pointer_of x y
operated_kept pointer.Subtract x y = x
operated_kept pointer.Difference x y = of_kind Int
operated_kept o x y = a_truth

abbrev pub changed_kept : Change → Kept → Kept
changed_kept (arithmetic o k to) x = of_kind to
changed_kept (moved b) x = x

-- which C local of a register holds what is kept
abbrev pub local_kept : Kept → Option Sort
local_kept unknown = None
local_kept (integer_of f) = Some (number Int)
local_kept (holds s) = Some s
local_kept (argument i t) = None

-- What the statements of a function stand in: the types of its parameters and locals, and which of them are the objects of parameters of its calls.
pub record Locals : Type 0 where
  pub types : List SourceType
  pub arguments : List ℕ

abbrev pub type_or_void : Option SourceType → SourceType
type_or_void None = void
type_or_void (Some t) = t

abbrev pub type_of_local : Locals → ℕ → SourceType
type_of_local x i = type_or_void (slice_get x.types i)

abbrev pub is_argument : Locals → ℕ → Bool
is_argument x i = list_any (λ (j : ℕ). j == i) x.arguments

abbrev pub declared_kept : Locals → ℕ → SourceType → Kept
declared_kept x i t = if is_argument x i && is_scalar t then argument i t else holds (address (without_const t))

module _ (locals : Locals) where
  -- what an action gives
  abbrev pub kept_by : Keeping → Action → Kept
  kept_by g (plain.number z) = constant_kept z
  kept_by g (plain.text j bytes) = holds (address (array (integer Char) (length bytes)))
  kept_by g (plain.local i) = place_of (type_of_local locals i)
  kept_by g (plain.static_object name t) = place_of t
  kept_by g (plain.function name t) = holds (code (without_const t))
  kept_by g (plain.read r) = read_kept (g r)
  kept_by g (plain.dereference r) = g r
  kept_by g (plain.decay r) = decayed_kept (g r)
  kept_by g (plain.index r q) = pointer_of (g r) (g q)
  kept_by g (plain.convert t r) = of_type t
  kept_by g (plain.from_void t r) = holds (address (without_const t))
  kept_by g (plain.operate o k r q) = result_kept o k
  kept_by g (plain.unary o k r) = of_kind k
  kept_by g (plain.truth r) = a_truth
  kept_by g (plain.logical_not r) = a_truth
  kept_by g (plain.pointer_operate o r q) = operated_kept o (g r) (g q)
  kept_by g (plain.changed change r q) = changed_kept change (g r)
  kept_by g (plain.declare i t) = declared_kept locals i t
  kept_by g (plain.call name t object is into) = of_type (result_type t)
  kept_by g (plain.pointer_call object r t is into) = of_type (result_type t)
  kept_by g a = unknown

  -- whether statements set a register
  abbrev mutual
    pub sets : Register → Plain → Bool
    sets r (act a) = false
    sets r (set q a) = q == r
    sets r (branch q ss ts) = all_set r ss || all_set r ts
    sets r (loop ss ts) = all_set r ss || all_set r ts
    sets r (switch q ss) = all_set r ss
    sets r (parts ps) = parts_set r ps
    sets r s = false

    pub all_set : Register → Plains → Bool
    all_set r nothing = false
    all_set r (more s ss) = sets r s || all_set r ss

    pub parts_set : Register → PlainParts → Bool
    parts_set r no_parts = false
    parts_set r (part w ss rest) = all_set r ss || parts_set r rest

  -- What stays where statements run any number of times, or from any label on.
  abbrev pub untouched : Keeping → Plains → Keeping
  untouched g ss r = if all_set r ss then unknown else g r

  -- what the registers hold behind statements that fall through
  abbrev mutual
    pub after : Plain → Keeping → Keeping
    after (act a) g = g
    after (set r a) g = keep g r (kept_by g a)
    after (branch r ss ts) g = common (after_all ss g) (after_all ts g)
    after (loop ss ts) g = untouched (untouched g ss) ts
    after (switch r ss) g = untouched g ss
    after (parts ps) g = nothing_kept
    after s g = g

    pub after_all : Plains → Keeping → Keeping
    after_all nothing g = g
    after_all (more s ss) g = after_all ss (after s g)
