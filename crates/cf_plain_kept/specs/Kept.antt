-- What the registers of plain statements hold, as far as the statements before tell it, and whether the operands of each action are what it takes.
-- Const does not matter here. Of classes, lists and the free store nothing is told yet.
use Rattle.std.specs.Prelude.{ℕ, nat_le, nat_lt, Bool, true, false, ◌&&◌, ◌||◌, ◌==◌, if◌then◌else◌, List, ◌++◌, length, Option, Some, None, is_some, slice_get}
use Rattle.std.specs.List.{list_all}
use Rattle.cf_base.specs.declared.kind.Kind.{Kind}
use Rattle.cf_base.specs.declared.kind.Kind.TheVariants.{Char, Int}
use Rattle.cf_base.specs.declared.arith.Arith.{Arith}
use Rattle.cf_base.specs.Integers.{width, is_signed, fits}
use Rattle.cf_types.specs.Operators.{is_shift}
use Rattle.cf_core.specs.declared.operators.PointerOperator.{PointerOperator}
use Rattle.cf_core.specs.declared.operators.PointerOperator.TheVariants as pointer_operator
use Rattle.cf_core.specs.Types.{SourceType, void, integer, enumeration, class, pointer, reference, array, takes, gives, data_member, function_member, const, same_but_const, is_void, parameters, result as result_type}
use Rattle.cf_core.specs.Typing.{is_comparison}
use Rattle.cf_core.specs.Core.{Change, arithmetic, moved}
use Rattle.cf_plain.specs.Plain.{Register, Action, number, text, local, static_object, function, read, dereference, decay, index, convert, from_void, operate, unary, truth, logical_not, pointer_operate, changed, store, declare, first, zeros, bytes, finish, call, pointer_call, Plain, Plains, act, set, branch, loop, switch, case_label, default_label, leave, continue, give, parts, nothing, more, PlainFunction, PlainFile}

-- What a register holds behind the action that has set it.
pub data Kept : Type 0 where
  no_value : Kept  -- of an action that gives none
  an_integer : (Kind → Bool) → Kept  -- a number that each of these kinds has
  a_place : SourceType → Kept  -- a place of this type or a pointer to one; of a function type, the function
  a_member : SourceType → Kept  -- a pointer to a member, of this type
  an_object : ℕ → SourceType → Kept  -- the object of the local of this number and type, which has no first value yet

-- what each register holds, if it is set
abbrev pub Keeping : Type 0
Keeping = Register → Option Kept

abbrev pub nothing_set : Keeping
nothing_set r = None

abbrev pub keep : Keeping → Register → Kept → Keeping
keep g r x q = if q == r then Some x else g q

-- whether each number of the first kind is one of the second
abbrev pub within : Kind → Kind → Bool
within j k =
    if is_signed j then is_signed k && nat_le (width j) (width k)
    else (if is_signed k then nat_lt (width j) (width k) else nat_le (width j) (width k))

abbrev pub of_kind : Kind → Kept
of_kind k = an_integer (within k)

-- 0 or 1
abbrev pub a_truth : Kept
a_truth = an_integer (λ k. true)

-- a scalar of this type
abbrev pub kept_of : SourceType → Option Kept
kept_of (integer k) = Some (of_kind k)
kept_of (enumeration e) = Some (of_kind Int)
kept_of (pointer t) = Some (a_place t)
kept_of (reference t) = Some (a_place t)
kept_of (data_member c t) = Some (a_member (data_member c t))
kept_of (function_member c t) = Some (a_member (function_member c t))
kept_of (const t) = kept_of t
kept_of t = None

-- what a call of this result type gives
abbrev pub value_of : SourceType → Kept
value_of t = or_none (kept_of t)
  where
    or_none : Option Kept → Kept
    or_none None = no_value
    or_none (Some x) = x

-- Whether it is a value of this type: a number that its kind has, or a pointer to the same type but for const. A type that is no scalar has none.
abbrev pub suits : SourceType → Kept → Bool
suits (integer k) (an_integer f) = f k
suits (enumeration e) (an_integer f) = f Int
suits (pointer t) (a_place u) = same_but_const u t
suits (reference t) (a_place u) = same_but_const u t
suits (data_member c t) (a_member u) = same_but_const u (data_member c t)
suits (function_member c t) (a_member u) = same_but_const u (function_member c t)
suits (const t) x = suits t x
suits void no_value = true
suits (class c) no_value = true
suits (array t n) no_value = true
suits (takes p t) no_value = true
suits (gives t c) no_value = true
suits t x = false

-- what both hold, if that is the same but for const
abbrev pub both_kept : Kept → Kept → Option Kept
both_kept no_value no_value = Some no_value
both_kept (an_integer f) (an_integer g) = Some (an_integer (λ k. f k && g k))
both_kept (a_place t) (a_place u) = if same_but_const t u then Some (a_place t) else None
both_kept (a_member t) (a_member u) = if same_but_const t u then Some (a_member t) else None
both_kept (an_object i t) (an_object j u) = if (i == j) && same_but_const t u then Some (an_object i t) else None
both_kept x y = None

abbrev pub common : Keeping → Keeping → Keeping
common g h r = both (g r) (h r)
  where
    both : Option Kept → Option Kept → Option Kept
    both (Some x) (Some y) = both_kept x y
    both x y = None

-- Whether statements set a register. What builds the parts of an object may set any.
abbrev mutual
  pub sets : Register → Plain → Bool
  sets r (act a) = false
  sets r (set q a) = q == r
  sets r (branch q ss ts) = all_set r ss || all_set r ts
  sets r (loop ss ts) = all_set r ss || all_set r ts
  sets r (switch q ss) = all_set r ss
  sets r (parts ps) = true
  sets r s = false

  pub all_set : Register → Plains → Bool
  all_set r nothing = false
  all_set r (more s ss) = sets r s || all_set r ss

-- what stays where statements may begin at any label
abbrev pub untouched : Keeping → Plains → Keeping
untouched g ss r = if all_set r ss then None else g r

-- Actions, by what their operands hold.

-- the place that a name of this type stands for: a reference is another name for a place (8.4.3)
abbrev pub named : Option SourceType → Option Kept
named None = None
named (Some (reference t)) = Some (a_place t)
named (Some t) = Some (a_place t)

abbrev pub read_kept : Option Kept → Option Kept
read_kept (Some (a_place t)) = kept_of t
read_kept x = None

abbrev pub pointed_kept : Option Kept → Option Kept
pointed_kept (Some (a_place t)) = Some (a_place t)
pointed_kept x = None

-- the first element of an array; a function stays itself (4.6)
abbrev pub decayed : SourceType → Option Kept
decayed (array t n) = Some (a_place t)
decayed (takes p t) = Some (a_place (takes p t))
decayed (gives t c) = Some (a_place (gives t c))
decayed (const t) = decayed t
decayed t = None

-- of a place, or of an object whose elements are to come
abbrev pub decayed_kept : Option Kept → Option Kept
decayed_kept (Some (a_place t)) = decayed t
decayed_kept (Some (an_object i t)) = decayed t
decayed_kept x = None

-- a pointer and an integer
abbrev pub forth : Option Kept → Option Kept → Option Kept
forth (Some (a_place t)) (Some (an_integer f)) = Some (a_place t)
forth x y = None

abbrev pub moved_kept : Option Kept → Option Kept → Option Kept
moved_kept (Some (an_integer f)) (Some (a_place t)) = Some (a_place t)
moved_kept x y = forth x y

-- from a constant 0 or a pointer of this type
abbrev pub to_place : SourceType → Option Kept → Option Kept
to_place t (Some (an_integer f)) = Some (a_place t)
to_place t (Some (a_place u)) = if is_void t || same_but_const u t then Some (a_place t) else None
to_place t x = None

abbrev pub to_member : SourceType → Option Kept → Option Kept
to_member t (Some (an_integer f)) = Some (a_member t)
to_member t (Some (a_member u)) = if same_but_const u t then Some (a_member t) else None
to_member t x = None

abbrev pub integer_in : Option Kept → Bool
integer_in (Some (an_integer f)) = true
integer_in x = false

-- a number that this kind has
abbrev pub has_kind : Kind → Option Kept → Bool
has_kind k (Some (an_integer f)) = f k
has_kind k x = false

-- the right operand of a shift is of any kind (5.8)
abbrev pub right_has : Arith → Kind → Option Kept → Bool
right_has op k x = if is_shift op then integer_in x else has_kind k x

abbrev pub given : Bool → Kept → Option Kept
given true x = Some x
given false x = None

-- to this type (4)
abbrev pub converted : SourceType → Option Kept → Option Kept
converted void None = None
converted void (Some x) = Some no_value
converted (integer k) x = given (integer_in x) (of_kind k)
converted (enumeration e) x = given (integer_in x) (of_kind Int)
converted (pointer t) x = to_place t x
converted (data_member c t) x = to_member (data_member c t) x
converted (function_member c t) x = to_member (function_member c t) x
converted (const t) x = converted t x
converted t x = None

abbrev pub from_void_kept : SourceType → Option Kept → Option Kept
from_void_kept t (Some (a_place u)) = given (is_void u) (a_place t)
from_void_kept t x = None

-- what is true or not
abbrev pub tested : Option Kept → Option Kept
tested (Some (an_integer f)) = Some a_truth
tested (Some (a_place t)) = Some a_truth
tested (Some (a_member t)) = Some a_truth
tested x = None

-- Two pointers of one type. Validity of a core lets integers of a type that is const twice through too.
abbrev pub compared : Option Kept → Option Kept → Option Kept
compared (Some (a_place t)) (Some (a_place u)) = given (same_but_const t u) (of_kind Int)
compared (Some (a_member t)) (Some (a_member u)) = given (same_but_const t u) (of_kind Int)
compared (Some (an_integer f)) (Some (an_integer g)) = Some (of_kind Int)
compared x y = None

abbrev pub pointer_operated : PointerOperator → Option Kept → Option Kept → Option Kept
pointer_operated pointer_operator.Add x y = moved_kept x y
pointer_operated pointer_operator.Subtract x y = forth x y
pointer_operated op x y = compared x y

-- on operands of this kind; a comparison gives 0 or 1
abbrev pub operated : Arith → Kind → Option Kept → Option Kept → Option Kept
operated op k x y = given (has_kind k x && right_has op k y) (if is_comparison op then a_truth else of_kind k)

-- the new value of a scalar that is changed in place (5.17)
abbrev pub changed_kept : Change → Option Kept → Option Kept → Option Kept
changed_kept (arithmetic op k to) x y = given (integer_in x && right_has op k y) (of_kind to)
changed_kept (moved back) x y = forth x y

-- a value to a place of its type
abbrev pub stored : Option Kept → Option Kept → Option Kept
stored (Some (a_place t)) (Some x) = given (suits t x) no_value
stored x y = None

-- the first value of an object, or of an element of one
abbrev pub begun : Option Kept → Option Kept → Option Kept
begun (Some (an_object i t)) (Some x) = given (suits t x) no_value
begun (Some (a_place t)) (Some x) = given (suits t x) no_value
begun x y = None

-- what a call through a pointer to a function of this type gives
abbrev pub pointed_call : SourceType → Option Kept → Option Kept
pointed_call t (Some (a_place u)) = given (same_but_const u t) (value_of (result_type t))
pointed_call t x = None

-- an object, or an element of one, that is filled by itself: by zeros, or by the characters of a literal
abbrev pub filled : Option Kept → Option Kept
filled (Some (an_object i t)) = Some no_value
filled (Some (a_place t)) = Some no_value
filled x = None

module _ (locals : List SourceType) (result : SourceType) where
  -- what an action gives; none where its operands are not what it takes
  abbrev pub kept_by : Keeping → Action → Option Kept
  kept_by g (number z) = Some (an_integer (λ k. fits k z))
  kept_by g (text j b) = Some (a_place (array (integer Char) (length b)))
  kept_by g (local i) = named (slice_get locals i)
  kept_by g (static_object name t) = named (Some t)
  kept_by g (function name t) = Some (a_place t)
  kept_by g (read r) = read_kept (g r)
  kept_by g (dereference r) = pointed_kept (g r)
  kept_by g (decay r) = decayed_kept (g r)
  kept_by g (index r q) = moved_kept (g r) (g q)
  kept_by g (convert t r) = converted t (g r)
  kept_by g (from_void t r) = from_void_kept t (g r)
  kept_by g (operate op k r q) = operated op k (g r) (g q)
  kept_by g (unary op k r) = given (has_kind k (g r)) (of_kind k)
  kept_by g (truth r) = tested (g r)
  kept_by g (logical_not r) = tested (g r)
  kept_by g (pointer_operate op r q) = pointer_operated op (g r) (g q)
  kept_by g (changed change r q) = changed_kept change (g r) (g q)
  kept_by g (store r q) = stored (g r) (g q)
  kept_by g (declare i t) = Some (an_object i t)
  kept_by g (first r q) = begun (g r) (g q)
  kept_by g (zeros r) = filled (g r)
  kept_by g (bytes r b) = filled (g r)
  kept_by g (finish t i) = Some no_value
  kept_by g (call name t None is None) = Some (value_of (result_type t))
  kept_by g (pointer_call None r t is None) = pointed_call t (g r)
  kept_by g a = None

  -- what is returned
  abbrev pub returned : Option Kept → Bool
  returned None = false
  returned (Some x) = suits result x

  abbrev pub joined : Option Keeping → Option Keeping → Option Keeping
  joined (Some g) (Some h) = Some (common g h)
  joined g h = None

  -- What the registers hold behind a statement that falls through; none where an operand in it is not what is taken. A turn of a loop, and what stands
  -- behind a label or a loop, may come from several places: of these nothing is told. Behind a switch the registers stay that it does not set.
  abbrev mutual
    pub after : Plain → Keeping → Option Keeping
    after (act a) g = elim (kept_by g a) [ None ↦ None | Some x ↦ Some g ]
    after (set r a) g = elim (kept_by g a) [ None ↦ None | Some x ↦ Some (keep g r x) ]
    after (branch r ss ts) g = if integer_in (g r) then joined (after_all ss g) (after_all ts g) else None
    after (loop ss ts) g = if is_some (after_all ss nothing_set) && is_some (after_all ts nothing_set) then Some nothing_set else None
    after (switch r ss) g = if integer_in (g r) && is_some (after_all ss nothing_set) then Some (untouched g ss) else None
    after (case_label z) g = Some nothing_set
    after default_label g = Some nothing_set
    after leave g = Some g
    after continue g = Some g
    after (give None) g = Some g
    after (give (Some r)) g = if returned (g r) then Some g else None
    after s g = None

    pub after_all : Plains → Keeping → Option Keeping
    after_all nothing g = Some g
    after_all (more s rest) g = elim (after s g) [ None ↦ None | Some h ↦ after_all rest h ]

-- In a function each register is set before it is used, and holds what is taken.
abbrev pub function_kept : PlainFunction → Bool
function_kept f = is_some (after_all (parameters f.type ++ f.locals) (result_type f.type) f.body nothing_set)

abbrev pub functions_kept : PlainFile → Bool
functions_kept file = list_all function_kept file.functions
