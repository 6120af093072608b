-- Declarators, and the type that they make of the type of the specifiers (8.1, 8.2).
use Rattle.std.specs.Prelude.{ℕ, zero, suc, Bool, true, false, not, ◌&&◌, ◌||◌, if◌then◌else◌, List, ℤ, pos, negsuc, Option, None, Some, is_some}
use Rattle.cf_types.specs.declared.ty.Ty.{Ty}
use Rattle.cf_types.specs.declared.ty.Ty.TheVariants as ty
use Rattle.cf_convert.specs.Constness.{type_at}
use Rattle.cf_syntax.specs.declared.name.Name.{Name as WrittenName}
use Rattle.cf_elab.specs.Answer.{Elab, ◌>>=◌, ◌>>◌, gives, done, need, known, each}
use Rattle.cf_elab.specs.Made.{intern, pointer_to, reference_to, array_of, const_if, parameter_step, function_type}
use Rattle.cf_elab.specs.Operand.{Value, Sort, sort_of, is_array, is_function, is_void, is_reference}

-- the expression behind the `=` of a parameter (8.2.6), and how many string literals it has
pub record Given : Type 0 where
  pub at : ℕ
  pub value : Value
  pub literals : ℕ

-- a parameter: its place, its name if it has one, its own type, its default argument, and whether `auto` or `register` stands before it
pub record Parameter : Type 0 where
  pub at : ℕ
  pub name : Option WrittenName
  pub type : ℕ
  pub default : Option Given
  pub is_stored : Bool

-- A declarator whose bounds and parameters are elaborated, from the outside; `inner` is the name or nothing. An operator has its place.
pub data Shape : Type 0 where
  inner : Shape
  pointing : ℕ → Bool → Shape → Shape  -- and whether the pointer is const
  referring : ℕ → Shape → Shape
  to_member : ℕ → ℕ → Bool → Shape → Shape  -- of this class
  taking : ℕ → List Parameter → Bool → Shape → Shape  -- a function, and whether `const` stands behind it
  holding : ℕ → Option Value → Shape → Shape  -- an array with its bound

-- the declarator of a name: what it declares directly
abbrev pub is_inner : Shape → Bool
is_inner inner = true
is_inner other = false

-- the parameters, where the name itself is a function's
abbrev pub function_of : Shape → Option (List Parameter)
function_of inner = None
function_of (pointing at c s) = function_of s
function_of (referring at s) = function_of s
function_of (to_member at c k s) = function_of s
function_of (taking at ps c s) = if is_inner s then Some ps else function_of s
function_of (holding at b s) = function_of s

-- What a name may be declared as: with an array bound left out, where its initialiser or its caller gives it (8.2.4), and with `const` behind its
-- parameters, where it is a nonstatic member function (9.3.1).
pub record Position : Type 0 where
  pub unbounded : Bool
  pub const_function : Bool

abbrev pub nowhere : Position
nowhere = record { unbounded = false; const_function = false }

-- the type of what is declared, or the type of an array's elements whose bound is left out
pub data Shaped : Type 0 where
  whole : ℕ → Shaped
  unbounded : ℕ → Shaped

abbrev pub need_at : Bool → ℕ → Elab (Unit {0})
need_at fine at = need fine 26 at

abbrev pub is_positive : ℤ → Bool
is_positive (pos zero) = false
is_positive (pos (suc n)) = true
is_positive (negsuc n) = false

-- a bound above 0; one that is no constant is looked at later
abbrev pub fine_bound : Option ℤ → Bool
fine_bound None = true
fine_bound (Some z) = is_positive z

abbrev pub count_of : Option ℤ → ℕ
count_of (Some (pos n)) = n
count_of other = 1

abbrev pub sort_now : ℕ → Elab Sort
sort_now t = known >>= (λ env. gives (sort_of env.types t))

abbrev pub parameter_type : ℕ → Elab ℕ
parameter_type t = known >>= (λ env. parameter_step t (type_at env.types t))

abbrev pub member_pointer : ℕ → ℕ → Ty → Elab ℕ
member_pointer c t (ty.Fun f) = intern (ty.MemFun c f)
member_pointer c t other = intern (ty.MemData c t)

-- The type, made from the specifiers' one by the operators from the outside in; each is looked at as its turn comes (8.2).
module _ (position : Position) where
  abbrev pub typed : Shape → ℕ → Elab Shaped
  typed inner t = gives (whole t)
  typed (pointing at is_const s) t = do
    k ← sort_now t
    need_at (not (is_reference k)) at
    p ← pointer_to t
    q ← const_if is_const p
    typed s q
  typed (referring at s) t = do
    k ← sort_now t
    need_at (not (is_reference k || is_void k)) at
    r ← reference_to t
    typed s r
  typed (to_member at c is_const s) t = do
    k ← sort_now t
    need_at (not (is_reference k || is_void k)) at
    env ← known
    p ← member_pointer c t (type_at env.types t)
    q ← const_if is_const p
    typed s q
  typed (taking at ps is_const s) t = do
    k ← sort_now t
    need_at (not (is_array k || is_function k)) at
    need_at (not is_const || (is_inner s && position.const_function)) at
    qs ← each (λ (p : Parameter). parameter_type p.type) ps
    f ← function_type t qs is_const
    typed s f
  typed (holding at (Some b) s) t = do
    k ← sort_now t
    need_at (not (is_reference k || is_void k || is_function k)) at
    need_at (fine_bound b.number) at
    a ← array_of t (count_of b.number)
    typed s a
  typed (holding at None s) t = do
    k ← sort_now t
    need_at (not (is_reference k || is_void k || is_function k)) at
    need_at (is_inner s && position.unbounded) at
    gives (unbounded t)

-- each bound is a constant, K19; the inner ones come first in the text
abbrev pub bounds_constant : Shape → Elab (Unit {0})
bounds_constant inner = done
bounds_constant (pointing at c s) = bounds_constant s
bounds_constant (referring at s) = bounds_constant s
bounds_constant (to_member at c k s) = bounds_constant s
bounds_constant (taking at ps c s) = bounds_constant s
bounds_constant (holding at None s) = bounds_constant s
bounds_constant (holding at (Some b) s) = bounds_constant s >> need (is_some b.number) 19 at
