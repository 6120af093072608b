-- Types that are made while a file is elaborated (3.6): each has one number, and one that is new comes last in the table.
use Rattle.std.specs.Prelude.{ℕ, ◌+◌, Bool, true, false, ◌==◌, ◌&&◌, nat_eq, if◌then◌else◌, List, [], ◌∷◌, ◌++◌, length, reverse, Option, None, Some}
use Rattle.std.specs.Cmp.Lexicographic.{pointwise}
use Rattle.cf_base.specs.declared.kind.Kind.{Kind}
use Rattle.cf_base.specs.declared.kind.Kind.TheVariants as kind
use Rattle.cf_base.specs.contracts.kind.KindPartialEq.TheImpl.{ghosts}
use Rattle.cf_types.specs.declared.ty.Ty.{Ty}
use Rattle.cf_types.specs.declared.ty.Ty.TheVariants as ty
use Rattle.cf_types.specs.declared.ty.Fun.{Fun}
use Rattle.cf_types.specs.Table.{Table}
use Rattle.cf_classes.specs.TypeTree.{of_types}
use Rattle.cf_elab.specs.Answer.{Elab, ◌>>=◌, ◌>>◌, gives, known, changed}

abbrev same_bool : Bool → Bool → Bool
same_bool true b = b
same_bool false true = false
same_bool false false = true

abbrev pub same_ty : Ty → Ty → Bool
same_ty ty.Void ty.Void = true
same_ty (ty.Int k) (ty.Int l) = ghosts.eq k l
same_ty (ty.Enum e) (ty.Enum f) = e == f
same_ty (ty.Class c) (ty.Class d) = c == d
same_ty (ty.Ptr t) (ty.Ptr u) = t == u
same_ty (ty.Ref t) (ty.Ref u) = t == u
same_ty (ty.Array t n) (ty.Array u m) = (t == u) && (n == m)
same_ty (ty.Fun f) (ty.Fun g) = f == g
same_ty (ty.MemData c t) (ty.MemData d u) = (c == d) && (t == u)
same_ty (ty.MemFun c f) (ty.MemFun d g) = (c == d) && (f == g)
same_ty (ty.Const t) (ty.Const u) = t == u
same_ty t u = false

abbrev pub same_fun : Fun → Fun → Bool
same_fun f g = (f.result == g.result) && pointwise nat_eq f.params g.params && same_bool f.is_const g.is_const

-- the place of the first item that is the same, if there is one
abbrev pub place_in : {A : Type 0} → (A → Bool) → ℕ → List A → Option ℕ
place_in test n [] = None
place_in test n (x ∷ xs) = if test x then Some n else place_in test (n + 1) xs

abbrev pub entered_type : Table → Ty → Option ℕ → ℕ × Table
entered_type table t None = (length table.types, record table { types = table.types ++ t ∷ [] })
entered_type table t (Some n) = (n, table)

abbrev pub entered_fun : Table → Fun → Option ℕ → ℕ × Table
entered_fun table f None = (length table.funs, record table { funs = table.funs ++ f ∷ [] })
entered_fun table f (Some n) = (n, table)

abbrev pub entered : (Table → ℕ × Table) → Elab ℕ
entered f = do
  env ← known
  changed (λ e. record e { types = (f env.types).1 })
  gives (f env.types).0

-- the number of a type
abbrev pub intern : Ty → Elab ℕ
intern t = entered (λ table. entered_type table t (place_in (same_ty t) 0 table.types))

abbrev pub intern_fun : Fun → Elab ℕ
intern_fun f = entered (λ table. entered_fun table f (place_in (same_fun f) 0 table.funs))

abbrev pub of_kind : Kind → Elab ℕ
of_kind k = intern (ty.Int k)

abbrev pub int : Elab ℕ
int = of_kind kind.Int

abbrev pub unsigned_int : Elab ℕ
unsigned_int = of_kind kind.UInt

abbrev pub void : Elab ℕ
void = intern ty.Void

abbrev pub pointer_to : ℕ → Elab ℕ
pointer_to t = intern (ty.Ptr t)

abbrev pub reference_to : ℕ → Elab ℕ
reference_to t = intern (ty.Ref t)

abbrev pub array_of : ℕ → ℕ → Elab ℕ
array_of t n = intern (ty.Array t n)

-- const of an array is const of its elements, const of a const is one const, and const of a reference or of a function is dropped (7.1.6)
abbrev pub const_step : (ℕ → Elab ℕ) → Ty → Elab ℕ
const_step rec (ty.Ref t) = intern (ty.Ref t)
const_step rec (ty.Fun f) = intern (ty.Fun f)
const_step rec (ty.Const t) = intern (ty.Const t)
const_step rec (ty.Array t n) = do
  u ← rec t
  array_of u n
const_step rec other = do
  t ← intern other
  intern (ty.Const t)

abbrev pub const_of : ℕ → Elab ℕ
const_of t = do
  env ← known
  of_types (gives t) const_step (reverse env.types.types) t

abbrev pub const_if : Bool → ℕ → Elab ℕ
const_if true t = const_of t
const_if false t = gives t

-- the type of a parameter in the type of its function (8.2.5)
abbrev pub parameter_step : ℕ → Ty → Elab ℕ
parameter_step t (ty.Array u n) = pointer_to u
parameter_step t (ty.Fun f) = pointer_to t
parameter_step t (ty.Const u) = gives u
parameter_step t other = gives t

abbrev pub function_type : ℕ → List ℕ → Bool → Elab ℕ
function_type result params is_const = do
  f ← intern_fun (record { result = result; params = params; is_const = is_const })
  intern (ty.Fun f)
