-- How an object or a reference of a type takes a value: arguments, results, and the initialisers of objects (8.4, 8.4.3).
use Rattle.std.specs.Prelude.{ℕ, Bool, false, ◌||◌, is_some, List, ℤ, Option, None, Some, true}
use Rattle.cf_types.specs.declared.ty.Ty.{Ty}
use Rattle.cf_types.specs.declared.ty.Ty.TheVariants as ty
use Rattle.cf_convert.specs.Constness.{type_at, is_const, bare}
use Rattle.cf_convert.specs.Converts.{binds}
use Rattle.cf_convert.specs.declared.conv.ConvStep.{ConvStep}
use Rattle.cf_core.specs.declared.node.Core.{Core as Node}
use Rattle.cf_core.specs.declared.node.Core.TheVariants as node
use Rattle.cf_core.specs.declared.node.Holder.{Holder}
use Rattle.cf_core.specs.declared.node.Holder.TheVariants as holder
use Rattle.cf_elab.specs.Members.{class_number}
use Rattle.cf_elab.specs.Answer.{Elab, ◌>>=◌, ◌>>◌, gives, need, known}
use Rattle.cf_elab.specs.Operand.{Value, val, defs, sort_of}
use Rattle.cf_elab.specs.Copying.{copy_of, is_of}
use Rattle.cf_elab.specs.Fit.{converted}

-- an initialiser, whether it is constant (8.4), and the integer that it is, where it is a constant expression
pub record Start : Type 0 where
  pub node : Node
  pub is_constant : Bool
  pub number : Option ℤ

abbrev pub fixed_start : Node → Bool → Start
fixed_start n constant = record { node = n; is_constant = constant; number = None }

abbrev pub is_constant_value : Value → Bool
is_constant_value v = is_some v.number || v.is_fixed

abbrev pub start_of : Value → Start
start_of v = record { node = v.node; is_constant = is_constant_value v; number = v.number }

-- where a temporary is kept that a reference binds; with none it lives as long as the full expression (12.2)
pub data Keeper : Type 0 where
  full_expression : Keeper
  kept : Holder → Keeper

-- the temporary is const as the reference says
abbrev pub keeps : ℕ → ℕ → Keeper → Value → Start
keeps at u full_expression v = fixed_start (node.Bind at holder.NoTemporary (node.Temporary at u v.node)) false
keeps at u (kept h) v = fixed_start (node.Bind at h v.node) (is_constant_value v)

-- A reference binds directly, else K29 where it is not to const, and then Fit makes a temporary.
module _ (fit : ℕ → Value → ℕ → Elab Value) (keeper : ℕ → Elab Keeper) where
  abbrev pub bound_or : ℕ → ℕ → Value → Option (List ConvStep) → Elab Start
  bound_or at u v (Some ss) = do
    x ← converted at u ss v
    gives (fixed_start (node.Bind at holder.NoTemporary x.node) x.is_fixed)
  bound_or at u v None = do
    env ← known
    need (is_const env.types u) 29 at
    x ← fit at v u
    k ← keeper u
    gives (keeps at u k x)

  abbrev pub bound : ℕ → ℕ → Value → Elab Start
  bound at u v = known >>= (λ env. bound_or at u v (binds env.types (defs env) (val v) u))

  -- a class object from one of its class is a copy; any other is converted
  abbrev pub class_taken : ℕ → ℕ → ℕ → Value → Bool → Elab Start
  class_taken at c t v true = copy_of at c v >>= (λ n. gives (fixed_start n false))
  class_taken at c t v false = fit at v t >>= (λ x. gives (fixed_start x.node false))

  abbrev pub taken : ℕ → ℕ → Value → Ty → Elab Start
  taken at t v (ty.Ref u) = bound at u v
  taken at t v (ty.Class c) = known >>= (λ env. class_taken at c t v (is_of env c (class_number (sort_of env.types v.type))))
  taken at t v other = fit at v t >>= (λ x. gives (start_of x))

  -- the initialiser of an object or reference of the type by a value
  abbrev pub initial_by : ℕ → ℕ → Value → Elab Start
  initial_by at t v = known >>= (λ env. taken at (bare env.types t) v (type_at env.types (bare env.types t)))

-- a temporary of the full expression
abbrev pub no_keeper : ℕ → Elab Keeper
no_keeper t = gives full_expression
