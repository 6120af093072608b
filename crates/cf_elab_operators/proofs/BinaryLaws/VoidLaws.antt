-- Pointers to void, and what pointers lead to.
use Rattle.std.proofs.Common.{◌≡◌, ℕ, ◌<◌, Some, length, refl, ap, ◌∙◌, arith}
use Rattle.cf_types.specs.declared.ty.Ty.{Ty}
use Rattle.cf_types.specs.declared.ty.Ty.TheVariants as ty
use Rattle.cf_types.specs.Table.{Table, NamesBelow}
use Rattle.cf_convert.specs.Constness.{bare, type_at, is_const}
use Rattle.cf_syntax.specs.declared.operator.BinaryOp.{BinaryOp}
use Rattle.cf_elab.specs.Answer.{onward}
use Rattle.cf_elab.specs.Binary as binary
use Rattle.cf_elab.specs.Env.{Env}
use Rattle.cf_elab.specs.Operand.{Value}
use Rattle.cf_elab_env.specs.Holds.{IsType, IsEnv}
use Rattle.cf_elab_env.specs.Shut as made
use Rattle.cf_elab_env.proofs.Growth.{bare-known, here, grown_laws}
use Rattle.cf_elab_env.proofs.Sorts.{below_at}
use Rattle.cf_elab_operators.specs.Binary.Asked.{pointed}
use Rattle.cf_elab_operators.specs.Binary.Shut as shut

module _ (types : Table) (t : ℕ) where
  pub pointed_to : (u : ℕ) → type_at types (bare types t) ≡ ty.Ptr u → pointed types t ≡ u
  unfolding pointed
  pointed_to u e = rw e refl

  pub no_pointer : ((u : ℕ) → type_at types (bare types t) ≡ ty.Ptr u → ⊥) → pointed types t ≡ t
  unfolding pointed
  no_pointer n = by (type_at types (bare types t)) refl
    where
      by : (v : Ty) → type_at types (bare types t) ≡ v → binary.pointed types t ≡ t
      by (ty.Ptr u) e = absurd (n u e)
      by other e = rw e refl

pub target_known : (env : Env) (t u : ℕ) → IsEnv env → IsType env.types t → type_at env.types (bare env.types t) ≡ ty.Ptr u → IsType env.types u
target_known env t u e known is =
    let b = bare env.types t in
    let inside : b < length env.types.types = bare-known env.types t e.table known in
    let below : NamesBelow b (ty.Ptr u) = below_at env.types b (ty.Ptr u) e.table (here env.types b inside ∙ ap Some is) in
    omega (arith, below, inside)

pub void_equality_is : (at : ℕ) (op : BinaryOp) (x y : Value) (v o : ℕ) (env : Env)
    → shut.void_equality at op x y v o env ≡ onward (made.const_if (is_const env.types o) v env) (λ w env. onward (made.pointer_to w env) (λ t env.
    shut.with_other at (binary.equality op) x y t env))
unfolding shut.void_equality shut.with_other made.const_if made.pointer_to
void_equality_is at op x y v o env = refl

pub ruleset pointed_laws = (pointed_to, no_pointer, target_known)

pub ruleset void_equality_laws = (void_equality_is, grown_laws)
