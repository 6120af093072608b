-- The value of a call.
use Rattle.std.proofs.Common.{◌≡◌, ℕ, ◌<◌, false, if◌then◌else◌, Some, refl, sym, ap, ◌∙◌, arith}
use Rattle.cf_types.specs.declared.ty.Ty.{Ty}
use Rattle.cf_types.specs.declared.ty.Ty.TheVariants as ty
use Rattle.cf_types.specs.Table.{Table, IsTable}
use Rattle.cf_convert.specs.Constness.{type_at, bare}
use Rattle.cf_core.specs.declared.node.Core.{Core as Node}
use Rattle.cf_elab.specs.Answer.{Made, onward}
use Rattle.cf_elab.specs.Env.{Env}
use Rattle.cf_elab.specs.Operand.{Value, computed, place_of, result_step}
use Rattle.cf_elab_env.specs.Holds.{IsType}
use Rattle.cf_elab_env.proofs.Growth.{here}
use Rattle.cf_elab_env.proofs.Sorts.{below_at}
use Rattle.cf_elab_arith.specs.Unary.Shut as unary
use Rattle.cf_elab_arith.proofs.UnaryLaws.PointerLaws.{unnumbered}
use Rattle.cf_elab_call.specs.Results.{returned, returned_as}
use Rattle.cf_elab_call.specs.Shut as shut

module _ (types : Table) (at t : ℕ) (n : Node) where
  -- what is no place has no const of its own
  abbrev without_const : Value → Value
  without_const v = if v.is_lvalue then v else record v { type = bare types v.type }

  by_type : (w : Ty) → without_const (result_step at n t w) ≡ returned_as types at t n w
  by_type (ty.Ref u) = refl
  by_type other = refl

  pub to_object : (u : ℕ) (v : Value) → type_at types t ≡ ty.Ref u → v ≡ place_of at n u false → v ≡ returned types at t n
  unfolding returned
  to_object u v is e = e ∙ sym (ap (returned_as types at t n) is)

  pub to_value : (v : Value) → ((u : ℕ) → type_at types t ≡ ty.Ref u → ⊥) → v ≡ computed at n (bare types t) → v ≡ returned types at t n
  unfolding returned
  to_value v none e = e ∙ sym (by (type_at types t) none)
    where
      by : (w : Ty) → ((u : ℕ) → w ≡ ty.Ref u → ⊥) → returned_as types at t n w ≡ computed at n (bare types t)
      by (ty.Ref u) none = absurd (none u refl)
      by other none = refl

pub called_is : (at t : ℕ) (n : Node) (env : Env) → shut.called at t n env ≡ onward (unary.need_complete at t env) (λ _ next. Made (returned env.types at t n) next)
unfolding shut.called unary.need_complete returned
called_is at t n env = ap (λ v. onward (unary.need_complete at t env) (λ _ env. Made v env)) (by_type env.types at t n (type_at env.types t))

-- what a reference refers to stands before it
pub referred_known : (types : Table) (t u : ℕ) → IsTable types → IsType types t → type_at types t ≡ ty.Ref u → IsType types u
referred_known types t u table typed is =
    let below : u < t = below_at types t (ty.Ref u) table (here types t typed ∙ ap Some is) in
    omega arith

pub ruleset called_laws = (called_is)

pub ruleset returned_laws = (to_object, to_value, referred_known, unnumbered)
