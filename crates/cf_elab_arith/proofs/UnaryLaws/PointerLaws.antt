-- Objects that pointers lead to, and values without a number.
use Rattle.std.proofs.Common.{◌≡◌, ℕ, true, false, Option, None, ℤ, sym, ap, subst}
use Rattle.cf_types.specs.Table.{Table}
use Rattle.cf_elab.specs.Answer.{Made, Refused, need}
use Rattle.cf_elab.specs.Env.{Env}
use Rattle.cf_elab.specs.Operand.{Value}
use Rattle.cf_elab_env.specs.Holds.{Known, IsType, FitsIn}
use Rattle.cf_elab_arith.specs.Arith.Sorts.{complete_at}
use Rattle.cf_elab_arith.specs.Unary.Shut as shut

pub is_complete : (at t : ℕ) (env : Env) → complete_at env t ≡ true → shut.need_complete at t env ≡ Made tt env
unfolding shut.need_complete complete_at
is_complete at t env h = ap (λ b. need b 30 at env) h

pub is_incomplete : (at t : ℕ) (env : Env) → complete_at env t ≡ false → shut.need_complete at t env ≡ Refused 30 at
unfolding shut.need_complete complete_at
is_incomplete at t env h = ap (λ b. need b 30 at env) h

pub unnumbered : (types : Table) (v : Value) → IsType types v.type → v.number ≡ None → Known types v
unnumbered types v typed none = record { typed = typed; number = subst (FitsIn types v.type) (sym none) tt }

pub ruleset complete_laws = (is_complete, is_incomplete)
