-- The values of operands.
use Rattle.std.proofs.Common.{◌≡◌, ℕ, ◌<◌, ◌≤◌, List, [], ◌∷◌, length, get_or, slice_get, refl, ap, subst, arith}
use Rattle.cf_types.specs.Table.{Table}
use Rattle.cf_elab.specs.Answer.{Made, Refused}
use Rattle.cf_elab.specs.Env.{Env}
use Rattle.cf_elab.specs.Operand as operand
use Rattle.cf_elab.specs.Operand.{Value}
use Rattle.cf_elab_env.specs.Holds.{Known}
use Rattle.cf_elab_env.specs.SeenOperand.{operand_seen}
use Rattle.cf_elab_env.specs.declared.operand.Operand.{Operand as FoundOperand}
use Rattle.cf_elab_env.specs.declared.operand.Operand.TheVariants as form
use Rattle.cf_elab_operand.specs.Operands.{IsOperand}
use Rattle.cf_elab_operand.specs.Shut as shut

module _ (o : FoundOperand) (env : Env) where
  pub value_is : (v : Value) → o ≡ form.Value v → shut.value_of (operand_seen o) env ≡ Made v env
  unfolding shut.value_of
  value_is v is = ap (λ o. operand.value_of (operand_seen o) env) is

  pub functions_are : (at : ℕ) (fs : List ℕ) → o ≡ form.Functions at fs → shut.value_of (operand_seen o) env ≡ shut.value_named at fs env
  unfolding shut.value_of shut.value_named
  functions_are at fs is = ap (λ o. operand.value_of (operand_seen o) env) is

pub value_known : (types : Table) (o : FoundOperand) (v : Value) → IsOperand types o → o ≡ form.Value v → Known types v
value_known types o v known is = subst (IsOperand types) is known

module _ (at : ℕ) (fs : List ℕ) (env : Env) where
  pub one_is : 1 ≤ length fs → length fs < 2 → shut.value_named at fs env ≡ shut.one_function at (get_or fs 0 0) env
  unfolding shut.value_named shut.one_function
  one_is some few = by fs some few
    where
      by : (fs : List ℕ) → 1 ≤ length fs → length fs < 2 → operand.value_of (operand.functions at fs) env ≡ operand.one_function at (slice_get env.entries (get_or fs 0 0)) env
      by [] some few = absurd (omega arith)
      by (f ∷ []) some few = refl
      by (f ∷ g ∷ rest) some few = absurd (omega arith)

  pub several : (length fs ≡ 1 → ⊥) → shut.value_named at fs env ≡ Refused 46 at
  unfolding shut.value_named
  several other = by fs other
    where
      by : (fs : List ℕ) → (length fs ≡ 1 → ⊥) → operand.value_of (operand.functions at fs) env ≡ Refused 46 at
      by [] h = refl
      by (f ∷ []) h = absurd (h refl)
      by (f ∷ g ∷ rest) h = refl

pub ruleset value_laws = (value_is, functions_are, value_known)

pub ruleset functions_laws = (one_is, several)
