-- Calls of what an expression is.
use Rattle.std.proofs.Common.{◌≡◌, ℕ, true, false, List, None, Some, refl, sym, ap, subst, ◌∙◌}
use Rattle.cf_types.specs.Table.{Table}
use Rattle.cf_elab.specs.Answer.{Refused, onward}
use Rattle.cf_elab.specs.Call as call
use Rattle.cf_elab.specs.ClassOperators as operators
use Rattle.cf_elab.specs.Env.{Env}
use Rattle.cf_elab.specs.Expression as expression
use Rattle.cf_elab.specs.Members.{class_number}
use Rattle.cf_elab.specs.Operand.{Value, Sort, sort_of, function_pointer}
use Rattle.cf_elab_env.specs.Holds.{Known}
use Rattle.cf_elab_env.specs.Seen.{sort_seen}
use Rattle.cf_elab_env.specs.SeenOperand.{operand_seen}
use Rattle.cf_elab_env.specs.declared.operand.Operand.{Operand as FoundOperand}
use Rattle.cf_elab_env.specs.declared.operand.Operand.TheVariants as form
use Rattle.cf_elab_env.specs.declared.sort.Sort.{Sort as FoundSort}
use Rattle.cf_elab_env.proofs.Growth.{grown_laws}
use Rattle.cf_elab_fit.specs.Shut as fit
use Rattle.cf_elab_fit.proofs.TruthLaws.{no_class_sort}
use Rattle.cf_elab_operand.specs.Operands.{IsOperand}
use Rattle.cf_elab_call.specs.Callees.{function_at, function_of}
use Rattle.cf_elab_call.specs.Shut as shut
use Rattle.cf_elab_call.proofs.ArgumentLaws.{all_known}

module _ (at : ℕ) (vs : List Value) (env : Env) where
  -- ---- by its form

  pub callee_value : (o : FoundOperand) (v : Value) → o ≡ form.Value v → shut.call_operand at (operand_seen o) vs env ≡ shut.call_operator at v vs env
  unfolding shut.call_operand shut.call_operator
  callee_value o v is = ap (λ o. expression.call_operand at (operand_seen o) vs env) is

  pub callee_functions : (o : FoundOperand) (n : ℕ) (fs : List ℕ) → o ≡ form.Functions n fs → shut.call_operand at (operand_seen o) vs env ≡ shut.call_functions at fs vs env
  unfolding shut.call_operand shut.call_functions
  callee_functions o n fs is = ap (λ o. expression.call_operand at (operand_seen o) vs env) is

  -- ---- by its type

  pub no_object : (v : Value) (s : FoundSort) → sort_seen s ≡ sort_of env.types v.type → shut.call_operator at v vs env ≡ shut.call_value at v vs env
  unfolding shut.call_operator shut.call_value
  no_object v s found =
      ap (λ c. operators.call_object at v vs (elim c [ None ↦ false | Some c ↦ true ]) env) (ap class_number (sym found) ∙ no_class_sort s)

  pub value_is : (v : Value) → shut.call_value at v vs env ≡ onward (fit.plain v env) (λ p. shut.call_plain at p vs)
  unfolding shut.call_value fit.plain shut.call_plain
  value_is v = refl

  pub through_pointer : (p : Value) (t : ℕ) → function_at env.types p.type ≡ Some t → shut.call_plain at p vs env ≡ shut.call_pointer at p t vs env
  unfolding shut.call_plain shut.call_pointer function_at
  through_pointer p t e = by (sort_of env.types p.type) e
    where
      by : (s : Sort) → function_of s ≡ Some t → call.call_sort at p s vs env ≡ call.call_pointer at p t vs env
      by (function_pointer u) e = let same : u ≡ t = cc in ap (λ t. call.call_pointer at p t vs env) same
      by other e = cc

  pub no_pointer : (p : Value) → function_at env.types p.type ≡ None → shut.call_plain at p vs env ≡ Refused 18 at
  unfolding shut.call_plain function_at
  no_pointer p e = by (sort_of env.types p.type) e
    where
      by : (s : Sort) → function_of s ≡ None → call.call_sort at p s vs env ≡ Refused 18 at
      by (function_pointer u) e = cc
      by other e = refl

pub callee_known : (types : Table) (o : FoundOperand) (v : Value) → IsOperand types o → o ≡ form.Value v → Known types v
callee_known types o v known is = subst (IsOperand types) is known

pub ruleset operand_laws = (callee_value, callee_functions, callee_known)

pub ruleset value_laws = (value_is, all_known, grown_laws)

pub ruleset plain_laws = (through_pointer, no_pointer)
