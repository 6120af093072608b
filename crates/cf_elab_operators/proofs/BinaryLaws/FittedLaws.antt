-- Two pointers as pointers of one type, step by step.
use Rattle.std.proofs.Common.{◌≡◌, ℕ, List, Option, None, Some, reverse, refl, sym, ap, ◌∙◌}
use Rattle.cf_convert.specs.Constness.{is_const}
use Rattle.cf_convert.specs.Converts.{steps}
use Rattle.cf_convert.specs.declared.conv.ConvStep.{ConvStep}
use Rattle.cf_elab.specs.Answer.{Answer, Elab, Made, Refused, Passed, onward}
use Rattle.cf_elab.specs.Binary as binary
use Rattle.cf_elab.specs.Env.{Env}
use Rattle.cf_elab.specs.Operand.{Value, val, defs}
use Rattle.cf_elab_env.specs.Holds.{IsEnv, IsType, Grows, Known}
use Rattle.cf_elab_env.specs.Shut as made
use Rattle.cf_elab_env.proofs.Growth.{grown_laws}
use Rattle.cf_elab_fit.specs.Shut as fit
use Rattle.cf_elab_operators.specs.Binary.Asked.{steps_to}
use Rattle.cf_elab_operators.specs.Binary.Shut as shut
use Rattle.cf_elab_operators.proofs.BinaryLaws.StepsGrown.{steps-grown}

-- ---- the types

abbrev two_types : ℕ → ℕ → Elab (ℕ × ℕ)
two_types t u = λ env. Made (t, u) env

pub types_is : (p q : ℕ) (env : Env)
    → shut.pointer_types p q env ≡ onward (made.const_if (is_const env.types q) p env) (λ a next. onward (made.const_if (is_const env.types p) q next) (λ b env.
    onward (made.pointer_to a env) (λ t env. onward (made.pointer_to b env) (λ u env. two_types t u env))))
unfolding shut.pointer_types made.const_if made.pointer_to
types_is p q env = refl

pub alike_is : (at : ℕ) (x y : Value) (p q : ℕ) (env : Env)
    → shut.alike_pointers at x y p q env ≡ onward (shut.pointer_types p q env) (λ tu env. shut.first_fit at x y tu.0 tu.1 env)
unfolding shut.alike_pointers shut.pointer_types shut.first_fit steps_to made.const_if made.pointer_to
alike_is at x y p q env = by (made.const_if (is_const env.types q) p env)
  where
    both : ℕ → ℕ → Elab (Value × Value)
    both t u = λ env. binary.first_fit at x y t u (steps env.types (defs env) (val x) u) (steps env.types (defs env) (val y) t) env

    fourth : (t : ℕ) (r : Answer ℕ) → onward r (λ u env. both t u env) ≡ onward (onward r (λ u env. two_types t u env)) (λ tu env. both tu.0 tu.1 env)
    fourth t (Made u env) = refl
    fourth t (Refused rule place) = refl
    fourth t (Passed bound most) = refl

    third : (b : ℕ) (r : Answer ℕ) → onward r (λ t env. onward (made.pointer_to b env) (λ u env. both t u env))
        ≡ onward (onward r (λ t env. onward (made.pointer_to b env) (λ u env. two_types t u env))) (λ tu env. both tu.0 tu.1 env)
    third b (Made t env) = fourth t (made.pointer_to b env)
    third b (Refused rule place) = refl
    third b (Passed bound most) = refl

    second : (a : ℕ) (r : Answer ℕ) → onward r (λ b env. onward (made.pointer_to a env) (λ t env. onward (made.pointer_to b env) (λ u env. both t u env)))
        ≡ onward (onward r (λ b env. onward (made.pointer_to a env) (λ t env. onward (made.pointer_to b env) (λ u env. two_types t u env)))) (λ tu env. both tu.0 tu.1 env)
    second a (Made b env) = third b (made.pointer_to a env)
    second a (Refused rule place) = refl
    second a (Passed bound most) = refl

    by : (r : Answer ℕ) → onward r (λ a next. onward (made.const_if (is_const env.types p) q next) (λ b env. onward (made.pointer_to a env) (λ t env.
        onward (made.pointer_to b env) (λ u env. both t u env))))
        ≡ onward (onward r (λ a next. onward (made.const_if (is_const env.types p) q next) (λ b env. onward (made.pointer_to a env) (λ t env.
        onward (made.pointer_to b env) (λ u env. two_types t u env))))) (λ tu env. both tu.0 tu.1 env)
    by (Made a next) = second a (made.const_if (is_const env.types p) q next)
    by (Refused rule place) = refl
    by (Passed bound most) = refl

-- ---- the values

module _ (at : ℕ) (x y : Value) (t u : ℕ) (env : Env) where
  pub first_has : (ss : List ConvStep) → Some ss ≡ steps_to env x u → shut.first_fit at x y t u env ≡ shut.first_by_steps at x y u ss env
  unfolding shut.first_fit shut.first_by_steps
  first_has ss e = ap (λ o. binary.first_fit at x y t u o (steps_to env y t) env) (sym e)

  pub first_has_not : None ≡ steps_to env x u → shut.first_fit at x y t u env ≡ shut.second_fit at x y t env
  unfolding shut.first_fit shut.second_fit
  first_has_not e = ap (λ o. binary.first_fit at x y t u o (steps_to env y t) env) (sym e) ∙ by (steps_to env y t)
    where
      by : (o : Option (List ConvStep)) → binary.first_fit at x y t u None o env ≡ binary.first_fit at x y t t None o env
      by None = refl
      by (Some ss) = refl

module _ (at : ℕ) (x y : Value) (t : ℕ) (env : Env) where
  pub second_has : (ss : List ConvStep) → Some ss ≡ steps_to env y t → shut.second_fit at x y t env ≡ shut.second_by_steps at x y t ss env
  unfolding shut.second_fit shut.second_by_steps
  second_has ss e = ap (λ o. binary.first_fit at x y t t None o env) (sym e)

  pub second_has_not : None ≡ steps_to env y t → shut.second_fit at x y t env ≡ Refused 18 at
  unfolding shut.second_fit
  second_has_not e = ap (λ o. binary.first_fit at x y t t None o env) (sym e)

  pub first_steps_is : (ss : List ConvStep)
      → shut.first_by_steps at x y t ss env ≡ onward (fit.converted at t ss x env) (λ a env. onward (fit.fit at y t env) (λ b env. Made (a, b) env))
  unfolding shut.first_by_steps fit.converted fit.fit
  first_steps_is ss = refl

  pub second_steps_is : (ss : List ConvStep)
      → shut.second_by_steps at x y t ss env ≡ onward (fit.fit at x t env) (λ a env. onward (fit.converted at t ss y env) (λ b env. Made (a, b) env))
  unfolding shut.second_by_steps fit.converted fit.fit
  second_steps_is ss = refl

pub opened_steps : (env : Env) (x : Value) (t : ℕ) (o : Option (List ConvStep)) → steps_to env x t ≡ o → steps env.types (defs env) (val x) t ≡ o
unfolding steps_to
opened_steps env x t o h = h

-- the steps stay those of the types that have grown
pub steps_after : (a b : Env) (y : Value) (t : ℕ) (o : Option (List ConvStep)) → IsEnv a → IsEnv b → Grows a.types b.types → Known a.types y → IsType a.types t → steps_to a y t ≡ o
    → steps b.types (defs b) (val y) t ≡ o
unfolding steps_to
steps_after a b y t o is_a is_b g known target h =
    let same : defs b ≡ defs a = ap reverse is_b.no_class ∙ sym (ap reverse is_a.no_class) in
    ap (λ d. steps b.types d (val y) t) same ∙ steps-grown a.types b.types g is_a.table (defs a) (val y) known.typed t target ∙ h

pub ruleset types_laws = (types_is, grown_laws)

pub ruleset alike_laws = (alike_is, grown_laws)

pub ruleset first_fit_laws = (first_has, first_has_not)

pub ruleset second_fit_laws = (second_has, second_has_not)

pub ruleset first_by_steps_laws = (first_steps_is, opened_steps, grown_laws)

pub ruleset second_by_steps_laws = (second_steps_is, steps_after, grown_laws)
