-- Enumerators one after the other.
use Rattle.std.proofs.Common.{◌≡◌, ℕ, suc, ◌+◌, ◌<◌, ◌≤◌, List, [], ◌∷◌, ◌++◌, length, get_or, drop, map, Option, None, Some, ℤ, refl, ap, sym, subst, ◌∙◌, append_assoc, drop-cons, drop_of_length-le, add-one}
use Rattle.std.proofs.lemmas.List.{append-nil}
use Rattle.cf_syntax.specs.declared.expression.Expr.{Expr}
use Rattle.cf_unit.specs.declared.enumeration.Enumerator.{Enumerator}
use Rattle.cf_elab.specs.Answer.{Answer, Made, Refused, Passed, onward}
use Rattle.cf_elab.specs.Enumeration as spec
use Rattle.cf_elab.specs.Enumeration.{Counted, item_of, one_more}
use Rattle.cf_elab.specs.Env.{Env, Name}
use Rattle.cf_elab.specs.Operand.{Value}
use Rattle.cf_elab_env.specs.Answered.{Stops}
use Rattle.cf_elab_env.specs.Shut as made
use Rattle.cf_elab_env.specs.declared.stop.Stop.{Stop}
use Rattle.cf_elab_env.specs.declared.stop.Stop.TheVariants.{Broken as RuleBroken, Passed as LimitPassed, Memory}
use Rattle.cf_elab_env.proofs.Growth.{grown_laws}
use Rattle.cf_elab_enumeration.specs.Shut as row
use Rattle.cf_elab_expr.specs.Shut as expression
use Rattle.cf_elab_declaration.specs.Enums.Forms.{AreBuilt, IsBuilt}
use Rattle.cf_elab_declaration.specs.Enums.Shut as shut

-- ---- the value

module _ (t : ℕ) (e : Enumerator) (env : Env) where
  pub no_value : e.value ≡ None → shut.value t e env ≡ Made None env
  unfolding shut.value
  no_value is = ap (λ x. spec.own_value t (item_of (record e { value = x })) env) is

  pub some_value : (x : ℕ × Expr) → e.value ≡ Some x → shut.value t e env ≡ onward (shut.own_value t e.name x.1 env) (λ v env. Made (Some v) env)
  unfolding shut.value shut.own_value
  some_value x is = ap (λ x. spec.own_value t (item_of (record e { value = x })) env) is

  -- by its name and its expression as the code holds them
  module _ (x : ℕ × Expr) (name : Name) (expr : Expr) (is : e.value ≡ Some x) (called : name ≡ e.name) (same : expr ≡ x.1) where
    abbrev as_some : Answer Value → Answer (Option Value)
    as_some a = onward a (λ v env. Made (Some v) env)

    some_is : shut.value t e env ≡ as_some (shut.own_value t name expr env)
    some_is = some_value x is ∙ (λ j. as_some (shut.own_value t (sym called j) (sym same j) env))

    pub some_stops : (stop : Stop) → Stops (shut.own_value t name expr env) stop → Stops (shut.value t e env) stop
    some_stops (RuleBroken b) g = some_is ∙ ap as_some g
    some_stops (LimitPassed l) g = some_is ∙ ap as_some g
    some_stops Memory g = tt

    pub some_made : (v : Value) (next : Env) → shut.own_value t name expr env ≡ Made v next → shut.value t e env ≡ Made (Some v) next
    some_made v next h = some_is ∙ ap as_some h

pub own_is : (t : ℕ) (name : Name) (e : Expr) (env : Env)
    → shut.own_value t name e env
    ≡ onward (made.enter_scope env) (λ _ env. onward (row.declare_own t name env) (λ _ env. onward (expression.valued e env) (λ v env. onward (made.leave_scope env) (λ _ env. Made v env))))
unfolding shut.own_value made.enter_scope row.declare_own expression.valued made.leave_scope
own_is t name e env = refl

pub ruleset value_laws = (no_value, some_value, grown_laws)

pub ruleset own_laws = (own_is, grown_laws)

-- ---- one

module _ (t : ℕ) (next : Option ℤ) (e : Enumerator) (env : Env) where
  pub one_is : shut.counted_one t next e env
      ≡ onward (shut.value t e env) (λ v env. onward (row.declare_counted t (shut.counted_as next e v) env) (λ _ env. Made (shut.counted_as next e v) env))
  unfolding shut.counted_one
  one_is = refl

pub ruleset one_laws = (one_is, grown_laws)

-- ---- all

abbrev pub behind : List Counted → Answer (List Counted) → Answer (List Counted)
behind found a = onward a (λ rest env. Made (found ++ rest) env)

behind-step : (found : List Counted) (c : Counted) (a : Answer (List Counted)) → behind (found ++ c ∷ []) a ≡ behind found (onward a (λ rest env. Made (c ∷ rest) env))
behind-step found c (Made rest env) = ap (λ l. Made l env) (append_assoc found (c ∷ []) rest)
behind-step found c (Refused rule at) = refl
behind-step found c (Passed bound most) = refl

pub none_yet : (a : Answer (List Counted)) → a ≡ behind [] a
none_yet (Made rest env) = refl
none_yet (Refused rule at) = refl
none_yet (Passed bound most) = refl

module _ (t : ℕ) (next : Option ℤ) where
  pub at_end : (found : List Counted) (es : List Enumerator) (i : ℕ) (env : Env) → length es ≤ i → behind found (shut.counted t next (drop i es) env) ≡ Made found env
  unfolding shut.counted
  at_end found es i env le = ap (λ l. behind found (shut.counted t next l env)) (drop_of_length-le es le) ∙ ap (λ l. Made l env) (append-nil found)

  module _ (e : Enumerator) (es : List Enumerator) (env : Env) where
    abbrev rest_of : Answer Counted → Answer (List Counted)
    rest_of a = onward a (λ c env. onward (shut.counted t (one_more c.number) es env) (λ rest env. Made (c ∷ rest) env))

    first_is : shut.counted t next (e ∷ es) env ≡ rest_of (shut.counted_one t next e env)
    unfolding shut.counted shut.counted_one shut.value row.declare_counted
    first_is = by (shut.value t e env)
      where
        declared : Option Value → Env → Answer Counted
        declared v env = onward (row.declare_counted t (shut.counted_as next e v) env) (λ _ env. Made (shut.counted_as next e v) env)

        going : Option Value → Env → Answer (List Counted)
        going v env =
            onward (row.declare_counted t (shut.counted_as next e v) env) (λ _ env.
            onward (spec.counted t (one_more (spec.number_of next v)) (map item_of es) env) (λ rest env. Made (shut.counted_as next e v ∷ rest) env))

        by : (a : Answer (Option Value)) → onward a going ≡ rest_of (onward a declared)
        by (Made v env) = refl
        by (Refused rule at) = refl
        by (Passed bound most) = refl

left_at : (xs : List Enumerator) (i : ℕ) (x : Enumerator) → i < length xs → x ≡ get_or xs i x → drop i xs ≡ x ∷ drop (i + 1) xs
left_at xs i x lt e = drop-cons xs i x lt ∙ ap (λ y. y ∷ drop (suc i) xs) (sym e) ∙ ap (λ k. x ∷ drop k xs) (sym (add-one i))

module _ (start : Answer (List Counted)) (t : ℕ) (next : Option ℤ) (found : List Counted) (es : List Enumerator) (i : ℕ) (e : Enumerator) (env : Env)
    (so_far : start ≡ behind found (shut.counted t next (drop i es) env)) (within : i < length es) (there : e ≡ get_or es i e) where
  abbrev rest : Answer Counted → Answer (List Counted)
  rest a = behind found (rest_of t next e (drop (i + 1) es) env a)

  at_one : start ≡ rest (shut.counted_one t next e env)
  at_one = so_far ∙ ap (λ l. behind found (shut.counted t next l env)) (left_at es i e within there) ∙ ap (behind found) (first_is t next e (drop (i + 1) es) env)

  pub stopped : (stop : Stop) → Stops (shut.counted_one t next e env) stop → Stops start stop
  stopped (RuleBroken b) g = at_one ∙ ap rest g
  stopped (LimitPassed l) g = at_one ∙ ap rest g
  stopped Memory g = tt

  pub going : (c : Counted) (after : Env) → shut.counted_one t next e env ≡ Made c after
      → start ≡ behind (found ++ c ∷ []) (shut.counted t (one_more c.number) (drop (i + 1) es) after)
  going c after h = at_one ∙ ap rest h ∙ sym (behind-step found c (shut.counted t (one_more c.number) (drop (i + 1) es) after))

-- ---- what is built

pub one_built : (es : List Enumerator) (i : ℕ) (e : Enumerator) → AreBuilt es → i < length es → e ≡ get_or es i e → IsBuilt e.value
one_built es i e all lt is = subst (λ (e : Enumerator). IsBuilt e.value) (sym is) (all i e lt)
