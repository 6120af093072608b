-- No operand is a class object where no type is a class: it stays what it is, and no operator function is looked for.
use Rattle.std.proofs.Common.{◌≡◌, ℕ, Bool, true, false, ◌||◌, if◌then◌else◌, List, [], ◌∷◌, Option, None, Some, refl, ap, ◌∙◌, true≢false}
use Rattle.cf_elab.specs.Answer.{Elab, Made}
use Rattle.cf_elab.specs.ClassOperand as class
use Rattle.cf_elab.specs.Env.{Env}
use Rattle.cf_elab.specs.Members.{class_number}
use Rattle.cf_elab.specs.Operand.{Value, Sort, sort_of, is_class, class_sort}
use Rattle.cf_elab_env.specs.Holds.{IsEnv, IsType}
use Rattle.cf_elab_arith.proofs.ChoiceLaws.ClassFree.{no_class}

no_number : (s : Sort) → is_class s ≡ false → class_number s ≡ None
no_number (class_sort c) h = absurd (true≢false h)
no_number other h = refl

module _ (env : Env) (e : IsEnv env) where
  pub no_class_of : (x : Value) → IsType env.types x.type → class_number (sort_of env.types x.type) ≡ None
  no_class_of x known = no_number (sort_of env.types x.type) (no_class env.types x.type e.table e.no_class_type known)

  pub scalar_is : (rule at : ℕ) (x : Value) → IsType env.types x.type → class.scalar rule at x env ≡ Made x env
  scalar_is rule at x known = ap (λ c. class.scalar_of_class rule at x c env) (no_class_of x known)

  no_object : (x : Value) → IsType env.types x.type → class.is_object env x ≡ false
  no_object x known = ap (λ (c : Option ℕ). elim c [ None ↦ false | Some k ↦ true ]) (no_class_of x known)

  without : (at n : ℕ) (x : Value) (vs : List Value) (with_file : Bool) (otherwise : Elab Value) → class.any_object env (x ∷ vs) ≡ false
      → class.by_operator at n x vs with_file otherwise env ≡ otherwise env
  without at n x vs with_file otherwise h = ap (λ b. (if b then class.among at (class.operator_key n) x vs with_file otherwise else otherwise) env) h

  pub alone : (at n : ℕ) (x : Value) (with_file : Bool) (otherwise : Elab Value) → IsType env.types x.type → class.by_operator at n x [] with_file otherwise env ≡ otherwise env
  alone at n x with_file otherwise a =
      let none : class.any_object env (x ∷ []) ≡ false = ap (λ b. b || false) (no_object x a) in
      without at n x [] with_file otherwise none

  pub together : (at n : ℕ) (x y : Value) (with_file : Bool) (otherwise : Elab Value) → IsType env.types x.type → IsType env.types y.type
      → class.by_operator at n x (y ∷ []) with_file otherwise env ≡ otherwise env
  together at n x y with_file otherwise a b =
      let none : class.any_object env (x ∷ y ∷ []) ≡ false = ap (λ c. c || (class.is_object env y || false)) (no_object x a) ∙ ap (λ c. c || false) (no_object y b) in
      without at n x (y ∷ []) with_file otherwise none
