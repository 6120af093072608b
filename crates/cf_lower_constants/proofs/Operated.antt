-- What is known behind operators, by what is known of their operands.
use Rattle.std.proofs.Common.{◌≡◌, ℕ, zero, suc, Bool, true, false, List, Option, Some, None, refl, sym, ap, ◌∙◌}
use Rattle.std.specs.Prelude.{ℤ, pos, negsuc, Result, Ok, Err}
use Rattle.std.specs.Result.{result_ok}
use Rattle.cf_base.specs.declared.arith.Arith.{Arith}
use Rattle.cf_base.specs.declared.arith.Arith.TheVariants as arith
use Rattle.cf_base.specs.declared.kind.Kind.{Kind}
use Rattle.cf_base.specs.Integers.{int_op, convert}
use Rattle.cf_core.specs.declared.operators.UnaryOperator.TheVariants as sign
use Rattle.cf_core.specs.declared.operators.UnaryOperator.{UnaryOperator}
use Rattle.cf_core.specs.Types.{Name}
use Rattle.cf_core.specs.Classes.{Class}
use Rattle.cf_core.specs.FromTypes.{Tables}
use Rattle.cf_plain.specs.Plain as plain
use Rattle.cf_plain.specs.Plain.{Register}
use Rattle.cf_lower.specs.Constants.{Known, unknown, a_number, null, at, a_function, computed, known_by, holds_truth, truth_known, inverted}
use Rattle.cf_lower_constants.specs.declared.known.Target.{Target}
use Rattle.cf_lower_constants.specs.declared.known.Fact.{Fact}
use Rattle.cf_lower_constants.specs.declared.known.Fact.TheVariants as fact
use Rattle.cf_lower_constants.specs.declared.known.Known.{Known as CodeKnown}
use Rattle.cf_lower_constants.specs.Knowing.{fact_in, known_in, nameless, fact_number, number_fact, operated_on, changed_to, fact_truth, truth_fact}

-- ---- numbers

of_result : (tables : Tables) (x : Result ℤ ℕ) → known_in tables (nameless (number_fact (result_ok x))) ≡ computed x
of_result tables (Ok z) = refl
of_result tables (Err e) = refl

-- what operators give at two values and at one
abbrev operated_by : Arith → Kind → Known → Known → Known
operated_by op k (a_number x) (a_number y) = computed (int_op op k x y)
operated_by op k x y = unknown

abbrev changed_by : UnaryOperator → Kind → Known → Known
changed_by sign.Negate k (a_number x) = computed (int_op arith.Subtract k (pos 0) x)
changed_by sign.Complement k (a_number x) = computed (int_op arith.Xor k x (convert k (negsuc 0)))
changed_by sign.Negate k x = unknown
changed_by sign.Complement k x = unknown

module _ (tables : Tables) (classes : List Class) (f : Name) (g : Register → Known) (k : Kind) where
  abbrev gives : Option ℤ → Known
  gives v = known_in tables (nameless (number_fact v))

  by_values : (op : Arith) (r q : Register) (x y : Known) → g r ≡ x → g q ≡ y → known_by classes f g (plain.operate op k r q) ≡ operated_by op k x y
  by_values op r q (a_number i) (a_number j) p s = rw (p, s) refl
  by_values op r q (a_number i) unknown p s = rw (p, s) refl
  by_values op r q (a_number i) null p s = rw (p, s) refl
  by_values op r q (a_number i) (at n o t) p s = rw (p, s) refl
  by_values op r q (a_number i) (a_function n) p s = rw (p, s) refl
  by_values op r q unknown y p s = rw p refl
  by_values op r q null y p s = rw p refl
  by_values op r q (at n o t) y p s = rw p refl
  by_values op r q (a_function n) y p s = rw p refl

  by_value : (op : UnaryOperator) (r : Register) (x : Known) → g r ≡ x → known_by classes f g (plain.unary op k r) ≡ changed_by op k x
  by_value sign.Negate r (a_number i) p = rw p refl
  by_value sign.Negate r unknown p = rw p refl
  by_value sign.Negate r null p = rw p refl
  by_value sign.Negate r (at n o t) p = rw p refl
  by_value sign.Negate r (a_function n) p = rw p refl
  by_value sign.Complement r (a_number i) p = rw p refl
  by_value sign.Complement r unknown p = rw p refl
  by_value sign.Complement r null p = rw p refl
  by_value sign.Complement r (at n o t) p = rw p refl
  by_value sign.Complement r (a_function n) p = rw p refl

  at_facts : (op : Arith) (a b : Fact) (t u : Target) (n m : Name)
      → gives (operated_on op k (fact_number a) (fact_number b)) ≡ operated_by op k (fact_in tables a t n) (fact_in tables b u m)
  at_facts op (fact.Number x) (fact.Number y) t u n m = of_result tables (int_op op k x y)
  at_facts op (fact.Number x) fact.Nothing t u n m = refl
  at_facts op (fact.Number x) fact.Null t u n m = refl
  at_facts op (fact.Number x) (fact.Place o) t u n m = refl
  at_facts op (fact.Number x) fact.Function t u n m = refl
  at_facts op fact.Nothing b t u n m = refl
  at_facts op fact.Null b t u n m = refl
  at_facts op (fact.Place o) b t u n m = refl
  at_facts op fact.Function b t u n m = refl

  at_fact : (op : UnaryOperator) (a : Fact) (t : Target) (n : Name) → gives (changed_to op k (fact_number a)) ≡ changed_by op k (fact_in tables a t n)
  at_fact sign.Negate (fact.Number x) t n = of_result tables (int_op arith.Subtract k (pos 0) x)
  at_fact sign.Negate fact.Nothing t n = refl
  at_fact sign.Negate fact.Null t n = refl
  at_fact sign.Negate (fact.Place o) t n = refl
  at_fact sign.Negate fact.Function t n = refl
  at_fact sign.Complement (fact.Number x) t n = of_result tables (int_op arith.Xor k x (convert k (negsuc 0)))
  at_fact sign.Complement fact.Nothing t n = refl
  at_fact sign.Complement fact.Null t n = refl
  at_fact sign.Complement (fact.Place o) t n = refl
  at_fact sign.Complement fact.Function t n = refl

  pub operated_is : (op : Arith) (r q : Register) (a b : CodeKnown) (v : Option ℤ) → known_in tables a ≡ g r → known_in tables b ≡ g q
      → v ≡ operated_on op k (fact_number a.fact) (fact_number b.fact) → gives v ≡ known_by classes f g (plain.operate op k r q)
  operated_is op r q a b v first second is =
      ap gives is ∙ at_facts op a.fact b.fact a.target b.target a.name b.name ∙ sym (by_values op r q (known_in tables a) (known_in tables b) (sym first) (sym second))

  pub changed_is : (op : UnaryOperator) (r : Register) (a : CodeKnown) (v : Option ℤ) → known_in tables a ≡ g r
      → v ≡ changed_to op k (fact_number a.fact) → gives v ≡ known_by classes f g (plain.unary op k r)
  changed_is op r a v first is = ap gives is ∙ at_fact op a.fact a.target a.name ∙ sym (by_value op r (known_in tables a) (sym first))

-- ---- truths

module _ (tables : Tables) where
  truth_told : (f : Fact) (t : Target) (n : Name) → fact_truth f ≡ holds_truth (fact_in tables f t n)
  truth_told fact.Nothing t n = refl
  truth_told (fact.Number (pos zero)) t n = refl
  truth_told (fact.Number (pos (suc m))) t n = refl
  truth_told (fact.Number (negsuc m)) t n = refl
  truth_told fact.Null t n = refl
  truth_told (fact.Place o) t n = refl
  truth_told fact.Function t n = refl

  truth_given : (o : Option Bool) → known_in tables (nameless (truth_fact o)) ≡ truth_known o
  truth_given None = refl
  truth_given (Some true) = refl
  truth_given (Some false) = refl

  pub decided_is : (a : CodeKnown) (x : Known) (o : Option Bool) → known_in tables a ≡ x → o ≡ fact_truth a.fact → o ≡ holds_truth x
  decided_is a x o is told = told ∙ truth_told a.fact a.target a.name ∙ ap holds_truth is

  pub truth_is : (x : Known) (o : Option Bool) → o ≡ holds_truth x → known_in tables (nameless (truth_fact o)) ≡ truth_known (holds_truth x)
  truth_is x o told = truth_given o ∙ ap truth_known told

  pub other_truth_is : (x : Known) (o p : Option Bool) → o ≡ holds_truth x → p ≡ inverted o
      → known_in tables (nameless (truth_fact p)) ≡ truth_known (inverted (holds_truth x))
  other_truth_is x o p told other = truth_given p ∙ ap truth_known (other ∙ ap inverted told)
