-- What each row is, step by step, by the names of its steps.
use Rattle.std.proofs.Common.{◌≡◌, ℕ, Bool, true, false, ◌&&◌, ◌||◌, if◌then◌else◌, List, Option, None, Some, refl, sym, ap, ◌∙◌}
use Rattle.cf_base.specs.declared.kind.Kind.{Kind}
use Rattle.cf_base.specs.declared.kind.Kind.TheVariants as kind
use Rattle.cf_base.specs.Promotion.{promoted}
use Rattle.cf_convert.specs.declared.conv.ConvStep.{ConvStep}
use Rattle.cf_elab.specs.Answer.{Answer, Made, Refused, onward, breaks, gives, need}
use Rattle.cf_elab.specs.Cast.{takes_null}
use Rattle.cf_elab.specs.Choice as choice
use Rattle.cf_elab.specs.Env.{Env}
use Rattle.cf_elab.specs.Members.{class_number}
use Rattle.cf_elab.specs.Operand.{Value, Sort, sort_of, arithmetic, is_void, integral, enumeral, object_pointer, void_pointer, function_pointer, data_pointer, method_pointer, class_sort, array_sort, function_sort, void_sort, reference_sort}
use Rattle.cf_elab_arith.specs.Arith.Sorts.{kind_at}
use Rattle.cf_elab_env.specs.Shut as made
use Rattle.cf_elab_env.proofs.Growth.{grown_laws}
use Rattle.cf_elab_arith.specs.Arith.FitShut as fit
use Rattle.cf_elab_arith.specs.Choice.Asked.{common, common_kind, are_void, void_at, is_one_pointer, pointer_at, is_one_place, steps_between}
use Rattle.cf_elab_arith.specs.Choice.Shut as shut
use Rattle.cf_elab_arith.proofs.ChoiceLaws.AskedLaws.{between_steps}
use Rattle.cf_elab_arith.proofs.ChoiceLaws.Chosen.{known_as, integer_as, second_place, void_as}

-- ---- two values as values of one type

pub both_is : (at : ℕ) (c x y : Value) (k : Kind) (env : Env)
    → shut.both_arithmetic at c x y k env
    ≡ onward (fit.to_kind k x env) (λ a env. onward (fit.to_kind k y env) (λ b env. onward (made.of_kind k env) (λ t env. Made (choice.one_of at c a b t) env)))
unfolding shut.both_arithmetic fit.to_kind made.of_kind
both_is at c x y k env = refl

pub second_is : (at : ℕ) (c x y : Value) (ss : List ConvStep) (env : Env)
    → shut.as_second at c x y ss env ≡ onward (fit.converted at y.type ss x env) (λ a env. Made (choice.one_of at c a y y.type) env)
unfolding shut.as_second fit.converted
second_is at c x y ss env = refl

pub first_is : (at : ℕ) (c x y : Value) (ss : List ConvStep) (env : Env)
    → shut.as_first at c x y ss env ≡ onward (fit.converted at x.type ss y env) (λ b env. Made (choice.one_of at c x b x.type) env)
unfolding shut.as_first fit.converted
first_is at c x y ss env = refl

module _ (at : ℕ) (c x y : Value) (env : Env) where
  pub by_second : (ss : List ConvStep) (r : Answer Value) → Some ss ≡ steps_between env x y.type → shut.as_second at c x y ss env ≡ r → shut.one_type at c x y env ≡ r
  unfolding shut.one_type shut.as_second
  by_second ss r found h = ap (λ o. choice.one_type at c x y o (steps_between env y x.type) env) (sym found) ∙ h

  pub by_not_second : (r : Answer Value) → None ≡ steps_between env x y.type → shut.not_second at c x y env ≡ r → shut.one_type at c x y env ≡ r
  unfolding shut.one_type shut.not_second shut.as_first
  by_not_second r found h = ap (λ o. choice.one_type at c x y o (steps_between env y x.type) env) (sym found) ∙ by (steps_between env y x.type) ∙ h
    where
      by : (o : Option (List ConvStep)) → choice.one_type at c x y None o env ≡ shut.by_first at c x y o env
      by None = refl
      by (Some ss) = refl

  pub by_first_value : (ss : List ConvStep) (r : Answer Value) → Some ss ≡ steps_between env y x.type → shut.as_first at c x y ss env ≡ r → shut.not_second at c x y env ≡ r
  unfolding shut.not_second
  by_first_value ss r found h = ap (λ o. shut.by_first at c x y o env) (sym found) ∙ h

  pub by_neither : None ≡ steps_between env y x.type → shut.not_second at c x y env ≡ Refused 18 at
  unfolding shut.not_second
  by_neither found = ap (λ o. shut.by_first at c x y o env) (sym found)

  pub pointers_taken : (r : Answer Value) → is_one_pointer env.types x.type y.type ≡ true → shut.one_type at c x y env ≡ r → shut.pointers at c x y env ≡ r
  unfolding shut.pointers
  pointers_taken r is h = ap (λ b. (if b then shut.one_type at c x y else breaks 18 at) env) is ∙ h

  pub pointers_broken : is_one_pointer env.types x.type y.type ≡ false → shut.pointers at c x y env ≡ Refused 18 at
  unfolding shut.pointers
  pointers_broken is = ap (λ b. (if b then shut.one_type at c x y else breaks 18 at) env) is

  -- ---- by the types of two plain values

  pub both_void : (v : Value) → are_void env.types x.type y.type ≡ true → v ≡ choice.one_of at c x y x.type → shut.not_arithmetic at c x y env ≡ Made v env
  unfolding shut.not_arithmetic
  both_void v is e = ap (λ b. (if b then gives (choice.one_of at c x y x.type) else shut.pointers at c x y) env) is ∙ ap (λ v. Made v env) (sym e)

  pub not_void : (r : Answer Value) → are_void env.types x.type y.type ≡ false → shut.pointers at c x y env ≡ r → shut.not_arithmetic at c x y env ≡ r
  unfolding shut.not_arithmetic
  not_void r is h = ap (λ b. (if b then gives (choice.one_of at c x y x.type) else shut.pointers at c x y) env) is ∙ h

  -- the last case of the definition
  abbrev others : Bool → Bool → Answer Value
  others a b =
      onward (need (elim a [ true ↦ true | false ↦ b ]) 18 at env) (λ u. choice.one_type at c x y (steps_between env x y.type) (steps_between env y x.type))

  abbrev by_types : Sort → Sort → Option Kind → Answer Value
  by_types s r (Some k) = shut.both_arithmetic at c x y k env
  by_types s r None = if is_void s && is_void r then Made (choice.one_of at c x y x.type) env else others (takes_null s) (takes_null r)

  first_arithmetic : (s r : Sort) (k : Kind) (l : Option Kind) → is_void s ≡ false → choice.alternatives at c x y s r (Some k) l env ≡ by_types s r (common (Some k) l)
  unfolding steps_between shut.both_arithmetic
  first_arithmetic s r k (Some l) h = refl
  first_arithmetic s r k None h = sym (ap (λ b. if b && is_void r then Made (choice.one_of at c x y x.type) env else others (takes_null s) (takes_null r)) h)

  void_and : (r : Sort) → choice.alternatives at c x y void_sort r None (arithmetic r) env ≡ by_types void_sort r None
  unfolding steps_between
  void_and void_sort = refl
  void_and (integral k) = refl
  void_and (enumeral e) = refl
  void_and (object_pointer t) = refl
  void_and void_pointer = refl
  void_and (function_pointer t) = refl
  void_and (data_pointer d t) = refl
  void_and (method_pointer d f) = refl
  void_and (class_sort d) = refl
  void_and (array_sort t n) = refl
  void_and (function_sort f) = refl
  void_and (reference_sort t) = refl

  by_sorts : (s r : Sort) → choice.alternatives at c x y s r (arithmetic s) (arithmetic r) env ≡ by_types s r (common (arithmetic s) (arithmetic r))
  unfolding steps_between
  by_sorts void_sort r = void_and r
  by_sorts (integral k) r = first_arithmetic (integral k) r (promoted k) (arithmetic r) refl
  by_sorts (enumeral e) r = first_arithmetic (enumeral e) r kind.Int (arithmetic r) refl
  by_sorts (object_pointer t) r = refl
  by_sorts void_pointer r = refl
  by_sorts (function_pointer t) r = refl
  by_sorts (data_pointer d t) r = refl
  by_sorts (method_pointer d f) r = refl
  by_sorts (class_sort d) r = refl
  by_sorts (array_sort t n) r = refl
  by_sorts (function_sort f) r = refl
  by_sorts (reference_sort t) r = refl

  by_pointers : (a b : Bool) → others a b ≡ (if a || b then shut.one_type at c x y else breaks 18 at) env
  unfolding shut.one_type
  by_pointers true b = refl
  by_pointers false true = refl
  by_pointers false false = refl

  opened : shut.alternatives at c x y env ≡ by_types (sort_of env.types x.type) (sort_of env.types y.type) (common_kind env.types x.type y.type)
  unfolding shut.alternatives common_kind kind_at
  opened = by_sorts (sort_of env.types x.type) (sort_of env.types y.type)

  pub of_kind : (k : Kind) (r : Answer Value) → Some k ≡ common_kind env.types x.type y.type → shut.both_arithmetic at c x y k env ≡ r → shut.alternatives at c x y env ≡ r
  of_kind k r is h = opened ∙ ap (by_types (sort_of env.types x.type) (sort_of env.types y.type)) (sym is) ∙ h

  not_arithmetic_is : by_types (sort_of env.types x.type) (sort_of env.types y.type) None ≡ shut.not_arithmetic at c x y env
  unfolding shut.not_arithmetic shut.pointers are_void is_one_pointer void_at pointer_at
  not_arithmetic_is = by (is_void (sort_of env.types x.type) && is_void (sort_of env.types y.type))
    where
      by : (b : Bool) → (if b then Made (choice.one_of at c x y x.type) env else others (takes_null (sort_of env.types x.type)) (takes_null (sort_of env.types y.type)))
          ≡ (if b then gives (choice.one_of at c x y x.type) else shut.pointers at c x y) env
      by true = refl
      by false = by_pointers (takes_null (sort_of env.types x.type)) (takes_null (sort_of env.types y.type))

  pub of_no_kind : (r : Answer Value) → None ≡ common_kind env.types x.type y.type → shut.not_arithmetic at c x y env ≡ r → shut.alternatives at c x y env ≡ r
  of_no_kind r is h = opened ∙ ap (by_types (sort_of env.types x.type) (sort_of env.types y.type)) (sym is) ∙ not_arithmetic_is ∙ h

  -- ---- behind the condition

  pub place_chosen : (v : Value) → is_one_place x y ≡ true → v ≡ choice.one_place at c x y → shut.chosen_one at c x y env ≡ Made v env
  unfolding shut.chosen_one
  place_chosen v is e = ap (λ b. behind b (class_number (sort_of env.types x.type))) is ∙ ap (λ v. Made v env) (sym e)
    where
      behind : Bool → Option ℕ → Answer Value
      behind b o = (if b then gives (choice.one_place at c x y) else shut.by_class at c x y (choice.same_class o (class_number (sort_of env.types y.type)))) env

  pub value_chosen : (r : Answer Value) → is_one_place x y ≡ false → class_number (sort_of env.types x.type) ≡ None → shut.by_values at c x y env ≡ r → shut.chosen_one at c x y env ≡ r
  unfolding shut.chosen_one
  value_chosen r is no_class h = ap (λ b. behind b (class_number (sort_of env.types x.type))) is ∙ ap (behind false) no_class ∙ h
    where
      behind : Bool → Option ℕ → Answer Value
      behind b o = (if b then gives (choice.one_place at c x y) else shut.by_class at c x y (choice.same_class o (class_number (sort_of env.types y.type)))) env

pub by_values_is : (at : ℕ) (c x y : Value) (env : Env)
    → shut.by_values at c x y env ≡ onward (fit.plain x env) (λ a env. onward (fit.plain y env) (λ b env. shut.alternatives at c a b env))
unfolding shut.by_values fit.plain
by_values_is at c x y env = refl

pub conditional_is : (at : ℕ) (q x y : Value) (env : Env) → shut.conditional at q x y env ≡ onward (fit.user_truth 13 at q env) (λ c env. shut.chosen_one at c x y env)
unfolding shut.conditional fit.user_truth shut.chosen_one shut.by_values shut.alternatives is_one_place
conditional_is at q x y env = refl

-- ---- what each function is told

pub ruleset both_laws = (both_is, integer_as, grown_laws)

pub ruleset second_laws = (second_is, between_steps, known_as, grown_laws)

pub ruleset first_laws = (first_is, between_steps, known_as, grown_laws)

pub ruleset one_type_laws = (by_second, by_not_second)

pub ruleset not_second_laws = (by_first_value, by_neither)

pub ruleset pointers_laws = (pointers_taken, pointers_broken)

pub ruleset not_arithmetic_laws = (both_void, not_void, void_as, known_as, grown_laws)

pub ruleset alternatives_laws = (of_kind, of_no_kind)

pub ruleset chosen_one_laws = (place_chosen, value_chosen, second_place, grown_laws)

pub ruleset by_values_laws = (by_values_is, grown_laws)

pub ruleset conditional_laws = (conditional_is, grown_laws)
