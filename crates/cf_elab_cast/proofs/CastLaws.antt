-- Casts by what they go to. No value is a class object.
use Rattle.std.proofs.Common.{◌≡◌, ℕ, Bool, true, false, ◌&&◌, if◌then◌else◌, Option, None, Some, refl, sym, ap, ◌∙◌}
use Rattle.cf_types.specs.Table.{Table}
use Rattle.cf_convert.specs.Constness.{bare}
use Rattle.cf_elab.specs.Answer.{Answer, Made, Refused, onward, need, gives}
use Rattle.cf_elab.specs.Cast as row
use Rattle.cf_elab.specs.ClassOperators as class
use Rattle.cf_elab.specs.Env.{Env}
use Rattle.cf_elab.specs.Members.{class_number}
use Rattle.cf_elab.specs.Fit.{null_of}
use Rattle.cf_elab.specs.Operand.{Value, Sort, sort_of, is_zero, void_sort, reference_sort}
use Rattle.cf_elab_env.specs.Holds.{IsEnv, IsType, Known, Grows}
use Rattle.cf_elab_env.proofs.Bare.{sort_bare}
use Rattle.cf_elab_env.proofs.Growth.{grown_laws, known_at}
use Rattle.cf_elab_fit.specs.Shut as fit
use Rattle.cf_elab_cast.specs.declared.form.Target.{Target}
use Rattle.cf_elab_cast.specs.declared.form.Target.TheVariants as to
use Rattle.cf_elab_cast.specs.Forms.{target_of, target_at, form_at}
use Rattle.cf_elab_cast.specs.Shut as shut
use Rattle.cf_elab_cast.proofs.FormLaws.{no_class_number, plain_cast, form_allowed}

-- ---- places

module _ (at t : ℕ) (v : Value) (env : Env) where
  abbrev if_place : Bool → Answer Value
  if_place b = onward (need b 17 at env) (λ _ env. row.cast_classes at t v (class_number (sort_of env.types v.type)) (class_number (sort_of env.types t)) env)

  pub place_retyped : IsEnv env → v.is_lvalue ≡ true → shut.as_place at t v env ≡ shut.retyped at t v env
  unfolding shut.as_place shut.retyped
  place_retyped e is =
      ap if_place is ∙ ap (λ c. row.cast_classes at t v c (class_number (sort_of env.types t)) env) (no_class_number env.types v.type e.no_class_type)

  pub no_place : v.is_lvalue ≡ false → shut.as_place at t v env ≡ Refused 17 at
  unfolding shut.as_place
  no_place is = ap if_place is

-- ---- values

abbrev behind : ℕ → ℕ → Sort → Value → Env → Answer Value
behind at t s x env = (if is_zero x.number && row.takes_null s then gives (null_of t x) else row.cast_scalar at t x s (sort_of env.types x.type)) env

module _ (at t : ℕ) (v x : Value) (env next : Env) where
  -- the type is of the same sort in what the table grows to
  pub value_is : fit.plain v env ≡ Made x next → Grows env.types next.types → IsType env.types t → IsEnv next
      → shut.cast_value at t v env ≡ shut.cast_plain at t (record x { at = at }) next
  unfolding shut.cast_value fit.plain shut.cast_plain form_at
  value_is found g typed e =
      ap (λ a. onward a (λ x next. behind at t (sort_of env.types t) (record x { at = at }) next)) found
      ∙ ap (λ s. behind at t s (record x { at = at }) next) (sym (g.sorts t typed))
      ∙ plain_cast at t (record x { at = at }) next e.no_class_type (sort_of next.types t) (sort_of next.types x.type)

pub plain_is : (at t : ℕ) (x : Value) (env : Env) → shut.cast_plain at t x env ≡ shut.cast_by at t (form_at env.types t x.type x.number) x env
unfolding shut.cast_plain
plain_is at t x env = refl

-- ---- by what it goes to

module _ (at t : ℕ) (v : Value) (env : Env) where
  by_target : (s : Sort) → Target → Answer Value
  by_target s to.Void = shut.to_nothing at t v env
  by_target s (to.Place u) = shut.as_place at u (record v { at = at }) env
  by_target s to.Value = row.cast_value at t s v env

  target_is : (s : Sort) → row.cast_sort at t v s env ≡ by_target s (target_of s)
  unfolding by_target shut.to_nothing shut.as_place
  target_is void_sort = refl
  target_is (reference_sort u) = refl
  target_is s = refl

  bare_is : (g : Target) → target_at env.types t ≡ g → shut.cast_bare at t v env ≡ by_target (sort_of env.types t) g
  unfolding shut.cast_bare target_at
  bare_is g is = target_is (sort_of env.types t) ∙ ap (by_target (sort_of env.types t)) is

  pub cast_void : target_at env.types t ≡ to.Void → shut.cast_bare at t v env ≡ shut.to_nothing at t v env
  unfolding by_target
  cast_void is = bare_is to.Void is

  pub cast_reference : (u : ℕ) → target_at env.types t ≡ to.Place u → shut.cast_bare at t v env ≡ shut.as_place at u (record v { at = at }) env
  unfolding by_target
  cast_reference u is = bare_is (to.Place u) is

  pub cast_other : target_at env.types t ≡ to.Value → shut.cast_bare at t v env ≡ shut.cast_value at t v env
  unfolding by_target shut.cast_value
  cast_other is = bare_is to.Value is

-- ---- the type without its const

module _ (at t : ℕ) (v : Value) (env : Env) (e : IsEnv env) (typed : IsType env.types t) where
  pub cast_is : shut.cast at t v env ≡ shut.cast_bare at (bare env.types t) v env
  unfolding shut.cast shut.cast_bare
  cast_is = ap (λ s. row.cast_sort at (bare env.types t) v s env) (sym (sort_bare env.types e.table t typed))

  abbrev is_some_class : Option ℕ → Bool
  is_some_class None = false
  is_some_class (Some c) = true

  abbrev by_classes : Option ℕ → Option ℕ → Answer Value
  by_classes c d = class.cast_by_class at t v c (is_some_class d) env

  opened : shut.cast_operator at t v env ≡ by_classes (class_number (sort_of env.types t)) (class_number (sort_of env.types v.type))
  unfolding shut.cast_operator
  opened = by (class_number (sort_of env.types v.type))
    where
      by : (d : Option ℕ) → class.cast_by_class at t v (class_number (sort_of env.types t)) (elim d [ None ↦ false | Some c ↦ true ]) env
          ≡ by_classes (class_number (sort_of env.types t)) d
      by None = refl
      by (Some c) = refl

  by_cast : by_classes None None ≡ shut.cast at t v env
  unfolding shut.cast
  by_cast = refl

  pub operator_is : shut.cast_operator at t v env ≡ shut.cast_bare at (bare env.types t) v env
  operator_is =
      opened
      ∙ ap (λ c. by_classes c (class_number (sort_of env.types v.type))) (no_class_number env.types t e.no_class_type)
      ∙ ap (by_classes None) (no_class_number env.types v.type e.no_class_type)
      ∙ by_cast ∙ cast_is

pub ruleset place_laws = (place_retyped, no_place)

pub ruleset value_laws = (value_is, known_at, grown_laws)

pub ruleset plain_laws = (plain_is, form_allowed)

pub ruleset bare_laws = (cast_void, cast_reference, cast_other, known_at, grown_laws)

pub ruleset cast_laws = (cast_is, operator_is, grown_laws)
