-- A place and a plain value, by their types.
use Rattle.std.proofs.Common.{◌≡◌, ℕ, Bool, Option, None, Some, refl, ap, ◌∙◌}
use Rattle.cf_base.specs.declared.arith.Arith.{Arith}
use Rattle.cf_base.specs.declared.kind.Kind.{Kind}
use Rattle.cf_elab.specs.Answer.{Answer, Refused, onward}
use Rattle.cf_elab.specs.Choice as choice
use Rattle.cf_elab.specs.Env.{Env}
use Rattle.cf_elab.specs.Operand.{Value, Sort, sort_of, arithmetic, integral, object_pointer}
use Rattle.cf_elab_arith.specs.Arith.Sorts.{kind_at, integral_at, integral_of, object_at, object_of}
use Rattle.cf_elab_operators.specs.Binary.Shut as both
use Rattle.cf_elab_env.proofs.Growth.{grown_laws}
use Rattle.cf_elab_fit.specs.Shut as fit
use Rattle.cf_elab_operators.specs.Assign.Shut as shut

module _ (at : ℕ) (o : Arith) (v x : Value) (env : Env) where
  -- by the place, with what the value is as an integer
  abbrev by_types : Sort → Option Kind → Answer Value
  by_types s l = choice.combined at o v x s (arithmetic s) l env

  pub with_integer : (l : Kind) → kind_at env.types x.type ≡ Some l → shut.combined at o v x env ≡ shut.by_place at o v x l env
  unfolding shut.combined shut.by_place kind_at
  with_integer l e = ap (by_types (sort_of env.types v.type)) e

  pub with_other : kind_at env.types x.type ≡ None → shut.combined at o v x env ≡ shut.not_combined at o v x env
  unfolding shut.combined shut.not_combined kind_at
  with_other e = ap (by_types (sort_of env.types v.type)) e ∙ by (sort_of env.types v.type)
    where
      by : (s : Sort) → by_types s None ≡ shut.not_combined at o v x env
      by (integral k) = refl
      by (object_pointer t) = refl
      by other = refl

  pub not_combined_is :
      shut.not_combined at o v x env ≡ onward (both.operation at (choice.binary_of o) v x env) (λ z env. onward (fit.user_fit at z v.type env) (λ a env. Refused 18 at))
  unfolding shut.not_combined both.operation fit.user_fit
  not_combined_is = refl

  module _ (l : Kind) where
    abbrev place : Sort
    place = sort_of env.types v.type

    pub to_integer : (k : Kind) → integral_at env.types v.type ≡ Some k → shut.by_place at o v x l env ≡ shut.of_integer at o v k x l env
    unfolding shut.by_place shut.of_integer integral_at
    to_integer k e = by place e
      where
        by : (s : Sort) → integral_of s ≡ Some k → by_types s (Some l) ≡ shut.of_integer at o v k x l env
        by (integral m) e = let same : m ≡ k = cc in ap (λ k. shut.of_integer at o v k x l env) same
        by other e = cc

    pub to_object : (t : ℕ) → object_at env.types v.type ≡ Some t → shut.by_place at o v x l env ≡ shut.of_pointer at o v t x l env
    unfolding shut.by_place shut.of_pointer object_at
    to_object t e = by place e
      where
        by : (s : Sort) → object_of s ≡ Some t → by_types s (Some l) ≡ shut.of_pointer at o v t x l env
        by (object_pointer u) e = let same : u ≡ t = cc in ap (λ t. shut.of_pointer at o v t x l env) same
        by other e = cc

    pub to_other : integral_at env.types v.type ≡ None → object_at env.types v.type ≡ None → shut.by_place at o v x l env ≡ shut.not_combined at o v x env
    unfolding shut.by_place shut.not_combined integral_at object_at
    to_other i p = by place i p
      where
        by : (s : Sort) → integral_of s ≡ None → object_of s ≡ None → by_types s (Some l) ≡ shut.not_combined at o v x env
        by (integral k) i p = cc
        by (object_pointer t) i p = cc
        by other i p = refl

module _ (at : ℕ) (o : Arith) (v : Value) (t : ℕ) (x : Value) (l : Kind) (env : Env) where
  pub moves_it : (back : Bool) → choice.moves o ≡ Some back → shut.of_pointer at o v t x l env ≡ shut.moved at back v t x l env
  unfolding shut.of_pointer shut.moved
  moves_it back e = ap (λ m. choice.moved_pointer at v t l x m env) e

  pub moves_not : choice.moves o ≡ None → shut.of_pointer at o v t x l env ≡ Refused 18 at
  unfolding shut.of_pointer
  moves_not e = ap (λ m. choice.moved_pointer at v t l x m env) e

pub ruleset combined_laws = (with_integer, with_other)

pub ruleset by_place_laws = (to_integer)

pub ruleset no_integer_laws = (to_object, to_other)

pub ruleset not_combined_laws = (not_combined_is, grown_laws)

pub ruleset of_pointer_laws = (moves_it, moves_not)
