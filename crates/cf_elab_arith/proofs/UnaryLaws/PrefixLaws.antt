-- Operators before a plain operand by its type, and the operator that it is.
use Rattle.std.proofs.Common.{◌≡◌, ℕ, Bool, true, false, Option, None, Some, refl, ap, ◌∙◌}
use Rattle.cf_base.specs.declared.kind.Kind.{Kind}
use Rattle.cf_syntax.specs.declared.operator.PrefixOp.{PrefixOp}
use Rattle.cf_syntax.specs.declared.operator.PrefixOp.TheVariants as prefix
use Rattle.cf_elab.specs.Answer.{Answer, Made, Refused, onward}
use Rattle.cf_elab.specs.Arithmetic as integer
use Rattle.cf_elab.specs.Env.{Env}
use Rattle.cf_elab.specs.Operand.{Value, Sort, object_pointer, void_pointer, function_pointer, sort_of, arithmetic}
use Rattle.cf_elab.specs.Unary as unary
use Rattle.cf_elab_env.proofs.Growth.{grown_laws, known_at}
use Rattle.cf_elab_arith.specs.Arith.FitShut as fit
use Rattle.cf_elab_arith.specs.Arith.Shut as arith
use Rattle.cf_elab_arith.specs.Arith.Sorts.{kind_at, pointer_at, is_pointer}
use Rattle.cf_elab_arith.specs.Unary.Shut as shut

module _ (at : ℕ) (x : Value) (env : Env) where
  pub promoted : (k : Kind) → kind_at env.types x.type ≡ Some k → shut.promoted_or_pointer at x env ≡ fit.to_kind k x env
  unfolding shut.promoted_or_pointer fit.to_kind kind_at
  promoted k e = ap (λ o. unary.promoted_or_pointer at x (sort_of env.types x.type) o env) e

  pub pointer : kind_at env.types x.type ≡ None → pointer_at env.types x.type ≡ true → shut.promoted_or_pointer at x env ≡ Made x env
  unfolding shut.promoted_or_pointer kind_at pointer_at
  pointer e p = ap (λ o. unary.promoted_or_pointer at x (sort_of env.types x.type) o env) e ∙ by (sort_of env.types x.type) p
    where
      by : (s : Sort) → is_pointer s ≡ true → unary.promoted_or_pointer at x s None env ≡ Made x env
      by (object_pointer t) p = refl
      by void_pointer p = refl
      by (function_pointer t) p = refl
      by other p = cc

  pub no_pointer : kind_at env.types x.type ≡ None → pointer_at env.types x.type ≡ false → shut.promoted_or_pointer at x env ≡ Refused 18 at
  unfolding shut.promoted_or_pointer kind_at pointer_at
  no_pointer e p = ap (λ o. unary.promoted_or_pointer at x (sort_of env.types x.type) o env) e ∙ by (sort_of env.types x.type) p
    where
      by : (s : Sort) → is_pointer s ≡ false → unary.promoted_or_pointer at x s None env ≡ Refused 18 at
      by (object_pointer t) p = cc
      by void_pointer p = cc
      by (function_pointer t) p = cc
      by other p = refl

  pub negated : (k : Kind) → kind_at env.types x.type ≡ Some k → shut.negated at x env ≡ arith.negated at k x env
  unfolding shut.negated arith.negated kind_at
  negated k e = ap (λ o. unary.of_integer at integer.negated x o env) e

  pub not_negated : kind_at env.types x.type ≡ None → shut.negated at x env ≡ Refused 18 at
  unfolding shut.negated kind_at
  not_negated e = ap (λ o. unary.of_integer at integer.negated x o env) e

  pub complemented : (k : Kind) → kind_at env.types x.type ≡ Some k → shut.complemented at x env ≡ arith.complemented at k x env
  unfolding shut.complemented arith.complemented kind_at
  complemented k e = ap (λ o. unary.of_integer at integer.complemented x o env) e

  pub not_complemented : kind_at env.types x.type ≡ None → shut.complemented at x env ≡ Refused 18 at
  unfolding shut.complemented kind_at
  not_complemented e = ap (λ o. unary.of_integer at integer.complemented x o env) e

module _ (at : ℕ) (o : PrefixOp) (v : Value) (env : Env) where
  pub dereference : o ≡ prefix.Dereference → shut.prefixed at o v env ≡ onward (fit.plain v env) (shut.dereferenced at)
  unfolding shut.prefixed fit.plain shut.dereferenced
  dereference is = ap (λ o. unary.prefixed at o v env) is

  pub address : o ≡ prefix.AddressOf → shut.prefixed at o v env ≡ shut.address_of at v env
  unfolding shut.prefixed shut.address_of
  address is = ap (λ o. unary.prefixed at o v env) is

  pub plus : o ≡ prefix.Plus → shut.prefixed at o v env ≡ onward (fit.plain v env) (λ x. shut.promoted_or_pointer at (record x { at = at }))
  unfolding shut.prefixed fit.plain shut.promoted_or_pointer
  plus is = ap (λ o. unary.prefixed at o v env) is

  pub minus : o ≡ prefix.Minus → shut.prefixed at o v env ≡ onward (fit.plain v env) (shut.negated at)
  unfolding shut.prefixed fit.plain shut.negated
  minus is = ap (λ o. unary.prefixed at o v env) is

  pub complement : o ≡ prefix.Complement → shut.prefixed at o v env ≡ onward (fit.plain v env) (shut.complemented at)
  unfolding shut.prefixed fit.plain shut.complemented
  complement is = ap (λ o. unary.prefixed at o v env) is

  pub negation : o ≡ prefix.Not → shut.prefixed at o v env ≡ arith.negation at v env
  unfolding shut.prefixed arith.negation
  negation is = ap (λ o. unary.prefixed at o v env) is

pub ruleset promoted_laws = (promoted, pointer, no_pointer, grown_laws)

pub ruleset negated_laws = (negated, not_negated, grown_laws)

pub ruleset complemented_laws = (complemented, not_complemented, grown_laws)

pub ruleset prefixed_laws = (dereference, address, plus, minus, complement, negation, known_at, grown_laws)
