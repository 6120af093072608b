-- The type that specifiers name.
use Rattle.std.proofs.Common.{◌≡◌, ℕ, true, false, Option, None, Some, IfSome, if◌then◌else◌, refl, ap, subst, ◌∙◌}
use Rattle.cf_types.specs.Table.{Table}
use Rattle.cf_elab.specs.Answer.{Made, onward}
use Rattle.cf_elab.specs.Env.{Env}
use Rattle.cf_elab.specs.Made.{void, of_kind}
use Rattle.cf_elab.specs.Specifiers as spec
use Rattle.cf_elab.specs.Specifiers.{Gathered, basic_kind}
use Rattle.cf_elab_env.specs.Holds.{IsType}
use Rattle.cf_elab_env.specs.Shut as made
use Rattle.cf_elab_env.proofs.Growth.{grown_laws}
use Rattle.cf_elab_specifiers.specs.Said.Shut as shut

module _ (g : Gathered) (env : Env) where
  pub named : (t : ℕ) → g.named ≡ Some t → shut.named_or_basic g env ≡ Made t env
  unfolding shut.named_or_basic
  named t is = ap (λ o. shut.of_named g.basics o env) is

  pub nothing_named : g.named ≡ None → g.basics.voids ≡ true → shut.named_or_basic g env ≡ made.void env
  unfolding shut.named_or_basic made.void
  nothing_named none is = ap (λ o. shut.of_named g.basics o env) none ∙ ap (λ b. (if b then void else of_kind (basic_kind g.basics)) env) is

  pub integer_named : g.named ≡ None → g.basics.voids ≡ false → shut.named_or_basic g env ≡ made.of_kind (basic_kind g.basics) env
  unfolding shut.named_or_basic made.of_kind
  integer_named none is = ap (λ o. shut.of_named g.basics o env) none ∙ ap (λ b. (if b then void else of_kind (basic_kind g.basics)) env) is

  pub base_type_is : shut.base_type g env ≡ onward (shut.named_or_basic g env) (λ t e. made.const_if g.is_const t e)
  unfolding shut.base_type shut.named_or_basic made.const_if
  base_type_is = by g.named
    where
      by : (o : Option ℕ) → spec.base_type (record g { named = o }) env ≡ onward (shut.of_named g.basics o env) (λ t e. made.const_if g.is_const t e)
      by None = refl
      by (Some t) = refl

pub named_known : (types : Table) (o : Option ℕ) (t : ℕ) → IfSome o (λ t. IsType types t) → o ≡ Some t → IsType types t
named_known types o t known is = subst (λ o. IfSome o (λ t. IsType types t)) is known

pub ruleset base_laws = (base_type_is, grown_laws)

pub ruleset named_laws = (named, nothing_named, integer_named, named_known, grown_laws)
