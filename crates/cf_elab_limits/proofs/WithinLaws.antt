-- A type is within the limit where its bytes are.
use Rattle.std.proofs.Common.{◌≡◌, ℕ, ◌^◌, Bool, true, false, [], nat_le, if◌then◌else◌, Option, Some, None, is_some, refl, sym, ap, ◌∙◌}
use Rattle.cf_base.specs.declared.limit.Bound.TheVariants as bound
use Rattle.cf_classes.specs.ClassTable.{latest_first}
use Rattle.cf_classes.specs.Layout.{extent, accepted_size}
use Rattle.cf_elab.specs.Answer.{Made, Passed}
use Rattle.cf_elab.specs.Complete.{bytes_of, most_bytes, within}
use Rattle.cf_elab.specs.Env.{Env}
use Rattle.cf_elab_limits.specs.Shut as shut

accepted_if : (n : ℕ) → is_some (accepted_size n) ≡ nat_le n most_bytes
accepted_if n = by (nat_le n (2 ^ 22))
  where
    by : (b : Bool) → is_some (if b then Some n else None) ≡ b
    by true = refl
    by false = refl

pub within_is : (env : Env) (t : ℕ) (o : Option ℕ) → env.classes.defined ≡ [] → o ≡ accepted_size (extent env.types [] t).size → is_some o ≡ nat_le (bytes_of env t) most_bytes
within_is env t o none is =
    ap is_some is ∙ accepted_if (extent env.types [] t).size
    ∙ ap (λ ds. nat_le (extent env.types ds t).size most_bytes) (sym (ap (λ d. latest_first (record env.classes { defined = d })) none))

pub ruleset within_laws = (within_is)

module _ (env : Env) (t : ℕ) where
  pub type_fits : nat_le (bytes_of env t) most_bytes ≡ true → shut.type_within t env ≡ Made tt env
  unfolding shut.type_within
  type_fits h = ap (λ b. within b bound.Size most_bytes env) h

  pub type_passes : nat_le (bytes_of env t) most_bytes ≡ false → shut.type_within t env ≡ Passed bound.Size most_bytes
  unfolding shut.type_within
  type_passes h = ap (λ b. within b bound.Size most_bytes env) h

pub ruleset type_laws = (type_fits, type_passes)
