-- What is looked at behind the expressions, one by one.
use Rattle.std.proofs.Common.{◌≡◌, ℕ, List, Option, None, is_some, refl}
use Rattle.cf_elab.specs.Answer.{Made, onward}
use Rattle.cf_elab.specs.Enumeration.{Counted, own_names}
use Rattle.cf_elab.specs.Env.{Env, Name}
use Rattle.cf_elab_enumeration.specs.Shut as row
use Rattle.cf_elab_declaration.specs.Enums.Shut as shut

pub checked_is : (at : ℕ) (name : Option (ℕ × Name)) (cs : List Counted) (env : Env)
    → shut.checked at name cs env
    ≡ onward (row.need_place (is_some name) at env) (λ _ env. onward (row.name_checked name env) (λ _ env. onward (row.all_new (own_names name) cs env) (λ _ env.
    onward (row.all_constant cs env) (λ _ env. row.all_ints cs env))))
unfolding shut.checked
checked_is at name cs env = refl

pub ruleset checked_laws = (checked_is)

pub no_name : (env : Env) → row.name_checked None env ≡ Made tt env
unfolding row.name_checked
no_name env = refl

pub ruleset name_laws = (no_name)
