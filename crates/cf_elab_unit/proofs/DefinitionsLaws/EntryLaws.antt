-- The function of a number.
use Rattle.std.proofs.Common.{◌≡◌, [], sym, ap, ◌∙◌}
use Rattle.cf_types.specs.Table.{Table}
use Rattle.cf_elab.specs.Env.{FunctionEntry}
use Rattle.cf_elab_env.specs.Holds.{IsEntry}

-- an entry without default arguments is its own copy
pub copied : (types : Table) (f g : FunctionEntry) → IsEntry types f → g ≡ record f { defaults = [] } → g ≡ f
copied types f g k is = is ∙ ap (λ ds. record f { defaults = ds }) (sym k.no_defaults)

pub ruleset entry_laws = (copied)
