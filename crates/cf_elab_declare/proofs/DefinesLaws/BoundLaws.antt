-- Arrays whose initialiser gives the bound.
use Rattle.std.proofs.Common.{◌≡◌, ℕ, sym, ap}
use Rattle.cf_elab.specs.Env.{Env}
use Rattle.cf_elab.specs.Lists as lists
use Rattle.cf_elab_env.specs.Shut as made
use Rattle.cf_elab_env.proofs.Growth.{grown_laws}
use Rattle.cf_elab_initial.specs.Lists.Shut as planning
use Rattle.cf_elab_declare.specs.Defines.Shut as shut

pub given_is : (u n : ℕ) (o : lists.Tree) (env : Env) → n ≡ planning.count_in env.types u o → shut.array_given u o env ≡ made.array_of u n env
unfolding shut.array_given made.array_of planning.count_in
given_is u n o env count = ap (λ n. made.array_of u n env) (sym count)

pub ruleset bound_laws = (given_is, grown_laws)
