-- The statements that declarations make.
use Rattle.std.specs.Prelude.{ℕ, Bool, false, not, ◌||◌, List, [], ◌∷◌, Option, None, Some}
use Rattle.cf_core.specs.declared.node.Core.TheVariants as node
use Rattle.cf_classes.specs.OwnedName.{local_static_name}
use Rattle.cf_elab.specs.Env.{Env, Name}
use Rattle.cf_elab.specs.Initial.{Start}
use Rattle.cf_elab.specs.Objects as objects
use Rattle.cf_elab_declare.specs.declared.defines.statics.StaticLocal.{StaticLocal}

abbrev pub maybe_reached : Option objects.Reached → List objects.Reached
maybe_reached None = []
maybe_reached (Some x) = x ∷ []

-- a static object of a block by its link name, and the link name of its function
pub record StaticNames : Type 0 where
  pub link : Name
  pub owner : Name

abbrev pub names_seen : StaticLocal → StaticNames
names_seen n = record { link = n.link; owner = n.owner }

-- those of a new one, of this name
abbrev pub names_at : Env → Name → StaticNames
names_at env name = record { link = local_static_name name env.hand.statics env.hand.link; owner = env.hand.link }

abbrev pub local_reached : ℕ → ℕ → ℕ → Bool → Start → objects.Reached
local_reached at t i is_written s = record { node = node.Declare at i t s.node; initialises = is_written || not s.is_constant }

abbrev pub once : ℕ → Name → Start → objects.Reached
once at link s = record { node = node.Once at link s.node; initialises = false }
