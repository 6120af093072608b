-- Automatic objects.
use Rattle.std.proofs.Common.{◌≡◌, ℕ, Option, is_some, refl}
use Rattle.cf_elab.specs.Answer.{Made, onward}
use Rattle.cf_elab.specs.Env.{Env, Name, local_home}
use Rattle.cf_elab.specs.Objects.{Written, block_object, local_keeper}
use Rattle.cf_elab_env.specs.Shut as made
use Rattle.cf_elab_env.proofs.Growth.{grown_laws}
use Rattle.cf_elab_objects.specs.Objects.Shut as declaring
use Rattle.cf_elab_declare.specs.Starts.Shut as start
use Rattle.cf_elab_declare.specs.Defines.Reached.{local_reached}
use Rattle.cf_elab_declare.specs.Defines.Shut as shut
use Rattle.cf_elab_declare.proofs.DefinesLaws.BlockObjects.{block_known}

pub begin_is : (at : ℕ) (name : Name) (t : ℕ) (env : Env)
    → shut.begin_local at name t env ≡ onward (made.new_local t env) (λ i env. onward (declaring.declare_in_block name at (block_object t (local_home i) at) env) (λ _ env. Made i env))
unfolding shut.begin_local made.new_local declaring.declare_in_block
begin_is at name t env = refl

pub ruleset begin_laws = (begin_is, block_known, grown_laws)

pub local_is : (at : ℕ) (name : Name) (t i : ℕ) (w : Option Written) (env : Env)
    → shut.local_defined at name t i w env ≡ onward (start.started local_keeper name at t w env) (λ s env. Made (local_reached at t i (is_some w) s) env)
unfolding shut.local_defined start.started
local_is at name t i w env = refl

pub ruleset local_laws = (local_is, grown_laws)
