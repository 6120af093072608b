-- Objects of a block.
use Rattle.std.proofs.Common.{◌≡◌, ℕ, Option, None, Some, not, is_some, ap}
use Rattle.cf_elab.specs.Answer.{Answer, Refused, onward, need}
use Rattle.cf_elab.specs.Env.{Env, Name, object, Object}
use Rattle.cf_elab.specs.Names.{declared_here}
use Rattle.cf_elab_env.specs.Shut as made
use Rattle.cf_elab_objects.specs.Objects.Shut as shut

module _ (name : Name) (at : ℕ) (x : Object) (env : Env) where
  abbrev by_found : Option ℕ → Answer (Unit {0})
  by_found o = onward (need (not (is_some o)) 8 at env) (λ _. made.declare name (object x))

  pub taken : (n : ℕ) → declared_here env name ≡ Some n → shut.declare_in_block name at x env ≡ Refused 8 at
  unfolding shut.declare_in_block made.declare
  taken n h = ap by_found h

  pub free : declared_here env name ≡ None → shut.declare_in_block name at x env ≡ made.declare name (object x) env
  unfolding shut.declare_in_block made.declare
  free h = ap by_found h

pub ruleset block_laws = (taken, free)
