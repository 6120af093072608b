-- Objects behind their initialisers.
use Rattle.std.proofs.Common.{◌≡◌, ℕ, Bool, [], ◌∷◌, Option, ap}
use Rattle.cf_elab.specs.Answer.{Made, onward}
use Rattle.cf_elab.specs.Env.{Env}
use Rattle.cf_elab.specs.Objects.{Says, Written}
use Rattle.cf_elab_declare.specs.Declares.Begun.{begun_seen}
use Rattle.cf_elab_declare.specs.Declares.Shut as shut
use Rattle.cf_elab_declare.proofs.DeclaresLaws.BeginLaws.{link_is}
use Rattle.cf_elab_declare.specs.declared.declares.begun.Begun.{Begun}
use Rattle.cf_elab_declare.specs.declared.declares.begun.Begun.TheVariants as held
use Rattle.cf_elab_declare.specs.Defines.Reached.{names_seen}
use Rattle.cf_elab_declare.specs.Defines.Shut as define
use Rattle.cf_elab_declare.specs.declared.defines.statics.StaticLocal.{StaticLocal}
use Rattle.cf_elab_env.proofs.Growth.{grown_laws}
use Rattle.cf_elab_objects.specs.Objects.Shut as objects

module _ (b : Begun) (d : Says) (at : Option ℕ) (w : Option Written) (env : Env) where
  pub only_declared_is : b ≡ held.Declared → shut.finish (begun_seen b) d at w env ≡ onward (objects.no_initialiser at env) (λ _ env. Made [] env)
  unfolding shut.finish
  only_declared_is is = ap (λ b. shut.finish (begun_seen b) d at w env) is

  pub file_is : (internal : Bool) → b ≡ held.InFile internal → shut.finish (begun_seen b) d at w env ≡ onward (define.file_defined d internal w env) (λ _ env. Made [] env)
  unfolding shut.finish
  file_is internal is = ap (λ b. shut.finish (begun_seen b) d at w env) is

  pub static_is : (n : StaticLocal) → b ≡ held.Static n → shut.finish (begun_seen b) d at w env ≡ define.static_defined d.at d.name d.type (names_seen n) w env
  unfolding shut.finish
  static_is n is = ap (λ b. shut.finish (begun_seen b) d at w env) is

  pub local_is : (i : ℕ) → b ≡ held.Local i → shut.finish (begun_seen b) d at w env ≡ onward (define.local_defined d.at d.name d.type i w env) (λ x env. Made (x ∷ []) env)
  unfolding shut.finish
  local_is i is = ap (λ b. shut.finish (begun_seen b) d at w env) is

pub ruleset finish_laws = (link_is, only_declared_is, file_is, static_is, local_is, grown_laws)
