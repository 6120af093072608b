-- Static objects of a block.
use Rattle.std.proofs.Common.{◌≡◌, ℕ, ◌+◌, Bool, true, false, if◌then◌else◌, List, [], ◌∷◌, Option, Some, refl, sym, ap, ◌∙◌}
use Rattle.cf_core.specs.declared.node.Core.TheVariants as node
use Rattle.cf_elab.specs.Answer.{Answer, Made, onward}
use Rattle.cf_elab.specs.Env.{Env, Name, static_home}
use Rattle.cf_elab.specs.Initial.{Start}
use Rattle.cf_elab.specs.Objects as objects
use Rattle.cf_elab.specs.Objects.{Written, Reached, block_object, static_keeper}
use Rattle.cf_elab_env.specs.Shut as made
use Rattle.cf_elab_env.proofs.Growth.{grown_laws}
use Rattle.cf_elab_objects.specs.Links.Shut as links
use Rattle.cf_elab_objects.specs.Objects.Shut as declaring
use Rattle.cf_elab_declare.specs.Starts.Shut as start
use Rattle.cf_elab_declare.specs.Starts.Written.{start_place}
use Rattle.cf_elab_declare.specs.Defines.Reached.{StaticNames, names_at, once}
use Rattle.cf_elab_declare.specs.Defines.Shut as shut
use Rattle.cf_elab_declare.proofs.DefinesLaws.BlockObjects.{block_known}

pub function_is : (at : ℕ) (name : Name) (t : ℕ) (env : Env)
    → shut.begin_static_local at name t env ≡ onward (shut.begin_static at name t (names_at env name).link env) (λ _ next. Made (names_at env name) next)
unfolding shut.begin_static_local
function_is at name t env = refl

pub ruleset function_laws = (function_is)

pub begin_is : (at : ℕ) (name : Name) (t : ℕ) (link : Name) (env next : Env) → next ≡ record env { hand = record env.hand { statics = env.hand.statics + 1 } }
    → shut.begin_static at name t link env ≡ declaring.declare_in_block name at (block_object t (static_home link) at) next
unfolding shut.begin_static declaring.declare_in_block
begin_is at name t link env next is = ap (λ s. declaring.declare_in_block name at (block_object t (static_home link) at) s) (sym is)

pub ruleset begin_laws = (begin_is, block_known)

module _ (at t : ℕ) (n : StaticNames) (s : Start) (env : Env) where
  abbrev by_constant : Bool → Answer (List Reached)
  by_constant b =
      onward (made.define_static (objects.static_of n.link t (if b then s.node else node.Blank at) (Some n.owner) b true) env)
      (λ _ env. Made (if b then [] else once at n.link s ∷ []) env)

  opened : shut.added at t n s env ≡ by_constant s.is_constant
  unfolding shut.added made.define_static
  opened = refl

  pub added_constant : (next : Env) → s.is_constant ≡ true → made.define_static (objects.static_of n.link t s.node (Some n.owner) true true) env ≡ Made tt next
      → shut.added at t n s env ≡ Made [] next
  added_constant next is h = opened ∙ ap by_constant is ∙ ap (λ a. onward a (λ _ env. Made [] env)) h

  pub added_reached : (next : Env) (x : Reached) → s.is_constant ≡ false → x ≡ once at n.link s
      → made.define_static (objects.static_of n.link t (node.Blank at) (Some n.owner) false true) env ≡ Made tt next → shut.added at t n s env ≡ Made (x ∷ []) next
  added_reached next x is e h = opened ∙ ap by_constant is ∙ ap (λ a. onward a (λ _ env. Made (once at n.link s ∷ []) env)) h ∙ ap (λ x. Made (x ∷ []) next) (sym e)

pub ruleset added_laws = (added_constant, added_reached)

pub defined_is : (at : ℕ) (name : Name) (t : ℕ) (n : StaticNames) (w : Option Written) (env : Env)
    → shut.static_defined at name t n w env
    ≡ onward (start.started (static_keeper n.link (Some n.owner) at) name at t w env) (λ s env. onward (start.check_constant (start_place w at) s env) (λ _ env.
    onward (links.name_within n.link env) (λ _ env. shut.added at t n s env)))
unfolding shut.static_defined start.started start.check_constant links.name_within shut.added
defined_is at name t n w env = refl

pub ruleset defined_laws = (defined_is, grown_laws)
