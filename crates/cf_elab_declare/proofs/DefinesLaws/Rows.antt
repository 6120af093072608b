-- The rows that define objects are their steps, with the parts of the initialiser between them.
use Rattle.std.proofs.Common.{◌≡◌, ℕ, ◌+◌, List, [], ◌∷◌, ◌++◌, length, Option, is_some, refl, sym, ◌∙◌}
use Rattle.cf_elab.specs.Answer.{Answer, Elab, Made, Refused, Passed, onward}
use Rattle.cf_elab.specs.Env.{Env, Name, local_home, static_home}
use Rattle.cf_elab.specs.Objects as objects
use Rattle.cf_elab.specs.Objects.{Says, Written, Reached, block_object}
use Rattle.cf_elab_declare.specs.Defines.Reached.{StaticNames, names_at, local_reached}
use Rattle.cf_elab_declare.specs.Defines.Shut as shut

twice : {A B C : Type 0} (a : Answer A) (f : A → Elab B) (g : B → Elab C) → onward (onward a f) g ≡ onward a (λ x env. onward (f x env) g)
twice (Made x env) f g = refl
twice (Refused rule at) f g = refl
twice (Passed b most) f g = refl

pub define_in_file_is : (d : Says) (parts : Elab (Option Written)) (env : Env)
    → objects.define_in_file d parts env ≡ onward (objects.declare_linked d env) (λ x env. onward (parts env) (λ w env. shut.file_defined d x.is_internal w env))
unfolding shut.file_defined shut.file_added
define_in_file_is d parts env = refl

module _ (at : ℕ) (name : Name) (t : ℕ) (parts : Elab (Option Written)) (env : Env) where
  abbrev local_behind : ℕ → Env → Answer (List Reached)
  local_behind i env = onward (parts env) (λ w env. onward (shut.local_defined at name t i w env) (λ x env. Made (x ∷ []) env))

  pub define_local_is : objects.define_local at name t parts env ≡ onward (shut.begin_local at name t env) local_behind
  unfolding shut.begin_local shut.local_defined
  define_local_is =
      (λ j. onward (declared next) (λ _ e. onward (parts e)
      (λ w e. sym (twice (objects.started objects.local_keeper name at t w e) (λ s e. Made (local_reached at t i (is_some w) s) e) (λ (x : Reached) e. Made (x ∷ []) e)) j)))
      ∙ sym (twice (declared next) (λ _ e. Made i e) local_behind)
    where
      i : ℕ
      i = length env.hand.locals

      next : Env
      next = record env { hand = record env.hand { locals = env.hand.locals ++ t ∷ [] } }

      declared : Env → Answer (Unit {0})
      declared = objects.declare_in_block name at (block_object t (local_home i) at)

  abbrev static_behind : StaticNames → Env → Answer (List Reached)
  static_behind n env = onward (parts env) (λ w env. shut.static_defined at name t n w env)

  pub define_in_function_is : objects.define_in_function at name t parts env ≡ onward (shut.begin_static_local at name t env) static_behind
  unfolding shut.begin_static_local shut.begin_static shut.static_defined shut.added
  define_in_function_is = sym (twice (declared next) (λ _ e. Made (names_at env name) e) static_behind)
    where
      next : Env
      next = record env { hand = record env.hand { statics = env.hand.statics + 1 } }

      declared : Env → Answer (Unit {0})
      declared = objects.declare_in_block name at (block_object t (static_home (names_at env name).link) at)
